use Rattle.std.proofs.Common.{◌∙◌, sym}
use Rattle.ob_check.specs.Rules.{may_rank, least_rank}
use Rattle.ob_check.proofs.RuleLaws.{kept_rule, broken_rule}
use Rattle.ob_check.proofs.indexes.check_rank.Goals as goal

pub returns-then-may_rank : goal.returns-then-may_rank
returns-then-may_rank c = λ n xs few marked.
    kept_rule c.args.place c.args.rank (may_rank c.args.p.now xs c.args.rank) (least_rank c.args.p.now xs) (sym (c.may_rank.ensures n xs few marked) ∙ c.if-may_rank.true)

pub returns : goal.returns
returns c = λ n xs few marked.
    broken_rule c.args.place c.args.rank (may_rank c.args.p.now xs c.args.rank) c.least_rank.result (least_rank c.args.p.now xs) (sym (c.may_rank.ensures n xs few marked) ∙ c.if-may_rank.false) (c.least_rank.ensures n xs few marked)
