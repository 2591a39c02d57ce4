use Rattle.std.proofs.Common.{sym, ◌∙◌, ◌+◌, ap}
use Rattle.ob_check.specs.Rules.{is_loose}
use Rattle.ob_check.proofs.Loose.{many_in, many_out}
use Rattle.ob_check.proofs.stash.count_key.Goals as goal

pub returns-then-is_loose-clause-many : goal.returns-then-is_loose-clause-many
returns-then-is_loose-clause-many c = ap (λ n. n + 1) c.requires.many ∙ sym (many_in (is_loose c.args.p.now c.args.bytes.now) c.args.k (sym c.is_loose.ensures ∙ c.if-is_loose.true))

pub returns-clause-many : goal.returns-clause-many
returns-clause-many c = c.requires.many ∙ sym (many_out (is_loose c.args.p.now c.args.bytes.now) c.args.k (sym c.is_loose.ensures ∙ c.if-is_loose.false))
