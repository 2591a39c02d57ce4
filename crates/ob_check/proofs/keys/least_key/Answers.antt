use Rattle.std.proofs.Common.{arith, sym, ◌∙◌}
use Rattle.ob_check.specs.Rules.{may_lie}
use Rattle.ob_check.proofs.MarkLaws.{least_found, least_none, search_more}
use Rattle.ob_check.proofs.keys.least_key.Goals as goal

pub returns-then-may_lie : goal.returns-then-may_lie
returns-then-may_lie c = λ xs marked. least_found (may_lie c.args.p.now c.args.bytes.now c.args.u xs) c.args.p.now.keys c.loop-k.k 4294967295 c.loop-k-test.true (c.loop-k.invariant xs marked) (sym (c.may_lie.ensures xs marked) ∙ c.if-may_lie.true)

pub loop-k-preserved : goal.loop-k-preserved
loop-k-preserved c = λ xs marked. search_more (may_lie c.args.p.now c.args.bytes.now c.args.u xs) c.loop-k.k (c.loop-k.invariant xs marked) (sym (c.may_lie.ensures xs marked) ∙ c.if-may_lie.false)

pub returns : goal.returns
returns c = λ xs marked. least_none (may_lie c.args.p.now c.args.bytes.now c.args.u xs) c.args.p.now.keys c.loop-k.k 4294967295 (omega arith) (omega arith) (c.loop-k.invariant xs marked)
