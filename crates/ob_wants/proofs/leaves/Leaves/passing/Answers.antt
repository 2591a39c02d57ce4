use Rattle.std.specs.Prelude.{count_by}
use Rattle.std.proofs.Common.{◌≡◌, ◌∙◌, ap, arith}
use Rattle.ob_base.specs.Tree.{passes}
use Rattle.ob_wants.proofs.CountLaws.{counted_at, many_few}
use Rattle.ob_wants.proofs.leaves.Leaves.passing.Goals as goal

pub returns-then-index-len-clause-many : goal.returns-then-index-len-clause-many
returns-then-index-len-clause-many c =
    let same : c.self.inside.levels ≡ c.args.p.now.levels = omega (arith, c.if-self-p.false) in
    counted_at c.args.p.now c.self.inside.levels c.self.inside.labels.items c.args.self.now c.self.inside.passed.items c.args.bucket c.index.result.now c.self.invariant same c.self.view_is (omega (arith, c.if-index-len.true, c.len.ensures, c.self.inside.passed.ok.0)) c.index.ensures

pub returns-then-index-len-clause-few : goal.returns-then-index-len-clause-few
returns-then-index-len-clause-few c =
    many_few c.args.p.now c.self.inside.labels.items c.args.self.now c.args.bucket c.index.result.now (returns-then-index-len-clause-many c) c.self.view_is (omega (arith, c.self.inside.labels.ok.0, c.self.inside.labels.ok.1, c.self.inside.labels.small))

pub returns-then-self-p-clause-many : goal.returns-then-self-p-clause-many
returns-then-self-p-clause-many c = c.passing.ensures ∙ ap (count_by (passes c.args.p.now c.args.bucket)) (c.deref.ensures.value ∙ c.self.view_is)

pub returns-then-self-p-clause-few : goal.returns-then-self-p-clause-few
returns-then-self-p-clause-few c =
    many_few c.args.p.now c.self.inside.labels.items c.args.self.now c.args.bucket c.passing.result (returns-then-self-p-clause-many c) c.self.view_is (omega (arith, c.self.inside.labels.ok.0, c.self.inside.labels.ok.1, c.self.inside.labels.small))

pub returns-else-index-len-clause-many : goal.returns-else-index-len-clause-many
returns-else-index-len-clause-many c = c.passing-else-index-len.ensures ∙ ap (count_by (passes c.args.p.now c.args.bucket)) (c.deref-else-index-len.ensures.value ∙ c.self.view_is)

pub returns-else-index-len-clause-few : goal.returns-else-index-len-clause-few
returns-else-index-len-clause-few c =
    many_few c.args.p.now c.self.inside.labels.items c.args.self.now c.args.bucket c.passing-else-index-len.result (returns-else-index-len-clause-many c) c.self.view_is (omega (arith, c.self.inside.labels.ok.0, c.self.inside.labels.ok.1, c.self.inside.labels.small))
