use Rattle.std.specs.Prelude.{count_by}
use Rattle.std.proofs.Common.{◌∙◌, ap, sym, arith}
use Rattle.ob_base.specs.Tree.{passes}
use Rattle.ob_wants.proofs.CountLaws.{counted_few}
use Rattle.ob_wants.proofs.leaves.Leaves.push.Goals as goal

pub invariant_of-self : goal.invariant_of-self
invariant_of-self c = λ p same u lt. c.self.invariant p same u lt ∙ ap (count_by (passes p u)) (sym c.in_err-push.ensures.items)

pub count_path-requires : goal.count_path-requires
count_path-requires c = λ same u lt.
    counted_few c.args.p.now c.self.inside.levels c.self.inside.labels.items c.self.inside.passed.items u c.self.invariant same lt (omega (arith, c.self.inside.labels.ok.0, c.self.inside.labels.ok.1, c.self.inside.labels.small))

pub invariant_of-self-2 : goal.invariant_of-self-2
invariant_of-self-2 c = λ p same u lt. c.count_path.ensures c.self.inside.labels.items c.self.invariant p same u lt ∙ ap (count_by (passes p u)) (sym c.in_ok-push.ensures.items)
