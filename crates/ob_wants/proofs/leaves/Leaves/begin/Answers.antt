use Rattle.std.proofs.Common.{◌≡◌, ◌∙◌, sym, arith}
use Rattle.std.proofs.lemmas.Bool.{eqb-true}
use Rattle.ob_wants.proofs.CountLaws.{none_counted, no_labels}
use Rattle.ob_wants.proofs.leaves.Leaves.begin.Goals as goal

pub invariant_of-self : goal.invariant_of-self
invariant_of-self c = λ p same u lt.
    (let none : c.self.inside.labels.len ≡ 0 = eqb-true c.self.inside.labels.len 0 (sym c.is_empty.ensures ∙ c.if-is_empty.true) in
    none_counted p c.self.inside.labels.items c.in_ok-self-inside.field-0.items u c.buckets.result (c.in_ok-self-inside.ensures.items_if_clones_equal (λ y one. one))
    (no_labels c.self.inside.labels.items (omega (arith, none, c.self.inside.labels.ok.0))) lt)
