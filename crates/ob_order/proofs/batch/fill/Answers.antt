use Rattle.std.proofs.Common.{◌≡◌, ◌+◌, ◌<◌, length, ◌++◌, ◌∷◌, [], Option, ℕ, List, slice_get, refl, sym, ap, ◌∙◌, arith, length-set}
use Rattle.std.proofs.lemmas.Grind.{common_steps, take-set_at}
use Rattle.ob_order.specs.Order as rules
use Rattle.ob_order.proofs.Batches.{places_more}
use Rattle.ob_order.proofs.Steps.{looked_up}
use Rattle.ob_order.proofs.batch.fill.Goals as goal

pub loop-place-preserved : goal.loop-place-preserved
loop-place-preserved c =
    let l = c.loop-place in
    let queue = c.args.queue.now in
    let key : c.copied.result ≡ slice_get queue l.place = c.copied.ensures ∙ looked_up queue l.place c.get.result c.get.ensures.lookup in
    let within : l.place < length l.out = omega (arith, l.invariant.1, c.loop-place-test.true) in (
      take-set_at l.out l.place (l.place + 1) c.copied.result refl within
          ∙ (ap (λ (xs : List (Option ℕ)). xs ++ c.copied.result ∷ []) l.invariant.0
          ∙ (ap (λ (o : Option ℕ). rules.places_of l.place queue ++ o ∷ []) key
          ∙ sym (places_more queue l.place))),
      length-set l.out l.place c.copied.result ∙ l.invariant.1,
    )

pub returns : goal.returns
returns c = grind (arith, common_steps)
