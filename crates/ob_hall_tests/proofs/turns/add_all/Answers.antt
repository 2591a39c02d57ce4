use Rattle.std.proofs.Common.{rules, ◌≡◌, ◌+◌, ◌-◌, ◌^◌, ◌++◌, [], ◌∷◌, ℕ, map, min, slice_index_or, ap, sym, ◌∙◌, subst}
use Rattle.std.proofs.lemmas.List.{take_more, map-append}
use Rattle.ob_hall_tests.specs.declared.turns.Added.{Added}
use Rattle.ob_turn.proofs.LongTurn.{turn_goes_on, turn_ends}
use Rattle.ob_hall_tests.proofs.turns.add_all.Goals as goal

abbrev steps : ℕ → ℕ → Added → ℕ → Type 0
steps by x e y = (y ≡ min (x + e.by) (2 ^ 64 - 1)) × (e.now ≡ y)

abbrev by_of : Added → ℕ
by_of e = e.by

pub loop-amount-preserved : goal.loop-amount-preserved
loop-amount-preserved g c =
    let inv = c.loop-amount.invariant in
    let e : Added = c.of.result.value in
    let noted : c.note.new.seat.me.0.noted ≡ c.loop-amount.seat.me.0.noted ++ e ∷ [] = λ i. (c.note.ensures.noted.knows i).noted in
    let by : e.by ≡ slice_index_or c.args.amounts.now c.loop-amount.amount-index 0 = λ i. (c.of.ensures i).by in (
      turn_goes_on steps c.take-value.new.seat c.loop-amount.seat c.note.new.seat c.loop-amount.value c.add-now.new.self e inv.0
          (subst (λ (m : Added). steps c.loop-amount.seat.me.0.by c.loop-amount.value m c.add-now.new.self) (sym c.of.ensures) c.add-now.ensures) c.note.ensures.noted,
      ap (map by_of) noted ∙ (map-append by_of c.loop-amount.seat.me.0.noted (e ∷ []) ∙ ((λ i. inv.1 i ++ by i ∷ []) ∙ sym (take_more c.args.amounts.now c.loop-amount.amount-index 0 (search rules)))),
    )

pub put-requires-clause-value : goal.put-requires-clause-value
put-requires-clause-value g c =
    turn_ends steps c.take-value.new.seat c.loop-amount.seat c.loop-amount.value c.add-now-2.new.self c.of-2.result.value c.loop-amount.invariant.0
    (subst (λ (m : Added). steps c.loop-amount.seat.me.0.by c.loop-amount.value m c.add-now-2.new.self) (sym c.of-2.ensures) c.add-now-2.ensures)
