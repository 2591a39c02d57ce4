use Rattle.std.proofs.Common.{◌≡◌, ◌+◌, ◌-◌, ◌^◌, ℕ, min, sym, subst}
use Rattle.ob_hall_tests.specs.declared.turns.Added.{Added}
use Rattle.ob_turn.specs.TurnCalls.{TurnGoesOn}
use Rattle.ob_turn.proofs.LongTurn.{turn_begins, turn_goes_on, turn_ends}
use Rattle.ob_hall_tests.proofs.turns.add_two.Goals as goal

abbrev steps : ℕ → ℕ → Added → ℕ → Type 0
steps by x e y = (y ≡ min (x + e.by) (2 ^ 64 - 1)) × (e.now ≡ y)

pub leave-requires-clause-value : goal.leave-requires-clause-value
leave-requires-clause-value g c =
    let entered = c.enter-guard.result.seat.now in
    let now = c.note.new.self.seat.now in
    let begun : TurnGoesOn steps entered entered c.enter-guard.result.value = turn_begins steps c.args.seat.now entered c.enter-guard.result.value c.enter-guard.ensures.entered in
    let first : TurnGoesOn steps entered now c.add-now.new.self = turn_goes_on steps entered entered now c.enter-guard.result.value c.add-now.new.self c.of.result.value begun
    (subst (λ (m : Added). steps entered.me.0.by c.enter-guard.result.value m c.add-now.new.self) (sym c.of.ensures) c.add-now.ensures) c.note.ensures.noted in
    turn_ends steps entered now c.note.new.self.value c.add-now-2.new.self c.of-2.result.value (subst (TurnGoesOn steps entered now) (sym c.note.ensures.value) first)
    (subst (λ (m : Added). steps now.me.0.by c.note.new.self.value m c.add-now-2.new.self) (sym c.of-2.ensures) c.add-now-2.ensures)
