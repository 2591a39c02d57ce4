use Rattle.std.proofs.Common.{◌≡◌, ◌+◌, ◌-◌, ◌^◌, ℕ, map, take, min}
use Rattle.ob_hall_tests.specs.declared.turns.Added.{Added}
use Rattle.ob_turn.specs.TurnCalls.{TurnGoesOn}
use Rattle.ob_hall_tests.proofs.turns.add_all.Given as goal

abbrev pub invariant-loop-amount : goal.invariant-loop-amount
invariant-loop-amount g l =
    TurnGoesOn (λ (by x : ℕ) (e : Added) (y : ℕ). (y ≡ min (x + e.by) (2 ^ 64 - 1)) × (e.now ≡ y)) l.initial.seat l.seat l.value
    × (map (λ (c : Added). c.by) l.seat.me.0.noted ≡ take l.amount-index l.amounts)
