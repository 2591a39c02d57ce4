use Rattle.std.proofs.Common.{◌≡◌, ◌≤◌}
use Rattle.ob_turn.specs.BellHistory.{latest}
use Rattle.ob_turn.specs.BellCalls.{IsBellSeat}
use Rattle.ob_hall_tests.proofs.bells.never_falls.Given as goal

abbrev pub invariant-loop : goal.invariant-loop
invariant-loop l = IsBellSeat l.fn.bell l.seat × (l.last ≤ latest 0 l.seat.me.0.seen) × (l.seat.me.0.parts ≡ l.fn.seat.me.0.parts)
