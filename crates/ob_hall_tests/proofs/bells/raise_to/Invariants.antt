use Rattle.std.proofs.Common.{◌≡◌, ◌≤◌, true}
use Rattle.ob_turn.specs.BellHistory.{latest}
use Rattle.ob_turn.specs.BellCalls.{IsBellSeat}
use Rattle.ob_hall_tests.proofs.bells.raise_to.Given as goal

abbrev pub invariant-loop-epoch : goal.invariant-loop-epoch
invariant-loop-epoch l = IsBellSeat l.fn.bell l.seat × (l.seat.me.0.raises ≡ true) × (latest 0 l.seat.me.0.seen ≤ l.epoch) × (l.seat.me.0.parts ≡ l.fn.seat.me.0.parts)
