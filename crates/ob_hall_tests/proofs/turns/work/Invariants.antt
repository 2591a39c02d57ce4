use Rattle.std.proofs.Common.{◌≡◌}
use Rattle.ob_turn.specs.TurnCalls.{IsTurnSeat, IsIdle}
use Rattle.ob_hall_tests.proofs.turns.work.Given as goal

abbrev pub invariant-loop : goal.invariant-loop
invariant-loop g l = IsTurnSeat l.fn.turn l.seat × IsIdle l.seat × (l.seat.me.0.parts ≡ l.fn.seat.me.0.parts)
