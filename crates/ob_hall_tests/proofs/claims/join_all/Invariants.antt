use Rattle.std.proofs.Common.{◌≡◌, ◌+◌, All, length}
use Rattle.std.specs.Prelude.{vec_capacity}
use Rattle.ob_claims.specs.ClaimCalls.{IsClaimSeat}
use Rattle.ob_hall_tests.specs.Claiming.{IsThreads}
use Rattle.ob_hall_tests.proofs.claims.join_all.Given as goal

abbrev pub invariant-loop-other : goal.invariant-loop-other
invariant-loop-other l = record {
  own : IsClaimSeat l.fn.claims l.seat;
  parts : l.seat.me.0.parts + length l.seats.items ≡ 17;
  threads : All (λ s. IsThreads l.fn.claims s) l.seats.items;
  capacity : vec_capacity l.seats ≡ vec_capacity l.initial.seats;
}

abbrev pub decreases-loop-other : goal.decreases-loop-other
decreases-loop-other l = length l.seats.items
