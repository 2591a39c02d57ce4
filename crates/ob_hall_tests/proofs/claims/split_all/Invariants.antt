use Rattle.std.proofs.Common.{◌≡◌, ◌+◌, All, length}
use Rattle.std.specs.Prelude.{vec_capacity}
use Rattle.ob_claims.specs.ClaimCalls.{IsClaimSeat}
use Rattle.ob_hall_tests.specs.Claiming.{IsThreads}
use Rattle.ob_hall_tests.proofs.claims.split_all.Given as goal

abbrev pub invariant-loop : goal.invariant-loop
invariant-loop l = record {
  own : IsClaimSeat l.fn.claims l.seat;
  parts : l.seat.me.0.parts + length l.seats.items ≡ 17;
  many : length l.seats.items ≡ l.counter;
  same : l.seat.me.0.reached ≡ l.fn.seat.me.0.reached;
  threads : All (λ s. IsThreads l.fn.claims s) l.seats.items;
  reached : All (λ s. s.me.0.reached ≡ l.fn.seat.me.0.reached) l.seats.items;
  capacity : vec_capacity l.seats ≡ vec_capacity l.initial.seats;
}
