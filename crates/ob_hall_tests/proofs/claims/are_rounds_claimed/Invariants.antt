use Rattle.std.proofs.Common.{◌≡◌, ◌≤◌, []}
use Rattle.std.specs.Prelude.{vec_capacity}
use Rattle.ob_claims.specs.ClaimCalls.{IsClaimSeat, HasEveryPart}
use Rattle.ob_hall_tests.proofs.claims.are_rounds_claimed.Given as goal

abbrev pub invariant-loop-round : goal.invariant-loop-round
invariant-loop-round g l = IsClaimSeat l.fn.claims l.seat × HasEveryPart l.fn.claims l.seat × (l.seat.me.0.parts ≡ 17) × (l.seats.items ≡ []) × (16 ≤ vec_capacity l.seats)
