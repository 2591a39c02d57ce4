use Rattle.std.proofs.Common.{◌≡◌}
use Rattle.ob_claims.specs.ClaimCalls.{IsClaimSeat, HasCome}
use Rattle.ob_hall_tests.proofs.claims.claims_in_order.Given as goal

abbrev pub invariant-loop-place : goal.invariant-loop-place
invariant-loop-place l = IsClaimSeat l.fn.claims l.seat × HasCome l.seat l.round × (l.seat.me.0.parts ≡ l.fn.seat.me.0.parts)
