use Rattle.std.proofs.Common.{◌≡◌, ◌+◌, ◌-◌}
use Rattle.ob_claims.specs.ClaimCalls.{IsClaimSeat, HasCome}
use Rattle.ob_hall_tests.proofs.claims.claim_all.Given as goal

abbrev pub invariant-loop-place : goal.invariant-loop-place
invariant-loop-place l = IsClaimSeat l.fn.claims l.seat × HasCome l.seat l.fn.round × (l.seat.me.0.parts ≡ l.fn.seat.me.0.parts)

abbrev pub decreases-loop-place : goal.decreases-loop-place
decreases-loop-place l = l.fn.round.start + l.fn.round.count - l.seat.me.0.reached
