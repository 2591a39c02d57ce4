-- For tests: the seats of threads that claim.
use Rattle.std.specs.Prelude.{◌≡◌}
use Rattle.ob_claims.specs.declared.claims.Claims.{Claims}
use Rattle.ob_claims.specs.ClaimCalls.{ClaimSeat, IsClaimSeat}

-- the seat has one part of the claims
pub record IsThreads (claims : Claims) (seat : ClaimSeat) : Type 0 where
  pub own : IsClaimSeat claims seat
  pub one : seat.me.0.parts ≡ 1
