-- What each call on claims does to a seat.
use Rattle.std.specs.Prelude.{◌≡◌, ℕ, ◌+◌, ◌^◌, ◌<◌, ◌≤◌, ◌⊎◌, [], ◌∷◌, ◌++◌}
use Rattle.atomic_table.specs.declared.shared.Seat.{Seat}
use Rattle.ob_base.specs.Tree.{below}
use Rattle.ob_claims.specs.declared.claims.Claims.{Claims}
use Rattle.ob_claims.specs.declared.claims.Hold.{Hold}
use Rattle.ob_claims.specs.declared.claims.Round.{Round}
use Rattle.ob_claims.specs.ClaimRule.{times}

abbrev pub ClaimSeat : Type 0
ClaimSeat = Seat (Unit {0}) Hold

-- how many parts the claims were made with
abbrev pub parts_made : Claims → ℕ
parts_made claims = claims.table.shared.key

-- the seat is one at these claims, and has a part
pub record IsClaimSeat (claims : Claims) (seat : ClaimSeat) : Type 0 where
  pub table : seat.table_id ≡ claims.table.shared.table_id
  pub empty : seat.me.1 ≡ []
  pub seats : seat.me.0.seats ≡ parts_made claims
  pub some_part : 0 < seat.me.0.parts

-- no other seat has a part
abbrev pub HasEveryPart : Claims → ClaimSeat → Type 0
HasEveryPart claims seat = seat.me.0.parts ≡ parts_made claims

-- the seat saw the counter reach the round
abbrev pub HasCome : ClaimSeat → Round → Type 0
HasCome seat round = round.start ≤ seat.me.0.reached

-- The counter stands there, and the seat, which has all parts, has claimed each number below, once, and no other.
pub record KnowsClaims (before after : ClaimSeat) (counter : ℕ) : Type 0 where
  pub parts : after.me.0.parts ≡ before.me.0.parts
  pub claimed : after.me.0.claimed ≡ before.me.0.claimed
  pub rises : before.me.0.reached ≤ counter
  pub reached : after.me.0.reached ≡ counter
  pub once : (x : ℕ) → times x after.me.0.claimed ≡ times x (below counter)

-- the round has so many numbers, from the counter on, and they and the seats don't pass 2 ^ 62
pub record OpensRound (claims : Claims) (seat : ClaimSeat) (count : ℕ) (round : Round) : Type 0 where
  pub start : round.start ≡ seat.me.0.reached
  pub long : round.count ≡ count
  pub small : seat.me.0.reached + count + parts_made claims ≤ 2 ^ 62

-- The number at this place of the round is now the seat's, behind those that it had claimed. It isn't below what the seat had seen the counter reach, and the counter has now passed it.
pub record ClaimsNumber (before after : ClaimSeat) (round : Round) (place : ℕ) : Type 0 where
  pub within : place < round.count
  pub claimed : after.me.0.claimed ≡ before.me.0.claimed ++ (round.start + place) ∷ []
  pub rises : before.me.0.reached ≤ round.start + place
  pub reached : after.me.0.reached ≡ round.start + place + 1

-- The counter stood at the round's end or above, and the seat has claimed none of the round's numbers: it may have one behind the end.
pub record FindsNone (before after : ClaimSeat) (round : Round) : Type 0 where
  pub past : round.start + round.count ≤ after.me.0.reached
  pub claimed : (after.me.0.claimed ≡ before.me.0.claimed) ⊎ ((x : ℕ) × (round.start + round.count ≤ x) × (after.me.0.claimed ≡ before.me.0.claimed ++ x ∷ []))

-- the seat has claimed each number of the round, once
abbrev pub IsAllClaimed : ClaimSeat → Round → Type 0
IsAllClaimed seat round = (place : ℕ) → place < round.count → times (round.start + place) seat.me.0.claimed ≡ 1
