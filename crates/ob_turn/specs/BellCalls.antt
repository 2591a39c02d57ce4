-- What each call on a bell does to a seat.
use Rattle.std.specs.Prelude.{◌≡◌, ℕ, ◌≤◌, true, [], ◌∷◌, ◌++◌}
use Rattle.std.specs.List.{All}
use mathlib.Core.List.{IsPrefix}
use Rattle.atomic_table.specs.declared.shared.Seat.{Seat}
use Rattle.ob_turn.specs.declared.bell.Heard.{Heard}
use Rattle.ob_turn.specs.declared.bell.Bell.{Bell}
use Rattle.ob_turn.specs.BellHistory.{latest, first_heard, kept_part, heard_anew, both_heard}

-- how many parts the bell was made with
abbrev pub seats_of : Bell → ℕ
seats_of bell = bell.table.shared.key

module _ {S : Type 0} where
  -- the seat is one at this bell
  pub record IsBellSeat (bell : Bell) (seat : Seat S Heard) : Type 0 where
    pub table : seat.table_id ≡ bell.table.shared.table_id
    pub empty : seat.me.1 ≡ []

  -- the seat of a new bell has all parts, may raise, and was told nothing
  pub record IsFirst (seats : ℕ) (seat : Seat S Heard) : Type 0 where
    pub knows : seat.me.0 ≡ first_heard seats

  -- it is the same seat, at the same bell
  pub record IsSame (before after : Seat S Heard) : Type 0 where
    pub table : after.table_id ≡ before.table_id
    pub id : after.id ≡ before.id
    pub empty : after.me.1 ≡ before.me.1

  -- The answer is the number last raised. What the seat was told begins the history that it now has seen, so the answer is not below it. The seat that raises had seen all of it.
  pub record ReadsBell (before after : Seat S Heard) (number : ℕ) : Type 0 where
    pub same : IsSame before after
    pub knows : after.me.0 ≡ record before.me.0 { seen = after.me.0.seen }
    pub goes_on : IsPrefix before.me.0.seen after.me.0.seen
    pub joined : All (λ told. IsPrefix told after.me.0.seen) before.me.0.joined
    pub last : number ≡ latest 0 after.me.0.seen
    pub never_falls : latest 0 before.me.0.seen ≤ number
    pub whole : before.me.0.raises ≡ true → after.me.0.seen ≡ before.me.0.seen

  -- the history is one number longer
  pub record Raises (before after : Seat S Heard) (epoch : ℕ) : Type 0 where
    pub same : IsSame before after
    pub knows : after.me.0 ≡ record before.me.0 { seen = before.me.0.seen ++ epoch ∷ [] }

  -- one part is the new seat's
  pub record Parts (before after new : Seat S Heard) : Type 0 where
    pub same : IsSame before after
    pub table : new.table_id ≡ before.table_id
    pub kept : after.me.0 ≡ kept_part before.me.0
    pub given : new.me ≡ (heard_anew before.me.0, [])

  -- the seat has the other's parts, and was told what either was
  pub record Joins (before other after : Seat S Heard) : Type 0 where
    pub same : IsSame before after
    pub both : after.me.0 ≡ both_heard before.me.0 other.me.0

  -- The seat has all parts, so it is the one that raises, and was told the whole history, of which the number is the last. What it and each seat that was joined into it had been told begins that.
  pub record HasAllParts (seat : Seat S Heard) (number : ℕ) : Type 0 where
    pub raises : seat.me.0.raises ≡ true
    pub joined : All (λ told. IsPrefix told seat.me.0.seen) seat.me.0.joined
    pub last : number ≡ latest 0 seat.me.0.seen
