-- What each call on a turn does to a seat.
use Rattle.std.specs.Prelude.{◌≡◌, ℕ, suc, ◌<◌, ◌≤◌, List, [], ◌∷◌, length, slice_index_or}
use Rattle.std.specs.List.{All, sum_by}
use mathlib.Core.List.{IsPrefix}
use Rattle.atomic_table.specs.declared.shared.Seat.{Seat}
use Rattle.ob_turn.specs.declared.turn.Board.{Board}
use Rattle.ob_turn.specs.declared.turn.Entry.{Entry}
use Rattle.ob_turn.specs.declared.turn.OneHistory.{OneHistory}
use Rattle.ob_turn.specs.declared.turn.Opened.{Opened}
use Rattle.ob_turn.specs.declared.turn.Slot.{Slot}
use Rattle.ob_turn.specs.declared.turn.View.{View}
use Rattle.ob_turn.specs.declared.turn.Stage.TheVariants.{Idle, Inside}
use Rattle.ob_turn.specs.History.{entries_of, HasPart, Reaches, TellsSeats}
use Rattle.ob_turn.specs.TurnRule.{fresh_view, noting, left, both_views}

abbrev pub Turn : Type 0 → Type 0 → Type 0
Turn T E = Board (Slot T E) (View T E) (Opened T) OneHistory

abbrev pub TurnSeat : Type 0 → Type 0 → Type 0
TurnSeat T E = Seat (Slot T E) (View T E)

module _ {T E : Type 0} where
  -- the seat is one at this turn
  abbrev pub IsTurnSeat : Turn T E → TurnSeat T E → Type 0
  IsTurnSeat turn seat = seat.table_id ≡ turn.table.shared.table_id

  -- how many seats the turn was made with
  abbrev pub seats_of : Turn T E → ℕ
  seats_of turn = turn.table.shared.key.seats

  -- it is the same seat
  pub record IsSame (before after : TurnSeat T E) : Type 0 where
    pub table : after.table_id ≡ before.table_id
    pub id : after.id ≡ before.id

  -- the seat is in no turn
  pub record IsIdle (seat : TurnSeat T E) : Type 0 where
    pub stage : seat.me.0.stage ≡ Idle
    pub some_part : 0 < seat.me.0.parts
    pub empty : seat.me.1 ≡ []

  -- the seat is in its turn, and the value is out
  pub record IsInside (seat : TurnSeat T E) : Type 0 where
    pub stage : (k : ℕ) × (seat.me.0.stage ≡ Inside k)
    pub slot : (y : Slot T E) × (seat.me.1 ≡ (0, y) ∷ [])

  -- the call is noted behind the others
  pub record NotesCall (before after : TurnSeat T E) (call : E) : Type 0 where
    pub same : IsSame before after
    pub inside : IsInside after
    pub knows : after.me.0 ≡ noting before.me.0 call

  -- The turn is over. Its entry, the calls noted and the last one, stands at the end of the history, of which its caller's entries are those that the seat made.
  pub record EndsTurn (before after : TurnSeat T E) (last : E) : Type 0 where
    pub same : IsSame before after
    pub knows : after.me ≡ (left before.me.0 last, [])
    pub own : entries_of after.me.0.by after.me.0.seen ≡ after.me.0.mine

  -- the seat knows what either did, and has the parts of both
  pub record Joins (before other after : TurnSeat T E) : Type 0 where
    pub same : IsSame before after
    pub knows : after.me ≡ (both_views before.me.0 other.me.0, [])

  -- The seat is in its turn. It has seen the whole history, which begins with what it had seen, of which its caller's entries are those that the seat made, and which leads to the value. So it is of each seat that was joined into it.
  pub record Enters (steps : ℕ → T → E → T → Type 0) (before after : TurnSeat T E) (x : T) : Type 0 where
    pub same : IsSame before after
    pub inside : IsInside after
    pub knows : after.me.0 ≡ record before.me.0 { stage = after.me.0.stage; noted = []; seen = after.me.0.seen }
    pub goes_on : IsPrefix before.me.0.seen after.me.0.seen
    pub own : entries_of after.me.0.by after.me.0.seen ≡ after.me.0.mine
    pub joined : All (HasPart after.me.0.seen) before.me.0.joined
    pub value : Reaches steps after.me.0 x

  -- In its turn: with this one there are so many turns, more than the caller was told of. Its entry will stand at that place of the history.
  pub record StandsBehind (told count : ℕ) (now : TurnSeat T E) : Type 0 where
    pub place : suc (length now.me.0.seen) ≡ count
    pub behind : told < count

  -- The seat's turn goes on: since it began, calls were noted and nothing else changed, and they lead to the value.
  pub record TurnGoesOn (steps : ℕ → T → E → T → Type 0) (entered now : TurnSeat T E) (x : T) : Type 0 where
    pub same : IsSame entered now
    pub inside : IsInside now
    pub knows : now.me.0 ≡ record entered.me.0 { noted = now.me.0.noted }
    pub value : Reaches steps now.me.0 x

  -- the seat of a caller that has seen and done nothing, at a turn that began with x
  pub record IsFreshSeat (turn : Turn T E) (x : T) (by : ℕ) (seat : TurnSeat T E) : Type 0 where
    pub own : IsTurnSeat turn seat
    pub knows : seat.me ≡ (fresh_view x by 1 seat.me.0.cuts, [])

  -- fresh seats, named by their places
  pub record AreSeats (turn : Turn T E) (x : T) (count : ℕ) (seats : List (TurnSeat T E)) : Type 0 where
    pub told : seats_of turn ≡ count
    pub long : length seats ≡ count
    pub fresh : (k : ℕ) (d : TurnSeat T E) → k < length seats → IsFreshSeat turn x k (slice_index_or seats k d)

  -- these seats are all that there are: they have all parts
  pub record HaveAll (turn : Turn T E) (seats : List (TurnSeat T E)) : Type 0 where
    pub some_seat : 1 ≤ length seats
    pub parts : sum_by (λ (s : TurnSeat T E). s.me.0.parts) seats ≡ seats_of turn

  -- One whole history leads from the opening value to x. It begins with all that each seat, and each that was joined into one, had seen, and has just the entries that it made, each once. There are no others.
  pub record Whole (steps : ℕ → T → E → T → Type 0) (turn : Turn T E) (seats : List (TurnSeat T E)) (x : T) : Type 0 where
    pub log : List (Entry E)
    pub told : All (λ (s : TurnSeat T E). TellsSeats steps log x s.me.0) seats
    pub no_others : (by : ℕ) → seats_of turn ≤ by → entries_of by log ≡ []
