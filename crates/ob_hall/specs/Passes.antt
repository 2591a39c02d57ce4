-- What a pass has seen and made, and what a turn of it does.
use Rattle.std.specs.Prelude.{◌≡◌, ◌<◌, ℕ, suc, Bool, List, length, flat_map, Option, Some, slice_get}
use Rattle.ob_desk.specs.Desk.{DeskState, Setup, Call, Reply, MayOpen, new_desk}
use Rattle.ob_desk.specs.declared.calls.Txn.{Txn}
use Rattle.ob_session.specs.Clients.{said_by}
use Rattle.ob_turn.specs.declared.turn.Entry.{Entry}
use Rattle.ob_turn.specs.declared.bell.Bell.{Bell}
use Rattle.ob_turn.specs.declared.bell.Heard.{Heard}
use Rattle.atomic_table.specs.declared.shared.Seat.{Seat}
use Rattle.std.specs.declared.snapshot.Snapshot.{Snapshot}
use Rattle.ob_turn.specs.BellHistory.{latest}
use Rattle.ob_turn.specs.BellCalls as bells
use Rattle.ob_turn.specs.History.{entries_of, LeadsByTurns}
use Rattle.ob_turn.specs.TurnCalls as turns
use Rattle.ob_turn.specs.TurnCalls.{Turn, TurnSeat}
use Rattle.ob_hall.specs.declared.hall.Beside.{Beside}
use Rattle.ob_hall.specs.declared.hall.Held.{Held}
use Rattle.ob_hall.specs.Turns.{client_numbers, IsTurn}

-- calls with their replies
abbrev pub Steps : Type 0
Steps = List (Call × Reply)

abbrev pub Hall : Type 0
Hall = Beside (Turn DeskState Steps) Bell (Snapshot DeskState)

abbrev pub Pass : Type 0
Pass = Held (TurnSeat DeskState Steps) (Seat (Unit {0}) Heard)

-- the desk that the hall was made with
abbrev pub opening_of : Hall → DeskState
opening_of hall = hall.opened.value

-- how many callers it has: the driver and the clients
abbrev pub callers_of : Hall → ℕ
callers_of hall = turns.seats_of hall.turn

-- the pass's place: 0 is the driver's, i + 1 that of the i-th client
abbrev pub pass_place : Pass → ℕ
pass_place pass = pass.seat.me.0.by

-- the history as far as the pass has seen it
abbrev pub history_of : Pass → List (Entry Steps)
history_of pass = pass.seat.me.0.seen

-- the entries that the pass made, in order
abbrev pub entries_by : Pass → List (Entry Steps)
entries_by pass = pass.seat.me.0.mine

-- the calls of entries, one behind the other
abbrev pub calls_in : List (Entry Steps) → Steps
calls_in entries = flat_map (λ (e : Entry Steps). flat_map (λ (calls : Steps). calls) e.calls) entries

-- the calls that the pass made, in order
abbrev pub own_calls : Pass → Steps
own_calls pass = calls_in (entries_by pass)

-- those that are its client's
abbrev pub said_of : Pass → Steps
said_of pass = said_by pass.client (own_calls pass)

-- the epochs that were raised, as far as the pass was told; and the last of them
abbrev pub raised_by : Pass → List ℕ
raised_by pass = pass.ear.me.0.seen

abbrev pub told_by : Pass → ℕ
told_by pass = latest 0 (raised_by pass)

-- whether it may raise
abbrev pub may_raise : Pass → Bool
may_raise pass = pass.ear.me.0.raises

-- the client's last transaction
abbrev pub last_of_pass : Pass → Option Txn
last_of_pass pass = pass.last

-- a desk as it is made
pub record IsNew (d : DeskState) : Type 0 where
  pub setup : Setup
  pub epoch : ℕ
  pub left : ℕ
  pub clients : List ℕ
  pub opens : MayOpen setup epoch left clients
  pub is : d ≡ new_desk setup epoch left clients

-- The ear is one at the hall's bell: one part of as many as there are callers.
pub record IsEarOf (hall : Hall) (ear : Seat (Unit {0}) Heard) : Type 0 where
  pub bell : bells.IsBellSeat hall.bell ear
  pub one_part : ear.me.0.parts ≡ 1
  pub as_many : bells.seats_of hall.bell ≡ callers_of hall

-- The pass is one at this hall. Its own entries in the history that it has seen are those that it made, each once.
pub record IsPassOf (hall : Hall) (pass : Pass) : Type 0 where
  pub seat : turns.IsTurnSeat hall.turn pass.seat
  pub ear : IsEarOf hall pass.ear
  pub opening : pass.seat.me.0.opening ≡ Some (opening_of hall)
  pub opens : IsNew (opening_of hall)
  pub own : entries_of (pass_place pass) (history_of pass) ≡ entries_by pass
  -- it is one of as many parts as there are callers
  pub one_part : pass.seat.me.0.parts ≡ 1

-- its place is that of a client, whose number it has
pub record IsClients (hall : Hall) (pass : Pass) : Type 0 where
  pub at : ℕ
  pub place : pass_place pass ≡ suc at
  pub named : slice_get (client_numbers (opening_of hall)) at ≡ Some pass.client

-- it is in no turn
abbrev pub IsOutOfTurn : Pass → Type 0
IsOutOfTurn pass = turns.IsIdle pass.seat

-- the turns lead from the desk that the hall was made with to this one
abbrev pub IsLegal : Hall → List (Entry Steps) → DeskState → Type 0
IsLegal hall entries d = LeadsByTurns IsTurn (opening_of hall) entries d

-- the client, its last transaction and what was told of epochs stay
pub record StaysBeside (before after : Pass) : Type 0 where
  pub ear : after.ear ≡ before.ear
  pub client : after.client ≡ before.client
  pub last : after.last ≡ before.last

-- the pass is in its turn, and the whole history, which it has seen, leads to the desk
pub record EntersTurn (hall : Hall) (before after : Pass) (d : DeskState) : Type 0 where
  pub enters : turns.Enters IsTurn before.seat after.seat d
  pub beside : StaysBeside before after

-- In its turn: with this one there are so many turns, more than the caller was told of.
abbrev pub IsTurnBehind : ℕ → Pass → ℕ → Type 0
IsTurnBehind told pass count = (told < count) × (suc (length (history_of pass)) ≡ count)

-- Behind its turn: that turn's entry is the last of so many, and stands behind all those of which the caller was told.
abbrev pub IsBehind : ℕ → Pass → ℕ → Type 0
IsBehind told pass count = (told < length (history_of pass)) × (length (history_of pass) ≡ count)

-- the calls are noted
pub record NotesTurn (before after : Pass) (calls : Steps) : Type 0 where
  pub notes : turns.NotesCall before.seat after.seat calls
  pub beside : StaysBeside before after

-- the turn is over, and its entry is the last of the history
pub record LeavesTurn (before after : Pass) (calls : Steps) : Type 0 where
  pub ends : turns.EndsTurn before.seat after.seat calls
  pub beside : StaysBeside before after

-- The number is the one last raised, in a history of numbers that goes on from what the pass was told: so it is never below that.
pub record IsNumberTold (before after : Pass) (number : ℕ) : Type 0 where
  pub reads : bells.ReadsBell before.ear after.ear number
  pub seat : after.seat ≡ before.seat
  pub client : after.client ≡ before.client
  pub last : after.last ≡ before.last

-- the history of numbers is one longer
pub record IsRaised (before after : Pass) (epoch : ℕ) : Type 0 where
  pub raises : bells.Raises before.ear after.ear epoch
  pub seat : after.seat ≡ before.seat
  pub client : after.client ≡ before.client
  pub last : after.last ≡ before.last
