-- What a client's call at the hall needs, and what it does and answers.
use Rattle.std.specs.Prelude.{◌≡◌, ◌⊎◌, ℕ, false, List, [], ◌∷◌, ◌++◌, Some, None}
use mathlib.Core.List.{IsPrefix}
use Rattle.ob_desk.specs.Desk.{DeskState}
use Rattle.ob_desk.specs.declared.calls.Txn.{Txn}
use Rattle.ob_serial.specs.declared.records.Why.{Why}
use Rattle.ob_serial.specs.declared.records.Outcome.{Outcome}
use Rattle.ob_serial.specs.declared.records.Outcome.TheVariants.{Aborted as AbortedBy}
use Rattle.ob_session.specs.Clients.{Told, told_of, last_of, has_signed_off}
use Rattle.ob_turn.specs.declared.turn.Entry.{Entry}
use Rattle.ob_turn.specs.History.{entries_of}
use Rattle.ob_hall.specs.Passes.{Steps, Hall, Pass, pass_place, history_of, entries_by, calls_in, said_of, last_of_pass, IsPassOf, IsOutOfTurn, IsClients, IsLegal}

-- A client's pass at this hall, in no turn.
pub record IsReady (hall : Hall) (pass : Pass) : Type 0 where
  pub own : IsPassOf hall pass
  pub idle : IsOutOfTurn pass
  pub clients : IsClients hall pass

-- the transaction was told to be over
abbrev pub IsTxnOver : Told → Type 0
IsTxnOver t = (outcome : Outcome ℕ) × (t.ended ≡ Some outcome)

-- The client hasn't signed off, and its last transaction, if it has one, is over.
pub record IsBetween (pass : Pass) : Type 0 where
  pub here : has_signed_off (said_of pass) ≡ false
  pub over : (t : Told) → last_of (told_of (said_of pass)) ≡ Some t → IsTxnOver t

-- The transaction was told to be aborted; or it wasn't told how it ended, hasn't asked to commit, and waits for no key.
abbrev pub IsStillOpen : Told → Type 0
IsStillOpen t = ((why : Why ℕ) × (t.ended ≡ Some (AbortedBy why))) ⊎ ((t.ended ≡ None) × (t.asked ≡ false) × (t.waiting ≡ None))

-- The client's last transaction is this one, in which it may go on.
pub record IsIn (pass : Pass) (x : Txn) : Type 0 where
  pub told : Told
  pub last : last_of (told_of (said_of pass)) ≡ Some told
  pub named : told.txn ≡ x
  pub client : x.client ≡ pass.client
  pub kept : last_of_pass pass ≡ Some x
  pub open_is : IsStillOpen told

-- These calls of the pass, one behind the other, are its new entries in the one history: that begins with what the pass had seen,
-- is legal from the desk that the hall was made with, and ends with the last of these entries; and of the pass's own entries it has
-- those that it had made and these, each once. Entries of others stand between.
pub record MakesCalls (hall : Hall) (before after : Pass) (calls : Steps) : Type 0 where
  pub goes_on : IsPrefix (history_of before) (history_of after)
  pub legal : (d : DeskState) × IsLegal hall (history_of after) d
  pub new : List (Entry Steps)
  pub made : entries_by after ≡ entries_by before ++ new
  pub calls_are : calls_in new ≡ calls
  pub own : entries_of (pass_place after) (history_of after) ≡ entries_by after
  pub last : (front : List (Entry Steps)) × (others : List (Entry Steps)) × (e : Entry Steps) × (new ≡ front ++ e ∷ []) × (history_of after ≡ others ++ e ∷ [])
  pub place : pass_place after ≡ pass_place before
  pub client : after.client ≡ before.client

-- these calls were made, and have these answers
pub record TellsCalls (hall : Hall) (before after : Pass) (Says : Steps → Type 0) : Type 0 where
  pub calls : Steps
  pub says : Says calls
  pub made : MakesCalls hall before after calls

-- ---- where a client stands

-- The client's last transaction is this one, of which it was told so.
pub record IsLastTold (pass : Pass) (x : Txn) (told : Told) : Type 0 where
  pub last : last_of (told_of (said_of pass)) ≡ Some told
  pub named : told.txn ≡ x
  pub client : x.client ≡ pass.client

abbrev pub HasNotSignedOff : Pass → Type 0
HasNotSignedOff pass = has_signed_off (said_of pass) ≡ false

-- where it stood it stands still
abbrev pub StandsAs : Pass → Pass → Type 0
StandsAs before after = (IsBetween before → IsBetween after) × ((x : Txn) → IsIn before x → IsIn after x)
