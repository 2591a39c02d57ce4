-- What a row of steps told, in one word: the store's events, and the notes that the watch was shown.
use Rattle.std.specs.Prelude.{◌≡◌, ◌⊎◌, ◌≤◌, ℕ, List, [], ◌∷◌, ◌++◌, length, map, take, Option, Result, Ok, Err, OnOk, OnErr}
use Rattle.ob_store.specs.declared.event.Event.{Event}
use Rattle.ob_store.specs.declared.event.Event.TheVariants as event
use Rattle.ob_store.specs.declared.watch.Note.{Note}
use Rattle.ob_store.specs.declared.watch.Note.TheVariants.{Label, Read, Write, Sync}
use Rattle.ob_store.specs.Calls.{Notes}
use Rattle.ob_store.specs.Lines.{Trace, Shows}

-- what is shown of a call
abbrev pub note_of : Event → Note
note_of (event.Read cell) = Read cell
note_of (event.Write cell) = Write cell
note_of event.Sync = Sync

abbrev pub notes_of : List Event → List Note
notes_of events = map note_of events

-- the calls that notes are of; a label is of none
abbrev pub events_of : List Note → List Event
events_of [] = []
events_of (Label leaf ∷ notes) = events_of notes
events_of (Read cell ∷ notes) = event.Read cell ∷ events_of notes
events_of (Write cell ∷ notes) = event.Write cell ∷ events_of notes
events_of (Sync ∷ notes) = event.Sync ∷ events_of notes

-- Of the store's calls these were made, and of these the watch was told, no more and no fewer. A step is spelled as its note.
pub record Tells (made shown : List Note) (old new : Option (List Event)) (before after : Trace) : Type 0 where
  pub seen : Notes (events_of made) old new
  pub shows : Shows shown before after

-- A row of steps was cut short: the first ones were made, and each of them shown, but for a sync that failed.
pub record IsCut (steps made shown : List Note) : Type 0 where
  pub count : ℕ
  pub few : count ≤ length steps
  pub made_are : made ≡ take count steps
  pub shown_are : (shown ≡ made) ⊎ (made ≡ shown ++ Sync ∷ [])

-- some of these steps were made, the first ones
pub record TellsFirst (steps : List Note) (old new : Option (List Event)) (before after : Trace) : Type 0 where
  pub made : List Note
  pub shown : List Note
  pub cut : IsCut steps made shown
  pub tells : Tells made shown old new before after

-- What a call does at a store, and shows of it: all of these steps where it went well, and the first ones where it was refused.
pub record Does {T E : Type 0} (steps : List Note) (old new : Option (List Event)) (before after : Trace) (result : Result T E) : Type 0 where
  pub all : OnOk result (Tells steps steps old new before after)
  pub first : OnErr result (TellsFirst steps old new before after)

-- these notes, where it went well
abbrev pub if_well : {T E : Type 0} → Result T E → List Note → List Note
if_well (Ok value) notes = notes
if_well (Err e) notes = []
