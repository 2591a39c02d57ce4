-- An opening's calls show the schedule's opening, and leave its public state.
use Rattle.std.specs.Prelude.{◌≡◌, ℕ, suc, ◌≤◌, Bool, List, ◌++◌, length, map, take, Option, Ok}
use Rattle.ob_base.specs.declared.params.Params.{Params}
use Rattle.ob_tables.specs.Content.{Content, Obeys}
use Rattle.ob_stand.specs.Table.{flat_of}
use Rattle.ob_log.specs.Logs.{BatchRecord, RecordsFit}
use Rattle.ob_recover.specs.Finds.{finding_notes}
use Rattle.ob_recover.specs.Repeats.{RepeatsFirst, RepeatsTold, repeat_cells, repeat_notes}
use Rattle.ob_schedule.specs.Phases.{Phase, Reads, open_phases, phases_of}
use Rattle.ob_schedule.specs.Schedule.{Fills, Public, after_open, open_notes}
use Rattle.ob_start.specs.Beginning.{gates_begun}
use Rattle.ob_start.specs.Orders.{begin_notes, registers_notes}
use Rattle.ob_store.specs.Lines.{Trace}
use Rattle.ob_store.specs.Told.{Tells}
use Rattle.ob_store.specs.declared.event.Event.{Event}
use Rattle.ob_store.specs.declared.watch.Note.{Note}
use Rattle.ob_twin.specs.Opening.{HasOpen}
use Rattle.ob_twin.specs.declared.gates.Gates.{Gates}
use Rattle.ob_recover.specs.Fronts.{AreFirstNotes}
use Rattle.ob_recover.specs.Known.{fills_of, gates_open, public_of_kept}
use Rattle.ob_recover.specs.Telling.{AreTold}

-- ---- what is shown

-- all that is found is read, then the next generation begins
abbrev pub began_notes : Params → ℕ → Gates → ℕ → List Note
began_notes p epoch gates generation = finding_notes p epoch ++ begin_notes gates.generation (suc generation)

-- and the batches of these records are shown again
abbrev pub opening_notes : Params → Content → List BatchRecord → ℕ → Gates → ℕ → List Note
opening_notes p c rs epoch gates generation = began_notes p epoch gates generation ++ repeat_notes p c.versions (flat_of p c) rs

-- what stands before them one by one, and each batch as one phase
abbrev pub opened_phases : Params → Content → List BatchRecord → ℕ → Gates → ℕ → List Phase
opened_phases p c rs epoch gates generation = phases_of (began_notes p epoch gates generation) ++ map (λ cells. Reads cells) (repeat_cells p c.versions (flat_of p c) rs)

-- ---- the law

-- Whatever the run that stopped knew of the gates, and had shown: with the gates that were found of both registers, the opening's
-- notes are the schedule's, and its phases, with as many repeats as batches were shown again, and fills that are the labels and the slots
-- of the flat table's picks under the records' own words; behind all of them its public state is that of the content and the records.
pub record OpeningIsScheduled (p : Params) (c : Content) (rs : List BatchRecord) (epoch generation : ℕ) (found : Gates) (shown : List BatchRecord) (known : Gates) : Type 0 where
  pub notes : (count : ℕ) → count ≤ length rs
      → opening_notes p c (take count rs) epoch found generation ≡ open_notes p (public_of_kept p c shown epoch known) (fills_of p c rs) (gates_open found) (suc generation) count
  pub phases : (count : ℕ) → count ≤ length rs
      → opened_phases p c (take count rs) epoch found generation ≡ open_phases p (public_of_kept p c shown epoch known) (fills_of p c rs) (gates_open found) (suc generation) count
  pub all_phases : opened_phases p c rs epoch found generation ≡ open_phases p (public_of_kept p c shown epoch known) (fills_of p c rs) (gates_open found) (suc generation) (length rs)
  pub whole : opening_notes p c rs epoch found generation ≡ open_notes p (public_of_kept p c shown epoch known) (fills_of p c rs) (gates_open found) (suc generation) (length rs)
  pub behind : after_open p (public_of_kept p c shown epoch known) (fills_of p c rs) (gates_open found) (suc generation) (length rs) ≡ public_of_kept p c rs epoch (gates_begun generation found (Ok (suc generation)))

abbrev pub OpeningsAreScheduled : Type 0
OpeningsAreScheduled = (p : Params) (c : Content) (rs : List BatchRecord) (epoch generation : ℕ) (found : Gates) (shown : List BatchRecord) (known : Gates)
    → Obeys p c → RecordsFit p rs → HasOpen found.generation → OpeningIsScheduled p c rs epoch generation found shown known

-- ---- a part of it

-- What a refused opening has shown is a front of an opening: the reads of the registers, whatever the store holds; those of all that
-- is found; and fewer repeats.
pub record OpeningParts (p : Params) (q : Public) (f : Fills) (found : ℕ → Bool) (generation batches : ℕ) : Type 0 where
  pub registers : AreFirstNotes registers_notes (open_notes p q f found generation batches)
  pub finding : AreFirstNotes (finding_notes p q.epoch) (open_notes p q f found generation batches)
  pub fewer : (count : ℕ) → count ≤ batches → AreFirstNotes (open_notes p q f found generation count) (open_notes p q f found generation batches)

abbrev pub OpeningsBegin : Type 0
OpeningsBegin = (p : Params) (q : Public) (f : Fills) (found : ℕ → Bool) (generation batches : ℕ) → OpeningParts p q f found generation batches

-- ---- as it is told

-- What stands before the repeats was made and shown, and then the batches were, by so many lanes; to read at all there is one at least.
abbrev pub OpeningsAreTold : Type 0
OpeningsAreTold = (most : ℕ) (p : Params) (c : Content) (rs : List BatchRecord) (epoch generation : ℕ) (found : Gates) (shown : List BatchRecord) (known : Gates)
    (old mid new : Option (List Event)) (before between later : Trace) → 1 ≤ most → Obeys p c → RecordsFit p rs → HasOpen found.generation
    → Tells (began_notes p epoch found generation) (began_notes p epoch found generation) old mid before between → RepeatsTold most p c rs mid new between later
    → AreTold most (open_phases p (public_of_kept p c shown epoch known) (fills_of p c rs) (gates_open found) (suc generation) (length rs))
    (open_notes p (public_of_kept p c shown epoch known) (fills_of p c rs) (gates_open found) (suc generation) (length rs)) old new before later

-- or the first ones were
abbrev pub OpeningsAreCut : Type 0
OpeningsAreCut = (most : ℕ) (p : Params) (c : Content) (rs : List BatchRecord) (epoch generation : ℕ) (found : Gates) (shown : List BatchRecord) (known : Gates)
    (old mid new : Option (List Event)) (before between later : Trace) → 1 ≤ most → Obeys p c → RecordsFit p rs → HasOpen found.generation
    → Tells (began_notes p epoch found generation) (began_notes p epoch found generation) old mid before between → RepeatsFirst most p c rs mid new between later
    → (count : ℕ) × (count ≤ length rs) × AreTold most (open_phases p (public_of_kept p c shown epoch known) (fills_of p c rs) (gates_open found) (suc generation) count)
    (open_notes p (public_of_kept p c shown epoch known) (fills_of p c rs) (gates_open found) (suc generation) count) old new before later
