-- Laws of a ring store, in the words of its kind of store.
use Rattle.std.specs.Prelude.{ℕ, ◌≡◌, ◌⊎◌, ◌+◌, ◌%◌, ◌≤◌, false, List, [], ◌∷◌, ◌++◌, Option, None, Ok}
use Rattle.ob_base.specs.Layout.{EpochTwin}
use Rattle.ob_base.specs.declared.fault.Fault.{Fault}
use Rattle.ob_base.specs.declared.params.Params.{Params}
use Rattle.ob_tables.specs.Content.{content_of}
use Rattle.ob_end.specs.Shown.{before_gate, up_to_gate}
use Rattle.ob_vault.specs.Formats.{MakesEmpty}
use Rattle.ob_vault.specs.Kinds.{AllStand, IsOpenedAt, Stands, StandsAsBefore, opened_with}
use Rattle.ob_vault.specs.Openings.{OpensStanding}
use Rattle.ob_vault.specs.Shapes.{Shape, Ends, Fetches}
use Rattle.ob_vault.specs.Steps.{IsCallOfKind}
use Rattle.ob_recover.specs.Finds.{IsFoundInRing}
use Rattle.ob_recover.specs.declared.found.Found.{Found}
use Rattle.ob_recover.specs.Fronts.{AreFirstNotes}
use Rattle.ob_vault.specs.RingVaults.{HasPlanned, RingHolds, RingSound, Running, run_over}
use Rattle.ob_recover.specs.Telling.{ArePhasesMade}
use Rattle.ob_schedule.specs.Phases.{Reads}
use Rattle.ob_schedule.specs.Schedule.{Fills, end_lifts, format_notes, gate_cell, record_notes}
use Rattle.ob_seal.specs.declared.keys.Keys.{Keys}
use Rattle.ob_serial.specs.VaultKinds.{AllCalled, Called, Kind}
use Rattle.ob_serial.specs.Vaults.{Standing, VaultAnswer, VaultCall, VaultState}
use Rattle.ob_stand.specs.Stands as stand
use Rattle.ob_stand.specs.Stands.{RingStanding}
use Rattle.ob_store.specs.Calls.{Keeps, Notes}
use Rattle.ob_store.specs.Disk.{Disk, Image}
use Rattle.ob_store.specs.Images.{IsSynced, LeavesOnly, Passes, Same}
use Rattle.ob_store.specs.Lines.{Trace}
use Rattle.ob_store.specs.Told.{events_of}
use Rattle.ob_store.specs.declared.event.Event.TheVariants as event
use Rattle.ob_store.specs.declared.watch.Note.TheVariants as note
use Rattle.ob_opening.specs.Formats.{HasClosedLogs, formatted_standing}
use Rattle.ob_opening.specs.OpeningActs.{AreGatesIn}
use Rattle.ob_opening.specs.OpeningRuns.{IsRingOpened, OpensFrom, RefusedDoes, RefusedWrites}
use Rattle.ob_opening.specs.Openings.{IsOpenFault, IsOpenRefusal, IsStandingRefusal, OpensWhatStood}
use Rattle.ob_opening.specs.declared.opening.Opening.{Opening}
use Rattle.ob_vault.specs.Hidden.{IsTapeBehind, RingHidden}
use Rattle.ob_vault.specs.RingKind.{GoesOnFrom, IsRingFound, IsRingRefusal, RingFound, ring_hidden, ring_kind, ring_public}
use Rattle.ob_vault.specs.RingSteps.{HasRingWords, RingAt}
use Rattle.ob_vault.specs.Seen.{RingMayBegin, RingOpensPartly, RingPublic, ring_notes}

-- Where the row of a refused call is cut. An end's closes with the write that opens the gate of the next epoch in its register, and a sync;
-- its lifts come first; and a batch's begins with its record's notes.
pub record RowsAreCut : Type 0 where
  pub closes : (p : Params) (q : RingPublic) (f : Fills) → ring_notes p q Ends f ≡ before_gate (ring_notes p q Ends f) ++ note.Write (gate_cell p EpochTwin ((q.known).epoch + 1)) ∷ note.Sync ∷ []
  pub opens : (p : Params) (q : RingPublic) (f : Fills) → up_to_gate (ring_notes p q Ends f) ≡ before_gate (ring_notes p q Ends f) ++ note.Write (gate_cell p EpochTwin ((q.known).epoch + 1)) ∷ []
  pub lifts : (p : Params) (q : RingPublic) (f : Fills) → AreFirstNotes (end_lifts p q.known f) (before_gate (ring_notes p q Ends f))
  pub logs : (p : Params) (q : RingPublic) (f : Fills) → AreFirstNotes (record_notes p (((q.known).epoch + 1) % 2) q.shown) (ring_notes p q Fetches f)

-- ---- calls

-- Each call of a vault over a ring store shows the schedule's notes, their phases made by its lanes, and filled by what it draws, or what its
-- refusal allows of them, and is refused for a cause of the kind.
abbrev pub RingCallsDo : {V S : Type 0} → Kind V → (S → Disk) → Type 0
RingCallsDo {V} {S} k disk = (runs : V → Running S) → HasRingWords k disk runs → (keys : Keys) (most : ℕ) (p : Params) (f : RingFound) (first : V) (q : RingPublic) (h : RingHidden) (so_far : List Shape) (n : ℕ) (v : V) (call : VaultCall) (answer : VaultAnswer) (w : V)
    → RingAt k disk runs keys most p f (disk (runs first).store) q h n v → (one : Called k v call answer w)
    → IsCallOfKind ring_kind keys most p f (disk (runs first).store) (λ q' h' so_far' n' v'. RingAt k disk runs keys most p f (disk (runs first).store) q' h' n' v') (disk (runs v).store) (disk (runs w).store) (runs w).drawn w one.notes q h so_far n call answer

-- The words hidden are those that the tape gave, and all of them.
abbrev pub RingWordsAreOfTape : {V S : Type 0} → Kind V → (S → Disk) → Type 0
RingWordsAreOfTape {V} {S} k disk = (runs : V → Running S) (keys : Keys) (most : ℕ) (p : Params) (f : RingFound) (first : V) (q : RingPublic) (h : RingHidden) (n : ℕ) (v : V)
    → RingAt k disk runs keys most p f (disk (runs first).store) q h n v → (refused : Option Fault) → IsTapeBehind p h None (runs v).drawn refused

-- And the tape stays in its generation, whatever the calls answer.
abbrev pub RingTapesStay : {V S : Type 0} → Kind V → (S → Disk) → Type 0
RingTapesStay {V} {S} k disk = (runs : V → Running S) → HasRingWords k disk runs → (first last : V) (steps : List (VaultCall × VaultAnswer)) → AllCalled k first steps last → (runs last).present ≡ (runs first).present

-- And so the calls of one that was just opened begin, where its planner has shown the batches of what was found, and no word was drawn.
abbrev pub RingCallsBegin : {V S : Type 0} → Kind V → (S → Disk) → Type 0
RingCallsBegin {V} {S} k disk = (runs : V → Running S) (keys : Keys) (most : ℕ) (p : Params) (found : Found) (f : RingFound) (v : V) → GoesOnFrom keys p found f → (runs v).run ≡ f.run → (runs v).lanes ≡ most → (1 ≤ most) × (most ≤ 16) → HasPlanned f.run f.content f.records → (runs v).drawn ≡ []
    → ((u : VaultState) → RingHolds f.run (disk (runs v).store) u → k.holds v u) → RingAt k disk runs keys most p f (disk (runs v).store) (ring_public p f) (ring_hidden f) 0 v

-- One that was opened where the store stood is sound: it holds that map, and each image that a crash may leave stands for it.
abbrev pub RingBeginsSound : {S : Type 0} → (S → Disk) → Type 0
RingBeginsSound {S} disk = (keys : Keys) (p : Params) (f : RingFound) (at : Standing) (opened : S) → (f.run).spent ≡ false → IsOpenedAt ring_kind keys p at f (disk opened) → RingSound f.run (disk opened) (opened_with p (ring_kind.left p f) at)

-- ---- openings: the head was read, and then the store was opened

-- what an opening found, of the store that it was made of
abbrev pub found_ring : {L : Type 0} → Found → Opening L → RingFound
found_ring found o = record { content = content_of found.tables; records = found.records; run = run_over o }

-- the head's read, from which on the store is as it was
pub record ReadsHead (old mid : Disk) : Type 0 where
  pub keeps : Keeps old mid
  pub passes : Passes Same old mid
  pub seen : Notes (event.Read 0 ∷ []) old.seen mid.seen

-- what one by at most so many lanes found and showed: the head by itself, and then the schedule's opening
pub record RingOpensSo {L : Type 0} (keys : Keys) (most : ℕ) (p : Params) (old new : Disk) (found : Found) (o : Opening L) : Type 0 where
  pub goes_on : GoesOnFrom keys p found (found_ring found o)
  pub finds : old.tells → IsRingFound keys p old.cells (found_ring found o)
  pub starts : old.tells → AreGatesIn found.gates old.cells
  pub seen : ArePhasesMade most (Reads (0 ∷ []) ∷ ring_kind.opens p (found_ring found o) found.gates) old.seen new.seen

abbrev pub RingOpens : {S : Type 0} → (L : Type 0) → (S → Disk) → Type 0
RingOpens {S} L disk = (keys : Keys) (most : ℕ) (p : Params) (old mid new : S) (before after : Trace) (o : Opening L) → 1 ≤ most → ReadsHead (disk old) (disk mid) → (is : IsRingOpened disk keys most p mid new before after o)
    → RingOpensSo keys most p (disk old) (disk new) is.found o

-- where the store stood, that was found, and stands in the next generation, whatever crashes
abbrev pub RingOpensAt : {S : Type 0} → (L : Type 0) → (S → Disk) → Type 0
RingOpensAt {S} L disk = (keys : Keys) (p : Params) (old mid new : S) (found : Found) (o : Opening L) → ReadsHead (disk old) (disk mid) → (disk old).tells → (disk new).tells
    → IsFoundInRing keys p (disk mid).cells found
    → ((s : RingStanding) → (disk mid).tells → stand.Stands keys p s (disk mid).cells → OpensWhatStood keys p s (disk new) (Ok o))
    → (at : Standing) → Stands ring_kind keys p (disk old).cells at → IsOpenedAt ring_kind keys p at (found_ring found o) (disk new)

-- What a crash leaves of the head's read and of an opening, answered or refused: from its first sync on what the store stood for, at no
-- lower generation; and at any moment an image that stands as one did before.
abbrev pub RingOpensStanding : {S : Type 0} → (S → Disk) → Type 0
RingOpensStanding {S} disk = (keys : Keys) (p : Params) (old mid new : S) → ReadsHead (disk old) (disk mid) → OpensFrom disk keys p mid new → OpensStanding ring_kind disk keys p (disk old) (disk new)

abbrev pub RingLeavesStanding : {S : Type 0} → (S → Disk) → Type 0
RingLeavesStanding {S} disk = (keys : Keys) (p : Params) (old new : S) → ((c : Image) → (disk old).left_since (disk old).moment c → (disk old).may_leave c) → (disk old).tells → AllStand ring_kind keys p (disk old)
    → Passes Same (disk old) (disk new) ⊎ OpensStanding ring_kind disk keys p (disk old) (disk new) → (at : Standing) → Stands ring_kind keys p (disk old).cells at
    → LeavesOnly (disk old) (disk new) (StandsAsBefore ring_kind keys p (disk old))

-- Why one was refused, what was seen of it, and, unless the next generation may have begun, that nothing was written.
pub record RingRefusesSo (keys : Keys) (most : ℕ) (p : Params) (old new : Disk) (refused : Fault) : Type 0 where
  pub refuses : old.tells → IsRingRefusal keys p old.cells refused
  pub seen : RingOpensPartly keys most p old new refused
  pub unwritten : (RingMayBegin refused → ⊥) → Keeps old new × Passes Same old new

abbrev pub RingRefuses : {S : Type 0} → (T : Type 0) → (S → Disk) → Type 0
RingRefuses {S} T disk = (keys : Keys) (most : ℕ) (p : Params) (old mid new : S) (tape_old tape_new : T) (present : ℕ) (drawn : List ℕ) (before after : Trace) (refused : Fault) → 1 ≤ most → ReadsHead (disk old) (disk mid) → IsOpenFault refused
    → RefusedDoes keys most p (disk mid) (disk new) before after refused
    → ((disk mid).tells → IsOpenRefusal keys p (disk mid).cells refused) → ((s : RingStanding) → (disk mid).tells → stand.Stands keys p s (disk mid).cells → IsStandingRefusal s refused)
    → RefusedWrites disk keys p mid new tape_old tape_new present drawn refused → RingRefusesSo keys most p (disk old) (disk new) refused

-- ---- formats

-- what a format's words gave the buckets, it stands for nothing else than a store without a key
pub record RingFormats {S : Type 0} (disk : S → Disk) : Type 0 where
  pub made : (keys : Keys) (p : Params) (drawn : List ℕ) (old new : S) → Notes (events_of (format_notes p)) (disk old).seen (disk new).seen
      → ((disk old).tells → stand.Stands keys p (formatted_standing p drawn) (disk new).cells)
      → ((disk old).tells → (c : Image) → (disk new).may_leave c → stand.Stands keys p (formatted_standing p drawn) c) → ((disk old).tells → IsSynced (disk new)) → ((disk old).tells → HasClosedLogs p (disk new).cells) → MakesEmpty ring_kind keys p (disk old) (disk new)
