-- Rows of runs of which some were refused: what their traces tell is admitted.
use Rattle.std.specs.Prelude.{◌≡◌, ◌⊎◌, ℕ, suc, List, [], ◌∷◌, ◌++◌, length}
use Rattle.std.proofs.Common.{inl, inr}
use Rattle.ob_base.specs.Repeats.{Has}
use Rattle.ob_base.specs.declared.fault.Fault.{Fault}
use Rattle.ob_base.specs.declared.params.Params.{Params}
use Rattle.ob_histories.specs.Histories.{IsHistory}
use Rattle.ob_histories.specs.Laws.{AreAdmitted}
use Rattle.ob_recover.specs.Finds.{IsFoundInRing}
use Rattle.ob_recover.specs.Life.{WordId}
use Rattle.ob_recover.specs.declared.found.Found.{Found}
use Rattle.ob_schedule.specs.Schedule.{head_notes}
use Rattle.ob_seal.specs.declared.keys.Keys.{Keys}
use Rattle.ob_serial.specs.Vaults.{Standing}
use Rattle.ob_store.specs.Disk.{Disk, Image}
use Rattle.ob_store.specs.declared.watch.Note.{Note}
use Rattle.ob_store.specs.declared.watch.Note.TheVariants.{Sync}
use Rattle.ob_twin.specs.Keyed.{tagging}
use Rattle.ob_twin.specs.Register.{StandsAt}
use Rattle.ob_vault.specs.Kinds.{Stands}
use Rattle.ob_vault.specs.RingKind.{ring_kind}
use Rattle.ob_vault.specs.RingLives.{ring_lives}
use Rattle.ob_admitted.specs.Refused.{notes_of_stop}
use Rattle.ob_admitted.specs.Rows.{lines_of_runs}
use Rattle.ob_admitted.specs.Stopped.{begun_row}
use Rattle.ob_top.specs.Audited.{ring_audits}
use Rattle.ob_top.specs.Formats.{IsFormatted}
use Rattle.ob_top.specs.Outside.{Given}
use Rattle.ob_top.specs.Parts.{head_cells}
use Rattle.ob_top.specs.Rows.{AreRowsTold, AreTapesOf, IsRowRun, TracedRun}
use Rattle.ob_top.specs.Runs.{BreaksAtHead, BreaksAtOpening, StopsAtHead, StopsAtInput, StopsAtOpening}

module _ {S : Type 0} (disk : S → Disk) (keys : Keys) (p : Params) where
  -- ---- a run that was refused

  -- It came to the head's read at most, as `run` says: the head was refused, the input or the shares were, or the watch broke there.
  abbrev pub CameToHead : TracedRun S → Type 0
  CameToHead r =
      ((fault : Fault) × StopsAtHead ring_kind ring_lives ring_audits (r.by).head keys (r.by).lanes (r.by).shares (disk r.old) (disk r.new) r.first r.last (r.before).input (r.after).input fault)
      ⊎ ((fault : Fault) × StopsAtInput ring_kind ring_lives ring_audits (r.by).head keys (r.by).lanes (r.by).shares (disk r.old) (disk r.new) r.first r.last (r.before).input (r.after).input fault)
      ⊎ BreaksAtHead ring_kind ring_lives ring_audits (r.by).head keys (r.by).lanes (r.by).shares (disk r.old) (disk r.new) r.first r.last (r.before).input (r.after).input

  -- Its opening was refused, as `run` says, over a store that stood.
  pub record StoppedInOpening (r : TracedRun S) : Type 0 where
    pub fault : Fault
    pub went : StopsAtOpening ring_kind ring_lives ring_audits (r.by).head keys (r.by).lanes (r.by).shares (disk r.old) (disk r.new) r.first r.last disk r.new (r.before).input fault
    pub params : went.p ≡ p
    pub tells : (disk r.old).tells
    pub at : Standing
    pub stood : Stands ring_kind keys p (disk r.old).cells at

  -- Its watch broke in its opening, which was finished, as `run` says, over a store that stood.
  pub record BrokeInOpening (r : TracedRun S) : Type 0 where
    pub went : BreaksAtOpening ring_kind ring_lives ring_audits (r.by).head keys (r.by).lanes (r.by).shares (disk r.old) (disk r.new) r.first r.last disk r.old r.new (r.before).input
    pub params : went.p ≡ p
    pub tells : (disk r.old).tells
    pub at : Standing
    pub stood : Stands ring_kind keys p (disk r.old).cells at

  -- the notes that it showed
  abbrev pub notes_when_stopped : (r : TracedRun S) → StoppedInOpening r → List Note
  notes_when_stopped r stopped =
      head_notes ++ notes_of_stop keys (r.by).lanes (stopped.went).p (disk ((stopped.went).stops).read) (disk r.new) ((stopped.went).stops).between r.last stopped.fault ((stopped.went).stops).stops

  -- It was to read the head. It began at an image that might have been left; and where writes waited there, so might each that a crash would then
  -- have left.
  pub record BeganWithin (may_leave : Image → Type 0) (r : TracedRun S) : Type 0 where
    pub head : (r.by).head ≡ head_cells
    pub begun : may_leave (disk r.old).cells
    pub within : (c : Image) → (disk r.old).may_leave c → may_leave c

  -- ---- rows

  -- it served, or it was refused
  abbrev pub IsRunOrRefusal : (may_leave : Image → Type 0) → TracedRun S → Type 0
  IsRunOrRefusal may_leave r = IsRowRun disk keys p may_leave r ⊎ (BeganWithin may_leave r × (StoppedInOpening r ⊎ CameToHead r))

  -- the first at one of these images, each later one at one that the run before left
  abbrev pub AreRunsOrRefusals : (Image → Type 0) → List (TracedRun S) → Type 0
  AreRunsOrRefusals may_leave [] = Unit {0}
  AreRunsOrRefusals may_leave (r ∷ runs) = IsRunOrRefusal may_leave r × AreRunsOrRefusals (disk r.new).may_leave runs

  -- The next run that shows a sync, if there is one, began at an image that is so.
  abbrev pub IsNextSyncedAt : (Image → Type 0) → (may_leave : Image → Type 0) (runs : List (TracedRun S)) → AreRunsOrRefusals may_leave runs → Type 0
  IsNextSyncedAt IsSo may_leave [] are = Unit {0}
  IsNextSyncedAt IsSo may_leave (r ∷ runs) (inl served, later) = IsSo (disk r.old).cells
  IsNextSyncedAt IsSo may_leave (r ∷ runs) (inr (begun, inl stopped), later) =
      (Has (notes_when_stopped r stopped) Sync → IsSo (disk r.old).cells) × ((Has (notes_when_stopped r stopped) Sync → ⊥) → IsNextSyncedAt IsSo (disk r.new).may_leave runs later)
  IsNextSyncedAt IsSo may_leave (r ∷ runs) (inr (begun, inr came), later) = IsNextSyncedAt IsSo (disk r.new).may_leave runs later

  -- The one case that an audit leaves out is none of theirs: of a refused opening the last note is the write that opens its generation's gate, without
  -- the sync, and the next run that shows a sync found that generation. Where an opening came to that note, that one found the generation before.
  abbrev pub AreGatesSure : (may_leave : Image → Type 0) (runs : List (TracedRun S)) → AreRunsOrRefusals may_leave runs → Type 0
  AreGatesSure may_leave [] are = Unit {0}
  AreGatesSure may_leave (r ∷ runs) (inl served, later) = AreGatesSure (disk r.new).may_leave runs later
  AreGatesSure may_leave (r ∷ runs) (inr (begun, inl stopped), later) =
      ((found : Found) → IsFoundInRing keys p (disk r.old).cells found → length (begun_row p found) ≡ suc (length (notes_when_stopped r stopped)) → IsNextSyncedAt (λ image. StandsAt (tagging keys) 1 image found.generation) (disk r.new).may_leave runs later)
      × AreGatesSure (disk r.new).may_leave runs later
  AreGatesSure may_leave (r ∷ runs) (inr (begun, inr came), later) = AreGatesSure (disk r.new).may_leave runs later

-- Runs over a store that a format made, which served or were refused: each run's watch was shown a row of notes, and the lines of the format and of
-- these rows, one behind the other, are a public history's, and so they are admitted, but for that one case.
abbrev pub RefusedRunsFit : {S : Type 0} → (S → Disk) → Type 0
RefusedRunsFit {S} disk = (keys : Keys) (p : Params) (made_by : Given) (blank made : S) (runs : List (TracedRun S)) → IsFormatted ring_kind ring_lives ring_audits disk made_by keys p blank made → (disk blank).tells
    → (are : AreRunsOrRefusals disk keys p (disk made).may_leave runs) → AreGatesSure disk keys p (disk made).may_leave runs are
    → (word_of : WordId → ℕ) → AreTapesOf word_of runs → (rows : List (List Note)) × AreRowsTold runs rows × IsHistory p (lines_of_runs p rows) × AreAdmitted (lines_of_runs p rows)
