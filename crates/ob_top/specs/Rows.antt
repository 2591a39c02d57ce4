-- Rows of runs: what their traces tell is admitted.
use Rattle.std.specs.Prelude.{◌≡◌, ℕ, List, [], ◌∷◌, Option}
use Rattle.ob_base.specs.declared.params.Params.{Params}
use Rattle.ob_conduct.specs.declared.run_err.RunErr.{RunErr}
use Rattle.ob_histories.specs.Histories.{IsHistory}
use Rattle.ob_histories.specs.Laws.{AreAdmitted}
use Rattle.ob_recover.specs.Life.{WordId}
use Rattle.ob_seal.specs.declared.keys.Keys.{Keys}
use Rattle.ob_serial.specs.Serial.{EpochRecord}
use Rattle.ob_serial.specs.Vaults.{Standing}
use Rattle.ob_store.specs.Disk.{Disk, Image}
use Rattle.ob_store.specs.Lines.{Shows, Trace}
use Rattle.ob_store.specs.declared.watch.Note.{Note}
use Rattle.ob_vault.specs.Acts.{AreTapeWords}
use Rattle.ob_vault.specs.Kinds.{Stands}
use Rattle.ob_vault.specs.RingKind.{ring_kind}
use Rattle.ob_vault.specs.RingLives.{ring_lives}
use Rattle.ob_admitted.specs.Rows.{lines_of_runs}
use Rattle.ob_top.specs.Audited.{ring_audits}
use Rattle.ob_top.specs.Formats.{IsFormatted}
use Rattle.ob_top.specs.Outside.{Given, Outside}
use Rattle.ob_top.specs.Parts.{Manner, head_cells}
use Rattle.ob_top.specs.Runs.{Ran}

-- A run, as it was handed its store and the rest and left them; its watch told this before it and that behind it.
pub record TracedRun (S : Type 0) : Type 0 where
  pub by : Manner
  pub tape : Given
  pub old : S
  pub new : S
  pub before : Outside
  pub after : Outside
  pub first : Trace
  pub last : Trace
  pub records : List (EpochRecord ℕ)
  pub err : Option RunErr

-- the tape of each gave the words of its generation
abbrev pub AreTapesOf : {S : Type 0} → (WordId → ℕ) → List (TracedRun S) → Type 0
AreTapesOf word_of [] = Unit {0}
AreTapesOf word_of (r ∷ runs) = AreTapeWords word_of (r.tape).generation (r.tape).words × AreTapesOf word_of runs

-- each of these rows was shown to its run's watch, and nothing else
abbrev pub AreRowsTold : {S : Type 0} → List (TracedRun S) → List (List Note) → Type 0
AreRowsTold [] [] = Unit {0}
AreRowsTold (r ∷ runs) (notes ∷ rows) = Shows notes r.first r.last × AreRowsTold runs rows
AreRowsTold _ _ = ⊥

module _ {S : Type 0} (disk : S → Disk) (keys : Keys) (p : Params) where
  -- It read the head, and its script was run, whole or up to a fault, over a store that stood. That was at an image that might have been left.
  pub record IsRowRun (may_leave : Image → Type 0) (r : TracedRun S) : Type 0 where
    pub ran : Ran ring_kind ring_lives ring_audits disk r.by r.tape keys r.old r.new r.before r.after r.first r.last r.records r.err
    pub params : ran.p ≡ p
    pub head : (r.by).head ≡ head_cells
    pub begun : may_leave (disk r.old).cells
    pub tells : (disk r.old).tells
    pub at : Standing
    pub stood : Stands ring_kind keys p (disk r.old).cells at

  -- the first at one of these images, each later one at one that the run before left
  abbrev pub AreRowRuns : (Image → Type 0) → List (TracedRun S) → Type 0
  AreRowRuns may_leave [] = Unit {0}
  AreRowRuns may_leave (r ∷ runs) = IsRowRun may_leave r × AreRowRuns (disk r.new).may_leave runs

-- Runs over a store that a format made: each run's watch was shown a row of notes, and the lines of the format and of these rows, one behind the
-- other, are a public history's, and so they are admitted.
abbrev pub RowsFit : {S : Type 0} → (S → Disk) → Type 0
RowsFit {S} disk = (keys : Keys) (p : Params) (made_by : Given) (blank made : S) (runs : List (TracedRun S)) → IsFormatted ring_kind ring_lives ring_audits disk made_by keys p blank made → (disk blank).tells → AreRowRuns disk keys p (disk made).may_leave runs
    → (word_of : WordId → ℕ) → AreTapesOf word_of runs → (rows : List (List Note)) × AreRowsTold runs rows × IsHistory p (lines_of_runs p rows) × AreAdmitted (lines_of_runs p rows)
