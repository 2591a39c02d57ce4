-- When a command must do what it is asked for.
use Rattle.std.specs.Prelude.{ℕ, ◌≡◌, ◌⊎◌, ◌+◌, ◌<◌, Bool, not, List, length, take, Option, Some, None}
use Rattle.std.specs.Borrow.{Bor, MutBor}
use Rattle.ob_base.specs.declared.params.Params.{Params}
use Rattle.ob_base.specs.declared.fault.Fault.TheVariants.{StashFull}
use Rattle.ob_base.specs.Causes.{Rose}
use Rattle.ob_shares.specs.declared.shares.Shares.{Shares}
use Rattle.ob_desk.specs.Beats.{BeatKind}
use Rattle.ob_seal.specs.declared.keys.Keys.{Keys}
use Rattle.ob_store.specs.Disk.{Disk}
use Rattle.ob_serial.specs.Serial.{EpochRecord}
use Rattle.ob_serial.specs.Vaults.{Standing}
use Rattle.ob_script.specs.Script.{Scripts, IsScript, limit}
use Rattle.ob_vault.specs.Kinds.{StoreKind}
use Rattle.ob_words.specs.Reading.{AskedShares, asked_by, format_asked, run_asked, audit_asked, drill_asked}
use Rattle.ob_words.specs.Work.{AreParams, AreLanes, AreShares, IsCount, HasKeys}
use Rattle.ob_top.specs.Outside.{Given, Outside, Left, OfStore, outside}
use Rattle.ob_top.specs.Runs.{Ran}
use Rattle.ob_top.specs.Parts.{Manner, SharesFit, manner}
use Rattle.ob_store.specs.Lines.{Trace}
use Rattle.ob_io.specs.Streams.{Flow}
use Rattle.ob_conduct.specs.declared.run_err.RunErr.TheVariants as failed
use Rattle.ob_vault.specs.RingLives.{ring_lives}
use Rattle.ob_top.specs.Audited.{ring_audits}
use Rattle.ob_vault.specs.RingKind.{ring_kind}

module _ {W : Type 0} (flow : W → Flow) (was is : Option W) where
  -- A trace that is asked for was handed in, and its count of faults didn't rise.
  abbrev pub TraceHolds : Option (List ℕ) → Type 0
  TraceHolds None = Unit {0}
  TraceHolds (Some file) = (w : W) × (v : W) × (was ≡ Some w) × (is ≡ Some v) × (Rose (flow w).faults (flow v).faults → ⊥)

module _ {W : Type 0} (flow : W → Flow) (words : List (List ℕ)) (text : Option (Bor (List ℕ))) (old new : Disk) (was is : Option W) (before after : Outside) where
  -- A store can be made: the words ask for `format`, with numbers in range; the keys are keys; and no count of faults rose, the store's,
  -- the output's or the trace's.
  pub record CanFormat : Type 0 where
    pub store_path : List ℕ
    pub keys_path : List ℕ
    pub numbers : List (List ℕ)
    pub trace : Option (List ℕ)
    pub asked : asked_by words ≡ Some (format_asked store_path keys_path numbers trace)
    pub p : Params
    pub params : AreParams numbers p
    pub keys : Keys
    pub has : HasKeys text keys
    pub store_holds : Rose old.faults new.faults → ⊥
    pub output_holds : Rose before.output.faults after.output.faults → ⊥
    pub trace_holds : TraceHolds flow was is trace

  -- A script can be run: the words ask for `run`, with lanes in range; the keys are keys; the store tells its cells, and they stand for a map under
  -- these keys; the bytes that come in are the script, whose clients may have the shares; no count of faults rose, the store's, the input's, the output's or the trace's; and no
  -- number comes to its end.
  pub record CanRun (store : StoreKind) (script : Scripts) : Type 0 where
    pub store_path : List ℕ
    pub keys_path : List ℕ
    pub lanes : Option (List ℕ)
    pub turns : Bool
    pub trace : Option (List ℕ)
    pub mirror : Option (List ℕ)
    pub limits : AskedShares
    pub asked : asked_by words ≡ Some (run_asked store_path keys_path lanes turns trace mirror limits)
    pub k : ℕ
    pub in_range : AreLanes lanes k
    pub shares : Shares
    pub given : AreShares limits shares
    pub keys : Keys
    pub has : HasKeys text keys
    pub tells : old.tells
    pub p : Params
    pub generation : ℕ
    pub at : Standing
    pub stands : store.stands keys p generation old.cells at
    pub bytes : List ℕ
    pub told : before.input.bytes ≡ Some bytes
    pub is_script : IsScript p.keys (take (limit + 1) bytes) script
    pub fits : SharesFit p script shares
    pub store_holds : Rose old.faults new.faults → ⊥
    pub input_holds : Rose before.input.faults after.input.faults → ⊥
    pub output_holds : Rose before.output.faults after.output.faults → ⊥
    pub trace_holds : TraceHolds flow was is trace
    -- even if each transaction ends an epoch
    pub lasts : store.lasts p generation at.epoch (length script.txns)

-- behind the run the tape has given this
module _ {S W : Type 0} (disk : S → Disk) (flow : W → Flow) (beat : BeatKind) (tape : Given) (words : List (List ℕ)) (text : Option (Bor (List ℕ))) (was is : Option W) (before after : Outside) (status : ℕ) where
  -- The script was run up to an end that would leave more rows in the stash than that may keep, as the run's cause tells. That comes only
  -- where the store may hold more keys than that.
  pub record StopsFull (by : Manner) (keys : Keys) (p : Params) (old new : S) : Type 0 where
    pub status_is : status ≡ 6
    pub fewer : p.room < p.keys
    pub records : List (EpochRecord ℕ)
    pub rows : ℕ
    -- what its watch told before it, and tells behind it
    pub first : Trace
    pub last : Trace
    -- and what stood in the output before its line
    pub written : Flow
    pub ran : Ran ring_kind ring_lives ring_audits disk by tape keys old new before (outside after.input written) first last records (Some (failed.Fault (StashFull rows)))

  -- What can be done is done, but for want of memory, or of room in the stash: `FormatDoes` and `RunDoes` say what that comes to.
  abbrev pub DoesWhatItCan : S → S → Type 0
  DoesWhatItCan old new =
      (CanFormat flow words text (disk old) (disk new) was is before after → (status ≡ 0) ⊎ (status ≡ 9))
      × ((script : Scripts) (can : CanRun flow words text (disk old) (disk new) was is before after ring_kind script) → (status ≡ 0)
      ⊎ ((status ≡ 9) ⊎ StopsFull (manner beat (not can.turns) can.k can.shares) can.keys can.p old new))

  abbrev pub Completes : Option (MutBor S) → Left S → Type 0
  Completes entry exit = OfStore entry exit (Unit {0}) DoesWhatItCan

-- An audit answers, but for want of memory, where no count of faults rose.
abbrev pub AuditCompletes : List (List ℕ) → Outside → Outside → ℕ → Type 0
AuditCompletes words before after status = asked_by words ≡ Some audit_asked → (Rose before.input.faults after.input.faults → ⊥) → (Rose before.output.faults after.output.faults → ⊥)
    → (status ≡ 0) ⊎ ((status ≡ 1) ⊎ (status ≡ 9))

-- A self-test with a count in range is made, but for want of memory, where the output's count of faults didn't rise.
abbrev pub DrillCompletes : List (List ℕ) → Outside → Outside → ℕ → Type 0
DrillCompletes words before after status = (word : List ℕ) (n : ℕ) → asked_by words ≡ Some (drill_asked word) → IsCount word n → (Rose before.output.faults after.output.faults → ⊥) → (status ≡ 0) ⊎ (status ≡ 9)
