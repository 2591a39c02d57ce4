-- What `format` does.
use Rattle.std.specs.Prelude.{ℕ, ◌≡◌, ◌*◌, true, false, Bool, Option, Some, None, Ok, Err, length}
use Rattle.ob_base.specs.declared.params.Params.{Params}
use Rattle.ob_base.specs.Tree.{buckets, width}
use Rattle.ob_seal.specs.declared.keys.Keys.{Keys}
use Rattle.ob_base.specs.declared.fault.Fault.TheVariants.{StoreFault, SinkFault}
use Rattle.ob_base.specs.Causes.{Rose}
use Rattle.ob_io.specs.Flows.{appended}
use Rattle.ob_report.specs.Faults.{status_of}
use Rattle.ob_report.specs.Sizes.{size_line}
use Rattle.ob_io.specs.Streams.{Flow}
use Rattle.ob_report.specs.Printed.{IsPrinted}
use Rattle.ob_store.specs.Disk.{Disk}
use Rattle.ob_store.specs.Images.{LeavesOnly}
use Rattle.ob_store.specs.Calls.{NotesFirst}
use Rattle.ob_store.specs.Lines.{Shows, Trace}
use Rattle.ob_store.specs.Told.{TellsFirst}
use Rattle.ob_conduct.specs.declared.run_err.RunErr.{RunErr}
use Rattle.ob_conduct.specs.declared.run_err.RunErr.TheVariants as failed
use Rattle.ob_top.specs.Endings.{told_fault}
use Rattle.ob_pads.specs.Lives.{IsFormattedStore}
use Rattle.ob_vault.specs.Kinds.{StoreKind}
use Rattle.ob_vault.specs.Formats.{MakesEmpty}
use Rattle.ob_vault.specs.KindLives.{LifeWords}
use Rattle.ob_top.specs.Audited.{AuditWords}
use Rattle.ob_top.specs.Outside.{ErrTold, Given, Outside}
use Rattle.ob_top.specs.Sound.{IsSound}

-- So many words were drawn as the buckets have slots, of the first generation, and no other.
pub record DrawsSlots (p : Params) (tape : Given) : Type 0 where
  pub first : tape.generation ≡ 1
  pub many : length tape.words ≡ buckets p * width p

-- An empty store was made, and a life of it begins. Its cells are told where they were.
pub record IsFormatted (store : StoreKind) (life : LifeWords store) (audit : AuditWords store) {S : Type 0} (disk : S → Disk) (tape : Given) (keys : Keys) (p : Params) (old new : S) : Type 0 where
  pub made : MakesEmpty store keys p (disk old) (disk new)
  pub tells : (disk old).tells → (disk new).tells
  pub draws : DrawsSlots p tape
  pub begins : (disk old).tells → (disk old).leaves → IsFormattedStore disk keys new
  -- what its head and registers show in the clear, each byte of it
  pub clear : (disk new).tells → store.format_clears keys p (disk new).seen (disk old).cells (disk new).cells (Ok tt)
  -- each image that a crash leaves stands for a life that begins with these words
  pub begins_life : (disk old).tells → life.formatted keys p tape.words (disk new)
  -- and has the gates of a format
  pub gates : (disk old).tells → audit.made_gated (disk new)

-- Its notes were all shown to the watch, which is whole behind them, or broke with them.
abbrev pub ShowsFormat : StoreKind → Params → Trace → Trace → Bool → Type 0
ShowsFormat store p t u is_broken = Shows (store.format_notes p) t u × (u.broken ≡ is_broken)

-- behind the format the tape has given this
module _ (store : StoreKind) (life : LifeWords store) (audit : AuditWords store) {S : Type 0} (disk : S → Disk) (tape : Given) where
  -- How it ends. Its line tells how many cells the store has; none is written where the watch broke. Where the store failed the head and the
  -- registers show in the clear what the kind of store says of that.
  abbrev pub FormatEnds : Keys → Params → S → S → Flow → Flow → Trace → Trace → Option RunErr → Type 0
  FormatEnds keys p old new before after t u None = IsFormatted store life audit disk tape keys p old new × (after.bytes ≡ appended before.bytes (size_line (store.cells p))) × ShowsFormat store p t u false
  FormatEnds keys p old new before after t u (Some failed.Unwatched) = IsFormatted store life audit disk tape keys p old new × (after ≡ before) × ShowsFormat store p t u true
  FormatEnds keys p old new before after t u (Some (failed.Fault SinkFault)) = IsFormatted store life audit disk tape keys p old new × Rose before.faults after.faults × IsPrinted before after (size_line (store.cells p)) × ShowsFormat store p t u false
  FormatEnds keys p old new before after t u (Some (failed.Fault (StoreFault unsure))) =
      (unsure ≡ None) × Rose (disk old).faults (disk new).faults × NotesFirst (store.format_order p) (disk old).seen (disk new).seen × (after ≡ before) × TellsFirst (store.format_notes p) (disk old).seen (disk new).seen t u
      × ((disk new).tells → store.format_clears keys p (disk new).seen (disk old).cells (disk new).cells (Err (StoreFault unsure)))
  FormatEnds keys p old new before after t u (Some (failed.Fault fault)) = store.format_fault fault × (new ≡ old) × (after ≡ before) × (u ≡ t)

  -- What `format` has done with parameters in range and a store. It looks at no input.
  pub record FormatDone (keys : Keys) (p : Params) (old new : S) (before after : Outside) (t u : Trace) (status : ℕ) : Type 0 where
    pub err : Option RunErr
    pub status_is : status ≡ status_of (told_fault err)
    pub untouched : after.input ≡ before.input
    -- what stood in the output before the fault's line, and that behind it
    pub written : Flow
    pub told : FormatEnds keys p old new before.output written t u err
    pub line : ErrTold written after.output err
    -- A crash at any moment leaves what is no store, or a torn head; or, behind the last sync, the empty store.
    pub left : (disk old).tells → LeavesOnly (disk old) (disk new) (store.format_leaves keys p tape.words (disk old))
    -- At status 0 the next call finds a store that stands.
    pub sound : status ≡ 0 → (disk old).tells → IsSound store keys p (disk new)
