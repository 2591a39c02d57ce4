-- What a read of a checkpoint answers.
use Rattle.std.specs.Prelude.{◌≡◌, ◌≢◌, ◌⊎◌, ◌<◌, ℕ, ◌^◌, List, length, take, Result, Ok, Err}
use Rattle.std.specs.declared.option.Option.TheVariants.{None, Some}
use Rattle.std.specs.Int.{w64}
use Rattle.ob_base.specs.declared.fault.Damaged.{Damaged}
use Rattle.ob_base.specs.declared.fault.Check.TheVariants.{Tag, Seal}
use Rattle.ob_base.specs.declared.fault.Fault.{Fault}
use Rattle.ob_base.specs.declared.fault.Fault.TheVariants.{Damaged as Broken, StoreFault, Memory}
use Rattle.ob_base.specs.declared.params.Params.{Params}
use Rattle.ob_base.specs.Layout.{checkpoint_cells, checkpoint_len}
use Rattle.ob_base.specs.LittleEndian.{field_at}
use Rattle.ob_tables.specs.Buckets.{Buckets}
use Rattle.ob_seal.specs.declared.keys.Keys.{Keys}
use Rattle.ob_seal.specs.Pieces.{piece}
use Rattle.ob_store.specs.Disk.{Image}
use Rattle.ob_tables.specs.declared.tables.Tables.{Tables}
use Rattle.ob_cells.specs.declared.run.Identity.{Identity}
use Rattle.ob_cells.specs.Orders.{IsInRun}
use Rattle.ob_cells.specs.Reads.{IsFirstDamage}
use Rattle.ob_cells.specs.Rules.{first_broken, epoch_damage, form_damage}
use Rattle.ob_cells.specs.Runs.{IsRun, run_at}
use Rattle.ob_tables.specs.Content.{Content, Obeys, content_of}
use Rattle.ob_check.specs.Reading.{content_in}
use Rattle.ob_check.specs.Rules.{rules}
use Rattle.ob_check.specs.Written.{HoldsCheckpointFrom, area_of}

-- the epoch that the bytes tell
abbrev pub epoch_in : List ℕ → ℕ
epoch_in bytes = field_at w64 bytes 0

-- the tables are what the bytes tell, at this epoch, and no rule is broken
pub record IsAccepted (p : Params) (epoch : ℕ) (bytes : List ℕ) (t : Tables Buckets) : Type 0 where
  pub epoch_is : epoch_in bytes ≡ epoch
  pub kept : first_broken (rules p bytes) ≡ None
  pub told : content_of t ≡ content_in p bytes

-- another epoch stands there, and both are told
pub record IsOtherEpoch (base epoch : ℕ) (bytes : List ℕ) (damaged : Damaged) : Type 0 where
  pub differs : epoch_in bytes ≢ epoch
  pub told_as : damaged ≡ epoch_damage base (epoch_in bytes) epoch

-- the epoch is the wanted one, and the first rule that is broken is told
pub record IsMisformedCheckpoint (p : Params) (base epoch : ℕ) (bytes : List ℕ) (damaged : Damaged) : Type 0 where
  pub epoch_is : epoch_in bytes ≡ epoch
  pub told_as : form_damage base (rules p bytes) ≡ Some damaged

-- what bytes are refused for
abbrev pub IsRefused : Params → ℕ → ℕ → List ℕ → Damaged → Type 0
IsRefused p base epoch bytes damaged = IsOtherEpoch base epoch bytes damaged ⊎ IsMisformedCheckpoint p base epoch bytes damaged

-- The cells of the epoch's area open to plain bytes, of which the first ones are the checkpoint's.
pub record IsOpenedTo (keys : Keys) (p : Params) (epoch : ℕ) (image : Image) (bytes : List ℕ) : Type 0 where
  pub first : Identity
  pub plain : List ℕ
  pub whole : length bytes ≡ checkpoint_len p
  pub front : take (checkpoint_len p) plain ≡ bytes
  pub run : IsRun keys (area_of p epoch) (checkpoint_cells p) first (λ i. piece i plain) (run_at (area_of p epoch) image)

-- they do, and the bytes are those of the tables
pub record IsReadFrom (keys : Keys) (p : Params) (epoch : ℕ) (image : Image) (t : Tables Buckets) : Type 0 where
  pub bytes : List ℕ
  pub opened : IsOpenedTo keys p epoch image bytes
  pub accepted : IsAccepted p epoch bytes t

-- they do, and the bytes are refused
pub record IsRefusedFrom (keys : Keys) (p : Params) (epoch : ℕ) (image : Image) (damaged : Damaged) : Type 0 where
  pub bytes : List ℕ
  pub opened : IsOpenedTo keys p epoch image bytes
  pub refused : IsRefused p (area_of p epoch) epoch bytes damaged

-- what a read answers where the store tells its cells: the tables; or the first cell that is damaged by its tag or its seal; or, where
-- none is, what the bytes are refused for
abbrev pub IsCheckRead : Keys → Params → ℕ → Image → Result (Tables Buckets) Fault → Type 0
IsCheckRead keys p epoch image (Ok t) = IsReadFrom keys p epoch image t
IsCheckRead keys p epoch image (Err (Broken cell check kept computed)) =
    IsFirstDamage keys (area_of p epoch) (checkpoint_cells p) (run_at (area_of p epoch) image) (record { cell = cell; check = check; kept = kept; computed = computed })
    ⊎ IsRefusedFrom keys p epoch image (record { cell = cell; check = check; kept = kept; computed = computed })
IsCheckRead keys p epoch image (Err _) = Unit {0}

-- The refusals of a read for which there was memory: of the store; of a cell of the area whose tag or seal is wrong; or of what the
-- bytes tell.
abbrev pub IsCheckReadFault : Params → ℕ → Fault → Type 0
IsCheckReadFault p epoch (StoreFault unsure) = unsure ≡ None
IsCheckReadFault p epoch (Broken cell Tag kept computed) = IsInRun (area_of p epoch) (checkpoint_cells p) cell
IsCheckReadFault p epoch (Broken cell Seal kept computed) = IsInRun (area_of p epoch) (checkpoint_cells p) cell
IsCheckReadFault p epoch (Broken cell check kept computed) = Unit {0}
IsCheckReadFault p epoch _ = ⊥

abbrev pub IsCheckFault : Params → ℕ → Fault → Type 0
IsCheckFault p epoch Memory = Unit {0}
IsCheckFault p epoch fault = IsCheckReadFault p epoch fault

-- ---- the law

-- tables of this content, or a refusal that no cell causes
abbrev pub IsContentRead : Content → Result (Tables Buckets) Fault → Type 0
IsContentRead c (Ok t) = content_of t ≡ c
IsContentRead c (Err (Broken cell check kept computed)) = ⊥
IsContentRead c (Err _) = Unit {0}

-- What was written is read again: where an epoch's area holds a content that obeys, a read of that epoch gives tables of it, and
-- finds no cell damaged.
abbrev pub ReadsBack : Type 0
ReadsBack =
    (keys : Keys) (p : Params) (epoch : ℕ) (c : Content) (generation first : ℕ) (image : Image) (result : Result (Tables Buckets) Fault)
    → epoch < 2 ^ 64 → generation < 2 ^ 64 → first < 2 ^ 64 → Obeys p c
    → HoldsCheckpointFrom keys p epoch c generation first image → IsCheckRead keys p epoch image result → IsContentRead c result
