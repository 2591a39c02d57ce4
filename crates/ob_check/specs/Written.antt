-- What a write of a checkpoint answers.
use Rattle.std.specs.Prelude.{◌≡◌, ◌<◌, ◌≤◌, ℕ, ◌+◌, ◌%◌, ◌^◌, Result, Ok, Err}
use Rattle.std.specs.declared.option.Option.TheVariants.{None}
use Rattle.ob_base.specs.declared.fault.Fault.{Fault}
use Rattle.ob_base.specs.declared.fault.Fault.TheVariants.{StoreFault, Worn}
use Rattle.ob_base.specs.declared.params.Params.{Params}
use Rattle.ob_base.specs.Layout.{check_cell, checkpoint_cells}
use Rattle.ob_seal.specs.declared.keys.Keys.{Keys}
use Rattle.ob_seal.specs.Pieces.{piece}
use Rattle.ob_store.specs.Disk.{Image}
use Rattle.ob_cells.specs.Runs.{AreSealed, run_at}
use Rattle.ob_tables.specs.Content.{Content}
use Rattle.ob_tables.specs.Spelling.{checkpoint_bytes}

-- the first cell of the area of an epoch
abbrev pub area_of : Params → ℕ → ℕ
area_of p epoch = check_cell p (epoch % 2) 0

-- the area of an epoch holds this content, under seals in a row from this one on
abbrev pub HoldsCheckpointFrom : Keys → Params → ℕ → Content → ℕ → ℕ → Image → Type 0
HoldsCheckpointFrom keys p epoch c generation first image =
    AreSealed keys (area_of p epoch) (checkpoint_cells p) generation first (λ i. piece i (checkpoint_bytes p epoch c)) (run_at (area_of p epoch) image)

-- fewer seal numbers are left than a checkpoint takes
abbrev pub IsWornFor : Params → ℕ → Type 0
IsWornFor p next = 2 ^ 62 < next + checkpoint_cells p

-- the refusals of a write: a worn seal number exactly where too few are left, else one of the store
abbrev pub AreWriteFaults : Params → ℕ → Result (Unit {0}) Fault → Type 0
AreWriteFaults p next (Ok done) = next + checkpoint_cells p ≤ 2 ^ 62
AreWriteFaults p next (Err (Worn number)) = (number ≡ 2 ^ 62) × IsWornFor p next
AreWriteFaults p next (Err (StoreFault unsure)) = (unsure ≡ None) × (next + checkpoint_cells p ≤ 2 ^ 62)
AreWriteFaults p next (Err _) = ⊥
