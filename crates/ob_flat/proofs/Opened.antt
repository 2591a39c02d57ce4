-- What opening finds.
use Rattle.std.proofs.Common.{◌≡◌, ℕ, ◌-◌, ◌^◌, List, Option, Some, Err, length, inr, subst, arith}
use Rattle.ob_base.specs.declared.params.Params.{Params}
use Rattle.ob_base.specs.declared.fault.Fault.{Fault}
use Rattle.ob_base.specs.declared.fault.Fault.TheVariants.{Memory, Usage, BadScript, BadParams, NotStore, Damaged, StoreFault, StashFull, Worn, SourceFault, SinkFault}
use Rattle.ob_store.specs.Disk.{Image}
use Rattle.ob_seal.specs.declared.keys.Keys.{Keys}
use Rattle.ob_twin.specs.Keyed.{tagging}
use Rattle.ob_twin.specs.Register.{StandsAt}
use Rattle.ob_twin.specs.Reading.{AllWhole, Counts}
use Rattle.ob_twin.proofs.Judging.{number_read}
use Rattle.ob_serial.specs.Vaults.{Standing}
use Rattle.ob_flat.specs.Places.{area_of}
use Rattle.ob_flat.specs.Rows.{AreRows}
use Rattle.ob_cells.specs.Reads.{IsCellFault}
use Rattle.ob_flat.specs.Reads.{AreRowsRead, IsFirstRowDamage}
use Rattle.ob_flat.proofs.RowCells.{row_same}
use Rattle.ob_start.specs.Registers.{Found}
use Rattle.ob_start.specs.Beginning.{IsBeginFault}
use Rattle.ob_flat.specs.Standing.{IsMapOf, StandsFlat}
use Rattle.ob_flat.specs.Openings.{IsOpeningOf}

-- the rows of a store that stands for a map are the map's values
pub values_of : (keys : Keys) (p : Params) (g : ℕ) (at : Standing) (image : Image) (values : List (Option (List ℕ))) → length values ≡ p.keys → StandsFlat keys p g image at → AreRows keys (area_of p.keys at.epoch) image values → IsMapOf values at.content
values_of keys p g at image values whole stands rows = record {
  below = λ key low. row_same keys _ _ _ _ _ _ _ _ (stands.rows.each key (omega (arith, whole))) (rows.2 key low);
  above = λ key high. stands.no_more key (omega (arith, whole));
}

-- the number that counts is the one that the register stands at
pub number_found : (keys : Keys) (first : ℕ) (image : Image) (g n : ℕ) → StandsAt (tagging keys) first image g → AllWhole (tagging keys) first image → Counts first image n → n ≡ g
number_found keys first image g n stands whole counts = let same : Some n ≡ Some g = number_read (tagging keys) first g image stands (Some n) (whole, counts) in cc

-- rows that weren't read
pub rows_opening : (keys : Keys) (n : ℕ) (image : Image) (g e : ℕ) (values : List (Option (List ℕ))) (f : Fault) → Found keys image g e → length values ≡ n → IsCellFault f → AreRowsRead keys (area_of n e) image values (Err f) → IsOpeningOf keys n image (Err f)
rows_opening keys n image g e values (Damaged cell check kept computed) found whole fault read =
    inr (record { generation = g; epoch = e; found = found; first = subst (λ m. IsFirstRowDamage keys (area_of n e) m image (record { cell = cell; check = check; kept = kept; computed = computed })) whole read })
rows_opening keys n image g e values (StoreFault unsure) found whole fault read = tt
rows_opening keys n image g e values Memory found whole fault read = absurd fault
rows_opening keys n image g e values Usage found whole fault read = absurd fault
rows_opening keys n image g e values (BadScript line) found whole fault read = absurd fault
rows_opening keys n image g e values (BadParams field) found whole fault read = absurd fault
rows_opening keys n image g e values NotStore found whole fault read = absurd fault
rows_opening keys n image g e values (StashFull rows) found whole fault read = absurd fault
rows_opening keys n image g e values (Worn number) found whole fault read = absurd fault
rows_opening keys n image g e values SourceFault found whole fault read = absurd fault
rows_opening keys n image g e values SinkFault found whole fault read = absurd fault

-- a generation that didn't begin
pub begin_opening : (keys : Keys) (n : ℕ) (image : Image) (g e : ℕ) (values : List (Option (List ℕ))) (f : Fault) → Found keys image g e → length values ≡ n → AreRows keys (area_of n e) image values → IsBeginFault g f → IsOpeningOf keys n image (Err f)
begin_opening keys n image g e values (Worn number) found whole rows fault =
    let last : g ≡ 2 ^ 62 - 1 = (let next = fault.1 in omega arith) in
    (fault.0, record { epoch = e; values = values; found = subst (λ m. Found keys image m e) last found; whole = whole; rows = rows })
begin_opening keys n image g e values (StoreFault unsure) found whole rows fault = tt
begin_opening keys n image g e values Memory found whole rows fault = absurd fault
begin_opening keys n image g e values Usage found whole rows fault = absurd fault
begin_opening keys n image g e values (BadScript line) found whole rows fault = absurd fault
begin_opening keys n image g e values (BadParams field) found whole rows fault = absurd fault
begin_opening keys n image g e values NotStore found whole rows fault = absurd fault
begin_opening keys n image g e values (Damaged cell check kept computed) found whole rows fault = absurd fault
begin_opening keys n image g e values (StashFull left) found whole rows fault = absurd fault
begin_opening keys n image g e values SourceFault found whole rows fault = absurd fault
begin_opening keys n image g e values SinkFault found whole rows fault = absurd fault
