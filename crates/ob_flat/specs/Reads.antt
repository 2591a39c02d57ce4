-- What reads of rows answer.
use Rattle.std.specs.Prelude.{◌≡◌, ◌⊎◌, ◌<◌, ◌≤◌, ℕ, ◌+◌, ◌^◌, List, length, slice_index, Option, Result, Ok, Err}
use Rattle.ob_base.specs.declared.fault.Damaged.{Damaged}
use Rattle.ob_base.specs.declared.fault.Check.TheVariants.{Form}
use Rattle.ob_base.specs.declared.fault.Fault.{Fault}
use Rattle.ob_base.specs.declared.fault.Fault.TheVariants.{Damaged as Broken}
use Rattle.ob_seal.specs.declared.keys.Keys.{Keys}
use Rattle.ob_seal.specs.Damage.{IsExpected, IsDamage}
use Rattle.ob_seal.specs.Pieces.{onward}
use Rattle.ob_seal.specs.Seals.{sealed}
use Rattle.ob_store.specs.Disk.{Image}
use Rattle.ob_flat.specs.declared.row.Row.{Row}
use Rattle.ob_cells.specs.Numbers.{told_number}
use Rattle.ob_cells.specs.Reads.{expected_at}
use Rattle.ob_flat.specs.Rows.{present_in, length_in, HasValue, IsRow, AreRows}

-- a byte is above what its rule allows: told are the byte, and 0 as the least that is allowed
pub record IsByteOver (cell place most : ℕ) (plain : List ℕ) (damaged : Damaged) : Type 0 where
  pub over : most < slice_index plain place
  pub is : damaged ≡ record { cell = cell; check = Form; kept = told_number (slice_index plain place); computed = told_number 0 }

-- what is told of plain bytes that break a rule: first of whether there is a value, then of its length
abbrev pub IsFormDamage : ℕ → List ℕ → Damaged → Type 0
IsFormDamage cell plain damaged = IsByteOver cell 0 1 plain damaged ⊎ ((present_in plain ≤ 1) × IsByteOver cell 1 64 plain damaged)

-- the value that plain bytes have, where they break no rule
abbrev pub IsPlainRead : ℕ → List ℕ → Result (Option (List ℕ)) Damaged → Type 0
IsPlainRead cell plain (Ok value) = (length_in plain ≤ 64) × HasValue plain value
IsPlainRead cell plain (Err damaged) = IsFormDamage cell plain damaged

-- a cell under an expected seal whose plain bytes break a rule
pub record IsMisformedRow (keys : Keys) (cell : ℕ) (expected : Option (ℕ × ℕ)) (bytes : List ℕ) (damaged : Damaged) : Type 0 where
  pub generation : ℕ
  pub number : ℕ
  pub generation_fits : generation < 2 ^ 64
  pub number_fits : number < 2 ^ 64
  pub plain : List ℕ
  pub whole : length plain ≡ 96
  pub spelled : bytes ≡ sealed keys cell generation number plain
  pub sealed_so : IsExpected expected generation number
  pub breaks : IsFormDamage cell plain damaged

-- what is told of a row that breaks a rule: first of its tag, then of its seal, where one is expected, then of its plain bytes
abbrev pub IsRowDamage : Keys → ℕ → Option (ℕ × ℕ) → List ℕ → Damaged → Type 0
IsRowDamage keys cell expected bytes damaged = IsDamage keys cell expected bytes damaged ⊎ IsMisformedRow keys cell expected bytes damaged

-- what is read of a row's cell
abbrev pub IsRowRead : Keys → ℕ → Option (ℕ × ℕ) → List ℕ → Result Row Damaged → Type 0
IsRowRead keys cell expected bytes (Ok row) = IsExpected expected row.generation row.number × IsRow keys cell row.generation row.number bytes row.value
IsRowRead keys cell expected bytes (Err damaged) = IsRowDamage keys cell expected bytes damaged

-- the first of so many rows that breaks a rule, where the rows before it begin with this seal
pub record IsFirstRowDamage (keys : Keys) (base n : ℕ) (image : Image) (damaged : Damaged) : Type 0 where
  pub row : ℕ
  pub within : row < n
  pub generation : ℕ
  pub first : ℕ
  pub earlier : (i : ℕ) → i < row → (value : Option (List ℕ)) × IsRow keys (base + i) generation (onward first i) (image (base + i)) value
  pub breaks : IsRowDamage keys (base + row) (expected_at generation first row) (image (base + row)) damaged

-- what a read of one row answers
abbrev pub IsOneRowRead : Keys → ℕ → Option (ℕ × ℕ) → List ℕ → Result Row Fault → Type 0
IsOneRowRead keys cell expected bytes (Ok row) = IsRowRead keys cell expected bytes (Ok row)
IsOneRowRead keys cell expected bytes (Err (Broken at check kept computed)) = IsRowRead keys cell expected bytes (Err (record { cell = at; check = check; kept = kept; computed = computed }))
IsOneRowRead keys cell expected bytes (Err _) = Unit {0}

-- what a read of rows answers: the values of all, or the first that breaks a rule
abbrev pub AreRowsRead : Keys → ℕ → Image → List (Option (List ℕ)) → Result (Unit {0}) Fault → Type 0
AreRowsRead keys base image values (Ok done) = AreRows keys base image values
AreRowsRead keys base image values (Err (Broken cell check kept computed)) =
    IsFirstRowDamage keys base (length values) image (record { cell = cell; check = check; kept = kept; computed = computed })
AreRowsRead keys base image values (Err _) = Unit {0}
