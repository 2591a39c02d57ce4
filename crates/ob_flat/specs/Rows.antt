-- The row of a key: whether there is a value, its length, and its bytes, in a sealed cell.
use Rattle.std.specs.Prelude.{◌≡◌, ◌<◌, ◌≤◌, ℕ, ◌+◌, ◌-◌, ◌^◌, List, [], ◌∷◌, ◌++◌, take, drop, length, replicate, slice_index, slice_index_or, nat_le, if◌then◌else◌, Option, Some, None}
use Rattle.ob_seal.specs.declared.keys.Keys.{Keys}
use Rattle.ob_seal.specs.Pieces.{onward}
use Rattle.ob_seal.specs.Seals.{sealed}
use Rattle.ob_store.specs.Disk.{Image}

-- the 96 plain bytes of a row: 1, the length and the value, and zeros; or zeros alone
abbrev pub row_bytes : Option (List ℕ) → List ℕ
row_bytes None = replicate 96 0
row_bytes (Some value) = 1 ∷ length value ∷ value ++ replicate (94 - length value) 0

-- its cell, with the seal of this generation and number
unfoldable pub row_cell : Keys → ℕ → ℕ → ℕ → Option (List ℕ) → List ℕ
row_cell keys cell generation number value = sealed keys cell generation number (row_bytes value)

-- the cells of rows from a cell on, sealed in a row from a number on
abbrev pub row_cells : Keys → ℕ → ℕ → ℕ → List (Option (List ℕ)) → List (List ℕ)
row_cells keys cell generation number [] = []
row_cells keys cell generation number (value ∷ values) = row_cell keys cell generation number value ∷ row_cells keys (cell + 1) generation (number + 1) values

-- a value has at most 64 bytes
abbrev pub IsShort : Option (List ℕ) → Type 0
IsShort None = Unit {0}
IsShort (Some value) = length value ≤ 64

-- the plain bytes of a value that is so short; a longer one, which no value is, has none
abbrev pub plain_of : Option (List ℕ) → List ℕ
plain_of None = row_bytes None
plain_of (Some value) = if nat_le (length value) 64 then row_bytes (Some value) else []

abbrev pub AreShort : List (Option (List ℕ)) → Type 0
AreShort values = (i : ℕ) → i < length values → IsShort (slice_index_or values i None)

-- whether there is a value, and how long it is
abbrev pub present_in : List ℕ → ℕ
present_in plain = slice_index plain 0

abbrev pub length_in : List ℕ → ℕ
length_in plain = slice_index plain 1

-- the value that plain bytes have
abbrev pub HasValue : List ℕ → Option (List ℕ) → Type 0
HasValue plain None = present_in plain ≡ 0
HasValue plain (Some value) = (present_in plain ≡ 1) × (length_in plain ≡ length value) × (take (length value) (drop 2 plain) ≡ value)

-- A cell with a row that obeys its rules, under this seal. Zeros behind the value are not looked at, nor the length's place and
-- what follows where there is none, but that the length is at most 64.
pub record IsRow (keys : Keys) (cell generation number : ℕ) (bytes : List ℕ) (value : Option (List ℕ)) : Type 0 where
  pub generation_fits : generation < 2 ^ 64
  pub number_fits : number < 2 ^ 64
  pub plain : List ℕ
  pub whole : length plain ≡ 96
  pub spelled : bytes ≡ sealed keys cell generation number plain
  pub short : length_in plain ≤ 64
  pub has : HasValue plain value

-- the rows from a cell on, whose first has this seal, have these values
abbrev pub AreRowsAt : Keys → ℕ → Image → ℕ → ℕ → List (Option (List ℕ)) → Type 0
AreRowsAt keys base image generation first values =
    (i : ℕ) → i < length values → IsRow keys (base + i) generation (onward first i) (image (base + i)) (slice_index_or values i None)

-- the rows from a cell on have these values, all under seals of one generation, in a row
abbrev pub AreRows : Keys → ℕ → Image → List (Option (List ℕ)) → Type 0
AreRows keys base image values = (generation : ℕ) × (first : ℕ) × AreRowsAt keys base image generation first values
