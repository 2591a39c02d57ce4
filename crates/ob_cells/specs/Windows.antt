-- Cells that were sealed and are not yet written.
use Rattle.std.specs.Prelude.{◌≡◌, ◌<◌, ◌≤◌, ℕ, ◌+◌, ◌-◌, ◌*◌, ◌^◌, List, [], length, min, slice_index_or}
use Rattle.ob_seal.specs.declared.keys.Keys.{Keys}
use Rattle.ob_seal.specs.Sealing.{Sealing}
use Rattle.ob_seal.specs.Seals.{sealed}

-- a slot has the cell of these plain bytes under this seal
pub record IsSlotSealed (keys : Keys) (cell generation number : ℕ) (plain bytes : List ℕ) : Type 0 where
  pub bytes_are : bytes ≡ sealed keys cell generation number plain
  pub whole : length plain ≡ 96

-- the slots have them one behind the other
abbrev pub AreSlotsSealed : Keys → ℕ → ℕ → ℕ → (ℕ → List ℕ) → List (List ℕ) → Type 0
AreSlotsSealed keys cell generation number plain slots =
    (j : ℕ) → j < length slots → IsSlotSealed keys (cell + j) generation (number + j) (plain j) (slice_index_or slots j [])

-- a row has the cells of a run from its i-th on, that one under this number, as far as both go
abbrev pub IsRowSealed : Keys → ℕ → ℕ → ℕ → (ℕ → List ℕ) → ℕ → ℕ → List (List ℕ) → Type 0
IsRowSealed keys base generation number plain many i row =
    (j : ℕ) → j < 48 → i + j < many → IsSlotSealed keys (base + (i + j)) generation (number + j) (plain (i + j)) (slice_index_or row j [])

-- rows have them one behind the other
abbrev pub AreRowsSealed : Keys → ℕ → ℕ → ℕ → (ℕ → List ℕ) → ℕ → ℕ → List (List (List ℕ)) → Type 0
AreRowsSealed keys base generation number plain many i rows =
    (k : ℕ) → k < length rows → IsRowSealed keys base generation (number + 48 * k) plain many (i + 48 * k) (slice_index_or rows k [])

-- as many rows have them as there were
abbrev pub AreRowsSealedAs : Keys → ℕ → ℕ → ℕ → (ℕ → List ℕ) → ℕ → ℕ → List (List (List ℕ)) → List (List (List ℕ)) → Type 0
AreRowsSealedAs keys base generation number plain many i old new = (length new ≡ length old) × AreRowsSealed keys base generation number plain many i new

-- a run's cells can be sealed from its i-th on, that one under this number
abbrev pub CanSealFrom : ℕ → ℕ → ℕ → ℕ → Type 0
CanSealFrom base many i number = (i ≤ many) × ((base + many < 2 ^ 64) × (number + (many - i) ≤ 2 ^ 62))

-- so they can, and there are some for each of the rows
abbrev pub CanSealRows : ℕ → ℕ → ℕ → ℕ → List (List (List ℕ)) → Type 0
CanSealRows base many i number rows = (i + 48 * length rows < many + 48) × CanSealFrom base many i number

-- two sealers give the same cells under the same numbers
abbrev pub IsMate : Sealing → Sealing → Type 0
IsMate mate sealer = (mate.keys ≡ sealer.keys) × (mate.generation ≡ sealer.generation)

-- how many of a run's cells from its i-th on are written while those behind them are sealed
abbrev pub few_from : ℕ → ℕ → ℕ
few_from many i = min (many - i) 1536
