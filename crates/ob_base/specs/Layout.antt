-- Where the cells of a store lie: regions, one behind the other.
use Rattle.std.specs.Prelude.{◌≡◌, ◌≢◌, ◌<◌, ◌≤◌, ℕ, ◌+◌, ◌*◌}
use Rattle.std.specs.Int.{div_ceil}
use Rattle.ob_base.specs.declared.params.Params.{Params}
use Rattle.ob_base.specs.Tree.{buckets, width}

-- the bytes of a batch's record
abbrev pub record_len : Params → ℕ
record_len p = 20 + 13 * p.places

-- the cells of its body, of 96 bytes each
unfoldable pub record_cells : Params → ℕ
record_cells p = div_ceil (record_len p) 96

-- the bytes of a bucket in a checkpoint: its home, two numbers, its keys, and a rank and a mark for each index
abbrev pub meta_len : Params → ℕ
meta_len p = 17 + 4 * p.real + 2 * width p

-- the bytes of a checkpoint: two numbers, the keys, the buckets, the stash's length and its rows
unfoldable pub checkpoint_len : Params → ℕ
checkpoint_len p = 16 + 21 * p.keys + buckets p * meta_len p + 4 + 69 * p.room

unfoldable pub checkpoint_cells : Params → ℕ
checkpoint_cells p = div_ceil (checkpoint_len p) 96

-- the cells of a log area: each batch has its record's body and a gate
unfoldable pub log_cells : Params → ℕ
log_cells p = p.batches * (record_cells p + 1)

-- the cells of a home: each bucket's slots
unfoldable pub home_cells : Params → ℕ
home_cells p = buckets p * width p

-- The regions, in the order in which they lie. An area or a home is 0 or 1.
pub data Region : Type 0 where
  Head : Region
  GenerationTwin : Region
  EpochTwin : Region
  LogArea : (area : ℕ) → Region
  CheckArea : (area : ℕ) → Region
  Home : (home : ℕ) → Region

abbrev pub size_of : Params → Region → ℕ
size_of p Head = 1
size_of p GenerationTwin = 4
size_of p EpochTwin = 4
size_of p (LogArea area) = log_cells p
size_of p (CheckArea area) = checkpoint_cells p
size_of p (Home home) = home_cells p

-- a region's first cell is the one behind those of the regions before it
abbrev pub start_of : Params → Region → ℕ
start_of p Head = 0
start_of p GenerationTwin = 1
start_of p EpochTwin = 5
start_of p (LogArea area) = 9 + area * log_cells p
start_of p (CheckArea area) = 9 + 2 * log_cells p + area * checkpoint_cells p
start_of p (Home home) = 9 + 2 * log_cells p + 2 * checkpoint_cells p + home * home_cells p

-- there are two areas of each kind, and two homes
abbrev pub IsRegion : Region → Type 0
IsRegion Head = Unit {0}
IsRegion GenerationTwin = Unit {0}
IsRegion EpochTwin = Unit {0}
IsRegion (LogArea area) = area < 2
IsRegion (CheckArea area) = area < 2
IsRegion (Home home) = home < 2

-- the cell is one of the region's
pub record Lies (p : Params) (r : Region) (cell : ℕ) : Type 0 where
  pub from : start_of p r ≤ cell
  pub to : cell < start_of p r + size_of p r

-- the cells of a store
abbrev pub ring_cells : Params → ℕ
ring_cells p = 9 + 2 * log_cells p + 2 * checkpoint_cells p + 2 * home_cells p

-- a part of a batch's record: its gate is the part behind its body
abbrev pub log_cell : Params → ℕ → ℕ → ℕ → ℕ
log_cell p area batch part = 9 + area * log_cells p + (batch * (record_cells p + 1) + part)

-- the gate that opens a batch's record
abbrev pub log_gate : Params → ℕ → ℕ → ℕ
log_gate p area batch = log_cell p area batch (record_cells p)

abbrev pub check_cell : Params → ℕ → ℕ → ℕ
check_cell p area i = 9 + 2 * log_cells p + area * checkpoint_cells p + i

abbrev pub slot_cell : Params → ℕ → ℕ → ℕ → ℕ
slot_cell p home bucket slot = 9 + 2 * log_cells p + 2 * checkpoint_cells p + home * home_cells p + (bucket * width p + slot)

-- What a cell is for. A twin has four cells: body and gate of place 0, then of place 1.
pub data Address : Type 0 where
  AtHead : Address
  AtGeneration : (part : ℕ) → Address
  AtEpoch : (part : ℕ) → Address
  AtLog : (area batch part : ℕ) → Address
  AtCheck : (area part : ℕ) → Address
  AtSlot : (home bucket slot : ℕ) → Address

abbrev pub IsAddress : Params → Address → Type 0
IsAddress p AtHead = Unit {0}
IsAddress p (AtGeneration part) = part < 4
IsAddress p (AtEpoch part) = part < 4
IsAddress p (AtLog area batch part) = (area < 2) × (batch < p.batches) × (part < record_cells p + 1)
IsAddress p (AtCheck area part) = (area < 2) × (part < checkpoint_cells p)
IsAddress p (AtSlot home bucket slot) = (home < 2) × (bucket < buckets p) × (slot < width p)

abbrev pub cell_of : Params → Address → ℕ
cell_of p AtHead = 0
cell_of p (AtGeneration part) = 1 + part
cell_of p (AtEpoch part) = 5 + part
cell_of p (AtLog area batch part) = log_cell p area batch part
cell_of p (AtCheck area part) = check_cell p area part
cell_of p (AtSlot home bucket slot) = slot_cell p home bucket slot

abbrev pub region_of : Address → Region
region_of AtHead = Head
region_of (AtGeneration part) = GenerationTwin
region_of (AtEpoch part) = EpochTwin
region_of (AtLog area batch part) = LogArea area
region_of (AtCheck area part) = CheckArea area
region_of (AtSlot home bucket slot) = Home home

-- ---- the laws

-- no cell lies in two regions
abbrev pub RegionsApart : Type 0
RegionsApart = (p : Params) (r s : Region) (cell : ℕ) → IsRegion r → IsRegion s → r ≢ s → Lies p r cell → Lies p s cell → ⊥

-- each region lies in the store
abbrev pub RegionsWithin : Type 0
RegionsWithin = (p : Params) (r : Region) (cell : ℕ) → IsRegion r → Lies p r cell → cell < ring_cells p

-- each address lies in its region
abbrev pub AddressesLie : Type 0
AddressesLie = (p : Params) (a : Address) → IsAddress p a → Lies p (region_of a) (cell_of p a)

-- two different addresses have different cells
abbrev pub AddressesApart : Type 0
AddressesApart = (p : Params) (a b : Address) → IsAddress p a → IsAddress p b → cell_of p a ≡ cell_of p b → a ≡ b
