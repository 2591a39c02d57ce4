-- An image stands for one thing at most, and names no later generation.
use Rattle.std.specs.Prelude.{◌≡◌, ◌<◌, ◌≤◌, ℕ, suc, ◌%◌, false, List, length}
use Rattle.ob_base.specs.declared.params.Params.{Params}
use Rattle.ob_base.specs.Tree.{buckets, width}
use Rattle.ob_base.specs.Layout.{checkpoint_cells, record_cells, check_cell, log_cell}
use Rattle.ob_store.specs.Disk.{Image}
use Rattle.ob_seal.specs.declared.keys.Keys.{Keys}
use Rattle.ob_seal.specs.Seals.{sealed}
use Rattle.ob_tables.specs.Version.{used_at}
use Rattle.ob_tables.specs.Buckets.{version_at}
use Rattle.ob_serial.specs.Vaults.{Standing}
use Rattle.ob_stand.specs.Stands.{RingStanding, Stands, StandsRing, cell_at}

-- the two are one, the maps key by key
pub record SameStanding (a b : RingStanding) : Type 0 where
  pub epoch : a.epoch ≡ b.epoch
  pub generation : a.generation ≡ b.generation
  pub map : (k : ℕ) → a.map k ≡ b.map k
  pub content : a.content ≡ b.content
  pub records : a.records ≡ b.records

abbrev pub StandsOnce : Type 0
StandsOnce = (keys : Keys) (p : Params) (a b : RingStanding) (image : Image) → Stands keys p a image → Stands keys p b image → SameStanding a b

-- so a vault's image has one epoch and one map, and one generation
abbrev pub RingStandsOnce : Type 0
RingStandsOnce = (keys : Keys) (p : Params) (g h : ℕ) (image : Image) (a b : Standing) → StandsRing keys p g image a → StandsRing keys p h image b → (g ≡ h) × (a ≡ b)

-- ---- generations

-- the cell has a seal of a generation that is no later
pub record IsKnownSeal (keys : Keys) (g : ℕ) (image : Image) (cell : ℕ) : Type 0 where
  pub generation : ℕ
  pub number : ℕ
  pub plain : List ℕ
  pub known : generation ≤ g
  pub spelled : image cell ≡ sealed keys cell generation number plain

-- Each sealed cell that the image is read from has a seal of its generation or of an earlier one.
pub record SealsAreKnown (keys : Keys) (p : Params) (s : RingStanding) (image : Image) : Type 0 where
  pub checkpoint : (i : ℕ) → i < checkpoint_cells p → IsKnownSeal keys s.generation image (check_cell p (s.epoch % 2) i)
  pub slots : (u j : ℕ) → u < buckets p → j < width p → used_at (version_at s.content.versions u) j ≡ false
      → IsKnownSeal keys s.generation image (cell_at p u (version_at s.content.versions u) j)
  pub bodies : (b i : ℕ) → b < length s.records → i < record_cells p → IsKnownSeal keys s.generation image (log_cell p (suc s.epoch % 2) b i)

abbrev pub StandsKnown : Type 0
StandsKnown = (keys : Keys) (p : Params) (s : RingStanding) (image : Image) → Stands keys p s image → SealsAreKnown keys p s image
