-- What an image of a ring store stands for.
use Rattle.std.specs.Prelude.{◌≡◌, ◌⊎◌, ◌<◌, ◌≤◌, ℕ, suc, ◌%◌, false, List, [], ◌∷◌, ◌++◌, length}
use Rattle.std.specs.FinMap as finite
use Rattle.ob_base.specs.declared.params.Params.{Params}
use Rattle.ob_base.specs.Tree.{buckets, width}
use Rattle.ob_base.specs.Layout.{checkpoint_cells, check_cell, slot_cell}
use Rattle.ob_store.specs.Disk.{Image}
use Rattle.ob_seal.specs.declared.keys.Keys.{Keys}
use Rattle.ob_seal.specs.Pieces.{onward, piece}
use Rattle.ob_seal.specs.Seals.{sealed}
use Rattle.ob_cells.specs.declared.run.Identity.{Identity}
use Rattle.ob_cells.specs.Runs.{IsRun, run_at}
use Rattle.ob_twin.specs.Keyed.{tagging}
use Rattle.ob_twin.specs.Register.{StandsAt}
use Rattle.ob_start.specs.Heads.{IsHead}
use Rattle.ob_log.specs.Logs.{BatchRecord, OpenRecords, record_at}
use Rattle.ob_tables.specs.Version.{Version, rank_at, used_at}
use Rattle.ob_tables.specs.Buckets.{version_at}
use Rattle.ob_tables.specs.Content.{Content, Obeys}
use Rattle.ob_tables.specs.Spelling.{checkpoint_bytes}
use Rattle.ob_stand.specs.Values.{Values}
use Rattle.ob_stand.specs.Carries.{Slots}
use Rattle.ob_stand.specs.Numbers.{IsKnown}
use Rattle.ob_stand.specs.Valued.{IsValued}
use Rattle.ob_serial.specs.Vaults.{Standing}

-- The last epoch that ended and the generation of the last run, the map after the epoch, what its checkpoint keeps, and the records of
-- the batches that were begun since.
pub record RingStanding : Type 0 where
  pub epoch : ℕ
  pub generation : ℕ
  pub map : Values
  pub content : Content
  pub records : List BatchRecord

-- ---- the checkpoint

-- the area of the epoch spells the content, under seals in a row of a generation that is no later
pub record HoldsCheckpoint (keys : Keys) (p : Params) (epoch g : ℕ) (c : Content) (image : Image) : Type 0 where
  pub first : Identity
  pub known : first.generation ≤ g
  pub run : IsRun keys (check_cell p (epoch % 2) 0) (checkpoint_cells p) first (λ i. piece i (checkpoint_bytes p epoch c)) (run_at (check_cell p (epoch % 2) 0) image)

-- ---- the slots

-- where an index of a bucket lies
abbrev pub cell_at : Params → ℕ → Version → ℕ → ℕ
cell_at p u v j = slot_cell p v.home u (rank_at v j)

-- its cell has these plain bytes, under the seal of its slot
pub record SpellsSlot (keys : Keys) (p : Params) (u : ℕ) (v : Version) (j : ℕ) (plain : List ℕ) (image : Image) : Type 0 where
  pub long : length plain ≡ 96
  pub spelled : image (cell_at p u v j) ≡ sealed keys (cell_at p u v j) v.generation (onward v.base (rank_at v j)) plain

-- each index that wasn't shown has its slot, and those that hold a key have the map's values
pub record HoldsSlots (keys : Keys) (p : Params) (c : Content) (m : Values) (image : Image) : Type 0 where
  pub slots : Slots
  pub spelled : (u j : ℕ) → u < buckets p → j < width p → used_at (version_at c.versions u) j ≡ false → SpellsSlot keys p u (version_at c.versions u) j (slots u j) image
  pub valued : IsValued c slots m

-- ---- the image

-- no record is of a later generation
abbrev pub AreKnown : List BatchRecord → ℕ → Type 0
AreKnown records g = (b : ℕ) → b < length records → (record_at records b).generation ≤ g

-- All but the registers: the head, the checkpoint of the epoch with its content, the buckets' slots, and the records of the batches
-- of the epoch that runs. No number in them is of a later generation.
pub record HoldsRest (keys : Keys) (p : Params) (s : RingStanding) (image : Image) : Type 0 where
  pub head : IsHead keys 1 p (image 0)
  pub checkpoint : HoldsCheckpoint keys p s.epoch s.generation s.content image
  pub obeys : Obeys p s.content
  pub slots : HoldsSlots keys p s.content s.map image
  pub log : OpenRecords keys p (suc s.epoch) s.records image
  pub known : IsKnown s.content s.generation
  pub records_known : AreKnown s.records s.generation

-- The registers stand at the generation and the epoch, and the image holds the rest.
pub record Stands (keys : Keys) (p : Params) (s : RingStanding) (image : Image) : Type 0 where
  pub generation : StandsAt (tagging keys) 1 image s.generation
  pub epoch : StandsAt (tagging keys) 5 image s.epoch
  pub holds : HoldsRest keys p s image

-- the image stands for one of the two
abbrev pub OneOf : Keys → Params → RingStanding → RingStanding → Image → Type 0
OneOf keys p a b image = Stands keys p a image ⊎ Stands keys p b image

-- with one open record more
abbrev pub with_record : RingStanding → BatchRecord → RingStanding
with_record s r = record { epoch = s.epoch; generation = s.generation; map = s.map; content = s.content; records = s.records ++ r ∷ [] }

-- in a later generation
abbrev pub with_generation : RingStanding → ℕ → RingStanding
with_generation s g = record { epoch = s.epoch; generation = g; map = s.map; content = s.content; records = s.records }

-- ---- as a vault says it

-- what an epoch and its map are, with this content and these records
abbrev pub ring_standing : Standing → ℕ → Content → List BatchRecord → RingStanding
ring_standing at g content records = record { epoch = at.epoch; generation = g; map = λ k. finite.get at.content k; content = content; records = records }

-- the image stands for this epoch and map, in this generation, with some content and some records
pub record StandsRing (keys : Keys) (p : Params) (g : ℕ) (image : Image) (at : Standing) : Type 0 where
  pub content : Content
  pub records : List BatchRecord
  pub stands : Stands keys p (ring_standing at g content records) image
