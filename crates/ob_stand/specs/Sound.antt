-- What a store may be opened from.
use Rattle.std.specs.Prelude.{◌≡◌, ◌⊎◌, ℕ, suc, List}
use Rattle.ob_base.specs.declared.params.Params.{Params}
use Rattle.ob_store.specs.Disk.{Disk, Image}
use Rattle.ob_store.specs.Images.{IsSynced, LeavesOnly}
use Rattle.ob_seal.specs.declared.keys.Keys.{Keys}
use Rattle.ob_log.specs.Logs.{BatchRecord}
use Rattle.ob_tables.specs.Content.{Content}
use Rattle.ob_stand.specs.Values.{Values}
use Rattle.ob_stand.specs.Stands.{RingStanding, Stands, OneOf}

-- an epoch with its map and the content of its checkpoint
pub record Point : Type 0 where
  pub epoch : ℕ
  pub map : Values
  pub content : Content

abbrev pub point_of : RingStanding → Point
point_of s = record { epoch = s.epoch; map = s.map; content = s.content }

abbrev pub at_point : Point → ℕ → List BatchRecord → RingStanding
at_point at g records = record { epoch = at.epoch; generation = g; map = at.map; content = at.content; records = records }

-- the image stands for this epoch, in some generation and with some records
pub record StandsAtPoint (keys : Keys) (p : Params) (at : Point) (image : Image) : Type 0 where
  pub generation : ℕ
  pub records : List BatchRecord
  pub stands : Stands keys p (at_point at generation records) image

-- the second is the first, or the next epoch
abbrev pub AreNear : Point → Point → Type 0
AreNear low high = (high ≡ low) ⊎ (high.epoch ≡ suc low.epoch)

-- Each image that a crash may leave stands, and what is read does: all for one epoch or for two neighbours, each with one map and one
-- content.
pub record IsSoundDisk (keys : Keys) (p : Params) (disk : Disk) : Type 0 where
  pub low : Point
  pub high : Point
  pub near : AreNear low high
  pub images : (c : Image) → disk.may_leave c → StandsAtPoint keys p low c ⊎ StandsAtPoint keys p high c
  pub cells : disk.tells → StandsAtPoint keys p low disk.cells ⊎ StandsAtPoint keys p high disk.cells

-- ---- the laws

pub record StoresAreSound {S : Type 0} (disk : S → Disk) : Type 0 where
  -- after a run that leaves only what stands for one of two
  pub after_run : (keys : Keys) (p : Params) (a b : RingStanding) (old new : S) → AreNear (point_of a) (point_of b)
      → LeavesOnly (disk old) (disk new) (OneOf keys p a b) → IsSoundDisk keys p (disk new)
  -- after a sync that succeeded
  pub settled : (keys : Keys) (p : Params) (s : RingStanding) (store : S) → IsSynced (disk store) → Stands keys p s (disk store).cells → IsSoundDisk keys p (disk store)
