-- What an end has written stays while it writes the rest.
use Rattle.std.specs.Prelude.{◌≡◌, ◌≢◌, ◌<◌, ℕ, suc, ◌%◌, true, List, length}
use Rattle.ob_base.specs.declared.params.Params.{Params}
use Rattle.ob_base.specs.Tree.{width}
use Rattle.ob_base.specs.Layout.{checkpoint_cells, check_cell, log_gate, slot_cell}
use Rattle.ob_store.specs.Disk.{Image}
use Rattle.ob_store.specs.Images.{SameBut, SameOff}
use Rattle.ob_seal.specs.declared.keys.Keys.{Keys}
use Rattle.ob_cells.specs.Runs.{AreSealed, run_at}
use Rattle.ob_tables.specs.Version.{rank_at}
use Rattle.ob_tables.specs.Buckets.{version_at}
use Rattle.ob_schedule.specs.Paths.{is_one_of}
use Rattle.ob_stand.specs.Ends.{RingEnd, IsEndOf, HoldsBucket, HoldsNextCheckpoint}
use Rattle.ob_stand.specs.Stands.{RingStanding}

-- no cell differs but those of a bucket that is filled anew, of the next checkpoint, of a gate of the epoch after it
abbrev pub SameButBucket : Params → RingEnd → ℕ → Image → Image → Type 0
SameButBucket p end u = SameOff (slot_cell p (version_at end.content.versions u).home u 0) (width p)

abbrev pub SameButCheckpoint : Params → RingStanding → Image → Image → Type 0
SameButCheckpoint p s = SameOff (check_cell p (suc s.epoch % 2) 0) (checkpoint_cells p)

abbrev pub next_gate : Params → RingStanding → ℕ → ℕ
next_gate p s b = log_gate p (suc (suc s.epoch) % 2) b

-- A run of sealed cells, from a bucket's first slot on, that have the plain bytes of the bucket's indexes by their slots.
pub record IsFilled (keys : Keys) (p : Params) (end : RingEnd) (u : ℕ) (plain : ℕ → List ℕ) (image : Image) : Type 0 where
  pub long : (slot : ℕ) → slot < width p → length (plain slot) ≡ 96
  pub slots : (j : ℕ) → j < width p → end.slots u j ≡ plain (rank_at (version_at end.content.versions u) j)
  pub run : AreSealed keys (slot_cell p (version_at end.content.versions u).home u 0) (width p) (version_at end.content.versions u).generation (version_at end.content.versions u).base plain
      (run_at (slot_cell p (version_at end.content.versions u).home u 0) image)

-- Two buckets, the checkpoint and the gates have no cell in common.
pub record WhatIsWrittenStays (keys : Keys) (p : Params) (s : RingStanding) (end : RingEnd) (c d : Image) : Type 0 where
  -- such a run is the bucket
  pub filled : (u : ℕ) (plain : ℕ → List ℕ) → is_one_of end.order u ≡ true → IsFilled keys p end u plain d → HoldsBucket keys p end u d
  -- a bucket stays while another is filled, while the checkpoint is written, and while a gate is closed
  pub other_bucket : (u v : ℕ) → is_one_of end.order u ≡ true → is_one_of end.order v ≡ true → u ≢ v → SameButBucket p end v c d → HoldsBucket keys p end u d → HoldsBucket keys p end u c
  pub bucket_checked : (u : ℕ) → is_one_of end.order u ≡ true → SameButCheckpoint p s c d → HoldsBucket keys p end u d → HoldsBucket keys p end u c
  pub bucket_gated : (u b : ℕ) → is_one_of end.order u ≡ true → b < p.batches → SameBut (next_gate p s b) c d → HoldsBucket keys p end u d → HoldsBucket keys p end u c
  -- the checkpoint stays while a gate is closed
  pub check_gated : (b : ℕ) → b < p.batches → SameBut (next_gate p s b) c d → HoldsNextCheckpoint keys p s end d → HoldsNextCheckpoint keys p s end c
  -- a gate stays while another is closed
  pub other_gate : (a b : ℕ) → a ≢ b → SameBut (next_gate p s b) c d → c (next_gate p s a) ≡ d (next_gate p s a)

abbrev pub EndWritesStay : Type 0
EndWritesStay = (keys : Keys) (p : Params) (s : RingStanding) (end : RingEnd) (c d : Image) → IsEndOf p s end → WhatIsWrittenStays keys p s end c d
