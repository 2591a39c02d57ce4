-- The end of an epoch: what it is to make, what it has written before its register is set, and what its images stand for.
use Rattle.std.specs.Prelude.{◌≡◌, ◌≢◌, ◌<◌, ℕ, suc, ◌-◌, ◌%◌, true, false, List, []}
use Rattle.ob_base.specs.declared.params.Params.{Params}
use Rattle.ob_base.specs.Tree.{buckets, width}
use Rattle.ob_base.specs.Layout.{checkpoint_cells, check_cell, log_gate, slot_cell}
use Rattle.ob_store.specs.Disk.{Disk, Image}
use Rattle.ob_store.specs.Images.{SameBut, SameOff, LeavesOnly, Passes}
use Rattle.ob_seal.specs.declared.keys.Keys.{Keys}
use Rattle.ob_twin.specs.Bodies.{open_gate}
use Rattle.ob_twin.specs.Keyed.{tagging}
use Rattle.ob_twin.specs.Register.{KeepsAt, OldOrNew}
use Rattle.ob_tables.specs.Version.{used_at}
use Rattle.ob_tables.specs.Buckets.{version_at}
use Rattle.ob_tables.specs.Content.{Content}
use Rattle.ob_schedule.specs.Paths.{is_one_of}
use Rattle.ob_stand.specs.Values.{Values}
use Rattle.ob_stand.specs.Carries.{Slots}
use Rattle.ob_stand.specs.EpochEnds.{IsNext}
use Rattle.ob_stand.specs.Stands.{RingStanding, HoldsCheckpoint, SpellsSlot, HoldsRest, Stands, OneOf}
use Rattle.ob_stand.specs.Spare.{Spare, SameButIn}

-- what an end makes: the content of the next checkpoint, the map and the slots then, and the buckets that are filled anew
pub record RingEnd : Type 0 where
  pub content : Content
  pub map : Values
  pub slots : Slots
  pub order : List ℕ

-- what stands after it
abbrev pub standing_after : RingStanding → RingEnd → RingStanding
standing_after s end = record { epoch = suc s.epoch; generation = s.generation; map = end.map; content = end.content; records = [] }

-- it is one that an epoch leads to
abbrev pub IsEndOf : Params → RingStanding → RingEnd → Type 0
IsEndOf p s end = IsNext p s.content end.content end.slots s.map end.map s.generation end.order

-- a bucket's slots are those that the end makes
abbrev pub HoldsBucket : Keys → Params → RingEnd → ℕ → Image → Type 0
HoldsBucket keys p end u image = (j : ℕ) → j < width p → used_at (version_at end.content.versions u) j ≡ false
    → SpellsSlot keys p u (version_at end.content.versions u) j (end.slots u j) image

-- the checkpoint is the one that it makes
abbrev pub HoldsNextCheckpoint : Keys → Params → RingStanding → RingEnd → Image → Type 0
HoldsNextCheckpoint keys p s end image = HoldsCheckpoint keys p (suc s.epoch) s.generation end.content image

-- what has to be in the cells before the register is set: the buckets that are filled anew, the checkpoint, and closed gates for the
-- records of the epoch after it
pub record IsEndWritten (keys : Keys) (p : Params) (s : RingStanding) (end : RingEnd) (image : Image) : Type 0 where
  pub slots : (u : ℕ) → is_one_of end.order u ≡ true → HoldsBucket keys p end u image
  pub checkpoint : HoldsNextCheckpoint keys p s end image
  pub shut : (b : ℕ) → b < p.batches → image (log_gate p (suc (suc s.epoch) % 2) b) ≢ open_gate

-- ---- the laws, image by image

-- all that it writes before lies in spare cells
pub record WritesAreSpare (p : Params) (s : RingStanding) (c d : Image) : Type 0 where
  -- a bucket of the tree in its other home
  pub bucket : (u : ℕ) → u < buckets p → SameOff (slot_cell p (1 - (version_at s.content.versions u).home) u 0) (width p) c d → SameButIn (Spare p s) c d
  -- the checkpoint of the next epoch
  pub checkpoint : SameOff (check_cell p (suc s.epoch % 2) 0) (checkpoint_cells p) c d → SameButIn (Spare p s) c d
  -- a gate of the log of the epoch after it
  pub gate : (b : ℕ) → b < p.batches → SameBut (log_gate p (suc (suc s.epoch) % 2) b) c d → SameButIn (Spare p s) c d

abbrev pub EndWritesSpare : Type 0
EndWritesSpare = (p : Params) (s : RingStanding) (c d : Image) → WritesAreSpare p s c d

-- so does a bucket that it fills anew
abbrev pub EndFillsSpare : Type 0
EndFillsSpare = (p : Params) (s : RingStanding) (end : RingEnd) (u : ℕ) (c d : Image) → IsEndOf p s end → is_one_of end.order u ≡ true
    → SameOff (slot_cell p (version_at end.content.versions u).home u 0) (width p) c d → SameButIn (Spare p s) c d

-- writes into spare cells leave what stood
abbrev pub EndSpares : Type 0
EndSpares = (keys : Keys) (p : Params) (s : RingStanding) (c d : Image) → SameButIn (Spare p s) c d → Stands keys p s d → Stands keys p s c

-- what they wrote and what was left is all but the registers of what is to stand
abbrev pub EndIsHeld : Type 0
EndIsHeld = (keys : Keys) (p : Params) (s : RingStanding) (end : RingEnd) (c d : Image) → IsEndOf p s end → SameButIn (Spare p s) c d → Stands keys p s d
    → IsEndWritten keys p s end c → HoldsRest keys p (standing_after s end) c

-- where the epoch's register stands decides
pub record SetDecides (keys : Keys) (p : Params) (s : RingStanding) (end : RingEnd) (c d : Image) : Type 0 where
  pub old : KeepsAt (tagging keys) 5 d s.epoch c → Stands keys p s c
  pub new : HoldsRest keys p (standing_after s end) d → KeepsAt (tagging keys) 5 d (suc s.epoch) c → Stands keys p (standing_after s end) c

abbrev pub EndSets : Type 0
EndSets = (keys : Keys) (p : Params) (s : RingStanding) (end : RingEnd) (c d : Image) → Stands keys p s d → SetDecides keys p s end c d

-- ---- over a run of calls

-- an end of the epoch that stands, which wrote into spare cells alone until its register was set
pub record Ending (keys : Keys) (p : Params) (s : RingStanding) (end : RingEnd) (old mid : Disk) : Type 0 where
  pub follows : IsEndOf p s end
  pub stands : Stands keys p s old.cells
  pub images : (c : Image) → old.may_leave c → Stands keys p s c
  pub elsewhere : SameButIn (Spare p s) mid.cells old.cells
  pub passes : Passes (SameButIn (Spare p s)) old mid

-- A crash at any moment leaves the old epoch, or the new one once the register is being set.
pub record EndLeaves (keys : Keys) (p : Params) (s : RingStanding) (end : RingEnd) (old mid new : Disk) : Type 0 where
  pub filling : LeavesOnly old mid (Stands keys p s)
  -- refused before its last write
  pub before : LeavesOnly mid new (KeepsAt (tagging keys) 5 mid.cells s.epoch) → LeavesOnly old new (Stands keys p s)
  pub any_moment : IsEndWritten keys p s end mid.cells → LeavesOnly mid new (OldOrNew (tagging keys) 5 mid.cells s.epoch (suc s.epoch)) → LeavesOnly old new (OneOf keys p s (standing_after s end))
  -- once it went well
  pub done : IsEndWritten keys p s end mid.cells → KeepsAt (tagging keys) 5 mid.cells (suc s.epoch) new.cells → Stands keys p (standing_after s end) new.cells

abbrev pub EndsLeave : {S : Type 0} → (S → Disk) → Type 0
EndsLeave {S} disk = (keys : Keys) (p : Params) (s : RingStanding) (end : RingEnd) (old mid new : S) → Ending keys p s end (disk old) (disk mid) → EndLeaves keys p s end (disk old) (disk mid) (disk new)
