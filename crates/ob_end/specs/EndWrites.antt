-- What an end writes before the epoch's register is set.
use Rattle.std.specs.Prelude.{◌≡◌, ◌<◌, ℕ, suc, ◌+◌, ◌*◌, ◌%◌, true, List, [], ◌∷◌, ◌++◌, length, slice_index, Result, OnOk}
use Rattle.std.specs.declared.option.Option.TheVariants.{None}
use Rattle.ob_base.specs.declared.fault.Fault.{Fault}
use Rattle.ob_base.specs.declared.fault.Fault.TheVariants as fault
use Rattle.ob_base.specs.declared.params.Params.{Params}
use Rattle.ob_base.specs.Layout.{checkpoint_cells}
use Rattle.ob_base.specs.Tree.{width}
use Rattle.ob_tables.specs.Version.{Version, rank_at}
use Rattle.ob_tables.specs.Buckets.{version_at}
use Rattle.ob_check.specs.Written.{area_of}
use Rattle.ob_tables.specs.Content.{Content, Rows}
use Rattle.ob_stand.specs.Valued.{content_with}
use Rattle.ob_ring.specs.Filling.{base_of}
use Rattle.ob_ring.specs.Plain.{index_with, key_of_index, plain_for, without_buckets}
use Rattle.ob_ring.specs.Ring.{Kept}
use Rattle.ob_recover.specs.Ends.{refill_notes}
use Rattle.ob_schedule.specs.Paths.{is_one_of}
use Rattle.ob_schedule.specs.Schedule.{log_gates, writes_of}
use Rattle.ob_seal.specs.declared.keys.Keys.{Keys}
use Rattle.ob_stand.specs.Ends.{RingEnd, IsEndOf, HoldsBucket, HoldsNextCheckpoint, IsEndWritten}
use Rattle.ob_stand.specs.Fills.{next_gate}
use Rattle.ob_stand.specs.Spare.{Spare, SameButIn}
use Rattle.ob_stand.specs.Stands.{RingStanding}
use Rattle.ob_store.specs.Disk.{Disk, Image}
use Rattle.ob_store.specs.Images.{Passes}
use Rattle.ob_store.specs.Runs.{write_notes}
use Rattle.ob_store.specs.declared.watch.Note.{Note}
use Rattle.ob_store.specs.declared.watch.Note.TheVariants as note
use Rattle.ob_twin.specs.Bodies.{closed_gate}

-- ---- the ring that is written

abbrev pub version_of : Kept → ℕ → Version
version_of r u = version_at (r.metas).versions u

-- the plain bytes of a slot of a bucket, as far as the stash has its row
abbrev pub slot_plain : Kept → ℕ → ℕ → List ℕ
slot_plain r u slot = plain_for (r.stash).rows (key_of_index (version_of r u) (index_with (version_of r u) slot))

-- the i-th bucket of the list
abbrev pub listed_at : Kept → ℕ → ℕ
listed_at r i = slice_index (r.metas).order i

-- the listed buckets are sealed in this generation, one behind the other from this number on
pub record AreSealedFrom (r : Kept) (generation next : ℕ) : Type 0 where
  pub under : (i : ℕ) → i < length (r.metas).order → (version_of r (listed_at r i)).generation ≡ generation
  pub from : (i : ℕ) → i < length (r.metas).order → (version_of r (listed_at r i)).base ≡ base_of r.p (generation, next) i

-- the rows that are left once the listed buckets were written
abbrev pub rows_left : Kept → Rows
rows_left r = without_buckets (r.stash).rows (r.metas).versions (r.metas).order

-- what the checkpoint then keeps
abbrev pub content_left : Kept → Content
content_left r = content_with r.metas r.book (rows_left r) r.counter

-- the seals of the listed buckets, and all that an end makes
abbrev pub bucket_seals : Kept → ℕ
bucket_seals r = length (r.metas).order * width r.p

abbrev pub all_seals : Kept → ℕ
all_seals r = bucket_seals r + checkpoint_cells r.p

-- ---- the end that it is

-- This end of the epoch that stands has the ring's content, fills the listed buckets, and gives each index the bytes of its slot.
pub record IsEndOfRing (s : RingStanding) (end : RingEnd) (generation : ℕ) (r : Kept) : Type 0 where
  pub follows : IsEndOf r.p s end
  pub under : s.generation ≡ generation
  pub content : end.content ≡ content_left r
  pub order : end.order ≡ (r.metas).order
  pub slots : (u j : ℕ) → is_one_of end.order u ≡ true → j < width r.p → end.slots u j ≡ slot_plain r u (rank_at (version_of r u) j)

-- ---- what is left of each part

-- the head and both registers are the same
abbrev pub SameFirst : Image → Image → Type 0
SameFirst a b = (k : ℕ) → k < 9 → a k ≡ b k

-- spare cells alone were written, at any moment
pub record WritesSpare (p : Params) (s : RingStanding) (old new : Disk) : Type 0 where
  pub rest : old.tells → SameButIn (Spare p s) new.cells old.cells
  pub passes : Passes (SameButIn (Spare p s)) old new

-- the buckets that the end fills are there
abbrev pub HoldsBuckets : Keys → Params → RingEnd → Image → Type 0
HoldsBuckets keys p end image = (u : ℕ) → is_one_of end.order u ≡ true → HoldsBucket keys p end u image

pub record FillsBuckets {T E : Type 0} (keys : Keys) (p : Params) (s : RingStanding) (end : RingEnd) (old new : Disk) (result : Result T E) : Type 0 where
  pub spare : WritesSpare p s old new
  pub written : old.tells → OnOk result (HoldsBuckets keys p end new.cells)

-- spare cells alone were written, and the buckets and the checkpoint of the end stay
pub record KeepsStanding (keys : Keys) (p : Params) (s : RingStanding) (end : RingEnd) (old new : Disk) : Type 0 where
  pub spare : WritesSpare p s old new
  pub buckets : old.tells → HoldsBuckets keys p end old.cells → HoldsBuckets keys p end new.cells
  pub checkpoint : old.tells → HoldsNextCheckpoint keys p s end old.cells → HoldsNextCheckpoint keys p s end new.cells

-- the gates of the log area of the epoch behind are closed
pub record ShutsGates {T E : Type 0} (keys : Keys) (p : Params) (s : RingStanding) (end : RingEnd) (old new : Disk) (result : Result T E) : Type 0 where
  pub stays : KeepsStanding keys p s end old new
  pub shut : old.tells → OnOk result ((b : ℕ) → b < p.batches → new.cells (next_gate p s b) ≡ closed_gate)

-- all of it
pub record WritesEnd {T E : Type 0} (keys : Keys) (p : Params) (s : RingStanding) (end : RingEnd) (old new : Disk) (result : Result T E) : Type 0 where
  pub spare : WritesSpare p s old new
  pub written : old.tells → OnOk result (IsEndWritten keys p s end new.cells)

-- ---- what is shown

-- the listed buckets in their order, each where it then lies; the checkpoint; the gates, closed; a sync
abbrev pub end_write_notes : Kept → ℕ → List Note
end_write_notes r epoch =
    refill_notes r.p (r.metas).versions (r.metas).order
    ++ (write_notes (area_of r.p epoch) (checkpoint_cells r.p) ++ (writes_of (log_gates r.p (suc epoch % 2)) ++ note.Sync ∷ []))

-- ---- refusals

-- the store's alone
abbrev pub IsOfStore : Fault → Type 0
IsOfStore (fault.StoreFault unsure) = unsure ≡ None
IsOfStore _ = ⊥
