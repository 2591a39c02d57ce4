-- Private: buckets that were sealed and are not yet written.
use Rattle.std.specs.Prelude.{◌≡◌, ◌≢◌, ◌<◌, ◌≤◌, ℕ, ◌+◌, ◌*◌, ◌/◌, ◌%◌, ◌^◌, List, [], length, slice_index_or}
use Rattle.ob_base.specs.Layout.{slot_cell}
use Rattle.ob_base.specs.Tree.{width}
use Rattle.ob_cells.specs.Windows.{IsSlotSealed}
use Rattle.ob_ring.specs.Ring.{Kept}
use Rattle.ob_seal.specs.declared.keys.Keys.{Keys}
use Rattle.ob_end.specs.EndWrites.{listed_at, slot_plain, version_of}

-- the slots of a bucket are sealed for where it lies, under numbers in a row
abbrev pub IsBucketSealed : Keys → ℕ → ℕ → Kept → ℕ → List (List ℕ) → Type 0
IsBucketSealed keys generation number r u slots =
    (j : ℕ) → j < width r.p
    → IsSlotSealed keys (slot_cell r.p (version_of r u).home u 0 + j) generation (number + j) (slot_plain r u (j % 2 ^ 8)) (slice_index_or slots j [])

-- the listed buckets from the i-th on that are in the same 32 as it are sealed, unless it is their first
abbrev pub IsGroupReady : Keys → ℕ → ℕ → Kept → ℕ → List (List (List ℕ)) → Type 0
IsGroupReady keys generation first r i rows =
    (k : ℕ) → i % 32 ≢ 0 → i ≤ k → k < length (r.metas).order → k / 32 ≡ i / 32
    → IsBucketSealed keys generation (first + k * width r.p) r (listed_at r k) (slice_index_or rows (k % 32) [])
