-- There is an image with all that an end writes.
use Rattle.std.specs.Prelude.{◌≡◌, ◌<◌, ℕ, suc, ◌+◌, ◌-◌, ◌/◌, ◌%◌, ◌==◌, ◌&&◌, ◌^◌, Bool, false, if◌then◌else◌, nat_lt, List, [], length, Option}
use Rattle.std.specs.declared.option.Option.TheVariants.{None, Some}
use Rattle.ob_base.specs.declared.params.Params.{Params}
use Rattle.ob_base.specs.Tree.{width}
use Rattle.ob_base.specs.Layout.{Region, LogArea, CheckArea, Home, start_of, size_of, check_cell}
use Rattle.ob_store.specs.Disk.{Image}
use Rattle.ob_seal.specs.declared.keys.Keys.{Keys}
use Rattle.ob_seal.specs.Pieces.{onward, piece}
use Rattle.ob_seal.specs.Seals.{sealed}
use Rattle.ob_tables.specs.Version.{EMPTY}
use Rattle.ob_tables.specs.Buckets.{version_at}
use Rattle.ob_tables.specs.Spelling.{checkpoint_bytes, slot_bytes}
use Rattle.ob_schedule.specs.Paths.{is_one_of}
use Rattle.ob_ring.specs.Plain.{index_with}
use Rattle.ob_stand.specs.Ends.{RingEnd, IsEndOf, IsEndWritten}
use Rattle.ob_stand.specs.Spare.{Spare, SameButIn}
use Rattle.ob_stand.specs.Stands.{RingStanding}

abbrev pub is_in : Params → Region → ℕ → Bool
is_in p r c = if nat_lt c (start_of p r) then false else nat_lt c (start_of p r + size_of p r)

-- what the end makes of the index that has a slot
abbrev pub plain_of_index : RingEnd → ℕ → Option ℕ → List ℕ
plain_of_index end u None = slot_bytes EMPTY []
plain_of_index end u (Some j) = end.slots u j

-- a slot of a bucket in a home: sealed anew where the end fills the bucket there
abbrev pub slot_then : Keys → RingEnd → Image → (home u slot cell : ℕ) → List ℕ
slot_then keys end image home u slot c =
    if is_one_of end.order u && (version_at end.content.versions u).home == home
    then sealed keys c (version_at end.content.versions u).generation (onward (version_at end.content.versions u).base slot) (plain_of_index end u (index_with (version_at end.content.versions u) slot))
    else image c

abbrev pub home_then : Keys → Params → RingEnd → Image → (home c : ℕ) → List ℕ
home_then keys p end image home c = slot_then keys end image home ((c - start_of p (Home home)) / width p) ((c - start_of p (Home home)) % width p) c

-- the image with the closed log area, the next checkpoint and the buckets
abbrev pub end_image : Keys → Params → RingStanding → RingEnd → Image → Image
end_image keys p s end image c =
    if is_in p (LogArea (s.epoch % 2)) c then []
    else if is_in p (CheckArea (suc s.epoch % 2)) c then
    sealed keys c s.generation (onward 0 (c - check_cell p (suc s.epoch % 2) 0)) (piece (c - check_cell p (suc s.epoch % 2) 0) (checkpoint_bytes p (suc s.epoch) end.content))
    else if is_in p (Home 0) c then home_then keys p end image 0 c
    else if is_in p (Home 1) c then home_then keys p end image 1 c
    else image c

-- it differs in spare cells alone, and has what the end writes
pub record HasEnd (keys : Keys) (p : Params) (s : RingStanding) (end : RingEnd) (image : Image) : Type 0 where
  pub elsewhere : SameButIn (Spare p s) (end_image keys p s end image) image
  pub written : IsEndWritten keys p s end (end_image keys p s end image)

abbrev pub EndsExist : Type 0
EndsExist = (keys : Keys) (p : Params) (s : RingStanding) (end : RingEnd) (image : Image) → IsEndOf p s end → s.generation < 2 ^ 64 → ((u j : ℕ) → length (end.slots u j) ≡ 96)
    → HasEnd keys p s end image
