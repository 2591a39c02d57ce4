-- The begin of a generation.
use Rattle.std.specs.Prelude.{◌⊎◌, ◌≤◌, ℕ, suc}
use Rattle.ob_base.specs.declared.params.Params.{Params}
use Rattle.ob_store.specs.Disk.{Disk, Image}
use Rattle.ob_store.specs.Images.{LeavesOnly}
use Rattle.ob_seal.specs.declared.keys.Keys.{Keys}
use Rattle.ob_twin.specs.Keyed.{tagging}
use Rattle.ob_twin.specs.Register.{KeepsAt}
use Rattle.ob_start.specs.Beginning.{BeginsFrom}
use Rattle.ob_stand.specs.Stands.{RingStanding, Stands, OneOf, with_generation}

-- where the generation's register stands decides
pub record BeginDecides (keys : Keys) (p : Params) (s : RingStanding) (g : ℕ) (c d : Image) : Type 0 where
  pub old : KeepsAt (tagging keys) 1 d s.generation c → Stands keys p s c
  pub new : s.generation ≤ g → KeepsAt (tagging keys) 1 d g c → Stands keys p (with_generation s g) c

abbrev pub OpenBegins : Type 0
OpenBegins = (keys : Keys) (p : Params) (s : RingStanding) (g : ℕ) (c d : Image) → Stands keys p s d → BeginDecides keys p s g c d

-- an image of before, or what was read, in the old generation or the new one
abbrev pub EntryOr : Keys → Params → RingStanding → Disk → Image → Type 0
EntryOr keys p s old c = old.may_leave c ⊎ OneOf keys p s (with_generation s (suc s.generation)) c

-- A crash at any moment of the begin leaves one of these.
abbrev pub OpensLeave : {S : Type 0} → (S → Disk) → Type 0
OpensLeave {S} disk = (keys : Keys) (p : Params) (s : RingStanding) (old new : S) → (disk old).tells → Stands keys p s (disk old).cells → BeginsFrom disk keys s.generation old new
    → LeavesOnly (disk old) (disk new) (EntryOr keys p s (disk old))
