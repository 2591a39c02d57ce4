-- Private: keys on the path of their leaf.
use Rattle.std.specs.Prelude.{◌≡◌, ◌≢◌, ℕ, ◌<◌, ◌≤◌, cond, Option}
use Rattle.std.specs.declared.option.Option.TheVariants.{None, Some}
use Rattle.ob_base.specs.declared.params.Params.{Params}
use Rattle.ob_base.specs.Tree.{buckets, bucket_of}
use Rattle.ob_tables.specs.Version.{key_at, used_at}
use Rattle.ob_tables.specs.Buckets.{Buckets, version_at}
use Rattle.ob_ring.specs.declared.found.Found.{Found}
use Rattle.ob_ring.specs.FlatTable.{Spot, is_at}
use Rattle.ob_ring.specs.Arrays.{AreWhole}
use Rattle.ob_ring.specs.Picked.{SameSeals}

-- an index that holds the key, or none of the path's does
abbrev pub IsFound : Params → Buckets → ℕ → ℕ → Option Found → Type 0
IsFound p s key leaf None = (level j : ℕ) → level ≤ p.levels → key_at (version_at s.versions (bucket_of p level leaf)) j ≢ Some key
IsFound p s key leaf (Some f) = (f.bucket < buckets p) × (f.index < p.real) × (key_at (version_at s.versions f.bucket) f.index ≡ Some key)

-- the index at this spot is empty, and nothing else changed
pub record IsTakenOut (p : Params) (old new : Buckets) (own : Spot) : Type 0 where
  pub whole : AreWhole p new
  pub seals : SameSeals old new
  pub lifted : new.lifted ≡ old.lifted
  pub keys : (u j : ℕ) → key_at (version_at new.versions u) j ≡ cond (is_at u j own) None (key_at (version_at old.versions u) j)
  pub used : (u j : ℕ) → used_at (version_at new.versions u) j ≡ used_at (version_at old.versions u) j
