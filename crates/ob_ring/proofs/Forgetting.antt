-- Rows that leave the stash.
use Rattle.std.specs.Prelude.{◌≡◌, ℕ, List, [], ◌∷◌, ◌++◌, Option}
use Rattle.std.specs.declared.option.Option.TheVariants.{None, Some}
use Rattle.std.specs.FinMap as finite
use Rattle.std.proofs.Common.{refl}
use Rattle.ob_tables.specs.Version.{Version}
use Rattle.ob_tables.specs.Buckets.{version_at}
use Rattle.ob_ring.specs.Settling.{Rows}
use Rattle.ob_ring.specs.Plain.{without, without_buckets}

pub without_more : (m : Rows) (xs : List (Option ℕ)) (x : Option ℕ) → without m (xs ++ x ∷ []) ≡ without (without m xs) (x ∷ [])
without_more m [] x = refl
without_more m (None ∷ xs) x = without_more m xs x
without_more m (Some k ∷ xs) x = without_more (finite.remove m k) xs x

pub buckets_more : (m : Rows) (vs : List Version) (us : List ℕ) (u : ℕ) → without_buckets m vs (us ++ u ∷ []) ≡ without (without_buckets m vs us) (version_at vs u).keys
buckets_more m vs [] u = refl
buckets_more m vs (v ∷ us) u = buckets_more (without m (version_at vs v).keys) vs us u
