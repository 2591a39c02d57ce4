-- A bucket of a small store in numbers.
use Rattle.std.specs.Prelude.{◌≡◌}
use Rattle.std.proofs.Common.{refl}
use Rattle.ob_base.specs.declared.params.Params.{Params}
use Rattle.ob_base.specs.Tree.{buckets}
use Rattle.ob_base.specs.Layout.{meta_len}

pub small_store : (p : Params) → p.real ≡ 2 → p.dummies ≡ 3 → p.levels ≡ 2 → (p.real ≡ 2) × (p.dummies ≡ 3) × (meta_len p ≡ 35) × (buckets p ≡ 7)
unfolding buckets
small_store p z s l = rw (z, s, l) (refl, refl, refl, refl)
