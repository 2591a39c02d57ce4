-- Tables before anything is kept in them.
use Rattle.std.specs.Prelude.{◌≡◌, false, [], replicate, None}
use Rattle.std.specs.FinMap as finite
use Rattle.ob_base.specs.declared.params.Params.{Params}
use Rattle.ob_base.specs.Tree.{buckets}
use Rattle.ob_tables.specs.Buckets.{Buckets, new_buckets}
use Rattle.ob_tables.specs.declared.tables.Tables.{Tables}

pub record AreFresh (p : Params) (t : Tables Buckets) : Type 0 where
  pub book : t.book ≡ replicate p.keys None
  pub metas : t.metas ≡ new_buckets p
  pub rows : (t.stash).rows ≡ finite.empty
  pub room : (t.stash).room ≡ p.keys

-- no bucket is lifted, none is listed, and the stash has room for all keys
pub record AreIdle (p : Params) (t : Tables Buckets) : Type 0 where
  pub lifted : (t.metas).lifted ≡ replicate (buckets p) false
  pub order : (t.metas).order ≡ []
  pub room : (t.stash).room ≡ p.keys
