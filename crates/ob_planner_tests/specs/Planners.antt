-- Private: planners of a small tree, between calls.
use Rattle.std.specs.Prelude.{◌≡◌, ℕ, List, replicate}
use Rattle.ob_base.specs.Planned.{Planned, most_jobs}
use Rattle.ob_base.specs.Tree.{buckets}
use Rattle.ob_base.specs.declared.params.Params.{Params}
use Rattle.ob_ring.specs.Ring.{Kept}

-- eight keys, and batches of two places
pub record IsSmall (p : Params) : Type 0 where
  pub keys : p.keys ≡ 8
  pub places : p.places ≡ 2

-- a ring of these parameters, with room for a plan, and counts that are all 0
pub record IsPlannerReady (p : Params) (ring : Kept) (index : List ℕ) (jobs : Planned) : Type 0 where
  pub params : ring.p ≡ p
  pub room : jobs.room ≡ most_jobs p
  pub place_room : jobs.place_room ≡ p.places
  pub counts : index ≡ replicate (buckets p) 0
