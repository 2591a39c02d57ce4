-- What the planner keeps at all times, whatever its store tells.
use Rattle.std.specs.Prelude.{ℕ, ◌<◌}
use Rattle.ob_base.specs.Tree.{buckets}
use Rattle.ob_tables.specs.Buckets.{version_at}
use Rattle.ob_tables.specs.Content.{FitsBook, FitsSeals}
use Rattle.ob_stand.specs.Plans.{AreAllWhole}
use Rattle.ob_ring.specs.FlatTable.{FlatTable}
use Rattle.ob_ring.specs.Ring.{Kept, StandsFor}
use Rattle.ob_stand.specs.Values.{Values}
use Rattle.ob_stand.specs.Carries.{Carries, Slots}

-- The planner's numbers are in range, and the rows of its stash are those of some map, with some bytes in the slots.
pub record IsPlannerFit (ring : Kept) : Type 0 where
  pub table : FlatTable
  pub stands : StandsFor ring table
  pub slots : Slots
  pub map : Values
  pub carries : Carries ring.p table (ring.stash).rows slots map
  pub book : FitsBook ring.p ring.book
  pub seals : (u : ℕ) → u < buckets ring.p → FitsSeals (version_at (ring.metas).versions u)
  pub whole : AreAllWhole ring.p ring.metas
