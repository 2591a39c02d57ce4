-- The small store, computed.
use Rattle.std.proofs.Common.{refl}
use Rattle.ob_base.specs.Layout.{record_cells, log_cells, checkpoint_len, checkpoint_cells, home_cells}
use Rattle.ob_base.specs.Tree.{buckets}
use Rattle.ob_ring.proofs.Rows.{p0}
use Rattle.ob_recover.specs.Samples.{Sampled}

pub sampled : Sampled
unfolding buckets record_cells log_cells checkpoint_len checkpoint_cells home_cells
sampled = record { p = p0; numbers = refl; opened = refl; shared = refl; logged = refl; lifted = refl; leaves = refl }
