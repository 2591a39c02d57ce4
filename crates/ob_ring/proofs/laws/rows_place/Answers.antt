use Rattle.ob_ring.proofs.RowPlaces.{rows_place}
use Rattle.ob_ring.proofs.laws.rows_place.Goals as goal

pub returns : goal.returns
returns c = rows_place
