use Rattle.ob_ring.proofs.Places.{fills_place}
use Rattle.ob_ring.proofs.laws.fills_place.Goals as goal

pub returns : goal.returns
returns c = fills_place
