use Rattle.ob_blind.proofs.RingLaws.{rings_pick_alike}
use Rattle.ob_blind.proofs.rings.rings_pick_alike.Goals as goal

pub returns : goal.returns
returns c = rings_pick_alike
