use Rattle.ob_ring.proofs.TableLaws as laws
use Rattle.ob_ring.proofs.laws.lifts_take_all.Goals as goal

pub returns : goal.returns
returns c = laws.lifts_take_all
