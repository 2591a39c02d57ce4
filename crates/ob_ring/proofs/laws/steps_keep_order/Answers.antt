use Rattle.ob_ring.proofs.TableLaws as laws
use Rattle.ob_ring.proofs.laws.steps_keep_order.Goals as goal

pub returns : goal.returns
returns c = laws.steps_keep_order
