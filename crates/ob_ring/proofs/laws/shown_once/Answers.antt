use Rattle.ob_ring.proofs.TableLaws as laws
use Rattle.ob_ring.proofs.laws.shown_once.Goals as goal

pub returns : goal.returns
returns c = laws.shown_once
