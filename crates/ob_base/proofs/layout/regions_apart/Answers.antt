use Rattle.ob_base.proofs.LayoutLaws as laws
use Rattle.ob_base.proofs.layout.regions_apart.Goals as goal

pub returns : goal.returns
returns c = laws.regions_apart
