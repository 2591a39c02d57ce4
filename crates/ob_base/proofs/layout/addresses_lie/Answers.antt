use Rattle.ob_base.proofs.LayoutLaws as laws
use Rattle.ob_base.proofs.layout.addresses_lie.Goals as goal

pub returns : goal.returns
returns c = laws.addresses_lie
