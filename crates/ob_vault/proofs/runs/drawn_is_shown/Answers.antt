use Rattle.ob_vault.proofs.DrawnChains.{drawn_shown}
use Rattle.ob_vault.proofs.runs.drawn_is_shown.Goals as goal

pub returns : goal.returns
returns c = drawn_shown
