use Rattle.ob_vault.proofs.OpenedLife.{opened_lives}
use Rattle.ob_vault.proofs.runs.openings_go_on.Goals as goal

pub returns : goal.returns
returns c = λ keys p image f found word_of s here small. opened_lives keys p word_of s image f found here small
