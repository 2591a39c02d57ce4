use Rattle.ob_vault.proofs.SealCounts.{seals_public}
use Rattle.ob_vault.proofs.acts.seals_are_public.Goals as goal

pub returns : goal.returns
returns c = seals_public
