use Rattle.ob_schedule.proofs.Phased.{phases_join}
use Rattle.ob_vault.proofs.phases.phases_follow.Goals as goal

pub returns : goal.returns
returns c = phases_join
