use Rattle.ob_run.proofs.Idle.{idle_halls}
use Rattle.ob_run.proofs.ending.idle_halls_have_none.Goals as goal

pub returns : goal.returns
returns c = idle_halls
