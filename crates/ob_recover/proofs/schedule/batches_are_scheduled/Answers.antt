use Rattle.ob_recover.proofs.Batch as laws
use Rattle.ob_recover.proofs.schedule.batches_are_scheduled.Goals as goal

pub returns : goal.returns
returns c = laws.batches_are_scheduled
