use Rattle.ob_recover.proofs.Telling as laws
use Rattle.ob_recover.proofs.schedule.batches_are_told.Goals as goal

pub returns : goal.returns
returns c = laws.batches_are_told
