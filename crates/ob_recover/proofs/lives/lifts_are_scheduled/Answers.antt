use Rattle.ob_recover.proofs.NotesLaws.{lifts_scheduled}
use Rattle.ob_recover.proofs.lives.lifts_are_scheduled.Goals as goal

pub returns : goal.returns
returns c = lifts_scheduled
