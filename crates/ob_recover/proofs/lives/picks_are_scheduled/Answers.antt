use Rattle.ob_recover.proofs.NotesLaws.{picks_scheduled}
use Rattle.ob_recover.proofs.lives.picks_are_scheduled.Goals as goal

pub returns : goal.returns
returns c = picks_scheduled
