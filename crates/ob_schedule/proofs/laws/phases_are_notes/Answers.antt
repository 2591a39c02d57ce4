use Rattle.ob_schedule.proofs.Phased.{phases_are_notes}
use Rattle.ob_schedule.proofs.laws.phases_are_notes.Goals as goal

pub returns : goal.returns
returns c = phases_are_notes
