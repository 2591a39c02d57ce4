use Rattle.ob_outcomes.proofs.Meeting.{told_is_asked}
use Rattle.ob_outcomes.proofs.scripts.told_is_asked.Goals as goal

pub returns : goal.returns
returns c = told_is_asked
