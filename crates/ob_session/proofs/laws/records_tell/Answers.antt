use Rattle.ob_session.proofs.Runs as runs
use Rattle.ob_session.proofs.laws.records_tell.Goals as goal

pub returns : goal.returns
returns c = runs.records_tell
