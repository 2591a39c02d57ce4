use Rattle.ob_session.proofs.Runs as runs
use Rattle.ob_session.proofs.laws.calls_agree.Goals as goal

pub returns : goal.returns
returns c = runs.calls_agree
