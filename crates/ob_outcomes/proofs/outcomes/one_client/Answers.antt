use Rattle.ob_outcomes.proofs.Alone as alone
use Rattle.ob_outcomes.proofs.outcomes.one_client.Goals as goal

pub returns : goal.returns
returns c = alone.one_client
