use Rattle.ob_stand.proofs.Steps as laws
use Rattle.ob_stand.proofs.values.fetch_is_answered.Goals as goal

pub returns : goal.returns
returns c = laws.fetch_is_answered
