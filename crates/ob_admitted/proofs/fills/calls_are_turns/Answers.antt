use Rattle.ob_admitted.proofs.Calling as laws
use Rattle.ob_admitted.proofs.fills.calls_are_turns.Goals as goal

pub returns : goal.returns
returns c = laws.calls_are_turns
