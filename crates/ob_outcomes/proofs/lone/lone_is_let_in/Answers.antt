use Rattle.ob_outcomes.proofs.LetIn as let_in
use Rattle.ob_outcomes.proofs.LoneActs as acts
use Rattle.ob_outcomes.proofs.lone.lone_is_let_in.Goals as goal

pub returns-clause-used : goal.returns-clause-used
returns-clause-used c = acts.lone_uses_places

pub returns-clause-let_in : goal.returns-clause-let_in
returns-clause-let_in c = let_in.lone_is_let_in
