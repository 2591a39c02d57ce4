use Rattle.ob_outcomes.proofs.Closed as closed
use Rattle.ob_outcomes.proofs.Due as due
use Rattle.ob_outcomes.proofs.outcomes.close_loses_none.Goals as goal

pub returns-clause-holders : goal.returns-clause-holders
returns-clause-holders c = due.each_has_holder

pub returns-clause-close : goal.returns-clause-close
returns-clause-close c = closed.close_loses_none
