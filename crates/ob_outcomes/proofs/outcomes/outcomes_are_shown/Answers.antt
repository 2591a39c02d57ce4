use Rattle.ob_outcomes.proofs.Noted as noted
use Rattle.ob_outcomes.proofs.Numbered as numbered
use Rattle.ob_outcomes.proofs.outcomes.outcomes_are_shown.Goals as goal

pub returns-clause-outcomes : goal.returns-clause-outcomes
returns-clause-outcomes c = noted.outcomes_are_shown

pub returns-clause-numbered : goal.returns-clause-numbered
returns-clause-numbered c = numbered.records_are_numbered
