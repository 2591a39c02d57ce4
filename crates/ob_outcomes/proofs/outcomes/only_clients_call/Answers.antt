use Rattle.ob_outcomes.proofs.Callers as callers
use Rattle.ob_outcomes.proofs.outcomes.only_clients_call.Goals as goal

pub returns-clause-stay : goal.returns-clause-stay
returns-clause-stay c = callers.clients_stay

pub returns-clause-only : goal.returns-clause-only
returns-clause-only c = callers.only_clients_call
