use Rattle.ob_fair.proofs.Fair as fair
use Rattle.ob_fair.proofs.Own as own
use Rattle.ob_fair.proofs.shares_are_fair.Goals as goal

pub returns-clause-places : goal.returns-clause-places
returns-clause-places c = fair.places_are_shared

pub returns-clause-own : goal.returns-clause-own
returns-clause-own c = own.shares_are_own

pub returns-clause-none : goal.returns-clause-none
returns-clause-none c = own.none_is_kept
