use Rattle.ob_outcomes.proofs.Closed as closed
use Rattle.ob_outcomes.proofs.Due as due
use Rattle.ob_outcomes.proofs.Unended as unended
use Rattle.ob_outcomes.proofs.outcomes.epoch_end_is_due.Goals as goal

pub returns-clause-queue : goal.returns-clause-queue
returns-clause-queue c = due.queue_fits

pub returns-clause-waiting : goal.returns-clause-waiting
returns-clause-waiting c = due.waiting_have_asked

pub returns-clause-signed_off : goal.returns-clause-signed_off
returns-clause-signed_off c = due.signed_off_have_asked

pub returns-clause-close : goal.returns-clause-close
returns-clause-close c = closed.asked_outlast_close

pub returns-clause-pads : goal.returns-clause-pads
returns-clause-pads c = due.pads_change_nothing

pub returns-clause-close_behind_pads : goal.returns-clause-close_behind_pads
returns-clause-close_behind_pads c = due.asked_outlast_pads

pub returns-clause-live : goal.returns-clause-live
returns-clause-live c = due.waiting_are_live

pub returns-clause-none_yet : goal.returns-clause-none_yet
returns-clause-none_yet c = unended.none_ended_yet

pub returns-clause-none_ends : goal.returns-clause-none_ends
returns-clause-none_ends c = unended.due_closes_end_none
