use Rattle.ob_desk.proofs.Answered as proved
use Rattle.ob_desk.proofs.laws.causes.Goals as goal

pub returns-clause-replies : goal.returns-clause-replies
returns-clause-replies c = proved.replies_are_exact

pub returns-clause-aborted : goal.returns-clause-aborted
returns-clause-aborted c = proved.aborted_are_told

pub returns-clause-epoch_end : goal.returns-clause-epoch_end
returns-clause-epoch_end c = proved.ends_unasked

pub returns-clause-unasked : goal.returns-clause-unasked
returns-clause-unasked c = proved.unasked_end

pub returns-clause-asked : goal.returns-clause-asked
returns-clause-asked c = proved.asked_stay
