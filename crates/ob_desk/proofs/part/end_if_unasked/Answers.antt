use Rattle.std.proofs.Common.{refl}
use Rattle.ob_desk.proofs.part.end_if_unasked.Goals as goal

pub returns-else-goes_on-clause-room : goal.returns-else-goes_on-clause-room
returns-else-goes_on-clause-room c = record { params = refl; told = refl; holders = refl; going = λ h. h }
