use Rattle.std.proofs.Common.{[]}
use Rattle.ob_report.proofs.Gathering.{gathers_whole, nothing}
use Rattle.ob_report.proofs.page.make_room.Goals as goal

pub returns-then-is_full-clause-gathers : goal.returns-then-is_full-clause-gathers
returns-then-is_full-clause-gathers g c = c.hand_over.ensures.gathers

pub returns-clause-gathers : goal.returns-clause-gathers
returns-clause-gathers g c = gathers_whole [] _ _ tt (nothing _ _ _)
