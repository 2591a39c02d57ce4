use Rattle.std.proofs.Common.{refl, subst}
use Rattle.ob_words.specs.declared.work.Command.{Command}
use Rattle.ob_words.specs.Work.{Asks}
use Rattle.ob_top.proofs.Commands.{few_lanes}
use Rattle.ob_top.proofs.top.do_watched.Goals as goal

pub returns-in-Format-clause-does : goal.returns-in-Format-clause-does
returns-in-Format-clause-does g c = rw c.in-Format.is (c.format_on.ensures.ends, c.format_on.ensures.left, refl)

pub returns-in-Run-clause-does : goal.returns-in-Run-clause-does
returns-in-Run-clause-does g c = rw c.in-Run.is c.run_on.ensures.done

pub run_on-requires-clause-lanes : goal.run_on-requires-clause-lanes
run_on-requires-clause-lanes g c κs within = few_lanes c.requires.asked.0 c.in-Run.lanes c.in-Run.turns _ _ _ (subst (λ (command : Command). Asks c.requires.asked.0 command) c.in-Run.is c.requires.asked.1)
