use Rattle.std.proofs.Common.{true}
use Rattle.ob_top.proofs.SelfTest.{eager_patient}
use Rattle.ob_top.proofs.drill.drill_in_memory.Goals as goal

pub returns-in-Ok-drill_on-clause-epochs : goal.returns-in-Ok-drill_on-clause-epochs
returns-in-Ok-drill_on-clause-epochs g c = c.in-Ok-drill_on.ensures.epochs (eager_patient true)

pub returns-in-Ok-drill_on-clause-digest : goal.returns-in-Ok-drill_on-clause-digest
returns-in-Ok-drill_on-clause-digest g c = c.in-Ok-drill_on.ensures.digest (eager_patient true)
