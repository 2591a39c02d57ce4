use Rattle.std.proofs.Common.{arith}
use Rattle.std.proofs.lemmas.Grind.{common_steps}
use Rattle.ob_order.proofs.Steps.{waits_before}
use Rattle.ob_versions.proofs.ledger.waiting_of.Goals as goal

pub returns : goal.returns
returns c = grind (arith, common_steps, waits_before)
