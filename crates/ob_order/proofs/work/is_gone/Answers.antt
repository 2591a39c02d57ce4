use Rattle.std.proofs.Common.{arith}
use Rattle.std.proofs.lemmas.Grind.{common_steps}
use Rattle.ob_order.proofs.Steps.{drawn_before, past_last}
use Rattle.ob_order.proofs.work.is_gone.Goals as goal

pub returns-then-t-eq0 : goal.returns-then-t-eq0
returns-then-t-eq0 c = grind (arith, common_steps, past_last)

pub returns : goal.returns
returns c = grind (arith, common_steps, drawn_before)
