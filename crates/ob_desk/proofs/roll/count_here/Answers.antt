use Rattle.std.proofs.Common.{arith}
use Rattle.std.proofs.lemmas.Grind.{common_steps}
use Rattle.ob_desk.proofs.Counted.{count_item}
use Rattle.ob_desk.proofs.roll.count_here.Goals as goal

pub loop-client-preserved : goal.loop-client-preserved
loop-client-preserved c = grind (arith, common_steps, count_item)
