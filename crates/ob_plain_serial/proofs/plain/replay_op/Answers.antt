use Rattle.std.proofs.Common.{refl}
use Rattle.ob_serial.proofs.Runs.{and_more}
use Rattle.ob_plain_serial.proofs.plain.replay_op.Goals as goal

pub returns-in-Get : goal.returns-in-Get
returns-in-Get c = rw c.in-Get.is (and_more c.finds.result _ _ _ c.finds.ensures refl)
