use Rattle.ob_schedule.specs.Sides.{side_number}
use Rattle.ob_wants.proofs.Pushed.{gates_more}
use Rattle.ob_wants.proofs.notes.push_gates.Goals as goal

pub loop-batch-preserved : goal.loop-batch-preserved
loop-batch-preserved c = gates_more c.args.p.now (side_number c.args.side) c.loop-batch.batch c.gate_at.result _ _ _ _ c.gate_at.ensures c.kept.ensures c.loop-batch.invariant c.in_ok-push.ensures
