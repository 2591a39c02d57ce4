use Rattle.ob_base.proofs.Pads.{padded_over}
use Rattle.ob_base.proofs.value.Value.new.Goals as goal

pub invariant_of-result : goal.invariant_of-result
invariant_of-result c = rw c.copy_over.ensures (padded_over c.args.bytes.now c.if-bytes-gt64.false)
