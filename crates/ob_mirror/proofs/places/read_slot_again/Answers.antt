use Rattle.std.proofs.Common.{◌∙◌, sym}
use Rattle.ob_mirror.proofs.Again.{reads_bad}
use Rattle.ob_mirror.proofs.places.read_slot_again.Goals as goal

pub returns-clause-reads : goal.returns-clause-reads
returns-clause-reads g c = reads_bad c.args.asked.now c.args.slot _ _ (sym c.was_refused.ensures ∙ c.if-not-was_refused.false) c.read_slot-again.ensures.seen
