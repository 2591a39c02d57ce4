use Rattle.std.proofs.Common.{length}
use Rattle.ob_hall.proofs.Gathering.{IsClosing}
use Rattle.ob_hall.proofs.closing.Hall.close.Given as goal

abbrev pub invariant-loop-other : goal.invariant-loop-other
invariant-loop-other l = IsClosing l.fn.self l.fn.passes.items l.passes.items l.seat l.ear

abbrev pub decreases-loop-other : goal.decreases-loop-other
decreases-loop-other l = length l.passes.items
