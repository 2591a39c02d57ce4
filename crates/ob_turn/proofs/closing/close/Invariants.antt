use Rattle.std.proofs.Common.{length}
use Rattle.ob_turn.proofs.TurnClosing.{IsGathering}
use Rattle.ob_turn.proofs.closing.close.Given as goal

abbrev pub invariant-loop-other : goal.invariant-loop-other
invariant-loop-other g l = IsGathering g.T.Stepped.steps l.fn.turn.table.shared.table_id l.fn.seats.items l.seats.items l.seat

abbrev pub decreases-loop-other : goal.decreases-loop-other
decreases-loop-other g l = length l.seats.items
