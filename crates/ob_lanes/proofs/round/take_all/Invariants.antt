use Rattle.std.proofs.Common.{length}
use Rattle.ob_lanes.proofs.Taking.{IsTaking}
use Rattle.ob_lanes.proofs.round.take_all.Given as goal

abbrev pub invariant-loop-readers : goal.invariant-loop-readers
invariant-loop-readers g l = IsTaking g.S.Store.lane_seen g.S.Store.lane_faults l.round l.asked (g.S.Store.disk l.initial.store) (g.S.Store.disk l.store) l.initial.readers l.readers

abbrev pub decreases-loop-readers : goal.decreases-loop-readers
decreases-loop-readers g l = length l.readers.hands.items
