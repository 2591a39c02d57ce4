use Rattle.std.proofs.Common.{◌-◌, length, vec_capacity}
use Rattle.ob_lanes.proofs.Claiming.{IsReading}
use Rattle.ob_lanes.proofs.reading.read_claimed.Given as goal

abbrev pub invariant-loop-places : goal.invariant-loop-places
invariant-loop-places g l = IsReading (g.S.Store.disk l.store) g.S.Store.lane_seen g.S.Store.lane_faults l.claims l.round l.asked l.initial.hand l.hand

abbrev pub decreases-loop-places : goal.decreases-loop-places
decreases-loop-places g l = vec_capacity l.hand.part - length l.hand.part.items
