use Rattle.std.proofs.Common.{◌+◌, ◌-◌}
use Rattle.ob_lanes.proofs.Left.{IsReadingLeft}
use Rattle.ob_lanes.proofs.round.read_left.Given as goal

abbrev pub invariant-loop-place : goal.invariant-loop-place
invariant-loop-place g l = IsReadingLeft (g.S.Store.disk l.store) g.S.Store.lane_seen g.S.Store.lane_faults l.round l.asked l.initial.lane l.lane l.initial.readers l.readers

abbrev pub decreases-loop-place : goal.decreases-loop-place
decreases-loop-place g l = l.round.start + l.round.count - l.readers.seat.me.0.reached
