use Rattle.std.proofs.Common.{◌-◌, None, length, vec_capacity}
use Rattle.ob_store.specs.Disk.{silent}
use Rattle.ob_lanes.proofs.Claiming.{IsReading}
use Rattle.ob_outside.specs.declared.store.FileLane.{FileLane}
use Rattle.ob_outside.proofs.lanes.read_claimed.Given as goal

abbrev pub invariant-loop-hand : goal.invariant-loop-hand
invariant-loop-hand l = IsReading (silent 0) (λ (lane : FileLane). None) (λ (lane : FileLane). lane.faults) l.claims l.round l.asked l.initial.hand l.hand

abbrev pub decreases-loop-hand : goal.decreases-loop-hand
decreases-loop-hand l = vec_capacity l.hand.part - length l.hand.part.items
