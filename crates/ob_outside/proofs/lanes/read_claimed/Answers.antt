use Rattle.std.proofs.Common.{None}
use Rattle.ob_store.specs.Disk.{silent}
use Rattle.ob_lanes.proofs.Claiming.{begins, goes_on}
use Rattle.ob_outside.specs.declared.store.FileLane.{FileLane}
use Rattle.ob_outside.proofs.lanes.read_claimed.Goals as goal

pub loop-hand-init : goal.loop-hand-init
loop-hand-init c = begins _ _ _ _ _ _ _ c.requires.ready

pub loop-hand-preserved : goal.loop-hand-preserved
loop-hand-preserved c =
    let drawn = c.in-Some.ensures in
    let read = c.read_slot-slot.ensures in
    goes_on (silent 0) (λ (lane : FileLane). None) (λ (lane : FileLane). lane.faults) c.args.claims.now c.args.round.now c.args.asked.now c.args.hand.now c.loop-hand.hand c.next.new.seat c.read_slot-slot.new.lane c.push_reserved.new.self c.read_slot-slot.result c.in-Some.place
    c.loop-hand.invariant c.requires.ready.start c.requires.jobs drawn.own drawn.parts drawn.claimed read.place read.read tt read.later c.push_reserved.ensures.items c.push_reserved.ensures.capacity
