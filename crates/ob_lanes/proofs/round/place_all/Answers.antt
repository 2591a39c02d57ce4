use Rattle.std.proofs.Common.{[], Ok, refl, arith}
use Rattle.ob_lanes.specs.declared.hand.Slot.{Slot}
use Rattle.ob_lanes.specs.Hands.{slot_at}
use Rattle.ob_lanes.proofs.Places.{none_placed, placed_more}
use Rattle.ob_lanes.proofs.round.place_all.Goals as goal

pub loop-i-init : goal.loop-i-init
loop-i-init c = none_placed _ _

pub loop-i-preserved : goal.loop-i-preserved
loop-i-preserved c =
    let i = c.loop-i.i in
    let part = c.args.part.now in
    let blank : Slot = record { place = 0; outcome = Ok [] } in
    let within = c.requires.within i blank c.loop-i-test.true in
    let long = c.loop-i.invariant.long in
    placed_more part c.args.slots.now c.loop-i.slots _ i (slot_at part i) c.loop-i-test.true refl (omega (arith, within, long)) refl c.loop-i.invariant
