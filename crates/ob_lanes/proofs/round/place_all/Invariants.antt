use Rattle.ob_lanes.specs.Placing.{AreSlotsPlaced}
use Rattle.ob_lanes.proofs.round.place_all.Given as goal

abbrev pub invariant-loop-i : goal.invariant-loop-i
invariant-loop-i l = AreSlotsPlaced l.part l.i l.initial.slots l.slots
