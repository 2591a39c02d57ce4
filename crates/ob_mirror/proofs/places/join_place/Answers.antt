use Rattle.ob_mirror.proofs.Tells.{place_joined}
use Rattle.ob_mirror.proofs.places.join_place.Goals as goal

pub invariant_of-lane : goal.invariant_of-lane
invariant_of-lane g c =
    let slots = c.as_mut_slice.result.now in
    let again = c.read_again.ensures in
    record { tells = place_joined g.A.Store.lane_seen g.A.Store.lane_faults g.B.Store.lane_seen c.args.asked.now c.args.first c.args.second c.in-Some-Some.hand c.in-Some-Some.second c.read_again.new.second slots c.in-Some-Some.is-0 c.in-Some-Some.is-1 c.as_mut_slice.ensures.value c.requires.told again.log again.reads }
