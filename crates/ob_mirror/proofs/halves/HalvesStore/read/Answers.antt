use Rattle.ob_mirror.proofs.Tells.{lanes_read, lanes_read_again}
use Rattle.ob_mirror.proofs.halves.HalvesStore.read.Goals as goal

pub invariant_of-lane : goal.invariant_of-lane
invariant_of-lane g c =
    let lane = c.args.lane.now in
    record { tells = lanes_read c.args.cell lane.second.reads.events _ _ _ _ _ _ c.noted-lane.ensures lane.tells c.read.ensures.seen c.read.ensures.cause.later }

pub invariant_of-lane-in-Ok-read : goal.invariant_of-lane-in-Ok-read
invariant_of-lane-in-Ok-read g c =
    let lane = c.args.lane.now in
    record { tells = lanes_read_again c.args.cell lane.second.reads.events _ _ _ _ _ _ _ c.noted-lane.ensures lane.tells c.read.ensures.seen c.read-2.ensures.seen c.in-Err.ensures.cause.failed }

pub invariant_of-lane-in-Err-read : goal.invariant_of-lane-in-Err-read
invariant_of-lane-in-Err-read g c =
    let lane = c.args.lane.now in
    record { tells = lanes_read_again c.args.cell lane.second.reads.events _ _ _ _ _ _ _ c.noted-lane.ensures lane.tells c.read.ensures.seen c.read-2.ensures.seen c.in-Err.ensures.cause.failed }
