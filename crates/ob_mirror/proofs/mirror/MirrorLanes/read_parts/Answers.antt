use Rattle.ob_mirror.proofs.Reread.{place_read}
use Rattle.ob_mirror.proofs.mirror.MirrorLanes.read_parts.Goals as goal

pub returns-clause-each : goal.returns-clause-each
returns-clause-each g c = λ i lt.
    let m = c.args.self.now.halves in
    let one = g.A.Store.disk in
    let two = g.B.Store.disk in
    place_read m.first.ghost_name m.second.ghost_name m.apart (one m.first_then.value) (two m.second_then.value) m.made.events m.failed (one m.first.now) (two m.second.now) m.agree
    g.A.Store.lane_seen g.A.Store.lane_faults g.B.Store.lane_seen g.B.Store.lane_faults c.args.claims.now c.args.round.now c.args.asked.now _ _ (c.read_both.ensures.each i lt)
