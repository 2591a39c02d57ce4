use Rattle.std.proofs.Common.{arith}
use Rattle.ob_mirror.proofs.Reread.{parted_ready, place_by, places_told, read_within}
use Rattle.ob_mirror.proofs.places.read_both.Goals as goal

pub read_parts-requires-clause-ready : goal.read_parts-requires-clause-ready
read_parts-requires-clause-ready g c = λ i lt.
    let phase = c.args.phase.now in
    let out = c.part_all.ensures.many_firsts in
    parted_ready phase.claims.now phase.round.now phase.asked.now _ _ _ (c.requires.ready i (omega (arith, lt, out))) (c.part_all.ensures.parted i (omega (arith, lt, out)))

pub join_all-requires-clause-within : goal.join_all-requires-clause-within
join_all-requires-clause-within g c = λ i lt.
    let phase = c.args.phase.now in
    let out = c.part_all.ensures.many_firsts in
    let many = c.part_all.ensures.many in
    read_within phase.claims.now phase.round.now phase.asked.now (g.A.Store.disk c.args.first.now) g.A.Store.lane_seen g.A.Store.lane_faults _ _ (c.read_parts.ensures.each i (omega (arith, lt, out, many)))

pub join_all-requires-clause-told : goal.join_all-requires-clause-told
join_all-requires-clause-told g c = λ i lt.
    let phase = c.args.phase.now in
    let out = c.part_all.ensures.many_firsts in
    let many = c.part_all.ensures.many in
    places_told phase.claims.now phase.round.now phase.asked.now (g.A.Store.disk c.args.first.now) g.A.Store.lane_seen g.A.Store.lane_faults g.B.Store.lane_seen _ _ _ (c.part_all.ensures.told i (omega (arith, lt, many)))
    (c.read_parts.ensures.each i (omega (arith, lt, out, many)))

pub returns-clause-each : goal.returns-clause-each
returns-clause-each g c = λ i lt.
    let phase = c.args.phase.now in
    let many = c.part_all.ensures.many in
    let out = c.part_all.ensures.many_firsts in
    place_by phase.claims.now phase.round.now phase.asked.now g.A.Store.lane_seen g.A.Store.lane_faults g.B.Store.lane_seen g.B.Store.lane_faults (g.A.Store.disk c.args.first.now) (g.B.Store.disk c.args.second.now) _ _ _ _ _
    (c.part_all.ensures.parted i lt) (c.read_parts.ensures.each i (omega (arith, lt, out))) (c.join_all.ensures.joined i (omega (arith, lt, many)))
