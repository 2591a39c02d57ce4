use Rattle.std.proofs.Common.{[]}
use Rattle.ob_store.proofs.Events.{none_noted}
use Rattle.ob_store.proofs.Lanes.{lane_noted}
use Rattle.ob_store.proofs.Serving.{goes_then}
use Rattle.ob_mirror.proofs.Alone.{still_by, still_same}
use Rattle.ob_mirror.proofs.Tells.{agree_still, follows_still, lanes_new}
use Rattle.ob_mirror.proofs.halves.HalvesStore.lane.Goals as goal

pub invariant_of-self-clause-follows : goal.invariant_of-self-clause-follows
invariant_of-self-clause-follows g c =
    follows_still c.args.self.now.made.events _ _ _ _ _ _ c.lane.ensures.seen (still_by _ _ c.lane.ensures.goes) (none_noted (g.B.Store.disk c.args.self.now.second.now).seen) (still_same (g.B.Store.disk c.args.self.now.second.now)) c.args.self.now.follows

pub invariant_of-self-in-Ok-lane-2 : goal.invariant_of-self-in-Ok-lane-2
invariant_of-self-in-Ok-lane-2 g c =
    let one = c.lane.ensures in
    let two = c.lane-2.ensures in
    record {
      agree = agree_still _ _ _ _ _ c.args.self.now.agree one.goes one.keeps two.goes two.keeps;
      follows = follows_still c.args.self.now.made.events _ _ _ _ _ _ one.seen (still_by _ _ one.goes) two.seen (still_by _ _ two.goes) c.args.self.now.follows;
    }

pub invariant_of-result : goal.invariant_of-result
invariant_of-result g c = record { tells = lanes_new c.new.result.events _ _ _ _ _ c.new.ensures c.in-Ok.ensures.fresh_seen c.in-Ok-lane.ensures.fresh_seen }

pub invariant_of-self-in-Err-lane-clause-follows : goal.invariant_of-self-in-Err-lane-clause-follows
invariant_of-self-in-Err-lane-clause-follows g c =
    let one = g.A.Store.disk in
    let had = g.A.Store.lane_seen c.in-Ok.lane in
    follows_still c.args.self.now.made.events _ _ _ _ _ _
    (lane_noted [] (one c.args.self.now.first.now).seen (one c.lane.new.self).seen had had (one c.absorb.new.self).seen c.in-Ok.ensures.fresh_seen c.lane.ensures.seen (none_noted had) c.absorb.ensures.seen)
    (still_by (one c.args.self.now.first.now) (one c.absorb.new.self) (goes_then (one c.args.self.now.first.now) (one c.lane.new.self) (one c.absorb.new.self) c.lane.ensures.goes c.absorb.ensures.goes))
    c.lane-2.ensures.seen (still_by _ _ c.lane-2.ensures.goes) c.args.self.now.follows
