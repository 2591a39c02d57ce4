use Rattle.ob_mirror.proofs.Tells.{follows_back}
use Rattle.ob_mirror.proofs.halves.HalvesStore.absorb.Goals as goal

pub invariant_of-self-clause-follows : goal.invariant_of-self-clause-follows
invariant_of-self-clause-follows g c =
    let lane = c.args.lane in
    follows_back g.A.Store.lane_seen g.A.Store.lane_faults g.B.Store.lane_seen g.B.Store.lane_faults lane.second.reads.events c.args.self.now.made.events c.joined-self.result.events lane.first lane.second.lane _ _ _ _ _ _ c.joined-self.ensures c.args.self.now.follows
    lane.tells c.absorb_both.ensures.first c.absorb_both.ensures.second
