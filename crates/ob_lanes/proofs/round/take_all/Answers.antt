use Rattle.std.proofs.Common.{rules}
use Rattle.ob_lanes.proofs.Each.{each_at}
use Rattle.ob_lanes.proofs.Rounding.{first_taken}
use Rattle.ob_lanes.proofs.Taking.{take_begins, take_on}
use Rattle.ob_lanes.proofs.round.take_all.Goals as goal

pub loop-readers-init : goal.loop-readers-init
loop-readers-init g c = take_begins _ _ _ _ _ _ c.requires.hands

pub loop-readers-preserved : goal.loop-readers-preserved
loop-readers-preserved g c =
    let at = c.loop-readers in
    let disk = g.S.Store.disk in
    let gone = c.remove-place.ensures in
    let back = c.take_back.ensures in
    take_on g.S.Store.lane_seen g.S.Store.lane_faults c.args.round.now c.args.asked.now (disk c.args.store.now) (disk at.store) (disk c.take_back.new.store) c.args.readers.now at.readers c.take_back.new.readers c.remove-place.new.self c.remove-place.result
    at.invariant c.requires.hands.count (first_taken at.readers.hands.items c.remove-place.new.self.items c.remove-place.result (search rules) gone.value gone.by_index.2) gone.capacity back.goes back.keeps back.passes back.out back.back back.taken

pub returns-clause-unread : goal.returns-clause-unread
returns-clause-unread g c = λ empty. (c.loop-readers.invariant.unread (each_at _ _ empty)).1
