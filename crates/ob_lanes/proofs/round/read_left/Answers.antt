use Rattle.std.proofs.Common.{refl, sym, ap, ◌∙◌}
use Rattle.ob_claims.specs.ClaimCalls.{parts_made}
use Rattle.ob_lanes.proofs.Left.{left_begins, left_ends, left_goes_on}
use Rattle.ob_lanes.proofs.round.read_left.Goals as goal

pub loop-place-init : goal.loop-place-init
loop-place-init g c = left_begins _ _ _ _ _ _ _ c.requires.own c.requires.come

pub loop-place-preserved : goal.loop-place-preserved
loop-place-preserved g c =
    let drawn = c.in-Some.ensures in
    let read = c.read_slot.ensures in
    left_goes_on (g.S.Store.disk c.args.store.now) g.S.Store.lane_seen g.S.Store.lane_faults c.args.round.now c.args.asked.now c.args.lane.now c.loop-place.lane c.read_slot.new.lane c.args.readers.now c.loop-place.readers c.next.new.seat _ c.read_slot.result c.in-Some.place
    c.loop-place.invariant c.requires.start c.requires.jobs c.requires.slots drawn.own drawn.parts drawn.claimed read.place read.read read.seen read.later refl

pub returns-clause-all : goal.returns-clause-all
returns-clause-all g c = λ every.
    let was = c.loop-place.invariant in
    c.in_default.ensures.all_claimed (was.parts ∙ every ∙ ap parts_made (λ i. (sym was.rest i).claims))

pub returns-clause-left : goal.returns-clause-left
returns-clause-left g c = left_ends _ _ _ c.args.round.now _ _ _ _ c.loop-place.readers c.next.new.seat c.loop-place.invariant c.requires.start c.requires.jobs c.in_default.ensures.claimed
