use Rattle.std.proofs.Common.{rules, ◌≡◌, ◌-◌, ◌∷◌, [], Some, length, sym, ap, subst, ◌∙◌, length-append, arith}
use Rattle.ob_store.proofs.Serving.{goes_then}
use Rattle.ob_store.proofs.Keeping.{keeps_then, same_still}
use Rattle.ob_store.proofs.Events.{joined}
use Rattle.ob_claims.specs.declared.claims.Claims.{Claims}
use Rattle.ob_claims.specs.ClaimCalls.{IsClaimSeat}
use Rattle.ob_lanes.specs.declared.hand.Hand.{Hand}
use Rattle.ob_lanes.specs.Rounds.{IsFreshHand, IsLentHand, hands_in}
use Rattle.ob_lanes.proofs.Each.{Each, at_each, each_append}
use Rattle.ob_lanes.proofs.Rounding.{first_taken, fresh_more, fresh_still, hands_more, room_lent}
use Rattle.ob_lanes.proofs.round.make_hands.Goals as goal

-- a part is left to take off
pub split-seat-requires-clause-parts : goal.split-seat-requires-clause-parts
split-seat-requires-clause-parts g c =
    let was = c.loop.invariant.lent.seats in
    let count = c.loop.invariant.count in
    let none = ap length c.requires.none in
    let seats = c.requires.seats in
    let more = c.loop.auto.counter-end in
    omega (arith, was, count, none, seats, more)

pub loop-preserved : goal.loop-preserved
loop-preserved g c =
    let at = c.loop in
    let i = at.invariant in
    let seen = g.S.Store.lane_seen in
    let faults = g.S.Store.lane_faults in
    let disk = g.S.Store.disk in
    let old = disk c.args.store.now in
    let mid = disk at.store in
    let new = disk c.lane.new.self in
    let made = c.in-Ok.ensures in
    let gone = c.remove-part.ensures in
    let pushed = c.push_reserved.ensures in
    let cut = c.split-seat.ensures in
    let lent = i.lent in
    let hand : Hand g.row.S-Lane.Denot = record { lane = c.in-Ok.lane; seat = c.split-seat.result; part = c.clear.new.self } in
    let more = ap hands_in pushed.items ∙ hands_more at.readers.hands.items (Some hand) in
    let longer = length-append at.readers.hands.items (Some hand ∷ []) in
    let further = length-append (hands_in at.readers.hands.items) (hand ∷ []) in
    let taken = first_taken at.readers.parts.items c.remove-part.new.self.items c.remove-part.result (search rules) gone.value gone.by_index.2 in
    let come = lent.come in
    let given : c.split-seat.result.me.0.reached ≡ at.readers.seat.me.0.reached = λ j. (cut.given j).reached in
    let kept : c.split-seat.new.seat.me.0.reached ≡ at.readers.seat.me.0.reached = λ j. (cut.kept j).reached in
    let parts : c.split-seat.new.seat.me.0.parts ≡ at.readers.seat.me.0.parts - 1 = λ j. (cut.kept j).parts in
    let here : IsLentHand c.args.readers.now.claims c.args.round.now hand = record {
      ready = record {
        own = subst (λ (claims : Claims). IsClaimSeat claims c.split-seat.result) lent.claims cut.own.1;
        come = omega (arith, come, given);
        start = lent.start;
        unclaimed = λ j. (cut.given j).claimed;
        empty = c.clear.ensures.items;
      };
      one = λ j. (cut.given j).parts;
    } in
    record {
      goes = goes_then old mid new i.goes made.goes;
      keeps = keeps_then old mid new i.keeps made.keeps;
      passes = same_still old mid new i.passes made.goes made.time made.crash made.keeps;
      seen = joined [] [] old.seen mid.seen new.seen i.seen made.seen;
      out = (let was = i.out in let out = made.out in let many = ap length more in omega (arith, was, out, many, further));
      fresh = subst (Each (IsFreshHand seen faults new.seen)) (sym more) (fresh_more seen faults mid.seen new.seen (hands_in at.readers.hands.items) hand made.seen i.fresh made.fresh made.fresh_seen);
      ready = subst (Each (IsLentHand c.args.readers.now.claims c.args.round.now)) (sym more) (each_append (IsLentHand c.args.readers.now.claims c.args.round.now) (hands_in at.readers.hands.items) (hand ∷ []) i.ready (here, tt));
      lent = record {
        claims = lent.claims;
        start = lent.start;
        own = cut.own.0;
        come = omega (arith, come, kept);
        unclaimed = (λ j. (cut.kept j).claimed) ∙ lent.unclaimed;
        there = (let was = lent.there in let many = ap length more in let all = ap length pushed.items in omega (arith, was, many, all, longer, further));
        seats = (let was = lent.seats in let all = ap length pushed.items in let count = i.count in let none = ap length c.requires.none in let some = c.requires.seats in let further = at.auto.counter-end in omega (arith, was, all, longer, parts, count, none, some, further));
        many = (let was = lent.many in let all = ap length pushed.items in let less = ap length taken in omega (arith, was, all, less, longer));
        slots = lent.slots;
        hands_room = pushed.capacity ∙ lent.hands_room;
        parts_room = gone.capacity ∙ lent.parts_room;
        each_room = λ room was. room_lent room at.readers _ c.remove-part.result hand taken more c.clear.ensures.capacity (lent.each_room room was);
      };
      count = (let was = i.count in let all = ap length pushed.items in omega (arith, was, all, longer));
    }

pub returns-in-Err-clause-fresh : goal.returns-in-Err-clause-fresh
returns-in-Err-clause-fresh g c =
    let disk = g.S.Store.disk in
    at_each (IsFreshHand g.S.Store.lane_seen g.S.Store.lane_faults (disk c.lane.new.self).seen) (hands_in c.loop.readers.hands.items)
    (fresh_still g.S.Store.lane_seen g.S.Store.lane_faults (disk c.loop.store).seen (disk c.lane.new.self).seen (hands_in c.loop.readers.hands.items) c.in-Err.ensures.seen c.loop.invariant.fresh)

pub returns-clause-fresh : goal.returns-clause-fresh
returns-clause-fresh g c = at_each (IsFreshHand g.S.Store.lane_seen g.S.Store.lane_faults (g.S.Store.disk c.loop.store).seen) (hands_in c.loop.readers.hands.items) c.loop.invariant.fresh

pub returns-in-Err-clause-ready : goal.returns-in-Err-clause-ready
returns-in-Err-clause-ready g c = at_each (IsLentHand c.args.readers.now.claims c.args.round.now) (hands_in c.loop.readers.hands.items) c.loop.invariant.ready

pub returns-clause-ready : goal.returns-clause-ready
returns-clause-ready g c = at_each (IsLentHand c.args.readers.now.claims c.args.round.now) (hands_in c.loop.readers.hands.items) c.loop.invariant.ready
