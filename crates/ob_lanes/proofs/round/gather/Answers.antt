use Rattle.std.proofs.Common.{◌≡◌, ◌+◌, ℕ, [], ◌∷◌, ◌++◌, Some, length, sym, ap, subst, ◌∙◌, length-append, arith, vec_capacity}
use Rattle.ob_claims.specs.declared.claims.Claims.{Claims}
use Rattle.ob_claims.specs.ClaimCalls.{IsClaimSeat, parts_made}
use Rattle.ob_lanes.specs.declared.readers.Readers.{Readers}
use Rattle.ob_lanes.specs.Rounds.{AreGathered}
use Rattle.ob_lanes.proofs.Gathering.{gathered_more}
use Rattle.ob_lanes.proofs.Last.{last_brings, last_read, out_popped, popped_more, room_last}
use Rattle.ob_lanes.proofs.round.gather.Goals as goal

pub take_all-requires : goal.take_all-requires
take_all-requires g c = record { hands = out_popped g.S.Store.lane_seen g.S.Store.lane_faults c.args.round.now c.args.asked.now (g.S.Store.disk c.args.store.now) c.args.readers.now c.pop_hand-lane.new.hands c.pop_hand-lane.result c.requires.hands c.pop_hand-lane.ensures.popped }

pub join-requires : goal.join-requires
join-requires g c =
    let has = last_read g.S.Store.lane_seen g.S.Store.lane_faults c.args.round.now c.args.asked.now (g.S.Store.disk c.args.store.now) c.args.readers.now c.pop_hand-lane.new.hands.items c.pop_hand-lane.result c.requires.hands c.pop_hand-lane.ensures.popped in
    let back = c.take_all.ensures.back in
    record { own = (back.own, subst (λ (claims : Claims). IsClaimSeat claims c.pop_hand-lane.result.seat) (sym back.claims) has.read.seat.own) }

pub place_in-requires : goal.place_in-requires
place_in-requires g c =
    let has = last_read g.S.Store.lane_seen g.S.Store.lane_faults c.args.round.now c.args.asked.now (g.S.Store.disk c.args.store.now) c.args.readers.now c.pop_hand-lane.new.hands.items c.pop_hand-lane.result c.requires.hands c.pop_hand-lane.ensures.popped in
    let long = c.take_all.ensures.back.long in
    let few = c.requires.hands.slots in
    record { within = λ k d lt. (let within = (has.read.read k d lt).within in omega (arith, within, long, few)) }

pub returns-clause-back : goal.returns-clause-back
returns-clause-back g c =
    let seen = g.S.Store.lane_seen in
    let faults = g.S.Store.lane_faults in
    let old = g.S.Store.disk c.args.store.now in
    let mid = g.S.Store.disk c.take_all.new.store in
    let new = g.S.Store.disk c.absorb.new.self in
    let asked = c.args.asked.now in
    let before = c.args.readers.now in
    let hands = c.pop_hand-lane.new.hands in
    let hand = c.pop_hand-lane.result in
    let popped = c.pop_hand-lane.ensures.popped in
    let now = c.take_all.new.readers in
    let left = c.read_left.new.readers in
    let back = c.take_all.ensures in
    let read = c.read_left.ensures in
    let gone = c.absorb.ensures in
    let after : Readers g.row.S-Lane.Denot = record left { parts = c.push_reserved.new.self } in
    let parts : c.push_reserved.new.self.items ≡ now.parts.items ++ hand.part ∷ [] = c.push_reserved.ensures.items ∙ (λ i. (read.rest i).parts.items ++ hand.part ∷ []) in
    let caps : vec_capacity c.push_reserved.new.self ≡ vec_capacity now.parts = c.push_reserved.ensures.capacity ∙ (λ i. vec_capacity (read.rest i).parts) in
    let has = last_read seen faults c.args.round.now asked old before hands.items hand c.requires.hands popped in
    let brings = last_brings seen faults c.args.round.now asked old mid new before.claims now left c.join.new.seat c.place_in.new.slots c.push_reserved.new.self hand c.read_left.new.lane has c.requires.hands.count c.join.ensures.both c.place_in.ensures.placed
    read.left read.later read.own read.parts (λ i. (read.rest i).claims) parts caps back.keeps back.goes.faults gone.goes.faults gone.seen gone.faults in
    let many : length hands.items + 1 ≡ length before.hands.items = (let longer = ap length popped ∙ length-append hands.items (Some hand ∷ []) in omega (arith, longer)) in
    subst (λ (n : ℕ). AreGathered asked n old new before after) many
    (gathered_more asked (length hands.items) old mid new before now after hands brings.0 back.back gone.goes.faults brings.1 ((λ i. vec_capacity (read.rest i).hands) ∙ back.back.hands_room ∙ c.pop_hand-lane.ensures.room)
    (λ room fits. room_last room before now after hands hand (popped_more before.hands.items hands.items hand popped) (back.back.each_room room) parts (λ i. (read.rest i).hands) fits))

pub returns-clause-all : goal.returns-clause-all
returns-clause-all g c =
    let has = last_read g.S.Store.lane_seen g.S.Store.lane_faults c.args.round.now c.args.asked.now (g.S.Store.disk c.args.store.now) c.args.readers.now c.pop_hand-lane.new.hands.items c.pop_hand-lane.result c.requires.hands c.pop_hand-lane.ensures.popped in
    let back = c.take_all.ensures.back in
    let both : c.join.new.seat.me.0.parts ≡ c.take_all.new.readers.seat.me.0.parts + c.pop_hand-lane.result.seat.me.0.parts = λ i. (c.join.ensures.both i).parts in
    let same = has.read.parts in
    let one = has.one in
    let seats = back.seats in
    let made = ap parts_made back.claims in
    let longer = ap length c.pop_hand-lane.ensures.popped ∙ length-append c.pop_hand-lane.new.hands.items (Some c.pop_hand-lane.result ∷ []) in
    let every = c.requires.every in
    c.read_left.ensures.all (omega (arith, both, same, one, seats, made, longer, every))
