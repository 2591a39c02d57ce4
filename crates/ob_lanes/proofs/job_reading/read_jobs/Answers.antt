use Rattle.std.proofs.Common.{◌≡◌, ◌<◌, ℕ, [], length, refl, sym, ap, subst, ◌∙◌, arith}
use Rattle.ob_store.proofs.Events.{joined}
use Rattle.ob_claims.specs.declared.claims.Claims.{Claims}
use Rattle.ob_lanes.specs.declared.hand.SealedJobs.{SealedJobs}
use Rattle.ob_lanes.specs.declared.readers.Readers.{Readers}
use Rattle.ob_lanes.specs.Hands.{IsPlaceReady, hand_at}
use Rattle.ob_lanes.specs.Rounds.{AreGathered, AreHandsOut, IsLentHand, hands_in}
use Rattle.ob_lanes.proofs.Each.{each_at}
use Rattle.ob_lanes.proofs.Whole.{all_shared, all_slots_read, large_again, opened_has, places_ready, read_out, room_read, unread_out}
use Rattle.ob_lanes.proofs.job_reading.read_jobs.Goals as goal

-- ---- a lane was refused

pub take_all-requires : goal.take_all-requires
take_all-requires g c =
    let made = c.in-Err.ensures in
    let round = c.open_round-round in
    let has = opened_has (length c.args.jobs.now) c.args.readers.now round.new.readers c.requires.ready round.ensures.rest c.requires.few in
    let asked : SealedJobs = record { sealer = c.args.sealer; jobs = c.args.jobs } in
    record { hands = unread_out (g.S.Store.disk c.make_hands.new.store) g.S.Store.lane_seen g.S.Store.lane_faults round.result asked round.new.readers c.make_hands.new.readers made.lent round.ensures.count has.0 has.1 has.2 made.fresh made.ready }

pub returns-in-Err-clause-unseen : goal.returns-in-Err-clause-unseen
returns-in-Err-clause-unseen g c =
    joined [] [] _ (g.S.Store.disk c.make_hands.new.store).seen _ c.in-Err.ensures.seen (c.take_all.ensures.unread (λ i d lt. (c.in-Err.ensures.ready i d lt).ready.empty))

pub returns-in-Err-clause-readers : goal.returns-in-Err-clause-readers
returns-in-Err-clause-readers g c =
    let made = c.make_hands.new.readers in
    let round = c.open_round-round in
    let asked : SealedJobs = record { sealer = c.args.sealer; jobs = c.args.jobs } in
    large_again round.result asked (g.S.Store.disk c.make_hands.new.store) (g.S.Store.disk c.take_all.new.store) c.args.readers.now round.new.readers made c.take_all.new.readers made.hands c.requires.ready round.ensures.rest round.ensures.parts
    c.in-Err.ensures.lent refl refl (λ room fits. fits) c.take_all.ensures.back c.take_all.ensures.none

-- ---- all were made

pub read_held-requires-clause-ready : goal.read_held-requires-clause-ready
read_held-requires-clause-ready g c κs within =
    let made = c.make_hands.new.readers in
    let round = c.open_round-round in
    let asked : SealedJobs = record { sealer = c.args.sealer; jobs = c.args.jobs } in
    subst (λ (claims : Claims). (i : ℕ) → i < length made.hands.items → IsPlaceReady claims round.result (hand_at made.hands.items i)) (sym c.in-Ok.ensures.lent.claims)
    (places_ready (g.S.Store.disk c.make_hands.new.store) g.S.Store.lane_seen g.S.Store.lane_faults round.result asked round.new.readers.claims made.hands.items (each_at (IsLentHand round.new.readers.claims round.result) (hands_in made.hands.items) c.in-Ok.ensures.ready))

pub gather-requires-clause-hands : goal.gather-requires-clause-hands
gather-requires-clause-hands g c =
    let made = c.in-Ok.ensures in
    let round = c.open_round-round in
    let held = c.read_held.ensures in
    let has = opened_has (length c.args.jobs.now) c.args.readers.now round.new.readers c.requires.ready round.ensures.rest c.requires.few in
    let asked : SealedJobs = record { sealer = c.args.sealer; jobs = c.args.jobs } in
    subst (λ (r : Readers g.row.S-Lane.Denot). AreHandsOut (g.S.Store.disk c.make_hands.new.store) g.S.Store.lane_seen g.S.Store.lane_faults round.result asked r) (sym held.rest)
    (read_out (g.S.Store.disk c.make_hands.new.store) g.S.Store.lane_seen g.S.Store.lane_faults round.result asked round.new.readers c.make_hands.new.readers c.read_held.new.readers.hands made.lent round.ensures.count has.0 has.1 has.2 made.fresh made.ready held.many held.each)

pub returns-clause-read : goal.returns-clause-read
returns-clause-read g c =
    let made = c.in-Ok.ensures in
    let round = c.open_round-round in
    let held = c.read_held.new.readers in
    let asked : SealedJobs = record { sealer = c.args.sealer; jobs = c.args.jobs } in
    let none : held.seat.me.0.claimed ≡ [] = (λ i. (c.read_held.ensures.rest i).seat.me.0.claimed) ∙ made.lent.unclaimed in
    all_slots_read round.result asked (length held.hands.items) (g.S.Store.disk c.make_hands.new.store) (g.S.Store.disk c.gather.new.store) held c.gather.new.readers c.gather.ensures.back none c.gather.ensures.all made.lent.start round.ensures.count
    (g.S.Store.disk c.args.store.now) made.keeps made.goes.faults

pub returns-clause-seen : goal.returns-clause-seen
returns-clause-seen g c =
    let made = c.in-Ok.ensures in
    let round = c.open_round-round in
    let first = c.args.readers.now in
    let held = c.read_held.new.readers in
    let asked : SealedJobs = record { sealer = c.args.sealer; jobs = c.args.jobs } in
    let none : held.seat.me.0.claimed ≡ [] = (λ i. (c.read_held.ensures.rest i).seat.me.0.claimed) ∙ made.lent.unclaimed in
    let same = c.read_held.ensures.many in
    let given = made.lent.many in
    let parts : length round.new.readers.parts.items ≡ length first.parts.items = λ i. length (round.ensures.rest i).parts.items in
    let no : length round.new.readers.hands.items ≡ 0 = (λ i. length (round.ensures.rest i).hands.items) ∙ ap length c.requires.ready.none in
    all_shared round.result asked (length held.hands.items) (g.S.Store.disk c.make_hands.new.store) (g.S.Store.disk c.gather.new.store) held c.gather.new.readers c.gather.ensures.back none c.gather.ensures.all made.lent.start round.ensures.count
    (length first.parts.items) (g.S.Store.disk c.args.store.now).seen (omega (arith, same, given, parts, no)) made.seen

pub returns-clause-readers : goal.returns-clause-readers
returns-clause-readers g c =
    let made = c.make_hands.new.readers in
    let round = c.open_round-round in
    let held = c.read_held.new.readers in
    let asked : SealedJobs = record { sealer = c.args.sealer; jobs = c.args.jobs } in
    let old = g.S.Store.disk c.make_hands.new.store in
    let new = g.S.Store.disk c.gather.new.store in
    large_again round.result asked old new c.args.readers.now round.new.readers made c.gather.new.readers held.hands c.requires.ready round.ensures.rest round.ensures.parts c.in-Ok.ensures.lent c.read_held.ensures.many c.read_held.ensures.room
    (λ room fits. room_read old g.S.Store.lane_seen g.S.Store.lane_faults round.result asked room made held.hands c.read_held.ensures.many c.read_held.ensures.each fits)
    (subst (λ (r : Readers g.row.S-Lane.Denot). AreGathered asked (length held.hands.items) old new r c.gather.new.readers) c.read_held.ensures.rest c.gather.ensures.back) c.gather.ensures.none
