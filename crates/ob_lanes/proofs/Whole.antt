-- A phase from the lanes that were made to readers that are whole again.
use Rattle.std.proofs.Common.{◌≡◌, ◌<◌, ◌≤◌, ◌+◌, ◌*◌, ℕ, zero, suc, List, [], ◌∷◌, length, max, refl, sym, ap, subst, ◌∙◌, arith, vec_capacity, Option, Some, None}
use Rattle.std.specs.Int.{div_ceil}
use Rattle.std.specs.List.{All, flat_map}
use Rattle.std.specs.Global.{Vec}
use Rattle.std.proofs.lemmas.List.{length-map}
use Rattle.ob_base.specs.declared.job.Job.{Job}
use Rattle.ob_base.specs.Planned.{job_at}
use Rattle.ob_store.specs.declared.event.Event.{Event}
use Rattle.ob_store.specs.Disk.{Disk}
use Rattle.ob_store.specs.Calls.{Keeps, Notes}
use Rattle.ob_store.proofs.Events.{joined}
use Rattle.ob_claims.specs.declared.claims.Claims.{Claims}
use Rattle.ob_claims.specs.declared.claims.Round.{Round}
use Rattle.ob_claims.specs.ClaimCalls.{IsAllClaimed, IsClaimSeat, parts_made}
use Rattle.ob_claims.specs.ClaimRule.{times}
use Rattle.ob_lanes.specs.declared.hand.Hand.{Hand}
use Rattle.ob_lanes.specs.declared.hand.SealedJobs.{SealedJobs}
use Rattle.ob_lanes.specs.declared.hand.Slot.{Slot}
use Rattle.ob_lanes.specs.declared.readers.Readers.{Readers}
use Rattle.ob_lanes.specs.Hands.{IsHandRead, IsPlaceRead, IsPlaceReady, hand_at, reads_of, slot_at}
use Rattle.ob_lanes.specs.JobReads.{IsSlotRead, cells_of}
use Rattle.ob_lanes.specs.Rooms.{AreAsLarge, AreSlotsRead, AreReaders, jobs_of, lanes_of}
use Rattle.ob_lanes.specs.Rounds.{AreGathered, AreLent, AreHandsOut, HasHandRead, HaveRoom, IsFreshHand, IsLentHand, hands_in}
use Rattle.ob_lanes.specs.Shares.{AreShared, all_places}
use Rattle.ob_lanes.proofs.Claiming.{begins, ends_full}
use Rattle.ob_lanes.proofs.Each.{Each, Pairs, at_each, each_at, pairs_each, pairs_length}
use Rattle.ob_lanes.proofs.SlotReads.{rose_from, slot_home, slot_rose}

-- ---- what hands are lent with, and what they have read

module _ {L : Type 0} (disk : Disk) (lane_seen : L → Option (List Event)) (lane_faults : L → ℕ) (round : Round) (asked : SealedJobs) where
  abbrev pub IsMade : Claims → Hand L → Type 0
  IsMade claims hand = IsFreshHand lane_seen lane_faults disk.seen hand × IsLentHand claims round hand

  pub places_ready : (claims : Claims) (places : List (Option (Hand L))) → Each (IsLentHand claims round) (hands_in places) → (i : ℕ) → i < length places → IsPlaceReady claims round (hand_at places i)
  places_ready claims [] each i lt = absurd (omega (arith, lt))
  places_ready claims (None ∷ places) each zero lt = tt
  places_ready claims (None ∷ places) each (suc i) lt = places_ready claims places each i (omega (arith, lt))
  places_ready claims (Some hand ∷ places) each zero lt = each.0.ready
  places_ready claims (Some hand ∷ places) each (suc i) lt = places_ready claims places each.1 i (omega (arith, lt))

  pub hands_read : (claims : Claims) (old new : List (Option (Hand L))) → length new ≡ length old → ((i : ℕ) → i < length old → IsPlaceRead disk lane_seen lane_faults claims round asked (hand_at old i) (hand_at new i))
      → Pairs (IsHandRead disk lane_seen lane_faults claims round asked) (hands_in old) (hands_in new)
  hands_read claims [] [] e h = tt
  hands_read claims [] (b ∷ new) e h = absurd (omega (arith, e))
  hands_read claims (a ∷ old) [] e h = absurd (omega (arith, e))
  hands_read claims (None ∷ old) (None ∷ new) e h = hands_read claims old new (omega (arith, e)) (λ i lt. h (suc i) (omega (arith, lt)))
  hands_read claims (None ∷ old) (Some b ∷ new) e h = absurd (h zero (omega arith))
  hands_read claims (Some a ∷ old) (None ∷ new) e h = absurd (h zero (omega arith))
  hands_read claims (Some a ∷ old) (Some b ∷ new) e h = ((h zero (omega arith)).0, hands_read claims old new (omega (arith, e)) (λ i lt. h (suc i) (omega (arith, lt))))

  out_with : (whole now : Readers L) (hands : Vec (Option (Hand L))) → AreLent round whole now → round.count ≡ length asked.jobs.now → length asked.jobs.now ≤ jobs_of whole → whole.hands.items ≡ [] → length whole.parts.items ≤ vec_capacity whole.parts
      → length hands.items ≡ length now.hands.items → length (hands_in hands.items) ≡ length (hands_in now.hands.items) → Each (HasHandRead disk lane_seen lane_faults whole.claims round asked) (hands_in hands.items)
      → AreHandsOut disk lane_seen lane_faults round asked (record now { hands = hands })
  out_with whole now hands lent count few none room many same each = record {
    own = lent.own;
    start = lent.start;
    count = count;
    there = same ∙ lent.there ∙ sym many;
    read = subst (λ (c : Claims). All (HasHandRead disk lane_seen lane_faults c round asked) (hands_in hands.items)) (sym lent.claims) (at_each (HasHandRead disk lane_seen lane_faults whole.claims round asked) (hands_in hands.items) each);
    room = (let all = lent.many in let cap = lent.parts_room in let no = ap length none in omega (arith, all, cap, no, many, room));
    slots = (let slots = ap (λ (v : Vec Slot). length v.items) lent.slots in omega (arith, few, slots));
  }

  -- hands that have not begun
  pub unread_out : (whole now : Readers L) → AreLent round whole now → round.count ≡ length asked.jobs.now → length asked.jobs.now ≤ jobs_of whole → whole.hands.items ≡ [] → length whole.parts.items ≤ vec_capacity whole.parts
      → All (IsFreshHand lane_seen lane_faults disk.seen) (hands_in now.hands.items) → All (IsLentHand whole.claims round) (hands_in now.hands.items) → AreHandsOut disk lane_seen lane_faults round asked now
  unread_out whole now lent count few none room fresh ready = out_with whole now now.hands lent count few none room refl refl (each_at (HasHandRead disk lane_seen lane_faults whole.claims round asked) (hands_in now.hands.items) (λ i d lt.
      let its = ready i d lt in
      record {
        first = _;
        fresh = fresh i d lt;
        one = its.one;
        read = ends_full disk lane_seen lane_faults whole.claims round asked _ _ (begins disk lane_seen lane_faults whole.claims round asked _ its.ready);
      }))

  -- hands that have read
  pub read_out : (whole now : Readers L) (hands : Vec (Option (Hand L))) → AreLent round whole now → round.count ≡ length asked.jobs.now → length asked.jobs.now ≤ jobs_of whole → whole.hands.items ≡ [] → length whole.parts.items ≤ vec_capacity whole.parts
      → All (IsFreshHand lane_seen lane_faults disk.seen) (hands_in now.hands.items) → All (IsLentHand whole.claims round) (hands_in now.hands.items) → length hands.items ≡ length now.hands.items
      → ((i : ℕ) → i < length now.hands.items → IsPlaceRead disk lane_seen lane_faults now.claims round asked (hand_at now.hands.items i) (hand_at hands.items i)) → AreHandsOut disk lane_seen lane_faults round asked (record now { hands = hands })
  read_out whole now hands lent count few none room fresh ready many each =
      let pairs = hands_read whole.claims now.hands.items hands.items many (λ i lt. subst (λ (c : Claims). IsPlaceRead disk lane_seen lane_faults c round asked (hand_at now.hands.items i) (hand_at hands.items i)) lent.claims (each i lt)) in
      let made = each_at (IsMade whole.claims) (hands_in now.hands.items) (λ i d lt. (fresh i d lt, ready i d lt)) in
      out_with whole now hands lent count few none room many (pairs_length (IsHandRead disk lane_seen lane_faults whole.claims round asked) (hands_in now.hands.items) (hands_in hands.items) pairs)
      (pairs_each (IsHandRead disk lane_seen lane_faults whole.claims round asked) (IsMade whole.claims) (HasHandRead disk lane_seen lane_faults whole.claims round asked) (hands_in now.hands.items) (hands_in hands.items)
      (λ first hand read were. record { first = first; fresh = were.0; one = were.1.one; read = read }) pairs made)

  pub room_read : (room : ℕ) (now : Readers L) (hands : Vec (Option (Hand L))) → length hands.items ≡ length now.hands.items
      → ((i : ℕ) → i < length now.hands.items → IsPlaceRead disk lane_seen lane_faults now.claims round asked (hand_at now.hands.items i) (hand_at hands.items i)) → HaveRoom room now → HaveRoom room (record now { hands = hands })
  room_read room now hands many each was =
      let P = λ (h : Hand L). room ≤ vec_capacity h.part in
      record {
        home = was.home;
        out = at_each P (hands_in hands.items) (pairs_each (IsHandRead disk lane_seen lane_faults now.claims round asked) P P (hands_in now.hands.items) (hands_in hands.items)
            (λ first hand read fits. let same = read.room in omega (arith, same, fits)) (hands_read now.claims now.hands.items hands.items many each) (each_at P (hands_in now.hands.items) was.out));
      }

-- readers of which a round was opened
pub opened_has : {L : Type 0} (n : ℕ) (first opened : Readers L) → AreReaders first → opened ≡ record first { seat = opened.seat } → n ≤ jobs_of first → (n ≤ jobs_of opened) × (opened.hands.items ≡ []) × (length opened.parts.items ≤ vec_capacity opened.parts)
opened_has n first opened was rest few =
    let slots : jobs_of opened ≡ jobs_of first = λ i. length (rest i).slots.items in
    let parts : length opened.parts.items ≡ length first.parts.items = λ i. length (rest i).parts.items in
    let cap : vec_capacity opened.parts ≡ vec_capacity first.parts = λ i. vec_capacity (rest i).parts in
    let room = was.parts_room in
    (omega (arith, few, slots), (λ i. (rest i).hands.items) ∙ was.none, omega (arith, room, parts, cap))

-- ---- whole again

as_large : {L : Type 0} (first now : Readers L) → AreReaders first → now.claims ≡ first.claims → IsClaimSeat now.claims now.seat → now.seat.me.0.parts ≡ first.seat.me.0.parts → lanes_of now ≡ lanes_of first → jobs_of now ≡ jobs_of first → now.hands.items ≡ []
    → vec_capacity now.hands ≡ vec_capacity first.hands → vec_capacity now.parts ≡ vec_capacity first.parts → ((room : ℕ) → HaveRoom room first → HaveRoom room now) → AreAsLarge first now
as_large {L} first now was claims own parts lanes jobs none hands_cap parts_cap rooms =
    let room = max 1 (2 * div_ceil (jobs_of first) (lanes_of first)) in
    let out : All (λ (h : Hand L). room ≤ vec_capacity h.part) (hands_in first.hands.items) = subst (λ (ps : List (Option (Hand L))). All (λ (h : Hand L). room ≤ vec_capacity h.part) (hands_in ps)) (sym was.none) (λ i d lt. absurd (omega (arith, lt))) in
    let some = was.some in
    let few = was.few in
    let small = was.small in
    let room_hands = was.hands_room in
    let room_parts = was.parts_room in
    let made : parts_made now.claims ≡ parts_made first.claims = ap parts_made claims in
    record {
      readers = record {
        some = omega (arith, some, lanes);
        few = omega (arith, few, lanes);
        small = omega (arith, small, lanes, jobs);
        own = own;
        whole = parts ∙ was.whole ∙ sym made;
        seats = (let seats = was.seats in omega (arith, made, seats, lanes));
        none = none;
        hands_room = omega (arith, room_hands, hands_cap, lanes);
        parts_room = omega (arith, room_parts, parts_cap, lanes);
        each_room = subst (λ (n : ℕ). All (λ (p : Vec Slot). max 1 (2 * div_ceil n (lanes_of now)) ≤ vec_capacity p) now.parts.items) (sym jobs)
            (subst (λ (n : ℕ). All (λ (p : Vec Slot). max 1 (2 * div_ceil (jobs_of first) n) ≤ vec_capacity p) now.parts.items) (sym lanes) (rooms room (record { home = was.each_room; out = out })).home);
      };
      lanes = lanes;
      jobs = jobs;
    }

-- readers of which a round was opened, lanes made and taken back
pub large_again : {L : Type 0} (round : Round) (asked : SealedJobs) (old new : Disk) (first opened made after : Readers L) (hands : Vec (Option (Hand L))) → AreReaders first → opened ≡ record first { seat = opened.seat } → opened.seat.me.0.parts ≡ first.seat.me.0.parts
    → AreLent round opened made → length hands.items ≡ length made.hands.items → vec_capacity hands ≡ vec_capacity made.hands → ((room : ℕ) → HaveRoom room made → HaveRoom room (record made { hands = hands }))
    → AreGathered asked (length hands.items) old new (record made { hands = hands }) after → after.hands.items ≡ [] → AreAsLarge first after
large_again {L} round asked old new first opened made after hands was rest seat lent many cap held back none =
    let no : length opened.hands.items ≡ 0 = (λ i. length (rest i).hands.items) ∙ ap length was.none in
    let parts : length opened.parts.items ≡ length first.parts.items = λ i. length (rest i).parts.items in
    let slots : jobs_of made ≡ jobs_of first = ap (λ (v : Vec Slot). length v.items) lent.slots ∙ (λ i. length (rest i).slots.items) in
    let more = back.seats in
    let out = lent.seats in
    let longer = back.parts in
    let given = lent.many in
    as_large first after was (back.claims ∙ lent.claims ∙ (λ i. (rest i).claims)) back.own (omega (arith, more, out, no, many, seat)) (omega (arith, longer, given, no, many, parts)) (back.long ∙ slots) none
    (back.hands_room ∙ cap ∙ lent.hands_room ∙ (λ i. vec_capacity (rest i).hands)) (back.parts_room ∙ lent.parts_room ∙ (λ i. vec_capacity (rest i).parts))
    (λ room fits. back.each_room room (held room (lent.each_room room (subst (λ (r : Readers L). HaveRoom room r) (sym rest) (record { home = fits.home; out = fits.out })))))

-- ---- what all lanes have read

module _ {L : Type 0} (round : Round) (asked : SealedJobs) (many : ℕ) (made new : Disk) (before after : Readers L) (back : AreGathered asked many made new before after)
    (none : before.seat.me.0.claimed ≡ []) (all : IsAllClaimed after.seat round) (start : round.start ≡ 0) (count : round.count ≡ length asked.jobs.now) where
  each_once : (p : ℕ) → p < length asked.jobs.now → times p (all_places back.shares) ≡ 1
  each_once p lt =
      let here : round.start + p ≡ p = omega (arith, start) in
      let one : times p after.seat.me.0.claimed ≡ 1 = subst (λ (x : ℕ). times x after.seat.me.0.claimed ≡ 1) here (all p (omega (arith, lt, count))) in
      let sum = back.claimed p lt in
      let no : times p before.seat.me.0.claimed ≡ 0 = ap (times p) none in
      omega (arith, one, sum, no)

  pub all_shared : (most : ℕ) (seen : Option (List Event)) → many ≤ most → Notes [] seen made.seen → AreShared most (cells_of asked.jobs.now) seen new.seen
  all_shared most seen few still =
      let long : length (cells_of asked.jobs.now) ≡ length asked.jobs.now = length-map asked.jobs.now (λ (j : Job). j.cell) in
      record {
        shares = back.shares;
        few = (let same = back.few in omega (arith, same, few));
        rising = back.rising;
        within = subst (λ (n : ℕ). All (λ share. All (λ p. p < n) share) back.shares) (sym long) back.within;
        once = λ p lt. each_once p (omega (arith, lt, long));
        seen = joined [] (flat_map (reads_of asked) back.shares) seen made.seen new.seen still back.seen;
      }

  pub all_slots_read : (old : Disk) → Keeps old made → old.faults ≤ made.faults → AreSlotsRead asked.sealer.now.keys old old.faults new.faults asked.jobs.now after.slots.items
  all_slots_read old keeps le i lt =
      let once = each_once i lt in
      let read = back.read i (omega (arith, once)) in
      let slot = slot_at after.slots.items i in
      slot_rose asked.sealer.now.keys old made.faults new.faults old.faults new.faults (job_at asked.jobs.now i) slot (rose_from old.faults made.faults new.faults le)
      (slot_home asked.sealer.now.keys old made made.faults new.faults (job_at asked.jobs.now i) slot keeps (subst (λ (p : ℕ). IsSlotRead asked.sealer.now.keys made made.faults new.faults (job_at asked.jobs.now p) slot) read.1 read.0.read))
