-- All hands taken back, the first one first.
use Rattle.std.proofs.Common.{◌≡◌, ◌<◌, ◌≤◌, ◌+◌, ◌-◌, ℕ, List, [], ◌∷◌, length, sym, ap, subst, ◌∙◌, arith, vec_capacity, Option, Some, None}
use Rattle.std.specs.Global.{Vec}
use Rattle.std.proofs.lemmas.List.Elements.{All-weaker}
use Rattle.ob_store.specs.declared.event.Event.{Event}
use Rattle.ob_store.specs.Disk.{Disk}
use Rattle.ob_store.specs.Images.{Same, Passes}
use Rattle.ob_store.specs.Calls.{GoesOn, Keeps, Notes}
use Rattle.ob_store.proofs.Events.{none_noted}
use Rattle.ob_store.proofs.Keeping.{keeps_none, keeps_then, same_none, same_then}
use Rattle.ob_store.proofs.Serving.{goes_same, goes_then}
use Rattle.ob_claims.specs.declared.claims.Claims.{Claims}
use Rattle.ob_claims.specs.declared.claims.Round.{Round}
use Rattle.ob_claims.specs.ClaimCalls.{IsClaimSeat}
use Rattle.ob_lanes.specs.declared.hand.Hand.{Hand}
use Rattle.ob_lanes.specs.declared.hand.SealedJobs.{SealedJobs}
use Rattle.ob_lanes.specs.declared.hand.Slot.{Slot}
use Rattle.ob_lanes.specs.declared.readers.Readers.{Readers}
use Rattle.ob_lanes.specs.Hands.{IsReadAt, slot_places, reads_of}
use Rattle.ob_lanes.specs.Rooms.{jobs_of}
use Rattle.ob_lanes.specs.Rounds.{AreGathered, AreHandsOut, HasHandRead, IsBack, IsReturned, IsTaken, hand_in, hands_in}
use Rattle.ob_lanes.proofs.Each.{Each, each_at}
use Rattle.ob_lanes.proofs.Gathering.{gathered_more, gathered_none, hand_brings, lane_behind}
use Rattle.ob_lanes.proofs.Rounding.{room_back}

pub hands_few : {L : Type 0} (places : List (Option (Hand L))) → length (hands_in places) ≤ length places
hands_few [] = omega arith
hands_few (None ∷ places) = let few = hands_few places in omega (arith, few)
hands_few (Some hand ∷ places) = let few = hands_few places in omega (arith, few)

module _ {L : Type 0} (lane_seen : L → Option (List Event)) (lane_faults : L → ℕ) (round : Round) (asked : SealedJobs) where
  pub returned : (old : Disk) (claims : Claims) (readers : Readers L) (rest : List (Option (Hand L))) (place : Option (Hand L)) → Each (HasHandRead old lane_seen lane_faults claims round asked) (hands_in (place ∷ rest)) → readers.claims ≡ claims
      → length asked.jobs.now ≤ jobs_of readers → IsReturned readers place
  returned old claims readers rest None each same few = tt
  returned old claims readers rest (Some hand) each same few = (
    subst (λ (c : Claims). IsClaimSeat c hand.seat) (sym same) each.0.read.seat.own,
    All-weaker (IsReadAt asked old _ _) (λ s. s.place < jobs_of readers) (λ s r. let w = r.within in omega (arith, w, few)) hand.part.items each.0.read.read,
  )

  -- so many of the hands that were out first are taken back
  pub record IsTaking (old mid : Disk) (first now : Readers L) : Type 0 where
    pub goes : GoesOn old mid
    pub keeps : Keeps old mid
    pub passes : Passes Same old mid
    pub less : length now.hands.items ≤ length first.hands.items
    pub out : mid.out ≤ old.out - (length first.hands.items - length now.hands.items)
    pub back : AreGathered asked (length first.hands.items - length now.hands.items) old mid first now
    pub there : length (hands_in now.hands.items) ≡ length now.hands.items
    pub read : Each (HasHandRead old lane_seen lane_faults first.claims round asked) (hands_in now.hands.items)
    pub unread : Each (λ (h : Hand L). h.part.items ≡ []) (hands_in first.hands.items) → Each (λ (h : Hand L). h.part.items ≡ []) (hands_in now.hands.items) × Notes [] old.seen mid.seen

  pub take_begins : (old : Disk) (first : Readers L) → AreHandsOut old lane_seen lane_faults round asked first → IsTaking old old first first
  take_begins old first are =
      let none : 0 ≡ length first.hands.items - length first.hands.items = omega arith in
      record {
        goes = goes_same old;
        keeps = keeps_none old;
        passes = same_none old;
        less = omega arith;
        out = omega arith;
        back = subst (λ (n : ℕ). AreGathered asked n old old first first) none (gathered_none asked old first are.own);
        there = are.there;
        read = each_at (HasHandRead old lane_seen lane_faults first.claims round asked) (hands_in first.hands.items) are.read;
        unread = λ empty. (empty, none_noted old.seen);
      }

  pub take_on : (old mid new : Disk) (first now after : Readers L) (rest : Vec (Option (Hand L))) (place : Option (Hand L)) → IsTaking old mid first now → round.count ≡ length asked.jobs.now → now.hands.items ≡ place ∷ rest.items → vec_capacity rest ≡ vec_capacity now.hands
      → GoesOn mid new → Keeps mid new → Passes Same mid new → new.out ≤ mid.out - length (hand_in place) → IsBack lane_seen lane_faults place mid new → IsTaken place (record now { hands = rest }) after → IsTaking old new first after
  take_on old mid new first now after rest None was count taken caps goes keeps passes out back took =
      let there : length (hands_in rest.items) ≡ length rest.items + 1 = sym (ap (λ (ps : List (Option (Hand L))). length (hands_in ps)) taken) ∙ was.there ∙ ap length taken ∙ omega arith in
      let few = hands_few rest.items in
      absurd (omega (arith, there, few))
  take_on old mid new first now after rest (Some hand) was count taken caps goes keeps passes out back took =
      let longer : length now.hands.items ≡ length rest.items + 1 = ap length taken ∙ omega arith in
      let same : length after.hands.items ≡ length rest.items = ap (λ (v : Vec (Option (Hand L))). length v.items) took.hands in
      let less = was.less in
      let so_far = was.out in
      let one : (length first.hands.items - length now.hands.items) + 1 ≡ length first.hands.items - length after.hands.items = omega (arith, longer, same, less) in
      let read = subst (λ (ps : List (Option (Hand L))). Each (HasHandRead old lane_seen lane_faults first.claims round asked) (hands_in ps)) taken was.read in
      let brings = hand_brings lane_seen lane_faults round asked old mid new first.claims now after rest hand read.0 count took was.goes.faults goes.faults back in
      record {
        goes = goes_then old mid new was.goes goes;
        keeps = keeps_then old mid new was.keeps keeps;
        passes = same_then old mid new was.passes passes;
        less = omega (arith, less, longer, same);
        out = omega (arith, so_far, out, one);
        back = subst (λ (n : ℕ). AreGathered asked n old new first after) one
            (gathered_more asked (length first.hands.items - length now.hands.items) old mid new first now after first.hands (slot_places hand.part.items) was.back goes.faults brings (ap (λ (v : Vec (Option (Hand L))). vec_capacity v) took.hands ∙ caps ∙ was.back.hands_room)
            (λ room fits. room_back room now after hand (ap hands_in taken ∙ ap (λ (v : Vec (Option (Hand L))). hand ∷ hands_in v.items) (sym took.hands)) took.parts (was.back.each_room room fits)));
        there = (let there = ap (λ (ps : List (Option (Hand L))). length (hands_in ps)) (sym taken) ∙ was.there in let after_there = ap (λ (v : Vec (Option (Hand L))). length (hands_in v.items)) took.hands in omega (arith, there, longer, same, after_there));
        read = subst (λ (v : Vec (Option (Hand L))). Each (HasHandRead old lane_seen lane_faults first.claims round asked) (hands_in v.items)) (sym took.hands) read.1;
        unread = λ empty.
            let before = was.unread empty in
            let mine = subst (λ (ps : List (Option (Hand L))). Each (λ (h : Hand L). h.part.items ≡ []) (hands_in ps)) taken before.0 in
            let has = read.0 in (
              subst (λ (v : Vec (Option (Hand L))). Each (λ (h : Hand L). h.part.items ≡ []) (hands_in v.items)) (sym took.hands) mine.1,
              lane_behind [] [] old.seen mid.seen (lane_seen has.first.lane) (lane_seen hand.lane) new.seen has.fresh.seen before.1
                  (subst (λ (ss : List Slot). Notes (reads_of asked (slot_places ss)) (lane_seen has.first.lane) (lane_seen hand.lane)) mine.0 has.read.seen) back.0,
            );
      }
