-- Hands that are taken back: what each brings, and what all of them have brought.
use Rattle.std.proofs.Common.{◌≡◌, ◌<◌, ◌≤◌, ◌+◌, ℕ, zero, suc, List, [], ◌∷◌, ◌++◌, length, take, refl, sym, ap, subst, ◌∙◌, arith, append_assoc, length-append, vec_capacity, Option, Some, None}
use Rattle.std.specs.List.{All, flat_map}
use Rattle.std.specs.Global.{Vec}
use Rattle.std.proofs.lemmas.List.{flat_map_more, take_all}
use Rattle.std.proofs.lemmas.List.Elements.{All-nil, All-cons, All-push, All-head, All-tail}
use mathlib.Core.Logic.{dite}
use native.Mathlib.Decide.{ℕ_discrete}
use Rattle.ob_base.specs.Causes.{Rose}
use Rattle.ob_base.specs.Tree.{below}
use Rattle.ob_store.specs.declared.event.Event.{Event}
use Rattle.ob_store.specs.Disk.{Disk}
use Rattle.ob_store.specs.Calls.{AddsFaults, IsFreshLane, Notes, NotesLane}
use Rattle.ob_store.proofs.Events.{none_noted}
use Rattle.ob_claims.specs.declared.claims.Claims.{Claims}
use Rattle.ob_claims.specs.declared.claims.Round.{Round}
use Rattle.ob_claims.specs.ClaimCalls.{IsClaimSeat}
use Rattle.ob_claims.specs.ClaimRule.{times}
use Rattle.ob_claims.proofs.Counts.{below_once, times_append}
use Rattle.ob_lanes.specs.declared.hand.Hand.{Hand}
use Rattle.ob_lanes.specs.declared.hand.SealedJobs.{SealedJobs}
use Rattle.ob_lanes.specs.declared.hand.Slot.{Slot}
use Rattle.ob_lanes.specs.declared.readers.Readers.{Readers}
use Rattle.ob_lanes.specs.Hands.{IsReadAt, slot_places, reads_of, slot_at}
use Rattle.ob_lanes.specs.Placing.{AreSlotsPlaced}
use Rattle.ob_lanes.specs.Rooms.{jobs_of}
use Rattle.ob_lanes.specs.Rounds.{AreGathered, HasHandRead, HaveRoom, TakesHand}
use Rattle.ob_lanes.specs.Shares.{RiseFrom, all_places}
use Rattle.ob_lanes.proofs.Places.{blank}
use Rattle.ob_lanes.proofs.Sharing.{hit_no, times_cons}
use Rattle.ob_lanes.proofs.SlotReads.{read_on, read_rose}

-- what a list without claims has reached
pub none_reached : (claimed : List ℕ) (reached : ℕ) → claimed ≡ [] → ((x : ℕ) → times x claimed ≡ times x (below reached)) → reached ≡ 0
none_reached claimed zero none once = refl
none_reached claimed (suc n) none once =
    let one = below_once 0 (suc n) (omega arith) in
    let here = once 0 in
    let gone : times 0 claimed ≡ 0 = ap (times 0) none in
    absurd (omega (arith, one, here, gone))

-- a place before all of these stands nowhere among them
pub none_behind : (n p : ℕ) (xs : List ℕ) → All (λ x. n ≤ x) xs → p < n → times p xs ≡ 0
none_behind n p [] all lt = refl
none_behind n p (x ∷ xs) all lt =
    let above : n ≤ x = All-head (λ y. n ≤ y) x xs all in
    let c = times_cons p x xs in
    let other = hit_no p x (λ e. omega (arith, e, above, lt)) in
    let rest = none_behind n p xs (All-tail (λ y. n ≤ y) x xs all) lt in
    omega (arith, c, other, rest)

pub places_within : (asked : SealedJobs) (disk : Disk) (before now : ℕ) (slots : List Slot) → All (IsReadAt asked disk before now) slots → All (λ p. p < length asked.jobs.now) (slot_places slots)
places_within asked disk before now [] all = All-nil (λ p. p < length asked.jobs.now)
places_within asked disk before now (s ∷ ss) all =
    All-cons (λ p. p < length asked.jobs.now) s.place (slot_places ss) (All-head (IsReadAt asked disk before now) s ss all).within (places_within asked disk before now ss (All-tail (IsReadAt asked disk before now) s ss all))

-- the events of a lane that was made of a store come behind what that has told since
pub lane_behind : (xs events : List Event) (made mid lane now new : Option (List Event)) → IsFreshLane made lane → Notes xs made mid → Notes events lane now → NotesLane now mid new → Notes (xs ++ events) made new
lane_behind xs events made mid lane now None fresh so_far did back = tt
lane_behind xs events (Some o) (Some m) lane (Some l) (Some x) fresh so_far did back =
    let is : l ≡ events = subst (λ (from : Option (List Event)). Notes events from (Some l)) fresh did in
    back ∙ ap (λ (t : List Event). t ++ l) so_far ∙ append_assoc o xs l ∙ ap (λ (t : List Event). o ++ (xs ++ t)) is
lane_behind xs events (Some o) None lane (Some l) (Some x) fresh so_far did back = absurd back
lane_behind xs events (Some o) mid lane None (Some x) fresh so_far did back = absurd (let wrong : Some x ≡ None = back in cc)
lane_behind xs events None (Some m) lane now (Some x) fresh so_far did back = absurd so_far
lane_behind xs events None None lane (Some l) (Some x) fresh so_far did back = absurd back
lane_behind xs events None None lane None (Some x) fresh so_far did back = absurd (let wrong : Some x ≡ None = back in cc)

-- a read that failed has raised its lane's count, and so the store's
pub rose_added : (first lane a b c : ℕ) → a ≤ b → b ≤ c → Rose first lane → AddsFaults lane b c → Rose a c
rose_added first lane a b c le on some adds = omega arith

-- What a hand brings: its share, behind what the seat had claimed, with what was read at its places.
pub record Brings {L : Type 0} (asked : SealedJobs) (old mid new : Disk) (now after : Readers L) (share : List ℕ) : Type 0 where
  pub rising : RiseFrom 0 share
  pub within : All (λ p. p < length asked.jobs.now) share
  pub seen : (xs : List Event) → Notes xs old.seen mid.seen → Notes (xs ++ reads_of asked share) old.seen new.seen
  pub claims : after.claims ≡ now.claims
  pub own : IsClaimSeat after.claims after.seat
  pub seats : after.seat.me.0.parts ≡ now.seat.me.0.parts + 1
  pub claimed : (p : ℕ) → p < length asked.jobs.now → times p after.seat.me.0.claimed ≡ times p now.seat.me.0.claimed + times p share
  pub long : jobs_of after ≡ jobs_of now
  pub read : (p : ℕ) → 0 < times p share → IsReadAt asked old old.faults new.faults (slot_at after.slots.items p) × ((slot_at after.slots.items p).place ≡ p)
  pub others : (p : ℕ) → times p share ≡ 0 → slot_at after.slots.items p ≡ slot_at now.slots.items p
  pub parts : length after.parts.items ≡ length now.parts.items + 1
  pub parts_room : vec_capacity after.parts ≡ vec_capacity now.parts

pub gathered_none : {L : Type 0} (asked : SealedJobs) (disk : Disk) (readers : Readers L) → IsClaimSeat readers.claims readers.seat → AreGathered asked 0 disk disk readers readers
gathered_none asked disk readers own = record {
  shares = [];
  few = refl;
  rising = All-nil (RiseFrom 0);
  within = All-nil (λ share. All (λ p. p < length asked.jobs.now) share);
  seen = none_noted disk.seen;
  claims = refl;
  own = own;
  seats = omega arith;
  claimed = λ p lt. (let none : times p [] ≡ 0 = refl in omega (arith, none));
  long = refl;
  read = λ p some. absurd (let none : times p [] ≡ 0 = refl in omega (arith, some, none));
  parts = omega arith;
  parts_room = refl;
  hands_room = refl;
  each_room = λ room fits. fits;
}

-- one more hand, of those that are out
pub gathered_more : {L : Type 0} (asked : SealedJobs) (many : ℕ) (old mid new : Disk) (before now after : Readers L) (hands : Vec (Option (Hand L))) (share : List ℕ) → AreGathered asked many old mid (record before { hands = hands }) now → mid.faults ≤ new.faults
    → Brings asked old mid new now after share → vec_capacity after.hands ≡ vec_capacity before.hands → ((room : ℕ) → HaveRoom room before → HaveRoom room after) → AreGathered asked (many + 1) old new before after
gathered_more asked many old mid new before now after hands share was on brings caps rooms =
    let all : all_places (was.shares ++ share ∷ []) ≡ all_places was.shares ++ share = sym (flat_map_more (λ (s : List ℕ). s) [] was.shares share) in
    let count : (p : ℕ) → times p (all_places (was.shares ++ share ∷ [])) ≡ times p (all_places was.shares) + times p share = λ p. ap (times p) all ∙ times_append p (all_places was.shares) share in
    record {
      shares = was.shares ++ share ∷ [];
      few = (let longer = length-append was.shares (share ∷ []) in let few = was.few in omega (arith, longer, few));
      rising = All-push (RiseFrom 0) was.shares share was.rising brings.rising;
      within = All-push (λ share. All (λ p. p < length asked.jobs.now) share) was.shares share was.within brings.within;
      seen = subst (λ (es : List Event). Notes es old.seen new.seen) (flat_map_more (reads_of asked) [] was.shares share) (brings.seen (flat_map (reads_of asked) was.shares) was.seen);
      claims = brings.claims ∙ was.claims;
      own = brings.own;
      seats = (let more = brings.seats in let so_far = was.seats in omega (arith, more, so_far));
      claimed = λ p lt. (let more = brings.claimed p lt in let so_far = was.claimed p lt in let c = count p in omega (arith, more, so_far, c));
      long = brings.long ∙ was.long;
      read = λ p some. dite (ℕ_discrete (times p share) 0)
          (λ none.
          let c = count p in
          let before = was.read p (omega (arith, some, c, none)) in
          subst (λ (s : Slot). IsReadAt asked old old.faults new.faults s × (s.place ≡ p)) (sym (brings.others p none)) (read_on asked old _ _ _ (slot_at now.slots.items p) on before.0, before.1))
          (λ some_here. brings.read p (omega (arith, some_here)));
      parts = (let more = brings.parts in let so_far = was.parts in omega (arith, more, so_far));
      parts_room = brings.parts_room ∙ was.parts_room;
      hands_room = caps;
      each_room = rooms;
    }

-- slots of a whole part
pub placed_whole : (part old new : List Slot) → AreSlotsPlaced part (length part) old new
    → ((p : ℕ) → 0 < times p (slot_places part) → (k : ℕ) × (k < length part) × ((slot_at part k).place ≡ p) × (slot_at new p ≡ slot_at part k)) × ((p : ℕ) → times p (slot_places part) ≡ 0 → slot_at new p ≡ slot_at old p)
placed_whole part old new placed =
    let whole : take (length part) part ≡ part = take_all (length part) part (omega arith) in
    ((λ p some. placed.placed p (subst (λ (ss : List Slot). 0 < times p (slot_places ss)) (sym whole) some)), (λ p none. placed.others p (subst (λ (ss : List Slot). times p (slot_places ss) ≡ 0) (sym whole) none)))

module _ {L : Type 0} (lane_seen : L → Option (List Event)) (lane_faults : L → ℕ) (round : Round) (asked : SealedJobs) where
  -- what a hand that is taken back brings
  pub hand_brings : (old mid new : Disk) (claims : Claims) (now after : Readers L) (hands : Vec (Option (Hand L))) (hand : Hand L) → HasHandRead old lane_seen lane_faults claims round asked hand → round.count ≡ length asked.jobs.now
      → TakesHand (record now { hands = hands }) after hand → old.faults ≤ mid.faults → mid.faults ≤ new.faults → NotesLane (lane_seen hand.lane) mid.seen new.seen × AddsFaults (lane_faults hand.lane) mid.faults new.faults
      → Brings asked old mid new now after (slot_places hand.part.items)
  hand_brings old mid new claims now after hands hand has count took le on back =
      let read = has.read in
      let claimed : after.seat.me.0.claimed ≡ now.seat.me.0.claimed ++ hand.seat.me.0.claimed = λ i. (took.seat i).claimed in
      let placed = placed_whole hand.part.items now.slots.items after.slots.items took.placed in
      record {
        rising = read.seat.rising;
        within = places_within asked old _ _ hand.part.items read.read;
        seen = λ xs so_far. lane_behind xs (reads_of asked (slot_places hand.part.items)) old.seen mid.seen (lane_seen has.first.lane) (lane_seen hand.lane) new.seen has.fresh.seen so_far read.seen back.0;
        claims = took.claims;
        own = took.own;
        seats = (let both : after.seat.me.0.parts ≡ now.seat.me.0.parts + hand.seat.me.0.parts = λ i. (took.seat i).parts in let same = read.parts in let one = has.one in omega (arith, both, same, one));
        claimed = λ p lt.
            let all = ap (times p) claimed ∙ times_append p now.seat.me.0.claimed hand.seat.me.0.claimed in
            let its = ap (times p) read.seat.claimed ∙ times_append p (slot_places hand.part.items) read.seat.beyond in
            let none = none_behind round.count p read.seat.beyond read.seat.behind (omega (arith, lt, count)) in
            omega (arith, all, its, none);
        long = took.placed.long;
        read = λ p some.
            let at = placed.0 p some in
            subst (λ (s : Slot). IsReadAt asked old old.faults new.faults s × (s.place ≡ p)) (sym at.3)
            (read_rose asked old _ _ _ _ (slot_at hand.part.items at.0) (λ rose. rose_added _ _ old.faults mid.faults new.faults le on rose back.1) (read.read at.0 blank at.1), at.2);
        others = placed.1;
        parts = (let longer = ap length took.parts ∙ length-append now.parts.items (hand.part ∷ []) in omega (arith, longer));
        parts_room = took.room;
      }
