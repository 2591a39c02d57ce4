-- The last hand that is taken back: it brings what it has read, and what was left.
use Rattle.std.proofs.Common.{◌≡◌, ◌<◌, ◌≤◌, ◌+◌, ℕ, List, [], ◌∷◌, ◌++◌, length, get_or, sym, ap, subst, ◌∙◌, arith, length-append, max, vec_capacity, Option, Some, None}
use Rattle.std.specs.List.{All}
use Rattle.std.specs.Global.{Vec}
use Rattle.std.proofs.lemmas.List.{map-append, append-nil}
use Rattle.std.proofs.lemmas.List.Elements.{All-append, All-head, All-push, All-tail}
use mathlib.Core.Logic.{dite}
use native.Mathlib.Decide.{ℕ_discrete}
use Rattle.ob_base.specs.Causes.{Rose}
use Rattle.ob_store.specs.declared.event.Event.{Event}
use Rattle.ob_store.specs.declared.event.Event.TheVariants.{Read}
use Rattle.ob_store.specs.Disk.{Disk}
use Rattle.ob_store.specs.Calls.{AddsFaults, Keeps, Notes, NotesLane}
use Rattle.ob_store.proofs.Events.{joined}
use Rattle.ob_claims.specs.declared.claims.Claims.{Claims}
use Rattle.ob_claims.specs.declared.claims.Round.{Round}
use Rattle.ob_claims.specs.ClaimCalls.{ClaimSeat, IsClaimSeat}
use Rattle.ob_claims.specs.ClaimRule.{both_holds, times}
use Rattle.ob_claims.proofs.Counts.{times_append}
use Rattle.ob_lanes.specs.declared.hand.Hand.{Hand}
use Rattle.ob_lanes.specs.declared.hand.SealedJobs.{SealedJobs}
use Rattle.ob_lanes.specs.declared.hand.Slot.{Slot}
use Rattle.ob_lanes.specs.declared.readers.Readers.{Readers}
use Rattle.ob_lanes.specs.Hands.{IsReadAt, slot_places, reads_of, slot_at}
use Rattle.ob_lanes.specs.JobReads.{cells_of}
use Rattle.ob_lanes.specs.Placing.{AreLeftRead, AreSlotsPlaced}
use Rattle.ob_lanes.specs.Rounds.{AreHandsOut, HasHandRead, HaveRoom, hands_in}
use Rattle.ob_lanes.specs.Shares.{RiseFrom}
use Rattle.ob_lanes.proofs.Each.{Each, at_each, each_at, each_back, each_front}
use Rattle.ob_lanes.proofs.Gathering.{Brings, lane_behind, none_behind, placed_whole, places_within, rose_added}
use Rattle.ob_lanes.proofs.Places.{blank}
use Rattle.ob_lanes.proofs.Rounding.{hands_more}
use Rattle.ob_lanes.proofs.SlotReads.{read_home, read_rose, rose_on}
use Rattle.ob_lanes.proofs.Taking.{hands_few}

rise_lower : (least r : ℕ) (ys : List ℕ) → least ≤ r → RiseFrom r ys → RiseFrom least ys
rise_lower least r [] le rise = tt
rise_lower least r (y ∷ ys) le rise = (let above = rise.0 in omega (arith, le, above), rise.1)

-- rising places behind others that all lie before them
rise_then : (least r : ℕ) (xs ys : List ℕ) → RiseFrom least xs → All (λ x. x < r) xs → least ≤ r → RiseFrom r ys → RiseFrom least (xs ++ ys)
rise_then least r [] ys rise below le later = rise_lower least r ys le later
rise_then least r (x ∷ xs) ys rise below le later =
    let head : x < r = All-head (λ y. y < r) x xs below in
    (rise.0, rise_then (x + 1) r xs ys rise.1 (All-tail (λ y. y < r) x xs below) (omega (arith, head)) later)

all_below : (a b : ℕ) (xs : List ℕ) → a ≤ b → All (λ x. x < a) xs → All (λ x. x < b) xs
all_below a b xs le below i d lt = let b = below i d lt in omega (arith, b, le)

all_front : {A : Type 0} (P : A → Type 0) (all xs ys : List A) → all ≡ xs ++ ys → All P all → All P xs
all_front P all xs ys is each = at_each P xs (each_front P xs ys (subst (Each P) is (each_at P all each)))

all_last : {A : Type 0} (P : A → Type 0) (all xs : List A) (x : A) → all ≡ xs ++ x ∷ [] → All P all → P x
all_last P all xs x is each = (each_back P xs (x ∷ []) (subst (Each P) is (each_at P all each))).0

-- ---- the last one is taken out

pub popped_more : {L : Type 0} (hands rest : List (Option (Hand L))) (hand : Hand L) → hands ≡ rest ++ Some hand ∷ [] → hands_in hands ≡ hands_in rest ++ hand ∷ []
popped_more hands rest hand is = ap hands_in is ∙ hands_more rest (Some hand)

pub popped_none : {L : Type 0} (hands rest : List (Option (Hand L))) → hands ≡ rest ++ None ∷ [] → length (hands_in hands) ≡ length hands → ⊥
popped_none hands rest is there =
    let less : hands_in hands ≡ hands_in rest = ap hands_in is ∙ hands_more rest None ∙ append-nil (hands_in rest) in
    let few = hands_few rest in
    let longer = ap length is ∙ length-append rest (None ∷ []) in
    let same = ap length less in
    absurd (omega (arith, few, longer, same, there))

pub room_last : {L : Type 0} (room : ℕ) (before now after : Readers L) (hands : Vec (Option (Hand L))) (hand : Hand L) → hands_in before.hands.items ≡ hands_in hands.items ++ hand ∷ [] → (HaveRoom room (record before { hands = hands }) → HaveRoom room now)
    → after.parts.items ≡ now.parts.items ++ hand.part ∷ [] → after.hands ≡ now.hands → HaveRoom room before → HaveRoom room after
room_last {L} room before now after hands hand more on parts same was =
    let P = λ (h : Hand L). room ≤ vec_capacity h.part in
    let mid = on (record { home = was.home; out = all_front P (hands_in before.hands.items) (hands_in hands.items) (hand ∷ []) more was.out }) in
    record {
      home = subst (All (λ (p : Vec Slot). room ≤ vec_capacity p)) (sym parts) (All-push (λ (p : Vec Slot). room ≤ vec_capacity p) now.parts.items hand.part mid.home (all_last P (hands_in before.hands.items) (hands_in hands.items) hand more was.out));
      out = subst (λ (v : Vec (Option (Hand L))). All P (hands_in v.items)) (sym same) mid.out;
    }

module _ {L : Type 0} (lane_seen : L → Option (List Event)) (lane_faults : L → ℕ) (round : Round) (asked : SealedJobs) where
  -- the others are still out
  pub out_popped : (old : Disk) (before : Readers L) (hands : Vec (Option (Hand L))) (hand : Hand L) → AreHandsOut old lane_seen lane_faults round asked before → before.hands.items ≡ hands.items ++ Some hand ∷ [] → AreHandsOut old lane_seen lane_faults round asked (record before { hands = hands })
  out_popped old before hands hand are is =
      let more = popped_more before.hands.items hands.items hand is in
      let longer = ap length is ∙ length-append hands.items (Some hand ∷ []) in
      let further = ap length more ∙ length-append (hands_in hands.items) (hand ∷ []) in
      record {
        own = are.own;
        start = are.start;
        count = are.count;
        there = (let there = are.there in omega (arith, there, longer, further));
        read = all_front (HasHandRead old lane_seen lane_faults before.claims round asked) (hands_in before.hands.items) (hands_in hands.items) (hand ∷ []) more are.read;
        room = (let room = are.room in omega (arith, room, longer));
        slots = are.slots;
      }

  pub last_read : (old : Disk) (before : Readers L) (hands : List (Option (Hand L))) (hand : Hand L) → AreHandsOut old lane_seen lane_faults round asked before → before.hands.items ≡ hands ++ Some hand ∷ [] → HasHandRead old lane_seen lane_faults before.claims round asked hand
  last_read old before hands hand are is = all_last (HasHandRead old lane_seen lane_faults before.claims round asked) (hands_in before.hands.items) (hands_in hands) hand (popped_more before.hands.items hands hand is) are.read

  -- what the last hand brings, and what its lane has read behind
  pub last_brings : (old mid new : Disk) (claims : Claims) (now left : Readers L) (seat : ClaimSeat) (slots : Vec Slot) (parts : Vec (Vec Slot)) (hand : Hand L) (lane : L) → HasHandRead old lane_seen lane_faults claims round asked hand → round.count ≡ length asked.jobs.now
      → seat.me.0 ≡ both_holds now.seat.me.0 hand.seat.me.0 → AreSlotsPlaced hand.part.items (length hand.part.items) now.slots.items slots.items
      → AreLeftRead mid lane_seen lane_faults asked hand.lane lane (record now { seat = seat; slots = slots }) left → lane_faults hand.lane ≤ lane_faults lane → IsClaimSeat left.claims left.seat → left.seat.me.0.parts ≡ seat.me.0.parts
      → left.claims ≡ now.claims → parts.items ≡ now.parts.items ++ hand.part ∷ [] → vec_capacity parts ≡ vec_capacity now.parts
      → Keeps old mid → old.faults ≤ mid.faults → mid.faults ≤ new.faults → NotesLane (lane_seen lane) mid.seen new.seen → AddsFaults (lane_faults lane) mid.faults new.faults
      → (share : List ℕ) × Brings asked old mid new now (record left { parts = parts }) share
  last_brings old mid new claims now left seat slots parts hand lane has count joined_seat put found on_lane own same_parts same_claims longer caps keeps le on back adds =
      let read = has.read in
      let its = slot_places hand.part.items in
      let more = found.left in
      let two : (p : ℕ) → times p (its ++ more) ≡ times p its + times p more = λ p. times_append p its more in
      let claimed : seat.me.0.claimed ≡ now.seat.me.0.claimed ++ hand.seat.me.0.claimed = λ i. (joined_seat i).claimed in
      let reached : seat.me.0.reached ≡ max now.seat.me.0.reached hand.seat.me.0.reached = λ i. (joined_seat i).reached in
      let placed = placed_whole hand.part.items now.slots.items slots.items put in
      let rose : (first : ℕ) → Rose first (lane_faults lane) → Rose old.faults new.faults = λ first rose. rose_added first (lane_faults lane) old.faults mid.faults new.faults le on rose adds in (
        its ++ more,
        record {
          rising = rise_then 0 seat.me.0.reached its more read.seat.rising (all_below hand.seat.me.0.reached seat.me.0.reached its (omega (arith, reached)) read.seat.reached) (omega arith) found.rising;
          within = All-append (λ p. p < length asked.jobs.now) its more (places_within asked old _ _ hand.part.items read.read) found.within;
          seen = λ xs so_far. lane_behind xs (reads_of asked (its ++ more)) old.seen mid.seen (lane_seen has.first.lane) (lane_seen lane) new.seen has.fresh.seen so_far
              (subst (λ (es : List Event). Notes es (lane_seen has.first.lane) (lane_seen lane)) (sym (map-append (λ p. Read (get_or (cells_of asked.jobs.now) p 0)) its more))
              (joined (reads_of asked its) (reads_of asked more) (lane_seen has.first.lane) (lane_seen hand.lane) (lane_seen lane) read.seen found.seen)) back;
          claims = same_claims;
          own = own;
          seats = (let both : seat.me.0.parts ≡ now.seat.me.0.parts + hand.seat.me.0.parts = λ i. (joined_seat i).parts in let hers = read.parts in let one = has.one in omega (arith, same_parts, both, hers, one));
          claimed = λ p lt.
              let a = ap (times p) found.claimed ∙ times_append p seat.me.0.claimed (more ++ found.beyond) in
              let b = times_append p more found.beyond in
              let c = ap (times p) claimed ∙ times_append p now.seat.me.0.claimed hand.seat.me.0.claimed in
              let d = ap (times p) read.seat.claimed ∙ times_append p its read.seat.beyond in
              let none = none_behind round.count p read.seat.beyond read.seat.behind (omega (arith, lt, count)) in
              let none_more = none_behind (length asked.jobs.now) p found.beyond found.behind lt in
              let e = two p in
              omega (arith, a, b, c, d, none, none_more, e);
          long = found.long ∙ put.long;
          read = λ p some. dite (ℕ_discrete (times p more) 0)
              (λ none.
              let e = two p in
              let at = placed.0 p (omega (arith, some, e, none)) in
              subst (λ (s : Slot). IsReadAt asked old old.faults new.faults s × (s.place ≡ p)) (sym (found.others p none ∙ at.3))
              (read_rose asked old _ _ _ _ (slot_at hand.part.items at.0) (λ risen. rose _ (rose_on _ _ _ on_lane risen)) (read.read at.0 blank at.1), at.2))
              (λ some_more.
              let at = found.read p (omega (arith, some_more)) in
              (read_rose asked old _ _ _ _ (slot_at left.slots.items p) (rose (lane_faults hand.lane)) (read_home asked old mid _ _ (slot_at left.slots.items p) keeps at.0), at.1));
          others = λ p none. (let e = two p in found.others p (omega (arith, none, e)) ∙ placed.1 p (omega (arith, none, e)));
          parts = (let more_parts = ap length longer ∙ length-append now.parts.items (hand.part ∷ []) in omega (arith, more_parts));
          parts_room = caps;
        },
      )
