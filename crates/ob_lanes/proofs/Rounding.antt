-- Lanes made one by one, and what stands in a list that is taken one by one.
use Rattle.std.proofs.Common.{◌≡◌, ◌≤◌, ◌<◌, ℕ, List, [], ◌∷◌, ◌++◌, Option, Some, None, sym, ap, subst, ◌∙◌, arith, length, get_or, take, drop, vec_capacity}
use Rattle.std.specs.List.{All}
use Rattle.std.specs.Global.{Vec}
use Rattle.std.proofs.lemmas.List.{flat_map_more}
use Rattle.std.proofs.lemmas.List.Elements.{All-head, All-push, All-tail}
use Rattle.ob_store.specs.declared.event.Event.{Event}
use Rattle.ob_store.specs.Calls.{Notes, IsFreshLane}
use Rattle.ob_store.proofs.Lanes.{fresh_tells_none}
use Rattle.ob_lanes.specs.declared.hand.Hand.{Hand}
use Rattle.ob_lanes.specs.declared.hand.Slot.{Slot}
use Rattle.ob_lanes.specs.declared.readers.Readers.{Readers}
use Rattle.ob_lanes.specs.Rounds.{HaveRoom, IsFreshHand, hands_in, hand_in}
use Rattle.ob_lanes.proofs.Each.{Each, each_append, each_on}

-- ---- lists that are taken one by one

-- the first is taken out
pub first_taken : {A : Type 0} (xs rest : List A) (x : A) → 0 < length xs → x ≡ get_or xs 0 x → rest ≡ take 0 xs ++ drop 1 xs → xs ≡ x ∷ rest
first_taken [] rest x lt is left = absurd (omega (arith, lt))
first_taken (y ∷ xs) rest x lt is left = ap (λ (z : _). z ∷ xs) (sym is) ∙ ap (λ (zs : List _). x ∷ zs) (sym left)

pub hands_more : {L : Type 0} (places : List (Option (Hand L))) (place : Option (Hand L)) → hands_in (places ++ place ∷ []) ≡ hands_in places ++ hand_in place
hands_more places place = sym (flat_map_more hand_in [] places place)

-- ---- lanes made

fresh_on : (mid new lane : Option (List Event)) → Notes [] mid new → IsFreshLane mid lane → IsFreshLane new lane
fresh_on mid None lane still fresh = fresh_tells_none mid lane fresh
fresh_on (Some m) (Some n) lane still fresh = fresh
fresh_on None (Some n) lane still fresh = absurd still

module _ {L : Type 0} (lane_seen : L → Option (List Event)) (lane_faults : L → ℕ) where
  -- those that were made stay fresh where nothing was told
  pub fresh_still : (mid new : Option (List Event)) (hands : List (Hand L)) → Notes [] mid new → Each (IsFreshHand lane_seen lane_faults mid) hands → Each (IsFreshHand lane_seen lane_faults new) hands
  fresh_still mid new hands still all =
      each_on (IsFreshHand lane_seen lane_faults mid) (IsFreshHand lane_seen lane_faults new) hands (λ hand f. record { faults = f.faults; seen = fresh_on mid new (lane_seen hand.lane) still f.seen }) all

  pub fresh_more : (mid new : Option (List Event)) (hands : List (Hand L)) (hand : Hand L) → Notes [] mid new → Each (IsFreshHand lane_seen lane_faults mid) hands → lane_faults hand.lane ≡ 0 → IsFreshLane mid (lane_seen hand.lane)
      → Each (IsFreshHand lane_seen lane_faults new) (hands ++ hand ∷ [])
  fresh_more mid new hands hand still all faults fresh =
      each_append (IsFreshHand lane_seen lane_faults new) hands (hand ∷ []) (fresh_still mid new hands still all) (record { faults = faults; seen = fresh_on mid new (lane_seen hand.lane) still fresh }, tt)

-- ---- room

-- a part is given out with a hand
pub room_lent : {L : Type 0} (room : ℕ) (old new : Readers L) (part : Vec Slot) (hand : Hand L) → old.parts.items ≡ part ∷ new.parts.items → hands_in new.hands.items ≡ hands_in old.hands.items ++ hand ∷ [] → vec_capacity hand.part ≡ vec_capacity part
    → HaveRoom room old → HaveRoom room new
room_lent {L} room old new part hand taken more same was =
    let parts : All (λ (p : Vec Slot). room ≤ vec_capacity p) (part ∷ new.parts.items) = subst (All (λ (p : Vec Slot). room ≤ vec_capacity p)) taken was.home in
    let fits : room ≤ vec_capacity part = All-head (λ (p : Vec Slot). room ≤ vec_capacity p) part new.parts.items parts in
    record {
      home = All-tail (λ (p : Vec Slot). room ≤ vec_capacity p) part new.parts.items parts;
      out = subst (All (λ (h : Hand L). room ≤ vec_capacity h.part)) (sym more) (All-push (λ (h : Hand L). room ≤ vec_capacity h.part) (hands_in old.hands.items) hand was.out (omega (arith, fits, same)));
    }

-- and comes back with it, from before the others that are out
pub room_back : {L : Type 0} (room : ℕ) (old new : Readers L) (hand : Hand L) → hands_in old.hands.items ≡ hand ∷ hands_in new.hands.items → new.parts.items ≡ old.parts.items ++ hand.part ∷ [] → HaveRoom room old → HaveRoom room new
room_back {L} room old new hand taken more was =
    let hands : All (λ (h : Hand L). room ≤ vec_capacity h.part) (hand ∷ hands_in new.hands.items) = subst (All (λ (h : Hand L). room ≤ vec_capacity h.part)) taken was.out in
    record {
      home = subst (All (λ (p : Vec Slot). room ≤ vec_capacity p)) (sym more) (All-push (λ (p : Vec Slot). room ≤ vec_capacity p) old.parts.items hand.part was.home (All-head (λ (h : Hand L). room ≤ vec_capacity h.part) hand (hands_in new.hands.items) hands));
      out = All-tail (λ (h : Hand L). room ≤ vec_capacity h.part) hand (hands_in new.hands.items) hands;
    }
