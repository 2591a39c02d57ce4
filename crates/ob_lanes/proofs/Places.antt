-- Slots that are put in their places, one by one.
use Rattle.std.proofs.Common.{◌≡◌, ◌<◌, ◌+◌, ℕ, List, [], ◌∷◌, ◌++◌, length, set, take, Ok, refl, sym, ap, ◌∙◌, arith, length-set, get_or-set_same, get_or-set_other}
use Rattle.std.proofs.lemmas.List.{map-append, take_more}
use mathlib.Core.Logic.{dite}
use native.Mathlib.Decide.{ℕ_discrete}
use Rattle.ob_claims.specs.ClaimRule.{times}
use Rattle.ob_claims.proofs.Counts.{times_append}
use Rattle.ob_lanes.specs.declared.hand.Slot.{Slot}
use Rattle.ob_lanes.specs.Hands.{slot_places, slot_at}
use Rattle.ob_lanes.specs.Placing.{AreSlotsPlaced}
use Rattle.ob_lanes.proofs.Sharing.{hit, hit_no, hit_yes, times_cons}

abbrev pub blank : Slot
blank = record { place = 0; outcome = Ok [] }

pub none_placed : (part slots : List Slot) → AreSlotsPlaced part 0 slots slots
none_placed part slots = record { long = refl; placed = λ p some. absurd (omega (arith, some)); others = λ p none. refl }

-- a place stands among one slot's more
counted : (part : List Slot) (n p : ℕ) → n < length part → times p (slot_places (take (n + 1) part)) ≡ times p (slot_places (take n part)) + hit p (slot_at part n).place
counted part n p lt =
    let more : slot_places (take (n + 1) part) ≡ slot_places (take n part) ++ (slot_at part n).place ∷ [] = ap slot_places (take_more part n blank lt) ∙ map-append (λ s. s.place) (take n part) (slot_at part n ∷ []) in
    let both = times_append p (slot_places (take n part)) ((slot_at part n).place ∷ []) in
    let one = times_cons p (slot_at part n).place [] in
    let none : times p [] ≡ 0 = refl in
    ap (times p) more ∙ omega (arith, both, one, none)

pub placed_more : (part old mid new : List Slot) (n : ℕ) (slot : Slot) → n < length part → slot ≡ slot_at part n → slot.place < length mid → new ≡ set mid slot.place slot → AreSlotsPlaced part n old mid → AreSlotsPlaced part (n + 1) old new
placed_more part old mid new n slot lt is within made was =
    let place : slot.place ≡ (slot_at part n).place = ap (λ (s : Slot). s.place) is in
    let here : slot_at new slot.place ≡ slot = ap (λ (ss : List Slot). slot_at ss slot.place) made ∙ get_or-set_same mid slot.place slot blank within in
    record {
      long = (let l = ap length made in let same = length-set mid slot.place slot in let before = was.long in omega (arith, l, same, before));
      placed = λ p some. dite (ℕ_discrete slot.place p)
          (λ same. (n, omega arith, sym place ∙ same, ap (slot_at new) (sym same) ∙ here ∙ is))
          (λ ne.
          let count = counted part n p lt in
          let none = hit_no p (slot_at part n).place (λ e. ne (place ∙ e)) in
          let before = was.placed p (omega (arith, some, count, none)) in
          let less = before.1 in
          (before.0, omega (arith, less), before.2, ap (λ (ss : List Slot). slot_at ss p) made ∙ get_or-set_other mid slot.place p slot blank (λ e. ne (sym e)) ∙ before.3));
      others = λ p none. dite (ℕ_discrete slot.place p)
          (λ same.
          let count = counted part n p lt in
          let one = hit_yes p (slot_at part n).place (sym place ∙ same) in
          absurd (omega (arith, none, count, one)))
          (λ ne.
          let count = counted part n p lt in
          ap (λ (ss : List Slot). slot_at ss p) made ∙ get_or-set_other mid slot.place p slot blank (λ e. ne (sym e)) ∙ was.others p (omega (arith, none, count)));
    }
