-- Lists that are made by a count.
use Rattle.std.proofs.Common.{◌≡◌, ◌<◌, ◌≤◌, ◌+◌, ◌-◌, ◌^◌, ℕ, zero, suc, Bool, true, false, List, [], ◌∷◌, ◌++◌, map, filter, length, take, drop, get_or, refl, sym, ap, ◌∙◌, arith, append_assoc, append-nil, add-one}
use Rattle.std.specs.List.{range_with_len, flat_map}
use Rattle.std.proofs.lemmas.List.{take_more, drop_more, drop_all, map-append}
use Rattle.std.proofs.lemmas.List.FromFn.{get_or-map-range_with_len, length-map-range_with_len}
use Rattle.std.proofs.lemmas.List.Concat.{flat_map-append}
use Rattle.std.specs.Prelude.{nat_lt, ◌==◌, slice_index_or}
use Rattle.std.proofs.lemmas.Bool.{lt-ltb, eq-eqb}
use Rattle.std.proofs.lemmas.List.Elements.{filter-append}
use Rattle.ob_base.specs.declared.params.Params.{Params}
use Rattle.ob_base.specs.Tree.{below, width, path, reversed}
use Rattle.ob_base.specs.Layout.{slot_cell}
use Rattle.ob_store.specs.declared.watch.Note.{Note}
use Rattle.ob_schedule.specs.Paths.{by_falling_level}
use Rattle.ob_schedule.specs.Holes.{Hole, lift_holes, visit_holes}
use Rattle.ob_schedule.specs.Schedule.{writes_of, bucket_writes}
use Rattle.ob_wants.specs.declared.visit.Visit.{Visit}
use Rattle.ob_wants.specs.Visits.{hole_of_visit}
use Rattle.ob_wants.specs.declared.occasion.Occasion.{Occasion}
use Rattle.ob_wants.specs.Occasions.{holes_on}
use Rattle.ob_schedule.specs.Sides.{other, side_number}
use Rattle.ob_schedule.specs.declared.want.Change.TheVariants.{Keeps}
use Rattle.ob_schedule.specs.declared.want.Want.{Want}
use Rattle.ob_schedule.specs.declared.want.Want.TheVariants.{Fixed, Place}
use Rattle.ob_schedule.specs.Wants.{kept, places}
use Rattle.ob_schedule.specs.Standing.{StandingKnown}
use Rattle.ob_wants.specs.Marked.{writes_marked}

range_more : (a n j : ℕ) → a + n ≡ j → range_with_len a (suc n) ≡ range_with_len a n ++ j ∷ []
range_more a zero j e = let same : a ≡ j = omega arith in rw same refl
range_more a (suc n) j e = ap (λ xs. a ∷ xs) (range_more (a + 1) n j (omega arith))

pub range_up : (a n : ℕ) → range_with_len a (n + 1) ≡ range_with_len a n ++ (a + n) ∷ []
range_up a n = rw add-one (range_more a n (a + n) refl)

pub below_up : (n : ℕ) → below (n + 1) ≡ below n ++ n ∷ []
below_up n = rw add-one (range_more 0 n n (omega arith))

map_up : {X : Type 0} (f : ℕ → X) (n : ℕ) → map f (below (n + 1)) ≡ map f (below n) ++ f n ∷ []
map_up f n = ap (map f) (below_up n) ∙ map-append f (below n) (n ∷ [])

-- what a function gives for one number more, behind a list
pub one_behind : {X : Type 0} (f : ℕ → X) (old now next : List X) (x : X) (n : ℕ) → now ≡ old ++ map f (below n) → next ≡ now ++ x ∷ [] → x ≡ f n → next ≡ old ++ map f (below (n + 1))
one_behind {X} f old now next x n was is told =
    is ∙ (λ j. was j ++ told j ∷ []) ∙ append_assoc old (map f (below n)) (f n ∷ []) ∙ ap (λ (xs : List X). old ++ xs) (sym (map_up f n))

pub flat_taken : {A : Type 0} (f : ℕ → List A) (us : List ℕ) (i : ℕ) → i < length us → flat_map f (take (i + 1) us) ≡ flat_map f (take i us) ++ f (get_or us i 0)
flat_taken {A} f us i lt = ap (flat_map f) (take_more us i 0 lt) ∙ flat_map-append f (take i us) (get_or us i 0 ∷ []) ∙ ap (λ (xs : List A). flat_map f (take i us) ++ xs) (append-nil (f (get_or us i 0)))

-- the reads of a lift, so many of them
abbrev pub lifts : ℕ → ℕ → ℕ → List Hole
lifts u n many = map (λ i. record { bucket = u; number = i }) (range_with_len n many)

pub lifts_more : (u n i : ℕ) → lifts u n (i + 1) ≡ lifts u n i ++ record { bucket = u; number = n + i } ∷ []
lifts_more u n i = ap (map (λ j. record { bucket = u; number = j })) (range_up n i) ∙ map-append (λ j. record { bucket = u; number = j }) (range_with_len n i) ((n + i) ∷ [])

anew_append : (p : Params) (s : StandingKnown) (marks : List Bool) (us vs : List ℕ) → writes_marked p s marks (us ++ vs) ≡ writes_marked p s marks us ++ writes_marked p s marks vs
anew_append p s marks us vs =
    let marked : ℕ → Bool = λ u. slice_index_or marks u false in
    let part : ℕ → List Note = λ u. writes_of (map (slot_cell p (side_number (other (s.homes u))) u) (below (p.real + p.dummies))) in
    ap (flat_map part) (filter-append marked us vs) ∙ flat_map-append part (filter marked us) (filter marked vs)

-- one bucket more of those that an end may write anew
pub anew_more : (p : Params) (s : StandingKnown) (marks : List Bool) (a i : ℕ) → writes_marked p s marks (range_with_len a (i + 1)) ≡ writes_marked p s marks (range_with_len a i) ++ writes_marked p s marks ((a + i) ∷ [])
anew_more p s marks a i = ap (writes_marked p s marks) (range_up a i) ∙ anew_append p s marks (range_with_len a i) ((a + i) ∷ [])

-- one level more
pub anew_level : (p : Params) (s : StandingKnown) (marks : List Bool) (done now : List Want) (rest many : ℕ) → many ≡ 2 ^ rest → now ≡ done ++ kept (writes_marked p s marks (range_with_len (many - 1) many))
    → now ++ kept (writes_marked p s marks (by_falling_level rest)) ≡ done ++ kept (writes_marked p s marks (by_falling_level (suc rest)))
anew_level p s marks done now rest many size is =
    let level : List Note = writes_marked p s marks (range_with_len (2 ^ rest - 1) (2 ^ rest)) in
    let others : List Note = writes_marked p s marks (by_falling_level rest) in
    let step : now ≡ done ++ kept level = is ∙ ap (λ (m : ℕ). done ++ kept (writes_marked p s marks (range_with_len (m - 1) m))) size in
    ap (λ (ws : List Want). ws ++ kept others) step
    ∙ append_assoc done (kept level) (kept others)
    ∙ ap (λ (ws : List Want). done ++ ws) (sym (map-append (λ note. Fixed note Keeps) level others))
    ∙ ap (λ (ns : List Note). done ++ kept ns) (sym (anew_append p s marks (range_with_len (2 ^ rest - 1) (2 ^ rest)) (by_falling_level rest)))

flat_below : {A : Type 0} (f : ℕ → List A) (n : ℕ) → flat_map f (below (n + 1)) ≡ flat_map f (below n) ++ f n
flat_below {A} f n = ap (flat_map f) (below_up n) ∙ flat_map-append f (below n) (n ∷ []) ∙ ap (λ (xs : List A). flat_map f (below n) ++ xs) (append-nil (f n))

-- one path more
pub paths_more : (p : Params) (counter n : ℕ) → flat_map (λ i. path p (reversed p.levels (counter + i))) (below (n + 1)) ≡ flat_map (λ i. path p (reversed p.levels (counter + i))) (below n) ++ path p (reversed p.levels (counter + n))
paths_more p counter n = flat_below (λ i. path p (reversed p.levels (counter + i))) n

-- one bucket more of the first home
pub homes_more : (p : Params) (n : ℕ) → bucket_writes p (λ u. 0) (below (n + 1)) ≡ bucket_writes p (λ u. 0) (below n) ++ writes_of (map (slot_cell p 0 n) (below (width p)))
homes_more p n = flat_below (λ u. writes_of (map (slot_cell p 0 u) (below (p.real + p.dummies)))) n

-- one bucket more of those that are read on an occasion
pub reads_more : (p : Params) (o : Occasion) (count : ℕ → ℕ) (us : List ℕ) (i : ℕ) → i < length us
    → flat_map (λ u. holes_on p o u (count u)) (take (i + 1) us) ≡ flat_map (λ u. holes_on p o u (count u)) (take i us) ++ holes_on p o (get_or us i 0) (count (get_or us i 0))
reads_more p o count us i lt = flat_taken (λ u. holes_on p o u (count u)) us i lt

pub lift_next : (old now first : List Visit) (v : Visit) (u n i : ℕ) → now ≡ old ++ v ∷ [] → map hole_of_visit old ≡ map hole_of_visit first ++ lifts u n i → hole_of_visit v ≡ record { bucket = u; number = n + i } → map hole_of_visit now ≡ map hole_of_visit first ++ lifts u n (i + 1)
lift_next old now first v u n i pushed before is =
    ap (map hole_of_visit) pushed ∙ map-append hole_of_visit old (v ∷ [])
    ∙ (λ j. before j ++ is j ∷ [])
    ∙ append_assoc (map hole_of_visit first) (lifts u n i) (record { bucket = u; number = n + i } ∷ [])
    ∙ ap (λ (hs : List Hole). map hole_of_visit first ++ hs) (sym (lifts_more u n i))

visit_full : (p : Params) (u n : ℕ) → n < p.dummies → n + 1 ≡ p.dummies → record { bucket = u; number = n } ∷ lift_holes p u (n + 1) ≡ visit_holes p u n
visit_full p u n low last =
    let below_it : nat_lt n p.dummies ≡ true = lt-ltb n p.dummies low in
    let is_last : (n + 1 == p.dummies) ≡ true = eq-eqb (n + 1) p.dummies last in
    rw below_it (rw is_last refl)

-- the last read of a version below the limit, and the lift behind it
pub visit_all : (p : Params) (u n : ℕ) (old mid now : List Visit) (v : Visit) → n < p.dummies → n + 1 ≡ p.dummies → mid ≡ old ++ v ∷ [] → hole_of_visit v ≡ record { bucket = u; number = n } → map hole_of_visit now ≡ map hole_of_visit mid ++ lift_holes p u (n + 1) → map hole_of_visit
    now ≡ map hole_of_visit old ++ visit_holes p u n
visit_all p u n old mid now v low last pushed is lifted =
    let lift : List Hole = lift_holes p u (n + 1) in
    lifted
    ∙ ap (λ (hs : List Hole). hs ++ lift) (ap (map hole_of_visit) pushed ∙ map-append hole_of_visit old (v ∷ []))
    ∙ append_assoc (map hole_of_visit old) (hole_of_visit v ∷ []) lift
    ∙ ap (λ (hs : List Hole). map hole_of_visit old ++ hs) (ap (λ (h : Hole). h ∷ lift) is ∙ visit_full p u n low last)

-- one place more of a batch, of those that are put behind a list
pub places_more : (p : Params) (batch place : ℕ) (now next all : List Want) → place < p.places → now ++ drop place (places p batch) ≡ all → next ≡ now ++ Place batch place ∷ [] → next ++ drop (place + 1) (places p batch) ≡ all
places_more p batch place now next all lt before pushed =
    let rest : List Want = drop (place + 1) (places p batch) in
    let long : place < length (places p batch) = omega (arith, lt, length-map-range_with_len (λ i. Place batch i) 0 p.places) in
    let at : get_or (places p batch) place (Place batch 0) ≡ Place batch place = get_or-map-range_with_len (λ i. Place batch i) 0 p.places place place (Place batch 0) lt (omega arith) in
    ap (λ (ws : List Want). ws ++ rest) pushed ∙ append_assoc now (Place batch place ∷ []) rest
    ∙ ap (λ (ws : List Want). now ++ ws) (sym (drop_more (places p batch) place (Place batch 0) long ∙ ap (λ (w : Want). w ∷ rest) at)) ∙ before

pub places_end : (p : Params) (batch place : ℕ) (now all : List Want) → p.places ≤ place → now ++ drop place (places p batch) ≡ all → now ≡ all
places_end p batch place now all most before =
    sym (append-nil now) ∙ ap (λ (ws : List Want). now ++ ws) (sym (drop_all place (places p batch) (omega (arith, most, length-map-range_with_len (λ i. Place batch i) 0 p.places)))) ∙ before
