-- Places that lanes have shared, each once: which lane has each, and that its own are those in their order.
use Rattle.std.proofs.Common.{◌≡◌, ◌≢◌, ◌<◌, ◌≤◌, ◌+◌, ◌==◌, ℕ, zero, suc, Bool, true, false, cond, List, [], ◌∷◌, ◌++◌, length, get_or, map, Option, refl, sym, ap, subst, ◌∙◌, arith, eq-eqb, ne_eqb}
use Rattle.std.specs.List.{All, filter, flat_map, range_with_len}
use Rattle.std.proofs.lemmas.List.Elements.{All-head, All-tail}
use Rattle.std.proofs.lemmas.List.{get_or_default}
use Rattle.std.proofs.lemmas.List.Sums.{sum_by-cons}
use mathlib.Core.Logic.{dite}
use native.Mathlib.Decide.{ℕ_discrete}
use Rattle.ob_claims.specs.ClaimRule.{times}
use Rattle.ob_claims.proofs.Counts.{times_append}
use Rattle.ob_store.specs.declared.event.Event.{Event}
use Rattle.ob_store.specs.declared.event.Event.TheVariants.{Read}
use Rattle.ob_lanes.specs.Shares.{AreShared, RiseFrom, all_places, reads_at}

-- whether a place is among these
abbrev pub is_among : ℕ → List ℕ → Bool
is_among x [] = false
is_among x (y ∷ ys) = cond (y == x) true (is_among x ys)

-- the first of the shares that has the place
abbrev pub share_of : List (List ℕ) → ℕ → ℕ
share_of [] x = 0
share_of (s ∷ ss) x = cond (is_among x s) 0 (suc (share_of ss x))

-- whether y is x, as a number
abbrev pub hit : ℕ → ℕ → ℕ
hit x y = cond (y == x) 1 0

pub hit_yes : (x y : ℕ) → y ≡ x → hit x y ≡ 1
hit_yes x y e = ap (λ (b : Bool). cond b 1 0) (eq-eqb y x e)

pub hit_no : (x y : ℕ) → y ≢ x → hit x y ≡ 0
hit_no x y ne = ap (λ (b : Bool). cond b 1 0) (ne_eqb y x ne)

pub times_cons : (x y : ℕ) (ys : List ℕ) → times x (y ∷ ys) ≡ hit x y + times x ys
times_cons x y ys = sum_by-cons (λ z. cond (z == x) 1 0) y ys

-- a place stands in a list not at all, or it is among it
among_none : (x : ℕ) (ys : List ℕ) → times x ys ≡ 0 → is_among x ys ≡ false
among_none x [] none = refl
among_none x (y ∷ ys) none = dite (ℕ_discrete y x)
    (λ same. let c = times_cons x y ys in let one = hit_yes x y same in absurd (omega (arith, c, one, none)))
    (λ ne. let c = times_cons x y ys in let zero_here = hit_no x y ne in ap (λ (b : Bool). cond b true (is_among x ys)) (ne_eqb y x ne) ∙ among_none x ys (omega (arith, c, zero_here, none)))

among_some : (x : ℕ) (ys : List ℕ) → 0 < times x ys → is_among x ys ≡ true
among_some x [] some = absurd (omega (arith, some))
among_some x (y ∷ ys) some = dite (ℕ_discrete y x)
    (λ same. ap (λ (b : Bool). cond b true (is_among x ys)) (eq-eqb y x same))
    (λ ne. let c = times_cons x y ys in let zero_here = hit_no x y ne in ap (λ (b : Bool). cond b true (is_among x ys)) (ne_eqb y x ne) ∙ among_some x ys (omega (arith, c, zero_here, some)))

-- those that rise are not below the least
low_none : (least x : ℕ) (ys : List ℕ) → RiseFrom least ys → x < least → times x ys ≡ 0
low_none least x [] rise lt = refl
low_none least x (y ∷ ys) rise lt =
    let above = rise.0 in
    let c = times_cons x y ys in
    let rest = low_none (y + 1) x ys rise.1 (omega (arith, lt, above)) in
    let other = hit_no x y (λ e. omega (arith, e, lt, above)) in
    omega (arith, c, rest, other)

-- Rising places below the end are those that pass, in their order.
pub picked : (test : ℕ → Bool) (least count : ℕ) (ys : List ℕ) → RiseFrom least ys → All (λ y. y < least + count) ys → ((x : ℕ) → least ≤ x → x < least + count → test x ≡ is_among x ys) → filter test (range_with_len least count) ≡ ys
picked test least zero [] rise below is = refl
picked test least zero (y ∷ ys) rise below is = let lt : y < least + 0 = All-head (λ z. z < least + 0) y ys below in let above = rise.0 in absurd (omega (arith, lt, above))
picked test least (suc count) [] rise below is =
    let here : test least ≡ false = is least (omega arith) (omega arith) in
    ap (λ (b : Bool). cond b (least ∷ filter test (range_with_len (least + 1) count)) (filter test (range_with_len (least + 1) count))) here
    ∙ picked test (least + 1) count [] tt (λ k d lt. absurd (omega (arith, lt))) (λ x le lt. is x (omega (arith, le)) (omega (arith, lt)))
picked test least (suc count) (y ∷ ys) rise below is = dite (ℕ_discrete y least)
    (λ same.
    let here : test least ≡ true = is least (omega arith) (omega arith) ∙ ap (λ (b : Bool). cond b true (is_among least ys)) (eq-eqb y least same) in
    ap (λ (b : Bool). cond b (least ∷ filter test (range_with_len (least + 1) count)) (filter test (range_with_len (least + 1) count))) here
    ∙ ap (λ (n : ℕ). n ∷ filter test (range_with_len (least + 1) count)) (sym same)
    ∙ ap (λ (zs : List ℕ). y ∷ zs) (picked test (least + 1) count ys (subst (λ (n : ℕ). RiseFrom (n + 1) ys) same rise.1) (λ k d lt. let b = All-tail (λ z. z < least + suc count) y ys below k d lt in omega (arith, b))
    (λ x le lt. dite (ℕ_discrete y x)
    (λ again. absurd (omega (arith, again, same, le)))
    (λ ne. is x (omega (arith, le)) (omega (arith, lt)) ∙ ap (λ (b : Bool). cond b true (is_among x ys)) (ne_eqb y x ne)))))
    (λ ne.
    let above = rise.0 in
    let none : times least (y ∷ ys) ≡ 0 = low_none (least + 1) least (y ∷ ys) (omega (arith, above, ne), rise.1) (omega arith) in
    let here : test least ≡ false = is least (omega arith) (omega arith) ∙ among_none least (y ∷ ys) none in
    ap (λ (b : Bool). cond b (least ∷ filter test (range_with_len (least + 1) count)) (filter test (range_with_len (least + 1) count))) here
    ∙ picked test (least + 1) count (y ∷ ys) (omega (arith, above, ne), rise.1) (λ k d lt. let b = below k d lt in omega (arith, b)) (λ x le lt. is x (omega (arith, le)) (omega (arith, lt))))

-- a share has a place at most as often as all have
share_few : (x : ℕ) (shares : List (List ℕ)) (k : ℕ) → k < length shares → times x (get_or shares k []) ≤ times x (all_places shares)
share_few x [] k lt = absurd (omega (arith, lt))
share_few x (s ∷ ss) zero lt = let c = times_append x s (all_places ss) in omega (arith, c)
share_few x (s ∷ ss) (suc k) lt = let c = times_append x s (all_places ss) in let h = share_few x ss k (omega (arith, lt)) in omega (arith, c, h)

-- The share that has a place that is there once is the first that has it.
share_step : (x : ℕ) (s : List ℕ) (ss : List (List ℕ)) (k : ℕ) → ((j : ℕ) → j < length ss → times x (all_places ss) ≡ 1 → (share_of ss x == j) ≡ is_among x (get_or ss j [])) → times x (all_places (s ∷ ss)) ≡ 1 → k < length (s ∷ ss)
    → (share_of (s ∷ ss) x == k) ≡ is_among x (get_or (s ∷ ss) k [])
share_step x s ss k later once lt = dite (ℕ_discrete (times x s) 0)
    (λ none. behind k lt (among_none x s none) (let c = times_append x s (all_places ss) in omega (arith, c, once, none)))
    (λ some. here k lt (among_some x s (omega (arith, some))) (let c = times_append x s (all_places ss) in omega (arith, c, once, some)))
  where
    here : (k : ℕ) → k < length (s ∷ ss) → is_among x s ≡ true → times x (all_places ss) ≡ 0 → (share_of (s ∷ ss) x == k) ≡ is_among x (get_or (s ∷ ss) k [])
    here zero lt has none = ap (λ (b : Bool). cond b 0 (suc (share_of ss x)) == 0) has ∙ eq-eqb 0 0 refl ∙ sym has
    here (suc k) lt has none =
        let few = share_few x ss k (omega (arith, lt)) in
        ap (λ (b : Bool). cond b 0 (suc (share_of ss x)) == suc k) has ∙ ne_eqb 0 (suc k) (λ e. omega (arith, e)) ∙ sym (among_none x (get_or ss k []) (omega (arith, few, none)))

    behind : (k : ℕ) → k < length (s ∷ ss) → is_among x s ≡ false → times x (all_places ss) ≡ 1 → (share_of (s ∷ ss) x == k) ≡ is_among x (get_or (s ∷ ss) k [])
    behind zero lt has rest = ap (λ (b : Bool). cond b 0 (suc (share_of ss x)) == 0) has ∙ ne_eqb (suc (share_of ss x)) 0 (λ e. omega (arith, e)) ∙ sym has
    behind (suc k) lt has rest = ap (λ (b : Bool). cond b 0 (suc (share_of ss x)) == suc k) has
        ∙ dite (ℕ_discrete (share_of ss x) k)
        (λ same. eq-eqb (suc (share_of ss x)) (suc k) (ap suc same) ∙ sym (eq-eqb (share_of ss x) k same) ∙ later k (omega (arith, lt)) rest)
        (λ ne. ne_eqb (suc (share_of ss x)) (suc k) (λ e. ne (omega (arith, e))) ∙ sym (ne_eqb (share_of ss x) k ne) ∙ later k (omega (arith, lt)) rest)

pub share_is : (x : ℕ) (shares : List (List ℕ)) (k : ℕ) → times x (all_places shares) ≡ 1 → k < length shares → (share_of shares x == k) ≡ is_among x (get_or shares k [])
share_is x [] k once lt = absurd (omega (arith, lt))
share_is x (s ∷ ss) k once lt = share_step x s ss k (λ j less rest. share_is x ss j rest less) once lt

pub share_within : (x : ℕ) (shares : List (List ℕ)) → times x (all_places shares) ≡ 1 → share_of shares x < length shares
share_within x [] once = absurd (omega (arith, once))
share_within x (s ∷ ss) once = dite (ℕ_discrete (times x s) 0)
    (λ none.
    let c = times_append x s (all_places ss) in
    let rest = share_within x ss (omega (arith, c, once, none)) in
    let is : share_of (s ∷ ss) x ≡ suc (share_of ss x) = ap (λ (b : Bool). cond b 0 (suc (share_of ss x))) (among_none x s none) in
    omega (arith, rest, is))
    (λ some. let is : share_of (s ∷ ss) x ≡ 0 = ap (λ (b : Bool). cond b 0 (suc (share_of ss x))) (among_some x s (omega (arith, some))) in omega (arith, is))

-- lists made of the numbers from one on, and of the items at these places
pub made_same : {A B : Type 0} (f : ℕ → List B) (g : A → List B) (xs : List A) (a : ℕ) → ((k : ℕ) (d : A) → k < length xs → f (a + k) ≡ g (get_or xs k d)) → flat_map f (range_with_len a (length xs)) ≡ flat_map g xs
made_same f g [] a same = refl
made_same f g (x ∷ xs) a same =
    let first : f a ≡ g x = ap f (omega arith) ∙ same zero x (omega arith) in
    ap (λ (ys : List _). ys ++ flat_map f (range_with_len (a + 1) (length xs))) first
    ∙ ap (λ (ys : List _). g x ++ ys) (made_same f g xs (a + 1) (λ k d lt. ap f (omega arith) ∙ same (suc k) d (omega (arith, lt))))

-- Each share of cells is what is picked by the first share that has a place.
pub shares_picked : (most : ℕ) (cells : List ℕ) (old new : Option (List Event)) (shared : AreShared most cells old new) (k : ℕ) (d : List ℕ) → k < length shared.shares
    → filter (λ p. share_of shared.shares p == k) (range_with_len 0 (length cells)) ≡ get_or shared.shares k d
shares_picked most cells old new shared k d lt =
    picked (λ p. share_of shared.shares p == k) 0 (length cells) (get_or shared.shares k d) (shared.rising k d lt) (λ j e less. let w = shared.within k d lt j e less in omega (arith, w))
    (λ p le less. share_is p shared.shares k (shared.once p (omega (arith, less))) lt ∙ ap (is_among p) (get_or_default shared.shares k [] d lt))

-- So lanes that are told by which share has a place read their cells in order.
pub shares_read : (most : ℕ) (cells : List ℕ) (old new : Option (List Event)) (shared : AreShared most cells old new)
    → flat_map (λ k. map (λ p. Read (get_or cells p 0)) (filter (λ p. share_of shared.shares p == k) (range_with_len 0 (length cells)))) (range_with_len 0 (length shared.shares)) ≡ flat_map (reads_at cells) shared.shares
shares_read most cells old new shared =
    made_same (λ k. map (λ p. Read (get_or cells p 0)) (filter (λ p. share_of shared.shares p == k) (range_with_len 0 (length cells)))) (reads_at cells) shared.shares 0
    (λ k d lt. ap (λ (n : ℕ). map (λ p. Read (get_or cells p 0)) (filter (λ p. share_of shared.shares p == n) (range_with_len 0 (length cells)))) (omega arith) ∙ ap (reads_at cells) (shares_picked most cells old new shared k d lt))
