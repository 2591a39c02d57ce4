-- Two lists, item by item.
use Rattle.std.proofs.Common.{◌≡◌, ◌∙◌, ℕ, ◌+◌, ◌<◌, ◌≤◌, zero, suc, Bool, true, false, ◌||◌, All, List, [], ◌∷◌, ◌++◌, length, length-append, take, drop, map, get_or, set, Option, None, Some, refl, sym, ap, subst, arith}
use Rattle.std.specs.Prelude.{MatchOption, IfNone}
use Rattle.std.specs.List.{list_any}
use Rattle.std.proofs.lemmas.List.{append-nil, drop_all, map-append, length-drop}
use Rattle.std.proofs.lemmas.List.Elements.{All-nil, All-cons, All-head, All-tail}
use Rattle.ob_threads.specs.Starts.{Each}

module _ {A B : Type 0} (r : A → B → Type 0) where
  pub each-length : (xs : List A) (ys : List B) → Each r xs ys → length ys ≡ length xs
  each-length [] [] e = refl
  each-length [] (y ∷ ys) e = absurd e
  each-length (x ∷ xs) [] e = absurd e
  each-length (x ∷ xs) (y ∷ ys) e = let same = each-length xs ys e.1 in omega (arith, same)

  pub each-snoc : (xs : List A) (ys : List B) (x : A) (y : B) → Each r xs ys → r x y → Each r (xs ++ x ∷ []) (ys ++ y ∷ [])
  each-snoc [] [] x y e one = (one, tt)
  each-snoc [] (z ∷ ys) x y e one = absurd e
  each-snoc (z ∷ xs) [] x y e one = absurd e
  each-snoc (z ∷ xs) (w ∷ ys) x y e one = (e.0, each-snoc xs ys x y e.1 one)

  -- what follows of each item of the second list from the first's
  pub each-all : (P : A → Type 0) (Q : B → Type 0) → ((x : A) (y : B) → P x → r x y → Q y) → (xs : List A) (ys : List B) → All P xs → Each r xs ys → All Q ys
  each-all P Q so [] [] all e = All-nil Q
  each-all P Q so [] (y ∷ ys) all e = absurd e
  each-all P Q so (x ∷ xs) [] all e = absurd e
  each-all P Q so (x ∷ xs) (y ∷ ys) all e = All-cons Q y ys (so x y (All-head P x xs all) e.0) (each-all P Q so xs ys (All-tail P x xs all) e.1)

pub each-through : {A B C : Type 0} (r : A → B → Type 0) (s : B → C → Type 0) (t : A → C → Type 0) → ((x : A) (y : B) (z : C) → r x y → s y z → t x z) → (xs : List A) (ys : List B) (zs : List C) → Each r xs ys → Each s ys zs → Each t xs zs
each-through r s t so [] [] [] e f = tt
each-through r s t so (x ∷ xs) (y ∷ ys) (z ∷ zs) e f = (so x y z e.0 f.0, each-through r s t so xs ys zs e.1 f.1)
each-through r s t so [] [] (z ∷ zs) e f = absurd f
each-through r s t so [] (y ∷ ys) zs e f = absurd e
each-through r s t so (x ∷ xs) [] zs e f = absurd e
each-through r s t so (x ∷ xs) (y ∷ ys) [] e f = absurd f

-- the item behind some others
pub all-at : {A : Type 0} (P : A → Type 0) (xs ys zs : List A) (x : A) → xs ++ x ∷ ys ≡ zs → All P zs → P x
all-at P [] ys zs x is all = All-head P x ys (subst (All P) (sym is) all)
all-at P (w ∷ xs) ys zs x is all = all-at P xs ys (xs ++ x ∷ ys) x refl (All-tail P w (xs ++ x ∷ ys) (subst (All P) (sym is) all))

pub nothing_left : {A : Type 0} (xs : List A) → length xs ≡ 0 → xs ≡ []
nothing_left [] none = refl
nothing_left (x ∷ xs) none = absurd (omega arith)

-- A loop over a vector's items has gone over all of them.
pub all_over : {A : Type 0} (xs rest all : List A) (len : ℕ) → xs ++ rest ≡ all → len ≡ length rest → len ≡ 0 → xs ≡ all
all_over xs rest all len is count none = sym (append-nil xs) ∙ (ap (λ l. xs ++ l) (sym (nothing_left rest (sym count ∙ none))) ∙ is)

-- ---- a loop that changes each item

-- the first n items were changed, and the others are still as they were
pub record AreFirst {A : Type 0} (r : A → A → Type 0) (n : ℕ) (old new : List A) : Type 0 where
  pub front : Each r (take n old) (take n new)
  pub others : drop n new ≡ drop n old

first_more : {A : Type 0} (r : A → A → Type 0) (i : ℕ) (old now : List A) (x y : A) → i < length now → length old ≡ length now → x ≡ get_or now i x → r x y → Each r (take i old) (take i now) → drop i now ≡ drop i old → AreFirst r (suc i) old (set now i y)
first_more r i old [] x y lt same is one front others = absurd (omega (arith, lt))
first_more r zero old (z ∷ zs) x y lt same is one front others = subst (λ o. AreFirst r 1 o (y ∷ zs)) others (record { front = (subst (λ w. r w y) is one, tt); others = refl })
first_more r (suc i) [] (z ∷ zs) x y lt same is one front others = absurd (omega (arith, same))
first_more r (suc i) (o ∷ os) (z ∷ zs) x y lt same is one front others =
    let more = first_more r i os zs x y (omega (arith, lt)) (omega (arith, same)) is one front.1 others in
    record { front = (front.0, more.front); others = more.others }

next_is : (i : ℕ) → suc i ≡ i + 1
next_is i = omega arith

pub one_more : {A : Type 0} (r : A → A → Type 0) (i : ℕ) (old now : List A) (x y : A) → i < length now → length old ≡ length now → x ≡ get_or now i x → r x y → Each r (take i old) (take i now) → drop i now ≡ drop i old → AreFirst r (i + 1) old (set now i y)
one_more r i old now x y lt same is one front others = subst (λ n. AreFirst r n old (set now i y)) (next_is i) (first_more r i old now x y lt same is one front others)

or-false : (b : Bool) → b ≡ (b || false)
or-false true = refl
or-false false = refl

or_assoc : (x y z : Bool) → (x || (y || z)) ≡ ((x || y) || z)
or_assoc true y z = refl
or_assoc false y z = refl

any_next : {A : Type 0} (test : A → Bool) (i : ℕ) (now : List A) (y : A) → i < length now → list_any test (take (suc i) (set now i y)) ≡ (list_any test (take i now) || test y)
any_next test i [] y lt = absurd (omega (arith, lt))
any_next test zero (z ∷ zs) y lt = sym (or-false (test y))
any_next test (suc i) (z ∷ zs) y lt = ap (λ b. test z || b) (any_next test i zs y (omega (arith, lt))) ∙ or_assoc (test z) (list_any test (take i zs)) (test y)

pub any_more : {A : Type 0} (test : A → Bool) (i : ℕ) (now : List A) (y : A) → i < length now → list_any test (take (i + 1) (set now i y)) ≡ (list_any test (take i now) || test y)
any_more test i now y lt = ap (λ n. list_any test (take n (set now i y))) (sym (next_is i)) ∙ any_next test i now y lt

-- ---- the items behind the first n, where one more comes

module _ {A B : Type 0} (f : A → B) where
  -- that is one of them,
  pub later_more : (n : ℕ) (xs : List A) (ys : List B) (x : A) (y : B) → length ys ≡ length xs → n ≤ length ys → y ≡ f x → drop n ys ≡ map f (drop n xs) → drop n (ys ++ y ∷ []) ≡ map f (drop n (xs ++ x ∷ []))
  later_more zero xs ys x y same le is later = ap (λ w. ys ++ w ∷ []) is ∙ ap (λ ws. ws ++ f x ∷ []) later ∙ sym (map-append f xs (x ∷ []))
  later_more (suc n) [] [] x y same le is later = absurd (omega (arith, le))
  later_more (suc n) (z ∷ xs) [] x y same le is later = absurd (omega (arith, same))
  later_more (suc n) [] (w ∷ ys) x y same le is later = absurd (omega (arith, same))
  later_more (suc n) (z ∷ xs) (w ∷ ys) x y same le is later = later_more n xs ys x y (omega (arith, same)) (omega (arith, le)) is later

  -- or not
  pub later_none : (n : ℕ) (xs : List A) (ys : List B) → length ys ≡ length xs → length ys ≤ n → drop n ys ≡ map f (drop n xs)
  later_none n xs ys same le = drop_all n ys le ∙ sym (ap (map f) (drop_all n xs (omega (arith, same, le))))

  -- where one has a flag, or is one of them
  pub later_next : {F : Type 0} (n i : ℕ) (xs : List A) (ys : List B) (x : A) (y : B) (flag : Option F) (Is : F → Type 0)
      → length ys ≡ length xs → i ≡ length ys → MatchOption flag (n ≤ i) (λ w. (i < n) × Is w) → IfNone flag (y ≡ f x) → drop n ys ≡ map f (drop n xs) → drop n (ys ++ y ∷ []) ≡ map f (drop n (xs ++ x ∷ []))
  later_next n i xs ys x y None Is same at none is later = later_more n xs ys x y same (omega (arith, at, none)) is later
  later_next n i xs ys x y (Some w) Is same at some is later =
      let front = length-append xs (x ∷ []) in
      let back = length-append ys (y ∷ []) in
      let lt = some.0 in
      later_none n (xs ++ x ∷ []) (ys ++ y ∷ []) (omega (arith, front, back, same)) (omega (arith, back, at, lt))

-- an item that wasn't changed yet
pub still_there : {A : Type 0} (P : A → Type 0) (i : ℕ) (old now : List A) (d : A) → i < length now → drop i now ≡ drop i old → All P old → P (get_or now i d)
still_there P i old [] d lt same all = absurd (omega (arith, lt))
still_there P zero old (z ∷ zs) d lt same all = All-head P z zs (subst (All P) (sym same) all)
still_there P (suc i) [] (z ∷ zs) d lt same all =
    let none = ap length same in
    let left = length-drop i zs in
    absurd (omega (arith, lt, none, left))
still_there P (suc i) (o ∷ os) (z ∷ zs) d lt same all = still_there P i os zs d (omega (arith, lt)) same (All-tail P o os all)
