-- The definitions one step on, in the form that a loop's step has.
use Rattle.std.proofs.Common.{◌≡◌, ℕ, zero, suc, ◌+◌, ◌-◌, ◌<◌, ◌≤◌, Bool, true, false, cond, if◌then◌else◌, List, [], ◌∷◌, ◌++◌, take, drop, get_or, length, append-nil, drop_of_length-le, Option, None, Some, option_map, option_and_then, unwrap_or, slice_get, Bor, refl, sym, ap, ap₂, ◌∙◌, arith, add-one}
use Rattle.std.proofs.Common.{nat_cmp, is_eq}
use Rattle.std.specs.FinMap as finite
use Rattle.std.specs.Slice.{IsItemAt}
use Rattle.std.specs.FinMap.{get-from_entries}
use Rattle.std.specs.Cmp.{nat_cmp_total}
use Rattle.std.specs.Map.{lookup}
use Rattle.std.specs.BTreeMap.{is_at}
use Rattle.ob_order.specs.Order.{count_below}
use Rattle.std.specs.Option.{option_or, option_copied}
use Rattle.std.specs.List.{find}
use Rattle.std.proofs.lemmas.Option.{slice_get_read, slice_get_past, slice_get_within, none-some}
use Rattle.std.proofs.lemmas.Bool.{false≢true}
use Rattle.ob_order.specs.Works.{Work, Version, is_going, at_ticket, waiting_at, edit, edit_index, version_in, newest, has_get, has_read, greatest, goes_on}

next_at : {A : Type 0} (xs : List A) (n : ℕ) → at_ticket xs (n + 1) ≡ slice_get xs n
next_at xs n = ap (at_ticket xs) (add-one n)

there : {A : Type 0} (xs : List A) (n : ℕ) (x : A) → n < length xs → x ≡ get_or xs n x → at_ticket xs (n + 1) ≡ Some x
there xs n x l e = next_at xs n ∙ slice_get_read xs (length xs) n x refl l e

-- the item of a ticket, at the place where code looks
pub at_before : {A : Type 0} (xs : List A) (t : ℕ) → 0 < t → at_ticket xs t ≡ slice_get xs (t - 1)
at_before xs zero l = absurd (omega arith)
at_before xs (suc n) l = ap (slice_get xs) (omega arith)

-- what a look at a place finds
pub looked_up : {A : Type 0} (xs : List A) (i : ℕ) (r : Option (Bor A)) → IsItemAt xs i r → option_copied r ≡ slice_get xs i
looked_up xs i None h = sym (slice_get_past xs i h.3)
looked_up xs i (Some x) h = sym (slice_get_read xs (length xs) i x.now refl h.3.0 h.1)

-- the same of one that was drawn
pub drawn_before : {A : Type 0} (xs : List A) (t : ℕ) (x : A) → 0 < t → t ≤ length xs → x ≡ get_or xs (t - 1) x → at_ticket xs t ≡ Some x
drawn_before xs t x l g e = at_before xs t l ∙ slice_get_read xs (length xs) (t - 1) x refl (omega (arith, l, g)) e

-- what one that was drawn waits for
pub waits_before : (ws : List Work) (t : ℕ) (w : Work) → 0 < t → t ≤ length ws → w ≡ get_or ws (t - 1) w → waiting_at ws t ≡ w.waiting
waits_before ws t w l g e = ap (option_and_then (λ x. x.waiting)) (drawn_before ws t w l g e)

-- none has a ticket past the last one
pub past_last : {A : Type 0} (xs : List A) (t : ℕ) → length xs < t → at_ticket xs t ≡ None
past_last xs t l = at_before xs t (omega (arith, l)) ∙ slice_get_past xs (t - 1) (omega (arith, l))

pub newest_more : (ws : List Work) (n k : ℕ) (w : Work) → n < length ws → w ≡ get_or ws n w → newest ws (n + 1) k ≡ option_or (option_map (λ v. let q : Version = record { source = n + 1; value = v } in q) (version_in w k)) (newest ws n k)
newest_more ws n k w l e =
    ap (λ t. newest ws t k) (add-one n)
    ∙ (ap (λ o. option_or (option_map (λ v. let q : Version = record { source = suc n; value = v } in q) (option_and_then (λ x. version_in x k) o)) (newest ws n k)) (slice_get_read ws (length ws) n w refl l e)
    ∙ ap (λ t. option_or (option_map (λ v. let q : Version = record { source = t; value = v } in q) (version_in w k)) (newest ws n k)) (sym (add-one n)))

pub greatest_more : (ws : List Work) (n k s : ℕ) (w : Work) → n < length ws → w ≡ get_or ws n w → greatest (has_read ws k s) (n + 1) ≡ (if has_get w.ops k s then n + 1 else greatest (has_read ws k s) n)
greatest_more ws n k s w l e =
    ap (greatest (has_read ws k s)) (add-one n)
    ∙ (ap (λ o. if unwrap_or (option_map (λ x. has_get x.ops k s) o) false then suc n else greatest (has_read ws k s) n) (slice_get_read ws (length ws) n w refl l e)
    ∙ ap (λ t. if has_get w.ops k s then t else greatest (has_read ws k s) n) (sym (add-one n)))

-- the item at a place, in the form that code reads it
pub item : {A : Type 0} (xs : List A) (n : ℕ) → n < length xs → (x : A) × (x ≡ get_or xs n x)
item [] n l = absurd (omega arith)
item (x ∷ xs) zero l = (x, refl)
item (x ∷ xs) (suc n) l = item xs n (omega arith)

pub count_more : (p : ℕ → Bool) (n : ℕ) → count_below p (n + 1) ≡ count_below p n + (if p n then 1 else 0)
count_more p n = ap (count_below p) (add-one n)

-- what a slice that was lent from a list leaves in it
pub written_back : {A : Type 0} (xs ys : List A) (n : ℕ) → length xs ≡ length ys → n ≡ length ys → take n (xs ++ drop (length xs) ys) ≡ xs
written_back xs ys n e f = ap₂ (λ (k : ℕ) (zs : List _). take k (xs ++ zs)) (f ∙ sym e) (drop_of_length-le ys (omega arith)) ∙ (ap (take (length xs)) (append-nil xs) ∙ take_whole xs)
  where
    take_whole : {B : Type 0} (zs : List B) → take (length zs) zs ≡ zs
    take_whole [] = refl
    take_whole (z ∷ zs) = ap (λ ws. z ∷ ws) (take_whole zs)

-- a look-up in a map of numbers is the finite map's
pub finds : {X : Type 0} (es : List (ℕ × X)) (q : ℕ) → finite.get (finite.from_entries {R = nat_cmp} es) q ≡ lookup (is_at (nat_cmp q)) es
finds es q = get-from_entries nat_cmp_total es q ∙ find_is es q
  where
    find_is : {Y : Type 0} (es : List (ℕ × Y)) (q : ℕ) → finite.find nat_cmp q es ≡ lookup (is_at (nat_cmp q)) es
    find_is [] q = refl
    find_is (e ∷ es) q = ap (cond (is_eq (nat_cmp q e.0)) (Some e.1)) (find_is es q)

-- who goes on was drawn
pub goes_on_range : (ws : List Work) (t : ℕ) → goes_on ws t ≡ true → (0 < t) × (t ≤ length ws)
goes_on_range ws zero e = absurd (false≢true e)
goes_on_range ws (suc n) e = (omega arith, step (slice_get ws n) refl e)
  where
    step : (o : Option Work) → slice_get ws n ≡ o → unwrap_or (option_map (λ w. is_going w.fate) o) false ≡ true → suc n ≤ length ws
    step None is e = absurd (false≢true e)
    step (Some w) is e = slice_get_within ws n w is

-- a search from the front
pub find_here : {A : Type 0} (p : A → Bool) (xs : List A) (i : ℕ) (d : A) → find p (take i xs) ≡ None → i < length xs → p (get_or xs i d) ≡ true → find p xs ≡ Some (get_or xs i d)
find_here p [] i d none l is = absurd (omega arith)
find_here p (x ∷ xs) zero d none l is = ap (λ b. cond b (Some x) (find p xs)) is
find_here p (x ∷ xs) (suc i) d none l is = step (p x) none (find_here p xs i d) (omega arith) is
  where
    step : (b : Bool) → cond b (Some x) (find p (take i xs)) ≡ None → (find p (take i xs) ≡ None → i < length xs → p (get_or xs i d) ≡ true → find p xs ≡ Some (get_or xs i d)) → i < length xs → p (get_or xs i d) ≡ true → cond b (Some x) (find p xs) ≡ Some (get_or xs i d)
    step true none h l is = absurd (none-some x (sym none))
    step false none h l is = h none l is

pub find_none_more : {A : Type 0} (p : A → Bool) (xs : List A) (i : ℕ) (d : A) → find p (take i xs) ≡ None → i < length xs → p (get_or xs i d) ≡ false → find p (take (i + 1) xs) ≡ None
find_none_more p xs i d none l is = ap (λ j. find p (take j xs)) (add-one i) ∙ next p xs i d none l is
  where
    next : {A : Type 0} (p : A → Bool) (xs : List A) (i : ℕ) (d : A) → find p (take i xs) ≡ None → i < length xs → p (get_or xs i d) ≡ false → find p (take (suc i) xs) ≡ None
    next p [] i d none l is = absurd (omega arith)
    next p (x ∷ xs) zero d none l is = ap (λ b. cond b (Some x) None) is
    next p (x ∷ xs) (suc i) d none l is = through (p x) x (find p (take i xs)) (find p (take (suc i) xs)) none (λ e. next p xs i d e (omega arith) is)
      where
        through : {B : Type 0} (b : Bool) (y : B) (o q : Option B) → cond b (Some y) o ≡ None → (o ≡ None → q ≡ None) → cond b (Some y) q ≡ None
        through true y o q none f = absurd (none-some y (sym none))
        through false y o q none f = f none

-- past its end nothing is edited
pub edit_outside : {A : Type 0} (f : A → A) (xs : List A) (t : ℕ) → length xs < t → edit f xs t ≡ xs
edit_outside f xs zero l = refl
edit_outside f xs (suc n) l = past xs n (omega arith)
  where
    past : (ys : List _) (n : ℕ) → length ys ≤ n → edit_index f ys n ≡ ys
    past [] n l = refl
    past (y ∷ ys) zero l = absurd (omega arith)
    past (y ∷ ys) (suc n) l = ap (λ zs. y ∷ zs) (past ys n (omega arith))

pub edit_zero : {A : Type 0} (f : A → A) (xs : List A) (t : ℕ) → t ≡ 0 → edit f xs t ≡ xs
edit_zero f xs t e = ap (edit f xs) e

pub live_above : (ws : List Work) (t : ℕ) → goes_on ws t ≡ true → 0 < t
live_above ws t e = (goes_on_range ws t e).0

pub live_within : (ws : List Work) (t : ℕ) → goes_on ws t ≡ true → t ≤ length ws
live_within ws t e = (goes_on_range ws t e).1
