-- How many keys clients that keep to a share name together.
use Rattle.std.proofs.Common.{◌≡◌, ℕ, ◌+◌, ◌*◌, ◌<◌, ◌≤◌, Bool, true, false, cond, not, ◌&&◌, ◌||◌, ◌==◌, if◌then◌else◌, List, [], ◌∷◌, ◌++◌, map, length, filter, None, Some, refl, sym, ap, ◌∙◌, subst, ⊎_elim, arith, eqb-true, eq-eqb, suc-mul, length-append}
use Rattle.std.specs.List.{list_any}
use Rattle.std.proofs.lemmas.Bool.{false≢true, cases_eq}
use Rattle.std.proofs.lemmas.Option.{none-some}
use Rattle.std.proofs.lemmas.List.Elements.{filter-append}
use Rattle.std.proofs.lemmas.List.Filters.{length-filter_both}
use Rattle.std.proofs.lemmas.List.Sums.{length-filter}
use Rattle.ob_shares.specs.declared.named.Named.{Named}
use Rattle.ob_shares.specs.Shares.{is_name, has_named, count_named, past, with_name}
use Rattle.ob_fair.proofs.Lists.{Each, each_push, or_right}

-- whether a name is this client's, and whether a key was named by anyone
abbrev pub is_of : ℕ → Named → Bool
is_of client named = named.client == client

abbrev pub has_key : List Named → ℕ → Bool
has_key names key = list_any (λ named. named.key == key) names

-- one of these clients'
abbrev pub IsKnown : List ℕ → Named → Type 0
IsKnown clients named = list_any (λ c. named.client == c) clients ≡ true

-- the names of a client
abbrev pub names_of : ℕ → List Named → List Named
names_of client names = filter (is_of client) names

pub count_is : (names : List Named) (client : ℕ) → count_named names client ≡ length (names_of client names)
count_is names client = sym (length-filter (is_of client) names)

-- ---- filters

filter_fewer : {A : Type 0} (p r : A → Bool) (xs : List A) → length (filter p (filter r xs)) ≤ length (filter p xs)
filter_fewer p r [] = omega arith
filter_fewer p r (x ∷ xs) = step (r x) (p x) refl (filter_fewer p r xs)
  where
    step : (a b : Bool) → p x ≡ b → length (filter p (filter r xs)) ≤ length (filter p xs) → length (filter p (cond a (x ∷ filter r xs) (filter r xs))) ≤ length (cond b (x ∷ filter p xs) (filter p xs))
    step true true is rest = let here = ap (λ c. length (cond c (x ∷ filter p (filter r xs)) (filter p (filter r xs)))) is in omega (arith, here, rest)
    step true false is rest = let here = ap (λ c. length (cond c (x ∷ filter p (filter r xs)) (filter p (filter r xs)))) is in omega (arith, here, rest)
    step false true is rest = omega (arith, rest)
    step false false is rest = rest

each_filter : {A : Type 0} (P Q : A → Type 0) (r : A → Bool) → ((x : A) → r x ≡ true → P x → Q x) → (xs : List A) → Each P xs → Each Q (filter r xs)
each_filter P Q r h [] all = all
each_filter P Q r h (x ∷ xs) all = step (r x) refl (each_filter P Q r h xs all.1)
  where
    step : (b : Bool) → r x ≡ b → Each Q (filter r xs) → Each Q (cond b (x ∷ filter r xs) (filter r xs))
    step true is rest = (h x is all.0, rest)
    step false is rest = rest

or_other : (a b : Bool) → not a ≡ true → (a || b) ≡ true → b ≡ true
or_other true b e f = absurd (false≢true e)
or_other false b e f = f

-- ---- the bound

pub names_bound : (most : ℕ) (clients : List ℕ) (names : List Named) → Each (IsKnown clients) names → ((c : ℕ) → length (names_of c names) ≤ most) → length names ≤ length clients * most
names_bound most [] [] all few = omega arith
names_bound most [] (n ∷ ns) all few = absurd (false≢true all.0)
names_bound most (c ∷ cs) names all few =
    let both = length-filter_both (is_of c) (λ n. not (is_of c n)) (λ n. refl) names in
    let own = few c in
    let others : length (filter (λ n. not (is_of c n)) names) ≤ length cs * most = names_bound most cs (filter (λ n. not (is_of c n)) names)
    (each_filter (IsKnown (c ∷ cs)) (IsKnown cs) (λ n. not (is_of c n)) (λ n other known. or_other (n.client == c) (list_any (λ j. n.client == j) cs) other known) names all)
    (λ d. let fewer = filter_fewer (is_of d) (λ n. not (is_of c n)) names in let at = few d in omega (arith, fewer, at)) in
    let more = suc-mul (length cs) most in
    omega (arith, both, own, others, more)

-- ---- one name more

pub known_more : (clients : List ℕ) (most c k : ℕ) (names : List Named) → list_any (λ j. c == j) clients ≡ true → Each (IsKnown clients) names → Each (IsKnown clients) (with_name (Some most) names c k)
known_more clients most c k names here all = step (has_named names c k)
  where
    step : (b : Bool) → Each (IsKnown clients) (if b then names else names ++ record { client = c; key = k } ∷ [])
    step true = all
    step false = each_push (IsKnown clients) names (record { client = c; key = k }) all here

-- it passes where it named so many, and not this one
pub past_cases : (most c k : ℕ) (names : List Named) → past (Some most) names c k ≡ None → has_named names c k ≡ false → count_named names c ≡ most → ⊥
past_cases most c k names within none full = step (has_named names c k) (count_named names c == most) none (eq-eqb _ most full) within
  where
    step : (a b : Bool) → a ≡ false → b ≡ true → (if not a && b then Some most else None) ≡ None → ⊥
    step true b e f q = false≢true (sym e)
    step false true e f q = none-some most (sym q)
    step false false e f q = false≢true f

pub few_more : (most c k : ℕ) (names : List Named) → past (Some most) names c k ≡ None → ((d : ℕ) → length (names_of d names) ≤ most) → (d : ℕ) → length (names_of d (with_name (Some most) names c k)) ≤ most
few_more most c k names within few d = step (has_named names c k) refl
  where
    own : has_named names c k ≡ false → length (names_of c names) < most
    own none = let at = few c in let other = past_cases most c k names within none in let is = count_is names c in ⊎_elim
        (λ full. absurd (other (is ∙ full)))
        (λ less. let l : length (names_of c names) < most = less_of (length (names_of c names)) most at less in l)
        (cases_eq (length (names_of c names)) most)
      where
        less_of : (a b : ℕ) → a ≤ b → (a ≡ b → ⊥) → a < b
        less_of a b l other = omega (arith, l, other)

    here : has_named names c k ≡ false → (b : Bool) → (c == d) ≡ b → length (names_of d names ++ cond b (record { client = c; key = k } ∷ []) []) ≤ most
    here none true same = let l = subst (λ q. length (names_of q names) < most) (eqb-true c d same) (own none) in let long = length-append (names_of d names) (record { client = c; key = k } ∷ []) in omega (arith, l, long)
    here none false other = let long : length (names_of d names ++ []) ≡ length (names_of d names) + 0 = length-append (names_of d names) [] in let at = few d in omega (arith, at, long)

    step : (b : Bool) → has_named names c k ≡ b → length (names_of d (if b then names else names ++ record { client = c; key = k } ∷ [])) ≤ most
    step true is = few d
    step false none = subst (λ (ns : List Named). length ns ≤ most) (sym (filter-append (is_of d) names (record { client = c; key = k } ∷ []))) (here none (c == d) refl)

-- ---- keys

pub key_push : (names : List Named) (c k j : ℕ) → has_key (names ++ record { client = c; key = k } ∷ []) j ≡ (has_key names j || (k == j))
key_push [] c k j = either (k == j)
  where
    either : (b : Bool) → (b || false) ≡ b
    either true = refl
    either false = refl
key_push (n ∷ ns) c k j = ap (λ b. (n.key == j) || b) (key_push ns c k j) ∙ sym (apart (n.key == j) (has_key ns j) (k == j))
  where
    apart : (a b c : Bool) → ((a || b) || c) ≡ (a || (b || c))
    apart true b c = refl
    apart false b c = refl

pub or_left : (a b : Bool) → a ≡ true → (a || b) ≡ true
or_left true b e = refl
or_left false b e = absurd (false≢true e)

and_right : (a b : Bool) → (a && b) ≡ true → b ≡ true
and_right true b e = e
and_right false b e = absurd (false≢true e)

named_key : (names : List Named) (c k : ℕ) → has_named names c k ≡ true → has_key names k ≡ true
named_key [] c k e = absurd (false≢true e)
named_key (n ∷ ns) c k e = step (is_name c k n) refl (named_key ns c k) e
  where
    step : (b : Bool) → is_name c k n ≡ b → (has_named ns c k ≡ true → has_key ns k ≡ true) → (b || has_named ns c k) ≡ true → ((n.key == k) || has_key ns k) ≡ true
    step true is rest q = or_left (n.key == k) (has_key ns k) (and_right (n.client == c) (n.key == k) is)
    step false is rest q = or_right (n.key == k) (has_key ns k) (rest q)

pub key_kept : (most c k j : ℕ) (names : List Named) → has_key names j ≡ true → has_key (with_name (Some most) names c k) j ≡ true
key_kept most c k j names e = step (has_named names c k)
  where
    step : (b : Bool) → has_key (if b then names else names ++ record { client = c; key = k } ∷ []) j ≡ true
    step true = e
    step false = key_push names c k j ∙ or_left (has_key names j) (k == j) e

pub key_here : (most c k : ℕ) (names : List Named) → has_key (with_name (Some most) names c k) k ≡ true
key_here most c k names = step (has_named names c k) refl
  where
    step : (b : Bool) → has_named names c k ≡ b → has_key (if b then names else names ++ record { client = c; key = k } ∷ []) k ≡ true
    step true is = named_key names c k is
    step false is = key_push names c k k ∙ or_right (has_key names k) (k == k) (eq-eqb k k refl)

-- the keys of the names
pub has_keys : (names : List Named) (k : ℕ) → list_any (λ j. j == k) (map (λ (n : Named). n.key) names) ≡ has_key names k
has_keys [] k = refl
has_keys (n ∷ ns) k = ap (λ b. (n.key == k) || b) (has_keys ns k)
