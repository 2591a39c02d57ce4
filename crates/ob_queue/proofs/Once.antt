-- Keys in order, each once, and the same keys beside them in any order.
use Rattle.std.proofs.Common.{◌≡◌, ℕ, ◌+◌, ◌==◌, ◌<◌, Bool, true, false, cond, not, ◌||◌, ◌&&◌, List, [], ◌∷◌, ◌++◌, take, drop, count_by, nat_eq, refl, sym, ap, ◌∙◌, subst, arith}
use Rattle.std.specs.List.{list_any}
use Rattle.std.proofs.lemmas.Bool.{false≢true}
use Rattle.std.proofs.lemmas.List.Sums.{sum_by-cons, sum_by_push, sum_by-take-drop}
use Rattle.std.proofs.lemmas.Map.Views.{exact_unsigned_eq}
use Rattle.ob_queue.specs.Queues.{AreOnce}

abbrev has : ℕ → List ℕ → Bool
has k ks = list_any (λ j. j == k) ks

abbrev count : ℕ → List ℕ → ℕ
count k ks = count_by (λ j. j == k) ks

count_more : (k x : ℕ) (xs : List ℕ) → count k (x ∷ xs) ≡ cond (x == k) 1 0 + count k xs
count_more k x xs = sum_by-cons (λ j. cond (j == k) 1 0) x xs

-- a key that isn't there isn't counted, and one that is there is
counted : (k : ℕ) (ks : List ℕ) → (has k ks ≡ false → count k ks ≡ 0) × (has k ks ≡ true → 0 < count k ks)
counted k [] = (λ _. refl, λ is. absurd (false≢true is))
counted k (x ∷ xs) = by (x == k) (count k (x ∷ xs)) (count_more k x xs) (counted k xs)
  where
    by : (b : Bool) (n : ℕ) → n ≡ cond b 1 0 + count k xs → (has k xs ≡ false → count k xs ≡ 0) × (has k xs ≡ true → 0 < count k xs) → ((b || has k xs) ≡ false → n ≡ 0) × ((b || has k xs) ≡ true → 0 < n)
    by true n e h = (λ is. absurd (false≢true (sym is)), λ _. omega (arith, e))
    by false n e h = (λ is. let none = h.0 is in omega (arith, e, none), λ is. let some = h.1 is in omega (arith, e, some))

pub once_empty : (known keys : List ℕ) → known ≡ [] → keys ≡ [] → AreOnce known keys
once_empty known keys a b = subst (λ (us : List ℕ). AreOnce us keys) (sym a) (subst (λ (ks : List ℕ). AreOnce [] ks) (sym b) (λ k. refl))

-- what is known is among the keys
pub once_has : (known keys : List ℕ) (k : ℕ) → AreOnce known keys → list_any (nat_eq k) known ≡ has k keys
once_has known keys k once = by (list_any (nat_eq k) known) (has k keys) (counted k keys) (once k)
  where
    by : (b c : Bool) → (c ≡ false → count k keys ≡ 0) × (c ≡ true → 0 < count k keys) → count k keys ≡ cond b 1 0 → b ≡ c
    by true true h e = refl
    by false false h e = refl
    by true false h e = let none = h.0 refl in absurd (omega (arith, none, e))
    by false true h e = let some = h.1 refl in absurd (omega (arith, some, e))

-- one more key, which wasn't there
pub once_pushed : (known next keys : List ℕ) (x : ℕ) → AreOnce known keys → has x keys ≡ false
    → ((k : ℕ) → list_any (nat_eq k) next ≡ cond (nat_eq x k) true (list_any (nat_eq k) known)) → AreOnce next (keys ++ x ∷ [])
once_pushed known next keys x once new is k = sum_by_push (λ j. cond (j == k) 1 0) keys x ∙ by (x == k) (exact_unsigned_eq x k) (is k)
  where
    by : (b : Bool) → (b ≡ true → x ≡ k) → list_any (nat_eq k) next ≡ cond b true (list_any (nat_eq k) known) → count k keys + cond b 1 0 ≡ cond (list_any (nat_eq k) next) 1 0
    by true same e =
        let none : count k keys ≡ 0 = subst (λ j. count j keys ≡ 0) (same refl) ((counted x keys).0 new) in
        let one : count k keys + 1 ≡ 1 = omega (arith, none) in
        one ∙ ap (λ c. cond c 1 0) (sym e)
    by false same e =
        let all : count k keys + 0 ≡ count k keys = omega arith in
        all ∙ (once k ∙ ap (λ c. cond c 1 0) (sym e))

-- some keys go
once_left : (known next keys gone rest : List ℕ) → AreOnce known keys → ((k : ℕ) → count k gone + count k rest ≡ count k keys)
    → ((k : ℕ) → list_any (nat_eq k) next ≡ (not (has k gone) && list_any (nat_eq k) known)) → AreOnce next rest
once_left known next keys gone rest once parts is k = by (has k gone) (list_any (nat_eq k) known) (counted k gone) (once k) ∙ ap (λ b. cond b 1 0) (sym (is k))
  where
    by : (g b : Bool) → (g ≡ false → count k gone ≡ 0) × (g ≡ true → 0 < count k gone) → count k keys ≡ cond b 1 0 → count k rest ≡ cond (not g && b) 1 0
    by true true h e = let some = h.1 refl in let all = parts k in omega (arith, some, all, e)
    by true false h e = let some = h.1 refl in let all = parts k in omega (arith, some, all, e)
    by false b h e =
        let none = h.0 refl in
        let all = parts k in
        let same : count k rest ≡ count k keys = omega (arith, none, all) in
        same ∙ e

pub once_front : (known next keys : List ℕ) (n : ℕ) → AreOnce known keys
    → ((k : ℕ) → list_any (nat_eq k) next ≡ (not (has k (take n keys)) && list_any (nat_eq k) known)) → AreOnce next (drop n keys)
once_front known next keys n once = once_left known next keys (take n keys) (drop n keys) once (λ k. sum_by-take-drop (λ j. cond (j == k) 1 0) keys n)

pub once_back : (known next keys : List ℕ) (n : ℕ) → AreOnce known keys
    → ((k : ℕ) → list_any (nat_eq k) next ≡ (not (has k (drop n keys)) && list_any (nat_eq k) known)) → AreOnce next (take n keys)
once_back known next keys n once = once_left known next keys (drop n keys) (take n keys) once (λ k. let all = sum_by-take-drop (λ j. cond (j == k) 1 0) keys n in omega (arith, all))

-- one more key that is forgotten
pub forgets : (a b c : Bool) → cond c false (not a && b) ≡ (not (a || c) && b)
forgets true b true = refl
forgets true b false = refl
forgets false b true = refl
forgets false b false = refl
