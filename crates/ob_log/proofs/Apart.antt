-- Places that ask for different keys: below so many keys no more places can ask.
use Rattle.std.proofs.Common.{◌≡◌, ◌≢◌, ℕ, zero, suc, ◌+◌, ◌<◌, ◌≤◌, ◌==◌, Bool, true, false, if◌then◌else◌, ◌||◌, List, [], ◌∷◌, Option, Some, None, map, take, length, get_or, refl, sym, ap, ◌∙◌, inl, inr, arith}
use Rattle.std.specs.Prelude.{cond, nat_lt}
use Rattle.std.specs.List.{count_by}
use Rattle.std.proofs.lemmas.Bool.{cases_lt}
use Rattle.std.proofs.lemmas.Bool.Decides.{nat_tests}
use Rattle.std.proofs.lemmas.List.{get_or-take, get_or_past, length-take-le}
use Rattle.std.proofs.lemmas.List.Sums.{sum_by-cons, count_by_more_yes}
use Rattle.std.proofs.Math.ListN.{get_or-map}
use Rattle.ob_log.specs.Places.{is_for, is_ask, is_asked}

-- each key is below this many
abbrev pub AreBelow : ℕ → List (Option ℕ) → Type 0
AreBelow n asks = (i k : ℕ) → get_or asks i None ≡ Some k → k < n

-- each key stands at one place
abbrev pub AreApart : List (Option ℕ) → Type 0
AreApart asks = (i j k : ℕ) → get_or asks i None ≡ Some k → get_or asks j None ≡ Some k → i ≡ j

some_same : (x y : ℕ) → Some x ≡ Some y → x ≡ y
some_same x y e = cc

none≢some : (x : ℕ) → ◌≡◌ {A = Option ℕ} None (Some x) → ⊥
none≢some x e = cc

eq_of : (a b : ℕ) → (a == b) ≡ true → a ≡ b
eq_of a b e = grind (arith, nat_tests)

eq_so : (a b : ℕ) → a ≡ b → (a == b) ≡ true
eq_so a b e = grind (arith, nat_tests)

eq_not : (a b : ℕ) → a ≢ b → (a == b) ≡ false
eq_not a b ne = grind (arith, nat_tests)

pub lt_so : (a b : ℕ) → a < b → nat_lt a b ≡ true
lt_so a b lt = grind (arith, nat_tests)

-- ---- a key that is asked for nowhere

pub for_none : (k : ℕ) (a : Option ℕ) → (a ≡ Some k → ⊥) → is_for k a ≡ false
for_none k None not = refl
for_none k (Some x) not = eq_not x k (λ e. not (ap Some e))

pub asked_none : (k : ℕ) (asks : List (Option ℕ)) → ((i : ℕ) → get_or asks i None ≡ Some k → ⊥) → is_asked asks k ≡ false
asked_none k [] not = refl
asked_none k (a ∷ asks) not = ap (λ b. b || is_asked asks k) (for_none k a (not 0)) ∙ asked_none k asks (λ i. not (suc i))

-- ---- how many ask

count_first : {X : Type 0} (p : X → Bool) (x : X) (xs : List X) → count_by p (x ∷ xs) ≡ cond (p x) 1 0 + count_by p xs
count_first p x xs = sum_by-cons (λ y. cond (p y) 1 0) x xs

pub count_none : (p : Option ℕ → Bool) (asks : List (Option ℕ)) → ((i : ℕ) → i < length asks → p (get_or asks i None) ≡ false) → count_by p asks ≡ 0
count_none p [] not = refl
count_none p (a ∷ asks) not = count_first p a asks ∙ ap (λ b. cond b 1 0 + count_by p asks) (not 0 (omega arith)) ∙ (let rest : count_by p asks ≡ 0 = count_none p asks (λ i lt. not (suc i) (omega arith)) in omega arith)

-- a key that stands at one place is counted once
for_this : (k : ℕ) (a : Option ℕ) → is_for k a ≡ true → a ≡ Some k
for_this k None e = absurd (false≢true e)
  where
    false≢true : ◌≡◌ {A = Bool} false true → ⊥
    false≢true h = cc
for_this k (Some x) e = ap Some (eq_of x k e)

apart_rest : (a : Option ℕ) (asks : List (Option ℕ)) → AreApart (a ∷ asks) → AreApart asks
apart_rest a asks apart i j k one two = let e : suc i ≡ suc j = apart (suc i) (suc j) k one two in omega arith

pub counted_once : (k : ℕ) (asks : List (Option ℕ)) → AreApart asks → count_by (is_for k) asks ≤ 1
counted_once k [] apart = omega arith
counted_once k (a ∷ asks) apart = by_test (is_for k a) refl (counted_once k asks (apart_rest a asks apart))
  where
    by_test : (b : Bool) → is_for k a ≡ b → count_by (is_for k) asks ≤ 1 → count_by (is_for k) (a ∷ asks) ≤ 1
    by_test false is rest = let e : count_by (is_for k) (a ∷ asks) ≡ 0 + count_by (is_for k) asks = count_first (is_for k) a asks ∙ ap (λ b. cond b 1 0 + count_by (is_for k) asks) is in omega arith
    by_test true is rest =
        let e : count_by (is_for k) (a ∷ asks) ≡ 1 + count_by (is_for k) asks = count_first (is_for k) a asks ∙ ap (λ b. cond b 1 0 + count_by (is_for k) asks) is in
        let none : count_by (is_for k) asks ≡ 0 = count_none (is_for k) asks (λ i lt. for_none k (get_or asks i None) (λ other. absurd (let wrong : 0 ≡ suc i = apart 0 (suc i) k (for_this k a is) other in omega arith))) in
        omega arith

-- the places without a key
abbrev drop_key : ℕ → Option ℕ → Option ℕ
drop_key n None = None
drop_key n (Some k) = if k == n then None else Some k

abbrev without : ℕ → List (Option ℕ) → List (Option ℕ)
without n asks = map (drop_key n) asks

one_split : (n : ℕ) (a : Option ℕ) → cond (is_ask a) 1 0 ≡ cond (is_ask (drop_key n a)) 1 0 + cond (is_for n a) 1 0
one_split n None = refl
one_split n (Some k) = by_test (k == n)
  where
    by_test : (b : Bool) → 1 ≡ cond (is_ask (if b then None else Some k)) 1 0 + cond b 1 0
    by_test true = refl
    by_test false = refl

count_split : (n : ℕ) (asks : List (Option ℕ)) → count_by is_ask asks ≡ count_by is_ask (without n asks) + count_by (is_for n) asks
count_split n [] = refl
count_split n (a ∷ asks) =
    let here = one_split n a in
    let rest = count_split n asks in
    omega (arith, count_first is_ask a asks, count_first is_ask (drop_key n a) (without n asks), count_first (is_for n) a asks)

kept_key : (n k : ℕ) (a : Option ℕ) → drop_key n a ≡ Some k → (a ≡ Some k) × (k ≢ n)
kept_key n k None e = absurd (none≢some k e)
kept_key n k (Some x) e = by_test (x == n) refl
  where
    by_test : (b : Bool) → (x == n) ≡ b → (Some x ≡ Some k) × (k ≢ n)
    by_test true is = absurd (none≢some k (sym (ap (λ b. if b then None else Some x) is) ∙ e))
    by_test false is =
        let same : Some x ≡ Some k = sym (ap (λ b. if b then None else Some x) is) ∙ e in
        (same, λ at. absurd (true≢false (sym (eq_so x n (some_same x k same ∙ at)) ∙ is)))
      where
        true≢false : ◌≡◌ {A = Bool} true false → ⊥
        true≢false h = cc

kept_at : (n i k : ℕ) (asks : List (Option ℕ)) → get_or (without n asks) i None ≡ Some k → (get_or asks i None ≡ Some k) × (k ≢ n)
kept_at n i k asks e = kept_key n k (get_or asks i None) (sym (get_or-map (drop_key n) asks i None) ∙ e)

-- places that ask for different keys below n are at most n
pub few_ask : (n : ℕ) (asks : List (Option ℕ)) → AreBelow n asks → AreApart asks → count_by is_ask asks ≤ n
few_ask zero asks low apart = let none : count_by is_ask asks ≡ 0 = count_none is_ask asks (λ i lt. no_ask (get_or asks i None) (low i)) in omega arith
  where
    no_ask : (a : Option ℕ) → ((k : ℕ) → a ≡ Some k → k < 0) → is_ask a ≡ false
    no_ask None not = refl
    no_ask (Some k) not = absurd (let h : k < 0 = not k refl in omega arith)
few_ask (suc n) asks low apart =
    let fewer : count_by is_ask (without n asks) ≤ n = few_ask n (without n asks)
    (λ i k e. (let at = kept_at n i k asks e in let ne : k ≢ n = at.1 in let lt : k < suc n = low i k at.0 in omega arith))
    (λ i j k one two. apart i j k (kept_at n i k asks one).0 (kept_at n j k asks two).0) in
    omega (arith, count_split n asks, counted_once n asks apart)

-- ---- the places before one

module _ (asks : List (Option ℕ)) where
  pub before : (i j k : ℕ) → i ≤ length asks → get_or (take i asks) j None ≡ Some k → (j < i) × (get_or asks j None ≡ Some k)
  before i j k le e = elim (cases_lt j i) [
    | inl lt ↦ (lt, sym (get_or-take i asks j None lt) ∙ e)
    | inr ge ↦ absurd (none≢some k (sym (get_or_past (take i asks) j None (omega (arith, length-take-le i asks le, ge))) ∙ e))
  ]

  -- a place's key is asked for by no earlier one,
  pub not_before : (i k : ℕ) → i < length asks → AreApart asks → get_or asks i None ≡ Some k → is_asked (take i asks) k ≡ false
  not_before i k lt apart here = asked_none k (take i asks)
      (λ j e. (let at = before i j k (omega arith) e in let same : j ≡ i = apart j i k at.1 here in let less : j < i = at.0 in omega arith))

  -- and fewer ask before it than there are keys
  pub few_before : (n i k : ℕ) → i < length asks → AreBelow n asks → AreApart asks → get_or asks i None ≡ Some k → count_by is_ask (take i asks) < n
  few_before n i k lt low apart here =
      let more : count_by is_ask (take (i + 1) asks) ≡ count_by is_ask (take i asks) + 1 = count_by_more_yes is_ask asks i None lt (ap is_ask here) in
      let few : count_by is_ask (take (i + 1) asks) ≤ n = few_ask n (take (i + 1) asks)
      (λ j x e. low j x (before (i + 1) j x (omega arith) e).1)
      (λ j m x one two. apart j m x (before (i + 1) j x (omega arith) one).1 (before (i + 1) m x (omega arith) two).1) in
      omega arith
