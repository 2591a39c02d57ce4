-- Entries that stand in a history in order, and those that are left out between them.
use Rattle.std.proofs.Common.{◌≡◌, ◌∙◌, ◌≤◌, ◌+◌, ◌-◌, ◌==◌, ◌⊎◌, ℕ, zero, suc, Bool, true, false, if◌then◌else◌, All, List, [], ◌∷◌, length, drop, slice_get, Option, Some, None, refl, sym, ap, subst, inl, inr, eq-eqb, eqb-true, arith}
use Rattle.std.proofs.lemmas.Option.{none-some, same_Some}
use Rattle.std.proofs.lemmas.List.Elements.{All-head, All-tail}
use Rattle.ob_turn.specs.declared.turn.Entry.{Entry}
use Rattle.ob_turn.specs.History.{entries_of}
use Rattle.ob_hall.specs.Passes.{Steps}
use Rattle.ob_driver.specs.Places.{StandIn}
use Rattle.ob_run.specs.Threaded.{is_by_hand}

-- ---- lists

-- the first list is the second one without some of its items
abbrev pub IsWithin : List (Entry Steps) → List (Entry Steps) → Type 0
IsWithin es [] = es ≡ []
IsWithin es (e ∷ log) = IsWithin es log ⊎ ((rest : List (Entry Steps)) × (es ≡ e ∷ rest) × IsWithin rest log)

within_none : (log : List (Entry Steps)) → IsWithin [] log
within_none [] = refl
within_none (e ∷ log) = inl (within_none log)

drop_here : (log : List (Entry Steps)) (at : ℕ) (e : Entry Steps) → slice_get log at ≡ Some e → drop at log ≡ e ∷ drop (suc at) log
drop_here [] at e is = absurd (none-some e is)
drop_here (x ∷ log) zero e is = ap (λ (y : Entry Steps). y ∷ log) (same_Some x e is)
drop_here (x ∷ log) (suc at) e is = drop_here log at e is

within_more : (es log : List (Entry Steps)) (n : ℕ) → IsWithin es (drop (suc n) log) → IsWithin es (drop n log)
within_more es [] zero is = is
within_more es [] (suc n) is = is
within_more es (x ∷ log) zero is = inl is
within_more es (x ∷ log) (suc n) is = within_more es log n is

within_behind : (es log : List (Entry Steps)) (k n : ℕ) → IsWithin es (drop (k + n) log) → IsWithin es (drop n log)
within_behind es log zero n is = let none : 0 + n ≡ n = omega arith in subst (λ i. IsWithin es (drop i log)) none is
within_behind es log (suc k) n is = let more : suc k + n ≡ suc (k + n) = omega arith in within_behind es log k n (within_more es log (k + n) (subst (λ i. IsWithin es (drop i log)) more is))

pub stand_within : (log es : List (Entry Steps)) (n m : ℕ) → StandIn log n es m → IsWithin es (drop n log)
stand_within log [] n m stand = within_none (drop n log)
stand_within log (e ∷ es) n m (at, low, is, rest) =
    let same : at ≡ (at - n) + n = omega (arith, low) in
    within_behind (e ∷ es) log (at - n) n (subst (λ k. IsWithin (e ∷ es) (drop k log)) same
    (subst (IsWithin (e ∷ es)) (sym (drop_here log at e is)) (inr (es, refl, stand_within log es (suc at) m rest))))

-- ---- counts

-- how many entries the caller has in a list
abbrev pub count : ℕ → List (Entry Steps) → ℕ
count by es = length (entries_of by es)

-- one entry more
counted : (by : ℕ) (e : Entry Steps) (es : List (Entry Steps)) → ((by ≡ e.by) × (count by (e ∷ es) ≡ suc (count by es))) ⊎ (((by ≡ e.by) → ⊥) × (count by (e ∷ es) ≡ count by es))
counted by e es = one (by == e.by) refl
  where
    one : (b : Bool) → (by == e.by) ≡ b → ((by ≡ e.by) × (count by (e ∷ es) ≡ suc (count by es))) ⊎ (((by ≡ e.by) → ⊥) × (count by (e ∷ es) ≡ count by es))
    one true is = inl (eqb-true by e.by is, ap (λ (b : Bool). length (if b then e ∷ entries_of by es else entries_of by es)) is)
    one false is = inr (λ same. let no : true ≡ false = sym (eq-eqb by e.by same) ∙ is in cc no, ap (λ (b : Bool). length (if b then e ∷ entries_of by es else entries_of by es)) is)

pub count_more : (by : ℕ) (e : Entry Steps) (es : List (Entry Steps)) → count by es ≤ count by (e ∷ es)
count_more by e es = which (counted by e es)
  where
    which : ((by ≡ e.by) × (count by (e ∷ es) ≡ suc (count by es))) ⊎ (((by ≡ e.by) → ⊥) × (count by (e ∷ es) ≡ count by es)) → count by es ≤ count by (e ∷ es)
    which (inl more) = let is = more.1 in omega (arith, is)
    which (inr same) = let is = same.1 in omega (arith, is)

pub count_own : (e : Entry Steps) (es : List (Entry Steps)) → count e.by (e ∷ es) ≡ suc (count e.by es)
count_own e es = which (counted e.by e es)
  where
    which : ((e.by ≡ e.by) × (count e.by (e ∷ es) ≡ suc (count e.by es))) ⊎ (((e.by ≡ e.by) → ⊥) × (count e.by (e ∷ es) ≡ count e.by es)) → count e.by (e ∷ es) ≡ suc (count e.by es)
    which (inl more) = more.1
    which (inr same) = absurd (same.0 refl)

count_cons : (by : ℕ) (e : Entry Steps) (xs ys : List (Entry Steps)) → count by xs ≤ count by ys → count by (e ∷ xs) ≤ count by (e ∷ ys)
count_cons by e xs ys less = which (counted by e xs) (counted by e ys)
  where
    which : ((by ≡ e.by) × (count by (e ∷ xs) ≡ suc (count by xs))) ⊎ (((by ≡ e.by) → ⊥) × (count by (e ∷ xs) ≡ count by xs)) → ((by ≡ e.by) × (count by (e ∷ ys) ≡ suc (count by ys))) ⊎ (((by ≡ e.by) → ⊥) × (count by (e ∷ ys) ≡ count by ys))
        → count by (e ∷ xs) ≤ count by (e ∷ ys)
    which (inl one) (inl other) = let x = one.1 in let y = other.1 in omega (arith, less, x, y)
    which (inr one) (inr other) = let x = one.1 in let y = other.1 in omega (arith, less, x, y)
    which (inl one) (inr other) = absurd (other.0 one.0)
    which (inr one) (inl other) = absurd (one.0 other.0)

uncount_cons : (by : ℕ) (e : Entry Steps) (xs ys : List (Entry Steps)) → count by (e ∷ xs) ≤ count by (e ∷ ys) → count by xs ≤ count by ys
uncount_cons by e xs ys less = which (counted by e xs) (counted by e ys)
  where
    which : ((by ≡ e.by) × (count by (e ∷ xs) ≡ suc (count by xs))) ⊎ (((by ≡ e.by) → ⊥) × (count by (e ∷ xs) ≡ count by xs)) → ((by ≡ e.by) × (count by (e ∷ ys) ≡ suc (count by ys))) ⊎ (((by ≡ e.by) → ⊥) × (count by (e ∷ ys) ≡ count by ys))
        → count by xs ≤ count by ys
    which (inl one) (inl other) = let x = one.1 in let y = other.1 in omega (arith, less, x, y)
    which (inr one) (inr other) = let x = one.1 in let y = other.1 in omega (arith, less, x, y)
    which (inl one) (inr other) = absurd (other.0 one.0)
    which (inr one) (inl other) = absurd (one.0 other.0)

count_within : (by : ℕ) (es log : List (Entry Steps)) → IsWithin es log → count by es ≤ count by log
count_within by es [] none = let same = ap (count by) none in omega (arith, same)
count_within by es (e ∷ log) (inl is) = let less = count_within by es log is in let more = count_more by e log in omega (arith, less, more)
count_within by es (e ∷ log) (inr (rest, same, is)) = let less = count_cons by e rest log (count_within by rest log is) in let long = ap (count by) same in omega (arith, less, long)

-- ---- whose an entry is

module _ (clients hand : List ℕ) where
  -- the place is the driver's, or that of a client that is made by hand
  abbrev pub ComesInRounds : ℕ → Type 0
  ComesInRounds by = (by ≡ zero) ⊎ ((i : ℕ) × (client : ℕ) × (by ≡ suc i) × (slice_get clients i ≡ Some client) × (is_by_hand hand client ≡ true))

  -- it is that of another client, or of none
  abbrev pub IsOthers : ℕ → Type 0
  IsOthers by = (i : ℕ) × (by ≡ suc i) × ((client : ℕ) → slice_get clients i ≡ Some client → is_by_hand hand client ≡ false)

  whose : (by : ℕ) → ComesInRounds by ⊎ IsOthers by
  whose zero = inl (inl refl)
  whose (suc i) = at (slice_get clients i) refl
    where
      known : (client : ℕ) → slice_get clients i ≡ Some client → (b : Bool) → is_by_hand hand client ≡ b → ComesInRounds (suc i) ⊎ IsOthers (suc i)
      known client is true one = inl (inr (i, client, refl, is, one))
      known client is false none = inr (i, refl, λ other named. ap (is_by_hand hand) (same_Some other client (sym named ∙ is)) ∙ none)

      at : (found : Option ℕ) → slice_get clients i ≡ found → ComesInRounds (suc i) ⊎ IsOthers (suc i)
      at None none = inr (i, refl, λ client named. absurd (none-some client (sym none ∙ named)))
      at (Some client) is = known client is (is_by_hand hand client) refl

  -- the first list is the second one without the others' entries
  abbrev pub IsWithoutOthers : List (Entry Steps) → List (Entry Steps) → Type 0
  IsWithoutOthers es [] = es ≡ []
  IsWithoutOthers es (e ∷ log) = (IsOthers e.by × IsWithoutOthers es log) ⊎ ((rest : List (Entry Steps)) × (es ≡ e ∷ rest) × ComesInRounds e.by × IsWithoutOthers rest log)

  -- Entries that stand in the history in order, of the driver and of clients by hand, of each as many as the history has, are all that it has of these.
  pub are_all : (es log : List (Entry Steps)) → IsWithin es log → All (λ (e : Entry Steps). ComesInRounds e.by) es → ((by : ℕ) → ComesInRounds by → count by log ≤ count by es) → IsWithoutOthers es log
  are_all es [] none theirs many = none
  are_all es (e ∷ log) (inr (rest, same, is)) theirs many =
      let own : All (λ (x : Entry Steps). ComesInRounds x.by) (e ∷ rest) = subst (All (λ (x : Entry Steps). ComesInRounds x.by)) same theirs in
      inr (
        rest,
        same,
        All-head (λ (x : Entry Steps). ComesInRounds x.by) e rest own,
        are_all rest log is (All-tail (λ (x : Entry Steps). ComesInRounds x.by) e rest own)
            (λ by mine. uncount_cons by e log rest (subst (λ (l : List (Entry Steps)). count by (e ∷ log) ≤ count by l) same (many by mine))),
      )
  are_all es (e ∷ log) (inl is) theirs many = which (whose e.by) (λ less. are_all es log is theirs less)
    where
      which : ComesInRounds e.by ⊎ IsOthers e.by → (((by : ℕ) → ComesInRounds by → count by log ≤ count by es) → IsWithoutOthers es log) → IsWithoutOthers es (e ∷ log)
      which (inl mine) on =
          let less = many e.by mine in
          let more = count_own e log in
          let few = count_within e.by es log is in
          absurd (omega (arith, less, more, few))
      which (inr other) on = inl (other, on (λ by mine. let less = many by mine in let more = count_more by e log in omega (arith, less, more)))
