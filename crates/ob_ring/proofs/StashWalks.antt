-- The keys of the stash's rows, walked in ascending order.
use Rattle.std.specs.Prelude.{◌≡◌, ◌≢◌, ℕ, ◌+◌, ◌<◌, ◌≤◌, Bool, true, false, cond, List, [], ◌∷◌, ◌||◌, map, filter, length, Option, None, Some, is_some, slice_index_or}
use Rattle.std.specs.List.{range_with_len, list_any, count_by}
use Rattle.std.specs.Ordering.{nat_cmp, eq_by_cmp}
use Rattle.std.specs.FinMap as finite
use Rattle.std.specs.FinMap.Entries.{is_some-find}
use Rattle.std.proofs.Common.{zero, suc, arith, refl, sym, ap, ◌∙◌, inl, inr, get_or}
use Rattle.std.proofs.lemmas.Bool.{false≢true, cases_Bool, cases_eq, or_right}
use Rattle.std.proofs.lemmas.List.Sums.{length-filter}
use Rattle.ob_tables.specs.Rows.{row_key_at}
use Rattle.ob_tables.proofs.RowLaws.{rises, ties, differs}
use Rattle.ob_ring.specs.Passing.{row_keys}
use Rattle.ob_ring.specs.Settling.{Rows}

keys_length : (es : List (ℕ × List ℕ)) → length (map (λ e. e.0) es) ≡ length es
keys_length [] = refl
keys_length (e ∷ es) = ap suc (keys_length es)

key_of_row : (es : List (ℕ × List ℕ)) (i : ℕ) → get_or (map (λ e. e.0) es) i 0 ≡ row_key_at es i
key_of_row [] i = refl
key_of_row (e ∷ es) zero = refl
key_of_row (e ∷ es) (suc i) = key_of_row es i

pub keys_many : (rows : Rows) → length (row_keys rows) ≡ finite.len rows
keys_many rows = keys_length (finite.entries rows) ∙ sym (finite.len-entries rows)

pub key_is : (rows : Rows) (i : ℕ) → get_or (row_keys rows) i 0 ≡ (slice_index_or (finite.entries rows) i (0, [])).0
key_is rows i = key_of_row (finite.entries rows) i

-- ---- the whole walk

abbrev IsAmong : List ℕ → ℕ → Type 0
IsAmong ks k = (j : ℕ) × (j < length ks) × (get_or ks j 0 ≡ k)

abbrev Ascends : List ℕ → Type 0
Ascends ks = (i j : ℕ) → i < j → j < length ks → get_or ks i 0 < get_or ks j 0

abbrev IsWithin : ℕ → ℕ → List ℕ → Type 0
IsWithin a n ks = (j : ℕ) → j < length ks → (a ≤ get_or ks j 0) × (get_or ks j 0 < a + n)

later : (x : ℕ) (ks : List ℕ) (k : ℕ) → IsAmong (x ∷ ks) k → x ≢ k → IsAmong ks k
later x ks k (zero, low, is) ne = absurd (ne is)
later x ks k (suc j, low, is) ne = (j, omega arith, is)

skip : (f : ℕ → Bool) (x : ℕ) (xs : List ℕ) → f x ≡ false → filter f (x ∷ xs) ≡ filter f xs
skip f x xs off = ap (λ (c : Bool). cond c (x ∷ filter f xs) (filter f xs)) off

keep : (f : ℕ → Bool) (x y : ℕ) (xs ys : List ℕ) → x ≡ y → filter f xs ≡ filter f ys → filter f (x ∷ xs) ≡ filter f (y ∷ ys)
keep f x y xs ys same e = ap (λ (z : ℕ). cond (f z) (z ∷ filter f xs) (filter f xs)) same ∙ ap (λ (zs : List ℕ). cond (f y) (y ∷ zs) zs) e

walk : (f : ℕ → Bool) (ks : List ℕ) (a n : ℕ) → Ascends ks → IsWithin a n ks → ((k : ℕ) → a ≤ k → k < a + n → f k ≡ true → IsAmong ks k) → filter f ks ≡ filter f (range_with_len a n)
walk f [] a zero up low has = refl
walk f (x ∷ ks) a zero up low has = (let h : (a ≤ x) × (x < a + 0) = low 0 (omega arith) in absurd (omega (arith, h.0, h.1)))
walk f [] a (suc n) up low has = elim (cases_Bool (f a)) [
  | inl on ↦ (let at : IsAmong [] a = has a (omega arith) (omega arith) on in absurd (omega (arith, at.1)))
  | inr off ↦ walk f [] (a + 1) n up (λ j h. absurd (omega arith)) (λ k h g on. has k (omega arith) (omega arith) on) ∙ sym (skip f a (range_with_len (a + 1) n) off)
]
walk f (x ∷ ks) a (suc n) up low has = elim (cases_eq x a) [
  | inl same ↦ keep f x a ks (range_with_len (a + 1) n) same (walk f ks (a + 1) n
      (λ i j h g. up (suc i) (suc j) (omega arith) (omega arith))
      (λ j h. (let l : (a ≤ get_or ks j 0) × (get_or ks j 0 < a + suc n) = low (suc j) (omega arith) in let m : x < get_or ks j 0 = up 0 (suc j) (omega arith) (omega arith) in (omega arith, omega (arith, l.1))))
      (λ k h g on. later x ks k (has k (omega arith) (omega arith) on) (λ e. absurd (omega arith))))
  | inr ne ↦ (let first : (a ≤ x) × (x < a + suc n) = low 0 (omega arith) in
      let off : f a ≡ false = elim (cases_Bool (f a)) [
        | inl on ↦ absurd (above (has a (omega arith) (omega arith) on) (omega (arith, first.0)))
        | inr down ↦ down
      ] in
      walk f (x ∷ ks) (a + 1) n up (λ j h. (let l : (a ≤ get_or (x ∷ ks) j 0) × (get_or (x ∷ ks) j 0 < a + suc n) = low j h in (from j h (omega (arith, first.0)), omega (arith, l.1)))) (λ k h g on. has k (omega arith) (omega arith) on)
      ∙ sym (skip f a (range_with_len (a + 1) n) off))
]
  where
    from : (j : ℕ) → j < length (x ∷ ks) → a < x → a + 1 ≤ get_or (x ∷ ks) j 0
    from zero h lt = omega arith
    from (suc j) h lt = (let m : x < get_or (x ∷ ks) (suc j) 0 = up 0 (suc j) (omega arith) h in omega arith)

    above : IsAmong (x ∷ ks) a → a < x → ⊥
    above at lt = (let m : a + 1 ≤ get_or (x ∷ ks) at.0 0 = from at.0 at.1 lt in let e : get_or (x ∷ ks) at.0 0 ≡ a = at.2 in omega arith)

any_found : (k : ℕ) (ks : List ℕ) → list_any (eq_by_cmp nat_cmp k) ks ≡ true → IsAmong ks k
any_found k [] e = absurd (false≢true e)
any_found k (x ∷ ks) e = elim (cases_eq k x) [
  | inl same ↦ (0, omega arith, sym same)
  | inr ne ↦ (let at : IsAmong ks k = any_found k ks (ap (λ (b : Bool). b || list_any (eq_by_cmp nat_cmp k) ks) (sym (differs k x ne)) ∙ e) in (suc at.0, omega (arith, at.1), at.2))
]

any_at : (ks : List ℕ) (j : ℕ) → j < length ks → list_any (eq_by_cmp nat_cmp (get_or ks j 0)) ks ≡ true
any_at [] j h = absurd (omega arith)
any_at (x ∷ ks) zero h = ap (λ (b : Bool). b || list_any (eq_by_cmp nat_cmp x) ks) (ties x)
any_at (x ∷ ks) (suc j) h = or_right (eq_by_cmp nat_cmp (get_or ks j 0) x) (list_any (eq_by_cmp nat_cmp (get_or ks j 0)) ks) (any_at ks j (omega arith))

some_is : (o : Option (List ℕ)) → is_some o ≡ true → o ≢ None
some_is None e none = absurd (false≢true e)
some_is (Some v) e none = absurd (cc)

is_there : (o : Option (List ℕ)) → o ≢ None → is_some o ≡ true
is_there None some = absurd (some refl)
is_there (Some v) some = refl

has_row : (rows : Rows) (k : ℕ) → is_some (finite.get rows k) ≡ list_any (eq_by_cmp nat_cmp k) (row_keys rows)
has_row rows k = ap is_some (finite.get-entries rows k) ∙ is_some-find nat_cmp k (finite.entries rows)

pub row_is_there : (rows : Rows) (i : ℕ) → i < length (row_keys rows) → finite.get rows (get_or (row_keys rows) i 0) ≢ None
row_is_there rows i low = some_is (finite.get rows (get_or (row_keys rows) i 0)) (has_row rows (get_or (row_keys rows) i 0) ∙ any_at (row_keys rows) i low)

ascending : (rows : Rows) → Ascends (row_keys rows)
ascending rows i j h g =
    let lt : row_key_at (finite.entries rows) i < row_key_at (finite.entries rows) j = rises (finite.entries rows) (finite.entries_sorted rows) i j h (omega (arith, g, keys_length (finite.entries rows))) in
    omega (arith, lt, key_of_row (finite.entries rows) i, key_of_row (finite.entries rows) j)

-- Whatever passes a test has a row: so the keys of the rows that pass it are all that do.
pub walked : (f : ℕ → Bool) (rows : Rows) (n : ℕ) → ((k : ℕ) → finite.get rows k ≢ None → k < n) → ((k : ℕ) → f k ≡ true → finite.get rows k ≢ None) → filter f (row_keys rows) ≡ filter f (range_with_len 0 n)
walked f rows n low has = walk f (row_keys rows) 0 n (ascending rows)
    (λ j h. (let under : get_or (row_keys rows) j 0 < n = low (get_or (row_keys rows) j 0) (row_is_there rows j h) in (omega arith, omega arith)))
    (λ k h g on. any_found k (row_keys rows) (sym (has_row rows k) ∙ is_there (finite.get rows k) (has k on)))

pub counted : (f : ℕ → Bool) (rows : Rows) (n : ℕ) → ((k : ℕ) → finite.get rows k ≢ None → k < n) → ((k : ℕ) → f k ≡ true → finite.get rows k ≢ None) → count_by f (row_keys rows) ≡ count_by f (range_with_len 0 n)
counted f rows n low has = sym (length-filter f (row_keys rows)) ∙ ap length (walked f rows n low has) ∙ length-filter f (range_with_len 0 n)
