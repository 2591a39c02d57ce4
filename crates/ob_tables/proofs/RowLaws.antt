-- Where a key's row stands among rows in rising order.
use Rattle.std.specs.Prelude.{◌≡◌, ◌≢◌, ◌<◌, ◌≤◌, ℕ, Bool, true, false, ◌&&◌, T, List, [], ◌∷◌, Option, Some, None, length, slice_index_or, slice_set, insert, remove, nat_lt}
use Rattle.std.specs.List.Sorted.{IsPartitionedBy}
use Rattle.std.specs.declared.cmp.Ordering.{Ordering}
use Rattle.std.specs.declared.cmp.Ordering.TheVariants.{Less, Equal, Greater}
use Rattle.std.specs.Ordering.{nat_cmp, eq_by_cmp, is_lt}
use Rattle.std.specs.Cmp.{ranked}
use Rattle.std.specs.FinMap.{find, put, is_sorted}
use Rattle.std.specs.FinMap.Entries.{below_all}
use Rattle.std.proofs.Common.{zero, suc, arith, refl, sym, ap, subst, ◌∙◌, inl, inr, ⊎_elim}
use Rattle.std.proofs.lemmas.Bool.{cases_order, cases_eq}
use Rattle.std.proofs.lemmas.Bool.Decides.{nat_tests}
use Rattle.std.proofs.lemmas.List.{get_or_default}
use Rattle.ob_tables.specs.Rows.{row_key_at, Rises, Splits, rows_but}

t_first : (a b : Bool) → T (a && b) → T a
t_first true b h = tt
t_first false b h = h

t_second : (a b : Bool) → T (a && b) → T b
t_second true b h = h
t_second false b h = absurd h

is_less : (o : Ordering) → T (is_lt o) → o ≡ Less
is_less Less h = refl
is_less Equal h = absurd h
is_less Greater h = absurd h

lt_of : (x y : ℕ) → T (is_lt (nat_cmp x y)) → x < y
lt_of x y h = ranked x y Less (sym (is_less (nat_cmp x y) h))

above : (x : ℕ) (es : List (ℕ × List ℕ)) → T (below_all nat_cmp x es) → (j : ℕ) → j < length es → x < row_key_at es j
above x [] h j lt = absurd (omega arith)
above x (e ∷ es) h zero lt = lt_of x e.0 (t_first (is_lt (nat_cmp x e.0)) (below_all nat_cmp x es) h)
above x (e ∷ es) h (suc j) lt = above x es (t_second (is_lt (nat_cmp x e.0)) (below_all nat_cmp x es) h) j (omega arith)

pub rises : (es : List (ℕ × List ℕ)) → Rises es → (i j : ℕ) → i < j → j < length es → row_key_at es i < row_key_at es j
rises [] h i j lt k = absurd (omega arith)
rises (e ∷ es) h zero zero lt k = absurd (omega arith)
rises (e ∷ es) h zero (suc j) lt k = above e.0 es (t_first (below_all nat_cmp e.0 es) (is_sorted nat_cmp es) h) j (omega arith)
rises (e ∷ es) h (suc i) zero lt k = absurd (omega arith)
rises (e ∷ es) h (suc i) (suc j) lt k = rises es (t_second (below_all nat_cmp e.0 es) (is_sorted nat_cmp es) h) i j (omega arith) (omega arith)

-- ---- one comparison

pub ties : (k : ℕ) → eq_by_cmp nat_cmp k k ≡ true
ties k = grind (arith, nat_tests)

pub differs : (k x : ℕ) → k ≢ x → eq_by_cmp nat_cmp k x ≡ false
differs k x h = grind (arith, nat_tests)

is_greater : (k x : ℕ) → x < k → nat_cmp k x ≡ Greater
is_greater k x h = grind (arith, nat_tests)

is_lesser : (k x : ℕ) → k < x → nat_cmp k x ≡ Less
is_lesser k x h = grind (arith, nat_tests)

is_equal : (k : ℕ) → nat_cmp k k ≡ Equal
is_equal k = grind (arith, nat_tests)

-- ---- the place of a key

later : (k : ℕ) (e : ℕ × List ℕ) (es : List (ℕ × List ℕ)) (i : ℕ) → Splits k (e ∷ es) (suc i) → Splits k es i
later k e es i s = record { within = omega (arith, s.within); before = λ j h. s.before (suc j) (omega arith); after = λ j h l. s.after (suc j) (omega arith) (omega arith) }

pub find_none : (k : ℕ) (es : List (ℕ × List ℕ)) → ((j : ℕ) → j < length es → k ≢ row_key_at es j) → find nat_cmp k es ≡ None
find_none k [] h = refl
find_none k (e ∷ es) h = rw (differs k e.0 (h 0 (omega arith))) (find_none k es (λ j l. h (suc j) (omega arith)))

pub find_at : (k : ℕ) (es : List (ℕ × List ℕ)) (i : ℕ) → Splits k es i → i < length es → row_key_at es i ≡ k → find nat_cmp k es ≡ Some (slice_index_or es i (0, [])).1
find_at k [] i s lt is = absurd (omega arith)
find_at k (e ∷ es) zero s lt is = rw is (rw (ties k) refl)
find_at k (e ∷ es) (suc i) s lt is = rw (differs k e.0 (let low : e.0 < k = s.before 0 (omega arith) in omega arith)) (find_at k es i (later k e es i s) (omega arith) is)

pub put_at : (k : ℕ) (v : List ℕ) (es : List (ℕ × List ℕ)) (i : ℕ) → Splits k es i → i < length es → row_key_at es i ≡ k → slice_set es i (k, v) ≡ put nat_cmp k v es
put_at k v [] i s lt is = absurd (omega arith)
put_at k v (e ∷ es) zero s lt is = rw is (rw (is_equal k) refl)
put_at k v (e ∷ es) (suc i) s lt is = rw (is_greater k e.0 (s.before 0 (omega arith))) (ap (λ (xs : List (ℕ × List ℕ)). e ∷ xs) (put_at k v es i (later k e es i s) (omega arith) is))

pub put_new : (k : ℕ) (v : List ℕ) (es : List (ℕ × List ℕ)) (i : ℕ) → Splits k es i → i ≤ length es → (i < length es → k < row_key_at es i) → insert es i (k, v) ≡ put nat_cmp k v es
put_new k v [] zero s le new = refl
put_new k v [] (suc i) s le new = absurd (omega arith)
put_new k v (e ∷ es) zero s le new = rw (is_lesser k e.0 (new (omega arith))) refl
put_new k v (e ∷ es) (suc i) s le new = rw (is_greater k e.0 (s.before 0 (omega arith))) (ap (λ (xs : List (ℕ × List ℕ)). e ∷ xs) (put_new k v es i (later k e es i s) (omega arith) (λ l. new (omega arith))))

pub but_none : (k : ℕ) (es : List (ℕ × List ℕ)) → ((j : ℕ) → j < length es → k ≢ row_key_at es j) → rows_but k es ≡ es
but_none k [] h = refl
but_none k (e ∷ es) h = rw (differs k e.0 (h 0 (omega arith))) (ap (λ (xs : List (ℕ × List ℕ)). e ∷ xs) (but_none k es (λ j l. h (suc j) (omega arith))))

pub but_at : (k : ℕ) (es : List (ℕ × List ℕ)) (i : ℕ) → Rises es → Splits k es i → i < length es → row_key_at es i ≡ k → remove es i ≡ rows_but k es
but_at k [] i r s lt is = absurd (omega arith)
but_at k (e ∷ es) zero r s lt is = rw is (rw (ties k) (sym (but_none k es (λ j l. (let more : e.0 < row_key_at es j = rises (e ∷ es) r 0 (suc j) (omega arith) (omega arith) in let same : e.0 ≡ k = is in omega arith)))))
but_at k (e ∷ es) (suc i) r s lt is = rw (differs k e.0 (let low : e.0 < k = s.before 0 (omega arith) in omega arith))
    (ap (λ (xs : List (ℕ × List ℕ)). e ∷ xs) (but_at k es i (t_second (below_all nat_cmp e.0 es) (is_sorted nat_cmp es) r) (later k e es i s) (omega arith) is))

-- a key that isn't at its place has no row
pub absent : (k : ℕ) (es : List (ℕ × List ℕ)) (i : ℕ) → Rises es → Splits k es i → (i < length es → row_key_at es i ≢ k) → (j : ℕ) → j < length es → k ≢ row_key_at es j
absent k es i r s ne j lt e = elim (cases_order j i) [
  | inl same ↦ (let low : i < length es = omega arith in ne low (ap (row_key_at es) (sym same) ∙ sym e))
  | inr other ↦ ⊎_elim (λ below. (let low : row_key_at es j < k = s.before j below in omega arith))
      (λ (up : i < j). (let more : row_key_at es i < row_key_at es j = rises es r i j up lt in let here : i < length es = omega arith in let high : k ≤ row_key_at es i = s.after i (omega arith) here in omega arith)) other
]

-- what has a lesser key comes first
pub parted : (k : ℕ) (es : List (ℕ × List ℕ)) → Rises es → (i j : ℕ) → i ≤ j → j < length es → row_key_at es j < k → row_key_at es i < k
parted k es r i j le lt low = elim (cases_eq i j) [
  | inl same ↦ subst (λ (n : ℕ). row_key_at es n < k) (sym same) low
  | inr ne ↦ (let more : row_key_at es i < row_key_at es j = rises es r i j (omega arith) lt in omega arith)
]

-- ---- what the calls leave, by the key's place

pub found : (k : ℕ) (es : List (ℕ × List ℕ)) (i : ℕ) (d : ℕ × List ℕ) → (i < length es) × (row_key_at es i ≡ k) × Splits k es i → ◌≡◌ {A = Option (List ℕ)} (Some (slice_index_or es i d).1) (find nat_cmp k es)
found k es i d (lt, is, s) = ap (λ (e : ℕ × List ℕ). Some e.1) (get_or_default es i d (0, []) lt) ∙ sym (find_at k es i s lt is)

pub missing : (k : ℕ) (es : List (ℕ × List ℕ)) (i : ℕ) → ((j : ℕ) → j < length es → k ≢ row_key_at es j) × Splits k es i → None ≡ find nat_cmp k es
missing k es i (none, s) = sym (find_none k es none)

pub set_is : (k : ℕ) (v : List ℕ) (es : List (ℕ × List ℕ)) (i : ℕ) → (i < length es) × (row_key_at es i ≡ k) × Splits k es i → slice_set es i (k, v) ≡ put nat_cmp k v es
set_is k v es i (lt, is, s) = put_at k v es i s lt is

pub insert_is : (k : ℕ) (v : List ℕ) (es : List (ℕ × List ℕ)) (i : ℕ) → ((j : ℕ) → j < length es → k ≢ row_key_at es j) × Splits k es i → insert es i (k, v) ≡ put nat_cmp k v es
insert_is k v es i (none, s) = put_new k v es i s s.within (λ lt. (let high : k ≤ row_key_at es i = s.after i (omega arith) lt in let ne : k ≢ row_key_at es i = none i lt in omega arith))

pub remove_is : (k : ℕ) (es : List (ℕ × List ℕ)) (i : ℕ) → Rises es → (i < length es) × (row_key_at es i ≡ k) × Splits k es i → remove es i ≡ rows_but k es
remove_is k es i r (lt, is, s) = but_at k es i r s lt is

pub stays : (k : ℕ) (es : List (ℕ × List ℕ)) (i : ℕ) → ((j : ℕ) → j < length es → k ≢ row_key_at es j) × Splits k es i → es ≡ rows_but k es
stays k es i (none, s) = sym (but_none k es none)

pub lt_from : (x k : ℕ) → nat_lt x k ≡ true → x < k
lt_from x k h = grind (arith, nat_tests)

pub le_of : (x k : ℕ) → nat_lt x k ≡ false → k ≤ x
le_of x k h = grind (arith, nat_tests)

from_lt : (x k : ℕ) → x < k → nat_lt x k ≡ true
from_lt x k h = grind (arith, nat_tests)

pub parted_by : (k : ℕ) (es : List (ℕ × List ℕ)) → Rises es → IsPartitionedBy (λ (row : ℕ × List ℕ). nat_lt row.0 k) es
parted_by k es r = λ i j d le lt is. (
    let jd : row_key_at es j ≡ (slice_index_or es j d).0 = ap (λ (row : ℕ × List ℕ). row.0) (get_or_default es j (0, []) d lt) in
    let li : i < length es = omega arith in
    let id : row_key_at es i ≡ (slice_index_or es i d).0 = ap (λ (row : ℕ × List ℕ). row.0) (get_or_default es i (0, []) d li) in
    let low : (slice_index_or es j d).0 < k = lt_from (slice_index_or es j d).0 k is in
    let here : row_key_at es j < k = omega arith in
    let there : row_key_at es i < k = parted k es r i j le lt here in
    from_lt (slice_index_or es i d).0 k (omega arith))
