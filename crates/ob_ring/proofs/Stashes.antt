-- The stash has room for every key, and rows that jobs read one after another.
use Rattle.std.specs.Prelude.{◌≡◌, ◌≢◌, ℕ, ◌+◌, ◌-◌, ◌<◌, ◌≤◌, Bool, true, false, cond, List, [], ◌∷◌, ◌++◌, length, take, Option, is_some, slice_index_or}
use Rattle.std.specs.declared.option.Option.TheVariants.{None, Some}
use Rattle.std.specs.declared.cmp.Ordering.{Ordering}
use Rattle.std.specs.Ordering.{nat_cmp, eq_by_cmp, is_eq}
use Rattle.std.specs.declared.cmp.Ordering.TheVariants.{Less, Equal, Greater}
use Rattle.std.specs.Cmp.{nat_cmp_total, eq_by_cmp_equiv}
use Rattle.std.specs.FinMap.{get, len, insert, remove, contains_key, empty, get-empty, get-insert, get-remove, len-empty, len-insert, len-remove, same_map, nat_cmp-IsAntisymmetric}
use Rattle.std.proofs.Common.{zero, suc, arith, refl, sym, ap, ◌∙◌, inl, inr}
use Rattle.std.proofs.lemmas.Bool.{true≢false, false≢true, cases_Bool}
use Rattle.ob_base.specs.declared.fault.Damaged.{Damaged}
use Rattle.ob_base.specs.declared.job.Job.{Job}
use Rattle.ob_ring.specs.Settling.{Rows, job_damage, or_else, first_fault, with_row, rows_after}

abbrev pub AreLow : ℕ → Rows → Type 0
AreLow n m = (k : ℕ) → get m k ≢ None → k < n

is_none : (o : Option (List ℕ)) → (o ≢ None → ⊥) → o ≡ None
is_none None h = refl
is_none (Some x) h = absurd (h (λ e. absurd (cc)))

same_key : (k : ℕ) → eq_by_cmp nat_cmp k k ≡ true
same_key k = (eq_by_cmp_equiv nat_cmp_total).refl k

eq_order : (o : Ordering) → is_eq o ≡ true → o ≡ Equal
eq_order Less e = absurd (false≢true e)
eq_order Equal e = refl
eq_order Greater e = absurd (false≢true e)

off_key : (q k : ℕ) (o : Option (List ℕ)) → cond (eq_by_cmp nat_cmp q k) None o ≢ None → (q ≢ k) × (o ≢ None)
off_key q k o h = elim (cases_Bool (eq_by_cmp nat_cmp q k)) [
  | inl on ↦ absurd (h (ap (λ (b : Bool). cond b None o) on))
  | inr off ↦ ((λ e. true≢false (sym (same_key k) ∙ ap (λ (x : ℕ). eq_by_cmp nat_cmp x k) (sym e) ∙ off)), (λ e. h (ap (λ (b : Bool). cond b None o) off ∙ e)))
]

one_less : (b : Bool) (n m : ℕ) → m ≡ cond b (n - 1) n → n ≤ m + 1
one_less true n m e = omega arith
one_less false n m e = omega arith

-- a map of keys below n has at most n
pub len_low : (n : ℕ) (m : Rows) → AreLow n m → len m ≤ n
len_low zero m low =
    let none : m ≡ empty = same_map nat_cmp_total nat_cmp-IsAntisymmetric m empty (λ q. is_none (get m q) (λ h. (let f : q < zero = low q h in omega arith)) ∙ sym (get-empty nat_cmp q)) in
    omega (arith, ap (λ (x : Rows). len x) none, len-empty nat_cmp (List ℕ))
len_low (suc n) m low =
    let m' : Rows = remove m n in
    let lower : AreLow n m' = λ k h. (let off : (k ≢ n) × (get m k ≢ None) = off_key k n (get m k) (λ e. h (get-remove nat_cmp_total m n k ∙ e)) in let f : k < suc n = low k off.1 in omega (arith, off.0)) in
    let few : len m' ≤ n = len_low n m' lower in
    omega (arith, one_less _ (len m) (len m') (len-remove nat_cmp_total m n))

pub low_insert : (n : ℕ) (m : Rows) (k : ℕ) (v : List ℕ) → k < n → AreLow n m → AreLow n (insert m k v)
low_insert n m k v h low q some = elim (cases_Bool (eq_by_cmp nat_cmp q k)) [
  | inl on ↦ (let same : q ≡ k = nat_cmp-IsAntisymmetric q k (eq_order (nat_cmp q k) on) in omega arith)
  | inr off ↦ low q (λ e. some (get-insert nat_cmp_total m k v q ∙ ap (λ (b : Bool). cond b (Some v) (get m q)) off ∙ e))
]

pub low_remove : (n : ℕ) (m : Rows) (k : ℕ) → AreLow n m → AreLow n (remove m k)
low_remove n m k low q some = low q (off_key q k (get m q) (λ e. some (get-remove nat_cmp_total m k q ∙ e))).1

more_len : (b : Bool) (n m : ℕ) → m ≡ cond b n (n + 1) → b ≡ false → m ≡ n + 1
more_len b n m e off = e ∙ ap (λ (c : Bool). cond c n (n + 1)) off

-- there is room for a key that has no row
pub room_left : (n room : ℕ) (m : Rows) (k : ℕ) → n ≤ room → k < n → AreLow n m → get m k ≡ None → len m < room
room_left n room m k h g low none =
    let m' : Rows = insert m k [] in
    let few : len m' ≤ n = len_low n m' (low_insert n m k [] g low) in
    let one : len m' ≡ len m + 1 = more_len (contains_key m k) (len m) (len m') (len-insert nat_cmp_total m k []) (ap is_some none) in
    omega arith

-- ---- jobs one after another

pub fault_both : (xs : List Job) (j : Job) → first_fault (xs ++ j ∷ []) ≡ or_else (first_fault xs) (job_damage j)
fault_both [] j = or_none (job_damage j)
  where
    or_none : (o : Option Damaged) → or_else o None ≡ o
    or_none None = refl
    or_none (Some d) = refl
fault_both (x ∷ xs) j = ap (or_else (job_damage x)) (fault_both xs j) ∙ or_more (job_damage x) (first_fault xs) (job_damage j)
  where
    or_more : (a b c : Option Damaged) → or_else a (or_else b c) ≡ or_else (or_else a b) c
    or_more None b c = refl
    or_more (Some d) b c = refl

pub rows_both : (m : Rows) (xs : List Job) (j : Job) → rows_after m (xs ++ j ∷ []) ≡ with_row (rows_after m xs) j.key j.result
rows_both m [] j = refl
rows_both m (x ∷ xs) j = rows_both (with_row m x.key x.result) xs j

first_case : (x : Job) (o e : Option Damaged) (d : Damaged) → o ≡ None → e ≡ Some d → or_else o e ≡ Some d
first_case x None e d n f = f
first_case x (Some c) e d n f = absurd (cc)

no_fault : (o e : Option Damaged) → or_else o e ≡ None → (o ≡ None) × (e ≡ None)
no_fault None e n = (refl, n)
no_fault (Some c) e n = absurd (cc)

pub first_at : (xs : List Job) (i : ℕ) (d : Damaged) (z : Job) → i < length xs → first_fault (take i xs) ≡ None → job_damage (slice_index_or xs i z) ≡ Some d → first_fault xs ≡ Some d
first_at [] i d z h none at = absurd (omega arith)
first_at (x ∷ xs) zero d z h none at = ap (λ (o : Option Damaged). or_else o (first_fault xs)) at
first_at (x ∷ xs) (suc i) d z h none at =
    let parts : (job_damage x ≡ None) × (first_fault (take i xs) ≡ None) = no_fault (job_damage x) (first_fault (take i xs)) none in
    first_case x (job_damage x) (first_fault xs) d parts.0 (first_at xs i d z (omega arith) parts.1 at)
