-- How many rows the stash has.
use Rattle.std.specs.Prelude.{◌≡◌, is_some, ◌≢◌, ℕ, ◌+◌, ◌<◌, Bool, true, false, cond, List, Option}
use Rattle.std.specs.declared.option.Option.TheVariants.{None, Some}
use Rattle.std.specs.Cmp.{nat_cmp_total}
use Rattle.std.specs.List.{count_by, range_with_len}
use Rattle.std.specs.Ordering.{nat_cmp}
use Rattle.std.specs.FinMap as finite
use Rattle.std.specs.FinMap.{same_map, nat_cmp-IsAntisymmetric, len-insert, len-empty, get-empty}
use Rattle.std.proofs.Common.{zero, suc, arith, refl, sym, ap, ◌∙◌, subst, inl, inr}
use Rattle.std.proofs.lemmas.Bool.{true≢false, cases_eq, eq-eqb, ne_eqb}
use Rattle.ob_base.specs.declared.params.Params.{Params}
use Rattle.ob_base.specs.Tree.{below}
use Rattle.ob_tables.proofs.Counting.{count_by-range_more}
use Rattle.ob_ring.specs.FlatTable.{FlatTable, Row, Spot, InStash, In, spot_of, is_stash, in_stash}
use Rattle.ob_ring.specs.Settling.{Rows}
use Rattle.ob_ring.proofs.Ranges.{count_by-range_agree}
use Rattle.ob_stand.specs.Takes.{is_present}
use Rattle.ob_stand.specs.Values.{Values}
use Rattle.ob_stand.specs.Carries.{Carries}
use Rattle.ob_stand.specs.ValueLaws.{StashCounts}
use Rattle.ob_stand.proofs.Carrying.{get_insert, get_remove}

none_of : {X : Type 0} (o : Option X) → (o ≢ None → ⊥) → o ≡ None
none_of None h = refl
none_of (Some x) h = absurd (h (λ e. some_none x e))
  where
    some_none : {X : Type 0} (x : X) → Some x ≡ None → ⊥
    some_none x e = absurd (cc)

same_rows : (a b : Rows) → ((k : ℕ) → finite.get a k ≡ finite.get b k) → a ≡ b
same_rows a b h = same_map nat_cmp_total nat_cmp-IsAntisymmetric a b h

abbrev has_row : Rows → ℕ → Bool
has_row rows k = is_present (finite.get rows k)

removed_at : (rows : Rows) (n : ℕ) → finite.get (finite.remove rows n) n ≡ None
removed_at rows n = get_remove rows n n ∙ ap (λ (b : Bool). cond b None (finite.get rows n)) (eq-eqb n n refl)

removed_off : (rows : Rows) (n k : ℕ) → (k ≡ n → ⊥) → finite.get (finite.remove rows n) k ≡ finite.get rows k
removed_off rows n k h = get_remove rows n k ∙ ap (λ (b : Bool). cond b None (finite.get rows k)) (ne_eqb k n h)

-- a map with one key more
len_more : (rows rows1 : Rows) (n : ℕ) (o : Option (List ℕ)) → finite.get rows n ≡ o → rows1 ≡ finite.remove rows n → finite.len rows ≡ finite.len rows1 + cond (is_present o) 1 0
len_more rows rows1 n None e is =
    let same : rows ≡ rows1 = same_rows rows rows1 (λ k. elim (cases_eq k n) [
      | inl at ↦ ap (finite.get rows) at ∙ e ∙ sym (ap (λ (x : Rows). finite.get x k) is ∙ ap (finite.get (finite.remove rows n)) at ∙ removed_at rows n)
      | inr off ↦ sym (ap (λ (x : Rows). finite.get x k) is ∙ removed_off rows n k off)
    ]) in
    let l : finite.len rows ≡ finite.len rows1 = ap finite.len same in
    omega arith
len_more rows rows1 n (Some v) e is =
    let same : rows ≡ finite.insert rows1 n v = same_rows rows (finite.insert rows1 n v) (λ k. elim (cases_eq k n) [
      | inl at ↦ ap (finite.get rows) at ∙ e ∙ sym (get_insert rows1 n v k ∙ ap (λ (b : Bool). cond b (Some v) (finite.get rows1 k)) (eq-eqb k n at))
      | inr off ↦ sym (get_insert rows1 n v k ∙ ap (λ (b : Bool). cond b (Some v) (finite.get rows1 k)) (ne_eqb k n off) ∙ ap (λ (x : Rows). finite.get x k) is ∙ removed_off rows n k off)
    ]) in
    let none : finite.get rows1 n ≡ None = ap (λ (x : Rows). finite.get x n) is ∙ removed_at rows n in
    let l : finite.len rows ≡ finite.len rows1 + 1 = ap finite.len same ∙ len-insert nat_cmp_total rows1 n v ∙ ap (λ (x : Option (List ℕ)). cond (is_some x) (finite.len rows1) (finite.len rows1 + 1)) none in
    omega arith

pub rows_counted : (n : ℕ) (rows : Rows) → ((k : ℕ) → finite.get rows k ≢ None → k < n) → finite.len rows ≡ count_by (has_row rows) (below n)
rows_counted zero rows low =
    let empty : rows ≡ finite.empty = same_rows rows finite.empty (λ k. none_of (finite.get rows k) (λ some. (let h : k < 0 = low k some in omega arith)) ∙ sym (get-empty nat_cmp k)) in
    ap finite.len empty ∙ len-empty nat_cmp (List ℕ)
rows_counted (suc n) rows low =
    let rows1 : Rows = finite.remove rows n in
    let inner : finite.len rows1 ≡ count_by (has_row rows1) (below n) = rows_counted n rows1 (λ k some. elim (cases_eq k n) [
      | inl at ↦ absurd (some (ap (finite.get rows1) at ∙ removed_at rows n))
      | inr off ↦ (let h : k < suc n = low k (λ e. some (removed_off rows n k off ∙ e)) in omega arith)
    ]) in
    let agree : count_by (has_row rows1) (below n) ≡ count_by (has_row rows) (below n) = count_by-range_agree (has_row rows1) (has_row rows) n (λ j h. ap is_present (removed_off rows n j (λ e. omega arith))) in
    let more : count_by (has_row rows) (range_with_len 0 (n + 1)) ≡ count_by (has_row rows) (below n) + cond (has_row rows n) 1 0 = count_by-range_more (has_row rows) n in
    let one : finite.len rows ≡ finite.len rows1 + cond (is_present (finite.get rows n)) 1 0 = len_more rows rows1 n (finite.get rows n) refl refl in
    let next : n + 1 ≡ suc n = omega arith in
    subst (λ (i : ℕ). finite.len rows ≡ count_by (has_row rows) (range_with_len 0 i)) next (omega arith)

stash_case : (r : Option Row) (row value : Option (List ℕ)) → is_present r ≡ is_present value → (spot_of r ≡ InStash → row ≡ value) → ((u j : ℕ) → spot_of r ≡ In u j → row ≡ None) → is_present row ≡ in_stash r
stash_case None row value same held others = ap is_present (held refl) ∙ sym same
stash_case (Some r) row value same held others = by_spot r.spot refl
  where
    by_spot : (s : Spot) → r.spot ≡ s → is_present row ≡ is_stash r.spot
    by_spot InStash e = ap is_present (held e) ∙ sym same ∙ sym (ap is_stash e)
    by_spot (In u j) e = ap is_present (others u j e) ∙ sym (ap is_stash e)

row_low : (p : Params) (t : FlatTable) (rows : Rows) (slots : ℕ → ℕ → List ℕ) (m : Values) (k : ℕ) → Carries p t rows slots m → finite.get rows k ≢ None → k < p.keys
row_low p t rows slots m k c some = by_case (is_present (t.rows k)) refl
  where
    by_case : (b : Bool) → is_present (t.rows k) ≡ b → k < p.keys
    by_case true e = c.low k e
    by_case false e = absurd (some (c.held k (away (t.rows k) e) ∙ gone (m k) (sym (c.keys k) ∙ e)))
      where
        away : (r : Option Row) → is_present r ≡ false → spot_of r ≡ InStash
        away None e = refl
        away (Some r) e = absurd (true≢false e)

        gone : (o : Option (List ℕ)) → is_present o ≡ false → o ≡ None
        gone None e = refl
        gone (Some v) e = absurd (true≢false e)

pub stash_counts : StashCounts
stash_counts p t rows slots m c =
    rows_counted p.keys rows (λ k some. row_low p t rows slots m k c some)
    ∙ count_by-range_agree (has_row rows) (λ k. in_stash (t.rows k)) p.keys (λ k h. stash_case (t.rows k) (finite.get rows k) (m k) (c.keys k) (c.held k) (c.others k))
