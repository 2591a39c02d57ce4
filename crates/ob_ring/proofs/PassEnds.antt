-- What a pass leaves, once the listed buckets are sealed.
use Rattle.std.specs.Prelude.{◌≡◌, ◌≢◌, ℕ, ◌+◌, ◌-◌, ◌<◌, ◌==◌, Bool, true, false, cond, not, ◌&&◌, List, [], ◌∷◌, length, Option, is_some}
use Rattle.std.specs.declared.option.Option.TheVariants.{None, Some}
use Rattle.std.specs.List.{count_by}
use Rattle.std.specs.FinMap as finite
use Rattle.std.proofs.Common.{arith, refl, sym, ap, subst, ◌∙◌, inl, inr}
use Rattle.std.proofs.lemmas.Bool.{true≢false, false≢true, cases_Bool, eqb-true, eq-eqb, or_left, or_right}
use Rattle.ob_base.specs.declared.params.Params.{Params}
use Rattle.ob_base.specs.Tree.{below, buckets}
use Rattle.ob_schedule.specs.Paths.{is_one_of, by_falling_level}
use Rattle.ob_ring.specs.FlatTable.{FlatTable, Row, spot_of, in_stash, fill, fills, refill_order, stash_size}
use Rattle.ob_ring.specs.Settling.{Rows}
use Rattle.ob_ring.specs.Sound.{IsSound}
use Rattle.ob_ring.specs.Arrays.{Arrays, IsTableOf, leaf_in}
use Rattle.ob_ring.specs.Filling.{HasJustStashRows}
use Rattle.ob_ring.specs.Passing.{HasLeaves, goes_to, one_more, next_place, place_among, place_in_pass, none_taken, put_among, put_to, row_keys, passed_table}
use Rattle.ob_ring.proofs.Members.{IsDistinct, off_unless, one_of-filter, one_of-filter_from, distinct-filter, distinct-range}
use Rattle.ob_ring.proofs.Counts.{count_by-cons}
use Rattle.ob_ring.proofs.Refills.{FillsLaw, refill_law, in_levels}
use Rattle.ob_ring.proofs.Places.{fills_place}
use Rattle.ob_ring.proofs.RowPlaces.{rows_place}
use Rattle.ob_ring.proofs.StashWalks as walks
use Rattle.ob_ring.proofs.Turns.{rows_are, rows_pass}

-- the listed buckets are sealed: their marks are gone, and they are lifted no more
abbrev pub sealed : Arrays → Arrays
sealed a = record a { used_at = λ v j. not (a.lifted_at v) && a.used_at v j; lifted_at = λ v. false }

in_order : (p : Params) (t : FlatTable) → ((v : ℕ) → t.lifted v ≡ true → v < buckets p) → (v : ℕ) → is_one_of (refill_order p t) v ≡ t.lifted v
unfolding buckets
in_order p t within v = elim (cases_Bool (t.lifted v)) [
  | inl up ↦ one_of-filter_from t.lifted (by_falling_level (p.levels + 1)) v up (in_levels (p.levels + 1) v (within v up)) ∙ sym up
  | inr down ↦ off_unless (is_one_of (refill_order p t) v) (λ on. true≢false (sym (one_of-filter t.lifted (by_falling_level (p.levels + 1)) v on).0 ∙ down)) ∙ sym down
]

and_not : (b : Bool) → (not b && b) ≡ false
and_not true = refl
and_not false = refl

fills_counter : (p : Params) (t : FlatTable) (us : List ℕ) → (fills p t us).counter ≡ t.counter
fills_counter p t [] = refl
fills_counter p t (u ∷ us) = fills_counter p (fill p t u) us

-- After all rows, and once the listed buckets are sealed, the arrays stand for the refilled table.
pub passed_ends : (p : Params) (a : Arrays) (t : FlatTable) (rows : Rows) → IsSound p t → HasLeaves p t → HasJustStashRows t rows → ((k : ℕ) → finite.get rows k ≢ None → k < p.keys) → ((v : ℕ) → t.lifted v ≡ true → v < buckets p) →
    IsTableOf p a (passed_table p t (row_keys rows)) → IsTableOf p (sealed a) (fills p t (refill_order p t))
passed_ends p a t rows sound leaves just low within is =
    let law : FillsLaw p t (refill_order p t) = refill_law p t sound in
    let row : (k : ℕ) → (fills p t (refill_order p t)).rows k ≡ (passed_table p t (row_keys rows)).rows k =
    λ k. fills_place p t leaves k ∙ ap (λ (x : Option (ℕ × ℕ)). put_to x (t.rows k)) (sym (rows_place p t rows (λ j. (just j).0) low k)) in
    record {
      keys_low = is.keys_low;
      leaves_are = λ k. ap leaf_in (row k) ∙ is.leaves_are k;
      spots_are = λ k u j. ((λ e. (is.spots_are k u j).0 (ap spot_of (sym (row k)) ∙ e)), (λ e. ap spot_of (row k) ∙ (is.spots_are k u j).1 e));
      used_is = λ v j. law.used_is v j ∙ (λ i. not ((in_order p t within v ∙ is.lifted_is v) i) && is.used_is v j i);
      lifted_is = λ v. law.lifted_is v ∙ ap (λ (b : Bool). not b && t.lifted v) (in_order p t within v) ∙ and_not (t.lifted v);
      counter_is = fills_counter p t (refill_order p t) ∙ is.counter_is;
    }

-- ---- how many rows are left

stays_stash : (a : Option (ℕ × ℕ)) (o : Option Row) → in_stash o ≡ true → in_stash (put_to a o) ≡ not (is_some a)
stays_stash None o e = e
stays_stash (Some a) None e = absurd (false≢true e)
stays_stash (Some a) (Some r) e = refl

was_stash : (a : Option (ℕ × ℕ)) (o : Option Row) → in_stash (put_to a o) ≡ true → in_stash o ≡ true
was_stash None o e = e
was_stash (Some a) None e = e
was_stash (Some a) (Some r) e = absurd (false≢true e)

both_counts : (f g : ℕ → Bool) (ks : List ℕ) → ((k : ℕ) → is_one_of ks k ≡ true → f k ≡ not (g k)) → count_by f ks + count_by g ks ≡ length ks
both_counts f g [] h = refl
both_counts f g (k ∷ ks) h = omega (arith, count_by-cons f k ks, count_by-cons g k ks, one (g k) (h k (or_left (k == k) (is_one_of ks k) (eq-eqb k k refl))), both_counts f g ks (λ x on. h x (or_right (k == x) (is_one_of ks x) on)))
  where
    one : (b : Bool) → f k ≡ not b → ◌≡◌ {A = ℕ} (cond (f k) 1 0 + cond b 1 0) 1
    one true e = ap (λ (c : Bool). cond c 1 0 + 1) e
    one false e = ap (λ (c : Bool). cond c 1 0 + 0) e

-- what goes into buckets has a place
put_counted : (p : Params) (t : FlatTable) (taken : ℕ → ℕ) (ks : List ℕ) → IsDistinct ks → put_among p t taken ks ≡ count_by (λ k. is_some (place_among p t taken ks k)) ks
put_counted p t taken [] d = refl
put_counted p t taken (x ∷ ks) d =
    let o : Option ℕ = goes_to p t.lifted taken (t.rows x) in
    let mine : is_some (place_among p t taken (x ∷ ks) x) ≡ is_some o = ap (λ (b : Bool). is_some (cond b (next_place o taken) (place_among p t (one_more o taken) ks x))) (eq-eqb x x refl) ∙ placed_some o in
    let theirs : count_by (λ k. is_some (place_among p t (one_more o taken) ks k)) ks ≡ count_by (λ k. is_some (place_among p t taken (x ∷ ks) k)) ks =
    count_agree (λ k. is_some (place_among p t (one_more o taken) ks k)) (λ k. is_some (place_among p t taken (x ∷ ks) k)) ks
    (λ k on. sym (ap (λ (b : Bool). is_some (cond b (next_place o taken) (place_among p t (one_more o taken) ks k))) (off_unless (x == k) (λ same. true≢false (sym on ∙ ap (is_one_of ks) (sym (eqb-true x k same)) ∙ d.0))))) in
    omega (arith, put_counted p t (one_more o taken) ks d.1, count_by-cons (λ k. is_some (place_among p t taken (x ∷ ks) k)) x ks, theirs, ap {B = ℕ} (λ (b : Bool). cond b 1 0) mine)
  where
    placed_some : (o : Option ℕ) → is_some (next_place o taken) ≡ is_some o
    placed_some None = refl
    placed_some (Some u) = refl

    count_agree : (f g : ℕ → Bool) (ks : List ℕ) → ((k : ℕ) → is_one_of ks k ≡ true → f k ≡ g k) → count_by f ks ≡ count_by g ks
    count_agree f g [] h = refl
    count_agree f g (k ∷ ks) h = omega (arith, count_by-cons f k ks, count_by-cons g k ks, ap {B = ℕ} (λ (b : Bool). cond b 1 0) (h k (or_left (k == k) (is_one_of ks k) (eq-eqb k k refl))), count_agree f g ks (λ x on. h x (or_right (k == x) (is_one_of ks x) on)))

-- What is left are the rows that weren't put.
pub left_are : (p : Params) (t : FlatTable) (rows : Rows) (put : ℕ) → HasLeaves p t → HasJustStashRows t rows → ((k : ℕ) → finite.get rows k ≢ None → k < p.keys) → put ≡ put_among p t none_taken (row_keys rows) →
    finite.len rows - put ≡ stash_size p (fills p t (refill_order p t))
left_are p t rows put leaves just low is =
    let f : ℕ → Bool = λ k. in_stash ((fills p t (refill_order p t)).rows k) in
    let g : ℕ → Bool = λ k. is_some (place_among p t none_taken (row_keys rows) k) in
    let place : (k : ℕ) → place_among p t none_taken (row_keys rows) k ≡ place_in_pass p t k = rows_place p t rows (λ j. (just j).0) low in
    let spot : (k : ℕ) → (fills p t (refill_order p t)).rows k ≡ put_to (place_among p t none_taken (row_keys rows) k) (t.rows k) =
    λ k. fills_place p t leaves k ∙ ap (λ (x : Option (ℕ × ℕ)). put_to x (t.rows k)) (sym (place k)) in
    let distinct : IsDistinct (row_keys rows) = subst IsDistinct (sym (rows_are p t rows just low)) (distinct-filter (λ k. in_stash (t.rows k)) (below p.keys) (distinct-range 0 p.keys)) in
    let over : count_by f (row_keys rows) ≡ stash_size p (fills p t (refill_order p t)) = walks.counted f rows p.keys low
    (λ k on. (just k).0 (was_stash (place_among p t none_taken (row_keys rows) k) (t.rows k) (ap in_stash (sym (spot k)) ∙ on))) in
    let both : count_by f (row_keys rows) + count_by g (row_keys rows) ≡ length (row_keys rows) = both_counts f g (row_keys rows)
    (λ k on. ap in_stash (spot k) ∙ stays_stash (place_among p t none_taken (row_keys rows) k) (t.rows k) (rows_pass t rows just k on)) in
    omega (arith, over, both, walks.keys_many rows, is, put_counted p t none_taken (row_keys rows) distinct)
