-- The table's laws.
use Rattle.std.specs.Prelude.{◌≡◌, ℕ, ◌+◌, ◌<◌, ◌≤◌, ◌==◌, nat_le, Bool, true, false, cond, not, ◌&&◌, List, [], ◌∷◌, ◌++◌, length, filter, take, Option}
use Rattle.std.specs.List.{range_with_len, count_by}
use Rattle.std.proofs.Common.{zero, suc, add-one, arith, refl, sym, ap, ◌∙◌, inl, inr}
use Rattle.std.proofs.lemmas.Bool.{false≢true, or_parts, or_cases, cases_lt, or_left, or_right, le-leb, lt-leb, leb-false}
use Rattle.ob_base.specs.declared.params.Params.{Params}
use Rattle.ob_base.specs.Tree.{below, passes}
use Rattle.ob_schedule.specs.Paths.{is_one_of, eviction_path}
use Rattle.ob_ring.specs.FlatTable.{FlatTable, Batch, FinalLifts, Writes, Refill, after, after_final, after_batch, leaves_shown, after_writes, lift, reads, live, indexes, is_at, spot_of, refill_order}
use Rattle.ob_ring.specs.Sound.{IsSound, IsCounted}
use Rattle.ob_ring.specs.News.{Marks}
use Rattle.ob_ring.specs.Laws.{IsOrderly, StepsKeepOrder, ShownOnce, seen_in, LiftsTakeAll}
use Rattle.std.proofs.lemmas.List.Sums.{length-filter}
use Rattle.ob_tables.proofs.Counting.{count_by-range_more}
use Rattle.ob_ring.proofs.Ranges.{count_by-range_agree, list_any_at}
use Rattle.ob_ring.proofs.Members.{off_unless, one_of-filter_from}
use Rattle.ob_ring.proofs.LiftOrder.{is_at-is, length-lift_order, unread_lift_order}
use Rattle.ob_ring.proofs.Batches.{BatchLaw, batch_law, FinalLaw, final_law}
use Rattle.ob_ring.proofs.NewLaws.{batch_new, final_new}
use Rattle.ob_ring.proofs.Refills.{FillsLaw, refill_law, sound_writes, writes_keep, in_range}

used_turn : (t : FlatTable) (u : ℕ) (b : Bool) → (cond b t (lift t u)).used ≡ t.used
used_turn t u true = refl
used_turn t u false = refl

pub used_final : (p : Params) (t : FlatTable) (us : List ℕ) → (after_final p t us).used ≡ t.used
used_final p t [] = refl
used_final p t (u ∷ us) = used_final p (cond (t.lifted u) t (lift t u)) us ∙ used_turn t u (t.lifted u)

pub none_counted : (n : ℕ) → count_by (λ j. false) (range_with_len 0 n) ≡ 0
none_counted n = none_from 0 n
  where
    none_from : (a m : ℕ) → count_by (λ j. false) (range_with_len a m) ≡ 0
    none_from a zero = refl
    none_from a (suc m) = none_from (a + 1) m

-- ---- the reads of an orderly table, as counts

abbrev pub counts_in : Params → FlatTable → ℕ → ℕ
counts_in p t u = cond (t.lifted u) p.dummies (reads p t u)

count_tells : (b : Bool) (s n : ℕ) → (b ≡ false → n < s) → b ≡ nat_le s (cond b s n)
count_tells true s n h = sym (le-leb s s (omega arith))
count_tells false s n h = sym (lt-leb s n (h refl))

count_low : (b : Bool) (s n : ℕ) → cond b s n < s → n ≡ cond b s n
count_low true s n h = absurd (omega arith)
count_low false s n h = refl

pub counted_in : (p : Params) (t : FlatTable) → IsOrderly p t → IsCounted p t (counts_in p t)
counted_in p t o = record {
  lifted_is = λ u. count_tells (t.lifted u) p.dummies (reads p t u) (o.few u);
  reads_is = λ u low. count_low (t.lifted u) p.dummies (reads p t u) low;
}

pub few_counted : (p : Params) (t : FlatTable) (count : ℕ → ℕ) → IsCounted p t count → (u : ℕ) → t.lifted u ≡ false → reads p t u < p.dummies
few_counted p t count c u down =
    let low : count u < p.dummies = leb-false p.dummies (count u) (sym (c.lifted_is u) ∙ down) in
    omega (arith, c.reads_is u low)

-- ---- each step keeps the order

keeps_batch : (p : Params) (t : FlatTable) (places : List (Option ℕ × ℕ)) → IsOrderly p t → IsOrderly p (after_batch p t places)
keeps_batch p t places o =
    let b : BatchLaw p t places (counts_in p t) = batch_law p t places (counts_in p t) o.sound (counted_in p t o) in
    record { sound = b.sound; few = few_counted p (after_batch p t places) (λ u. counts_in p t u + count_by (passes p u) (leaves_shown p t places)) b.counted }

final_in : (p : Params) (t : FlatTable) (us : List ℕ) → IsOrderly p t → FinalLaw p t (counts_in p t) (λ u. false) us
final_in p t us o = let c : IsCounted p t (counts_in p t) = counted_in p t o in final_law p t (counts_in p t) (λ u. false) us o.sound (record { lifted_is = c.lifted_is; reads_is = c.reads_is })

pub keeps_final : (p : Params) (t : FlatTable) (us : List ℕ) → IsOrderly p t → IsOrderly p (after_final p t us)
keeps_final p t us o =
    let f : FinalLaw p t (counts_in p t) (λ u. false) us = final_in p t us o in
    let c : IsCounted p t (counts_in p t) = counted_in p t o in
    record {
      sound = f.sound;
      few = λ u down. (
          let low : counts_in p t u < p.dummies = leb-false p.dummies (counts_in p t u) (or_parts (is_one_of us u) (nat_le p.dummies (counts_in p t u)) (sym (f.lifted_is u) ∙ down)).1 in
          let same : reads p (after_final p t us) u ≡ reads p t u = ap (λ (g : ℕ → ℕ → Bool). count_by (g u) (indexes p)) (used_final p t us) in
          omega (arith, c.reads_is u low));
    }

keeps_writes : (p : Params) (t : FlatTable) (ws : List (ℕ × Option ℕ)) → IsOrderly p t → IsOrderly p (after_writes t ws)
keeps_writes p t ws o = record {
  sound = sound_writes p t ws o.sound;
  few = λ u down. (let kept = writes_keep t ws in
      let standing : t.lifted u ≡ false = sym (ap (λ (f : ℕ → Bool). f u) kept.1) ∙ down in
      let same : reads p (after_writes t ws) u ≡ reads p t u = ap (λ (g : ℕ → ℕ → Bool). count_by (g u) (indexes p)) kept.0 in
      omega (arith, o.few u standing));
}

few_filled : (b up : Bool) (n m s : ℕ) → 0 < s → (not b && up) ≡ false → (b ≡ true → n ≡ 0) → (b ≡ false → n ≡ m) → (up ≡ false → m < s) → n < s
few_filled true up n m s some e f g h = omega (arith, f refl)
few_filled false up n m s some e f g h = omega (arith, g refl, h e)

keeps_refill : (p : Params) (t : FlatTable) → IsOrderly p t → IsOrderly p (after p t Refill)
keeps_refill p t o =
    let f : FillsLaw p t (refill_order p t) = refill_law p t o.sound in
    let t' : FlatTable = after p t Refill in
    record {
      sound = f.sound;
      few = λ u down. few_filled (is_one_of (refill_order p t) u) (t.lifted u) (reads p t' u) (reads p t u) p.dummies p.in_range.some_dummies (sym (f.lifted_is u) ∙ down)
          (λ on. count_by-range_agree (t'.used u) (λ j. false) (p.real + p.dummies) (λ j h. f.used_is u j ∙ ap (λ (b : Bool). not b && t.used u j) on) ∙ none_counted (p.real + p.dummies))
          (λ off. count_by-range_agree (t'.used u) (t.used u) (p.real + p.dummies) (λ j h. f.used_is u j ∙ ap (λ (b : Bool). not b && t.used u j) off))
          (o.few u);
    }

pub steps_keep_order : StepsKeepOrder
steps_keep_order p t (Batch places) o = keeps_batch p t places o
steps_keep_order p t FinalLifts o = let k : IsOrderly p (after_final p t (eviction_path p t.counter)) = keeps_final p t (eviction_path p t.counter) o in
    record { sound = record { placed = λ k' u j e. (let at = k.sound.placed k' u j e in record { real = at.real; on_path = at.on_path; unread = at.unread; standing = at.standing }); alone = k.sound.alone }; few = k.few }
steps_keep_order p t (Writes ws) o = keeps_writes p t ws o
steps_keep_order p t Refill o = keeps_refill p t o

-- ---- what is shown is new

marks_in : (p : Params) (t : FlatTable) → Marks p t (seen_in p t)
marks_in p t = record { shown_is = λ u j down. refl; next_is = λ u down. refl }

pub shown_once : ShownOnce
shown_once p t (Batch places) o = (batch_new p t places (counts_in p t) (seen_in p t) o.sound (counted_in p t o) (marks_in p t)).new
shown_once p t FinalLifts o = (final_new p t (eviction_path p t.counter) (seen_in p t) o.sound (marks_in p t)).new
shown_once p t (Writes ws) o = tt
shown_once p t Refill o = tt

-- ---- a lift takes all that lies in its bucket

one_of-front : (n : ℕ) (xs ys : List ℕ) (j : ℕ) → length xs ≤ n → is_one_of xs j ≡ true → is_one_of (take n (xs ++ ys)) j ≡ true
one_of-front n [] ys j h e = absurd (false≢true e)
one_of-front zero (x ∷ xs) ys j h e = absurd (omega arith)
one_of-front (suc n) (x ∷ xs) ys j h e = elim (or_cases (x == j) (is_one_of xs j) e) [
  | inl at ↦ or_left (x == j) (is_one_of (take n (xs ++ ys)) j) at
  | inr on ↦ or_right (x == j) (is_one_of (take n (xs ++ ys)) j) (one_of-front n xs ys j (omega arith) on)
]

one_le : (b : Bool) → cond b 1 0 ≤ 1
one_le true = omega arith
one_le false = omega arith

count_le : (a : ℕ → Bool) (n : ℕ) → count_by a (range_with_len 0 n) ≤ n
count_le a zero = omega arith
count_le a (suc n) =
    let e : count_by a (range_with_len 0 (n + 1)) ≤ n + 1 = rw (count_by-range_more a n) (omega (arith, count_le a n, one_le (a n))) in
    rw add-one at e

count_below : (a : ℕ → Bool) (m n : ℕ) → ((j : ℕ) → a j ≡ true → j < m) → count_by a (range_with_len 0 n) ≤ m
count_below a m zero h = omega arith
count_below a m (suc n) h = elim (cases_lt n m) [
  | inl low ↦ omega (arith, count_le a (suc n))
  | inr high ↦ (let off : a n ≡ false = off_unless (a n) (λ e. (let k : n < m = h n e in omega arith)) in
      let e : count_by a (range_with_len 0 (n + 1)) ≤ m = rw (count_by-range_more a n, off) (omega (arith, count_below a m n h)) in
      rw add-one at e)
]

pub live_real : (p : Params) (t : FlatTable) (u j : ℕ) → IsSound p t → live p t u j ≡ true → j < p.real
live_real p t u j s e =
    let at : (k : ℕ) × (is_at u j (spot_of (t.rows k)) ≡ true) = list_any_at (λ k. is_at u j (spot_of (t.rows k))) (below p.keys) e in
    (s.placed at.0 u j (is_at-is u j (spot_of (t.rows at.0)) at.1)).real

pub lifts_take_all : LiftsTakeAll
lifts_take_all p t u s few = record {
  many = length-lift_order p t u s few;
  unread = λ j on. unread_lift_order p t u j s on;
  live_ones = λ j on. (
      let real : j < p.real = live_real p t u j s on in
      let some : count_by (live p t u) (indexes p) ≤ p.real = count_below (live p t u) p.real (p.real + p.dummies) (λ i e. live_real p t u i s e) in
      one_of-front p.real (filter (live p t u) (indexes p)) (filter (λ i. not (live p t u i) && not (t.used u i)) (indexes p)) j
      (omega (arith, length-filter (live p t u) (indexes p)))
      (one_of-filter_from (live p t u) (indexes p) j on (in_range 0 (p.real + p.dummies) j (omega arith) (omega arith))));
}
