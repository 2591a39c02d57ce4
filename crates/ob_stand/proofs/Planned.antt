-- What the code's refill writes and forgets.
use Rattle.std.specs.Prelude.{◌≡◌, ◌≢◌, ℕ, ◌+◌, ◌<◌, ◌≤◌, ◌==◌, Bool, true, false, cond, List, [], ◌∷◌, length, Option, slice_index_or}
use Rattle.std.specs.declared.option.Option.TheVariants.{None, Some}
use Rattle.std.specs.FinMap as finite
use Rattle.std.proofs.Common.{zero, suc, arith, refl, sym, ap, ◌∙◌, inl, inr}
use Rattle.std.proofs.lemmas.Bool.{true≢false, false≢true, cases_lt, or_cases, eqb-true, eq-eqb, ne_eqb, or_left, or_right}
use Rattle.ob_base.specs.declared.params.Params.{Params}
use Rattle.ob_base.specs.Tree.{buckets}
use Rattle.ob_tables.specs.Version.{Version, AreRanks, key_at, rank_at}
use Rattle.ob_tables.specs.Buckets.{Buckets, version_at, no_version}
use Rattle.ob_schedule.specs.Paths.{is_one_of, by_falling_level}
use Rattle.ob_ring.specs.Arrays.{AreWhole}
use Rattle.ob_ring.specs.FlatTable.{refill_order}
use Rattle.ob_ring.specs.Plain.{plain_for, key_of_index, index_with, without, without_buckets}
use Rattle.ob_ring.specs.Settling.{Rows}
use Rattle.ob_ring.proofs.Members.{one_of-filter}
use Rattle.ob_ring.proofs.TableOf.{found_first}
use Rattle.ob_stand.specs.Refilled.{RefillIsWritten}
use Rattle.ob_stand.proofs.Carrying.{get_remove}
use Rattle.ob_stand.proofs.Moving.{fills_move}

pub past_none : {X : Type 0} (xs : List X) (d : X) (j : ℕ) → length xs ≤ j → slice_index_or xs j d ≡ d
past_none [] d j h = refl
past_none (x ∷ xs) d zero h = absurd (omega arith)
past_none (x ∷ xs) d (suc j) h = past_none xs d j (omega arith)

-- ---- rows that leave the stash

none_stays : (b : Bool) (o : Option (List ℕ)) → o ≡ None → cond b None o ≡ None
none_stays true o e = refl
none_stays false o e = e

without_none : (rows : Rows) (ks : List (Option ℕ)) (k : ℕ) → finite.get rows k ≡ None → finite.get (without rows ks) k ≡ None
without_none rows [] k e = e
without_none rows (None ∷ ks) k e = without_none rows ks k e
without_none rows (Some a ∷ ks) k e = without_none (finite.remove rows a) ks k (get_remove rows a k ∙ none_stays (k == a) (finite.get rows k) e)

some_is : (a k : ℕ) → Some a ≡ Some k → a ≡ k
some_is a k e = cc

pub without_gone : (rows : Rows) (ks : List (Option ℕ)) (k j : ℕ) → slice_index_or ks j None ≡ Some k → finite.get (without rows ks) k ≡ None
without_gone rows [] k j e = absurd (cc)
without_gone rows (None ∷ ks) k zero e = absurd (cc)
without_gone rows (None ∷ ks) k (suc j) e = without_gone rows ks k j e
without_gone rows (Some a ∷ ks) k zero e = without_none (finite.remove rows a) ks k (get_remove rows a k ∙ ap (λ (b : Bool). cond b None (finite.get rows k)) (eq-eqb k a (sym (some_is a k e))))
without_gone rows (Some a ∷ ks) k (suc j) e = without_gone (finite.remove rows a) ks k j e

pub without_kept : (rows : Rows) (ks : List (Option ℕ)) (k : ℕ) → ((j : ℕ) → slice_index_or ks j None ≢ Some k) → finite.get (without rows ks) k ≡ finite.get rows k
without_kept rows [] k h = refl
without_kept rows (None ∷ ks) k h = without_kept rows ks k (λ j. h (suc j))
without_kept rows (Some a ∷ ks) k h = without_kept (finite.remove rows a) ks k (λ j. h (suc j)) ∙ get_remove rows a k ∙ ap (λ (b : Bool). cond b None (finite.get rows k)) (ne_eqb k a (λ e. h 0 (ap (λ (x : ℕ). Some x) (sym e))))

buckets_none : (rows : Rows) (vs : List Version) (us : List ℕ) (k : ℕ) → finite.get rows k ≡ None → finite.get (without_buckets rows vs us) k ≡ None
buckets_none rows vs [] k e = e
buckets_none rows vs (u ∷ us) k e = buckets_none (without rows (version_at vs u).keys) vs us k (without_none rows (version_at vs u).keys k e)

pub buckets_gone : (rows : Rows) (vs : List Version) (us : List ℕ) (k u j : ℕ) → is_one_of us u ≡ true → key_at (version_at vs u) j ≡ Some k → finite.get (without_buckets rows vs us) k ≡ None
buckets_gone rows vs [] k u j on e = absurd (false≢true on)
buckets_gone rows vs (v ∷ us) k u j on e = elim (or_cases (v == u) (is_one_of us u) on) [
  | inl here ↦ (let same : v ≡ u = eqb-true v u here in
      buckets_none (without rows (version_at vs v).keys) vs us k (without_gone rows (version_at vs v).keys k j (ap (λ (x : ℕ). key_at (version_at vs x) j) same ∙ e)))
  | inr more ↦ buckets_gone (without rows (version_at vs v).keys) vs us k u j more e
]

pub buckets_kept : (rows : Rows) (vs : List Version) (us : List ℕ) (k : ℕ) → ((u j : ℕ) → is_one_of us u ≡ true → key_at (version_at vs u) j ≢ Some k) → finite.get (without_buckets rows vs us) k ≡ finite.get rows k
buckets_kept rows vs [] k h = refl
buckets_kept rows vs (v ∷ us) k h =
    buckets_kept (without rows (version_at vs v).keys) vs us k (λ u j on. h u j (or_right (v == u) (is_one_of us u) on))
    ∙ without_kept rows (version_at vs v).keys k (λ j. h v j (or_left (v == v) (is_one_of us v) (eq-eqb v v refl)))

-- ---- the index of a slot

pub index_of_rank : (v : Version) (j : ℕ) → AreRanks v.ranks → j < length v.ranks → index_with v (rank_at v j) ≡ Some j
index_of_rank v j r low =
    found_first (λ i. rank_at v i == rank_at v j) 0 (length v.ranks) j (omega arith) (omega arith) (eq-eqb (rank_at v j) (rank_at v j) refl)
    (λ i x y e. r.apart i j (omega arith) low (eqb-true (rank_at v i) (rank_at v j) e))

none_key : (k : ℕ) (o : Option ℕ) → o ≡ None → o ≡ Some k → ⊥
none_key k o e f = absurd (cc)

-- a key's bucket is one of the tree, and its index has a slot
slot_within : (p : Params) (s : Buckets) (u j k : ℕ) → AreWhole p s → key_at (version_at s.versions u) j ≡ Some k → (u < buckets p) × (j < length (version_at s.versions u).ranks)
slot_within p s u j k w e = elim (cases_lt u (buckets p)) [
  | inl low ↦ elim (cases_lt j p.real) [
    | inl real ↦ (low, (let many : length (version_at s.versions u).ranks ≡ p.real + p.dummies = (w.slots u low).ranks in omega arith))
    | inr high ↦ absurd (let many : length (version_at s.versions u).keys ≡ p.real = (w.slots u low).keys in
        none_key k (key_at (version_at s.versions u) j) (past_none (version_at s.versions u).keys None j (omega arith)) e)
  ]
  | inr high ↦ absurd (let out : version_at s.versions u ≡ no_version = past_none s.versions no_version u (omega (arith, w.many)) in
      none_key k (key_at (version_at s.versions u) j) (ap (λ (v : Version). key_at v j) out) e)
]

-- ---- a refill

pub refill_is_written : RefillIsWritten
refill_is_written p new rest t rows slots slots' o whole versions is listed w =
    let order_on : (u : ℕ) → is_one_of new.order u ≡ is_one_of (refill_order p t) u = λ u. ap (λ (us : List ℕ). is_one_of us u) listed in
    record {
      written = λ k u j up e. (let at : key_at (version_at new.versions u) j ≡ Some k = (is.spots_are k u j).0 e in
          let low : (u < buckets p) × (j < length (version_at new.versions u).ranks) = slot_within p new u j k whole at in
          w.anew u j up low.1
          ∙ ap (λ (x : Option ℕ). plain_for rows (key_of_index (version_at new.versions u) x)) (index_of_rank (version_at new.versions u) j (versions u low.0).ranks low.1)
          ∙ ap (plain_for rows) at);
      same = λ k u j down e. w.same u j down (slot_within p new u j k whole ((is.spots_are k u j).0 e)).1;
      gone = λ k u j up e. elim (fills_move p t (refill_order p t) k u j e) [
        | inl now ↦ buckets_gone rows new.versions new.order k u j (order_on u ∙ now.0) ((is.spots_are k u j).0 e)
        | inr was ↦ absurd (true≢false (sym up ∙ ((o.sound).placed k u j was).standing))
      ];
      kept = λ k h. buckets_kept rows new.versions new.order k (λ u j on at. h u j (one_of-filter t.lifted (by_falling_level (p.levels + 1)) u (sym (order_on u) ∙ on)).0 ((is.spots_are k u j).1 at));
    }
