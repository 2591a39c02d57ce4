-- The keys of a plan's jobs are keys of these parameters.
use Rattle.std.specs.Prelude.{◌≡◌, ℕ, ◌+◌, ◌<◌, ◌==◌, Bool, true, false, cond, List, [], ◌∷◌, ◌++◌, map, Option, slice_index_or}
use Rattle.std.specs.declared.option.Option.TheVariants.{None, Some}
use Rattle.std.specs.Option.{IfSome}
use Rattle.std.specs.List.{range_with_len, find}
use Rattle.std.proofs.Common.{zero, suc, arith, sym, subst}
use Rattle.ob_base.specs.declared.params.Params.{Params}
use Rattle.ob_base.specs.declared.job.Job.{Job}
use Rattle.ob_base.specs.Tree.{path}
use Rattle.ob_base.specs.Planned.{job_at}
use Rattle.ob_tables.specs.Version.{Version}
use Rattle.ob_ring.specs.FlatTable.{FlatTable, Spot, is_at, spot_of, index_in, index_shown, mark_index, lift, lift_order, reads, visit, fetch, asked_row, leaf_shown, after_place}
use Rattle.ob_ring.specs.Picked.{Picked, holder, key_shown, lift_picked, visit_picked, visits_picked, place_picked, batch_picked, final_picked, job_of}
use Rattle.ob_ring.specs.Fetching.{own_entry, places_of, leaf_places}

-- a key below n, or none
abbrev pub IsLow : ℕ → Option ℕ → Type 0
IsLow n key = IfSome key (λ k. k < n)

abbrev pub AreLow : ℕ → List Picked → Type 0
AreLow n [] = Unit {0}
AreLow n (q ∷ qs) = IsLow n q.key × AreLow n qs

both_low : (n : ℕ) (xs ys : List Picked) → AreLow n xs → AreLow n ys → AreLow n (xs ++ ys)
both_low n [] ys a b = b
both_low n (x ∷ xs) ys a b = (a.0, both_low n xs ys a.1 b)

either_low : (n : ℕ) (b : Bool) (xs ys : List Picked) → AreLow n xs → AreLow n ys → AreLow n (cond b xs ys)
either_low n true xs ys a b = a
either_low n false xs ys a b = b

found_low : (q : ℕ → Bool) (a n m : ℕ) → a + n ≡ m → IsLow m (find q (range_with_len a n))
found_low q a zero m e = tt
found_low q a (suc n) m e = first (q a) (found_low q (a + 1) n m (omega arith))
  where
    first : (b : Bool) → IsLow m (find q (range_with_len (a + 1) n)) → IsLow m (cond b (Some a) (find q (range_with_len (a + 1) n)))
    first true h = omega arith
    first false h = h

lift_low : (p : Params) (t : FlatTable) (u : ℕ) (js : List ℕ) → AreLow p.keys (map (λ j. record { bucket = u; index = j; key = holder p t u j }) js)
lift_low p t u [] = tt
lift_low p t u (j ∷ js) = (found_low (λ k. is_at u j (spot_of (t.rows k))) 0 p.keys p.keys (omega arith), lift_low p t u js)

shown_low : (n : ℕ) (ask own : Option ℕ) → IsLow n ask → IsLow n (key_shown ask own)
shown_low n ask None h = tt
shown_low n ask (Some j) h = h

visit_low : (p : Params) (t : FlatTable) (ask : Option ℕ) (own : Spot) (u : ℕ) → IsLow p.keys ask → AreLow p.keys (visit_picked p t ask own u)
visit_low p t ask own u h =
    let j : ℕ = index_shown p t own u in
    either_low p.keys (t.lifted u) [] (record { bucket = u; index = j; key = key_shown ask (index_in u own) } ∷ cond (reads p t u + 1 == p.dummies) (lift_picked p (mark_index t u j) u) []) tt
    (shown_low p.keys ask (index_in u own) h, either_low p.keys (reads p t u + 1 == p.dummies) (lift_picked p (mark_index t u j) u) [] (lift_low p (mark_index t u j) u (lift_order p (mark_index t u j) u)) tt)

visits_low : (p : Params) (t : FlatTable) (ask : Option ℕ) (own : Spot) (us : List ℕ) → IsLow p.keys ask → AreLow p.keys (visits_picked p t ask own us)
visits_low p t ask own [] h = tt
visits_low p t ask own (u ∷ us) h = both_low p.keys (visit_picked p t ask own u) (visits_picked p (visit p t own u) ask own us) (visit_low p t ask own u h) (visits_low p (visit p t own u) ask own us h)

abbrev AsksLow : ℕ → List (Option ℕ × ℕ) → Type 0
AsksLow n [] = Unit {0}
AsksLow n (a ∷ rest) = IsLow n a.0 × AsksLow n rest

batch_low : (p : Params) (t : FlatTable) (places : List (Option ℕ × ℕ)) → AsksLow p.keys places → AreLow p.keys (batch_picked p t places)
batch_low p t [] h = tt
batch_low p t (a ∷ rest) h = both_low p.keys (place_picked p t a.0 a.1) (batch_picked p (after_place p t a.0 a.1) rest)
    (visits_low p (fetch t a.0 a.1) a.0 (spot_of (asked_row t a.0)) (path p (leaf_shown t a.0 a.1)) h.0) (batch_low p (after_place p t a.0 a.1) rest h.1)

final_low : (p : Params) (t : FlatTable) (us : List ℕ) → AreLow p.keys (final_picked p t us)
final_low p t [] = tt
final_low p t (u ∷ us) = both_low p.keys (cond (t.lifted u) [] (lift_picked p t u)) (final_picked p (cond (t.lifted u) t (lift t u)) us)
    (either_low p.keys (t.lifted u) [] (lift_picked p t u) tt (lift_low p t u (lift_order p t u))) (final_low p (cond (t.lifted u) t (lift t u)) us)

asks_low : (p : Params) (asks : List (Option ℕ)) (words : List ℕ) (first : ℕ × ℕ) (a n : ℕ) → ((i : ℕ) → IsLow p.keys (slice_index_or asks i None)) → AsksLow p.keys (leaf_places (map (λ i. (slice_index_or asks i None, own_entry p words first i)) (range_with_len a n)))
asks_low p asks words first a zero h = tt
asks_low p asks words first a (suc n) h = (h a, asks_low p asks words first (a + 1) n h)

jobs_low : (p : Params) (versions : List Version) (n : ℕ) (qs : List Picked) → AreLow n qs → (i : ℕ) → IsLow n (job_at (map (job_of p versions) qs) i).key
jobs_low p versions n [] h i = tt
jobs_low p versions n (q ∷ qs) h zero = h.0
jobs_low p versions n (q ∷ qs) h (suc i) = jobs_low p versions n qs h.1 i

-- of a read batch whose places ask for keys of these parameters
pub batch_keys : (p : Params) (versions : List Version) (t : FlatTable) (asks : List (Option ℕ)) (words : List ℕ) (first : ℕ × ℕ) (n : ℕ) (jobs : List Job) → ((i : ℕ) → IsLow p.keys (slice_index_or asks i None)) → jobs ≡ map (job_of p versions)
    (batch_picked p t (leaf_places (places_of p asks words first n))) → (i : ℕ) → IsLow p.keys (job_at jobs i).key
batch_keys p versions t asks words first n jobs low e i =
    subst (λ (js : List Job). IsLow p.keys (job_at js i).key) (sym e) (jobs_low p versions p.keys (batch_picked p t (leaf_places (places_of p asks words first n))) (batch_low p t (leaf_places (places_of p asks words first n)) (asks_low p asks words first 0 n low)) i)

-- of the final lifts
pub lift_keys : (p : Params) (versions : List Version) (t : FlatTable) (us : List ℕ) (jobs : List Job) → jobs ≡ map (job_of p versions) (final_picked p t us) → (i : ℕ) → IsLow p.keys (job_at jobs i).key
lift_keys p versions t us jobs e i = subst (λ (js : List Job). IsLow p.keys (job_at js i).key) (sym e) (jobs_low p versions p.keys (final_picked p t us) (final_low p t us) i)
