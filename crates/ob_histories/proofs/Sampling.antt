-- The small store's histories, computed from the definitions.
use Rattle.std.specs.Prelude.{◌≡◌, ◌<◌, ℕ, ◌+◌, ◌%◌, ◌==◌, ◌||◌, Bool, true, false, cond, List, [], ◌∷◌, ◌++◌, take, drop, Some, None}
use Rattle.std.proofs.Common.{zero, suc, arith, refl, sym, ap, ◌∙◌, inl, inr}
use Rattle.ob_base.specs.declared.params.Params.{Params}
use Rattle.ob_base.specs.Tree.{below, buckets}
use Rattle.ob_base.specs.Layout.{record_cells, checkpoint_len, checkpoint_cells, log_cells, home_cells}
use Rattle.ob_store.specs.declared.watch.Note.{Note}
use Rattle.ob_store.specs.declared.watch.Note.TheVariants.{Label, Read}
use Rattle.ob_schedule.specs.Schedule.{reads_of}
use Rattle.ob_histories.specs.Fills.{AllFills, AreAllFills}
use Rattle.ob_histories.specs.Runs.{run_notes}
use Rattle.ob_histories.specs.Runs.{HistoryTurn}
use Rattle.ob_histories.specs.Histories.{MayFind, AreRunsBehind, IsEndLeft}
use Rattle.ob_histories.specs.Samples as s

abbrev pub small : Params
small = record {
  keys = 8;
  levels = 2;
  real = 2;
  dummies = 3;
  batches = 2;
  places = 2;
  writes = 2;
  evictions = 2;
  room = 8;
  in_range = record {
    some_keys = omega arith;
    few_keys = omega arith;
    some_levels = omega arith;
    few_levels = omega arith;
    some_real = omega arith;
    few_real = omega arith;
    some_dummies = omega arith;
    few_dummies = omega arith;
    some_batches = omega arith;
    few_batches = omega arith;
    some_places = omega arith;
    few_places = omega arith;
    some_writes = omega arith;
    few_writes = omega arith;
    some_evictions = omega arith;
    few_evictions = omega arith;
    some_room = omega arith;
    few_room = omega arith;
    keys_fit = omega arith;
  };
}

slots_in : (b : Bool) (n : ℕ) → cond b ((n + 2) % 5) (n % 5) < 5
slots_in true n = omega arith
slots_in false n = omega arith

slots_apart : (b : Bool) (m n : ℕ) → m < 5 → n < 5 → cond b ((m + 2) % 5) (m % 5) ≡ cond b ((n + 2) % 5) (n % 5) → m ≡ n
slots_apart true m n lm ln same = omega arith
slots_apart false m n lm ln same = omega arith

filled : AreAllFills small s.sample_fills
filled = record {
  leaves = λ e b i. omega arith;
  slots = λ u v n. slots_in ((u == 0) || ((u == 1) || (u == 3))) n;
  apart = λ u v m n lm ln same. slots_apart ((u == 0) || ((u == 1) || (u == 3))) m n lm ln same;
}

first : run_notes small s.sample_fills s.first_run ≡ s.first_notes
unfolding log_cells record_cells checkpoint_cells checkpoint_len buckets home_cells
first = refl

second : run_notes small s.sample_fills s.second_run ≡ s.second_notes
unfolding log_cells record_cells checkpoint_cells checkpoint_len buckets home_cells
second = refl

again : run_notes small s.sample_fills s.older_run ≡ s.older_notes
unfolding log_cells record_cells checkpoint_cells checkpoint_len buckets home_cells
again = refl

first_slot : (slot : ℕ → ℕ → ℕ → ℕ) → drop 36 (run_notes small (s.one_leaf slot) s.slot_run) ≡ Read (59 + slot 4 0 0) ∷ []
unfolding log_cells record_cells checkpoint_cells checkpoint_len buckets home_cells
first_slot slot = let e : 39 + (20 + slot 4 0 0) ≡ 59 + slot 4 0 0 = omega arith in ap (λ (c : ℕ). Read c ∷ []) e

next_slot : (slot : ℕ → ℕ → ℕ → ℕ) → drop 38 (run_notes small (s.one_leaf slot) s.next_slot_run) ≡ Read (59 + slot 4 0 1) ∷ []
unfolding log_cells record_cells checkpoint_cells checkpoint_len buckets home_cells
next_slot slot = let e : 39 + (20 + slot 4 0 1) ≡ 59 + slot 4 0 1 = omega arith in ap (λ (c : ℕ). Read c ∷ []) e

root_slot : (slot : ℕ → ℕ → ℕ → ℕ) → take 1 (drop 36 (run_notes small (s.one_leaf slot) s.next_slot_run)) ≡ Read (74 + slot 0 1 0) ∷ []
unfolding log_cells record_cells checkpoint_cells checkpoint_len buckets home_cells
root_slot slot = let e : 74 + (0 + slot 0 1 0) ≡ 74 + slot 0 1 0 = omega arith in ap (λ (c : ℕ). Read c ∷ []) e

found : AreRunsBehind small s.sample_fills None (s.first_run ∷ s.second_run ∷ [])
unfolding log_cells record_cells checkpoint_cells checkpoint_len buckets home_cells
found = (refl, ((refl, refl, (refl, refl, refl)), tt))

mirrored : run_notes small s.sample_fills s.mirrored_run ≡ Read 0 ∷ (Read 5 ∷ Read 6 ∷ Read 7 ∷ Read 8 ∷ reads_of (below 109)) ++ drop 1 s.first_notes
unfolding log_cells record_cells checkpoint_cells checkpoint_len buckets home_cells
mirrored = refl

copied : AreRunsBehind small s.sample_fills None (s.copying_run ∷ s.mirrored_run ∷ s.second_run ∷ [])
unfolding log_cells record_cells checkpoint_cells checkpoint_len buckets home_cells
copied = (refl, (refl, ((refl, refl, (refl, refl, refl)), tt)))

newer : AreRunsBehind small s.sample_fills None (s.doubtful_run ∷ s.older_seen ∷ s.newer_seen ∷ s.older_seen ∷ s.second_run ∷ [])
unfolding log_cells record_cells checkpoint_cells checkpoint_len buckets home_cells
newer = (refl, ((refl, refl, inr (refl, refl, refl)), ((refl, refl, inl (refl, refl, refl)), ((refl, refl, inr (refl, refl, refl)), ((refl, refl, inl (refl, refl, refl)), tt)))))

older : AreRunsBehind small s.sample_fills None (s.doubtful_run ∷ s.newer_seen ∷ s.older_seen ∷ s.newer_seen ∷ s.older_run ∷ [])
unfolding log_cells record_cells checkpoint_cells checkpoint_len buckets home_cells
older = (refl, ((refl, refl, inl (refl, refl, refl)), ((refl, refl, inr (refl, refl, refl)), ((refl, refl, inl (refl, refl, refl)), ((refl, refl, inr (refl, refl, refl)), tt)))))

no_older : MayFind small s.sample_fills (Some s.first_run) s.found_still → ⊥
unfolding log_cells record_cells checkpoint_cells checkpoint_len buckets home_cells
no_older may = omega (arith, may.2.0)

third_never : (t : HistoryTurn) (n : ℕ) → t.epoch ≡ 0 → IsEndLeft small t n s.third_found → ⊥
third_never t zero at has = omega (arith, at, has.0)
third_never t (suc zero) at (inl has) = omega (arith, at, has.0)
third_never t (suc zero) at (inr has) = omega (arith, has.2)
third_never t (suc (suc n)) at has = omega (arith, has.2)

no_third : (f : AllFills) → MayFind small f (Some s.doubtful_run) s.third_found → ⊥
no_third f may = third_never (record { epoch = 0; batch = 2; records = 0; gate = false }) _ refl may.2

label_of : List Note → ℕ
label_of (Label leaf ∷ notes) = leaf
label_of notes = 9

label_shown : (f : AllFills) → run_notes small f s.batch_run ≡ take 33 s.first_notes ++ Label (f.leaf 1 0 0) ∷ []
unfolding log_cells record_cells checkpoint_cells checkpoint_len buckets home_cells
label_shown f = refl

label_again : (f : AllFills) → run_notes small f s.again_run ≡ take 31 s.older_notes ++ Label (f.leaf 1 0 0) ∷ []
unfolding log_cells record_cells checkpoint_cells checkpoint_len buckets home_cells
label_again f = refl

no_other_leaf : (f : AllFills) → run_notes small f s.batch_run ≡ take 33 s.first_notes ++ Label 0 ∷ [] → run_notes small f s.again_run ≡ take 31 s.older_notes ++ Label 1 ∷ [] → ⊥
unfolding label_of
no_other_leaf f was is =
    let a : f.leaf 1 0 0 ≡ 0 = ap (λ (ns : List Note). label_of (drop 33 ns)) (sym (label_shown f) ∙ was) in
    let b : f.leaf 1 0 0 ≡ 1 = ap (λ (ns : List Note). label_of (drop 31 ns)) (sym (label_again f) ∙ is) in
    omega (arith, a, b)

older_home : (slot : ℕ → ℕ → ℕ → ℕ) → drop 32 (run_notes small (s.one_leaf slot) s.older_home_run) ≡ Read (39 + slot 0 0 0) ∷ []
unfolding log_cells record_cells checkpoint_cells checkpoint_len buckets home_cells
older_home slot = let e : 39 + (0 + slot 0 0 0) ≡ 39 + slot 0 0 0 = omega arith in ap (λ (c : ℕ). Read c ∷ []) e

first_cell : List Note → ℕ
first_cell (Read cell ∷ notes) = cell
first_cell notes = 0

no_newer_home : (slot : ℕ → ℕ → ℕ → ℕ) (x : ℕ) → AreAllFills small (s.one_leaf slot) → drop 32 (run_notes small (s.one_leaf slot) s.older_home_run) ≡ Read (74 + x) ∷ [] → ⊥
unfolding first_cell
no_newer_home slot x all is =
    let same : 39 + slot 0 0 0 ≡ 74 + x = ap first_cell (sym (older_home slot) ∙ is) in
    let low : slot 0 0 0 < 5 = all.slots 0 0 0 in
    omega (arith, same, low)

pub sampled : s.Sampled
sampled = record {
  p = small;
  numbers = refl;
  filled = filled;
  found = found;
  first = first;
  second = second;
  mirrored = mirrored;
  copied = copied;
  newer = newer;
  older = older;
  again = again;
  older_home = older_home;
  no_newer_home = no_newer_home;
  no_older = no_older;
  no_third = no_third;
  no_other_leaf = no_other_leaf;
  first_slot = first_slot;
  next_slot = next_slot;
  root_slot = root_slot;
  no_slot_twice = λ slot all same. (let twice : 0 ≡ 1 = all.apart 4 0 0 1 (omega arith) (omega arith) same in omega (arith, twice));
}
