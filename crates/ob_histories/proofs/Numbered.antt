-- The labels and the cells of a history are small, so that its lines are written.
use Rattle.std.specs.Prelude.{◌≡◌, ◌<◌, ◌≤◌, ◌⊎◌, ℕ, ◌+◌, ◌-◌, ◌*◌, ◌%◌, ◌^◌, ◌==◌, nat_lt, Bool, true, false, not, cond, List, [], ◌∷◌, ◌++◌, map, filter, take, get_or, slice_index, length}
use Rattle.std.specs.List.{flat_map, range_with_len}
use Rattle.std.proofs.Common.{zero, suc, refl, sym, ap, ◌∙◌, subst, inl, inr, arith}
use Rattle.std.proofs.Math.Nat.{pow-suc}
use Rattle.std.proofs.lemmas.Bool.{ltb-true}
use Rattle.std.proofs.lemmas.Nat.{pow_pos}
use Rattle.ob_base.specs.declared.params.Params.{Params}
use Rattle.ob_base.specs.Layout.{Address, AtCheck, AtLog, AtSlot, CheckArea, EpochTwin, GenerationTwin, IsAddress, IsRegion, LogArea, Region, cell_of, check_cell, checkpoint_cells, log_cell, record_cells, ring_cells, size_of, slot_cell, start_of}
use Rattle.ob_base.specs.Tree.{below, bucket_of, buckets, path, reversed, width}
use Rattle.ob_base.proofs.Bounds.{buckets_le, cells_le, leaves_le, power_le}
use Rattle.ob_base.proofs.LayoutLaws.{cell_within, regions_within}
use Rattle.ob_store.specs.declared.watch.Note.{Note}
use Rattle.ob_store.specs.declared.watch.Note.TheVariants.{Label, Read, Write, Sync}
use Rattle.ob_schedule.specs.Holes.{Hole, final_holes, firsts, lift_holes, passes_before, place_holes, visit_holes}
use Rattle.ob_schedule.specs.Paths.{by_falling_level, eviction_path}
use Rattle.ob_schedule.specs.Schedule.{Fills, Public, batch_leaves, batch_notes, before_repeats, bucket_writes, check_cells, counts_now, end_lifts, end_notes, first_reads, format_notes, gate_cell, hole_reads, is_lifted_by_end, log_gates, phase_notes, reads_of, record_notes, region_cells, set_twin, twin_gates, writes_of, written_by_end}
use Rattle.ob_schedule.specs.declared.line.Line.{Line}
use Rattle.ob_schedule.specs.declared.line.Line.TheVariants as L
use Rattle.ob_audit.specs.Spelling.{IsNoteInRange}
use Rattle.ob_histories.specs.Fills.{AllFills, AreAllFills, fills_at, public_at, public_in_epoch}
use Rattle.ob_histories.specs.Histories.{AreHistories, IsCutHistory, IsHistory, head_lines, lines_of_notes, run_lines}
use Rattle.ob_histories.specs.Laws.{AreAdmitted}
use Rattle.ob_histories.specs.Runs.{HeadRun, HistoryRun, HistoryTurn, RunFound, first_turn, next_turn, notes_from, notes_of_batch, notes_of_end, notes_of_turn, notes_shown, opening_step, run_notes}
use Rattle.ob_histories.specs.Texts.{HaveTexts}
use Rattle.ob_histories.proofs.SlotsLines.{admitted_are}
use Rattle.ob_histories.proofs.Trees.{AreLeaves, bucket_within, reversed_low}

-- ---- lists of numbers and of notes

abbrev AreSmall : List ℕ → Type 0
AreSmall [] = Unit {0}
AreSmall (x ∷ xs) = (x < 2 ^ 64) × AreSmall xs

small_joined : (xs ys : List ℕ) → AreSmall xs → AreSmall ys → AreSmall (xs ++ ys)
small_joined [] ys a b = b
small_joined (x ∷ xs) ys a b = (a.0, small_joined xs ys a.1 b)

small_range : (cell : ℕ → ℕ) (a n : ℕ) → ((i : ℕ) → i < a + n → cell i < 2 ^ 64) → AreSmall (map cell (range_with_len a n))
small_range cell a zero is = tt
small_range cell a (suc n) is = (is a (omega arith), small_range cell (a + 1) n (λ i low. is i (omega (arith, low))))

small_below : (a n : ℕ) → a + n < 2 ^ 64 → AreSmall (range_with_len a n)
small_below a zero few = tt
small_below a (suc n) few = (omega (arith, few), small_below (a + 1) n (omega (arith, few)))

abbrev pub AreWritten : List Note → Type 0
AreWritten [] = Unit {0}
AreWritten (note ∷ notes) = IsNoteInRange note × AreWritten notes

joined : (xs ys : List Note) → AreWritten xs → AreWritten ys → AreWritten (xs ++ ys)
joined [] ys a b = b
joined (x ∷ xs) ys a b = (a.0, joined xs ys a.1 b)

-- so that the lists are found by what is known of them
record Written (notes : List Note) : Type 0 where
  are : AreWritten notes

then : {xs ys : List Note} → Written xs → Written ys → Written (xs ++ ys)
then {xs} {ys} a b = record { are = joined xs ys a.are b.are }

front : (n : ℕ) (xs : List Note) → AreWritten xs → AreWritten (take n xs)
front zero [] a = tt
front zero (x ∷ xs) a = tt
front (suc n) [] a = tt
front (suc n) (x ∷ xs) a = (a.0, front n xs a.1)

either : (b : Bool) (xs ys : List Note) → AreWritten xs → AreWritten ys → AreWritten (cond b xs ys)
either true xs ys a b = a
either false xs ys a b = b

reads : (cells : List ℕ) → AreSmall cells → AreWritten (reads_of cells)
reads [] a = tt
reads (c ∷ cells) a = (a.0, reads cells a.1)

writes : (cells : List ℕ) → AreSmall cells → AreWritten (writes_of cells)
writes [] a = tt
writes (c ∷ cells) a = (a.0, writes cells a.1)

-- ---- the cells

cell_small : (p : Params) (a : Address) → IsAddress p a → cell_of p a < 2 ^ 64
cell_small p a is = let within : cell_of p a < ring_cells p = cell_within p a is in let few : ring_cells p < 2 ^ 24 = cells_le p in omega (arith, within, few)

region_small : (p : Params) (r : Region) → IsRegion r → AreSmall (region_cells p r)
region_small p r is =
    small_range (λ i. start_of p r + i) 0 (size_of p r)
    (λ i low. (let within : start_of p r + i < ring_cells p = regions_within p r (start_of p r + i) is (record { from = omega arith; to = omega (arith, low) }) in let few : ring_cells p < 2 ^ 24 = cells_le p in omega (arith, within, few)))

log_gates_small : (p : Params) (area : ℕ) → area < 2 → AreSmall (log_gates p area)
log_gates_small p area is = small_range (λ b. log_cell p area b (record_cells p)) 0 p.batches (λ b low. cell_small p (AtLog area b (record_cells p)) (is, omega (arith, low), omega arith))

check_cells_small : (p : Params) (area : ℕ) → area < 2 → AreSmall (check_cells p area)
check_cells_small p area is = small_range (check_cell p area) 0 (checkpoint_cells p) (λ i low. cell_small p (AtCheck area i) (is, omega (arith, low)))

set_written : (p : Params) (twin : Region) (number : ℕ) (was_open : Bool) → start_of p twin ≤ 5 → AreWritten (set_twin p twin number was_open)
set_written p twin number true low = (omega (arith, low), (tt, (omega (arith, low), (tt, (omega (arith, low), (tt, tt))))))
set_written p twin number false low = (omega (arith, low), (tt, (omega (arith, low), (tt, tt))))

abbrev AreBuckets : Params → List ℕ → Type 0
AreBuckets p [] = Unit {0}
AreBuckets p (u ∷ us) = (u < buckets p) × AreBuckets p us

buckets_joined : (p : Params) (xs ys : List ℕ) → AreBuckets p xs → AreBuckets p ys → AreBuckets p (xs ++ ys)
buckets_joined p [] ys a b = b
buckets_joined p (x ∷ xs) ys a b = (a.0, buckets_joined p xs ys a.1 b)

buckets_range : (p : Params) (a n : ℕ) → a + n ≤ buckets p → AreBuckets p (range_with_len a n)
buckets_range p a zero few = tt
buckets_range p a (suc n) few = (omega (arith, few), buckets_range p (a + 1) n (omega (arith, few)))

buckets_kept : (p : Params) (u : ℕ) (us : List ℕ) (b : Bool) → u < buckets p → AreBuckets p us → AreBuckets p (cond b (u ∷ us) us)
buckets_kept p u us true one are = (one, are)
buckets_kept p u us false one are = are

buckets_filtered : (p : Params) (t : ℕ → Bool) (us : List ℕ) → AreBuckets p us → AreBuckets p (filter t us)
buckets_filtered p t [] are = tt
buckets_filtered p t (u ∷ us) are = buckets_kept p u (filter t us) (t u) are.0 (buckets_filtered p t us are.1)

bucket_writes_written : (p : Params) (home : ℕ → ℕ) (us : List ℕ) → ((u : ℕ) → home u < 2) → AreBuckets p us → AreWritten (bucket_writes p home us)
bucket_writes_written p home [] is are = tt
bucket_writes_written p home (u ∷ us) is are =
    joined (writes_of (map (slot_cell p (home u) u) (below (p.real + p.dummies)))) (bucket_writes p home us)
    (writes (map (slot_cell p (home u) u) (below (p.real + p.dummies))) (small_range (slot_cell p (home u) u) 0 (p.real + p.dummies) (λ s low. cell_small p (AtSlot (home u) u s) (is u, are.0, omega (arith, low)))))
    (bucket_writes_written p home us is are.1)

level_fits : (p : Params) (n : ℕ) → suc n ≤ p.levels + 1 → (2 ^ n - 1) + 2 ^ n ≤ buckets p
unfolding buckets
level_fits p n few =
    let more : 2 ^ suc n ≤ 2 ^ (p.levels + 1) = power_le (suc n) (p.levels + 1) few in
    let twice : 2 ^ suc n ≡ 2 ^ n * 2 = pow-suc 2 n in
    let some : 0 < 2 ^ n = pow_pos n in
    omega (arith, more, twice, some)

levels_fit : (p : Params) (n : ℕ) → n ≤ p.levels + 1 → AreBuckets p (by_falling_level n)
levels_fit p zero few = tt
levels_fit p (suc n) few =
    buckets_joined p (range_with_len (2 ^ n - 1) (2 ^ n)) (by_falling_level n) (buckets_range p (2 ^ n - 1) (2 ^ n) (level_fits p n few)) (levels_fit p n (omega (arith, few)))

path_fits : (p : Params) (leaf : ℕ) → leaf < 2 ^ p.levels → AreBuckets p (path p leaf)
path_fits p leaf low = go 0 (p.levels + 1) (omega arith)
  where
    go : (a n : ℕ) → a + n ≤ p.levels + 1 → AreBuckets p (map (λ level. bucket_of p level leaf) (range_with_len a n))
    go a zero few = tt
    go a (suc n) few = (bucket_within p a leaf (omega (arith, few)) low, go (a + 1) n (omega (arith, few)))

evicted_fit : (p : Params) (counter : ℕ) → AreBuckets p (eviction_path p counter)
evicted_fit p counter = go 0 p.evictions
  where
    go : (a n : ℕ) → AreBuckets p (flat_map (λ i. path p (reversed p.levels (counter + i))) (range_with_len a n))
    go a zero = tt
    go a (suc n) = buckets_joined p (path p (reversed p.levels (counter + a))) _ (path_fits p (reversed p.levels (counter + a)) (reversed_low p.levels (counter + a))) (go (a + 1) n)

firsts_fit : (p : Params) (us : List ℕ) → AreBuckets p us → AreBuckets p (firsts us)
firsts_fit p [] are = tt
firsts_fit p (u ∷ us) are = (are.0, buckets_filtered p (λ v. not (v == u)) (firsts us) (firsts_fit p us are.1))

-- ---- holes

abbrev LieIn : Params → List Hole → Type 0
LieIn p [] = Unit {0}
LieIn p (h ∷ hs) = (h.bucket < buckets p) × LieIn p hs

lie_joined : (p : Params) (xs ys : List Hole) → LieIn p xs → LieIn p ys → LieIn p (xs ++ ys)
lie_joined p [] ys a b = b
lie_joined p (x ∷ xs) ys a b = (a.0, lie_joined p xs ys a.1 b)

lift_lies : (p : Params) (u n : ℕ) → u < buckets p → LieIn p (lift_holes p u n)
lift_lies p u n is = go n p.real
  where
    go : (a n : ℕ) → LieIn p (map (λ i. record { bucket = u; number = i }) (range_with_len a n))
    go a zero = tt
    go a (suc n) = (is, go (a + 1) n)

lie_or_none : (p : Params) (b : Bool) (hs : List Hole) → LieIn p hs → LieIn p (cond b hs [])
lie_or_none p true hs are = are
lie_or_none p false hs are = tt

visit_lies : (p : Params) (u n : ℕ) → u < buckets p → LieIn p (visit_holes p u n)
visit_lies p u n is =
    lie_or_none p (nat_lt n p.dummies) (record { bucket = u; number = n } ∷ cond (n + 1 == p.dummies) (lift_holes p u (n + 1)) [])
    (is, lie_or_none p (n + 1 == p.dummies) (lift_holes p u (n + 1)) (lift_lies p u (n + 1) is))

visits_lie : (p : Params) (count : ℕ → ℕ) (us : List ℕ) → AreBuckets p us → LieIn p (flat_map (λ u. visit_holes p u (count u)) us)
visits_lie p count [] are = tt
visits_lie p count (u ∷ us) are = lie_joined p (visit_holes p u (count u)) _ (visit_lies p u (count u) are.0) (visits_lie p count us are.1)

finals_lie : (p : Params) (count : ℕ → ℕ) (us : List ℕ) → AreBuckets p us → LieIn p (flat_map (λ u. cond (nat_lt (count u) p.dummies) (lift_holes p u (count u)) []) us)
finals_lie p count [] are = tt
finals_lie p count (u ∷ us) are =
    lie_joined p (cond (nat_lt (count u) p.dummies) (lift_holes p u (count u)) []) _ (lie_or_none p (nat_lt (count u) p.dummies) (lift_holes p u (count u)) (lift_lies p u (count u) are.0)) (finals_lie p count us are.1)

-- the homes are two, and the fills are in range
record Fits (p : Params) (q : Public) (f : Fills) : Type 0 where
  homes : (u : ℕ) → q.homes u < 2
  slots : (h : Hole) → f.slot h < width p
  labels : (b i : ℕ) → f.label b i < 2 ^ p.levels

holes_written : (p : Params) (q : Public) (f : Fills) (hs : List Hole) → Fits p q f → LieIn p hs → AreWritten (hole_reads p q f hs)
holes_written p q f [] fits are = tt
holes_written p q f (h ∷ hs) fits are = (cell_small p (AtSlot (q.homes h.bucket) h.bucket (f.slot h)) (fits.homes h.bucket, are.0, fits.slots h), holes_written p q f hs fits are.1)

leaf_low : (p : Params) (leaves : List ℕ) (i : ℕ) → AreLeaves p leaves → slice_index leaves i < 2 ^ p.levels
leaf_low p [] i are = pow_pos p.levels
leaf_low p (leaf ∷ leaves) zero are = are.0
leaf_low p (leaf ∷ leaves) (suc i) are = leaf_low p leaves i are.1

phase_written : (p : Params) (q : Public) (f : Fills) (leaves : List ℕ) → Fits p q f → AreLeaves p leaves → AreWritten (phase_notes p q f leaves)
phase_written p q f leaves fits are = go 0 (length leaves)
  where
    go : (a n : ℕ) → AreWritten (flat_map (λ i. Label (slice_index leaves i) ∷ hole_reads p q f (place_holes p (λ u. counts_now p q u + passes_before p leaves i u) (slice_index leaves i))) (range_with_len a n))
    go a zero = tt
    go a (suc n) =
        let low : slice_index leaves a < 2 ^ p.levels = leaf_low p leaves a are in
        let few : 2 ^ p.levels ≤ 65536 = leaves_le p in
        let count : ℕ → ℕ = λ u. counts_now p q u + passes_before p leaves a u in
        joined (Label (slice_index leaves a) ∷ hole_reads p q f (place_holes p count (slice_index leaves a))) _
        (omega (arith, low, few), holes_written p q f (place_holes p count (slice_index leaves a)) fits (visits_lie p count (path p (slice_index leaves a)) (path_fits p (slice_index leaves a) low))) (go (a + 1) n)

leaves_are : (p : Params) (q : Public) (f : Fills) (b : ℕ) → Fits p q f → AreLeaves p (batch_leaves p f b)
leaves_are p q f b fits = go 0 p.places
  where
    go : (a n : ℕ) → AreLeaves p (map (f.label b) (range_with_len a n))
    go a zero = tt
    go a (suc n) = (fits.labels b a, go (a + 1) n)

-- ---- steps

record_written : (p : Params) (area b : ℕ) → area < 2 → b < p.batches → AreWritten (record_notes p area b)
record_written p area b is low =
    joined (writes_of (map (log_cell p area b) (below (record_cells p)))) (Sync ∷ Write (log_cell p area b (record_cells p)) ∷ Sync ∷ [])
    (writes (map (log_cell p area b) (below (record_cells p))) (small_range (log_cell p area b) 0 (record_cells p) (λ i few. cell_small p (AtLog area b i) (is, low, omega (arith, few)))))
    (tt, (cell_small p (AtLog area b (record_cells p)) (is, low, omega arith), (tt, tt)))

reads_are : (cells : List ℕ) → AreSmall cells → Written (reads_of cells)
reads_are cells small = record { are = reads cells small }

writes_are : (cells : List ℕ) → AreSmall cells → Written (writes_of cells)
writes_are cells small = record { are = writes cells small }

set_is : (p : Params) (twin : Region) (number : ℕ) (was_open : Bool) → start_of p twin ≤ 5 → Written (set_twin p twin number was_open)
set_is p twin number was_open low = record { are = set_written p twin number was_open low }

a_sync : Written (Sync ∷ [])
a_sync = record { are = (tt, tt) }

a_head : Written (Write 0 ∷ Sync ∷ [])
a_head = record { are = (omega arith, (tt, tt)) }

gates_are : (p : Params) → Written (writes_of (twin_gates p))
gates_are p = record { are = (omega arith, (omega arith, (omega arith, (omega arith, tt)))) }

filled_are : (p : Params) (home : ℕ → ℕ) (us : List ℕ) → ((u : ℕ) → home u < 2) → AreBuckets p us → Written (bucket_writes p home us)
filled_are p home us is are = record { are = bucket_writes_written p home us is are }

checked_are : (p : Params) (area : ℕ) → area < 2 → Written (writes_of (check_cells p area))
checked_are p area is = writes_are (check_cells p area) (check_cells_small p area is)

closed_are : (p : Params) → Written (writes_of (log_gates p 0 ++ log_gates p 1))
closed_are p = writes_are (log_gates p 0 ++ log_gates p 1) (small_joined (log_gates p 0) (log_gates p 1) (log_gates_small p 0 (omega arith)) (log_gates_small p 1 (omega arith)))

format_is : (p : Params) → Written (format_notes p)
format_is p =
    let begun = then (then (then (then a_head (gates_are p)) (closed_are p)) a_sync) (set_is p GenerationTwin 1 true (omega arith)) in
    let laid = then (then (then begun (filled_are p (λ u. 0) (below (buckets p)) (λ u. omega arith) (buckets_range p 0 (buckets p) (omega arith)))) (checked_are p 0 (omega arith))) a_sync in
    then (then laid (set_is p EpochTwin 0 true (omega arith))) a_head

format_written : (p : Params) → AreWritten (format_notes p)
format_written p = (format_is p).are

module _ (p : Params) (f : AllFills) (all : AreAllFills p f) where
  homes_two : (epoch u : ℕ) → (public_at p f epoch).homes u < 2
  homes_two zero u = omega arith
  homes_two (suc epoch) u = either_home (is_lifted_by_end p (public_in_epoch p f epoch p.batches) u) ((public_at p f epoch).homes u) (homes_two epoch u)
    where
      either_home : (b : Bool) (h : ℕ) → h < 2 → cond b (1 - h) h < 2
      either_home true h low = omega arith
      either_home false h low = low

  fits_at : (epoch : ℕ) (q : Public) → ((u : ℕ) → q.homes u ≡ (public_at p f epoch).homes u) → Fits p q (fills_at p f epoch)
  fits_at epoch q same = record {
    homes = λ u. subst (λ (h : ℕ). h < 2) (sym (same u)) (homes_two epoch u);
    slots = λ h. all.slots h.bucket _ h.number;
    labels = λ b i. all.leaves (suc epoch) b i;
  }

  batch_written : (t : HistoryTurn) → t.batch < p.batches → AreWritten (notes_of_batch p f t)
  batch_written t low =
      let q : Public = public_in_epoch p f t.epoch t.batch in
      let fills : Fills = fills_at p f t.epoch in
      let fits : Fits p q fills = fits_at t.epoch q (λ u. refl) in
      let phase : AreWritten (phase_notes p q fills (batch_leaves p fills t.batch)) = phase_written p q fills (batch_leaves p fills t.batch) fits (leaves_are p q fills t.batch fits) in
      either (nat_lt t.batch t.records) (phase_notes p q fills (batch_leaves p fills t.batch)) (batch_notes p q fills t.batch) phase
      (joined (record_notes p ((q.epoch + 1) % 2) t.batch) (phase_notes p q fills (batch_leaves p fills t.batch)) (record_written p ((q.epoch + 1) % 2) t.batch (omega arith) low) phase)

  end_written : (t : HistoryTurn) → AreWritten (notes_of_end p f t)
  end_written t =
      let q : Public = record (public_in_epoch p f t.epoch p.batches) { gates = λ cell. t.gate } in
      let fills : Fills = fills_at p f t.epoch in
      let fits : Fits p q fills = fits_at t.epoch q (λ u. refl) in
      let e : ℕ = q.epoch + 1 in
      let holes : LieIn p (final_holes p (counts_now p q) q.counter) = finals_lie p (counts_now p q) (firsts (eviction_path p q.counter)) (firsts_fit p (eviction_path p q.counter) (evicted_fit p q.counter)) in
      let lifted : AreBuckets p (filter (is_lifted_by_end p q) (by_falling_level (p.levels + 1))) = buckets_filtered p (is_lifted_by_end p q) (by_falling_level (p.levels + 1)) (levels_fit p (p.levels + 1) (omega arith)) in
      let filled = filled_are p (λ u. 1 - q.homes u) (filter (is_lifted_by_end p q) (by_falling_level (p.levels + 1))) (λ u. omega arith) lifted in
      let laid = then (then filled (checked_are p (e % 2) (omega arith))) (writes_are (log_gates p ((e + 1) % 2)) (log_gates_small p ((e + 1) % 2) (omega arith))) in
      let written : Written (written_by_end p q) = then (then laid a_sync) (set_is p EpochTwin e t.gate (omega arith)) in
      joined (end_lifts p q fills) (written_by_end p q) (holes_written p q fills (final_holes p (counts_now p q) q.counter) fits holes) written.are

  turn_written : (t : HistoryTurn) → AreWritten (notes_of_turn p f t)
  turn_written t = go (nat_lt t.batch p.batches) refl
    where
      go : (b : Bool) → nat_lt t.batch p.batches ≡ b → AreWritten (cond b (notes_of_batch p f t) (notes_of_end p f t))
      go true low = batch_written t (ltb-true t.batch p.batches low)
      go false high = end_written t

  first_written : (mirrored : Bool) → AreWritten (first_reads p mirrored)
  first_written mirrored =
      let copied : List ℕ = region_cells p EpochTwin ++ below (ring_cells p) in
      (omega arith, either mirrored (reads_of copied) [] (reads copied (small_joined (region_cells p EpochTwin) (below (ring_cells p)) (region_small p EpochTwin tt) (small_below 0 (ring_cells p) (let few : ring_cells p < 2 ^ 24 = cells_le p in omega (arith, few))))) tt)

  opening_written : (mirrored : Bool) (found : RunFound) → AreWritten (opening_step p f mirrored found)
  opening_written mirrored found =
      let e : ℕ = (public_at p f found.epoch).epoch in
      let twins : AreSmall (region_cells p GenerationTwin ++ region_cells p EpochTwin) = small_joined (region_cells p GenerationTwin) (region_cells p EpochTwin) (region_small p GenerationTwin tt) (region_small p EpochTwin tt) in
      let found_in = then (reads_are (region_cells p GenerationTwin ++ region_cells p EpochTwin) twins) (reads_are (check_cells p (e % 2)) (check_cells_small p (e % 2) (omega arith))) in
      let logged = then found_in (reads_are (region_cells p (LogArea ((e + 1) % 2))) (region_small p (LogArea ((e + 1) % 2)) (omega arith))) in
      let before : Written (before_repeats p (public_at p f found.epoch) (λ cell. found.generation_gate) (suc found.generation)) = then (then logged a_sync) (set_is p GenerationTwin (suc found.generation) found.generation_gate (omega arith)) in
      joined (first_reads p mirrored) (before_repeats p (public_at p f found.epoch) (λ cell. found.generation_gate) (suc found.generation)) (first_written mirrored) before.are

  from_written : (t : HistoryTurn) (steps shown : ℕ) → AreWritten (notes_from p f t steps shown)
  from_written t zero shown = front shown (notes_of_turn p f t) (turn_written t)
  from_written t (suc steps) shown = joined (notes_of_turn p f t) (notes_from p f (next_turn p t) steps shown) (turn_written t) (from_written (next_turn p t) steps shown)

  shown_written : (mirrored : Bool) (found : RunFound) (steps shown : ℕ) → AreWritten (notes_shown p f mirrored found steps shown)
  shown_written mirrored found zero shown = front shown (opening_step p f mirrored found) (opening_written mirrored found)
  shown_written mirrored found (suc steps) shown = joined (opening_step p f mirrored found) (notes_from p f (first_turn found) steps shown) (opening_written mirrored found) (from_written (first_turn found) steps shown)

-- ---- lines

texts_joined : (xs ys : List Line) → HaveTexts xs → HaveTexts ys → HaveTexts (xs ++ ys)
texts_joined [] ys a b = b
texts_joined (L.Start p ∷ xs) ys a b = texts_joined xs ys a b
texts_joined (L.Open mirrored ∷ xs) ys a b = texts_joined xs ys a b
texts_joined (L.Note note ∷ xs) ys a b = (a.0, texts_joined xs ys a.1 b)
texts_joined (L.Bad ∷ xs) ys a b = absurd a

notes_have : (notes : List Note) → AreWritten notes → HaveTexts (lines_of_notes notes)
notes_have [] are = tt
notes_have (note ∷ notes) are = (are.0, notes_have notes are.1)

history_has : (p : Params) (lines : List Line) → IsHistory p lines → HaveTexts lines
history_has p lines h =
    subst HaveTexts (sym h.are) (texts_joined (lines_of_notes (format_notes p)) (flat_map (run_lines p h.fills) h.runs) (notes_have (format_notes p) (format_written p)) (runs h.runs))
  where
    runs : (runs : List HistoryRun) → HaveTexts (flat_map (run_lines p h.fills) runs)
    runs [] = tt
    runs (run ∷ more) = texts_joined (run_lines p h.fills run) (flat_map (run_lines p h.fills) more) (notes_have (run_notes p h.fills run) (shown_written p h.fills h.filled run.mirrored run.found run.steps run.shown)) (runs more)

cut_has : (p : Params) (lines : List Line) → IsCutHistory p lines → HaveTexts lines
cut_has p lines h =
    subst HaveTexts (sym h.are) (texts_joined (lines_of_notes (take h.shown (format_notes p))) (flat_map head_lines h.heads) (notes_have (take h.shown (format_notes p)) (front h.shown (format_notes p) (format_written p))) (heads h.heads))
  where
    heads : (runs : List HeadRun) → HaveTexts (flat_map head_lines runs)
    heads [] = tt
    heads (run ∷ more) = texts_joined (head_lines run) (flat_map head_lines more) (notes_have (take run.shown (Read 0 ∷ [])) (front run.shown (Read 0 ∷ []) (omega arith, tt))) (heads more)

either_has : (p : Params) (lines : List Line) → IsHistory p lines ⊎ IsCutHistory p lines → HaveTexts lines
either_has p lines (inl whole) = history_has p lines whole
either_has p lines (inr short) = cut_has p lines short

all_have : (histories : List (List Line)) → AreHistories histories → HaveTexts (flat_map (λ history. history) histories)
all_have [] are = tt
all_have (lines ∷ rest) (one, more) = texts_joined lines (flat_map (λ history. history) rest) (either_has one.0 lines one.1) (all_have rest more)

-- what is admitted is written
pub admitted_written : (lines : List Line) → AreAdmitted lines → HaveTexts lines
admitted_written lines are = let told = admitted_are lines are in subst HaveTexts (sym told.1.0) (all_have told.0 told.1.1)
