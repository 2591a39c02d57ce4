-- The public schedule of a ring store: what each step shows, from the public state and from what fills the holes, by their names.
-- It knows the tree and the layout, and nothing of keys, words or permutations.
use Rattle.std.specs.Prelude.{ℕ, ◌+◌, ◌-◌, ◌*◌, ◌%◌, ◌^◌, ◌==◌, nat_le, Bool, true, cond, ◌||◌, List, [], ◌∷◌, ◌++◌, map, length, filter, slice_index}
use Rattle.std.proofs.Common.{zero, suc}
use Rattle.std.specs.List.{count_by, flat_map}
use Rattle.ob_base.specs.declared.params.Params.{Params}
use Rattle.ob_base.specs.Tree.{below, buckets, passes}
use Rattle.ob_base.specs.Layout.{Region, GenerationTwin, EpochTwin, LogArea, start_of, size_of, record_cells, checkpoint_cells, ring_cells, log_cell, check_cell, slot_cell}
use Rattle.ob_store.specs.declared.watch.Note.{Note}
use Rattle.ob_store.specs.declared.watch.Note.TheVariants.{Label, Read, Write, Sync}
use Rattle.ob_schedule.specs.Paths.{is_one_of, eviction_path, by_falling_level}
use Rattle.ob_schedule.specs.Holes.{Hole, place_holes, passes_before, final_holes}

-- the cells of a region
abbrev pub region_cells : Params → Region → List ℕ
region_cells p r = map (λ i. start_of p r + i) (below (size_of p r))

-- the body and the gate of a number in a register, which keeps even numbers in its first place and odd ones in its second
abbrev pub body_cell : Params → Region → ℕ → ℕ
body_cell p twin number = start_of p twin + 2 * (number % 2)

abbrev pub gate_cell : Params → Region → ℕ → ℕ
gate_cell p twin number = start_of p twin + 2 * (number % 2) + 1

-- ---- public state

pub record Public : Type 0 where
  pub epoch : ℕ  -- the durable one
  pub homes : ℕ → ℕ
  pub counts : ℕ → ℕ  -- reads of each bucket's version before the running epoch
  pub counter : ℕ
  pub gates : ℕ → Bool  -- register gates that the run's opening found open, or a set opened since
  pub leaves : List ℕ  -- shown by this attempt so far

-- what fills the holes of an epoch, by name: a batch and a place; a bucket and a number
pub record Fills : Type 0 where
  pub label : ℕ → ℕ → ℕ
  pub slot : Hole → ℕ

abbrev pub reads_of : List ℕ → List Note
reads_of cells = map (λ c. Read c) cells

abbrev pub writes_of : List ℕ → List Note
writes_of cells = map (λ c. Write c) cells

-- setting a register to a number: a gate that may be open is closed first
abbrev pub set_twin : Params → Region → ℕ → Bool → List Note
set_twin p twin number was_open = cond was_open (Write (gate_cell p twin number) ∷ Sync ∷ []) [] ++ (Write (body_cell p twin number) ∷ Sync ∷ Write (gate_cell p twin number) ∷ Sync ∷ [])

abbrev pub counts_now : Params → Public → ℕ → ℕ
counts_now p q u = q.counts u + count_by (passes p u) q.leaves

abbrev pub hole_reads : Params → Public → Fills → List Hole → List Note
hole_reads p q f hs = map (λ h. Read (slot_cell p (q.homes h.bucket) h.bucket (f.slot h))) hs

-- the places of a batch: a label, then the reads that the counts leave
abbrev pub batch_leaves : Params → Fills → ℕ → List ℕ
batch_leaves p f b = map (f.label b) (below p.places)

abbrev pub phase_notes : Params → Public → Fills → List ℕ → List Note
phase_notes p q f leaves = flat_map (λ i. Label (slice_index leaves i) ∷ hole_reads p q f (place_holes p (λ u. counts_now p q u + passes_before p leaves i u) (slice_index leaves i))) (below (length leaves))

abbrev pub after_phase : Params → Public → List ℕ → Public
after_phase p q leaves = record q { leaves = q.leaves ++ leaves }

abbrev pub record_notes : Params → ℕ → ℕ → List Note
record_notes p area b = writes_of (map (log_cell p area b) (below (record_cells p))) ++ Sync ∷ Write (log_cell p area b (record_cells p)) ∷ Sync ∷ []

abbrev pub batch_notes : Params → Public → Fills → ℕ → List Note
batch_notes p q f b = record_notes p ((q.epoch + 1) % 2) b ++ phase_notes p q f (batch_leaves p f b)

-- ---- format, opening, the end

abbrev pub log_gates : Params → ℕ → List ℕ
log_gates p area = map (λ b. log_cell p area b (record_cells p)) (below p.batches)

abbrev pub bucket_writes : Params → (ℕ → ℕ) → List ℕ → List Note
bucket_writes p home us = flat_map (λ u. writes_of (map (slot_cell p (home u) u) (below (p.real + p.dummies)))) us

abbrev pub check_cells : Params → ℕ → List ℕ
check_cells p area = map (check_cell p area) (below (checkpoint_cells p))

abbrev pub twin_gates : Params → List ℕ
twin_gates p = gate_cell p GenerationTwin 0 ∷ gate_cell p GenerationTwin 1 ∷ gate_cell p EpochTwin 0 ∷ gate_cell p EpochTwin 1 ∷ []

abbrev pub format_notes : Params → List Note
format_notes p =
    (Write 0 ∷ Sync ∷ []) ++ writes_of (twin_gates p) ++ writes_of (log_gates p 0 ++ log_gates p 1) ++ (Sync ∷ [])
    ++ set_twin p GenerationTwin 1 true ++ bucket_writes p (λ u. 0) (below (buckets p)) ++ writes_of (check_cells p 0) ++ (Sync ∷ []) ++ set_twin p EpochTwin 0 true ++ (Write 0 ∷ Sync ∷ [])

abbrev pub public_formatted : Params → Public
public_formatted p = record { epoch = 0; homes = λ u. 0; counts = λ u. 0; counter = 0; gates = λ c. (c == gate_cell p GenerationTwin 1) || (c == gate_cell p EpochTwin 0); leaves = [] }

-- the batches that an opening repeats, each from the counts that the ones before it leave
abbrev pub repeats : Params → Public → Fills → ℕ → ℕ → List Note
repeats p q f b zero = []
repeats p q f b (suc n) = phase_notes p q f (batch_leaves p f b) ++ repeats p (after_phase p q (batch_leaves p f b)) f (b + 1) n

abbrev pub after_repeats : Params → Public → Fills → ℕ → ℕ → Public
after_repeats p q f b zero = q
after_repeats p q f b (suc n) = after_repeats p (after_phase p q (batch_leaves p f b)) f (b + 1) n

abbrev pub opens_gate : Public → ℕ → Public
opens_gate q c = record q { gates = λ d. (d == c) || q.gates d }

-- the head is read by itself, before anything else is known
abbrev pub head_notes : List Note
head_notes = Read 0 ∷ []

-- Behind it a run with a mirror reads the epoch's register, and then copies each cell.
abbrev pub copy_notes : Params → List Note
copy_notes p = reads_of (region_cells p EpochTwin ++ below (ring_cells p))

-- what a run reads before its opening, with a mirror or without one
abbrev pub first_reads : Params → Bool → List Note
first_reads p mirrored = head_notes ++ cond mirrored (copy_notes p) []

-- A run begins with the register gates that its opening found open, and has shown nothing. (A gate whose closing was begun and not
-- made sure of may be found in either state, so it isn't told by what was known before.)
abbrev pub begun_public : (ℕ → Bool) → Public → Public
begun_public found q = record q { gates = found; leaves = [] }

-- Behind the head an opening reads both registers, the checkpoint and the log of the next epoch, and sets this generation;
abbrev pub before_repeats : Params → Public → (ℕ → Bool) → ℕ → List Note
before_repeats p q found generation =
    reads_of (region_cells p GenerationTwin ++ region_cells p EpochTwin) ++ reads_of (check_cells p (q.epoch % 2))
    ++ reads_of (region_cells p (LogArea ((q.epoch + 1) % 2)))
    ++ (Sync ∷ []) ++ set_twin p GenerationTwin generation (found (gate_cell p GenerationTwin generation))

-- and then it repeats so many batches.
abbrev pub open_notes : Params → Public → Fills → (ℕ → Bool) → ℕ → ℕ → List Note
open_notes p q f found generation batches = before_repeats p q found generation ++ repeats p (begun_public found q) f 0 batches

abbrev pub after_open : Params → Public → Fills → (ℕ → Bool) → ℕ → ℕ → Public
after_open p q f found generation batches = after_repeats p (opens_gate (begun_public found q) (gate_cell p GenerationTwin generation)) f 0 batches

-- the buckets that an end has lifted: those read to the limit, and those on the eviction paths
abbrev pub is_lifted_by_end : Params → Public → ℕ → Bool
is_lifted_by_end p q u = is_one_of (eviction_path p q.counter) u || nat_le p.dummies (counts_now p q u)

-- its final lifts
abbrev pub end_lifts : Params → Public → Fills → List Note
end_lifts p q f = hole_reads p q f (final_holes p (counts_now p q) q.counter)

-- What it writes behind them: the lifted buckets anew, the checkpoint, closed gates for the log of the epoch behind, and the register.
abbrev pub written_by_end : Params → Public → List Note
written_by_end p q =
    let e = q.epoch + 1 in
    bucket_writes p (λ u. 1 - q.homes u) (filter (is_lifted_by_end p q) (by_falling_level (p.levels + 1)))
    ++ writes_of (check_cells p (e % 2)) ++ writes_of (log_gates p ((e + 1) % 2)) ++ (Sync ∷ []) ++ set_twin p EpochTwin e (q.gates (gate_cell p EpochTwin e))

abbrev pub end_notes : Params → Public → Fills → List Note
end_notes p q f = end_lifts p q f ++ written_by_end p q

abbrev pub after_end : Params → Public → Public
after_end p q =
    record {
      epoch = q.epoch + 1;
      homes = λ u. cond (is_lifted_by_end p q u) (1 - q.homes u) (q.homes u);
      counts = λ u. cond (is_lifted_by_end p q u) 0 (counts_now p q u);
      counter = (q.counter + p.evictions) % 2 ^ p.levels;
      gates = λ d. (d == gate_cell p EpochTwin (q.epoch + 1)) || q.gates d;
      leaves = [];
    }
