-- The calls' orders of reads, writes and syncs, as the public schedule spells them.
use Rattle.std.specs.Prelude.{◌≡◌, ℕ, zero, suc, ◌+◌, ◌*◌, ◌%◌, ◌==◌, ◌&&◌, ◌||◌, not, Bool, true, false, List, [], ◌∷◌, ◌++◌, map, IsTrue, Ok}
use Rattle.std.specs.List.{flat_map}
use Rattle.std.proofs.Common.{arith, refl, sym, ap, subst, ◌∙◌, append_assoc, ◌⊎◌, inl, inr, ⊎_elim}
use Rattle.std.proofs.lemmas.Bool.{cases_eq, false≢true}
use Rattle.std.proofs.lemmas.List.{map-append}
use mathlib.Core.Path.{fun_ext}
use Rattle.ob_base.specs.declared.params.Params.{Params}
use Rattle.ob_base.specs.Tree.{below, width}
use Rattle.ob_base.specs.Layout.{LogArea, EpochTwin, GenerationTwin, check_cell, checkpoint_cells, log_cell, log_cells, log_gate, record_cells, slot_cell}
use Rattle.ob_tables.proofs.Counting.{range_more}
use Rattle.ob_cells.specs.Orders.{read_notes}
use Rattle.ob_check.specs.Written.{area_of}
use Rattle.ob_log.specs.Appends.{append_notes}
use Rattle.ob_log.specs.Reads.{area_notes}
use Rattle.ob_schedule.specs.Schedule.{bucket_writes, check_cells, gate_cell, reads_of, record_notes, region_cells, set_twin, writes_of}
use Rattle.ob_store.specs.Runs.{from_on, write_notes}
use Rattle.ob_store.specs.declared.watch.Note.{Note}
use Rattle.ob_store.specs.declared.watch.Note.TheVariants.{Write, Sync}
use Rattle.ob_start.specs.Orders.{registers_notes}
use Rattle.ob_twin.specs.Opening.{HasOpen, gates_set, is_closed_first, is_marked, with_mark}
use Rattle.ob_twin.specs.Orders.{set_notes}
use Rattle.ob_twin.specs.Register.{place_of}
use Rattle.ob_twin.specs.declared.gates.Gates.{Gates}
use Rattle.ob_twin.specs.declared.gates.Open.{Open}
use Rattle.ob_twin.specs.declared.twin.Twin.TheVariants.{GENERATION, EPOCH}
use Rattle.ob_recover.specs.Known.{gates_open, is_open_in}

-- ---- runs of cells

-- a run of cells, as numbers from its first one on
run_is : (b n : ℕ) → from_on b n ≡ map (λ i. b + i) (below n)
run_is b zero = refl
run_is b (suc n) =
    ap (λ (cs : List ℕ). cs ++ (b + n) ∷ []) (run_is b n)
    ∙ sym (ap (λ (is : List ℕ). map (λ i. b + i) is) (range_more 0 n n (omega arith)) ∙ map-append (λ i. b + i) (below n) (n ∷ []))

-- where the i-th cell is this one
run_of : (b n : ℕ) (cell : ℕ → ℕ) → ((i : ℕ) → b + i ≡ cell i) → from_on b n ≡ map cell (below n)
run_of b n cell is = run_is b n ∙ ap (λ (f : ℕ → ℕ). map f (below n)) (fun_ext is)

pub registers_read : (p : Params) → registers_notes ≡ reads_of (region_cells p GenerationTwin ++ region_cells p EpochTwin)
registers_read p = refl

pub check_read : (p : Params) (epoch : ℕ) → read_notes (area_of p epoch) (checkpoint_cells p) ≡ reads_of (check_cells p (epoch % 2))
check_read p epoch = ap reads_of (run_of (area_of p epoch) (checkpoint_cells p) (check_cell p (epoch % 2)) (λ i. omega arith))

pub check_written : (p : Params) (epoch : ℕ) → write_notes (area_of p epoch) (checkpoint_cells p) ≡ writes_of (check_cells p (epoch % 2))
check_written p epoch = ap writes_of (run_of (area_of p epoch) (checkpoint_cells p) (check_cell p (epoch % 2)) (λ i. omega arith))

pub log_read : (p : Params) (epoch : ℕ) → area_notes p epoch ≡ reads_of (region_cells p (LogArea (epoch % 2)))
unfolding log_cells
log_read p epoch = ap reads_of (run_of (log_cell p (epoch % 2) 0 0) (p.batches * (record_cells p + 1)) (λ i. (9 + (epoch % 2) * log_cells p) + i) (λ i. omega arith))

pub record_written : (p : Params) (epoch b : ℕ) → append_notes p epoch b ≡ record_notes p (epoch % 2) b
record_written p epoch b =
    ap (λ (ns : List Note). (ns ++ Sync ∷ []) ++ (Write (log_gate p (epoch % 2) b) ∷ Sync ∷ []))
    (ap writes_of (run_of (log_cell p (epoch % 2) b 0) (record_cells p) (log_cell p (epoch % 2) b) (λ i. omega arith)))
    ∙ append_assoc (writes_of (map (log_cell p (epoch % 2) b) (below (record_cells p)))) (Sync ∷ []) (Write (log_gate p (epoch % 2) b) ∷ Sync ∷ [])

bucket_written : (p : Params) (home u : ℕ) → write_notes (slot_cell p home u 0) (width p) ≡ writes_of (map (slot_cell p home u) (below (p.real + p.dummies)))
bucket_written p home u = ap writes_of (run_of (slot_cell p home u 0) (width p) (slot_cell p home u) (λ i. omega arith))

pub buckets_written : (p : Params) (home : ℕ → ℕ) (us : List ℕ) → flat_map (λ u. write_notes (slot_cell p (home u) u 0) (width p)) us ≡ bucket_writes p home us
buckets_written p home [] = refl
buckets_written p home (u ∷ us) = λ i. bucket_written p (home u) u i ++ buckets_written p home us i

-- ---- registers

set_by : (closed : Bool) (n : ℕ) (p : Params) → set_notes closed 1 n ≡ set_twin p GenerationTwin n closed
set_by true n p = refl
set_by false n p = refl

set_epoch_by : (closed : Bool) (n : ℕ) (p : Params) → set_notes closed 5 n ≡ set_twin p EpochTwin n closed
set_epoch_by true n p = refl
set_epoch_by false n p = refl

or_false : (b : Bool) → (b || false) ≡ b
or_false true = refl
or_false false = refl

-- a register with an open gate closes a gate first just where it is open
closed_is : (known : Open) (place : ℕ) → HasOpen known → is_closed_first known place ≡ is_marked known place
closed_is known place has = closed_case (known.zero || known.one) has (is_marked known place)
  where
    closed_case : (b : Bool) → IsTrue b → (m : Bool) → (m || not b) ≡ m
    closed_case true h m = or_false m
    closed_case false h m = absurd (false≢true h)

-- ---- gates that are known to be open

abbrev IsPlace : ℕ → Type 0
IsPlace m = (m ≡ 0) ⊎ (m ≡ 1)

two_places : (n : ℕ) → IsPlace (n % 2)
two_places n = ⊎_elim (λ e. inl e) (λ ne. inr (omega arith)) (cases_eq (n % 2) 0)

marked_generation : (gates : Gates) (m : ℕ) → IsPlace m → gates_open gates (1 + 2 * m + 1) ≡ is_marked gates.generation m
marked_generation gates m (inl is) = subst (λ (n : ℕ). gates_open gates (1 + 2 * n + 1) ≡ is_marked gates.generation n) (sym is) (or_false ((gates.generation).zero || false) ∙ or_false (gates.generation).zero)
marked_generation gates m (inr is) = subst (λ (n : ℕ). gates_open gates (1 + 2 * n + 1) ≡ is_marked gates.generation n) (sym is) (or_false (gates.generation).one)

marked_epoch : (gates : Gates) (m : ℕ) → IsPlace m → gates_open gates (5 + 2 * m + 1) ≡ is_marked gates.epoch m
marked_epoch gates m (inl is) = subst (λ (n : ℕ). gates_open gates (5 + 2 * n + 1) ≡ is_marked gates.epoch n) (sym is) (or_false (gates.epoch).zero)
marked_epoch gates m (inr is) = subst (λ (n : ℕ). gates_open gates (5 + 2 * n + 1) ≡ is_marked gates.epoch n) (sym is) refl

-- a gate that is set joins those that are open
join_zero : (a z b e : Bool) → (((a && true) || b) || e) ≡ (a || (((a && z) || b) || e))
join_zero true z b e = refl
join_zero false z b e = refl

join_one : (x b o e : Bool) → ((x || (b && true)) || e) ≡ (b || ((x || (b && o)) || e))
join_one true true o e = refl
join_one false true o e = refl
join_one x false o e = refl

join_zero_behind : (g a z b : Bool) → (g || ((a && true) || b)) ≡ (a || (g || ((a && z) || b)))
join_zero_behind true true z b = refl
join_zero_behind false true z b = refl
join_zero_behind g false z b = refl

join_one_behind : (g x b o : Bool) → (g || (x || (b && true))) ≡ (b || (g || (x || (b && o))))
join_one_behind true true true o = refl
join_one_behind true false true o = refl
join_one_behind false true true o = refl
join_one_behind false false true o = refl
join_one_behind g x false o = refl

abbrev with_generation_mark : Gates → ℕ → Gates
with_generation_mark gates m = record { generation = with_mark gates.generation m; epoch = gates.epoch }

abbrev with_epoch_mark : Gates → ℕ → Gates
with_epoch_mark gates m = record { generation = gates.generation; epoch = with_mark gates.epoch m }

generation_joins : (gates : Gates) (m : ℕ) → IsPlace m → (d : ℕ) → gates_open (with_generation_mark gates m) d ≡ ((d == 1 + 2 * m + 1) || gates_open gates d)
generation_joins gates m (inl is) d =
    subst (λ (n : ℕ). gates_open (with_generation_mark gates n) d ≡ ((d == 1 + 2 * n + 1) || gates_open gates d)) (sym is)
    (join_zero (d == 2) (gates.generation).zero ((d == 4) && (gates.generation).one) (is_open_in 5 gates.epoch d))
generation_joins gates m (inr is) d =
    subst (λ (n : ℕ). gates_open (with_generation_mark gates n) d ≡ ((d == 1 + 2 * n + 1) || gates_open gates d)) (sym is)
    (join_one ((d == 2) && (gates.generation).zero) (d == 4) (gates.generation).one (is_open_in 5 gates.epoch d))

epoch_joins : (gates : Gates) (m : ℕ) → IsPlace m → (d : ℕ) → gates_open (with_epoch_mark gates m) d ≡ ((d == 5 + 2 * m + 1) || gates_open gates d)
epoch_joins gates m (inl is) d =
    subst (λ (n : ℕ). gates_open (with_epoch_mark gates n) d ≡ ((d == 5 + 2 * n + 1) || gates_open gates d)) (sym is)
    (join_zero_behind (is_open_in 1 gates.generation d) (d == 6) (gates.epoch).zero ((d == 8) && (gates.epoch).one))
epoch_joins gates m (inr is) d =
    subst (λ (n : ℕ). gates_open (with_epoch_mark gates n) d ≡ ((d == 5 + 2 * n + 1) || gates_open gates d)) (sym is)
    (join_one_behind (is_open_in 1 gates.generation d) ((d == 6) && (gates.epoch).zero) (d == 8) (gates.epoch).one)

-- ---- a register is set

pub generation_set : (p : Params) (gates : Gates) (n : ℕ) → HasOpen gates.generation → set_notes (is_closed_first gates.generation (place_of n)) 1 n ≡ set_twin p GenerationTwin n (gates_open gates (gate_cell p GenerationTwin n))
generation_set p gates n has =
    ap (λ (b : Bool). set_notes b 1 n) (closed_is gates.generation (place_of n) has ∙ sym (marked_generation gates (n % 2) (two_places n)))
    ∙ set_by (gates_open gates (gate_cell p GenerationTwin n)) n p

pub epoch_set : (p : Params) (gates : Gates) (n : ℕ) → HasOpen gates.epoch → set_notes (is_closed_first gates.epoch (place_of n)) 5 n ≡ set_twin p EpochTwin n (gates_open gates (gate_cell p EpochTwin n))
epoch_set p gates n has =
    ap (λ (b : Bool). set_notes b 5 n) (closed_is gates.epoch (place_of n) has ∙ sym (marked_epoch gates (n % 2) (two_places n)))
    ∙ set_epoch_by (gates_open gates (gate_cell p EpochTwin n)) n p

pub generation_known : (p : Params) (gates : Gates) (n : ℕ) → (λ (d : ℕ). (d == gate_cell p GenerationTwin n) || gates_open gates d) ≡ gates_open (gates_set GENERATION n gates (Ok tt))
generation_known p gates n = sym (fun_ext (generation_joins gates (n % 2) (two_places n)))

pub epoch_known : (p : Params) (gates : Gates) (n : ℕ) → (λ (d : ℕ). (d == gate_cell p EpochTwin n) || gates_open gates d) ≡ gates_open (gates_set EPOCH n gates (Ok tt))
epoch_known p gates n = sym (fun_ext (epoch_joins gates (n % 2) (two_places n)))
