-- The order of a format is the public schedule's.
use Rattle.std.proofs.Common.{◌≡◌, ℕ, zero, suc, ◌+◌, ◌*◌, true, List, [], ◌∷◌, ◌++◌, map, refl, sym, ◌∙◌, ap, arith, append_assoc}
use Rattle.std.specs.List.{flat_map}
use Rattle.std.proofs.lemmas.List.{append-nil, map-append}
use Rattle.std.proofs.lemmas.List.Concat.{flat_map-append}
use mathlib.Core.Path.{fun_ext}
use Rattle.ob_base.specs.declared.params.Params.{Params}
use Rattle.ob_base.specs.Tree.{buckets, width, below}
use Rattle.ob_base.specs.Layout.{checkpoint_cells, check_cell, slot_cell}
use Rattle.ob_store.specs.declared.watch.Note.{Note}
use Rattle.ob_store.specs.declared.watch.Note.TheVariants.{Write, Sync}
use Rattle.ob_store.specs.Runs.{from_on, write_notes}
use Rattle.ob_tables.proofs.Counting.{range_more}
use Rattle.ob_check.specs.Written.{area_of}
use Rattle.ob_schedule.specs.Schedule.{bucket_writes, check_cells, format_notes, writes_of}
use Rattle.ob_start.specs.Orders.{lay_notes}
use Rattle.ob_twin.specs.Orders.{set_notes, through_notes}
use Rattle.ob_opening.specs.Formats.{all_gates, epoch_notes}

-- a run of cells, as numbers from its first one on
pub run_is : (b n : ℕ) → from_on b n ≡ map (λ i. b + i) (below n)
run_is b zero = refl
run_is b (suc n) =
    ap (λ (cs : List ℕ). cs ++ (b + n) ∷ []) (run_is b n)
    ∙ sym (ap (λ (is : List ℕ). map (λ i. b + i) is) (range_more 0 n n (omega arith)) ∙ map-append (λ i. b + i) (below n) (n ∷ []))

run_both : (b m n : ℕ) → from_on b (m + n) ≡ from_on b m ++ from_on (b + m) n
run_both b m zero = let e : m + 0 ≡ m = omega arith in ap (from_on b) e ∙ sym (append-nil (from_on b m))
run_both b m (suc n) =
    let e : m + suc n ≡ suc (m + n) = omega arith in
    let at : b + (m + n) ≡ (b + m) + n = omega arith in
    ap (from_on b) e ∙ ap (λ (cs : List ℕ). cs ++ (b + (m + n)) ∷ []) (run_both b m n)
    ∙ ap (λ (c : ℕ). (from_on b m ++ from_on (b + m) n) ++ c ∷ []) at
    ∙ append_assoc (from_on b m) (from_on (b + m) n) (((b + m) + n) ∷ [])

-- the slots of the first n buckets in home 0
slots_to : (p : Params) (n : ℕ) → from_on (slot_cell p 0 0 0) (n * width p) ≡ flat_map (λ u. map (slot_cell p 0 u) (below (width p))) (below n)
slots_to p zero = let e : 0 * width p ≡ 0 = omega arith in ap (from_on (slot_cell p 0 0 0)) e
slots_to p (suc n) =
    let e : suc n * width p ≡ n * width p + width p = omega arith in
    let one : (s : ℕ) → (slot_cell p 0 0 0 + n * width p) + s ≡ slot_cell p 0 n s = λ s. omega arith in
    ap (from_on (slot_cell p 0 0 0)) e ∙ run_both (slot_cell p 0 0 0) (n * width p) (width p)
    ∙ ap (λ (cs : List ℕ). cs ++ from_on (slot_cell p 0 0 0 + n * width p) (width p)) (slots_to p n)
    ∙ ap (λ (cs : List ℕ). flat_map (λ u. map (slot_cell p 0 u) (below (width p))) (below n) ++ cs)
    (run_is (slot_cell p 0 0 0 + n * width p) (width p) ∙ ap (λ (f : ℕ → ℕ). map f (below (width p))) (fun_ext one) ∙ sym (append-nil (map (slot_cell p 0 n) (below (width p)))))
    ∙ sym (flat_map-append (λ u. map (slot_cell p 0 u) (below (width p))) (below n) (n ∷ []))
    ∙ ap (λ (us : List ℕ). flat_map (λ u. map (slot_cell p 0 u) (below (width p))) us) (sym (range_more 0 n n (omega arith)))

map_flat : (f : ℕ → List ℕ) (us : List ℕ) → map (λ c. Write c) (flat_map f us) ≡ flat_map (λ u. writes_of (f u)) us
map_flat f [] = refl
map_flat f (u ∷ us) = map-append (λ c. Write c) (f u) (flat_map f us) ∙ ap (λ (ns : List Note). writes_of (f u) ++ ns) (map_flat f us)

pub slots_written : (p : Params) → write_notes (slot_cell p 0 0 0) (buckets p * width p) ≡ bucket_writes p (λ u. 0) (below (buckets p))
slots_written p = ap (λ (cs : List ℕ). map (λ c. Write c) cs) (slots_to p (buckets p)) ∙ map_flat (λ u. map (slot_cell p 0 u) (below (width p))) (below (buckets p))

pub check_written : (p : Params) → write_notes (area_of p 0) (checkpoint_cells p) ≡ writes_of (check_cells p 0)
check_written p =
    let one : (i : ℕ) → area_of p 0 + i ≡ check_cell p 0 i = λ i. omega arith in
    ap (λ (cs : List ℕ). map (λ c. Write c) cs) (run_is (area_of p 0) (checkpoint_cells p) ∙ ap (λ (f : ℕ → ℕ). map f (below (checkpoint_cells p))) (fun_ext one))

regroup : (x b c s e t : List Note) → x ++ ((b ++ (c ++ (s ++ e))) ++ t) ≡ ((((x ++ b) ++ c) ++ s) ++ e) ++ t
regroup x b c s e t = simp append_assoc

pub format_is : (p : Params) → lay_notes (all_gates p) ++ (epoch_notes p ++ through_notes 0) ≡ format_notes p
format_is p = rw slots_written (rw check_written (regroup (lay_notes (all_gates p)) (bucket_writes p (λ u. 0) (below (buckets p))) (writes_of (check_cells p 0)) (Sync ∷ []) (set_notes true 5 0) (through_notes 0)))
