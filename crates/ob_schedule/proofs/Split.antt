-- The wants of a run behind the first.
use Rattle.std.specs.Prelude.{◌≡◌, ◌<◌, ℕ, ◌+◌, ◌-◌, List, ◌∷◌, drop}
use Rattle.std.specs.List.{range_with_len}
use Rattle.std.proofs.Common.{sym, ap, ◌∙◌, arith, add-one}
use Rattle.ob_schedule.specs.Schedule.{reads_of, writes_of}
use Rattle.ob_schedule.specs.Wants.{kept}
use Rattle.ob_schedule.specs.declared.run.Run.TheVariants.{Reads, Writes}
use Rattle.ob_schedule.specs.Runs.{cells_between, run_wants}

cells_some : (first last : ℕ) → cells_between first last ≡ first ∷ range_with_len (first + 1) (last - first)
cells_some first last = ap (range_with_len first) (add-one (last - first))

cells_rest : (first last : ℕ) → first < last → cells_between (first + 1) last ≡ range_with_len (first + 1) (last - first)
cells_rest first last lt = let many : last - (first + 1) + 1 ≡ last - first = omega (arith, lt) in ap (range_with_len (first + 1)) many

pub rest_reads : (first last : ℕ) → first < last → run_wants (Reads (first + 1) last) ≡ drop 1 (run_wants (Reads first last))
rest_reads first last lt = ap (λ (cs : List ℕ). kept (reads_of cs)) (cells_rest first last lt) ∙ sym (ap (λ (cs : List ℕ). drop 1 (kept (reads_of cs))) (cells_some first last))

pub rest_writes : (first last : ℕ) → first < last → run_wants (Writes (first + 1) last) ≡ drop 1 (run_wants (Writes first last))
rest_writes first last lt = ap (λ (cs : List ℕ). kept (writes_of cs)) (cells_rest first last lt) ∙ sym (ap (λ (cs : List ℕ). drop 1 (kept (writes_of cs))) (cells_some first last))
