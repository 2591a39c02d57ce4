use Rattle.std.specs.Prelude.{◌≡◌, ◌<◌, ℕ, false, length, slice_index_or, take}
use Rattle.ob_schedule.specs.Paths.{is_one_of}
use Rattle.ob_wants.proofs.marks.mark_all.Given as goal

abbrev pub invariant-loop-bucket : goal.invariant-loop-bucket
invariant-loop-bucket l = (length l.marks ≡ length l.initial.marks) × ((u : ℕ) → u < length l.initial.marks → slice_index_or l.initial.marks u false ≡ false → slice_index_or l.marks u false ≡ is_one_of (take l.bucket-index l.list) u)
