-- The wants of a run. Of cells there is at least the first.
use Rattle.std.specs.Prelude.{ℕ, ◌+◌, ◌-◌, List, [], ◌∷◌}
use Rattle.std.specs.List.{range_with_len}
use Rattle.ob_schedule.specs.Schedule.{reads_of, writes_of}
use Rattle.ob_schedule.specs.declared.want.Want.{Want}
use Rattle.ob_schedule.specs.Wants.{kept}
use Rattle.ob_schedule.specs.declared.run.Run.{Run}
use Rattle.ob_schedule.specs.declared.run.Run.TheVariants.{One, Reads, Writes}

abbrev pub cells_between : ℕ → ℕ → List ℕ
cells_between first last = range_with_len first (last - first + 1)

abbrev pub run_wants : Run → List Want
run_wants (One want) = want ∷ []
run_wants (Reads first last) = kept (reads_of (cells_between first last))
run_wants (Writes first last) = kept (writes_of (cells_between first last))
