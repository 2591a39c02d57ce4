-- What a run that was cut off had shown is a run of a history too.
use Rattle.std.specs.Prelude.{◌≡◌, ℕ, Bool, take}
use Rattle.ob_base.specs.declared.params.Params.{Params}
use Rattle.ob_histories.specs.Fills.{AllFills}
use Rattle.ob_histories.specs.Runs.{HistoryRun, RunFound, run_notes}

-- by the same that was found, with a mirror where that has one
pub record IsFrontOfRun (p : Params) (f : AllFills) (mirrored : Bool) (found : RunFound) (steps count : ℕ) : Type 0 where
  pub run : HistoryRun
  pub has : run.mirrored ≡ mirrored
  pub finds : run.found ≡ found
  pub shows : run_notes p f run ≡ take count (run_notes p f (record { mirrored = mirrored; found = found; steps = steps; shown = 0 }))

abbrev pub FrontsAreRuns : Type 0
FrontsAreRuns = (p : Params) (f : AllFills) (mirrored : Bool) (found : RunFound) (steps count : ℕ) → IsFrontOfRun p f mirrored found steps count
