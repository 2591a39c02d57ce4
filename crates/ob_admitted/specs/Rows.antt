-- A row of runs over a life is a history.
use Rattle.std.specs.Prelude.{◌≡◌, ◌≤◌, ◌⊎◌, ℕ, Bool, false, cond, List, [], ◌∷◌, ◌++◌, length, take, Some}
use Rattle.std.specs.List.{flat_map}
use Rattle.ob_base.specs.declared.params.Params.{Params}
use Rattle.ob_store.specs.declared.watch.Note.{Note}
use Rattle.ob_schedule.specs.Schedule.{format_notes}
use Rattle.ob_schedule.specs.declared.line.Line.{Line}
use Rattle.ob_schedule.specs.declared.line.Line.TheVariants as L
use Rattle.ob_recover.specs.Life.{WordId, LifeAct, LifeState, formatted_life, reached}
use Rattle.ob_histories.specs.Fills.{AllFills, AreAllFills}
use Rattle.ob_histories.specs.Histories.{IsHistory, MayFind, lines_of_notes}
use Rattle.ob_histories.specs.Laws.{AreAdmitted}
use Rattle.ob_histories.specs.Runs.{HistoryRun, RunFound, is_settled, opening_reads, opening_step, run_notes}
use Rattle.ob_admitted.specs.Wholes.{found_of_life}

-- What is found behind a run of a history that showed its first sync is what it leaves; behind one that stopped before, what that found.
abbrev pub LeavesFound : Params → AllFills → HistoryRun → RunFound → Type 0
LeavesFound p f run next = cond (is_settled p f run.mirrored run.found run.steps run.shown) (MayFind p f (Some run) next) (next ≡ run.found)

-- a run's notes, where a life is and these gates are found: a run of a history without a mirror shows them, which finds the life there
pub record IsRunShown (p : Params) (f : AllFills) (s : LifeState) (found : ℕ → Bool) (notes : List Note) : Type 0 where
  pub run : HistoryRun
  pub alone : run.mirrored ≡ false
  pub finds : run.found ≡ found_of_life p s found
  pub shows : notes ≡ run_notes p f run

-- An opening that found this stopped before its first sync: it showed some of its reads.
pub record IsBarelyOpened (p : Params) (f : AllFills) (x : RunFound) (notes : List Note) : Type 0 where
  pub count : ℕ
  pub few : count ≤ length (opening_reads p f false x)
  pub shows : notes ≡ take count (opening_step p f false x)

-- So did some behind a run, each of which found something that the run leaves.
abbrev pub AreBarelyOpened : Params → AllFills → HistoryRun → List (List Note) → Type 0
AreBarelyOpened p f run [] = Unit {0}
AreBarelyOpened p f run (notes ∷ more) = ((x : RunFound) × LeavesFound p f run x × IsBarelyOpened p f x notes) × AreBarelyOpened p f run more

-- a run's notes, and those of openings behind it that stopped before their first sync; and of all these the notes, run by run
abbrev pub RunNotes : Type 0
RunNotes = List Note × List (List Note)

abbrev pub rows_of : List RunNotes → List (List Note)
rows_of runs = flat_map (λ run. run.0 ∷ run.1) runs

-- Each run's notes are shown so, and those of the openings that only read behind it. Where another run comes behind these, with the run's
-- acts the life goes on to where that finds it, with the gates that it finds.
abbrev pub AreRunsShown : Params → (WordId → ℕ) → AllFills → LifeState → (ℕ → Bool) → List RunNotes → Type 0
AreRunsShown p word_of f s found [] = Unit {0}
AreRunsShown p word_of f s found (notes ∷ rest) = (one : IsRunShown p f s found notes.0) × AreBarelyOpened p f one.run notes.1
    × ((rest ≡ []) ⊎ ((acts : List LifeAct) × (next : ℕ → Bool) × LeavesFound p f one.run (found_of_life p (reached p word_of s acts) next) × AreRunsShown p word_of f (reached p word_of s acts) next rest))

-- a format's line and notes, and those of runs behind it
abbrev pub lines_of_runs : Params → List (List Note) → List Line
lines_of_runs p rows = L.Start p ∷ lines_of_notes (format_notes p) ++ flat_map (λ notes. L.Open false ∷ lines_of_notes notes) rows

-- behind a format, whose registers' next gates are closed
abbrev pub RowsAreAdmitted : Type 0
RowsAreAdmitted = (p : Params) (word_of : WordId → ℕ) (slot : ℕ → ℕ → ℕ) (f : AllFills) (found : ℕ → Bool) (runs : List RunNotes) → AreAllFills p f → (found_of_life p (formatted_life slot) found).generation_gate ≡ false
    → (found_of_life p (formatted_life slot) found).epoch_gate ≡ false → AreRunsShown p word_of f (formatted_life slot) found runs → IsHistory p (lines_of_runs p (rows_of runs)) × AreAdmitted (lines_of_runs p (rows_of runs))
