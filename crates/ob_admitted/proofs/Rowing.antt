-- A row of runs is a history.
use Rattle.std.specs.Prelude.{◌≡◌, ◌⊎◌, ℕ, Bool, true, false, cond, List, [], ◌∷◌, ◌++◌, length, Option, Some, None}
use Rattle.std.specs.List.{flat_map}
use Rattle.std.proofs.Common.{refl, sym, ap, subst, inl, inr}
use Rattle.std.proofs.lemmas.Bool.{le-ltb}
use Rattle.std.proofs.lemmas.List.{append-nil}
use Rattle.ob_base.specs.declared.params.Params.{Params}
use Rattle.ob_store.specs.declared.watch.Note.{Note}
use Rattle.ob_schedule.specs.Schedule.{format_notes}
use Rattle.ob_schedule.specs.declared.line.Line.{Line}
use Rattle.ob_schedule.specs.declared.line.Line.TheVariants as L
use Rattle.ob_recover.specs.Life.{WordId, LifeAct, LifeState, formatted_life, reached}
use Rattle.ob_histories.specs.Fills.{AllFills, AreAllFills}
use Rattle.ob_histories.specs.Histories.{AreRunsBehind, IsHistory, MayFind, found_formatted, lines_of_notes, run_lines}
use Rattle.ob_histories.specs.Laws.{AreAdmitted}
use Rattle.ob_histories.specs.Runs.{HistoryRun, RunFound, is_settled, opening_reads}
use Rattle.ob_histories.proofs.Admitting as histories
use Rattle.ob_admitted.specs.Rows.{AreBarelyOpened, AreRunsShown, IsBarelyOpened, IsRunShown, LeavesFound, RowsAreAdmitted, RunNotes, lines_of_runs, rows_of}
use Rattle.ob_admitted.specs.Wholes.{found_of_life}

abbrev pub lines_of_row : List Note → List Line
lines_of_row notes = L.Open false ∷ lines_of_notes notes

module _ (p : Params) (word_of : WordId → ℕ) (f : AllFills) where
  -- what the next run finds goes on behind the last one that settled
  pub goes_on : (run : HistoryRun) (last : Option HistoryRun) (next : RunFound) (settled : Bool) → MayFind p f last run.found → cond settled (MayFind p f (Some run) next) (next ≡ run.found) → MayFind p f (cond settled (Some run) last) next
  goes_on run last next true before left = left
  goes_on run last next false before left = subst (λ (x : RunFound). MayFind p f last x) (sym left) before

  abbrev pub Row : Option HistoryRun → List (List Note) → Type 0
  Row last rows = (runs : List HistoryRun) × (AreRunsBehind p f last runs × (flat_map lines_of_row rows ≡ flat_map (run_lines p f) runs))

  -- a run, and behind it what goes on from there
  pub run_one : (s : LifeState) (found : ℕ → Bool) (notes : List Note) (one : IsRunShown p f s found notes) (last : Option HistoryRun) → MayFind p f last (found_of_life p s found) → (rows : List (List Note))
      → Row (cond (is_settled p f one.run.mirrored one.run.found one.run.steps one.run.shown) (Some one.run) last) rows → Row last (notes ∷ rows)
  run_one s found notes one last may rows later = (
    one.run ∷ later.0,
    ((subst (λ (x : RunFound). MayFind p f last x) (sym one.finds) may, later.1.0), (λ i. (L.Open (sym one.alone i) ∷ lines_of_notes (one.shows i)) ++ later.1.1 i)),
  )

  -- openings that only read are runs of a history too, and leave what may be found behind them as it was
  pub barely_one : (last : Option HistoryRun) (x : RunFound) → MayFind p f last x → (notes : List Note) → IsBarelyOpened p f x notes → (rows : List (List Note)) → Row last rows → Row last (notes ∷ rows)
  barely_one last x may notes is rows later =
      let one : HistoryRun = record { mirrored = false; found = x; steps = 0; shown = is.count } in
      let unsettled : is_settled p f false x 0 is.count ≡ false = le-ltb (length (opening_reads p f false x)) is.count is.few in
      (one ∷ later.0, ((may, subst (λ (b : Bool). AreRunsBehind p f (cond b (Some one) last) later.0) (sym unsettled) later.1.0), (λ i. lines_of_row (is.shows i) ++ later.1.1 i)))

  barely_go : (run : HistoryRun) (last : Option HistoryRun) → ((x : RunFound) → LeavesFound p f run x → MayFind p f last x) → (barely : List (List Note)) → AreBarelyOpened p f run barely → (rows : List (List Note)) → Row last rows → Row last (barely ++ rows)
  barely_go run last may [] are rows later = later
  barely_go run last may (notes ∷ more) ((x, leaves, is), rest) rows later = barely_one last x (may x leaves) notes is (more ++ rows) (barely_go run last may more rest rows later)

  rows_go : (runs : List RunNotes) (s : LifeState) (found : ℕ → Bool) (last : Option HistoryRun) → MayFind p f last (found_of_life p s found) → AreRunsShown p word_of f s found runs → Row last (rows_of runs)
  rows_go [] s found last may shown = ([], (tt, refl))
  rows_go (notes ∷ runs) s found last may (one, barely, behind) =
      let here : MayFind p f last one.run.found = subst (λ (x : RunFound). MayFind p f last x) (sym one.finds) may in
      let settled : Bool = is_settled p f one.run.mirrored one.run.found one.run.steps one.run.shown in
      let after : Option HistoryRun = cond settled (Some one.run) last in
      let may_then : (x : RunFound) → LeavesFound p f one.run x → MayFind p f after x = (λ x left. goes_on one.run last x settled here left) in
      let later : Row after (rows_of runs) = rows_then after may_then (λ u gates begins rest. rows_go runs u gates after begins rest) behind in
      let all = barely_go one.run after may_then notes.1 barely (rows_of runs) later in
      run_one s found notes.0 one last may (notes.1 ++ rows_of runs) all
    where
      rows_then : (after : Option HistoryRun) → ((x : RunFound) → LeavesFound p f one.run x → MayFind p f after x)
          → ((u : LifeState) (gates : ℕ → Bool) → MayFind p f after (found_of_life p u gates) → AreRunsShown p word_of f u gates runs → Row after (rows_of runs))
          → ((runs ≡ []) ⊎ ((acts : List LifeAct) × (next : ℕ → Bool) × LeavesFound p f one.run (found_of_life p (reached p word_of s acts) next) × AreRunsShown p word_of f (reached p word_of s acts) next runs)) → Row after (rows_of runs)
      rows_then after may_then go (inl none) = subst (λ (rest : List RunNotes). Row after (rows_of rest)) (sym none) ([], (tt, refl))
      rows_then after may_then go (inr (acts, next, left, rest)) = go (reached p word_of s acts) next (may_then (found_of_life p (reached p word_of s acts) next) left) rest

-- a row behind a format is a history, and so it is admitted
pub row_is : (p : Params) (word_of : WordId → ℕ) (f : AllFills) → AreAllFills p f → (rows : List (List Note)) → Row p word_of f None rows → IsHistory p (lines_of_runs p rows) × AreAdmitted (lines_of_runs p rows)
row_is p word_of f filled rows row =
    let is : IsHistory p (lines_of_runs p rows) = record { fills = f; runs = row.0; filled = filled; found = row.1.0; are = ap (λ (lines : List Line). L.Start p ∷ lines_of_notes (format_notes p) ++ lines) row.1.1 } in
    (is, subst (λ (lines : List Line). AreAdmitted lines) (append-nil (lines_of_runs p rows)) (histories.admitted (lines_of_runs p rows ∷ []) ((p, inl is), tt)))

pub rows_are : RowsAreAdmitted
rows_are p word_of slot f found runs filled generation_gate epoch_gate shown =
    let formatted : found_of_life p (formatted_life slot) found ≡ found_formatted = (λ i. record { epoch = 0; generation = 1; records = 0; generation_gate = generation_gate i; epoch_gate = epoch_gate i }) in
    row_is p word_of f filled (rows_of runs) (rows_go p word_of f runs (formatted_life slot) found None formatted shown)
