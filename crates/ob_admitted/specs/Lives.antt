-- The runs of a life are a history's.
use Rattle.std.specs.Prelude.{◌≡◌, ◌≤◌, ◌⊎◌, ℕ, Bool, false, cond, true, List, [], ◌∷◌, ◌++◌, take, length}
use Rattle.std.proofs.Common.{suc, inl, inr}
use Rattle.ob_base.specs.Tree.{width}
use Rattle.ob_base.specs.declared.params.Params.{Params}
use Rattle.ob_store.specs.declared.watch.Note.{Note}
use Rattle.ob_tables.specs.Rank.{IsRanking}
use Rattle.ob_schedule.specs.Schedule.{Fills}
use Rattle.ob_recover.specs.Calls.{repeated}
use Rattle.ob_recover.specs.Life.{WordId, LifeAct, LifeState, IsLife, Open, formatted_life, planned_labels, reached}
use Rattle.ob_fresh.specs.PublicLives.{AreEndsShown}
use Rattle.ob_histories.specs.Fills.{AllFills, AreAllFills}
use Rattle.ob_histories.specs.Histories.{IsHistory}
use Rattle.ob_histories.specs.Laws.{AreAdmitted}
use Rattle.ob_histories.specs.Runs.{is_settled, opening_step}
use Rattle.ob_admitted.specs.Between.{AreOpeningActs, IsOpeningFoundAsShown}
use Rattle.ob_admitted.specs.Fills.{FillsAll}
use Rattle.ob_admitted.specs.Publics.{AreRecordsWhole}
use Rattle.ob_admitted.specs.Rows.{IsBarelyOpened, RunNotes, lines_of_runs, rows_of}
use Rattle.ob_admitted.specs.Served.{IsServedLeft, IsServedRun}
use Rattle.ob_admitted.specs.Wholes.{AreGatesKept, IsRunFilled, found_of_life, notes_of_run}

-- A run stopped in its opening, before the batches that it would repeat. Behind its acts the next run finds what the notes tell; or just what
-- this one found, if it stopped before its first sync.
pub record IsStoppedRun (p : Params) (word_of : WordId → ℕ) (f : AllFills) (s : LifeState) (found : ℕ → Bool) (notes : List Note) : Type 0 where
  pub opening : Fills
  pub gates : ℕ → Bool
  pub count : ℕ
  pub kept : AreGatesKept p s.epoch found gates
  pub filled : IsRunFilled p word_of f s opening [] [] []
  pub short : count ≤ length (opening_step p f false (found_of_life p s found))
  pub shown : notes ≡ take count (notes_of_run p word_of s opening found gates [])

-- Behind its acts a run finds these gates, and what the notes tell; or just what this one found, if it stopped before its first sync.
pub record IsStoppedLeft (p : Params) (word_of : WordId → ℕ) (f : AllFills) (s : LifeState) (found : ℕ → Bool) (count : ℕ) (acts : List LifeAct) (next : ℕ → Bool) : Type 0 where
  pub first : AreOpeningActs s acts
  pub as_shown : cond (is_settled p f false (found_of_life p s found) 0 count) (IsOpeningFoundAsShown p f (found_of_life p s found) count (found_of_life p (reached p word_of s acts) next))
      (found_of_life p (reached p word_of s acts) next ≡ found_of_life p s found)

-- A run stopped behind its opening, within the batches that it repeats or behind them, and has made none of its calls.
pub record IsRepeatedRun (p : Params) (word_of : WordId → ℕ) (f : AllFills) (s : LifeState) (found : ℕ → Bool) (notes : List Note) : Type 0 where
  pub opening : Fills
  pub gates : ℕ → Bool
  pub count : ℕ
  pub kept : AreGatesKept p s.epoch found gates
  pub filled : IsRunFilled p word_of f s opening [] [] []
  pub begun : length (opening_step p f false (found_of_life p s found)) ≤ count
  pub shown : notes ≡ take count (notes_of_run p word_of s opening found gates [])

-- It has begun its generation, whose gate stays open, and the other register's stays.
pub record IsRepeatedLeft (p : Params) (word_of : WordId → ℕ) (s : LifeState) (found : ℕ → Bool) (acts : List LifeAct) (next : ℕ → Bool) : Type 0 where
  pub again : ℕ
  pub acts_are : acts ≡ Open (suc s.generation) ∷ repeated again
  pub stays : (found_of_life p (reached p word_of s acts) next).generation_gate ≡ true
  pub epoch_stays : (found_of_life p (reached p word_of s acts) next).epoch_gate ≡ (found_of_life p s found).epoch_gate

module _ (p : Params) (word_of : WordId → ℕ) (f : AllFills) (s : LifeState) (found : ℕ → Bool) (notes : List Note) where
  abbrev pub IsRunInRow : Type 0
  IsRunInRow = IsServedRun p word_of f s found notes ⊎ (IsStoppedRun p word_of f s found notes ⊎ IsRepeatedRun p word_of f s found notes)

  -- behind these acts of it a run may find these gates
  abbrev pub IsLeftInRow : IsRunInRow → (acts : List LifeAct) → (next : ℕ → Bool) → Type 0
  IsLeftInRow (inl run) acts next = IsServedLeft p word_of f s found notes run acts next
  IsLeftInRow (inr (inl run)) acts next = IsStoppedLeft p word_of f s found run.count acts next
  IsLeftInRow (inr (inr run)) acts next = IsRepeatedLeft p word_of s found acts next

  -- and so may each of these openings, which stopped before their first sync: one may find an act that was in flight, and the next one not
  abbrev pub AreBarelyInRow : IsRunInRow → List (List Note) → Type 0
  AreBarelyInRow run [] = Unit {0}
  AreBarelyInRow run (barely ∷ more) = ((acts : List LifeAct) × (next : ℕ → Bool) × IsLeftInRow run acts next × IsBarelyOpened p f (found_of_life p (reached p word_of s acts) next) barely) × AreBarelyInRow run more

-- these acts are a life's from a format on, with whole records and ends behind all their batches, and its labels' leaves are these fills'
pub record IsLifeFilled (p : Params) (word_of : WordId → ℕ) (slot : ℕ → ℕ → ℕ) (f : AllFills) (before : List LifeAct) : Type 0 where
  pub life : IsLife p word_of (formatted_life slot) before
  pub ends : AreEndsShown p word_of (formatted_life slot) before
  pub whole : AreRecordsWhole p before
  pub filled : FillsAll p word_of f (planned_labels p word_of (reached p word_of (formatted_life slot) before)) []

-- runs that served calls or stopped, one behind the other, each where the life is behind the acts of those before it, with the gates that
-- it finds there; and behind each the openings that only read
abbrev pub AreRunsInLife : Params → (WordId → ℕ) → (ℕ → ℕ → ℕ) → AllFills → (before : List LifeAct) → (ℕ → Bool) → List RunNotes → Type 0
AreRunsInLife p word_of slot f before found [] = Unit {0}
AreRunsInLife p word_of slot f before found (notes ∷ rest) = IsLifeFilled p word_of slot f before × (run : IsRunInRow p word_of f (reached p word_of (formatted_life slot) before) found notes.0)
    × AreBarelyInRow p word_of f (reached p word_of (formatted_life slot) before) found notes.0 run notes.1
    × ((rest ≡ []) ⊎ ((acts : List LifeAct) × (next : ℕ → Bool) × IsLeftInRow p word_of f (reached p word_of (formatted_life slot) before) found notes.0 run acts next × AreRunsInLife p word_of slot f (before ++ acts) next rest))

-- behind a format, whose registers' next gates are closed
abbrev pub LivesAreAdmitted : Type 0
LivesAreAdmitted = (p : Params) (word_of : WordId → ℕ) (slot : ℕ → ℕ → ℕ) (f : AllFills) (found : ℕ → Bool) (runs : List RunNotes) → ((u : ℕ) → IsRanking (width p) (slot u)) → AreAllFills p f
    → (found_of_life p (formatted_life slot) found).generation_gate ≡ false → (found_of_life p (formatted_life slot) found).epoch_gate ≡ false → AreRunsInLife p word_of slot f [] found runs
    → IsHistory p (lines_of_runs p (rows_of runs)) × AreAdmitted (lines_of_runs p (rows_of runs))
