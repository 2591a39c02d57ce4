-- A run's calls are turns of a history.
use Rattle.std.specs.Prelude.{◌≡◌, ◌≤◌, ℕ, ◌+◌, Bool, true, List, [], ◌∷◌, length}
use Rattle.ob_base.specs.Layout.{EpochTwin}
use Rattle.ob_base.specs.Tree.{width}
use Rattle.ob_base.specs.declared.params.Params.{Params}
use Rattle.ob_tables.specs.Rank.{IsRanking}
use Rattle.ob_schedule.specs.Schedule.{Fills, gate_cell}
use Rattle.ob_recover.specs.Life.{WordId, LifeAct, LifeState, IsLife, formatted_life, life_slots, planned_labels, reached}
use Rattle.ob_recover.specs.LifePublic.{public_in}
use Rattle.ob_fresh.specs.PublicLives.{AreEndsShown}
use Rattle.ob_serial.specs.Vaults.{VaultCall}
use Rattle.ob_vault.specs.KindShown.{steps_notes}
use Rattle.ob_vault.specs.RingKind.{ring_kind}
use Rattle.ob_vault.specs.Seen.{RingPublic}
use Rattle.ob_vault.specs.Shapes.{Shape, shape_of}
use Rattle.ob_vault.specs.Shown.{AreShownBy}
use Rattle.ob_histories.specs.Fills.{AllFills}
use Rattle.ob_histories.specs.Runs.{HistoryTurn, notes_from}
use Rattle.ob_admitted.specs.Fills.{FillsAll}
use Rattle.ob_admitted.specs.Publics.{AreRecordsWhole}

-- each step is its call's
abbrev pub AreStepsOf : List VaultCall → List (Shape × Fills) → Type 0
AreStepsOf [] [] = Unit {0}
AreStepsOf (call ∷ calls) (step ∷ steps) = (step.0 ≡ shape_of call) × AreStepsOf calls steps
AreStepsOf [] (step ∷ steps) = ⊥
AreStepsOf (call ∷ calls) [] = ⊥

-- what is public of a life whose log was shown in this attempt, with these gates open
abbrev pub public_of_life : Params → (WordId → ℕ) → LifeState → (ℕ → Bool) → RingPublic
public_of_life p word_of s gates = record { known = public_in p word_of s gates; shown = length s.log }

-- and the turn that comes next, where so many records were repeated
abbrev pub turn_of_life : Params → LifeState → (records : ℕ) → (ℕ → Bool) → HistoryTurn
turn_of_life p s records gates = record { epoch = s.epoch; batch = length s.log; records = records; gate = gates (gate_cell p EpochTwin (s.epoch + 1)) }

-- Calls that make the acts of a life, filled as these show them, show the turns of a history with the life's fills. The gate of the durable
-- epoch is known to be open.
abbrev pub CallsShowTurns : Params → (WordId → ℕ) → AllFills → LifeState → Type 0
CallsShowTurns p word_of f s = (records : ℕ) (gates : ℕ → Bool) (calls : List VaultCall) (steps : List (Shape × Fills)) (acts : List LifeAct)
    → s.begun ≡ length s.log → records ≤ length s.log → gates (gate_cell p EpochTwin s.epoch) ≡ true → IsLife p word_of s acts → AreRecordsWhole p acts
    → AreStepsOf calls steps → AreShownBy p word_of s calls steps acts → FillsAll p word_of f (planned_labels p word_of (reached p word_of s acts)) (life_slots p word_of s acts)
    → steps_notes ring_kind p (public_of_life p word_of s gates) steps ≡ notes_from p f (turn_of_life p s records gates) (length steps) 0

-- behind these acts of a life from a format on
abbrev pub CallsAreTurns : Type 0
CallsAreTurns = (p : Params) (word_of : WordId → ℕ) (slot : ℕ → ℕ → ℕ) (before : List LifeAct) (f : AllFills) → ((u : ℕ) → IsRanking (width p) (slot u)) → IsLife p word_of (formatted_life slot) before
    → AreEndsShown p word_of (formatted_life slot) before → AreRecordsWhole p before → FillsAll p word_of f (planned_labels p word_of (reached p word_of (formatted_life slot) before)) []
    → CallsShowTurns p word_of f (reached p word_of (formatted_life slot) before)
