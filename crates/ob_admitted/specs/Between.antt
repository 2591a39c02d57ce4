-- What a run of a life leaves to be found is what a history's run leaves.
use Rattle.std.specs.Prelude.{◌≡◌, ◌≤◌, ◌<◌, ◌⊎◌, ℕ, ◌+◌, ◌-◌, Bool, true, false, List, [], ◌∷◌, Option, Some, None, length}
use Rattle.std.proofs.Common.{suc}
use Rattle.ob_base.specs.declared.params.Params.{Params}
use Rattle.ob_schedule.specs.Schedule.{Fills, record_notes}
use Rattle.ob_recover.specs.Life.{WordId, LifeAct, LifeBatch, LifeState, Append, Open, ShowBatch, ShowLifts, End as EndAct, IsLife, reached}
use Rattle.ob_recover.specs.Calls.{repeated}
use Rattle.ob_serial.specs.Vaults.{End, Fetch, VaultCall}
use Rattle.ob_vault.specs.Shapes.{Shape}
use Rattle.ob_vault.specs.Shown.{AreShownBy}
use Rattle.ob_histories.specs.Fills.{AllFills}
use Rattle.ob_histories.specs.Histories.{IsGateLeft, MayFind}
use Rattle.ob_histories.specs.Runs.{HistoryTurn, RunFound, first_turn, notes_of_turn, opening_step, turn_behind}
use Rattle.ob_admitted.specs.Cuts.{life_behind_calls}
use Rattle.ob_admitted.specs.Repeats.{begin_acts}
use Rattle.ob_admitted.specs.Wholes.{found_of_life, run_of_life}

-- the first acts of the refused call, as far as the next run finds them made; without such a call there are none
abbrev pub AreActsLeft : Option VaultCall → List LifeAct → Type 0
AreActsLeft None more = more ≡ []
AreActsLeft (Some (Fetch asks)) more = (more ≡ []) ⊎ ((r : LifeBatch) × ((more ≡ Append r ∷ []) ⊎ (more ≡ Append r ∷ ShowBatch ∷ [])))
AreActsLeft (Some (End writes)) more =
    ((more ≡ []) ⊎ (more ≡ ShowLifts ∷ [])) ⊎ ((ws : List (ℕ × Option WordId)) × (drawn : ℕ) × (slot : ℕ → ℕ → ℕ) × (more ≡ ShowLifts ∷ EndAct ws drawn slot ∷ []))

-- it may come next: there is a batch left to be fetched, or none
abbrev pub MayComeNext : Params → LifeState → Option VaultCall → Type 0
MayComeNext p s None = Unit {0}
MayComeNext p s (Some (Fetch asks)) = length s.log < p.batches
MayComeNext p s (Some (End writes)) = length s.log ≡ p.batches

-- The refused call showed so many notes. Its record is found only if the write that opens its gate was shown, and it is if the sync behind
-- that was; the epoch's end likewise, and its register's gate is found as closing and opening it leave that. Else that gate stays.
abbrev pub IsFoundAsShown : Params → AllFills → HistoryTurn → Option VaultCall → (count : ℕ) → RunFound → Type 0
IsFoundAsShown p f t None count next = (count ≡ 0) × (next.epoch_gate ≡ t.gate)
IsFoundAsShown p f t (Some (Fetch asks)) count next =
    (next.records ≡ suc t.batch → length (record_notes p 0 t.batch) ≤ suc count) × (length (record_notes p 0 t.batch) ≤ count → next.records ≡ suc t.batch) × (next.epoch_gate ≡ t.gate)
IsFoundAsShown p f t (Some (End writes)) count next =
    (next.epoch ≡ suc t.epoch → (length (notes_of_turn p f t) ≤ suc count) × (next.epoch_gate ≡ true)) × (length (notes_of_turn p f t) ≤ count → next.epoch ≡ suc t.epoch)
    × (next.epoch ≡ t.epoch → IsGateLeft t.gate (length (notes_of_turn p f t) - count) next.epoch_gate)

-- the step of a history's run that comes behind a run's opening, its repeats and the calls that were answered
abbrev pub turn_of_run : Params → LifeState → (ℕ → Bool) → List (Shape × Fills) → HistoryTurn
turn_of_run p s found steps = turn_behind p (first_turn (found_of_life p s found)) (length s.log + length steps)

-- A run of a life began its generation, whose gate stays open. What the next run finds, with the gates that it finds, is what the run leaves
-- that this one shows.
abbrev pub RunsLeaveHistories : Type 0
RunsLeaveHistories = (p : Params) (word_of : WordId → ℕ) (f : AllFills) (s : LifeState) (found next : ℕ → Bool) (calls : List VaultCall) (steps : List (Shape × Fills)) (acts : List LifeAct) → length s.log ≤ p.batches
    → IsLife p word_of (reached p word_of s (begin_acts s (suc s.generation))) acts → AreShownBy p word_of (reached p word_of s (begin_acts s (suc s.generation))) calls steps acts
    → (refused : Option VaultCall) (count : ℕ) (more : List LifeAct) → MayComeNext p (life_behind_calls p word_of s acts) refused → AreActsLeft refused more
    → (found_of_life p (reached p word_of (life_behind_calls p word_of s acts) more) next).generation_gate ≡ true
    → IsFoundAsShown p f (turn_of_run p s found steps) refused count (found_of_life p (reached p word_of (life_behind_calls p word_of s acts) more) next)
    → MayFind p f (Some (record (run_of_life p s found steps) { shown = count })) (found_of_life p (reached p word_of (life_behind_calls p word_of s acts) more) next)

-- ---- openings

-- the first acts of an opening: none, or the generation, and so many repeats
abbrev pub AreOpeningActs : LifeState → List LifeAct → Type 0
AreOpeningActs s made = (made ≡ []) ⊎ ((repeats : ℕ) × (made ≡ Open (suc s.generation) ∷ repeated repeats))

-- An opening showed so many notes. Its generation is found just where the sync behind the write that opens its gate was shown; until then that
-- gate is found as closing and opening it leave it. The other register's gate stays.
pub record IsOpeningFoundAsShown (p : Params) (f : AllFills) (found : RunFound) (count : ℕ) (next : RunFound) : Type 0 where
  pub surely : length (opening_step p f false found) ≤ count → next.generation ≡ suc found.generation
  pub shown : next.generation ≡ suc found.generation → (length (opening_step p f false found) ≤ count) × (next.generation_gate ≡ true)
  pub gate : next.generation ≡ found.generation → IsGateLeft found.generation_gate (length (opening_step p f false found) - count) next.generation_gate
  pub epoch_gate : next.epoch_gate ≡ found.epoch_gate

-- an opening that stopped before its repeats
abbrev pub OpeningsLeaveHistories : Type 0
OpeningsLeaveHistories = (p : Params) (word_of : WordId → ℕ) (f : AllFills) (s : LifeState) (found next : ℕ → Bool) (count : ℕ) (made : List LifeAct) → AreOpeningActs s made
    → IsOpeningFoundAsShown p f (found_of_life p s found) count (found_of_life p (reached p word_of s made) next)
    → MayFind p f (Some (record { mirrored = false; found = found_of_life p s found; steps = 0; shown = count })) (found_of_life p (reached p word_of s made) next)

-- and one that stopped within them, behind whole ones: its generation's gate stays open, and the other register's stays
abbrev pub RepeatsLeaveHistories : Type 0
RepeatsLeaveHistories = (p : Params) (word_of : WordId → ℕ) (f : AllFills) (s : LifeState) (found next : ℕ → Bool) (whole count repeats : ℕ) → whole < length s.log → length s.log ≤ p.batches
    → (found_of_life p (reached p word_of s (Open (suc s.generation) ∷ repeated repeats)) next).generation_gate ≡ true
    → (found_of_life p (reached p word_of s (Open (suc s.generation) ∷ repeated repeats)) next).epoch_gate ≡ (found_of_life p s found).epoch_gate
    → MayFind p f (Some (record { mirrored = false; found = found_of_life p s found; steps = suc whole; shown = count })) (found_of_life p (reached p word_of s (Open (suc s.generation) ∷ repeated repeats)) next)
