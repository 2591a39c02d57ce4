-- A run of a life that served calls, with what it showed and what the next one finds.
use Rattle.std.specs.Prelude.{◌≡◌, ◌<◌, ◌≤◌, ◌⊎◌, ℕ, Bool, true, List, [], ◌++◌, Option, Some, None, length, take}
use Rattle.std.proofs.Common.{suc}
use Rattle.ob_base.specs.Tree.{width}
use Rattle.ob_base.specs.declared.params.Params.{Params}
use Rattle.ob_store.specs.declared.watch.Note.{Note}
use Rattle.ob_tables.specs.Rank.{IsRanking}
use Rattle.ob_schedule.specs.Schedule.{Fills, record_notes}
use Rattle.ob_recover.specs.Life.{WordId, LifeAct, LifeState, IsLife, formatted_life, planned_labels, reached}
use Rattle.ob_fresh.specs.PublicLives.{AreEndsShown}
use Rattle.ob_serial.specs.Vaults.{End, Fetch, VaultCall}
use Rattle.ob_vault.specs.Seen.{RingPublic, ring_notes}
use Rattle.ob_vault.specs.Shapes.{Shape, shape_of}
use Rattle.ob_histories.specs.Fills.{AllFills}
use Rattle.ob_admitted.specs.Between.{AreActsLeft, IsFoundAsShown, turn_of_run}
use Rattle.ob_admitted.specs.Cuts.{IsCutFilled, life_behind_calls, public_of_calls}
use Rattle.ob_admitted.specs.Fills.{FillsAll}
use Rattle.ob_admitted.specs.Publics.{AreRecordsWhole}
use Rattle.ob_admitted.specs.Repeats.{begin_acts}
use Rattle.ob_admitted.specs.Rows.{IsRunShown, LeavesFound}
use Rattle.ob_admitted.specs.Wholes.{AreGatesKept, IsRunFilled, found_of_life, notes_of_run}

-- there is a batch left for it, and it showed no more than its record, which has no hole
abbrev pub IsRecordAlone : Params → LifeState → VaultCall → (count : ℕ) → Type 0
IsRecordAlone p s (Fetch asks) count = (length s.log < p.batches) × (count ≤ length (record_notes p 0 (length s.log)))
IsRecordAlone p s (End writes) count = ⊥

-- a call that was refused, if one was, is filled so, or showed its record's notes alone; it showed so many
abbrev pub IsRefusedFilled : Params → (WordId → ℕ) → AllFills → LifeState → Option VaultCall → Fills → (count : ℕ) → Type 0
IsRefusedFilled p word_of f s None c count = count ≡ 0
IsRefusedFilled p word_of f s (Some call) c count = IsCutFilled p word_of f s call c ⊎ IsRecordAlone p s call count

abbrev pub notes_of_refused : Params → RingPublic → Option VaultCall → Fills → (count : ℕ) → List Note
notes_of_refused p q None c count = []
notes_of_refused p q (Some call) c count = take count (ring_notes p q (shape_of call) c)

-- From where the life is, with the gates found then: the run's opening, its repeats, the calls that were answered, and one that was refused,
-- show these notes.
pub record IsServedRun (p : Params) (word_of : WordId → ℕ) (f : AllFills) (s : LifeState) (found : ℕ → Bool) (notes : List Note) : Type 0 where
  pub opening : Fills
  pub gates : ℕ → Bool
  pub calls : List VaultCall
  pub steps : List (Shape × Fills)
  pub made : List LifeAct
  pub refused : Option VaultCall
  pub drawn : Fills
  pub count : ℕ
  pub kept : AreGatesKept p s.epoch found gates
  pub filled : IsRunFilled p word_of f s opening calls steps made
  pub cut : IsRefusedFilled p word_of f (life_behind_calls p word_of s made) refused drawn count
  pub shown : notes ≡ notes_of_run p word_of s opening found gates steps ++ notes_of_refused p (public_of_calls p word_of s gates steps) refused drawn count

-- Behind these acts of it a run finds these gates, and what it finds is as the notes tell.
pub record IsServedLeft (p : Params) (word_of : WordId → ℕ) (f : AllFills) (s : LifeState) (found : ℕ → Bool) (notes : List Note) (run : IsServedRun p word_of f s found notes) (acts : List LifeAct) (next : ℕ → Bool) : Type 0 where
  pub more : List LifeAct
  pub left : AreActsLeft run.refused more
  pub acts_are : acts ≡ (begin_acts s (suc s.generation) ++ run.made) ++ more
  pub stays : (found_of_life p (reached p word_of s acts) next).generation_gate ≡ true
  pub as_shown : IsFoundAsShown p f (turn_of_run p s found run.steps) run.refused run.count (found_of_life p (reached p word_of s acts) next)

-- such a run, and what is left behind these acts for the next one, if there is one
abbrev pub IsServedThen : (p : Params) (word_of : WordId → ℕ) (f : AllFills) (s : LifeState) (found : ℕ → Bool) (next : Option (ℕ → Bool)) (notes : List Note) (acts : List LifeAct) → Type 0
IsServedThen p word_of f s found next notes acts = (run : IsServedRun p word_of f s found notes) × ((gates : ℕ → Bool) → next ≡ Some gates → IsServedLeft p word_of f s found notes run acts gates)

-- Behind these acts of a life from a format on such a run is shown by a run of a history, which leaves what is found behind it.
abbrev pub ServedRunsAreShown : Type 0
ServedRunsAreShown = (p : Params) (word_of : WordId → ℕ) (slot : ℕ → ℕ → ℕ) (before : List LifeAct) (f : AllFills) → ((u : ℕ) → IsRanking (width p) (slot u)) → IsLife p word_of (formatted_life slot) before
    → AreEndsShown p word_of (formatted_life slot) before → AreRecordsWhole p before → FillsAll p word_of f (planned_labels p word_of (reached p word_of (formatted_life slot) before)) []
    → (found : ℕ → Bool) (notes : List Note) (run : IsServedRun p word_of f (reached p word_of (formatted_life slot) before) found notes)
    → (one : IsRunShown p f (reached p word_of (formatted_life slot) before) found notes)
    × ((acts : List LifeAct) (next : ℕ → Bool) → IsServedLeft p word_of f (reached p word_of (formatted_life slot) before) found notes run acts next
    → LeavesFound p f one.run (found_of_life p (reached p word_of (reached p word_of (formatted_life slot) before) acts) next))
