-- In each of a row of runs other calls of the same shapes would have drawn what shows the row's very notes and phases, from what a vault keeps
-- to itself in one life on one other tape.
use Rattle.std.specs.Prelude.{◌≡◌, ℕ, ◌<◌, ◌≤◌, List, [], ◌∷◌, ◌++◌, length, map, Option, None, Some, ⊤}
use Rattle.ob_base.specs.declared.params.Params.{Params}
use Rattle.ob_deniable.specs.Telling.{fills_of_acts}
use Rattle.ob_deniable.specs.Works.{LifeWork, acts_of, words_moved}
use Rattle.ob_deniable_runs.specs.OtherCalls.{AreOtherRuns, IsWorkOfRuns, OtherRun}
use Rattle.ob_deniable_runs.specs.Tapes.{AreVersionsUntied, CouldBeDone}
use Rattle.ob_recover.specs.Known.{public_of_kept}
use Rattle.ob_recover.specs.Life.{LifeAct, LifeState, ShowLifts, WordId, formatted_life, reached}
use Rattle.ob_schedule.specs.Schedule.{Fills}
use Rattle.ob_seal.specs.declared.keys.Keys.{Keys}
use Rattle.ob_serial.specs.Vaults.{End, Fetch, VaultCall}
use Rattle.ob_store.specs.Disk.{Disk}
use Rattle.ob_vault.specs.Acts.{AreTapeWords}
use Rattle.ob_vault.specs.Hidden.{RingDrawsCut, RingHidden}
use Rattle.ob_vault.specs.Joined.{IsOneLife, RunPart, Served, Stopped}
use Rattle.ob_vault.specs.KindShown.{AreDrawn, public_behind, steps_notes, steps_phases}
use Rattle.ob_vault.specs.Lives.{AreShowing, opening_acts}
use Rattle.ob_vault.specs.RingKind.{RingFound, ring_hidden, ring_kind, ring_public}
use Rattle.ob_vault.specs.Seen.{RingPublic, ring_notes, ring_phases}
use Rattle.ob_vault.specs.Shapes.{Shape, shape_of}
use Rattle.ob_vault.specs.Shown.{AreShownBy, IsInLife}
use Rattle.ob_deniable_draws.specs.Fit.{AreCallsFit, IsCallFit}

-- ---- the row and the other calls

-- each run's answered calls drew its steps
abbrev pub AreRowDrawn : {S : Type 0} → Params → List (RunPart S) → Type 0
AreRowDrawn p [] = ⊤
AreRowDrawn p (Served most old found opened calls steps behind refused words seen new ∷ parts) = (map (λ step. step.0) steps ≡ map shape_of calls) × AreDrawn ring_kind p (ring_hidden found) calls steps behind × AreRowDrawn p parts
AreRowDrawn p (Stopped old new ∷ parts) = AreRowDrawn p parts

abbrev pub IsRefusedFit : Params → Option VaultCall → Type 0
IsRefusedFit p None = ⊤
IsRefusedFit p (Some call) = IsCallFit p call

abbrev pub AreRunsFit : Params → List OtherRun → Type 0
AreRunsFit p [] = ⊤
AreRunsFit p (run ∷ runs) = AreCallsFit p run.calls × IsRefusedFit p run.refused × AreRunsFit p runs

-- ---- one run

-- Where the other life is behind the opening, and where these acts lead it, something is hidden, and from the one to the other the other
-- calls draw steps of their own, filled by what their acts show. What is hidden before them is in the run's epoch and generation, with no word and no seal of that, behind
-- as many records; what is public of it is what is public of the run; and the notes and the phases of the steps are the row's.
pub record IsDrawnLikewise (p : Params) (tape : WordId → ℕ) (s : LifeState) (found : RingFound) (steps : List (Shape × Fills)) (others : List VaultCall) (acts : List LifeAct) : Type 0 where
  pub before : RingHidden
  pub behind : RingHidden
  pub other_steps : List (Shape × Fills)
  pub shapes : map (λ step. step.0) other_steps ≡ map shape_of others
  pub starts : IsInLife p tape before s
  pub drawn : AreDrawn ring_kind p before others other_steps behind
  pub ends : IsInLife p tape behind (reached p tape s acts)
  pub shown : AreShownBy p tape s others other_steps acts
  pub given : AreTapeWords tape behind.generation behind.words
  pub begun : (before.epoch ≡ (ring_hidden found).epoch) × (before.generation ≡ (ring_hidden found).generation) × (before.words ≡ []) × (before.seals ≡ 0)
  pub public : public_of_kept p before.content before.records before.epoch (found.run).gates ≡ (ring_public p found).known
  pub batches : length before.records ≡ length found.records
  pub notes : steps_notes ring_kind p (ring_public p found) other_steps ≡ steps_notes ring_kind p (ring_public p found) steps
  pub phases : steps_phases ring_kind p (ring_public p found) other_steps ≡ steps_phases ring_kind p (ring_public p found) steps

-- ---- a call that was refused behind them

-- it shows in these acts: a batch with its record, or an end's lifts
abbrev pub IsCutShownBy : VaultCall → List LifeAct → Type 0
IsCutShownBy (Fetch asks) left = AreShowing (Fetch asks) left
IsCutShownBy (End writes) left = (rest : List LifeAct) × (left ≡ ShowLifts ∷ rest)

-- Where it does: whatever fills the row's call may have drawn, there are fills that the other may have drawn, of words that the other tape gives,
-- with the very notes and phases.
abbrev pub IsCutLikewise : Params → (tape : WordId → ℕ) → RingPublic → (behind other_behind : RingHidden) → (refused other : Option VaultCall) → (words : List ℕ) → (left : List LifeAct) → Type 0
IsCutLikewise p tape q behind other_behind (Some call) (Some other) words left = IsCutShownBy other left → (f : Fills) → RingDrawsCut p behind call f words
    → (g : Fills) × (given : List ℕ) × RingDrawsCut p other_behind other g given × AreTapeWords tape other_behind.generation given
    × (ring_notes p q (shape_of other) g ≡ ring_notes p q (shape_of call) f) × (ring_phases p q (shape_of other) g ≡ ring_phases p q (shape_of call) f)
IsCutLikewise p tape q behind other_behind _ _ words left = ⊤

-- ---- the runs

-- run by run along the acts of one life: an opening's, those of the other calls, and those of a call that was refused; or the first acts of an
-- opening that was refused
abbrev pub AreDrawnLikewise : {S : Type 0} → (p : Params) → (tape : WordId → ℕ) → LifeState → List (RunPart S) → List OtherRun → List LifeAct → Type 0
AreDrawnLikewise p tape s [] runs acts = acts ≡ []
AreDrawnLikewise p tape s (Served most old found opened calls steps behind refused words seen new ∷ parts) [] acts = ⊥
AreDrawnLikewise p tape s (Served most old found opened calls steps behind refused words seen new ∷ parts) (run ∷ runs) acts = (called : List LifeAct) × (left : List LifeAct) × (later : List LifeAct) × (acts ≡ opening_acts s ++ (called ++ (left ++ later)))
    × (drawn : IsDrawnLikewise p tape (reached p tape s (opening_acts s)) found steps run.calls called)
    × IsCutLikewise p tape (public_behind ring_kind p (ring_public p found) steps) behind drawn.behind refused run.refused words left
    × AreDrawnLikewise p tape (reached p tape (reached p tape (reached p tape s (opening_acts s)) called) left) parts runs later
AreDrawnLikewise p tape s (Stopped old new ∷ parts) runs acts = (first : List LifeAct) × (rest : List LifeAct) × (later : List LifeAct) × (acts ≡ first ++ later) × (opening_acts s ≡ first ++ rest) × AreDrawnLikewise p tape (reached p tape s first) parts runs later

-- ---- the law

-- Where the stash may keep all keys: whatever other calls of the same shapes had been made in these runs, there is a work of theirs that could
-- have been done on one other tape, and on that tape they draw, run by run, what shows the very notes and phases of the row.
abbrev pub DrawsAreDeniable : {S : Type 0} → (S → Disk) → Type 0
DrawsAreDeniable {S} disk = (keys : Keys) (p : Params) (drawn : List ℕ) (parts : List (RunPart S)) (tape : WordId → ℕ) (runs : List OtherRun) → 0 < p.dummies → p.keys ≤ p.room → AreTapeWords tape 1 drawn
    → (one : IsOneLife disk keys p tape drawn parts) → AreVersionsUntied p tape one.slot one.acts → AreRowDrawn p parts → AreOtherRuns p parts runs → AreRunsFit p runs
    → (work : List LifeWork) × IsWorkOfRuns parts runs work × (could : CouldBeDone p tape work (fills_of_acts p tape (formatted_life one.slot) one.acts))
    × AreDrawnLikewise p (words_moved could.ids_back tape) (formatted_life (could.slots 0)) parts runs (acts_of 0 could.slots work)
