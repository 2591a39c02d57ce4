-- What is said of histories.
use Rattle.std.specs.Prelude.{◌≡◌, ◌<◌, ◌⊎◌, ℕ, ◌^◌, List, [], ◌∷◌}
use Rattle.std.specs.List.{flat_map}
use Rattle.ob_base.specs.declared.params.Params.{Params}
use Rattle.ob_schedule.specs.declared.line.Line.{Line}
use Rattle.ob_schedule.specs.declared.line.Line.TheVariants as L
use Rattle.ob_schedule.specs.Follow.{Follow, TakesLine, started}
use Rattle.ob_histories.specs.Fills.{AllFills, AreAllFills}
use Rattle.ob_histories.specs.Histories.{IsHistory, IsCutHistory, AreHistories}
use Rattle.ob_histories.specs.Filled.{TakesFilled, TakesLabelled, HasNoStart}

-- each line may stand behind those before it; what is known at the end
abbrev pub TakesLines : Follow → List Line → Follow → Type 0
TakesLines known [] last = last ≡ known
TakesLines known (line ∷ lines) last = (next : Follow) × TakesLine known line next × TakesLines next lines last

-- there are none, or the first one begins a format
abbrev pub AreAdmitted : List Line → Type 0
AreAdmitted [] = Unit {0}
AreAdmitted (L.Start p ∷ lines) = (last : Follow) × TakesLines (started p) lines last
AreAdmitted (L.Open mirrored ∷ lines) = ⊥
AreAdmitted (L.Note note ∷ lines) = ⊥
AreAdmitted (L.Bad ∷ lines) = ⊥

abbrev pub HistoriesAreAdmitted : Type 0
HistoriesAreAdmitted = (histories : List (List Line)) → AreHistories histories → AreAdmitted (flat_map (λ lines. lines) histories)

-- and lines that are admitted are those of histories, one behind the other
abbrev pub AdmittedAreHistories : Type 0
AdmittedAreHistories = (lines : List Line) → AreAdmitted lines → (histories : List (List Line)) × ((lines ≡ flat_map (λ history. history) histories) × AreHistories histories)

-- What fits behind a format, with labels and slots that these fills have, is a history with just these; or the format was cut short.
abbrev pub FilledAreHistories : Type 0
FilledAreHistories =
    (p : Params) (f : AllFills) (lines : List Line) → AreAllFills p f → TakesFilled p f 0 (started p) lines
    → ((h : IsHistory p (L.Start p ∷ lines)) × (h.fills ≡ f)) ⊎ IsCutHistory p (L.Start p ∷ lines)

-- what fits behind a format has leaves: whichever runs show a place of an epoch, it shows one leaf
abbrev pub LabelsAreLeaves : Type 0
LabelsAreLeaves =
    (p : Params) (lines : List Line) (last : Follow) → HasNoStart lines → TakesLines (started p) lines last
    → (leaf : (epoch batch place : ℕ) → ℕ) × ((epoch batch place : ℕ) → leaf epoch batch place < 2 ^ p.levels) × TakesLabelled leaf 0 (started p) lines
