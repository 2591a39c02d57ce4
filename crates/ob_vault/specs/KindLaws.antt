-- Laws of shapes and phases.
use Rattle.std.specs.Prelude.{◌≡◌, List, [], ◌∷◌, ◌++◌, length, map, None}
use Rattle.ob_serial.specs.Vaults.{VaultCall, Fetch, End, VaultAnswer, Values, Ended}
use Rattle.ob_schedule.specs.Phases.{Phase, events_of_phases}
use Rattle.ob_vault.specs.Shapes.{answered, shape_of, shapes, refused}

abbrev pub EventsJoin : Type 0
EventsJoin = (xs ys : List Phase) → events_of_phases (xs ++ ys) ≡ events_of_phases xs ++ events_of_phases ys

-- each call was answered
abbrev pub AllAnswered : List (VaultCall × VaultAnswer) → Type 0
AllAnswered [] = Unit {0}
AllAnswered ((Fetch keys, Values values) ∷ steps) = AllAnswered steps
AllAnswered ((End writes, Ended) ∷ steps) = AllAnswered steps
AllAnswered (_ ∷ steps) = ⊥

abbrev pub ShapesJoin : Type 0
ShapesJoin = (xs ys : List (VaultCall × VaultAnswer)) → shapes (xs ++ ys) ≡ shapes xs ++ shapes ys

abbrev pub ShapesAreOfAnswered : Type 0
ShapesAreOfAnswered = (steps : List (VaultCall × VaultAnswer)) → shapes steps ≡ map shape_of (answered steps)

abbrev pub AnsweredHaveShapes : Type 0
AnsweredHaveShapes = (steps : List (VaultCall × VaultAnswer)) → AllAnswered steps → length (shapes steps) ≡ length steps

abbrev pub AnsweredAreNotRefused : Type 0
AnsweredAreNotRefused = (steps : List (VaultCall × VaultAnswer)) → AllAnswered steps → refused steps ≡ None
