-- What a runner calls in its turns.
use Rattle.std.specs.Prelude.{ℕ, ◌≡◌, All, List, [], ◌∷◌, ◌++◌}
use Rattle.ob_session.specs.Steps.{IsOwn}
use Rattle.ob_session.specs.Clients.{said_by, IsOneCall}
use Rattle.ob_turn.specs.declared.turn.Entry.{Entry}
use Rattle.ob_hall.specs.Passes.{Steps, Pass, entries_by, calls_in, said_of}

-- one call of its client's, or none behind its sign-off; and `stop` for want of memory
abbrev pub TurnSays : ℕ → Steps → Steps → Type 0
TurnSays number said calls = All (IsOwn number) calls × IsOneCall said calls

-- calls of its client's, and `stop` for want of memory
abbrev pub DriveSays : ℕ → Steps → Type 0
DriveSays number calls = All (IsOwn number) calls

-- What a client may call in a step: by its number, all that it said before, and its calls in the step.
abbrev pub StepRule : Type 1
StepRule = ℕ → Steps → Steps → Type 0

-- The pass made one entry, a step by this rule behind all that its client said before.
pub record MakesStep (rule : StepRule) (before after : Pass) : Type 0 where
  pub step : Entry Steps
  pub made : entries_by after ≡ entries_by before ++ step ∷ []
  pub keeps : rule before.client (said_of before) (calls_in (step ∷ []))

-- Each of these entries is a step by this rule, behind all that the client said before.
abbrev pub AreSteps : StepRule → ℕ → Steps → List (Entry Steps) → Type 0
AreSteps rule client said [] = Unit {0}
AreSteps rule client said (step ∷ steps) = rule client said (calls_in (step ∷ [])) × AreSteps rule client (said ++ said_by client (calls_in (step ∷ []))) steps

-- So is each entry that the pass made.
pub record MakesSteps (rule : StepRule) (before after : Pass) : Type 0 where
  pub new : List (Entry Steps)
  pub made : entries_by after ≡ entries_by before ++ new
  pub keep : AreSteps rule before.client (said_of before) new
