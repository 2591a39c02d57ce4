-- A client: its pass at a hall, and the runner that makes its calls.
use Rattle.std.specs.Prelude.{◌≡◌, ◌≤◌, ◌⊎◌, ℕ}
use Rattle.ob_session.specs.Clients.{stands_after}
use Rattle.ob_session.specs.declared.runner.Step.TheVariants.{Done}
use Rattle.ob_hall.specs.Passes.{Steps, Hall, Pass, opening_of, said_of}
use Rattle.ob_hall.specs.Calling.{IsReady, TellsCalls}
use Rattle.ob_hall.specs.Driving.{DriveSays, StepRule, MakesSteps}

-- what a kind of runner says of one: its client's number, a number above its keys, what it is to do, whether these are all calls that it has made, and which steps it may make by what it is to do
pub record Words (U Plan : Type 0) : Type 1 where
  pub client : U → ℕ
  pub bound : U → ℕ
  pub plan : U → Plan
  pub fits : U → Steps → Type 0
  pub turn : Plan → StepRule

abbrev pub words : {U Plan : Type 0} → (U → ℕ) → (U → ℕ) → (U → Plan) → (U → Steps → Type 0) → (Plan → StepRule) → Words U Plan
words client bound plan fits turn = record { client = client; bound = bound; plan = plan; fits = fits; turn = turn }

-- The pass is in no turn. The runner is of the pass's client, names keys of the hall's alone, and has made just the client's calls that the pass has.
pub record IsClient {U Plan : Type 0} (w : Words U Plan) (hall : Hall) (client : Pass × U) : Type 0 where
  pub ready : IsReady hall client.0
  pub named : w.client client.1 ≡ client.0.client
  pub below : w.bound client.1 ≤ (opening_of hall).setup.params.keys
  pub fits : w.fits client.1 (said_of client.0)

-- The pass has made calls, all of its client's, or `stop` for want of memory; and the runner has made them, in steps that are by what it is to do. That stays.
pub record MakesOwnSteps {U Plan : Type 0} (w : Words U Plan) (hall : Hall) (before after : Pass × U) : Type 0 where
  pub made : TellsCalls hall before.0 after.0 (DriveSays before.0.client)
  pub turns : MakesSteps (w.turn (w.plan before.1)) before.0 after.0
  pub is_client : IsClient w hall after
  pub client : w.client after.1 ≡ w.client before.1
  pub bound : w.bound after.1 ≡ w.bound before.1
  pub plan : w.plan after.1 ≡ w.plan before.1

-- The last of them is the client's sign-off.
pub record StepsToSignOff {U Plan : Type 0} (w : Words U Plan) (hall : Hall) (before after : Pass × U) : Type 0 where
  pub goes_on : MakesOwnSteps w hall before after
  pub signed_off : stands_after (said_of after.0) ≡ Done

-- no call was made, or some
abbrev pub IsLater : {U Plan : Type 0} → Words U Plan → Hall → Pass × U → Pass × U → Type 0
IsLater w hall before after = (after ≡ before) ⊎ MakesOwnSteps w hall before after
