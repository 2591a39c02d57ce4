-- For tests: a hall of two clients, who are made by hand.
use Rattle.std.specs.Prelude.{◌≡◌, ◌≤◌, ℕ, true, List, [], ◌∷◌}
use Rattle.ob_base.specs.declared.params.Params.{Params}
use Rattle.ob_desk.specs.Desk.{new_desk, setup_of}
use Rattle.ob_hall.specs.Passes.{Hall, Pass, opening_of, may_raise, said_of}
use Rattle.ob_hall.specs.Opening.{IsFreshPass}
use Rattle.ob_hall.specs.Calling.{IsReady}
use Rattle.ob_runner.specs.Places.{Fits}
use Rattle.ob_runner.specs.RunnerViews.{runner_state}
use Rattle.ob_runner.specs.declared.runner.ScriptRunner.{ScriptRunner}

abbrev pub two_clients : List ℕ
two_clients = 1 ∷ 2 ∷ []

-- the pass of a client that has made no call, at a hall with these keys
pub record IsNewClient (hall : Hall) (number : ℕ) (pass : Pass) (keys : ℕ) : Type 0 where
  pub ready : IsReady hall pass
  pub client : pass.client ≡ number
  pub unsaid : said_of pass ≡ []
  pub below : keys ≤ (opening_of hall).setup.params.keys

-- a pass with the runner of its client, which made just its calls
pub record IsSeated (hall : Hall) (pass : Pass) (runner : ScriptRunner) : Type 0 where
  pub ready : IsReady hall pass
  pub client : (runner_state runner).client ≡ pass.client
  pub below : (runner_state runner).keys ≤ (opening_of hall).setup.params.keys
  pub fits : Fits (runner_state runner) (said_of pass)

-- the driver's pass and those of two clients, at a hall whose desk was made so
pub record AreTwoPasses (hall : Hall) (p : Params) (epoch left : ℕ) (driver first second : Pass) : Type 0 where
  pub opening : opening_of hall ≡ new_desk (setup_of p) epoch left two_clients
  pub fresh : IsFreshPass hall 0 driver
  pub raises : may_raise driver ≡ true
  pub first_is : IsNewClient hall 1 first p.keys
  pub second_is : IsNewClient hall 2 second p.keys
