-- The runners of a script.
use Rattle.std.specs.Prelude.{ℕ, ◌≡◌, All, List, [], map}
use Rattle.ob_runner.specs.declared.runner.ScriptRunner.{ScriptRunner}
use Rattle.ob_runner.specs.RunnerViews.{client_of, bound_of, plan_of, MayHaveMade}
use Rattle.ob_script.specs.Script.{Scripts, asks_by}

-- a runner of its client's transactions in the script, which has made no call
pub record IsNewOf (scripts : Scripts) (r : ScriptRunner) : Type 0 where
  pub bound : bound_of r ≡ scripts.keys
  pub plan : plan_of r ≡ asks_by (client_of r) scripts.txns
  pub fits : MayHaveMade r []

-- They are the runners of these clients, in order, and have made no call.
pub record AreRunnersOf (scripts : Scripts) (clients : List ℕ) (runners : List ScriptRunner) : Type 0 where
  pub clients_are : map client_of runners ≡ clients
  pub new : All (IsNewOf scripts) runners

-- the runners of all its clients
abbrev pub AreRunners : Scripts → List ScriptRunner → Type 0
AreRunners scripts runners = AreRunnersOf scripts scripts.clients runners
