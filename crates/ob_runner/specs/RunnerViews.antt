-- What a runner of a script is seen as.
use Rattle.std.specs.Prelude.{ℕ, List}
use Rattle.ob_desk.specs.Desk.{Call, Reply}
use Rattle.ob_script.specs.Script.{ScriptTxn}
use Rattle.ob_runner.specs.declared.runner.ScriptRunner.{ScriptRunner}
use Rattle.ob_script.specs.ScriptViews.{script_of}
use Rattle.ob_runner.specs.Places.{RunnerState, Fits}

abbrev pub runner_state : ScriptRunner → RunnerState
runner_state r = record { client = r.client; keys = r.keys; script = script_of r.txns.items; at = r.at; place = r.place }

-- its client, a number above its keys, the transactions that it makes the calls of, and whether it may have made these calls
abbrev pub client_of : ScriptRunner → ℕ
client_of r = (runner_state r).client

abbrev pub bound_of : ScriptRunner → ℕ
bound_of r = (runner_state r).keys

abbrev pub plan_of : ScriptRunner → List ScriptTxn
plan_of r = (runner_state r).script

abbrev pub MayHaveMade : ScriptRunner → List (Call × Reply) → Type 0
MayHaveMade r said = Fits (runner_state r) said
