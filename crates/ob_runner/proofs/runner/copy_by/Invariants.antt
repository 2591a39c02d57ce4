use Rattle.std.proofs.Common.{◌≡◌, ◌++◌, drop}
use Rattle.ob_script.specs.Script.{asks_by}
use Rattle.ob_script.specs.ScriptViews.{script_of}
use Rattle.ob_runner.proofs.runner.copy_by.Given as goal

-- those that were copied, and what the rest has of the client
abbrev pub invariant-loop-txn : goal.invariant-loop-txn
invariant-loop-txn l = script_of l.own.items ++ asks_by l.client (script_of (drop l.txn-index l.txns)) ≡ asks_by l.client (script_of l.txns)
