-- What the reader of a script, and a script, are seen as.
use Rattle.std.specs.Prelude.{ℕ, List, map, option_map}
use Rattle.ob_base.specs.declared.fault.Fault.{Fault}
use Rattle.ob_base.specs.declared.fault.Fault.TheVariants.{Memory, BadScript}
use Rattle.ob_script.specs.declared.line.ScriptTxn.{ScriptTxn as CodeTxn}
use Rattle.ob_script.specs.declared.reader.Reader.{Reader}
use Rattle.ob_script.specs.Script.{ScriptTxn, Scripts, State, IsFirstBad}

abbrev pub script_txn_of : CodeTxn → ScriptTxn
script_txn_of t = record { client = t.client; asks = t.asks.items; ending = t.ending }

abbrev pub script_of : List CodeTxn → List ScriptTxn
script_of txns = map (λ t. script_txn_of t) txns

abbrev pub scripts_of : ℕ → List ℕ → List CodeTxn → Scripts
scripts_of keys clients txns = record { keys = keys; clients = clients; txns = script_of txns }

abbrev pub state_of : Reader → State
state_of r = record { client = r.client; clients = r.clients.items; done = script_of r.done.items; open_asks = option_map (λ asks. asks.items) r.open_asks }

-- Bytes are refused for their first bad line. Want of memory is free.
abbrev pub IsRefusal : ℕ → List ℕ → Fault → Type 0
IsRefusal n bytes Memory = Unit {0}
IsRefusal n bytes (BadScript line) = IsFirstBad n bytes line
IsRefusal n bytes _ = ⊥
