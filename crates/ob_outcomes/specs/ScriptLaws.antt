-- Laws of records and scripts.
use Rattle.std.specs.Prelude.{ℕ, ◌≤◌, ◌<◌, All, List, length}
use Rattle.ob_serial.specs.Serial.{TxnRecord, EpochRecord}
use Rattle.ob_session.specs.Clients.{Told}
use Rattle.ob_session.specs.Records.{TellFirst, TellAll}
use Rattle.ob_script.specs.Script.{ScriptTxn, Scripts}
use Rattle.ob_runner.specs.Meaning.{MeantFirst, MeantAll}
use Rattle.ob_outcomes.specs.Served.{ClientsServed, ServedFirst, ServedAll}

abbrev pub EpochsAreFew : Type 0
EpochsAreFew = (script : Scripts) (told : List (EpochRecord ℕ)) → ClientsServed script told → All (λ r. 0 < length r.txns) told → length told ≤ length script.txns

-- of the first ones, or of all
pub record ToldIsAsked : Type 0 where
  pub first : (number : ℕ) (asks : List ScriptTxn) (txns : List (TxnRecord ℕ)) (told : List Told) → TellFirst number txns told → MeantFirst asks told → ServedFirst asks txns
  pub all : (number : ℕ) (asks : List ScriptTxn) (txns : List (TxnRecord ℕ)) (told : List Told) → TellAll number txns told → MeantAll asks told → ServedAll asks txns
