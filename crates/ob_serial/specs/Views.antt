-- What the program's records are seen as.
use Rattle.std.specs.Prelude.{map}
use Rattle.ob_serial.specs.declared.records.TxnRecord.{TxnRecord as CodeTxn}
use Rattle.ob_serial.specs.declared.records.EpochRecord.{EpochRecord as CodeRecord}
use Rattle.ob_serial.specs.Serial.{TxnRecord, EpochRecord}

abbrev pub txn_of : {K : Type 0} → CodeTxn K → TxnRecord K
txn_of t = record { epoch = t.epoch; ticket = t.ticket; client = t.client; ops = t.ops.items; outcome = t.outcome }

abbrev pub record_of : {K : Type 0} → CodeRecord K → EpochRecord K
record_of r = record { epoch = r.epoch; txns = map (λ t. txn_of t) r.txns.items }
