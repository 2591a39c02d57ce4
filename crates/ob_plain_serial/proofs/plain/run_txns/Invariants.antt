use Rattle.std.proofs.Common.{take, map, filter}
use Rattle.std.specs.Ordering.{nat_cmp}
use Rattle.ob_serial.specs.Serial.{OneByOne, is_committed}
use Rattle.ob_serial.specs.Views.{txn_of}
use Rattle.ob_plain_serial.proofs.plain.run_txns.Given as goal

abbrev pub invariant-loop-txn : goal.invariant-loop-txn
invariant-loop-txn l = OneByOne nat_cmp l.fn.values (filter (λ t. is_committed t) (map (λ t. txn_of t) (take l.txn-index l.txns))) l.values
