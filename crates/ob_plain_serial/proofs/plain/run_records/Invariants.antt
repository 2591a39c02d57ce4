use Rattle.std.proofs.Common.{take, map}
use Rattle.std.specs.Ordering.{nat_cmp}
use Rattle.ob_serial.specs.Serial.{OneByOne, committed_of}
use Rattle.ob_serial.specs.Views.{record_of}
use Rattle.ob_plain_serial.proofs.plain.run_records.Given as goal

abbrev pub invariant-loop-one : goal.invariant-loop-one
invariant-loop-one l = OneByOne nat_cmp l.fn.values (committed_of (map (λ r. record_of r) (take l.one-index l.records))) l.values
