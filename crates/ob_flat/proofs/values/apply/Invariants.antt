use Rattle.std.proofs.Common.{take}
use Rattle.std.specs.Ordering.{nat_cmp}
use Rattle.ob_serial.specs.Serial.{Map}
use Rattle.ob_serial.specs.Vaults.{with_writes}
use Rattle.ob_serial.specs.VaultViews.{writes_of}
use Rattle.ob_flat.specs.Standing.{IsMapOf}
use Rattle.ob_flat.proofs.values.apply.Given as goal

abbrev pub invariant-loop-write : goal.invariant-loop-write
invariant-loop-write l = (m : Map nat_cmp) → IsMapOf l.initial.values m → IsMapOf l.values (with_writes m (writes_of (take l.write-index l.writes)))
