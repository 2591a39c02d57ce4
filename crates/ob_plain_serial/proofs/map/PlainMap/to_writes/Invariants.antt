use Rattle.std.proofs.Common.{◌≡◌, ◌++◌, map, Some}
use Rattle.ob_serial.specs.VaultViews.{writes_of}
use Rattle.ob_plain_serial.proofs.map.PlainMap.to_writes.Given as goal

abbrev pub invariant-loop-key : goal.invariant-loop-key
invariant-loop-key l = writes_of l.writes.items ++ map (λ e. (e.0, Some e.1)) l.key-iterator ≡ map (λ e. (e.0, Some e.1)) l.initial.key-iterator
