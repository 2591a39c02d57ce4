use Rattle.std.proofs.Common.{◌≡◌, length}
use Rattle.ob_log.proofs.reading.blank_cells.Given as goal

abbrev pub invariant-loop-i : goal.invariant-loop-i
invariant-loop-i l = length l.cells.items ≡ l._i
