use Rattle.std.proofs.Common.{◌≡◌, replicate}
use Rattle.ob_bare.specs.Cells.{zeros}
use Rattle.ob_bare.proofs.cells.blank.Given as goal

abbrev pub invariant-loop-i : goal.invariant-loop-i
invariant-loop-i l = l.cells.items ≡ replicate l.i zeros
