use Rattle.std.proofs.Common.{◌≡◌}
use Rattle.std.specs.Prelude.{map}
use Rattle.std.specs.FinMap as finite
use Rattle.ob_base.specs.Tree.{below}
use Rattle.ob_check.specs.Reading.{row_in}
use Rattle.ob_check.proofs.building.read_stash.Given as goal

abbrev pub invariant-loop-i : goal.invariant-loop-i
invariant-loop-i l = l.stash ≡ record l.initial.stash { rows = finite.from_entries (map (row_in l.p l.bytes) (below l.i)) }
