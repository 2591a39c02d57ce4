use Rattle.std.proofs.Common.{None}
use Rattle.ob_check.specs.Reading.{entry_in}
use Rattle.ob_check.proofs.BuildLaws.{Filled}
use Rattle.ob_check.proofs.building.read_book.Given as goal

abbrev pub invariant-loop-k : goal.invariant-loop-k
invariant-loop-k l = Filled (entry_in l.bytes) None l.p.keys l.k l.book
