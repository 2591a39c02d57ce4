use Rattle.std.proofs.Common.{◌≡◌, take}
use Rattle.ob_base.specs.LittleEndian.{with_part}
use Rattle.ob_tables.specs.Version.{index_bytes}
use Rattle.ob_tables.proofs.encode.write_indexes.Given as goal

abbrev pub invariant-loop-j : goal.invariant-loop-j
invariant-loop-j l = l.out ≡ with_part l.fn.out l.at (index_bytes (take l.j l.ranks) (take l.j l.used))
