use Rattle.std.proofs.Common.{◌≡◌, take}
use Rattle.std.specs.List.{flat_map}
use Rattle.ob_base.specs.LittleEndian.{with_part}
use Rattle.ob_tables.specs.Version.{key_bytes}
use Rattle.ob_tables.proofs.encode.write_keys.Given as goal

abbrev pub invariant-loop-j : goal.invariant-loop-j
invariant-loop-j l = l.out ≡ with_part l.fn.out l.at (flat_map key_bytes (take l.j l.keys))
