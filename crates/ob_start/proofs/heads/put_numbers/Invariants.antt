use Rattle.std.proofs.Common.{◌≡◌, take}
use Rattle.std.specs.List.{flat_map}
use Rattle.std.specs.Int.{w32, to_le_bytes}
use Rattle.ob_base.specs.LittleEndian.{with_part}
use Rattle.ob_start.proofs.heads.put_numbers.Given as goal

abbrev pub invariant-loop-i : goal.invariant-loop-i
invariant-loop-i l = l.plain ≡ with_part l.initial.plain 12 (flat_map (λ n. to_le_bytes w32 n) (take l.i l.numbers))
