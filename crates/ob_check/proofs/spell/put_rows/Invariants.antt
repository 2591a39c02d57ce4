use Rattle.std.specs.Prelude.{◌≡◌, take}
use Rattle.std.specs.List.{flat_map}
use Rattle.std.specs.FinMap as finite
use Rattle.ob_base.specs.LittleEndian.{with_part}
use Rattle.ob_tables.specs.Spelling.{row_bytes}
use Rattle.ob_check.specs.Fields.{row_place}
use Rattle.ob_check.proofs.spell.put_rows.Given as goal

abbrev pub invariant-loop-i : goal.invariant-loop-i
invariant-loop-i l = l.out ≡ with_part l.initial.out (row_place l.p 0) (flat_map row_bytes (take l.i (finite.entries l.stash.rows)))
