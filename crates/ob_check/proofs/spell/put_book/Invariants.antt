use Rattle.std.specs.Prelude.{◌≡◌, take}
use Rattle.std.specs.List.{flat_map}
use Rattle.ob_base.specs.LittleEndian.{with_part}
use Rattle.ob_tables.specs.Spelling.{entry_bytes}
use Rattle.ob_check.proofs.spell.put_book.Given as goal

abbrev pub invariant-loop-k : goal.invariant-loop-k
invariant-loop-k l = l.out ≡ with_part l.initial.out 16 (flat_map entry_bytes (take l.k l.book))
