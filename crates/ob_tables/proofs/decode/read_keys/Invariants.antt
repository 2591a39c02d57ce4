use Rattle.ob_tables.proofs.SpellingLaws.{KeysRead}
use Rattle.ob_tables.proofs.decode.read_keys.Given as goal

abbrev pub invariant-loop-j : goal.invariant-loop-j
invariant-loop-j l = KeysRead l.bytes l.j l.keys.items
