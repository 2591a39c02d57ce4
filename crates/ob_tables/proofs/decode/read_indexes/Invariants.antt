use Rattle.ob_tables.proofs.SpellingLaws.{IndexesRead}
use Rattle.ob_tables.proofs.decode.read_indexes.Given as goal

abbrev pub invariant-loop-j : goal.invariant-loop-j
invariant-loop-j l = IndexesRead l.bytes l.at l.j l.ranks.items l.used.items
