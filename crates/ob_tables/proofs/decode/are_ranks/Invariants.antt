use Rattle.ob_tables.proofs.TakenLaws.{Taken}
use Rattle.ob_tables.proofs.decode.are_ranks.Given as goal

abbrev pub invariant-loop-rank : goal.invariant-loop-rank
invariant-loop-rank l = Taken l.ranks l.taken l.rank-index
