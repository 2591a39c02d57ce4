use Rattle.ob_tables.proofs.RankLaws.{ranks_are_ranking}
use Rattle.ob_tables.proofs.rank.ranks.Goals as goal

pub returns-clause-permutation : goal.returns-clause-permutation
returns-clause-permutation c = ranks_are_ranking c.args.words.now
