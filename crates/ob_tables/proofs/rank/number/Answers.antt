use Rattle.std.proofs.Common.{arith, length}
use Rattle.std.proofs.lemmas.List.FromFn.{fill_by_all}
use Rattle.ob_tables.proofs.OrderLaws.{pair_of}
use Rattle.ob_tables.proofs.rank.number.Goals as goal

pub returns : goal.returns
returns c = fill_by_all (pair_of c.args.words.now) c.loop-i.order (length c.args.words.now) (0, 0) (omega (arith, c.requires)) (λ k h. c.loop-i.invariant k (omega arith))
