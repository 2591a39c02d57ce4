use Rattle.std.proofs.Common.{arith, not}
use Rattle.ob_base.specs.Tree.{width}
use Rattle.ob_check.specs.Rules.{is_among}
use Rattle.ob_check.proofs.MarkLaws.{least_found, least_none, search_more, free, taken}
use Rattle.ob_check.proofs.marks.least_rank.Goals as goal

pub returns-then-not-taken-rank : goal.returns-then-not-taken-rank
returns-then-not-taken-rank c = λ n xs le marked. least_found (λ rank. not (is_among xs rank)) (width c.args.p.now) c.loop-rank.rank 0 (omega arith) (c.loop-rank.invariant n xs le marked)
    (free n c.args.taken.now xs c.loop-rank.rank (omega arith) marked c.if-not-taken-rank.true)

pub loop-rank-preserved : goal.loop-rank-preserved
loop-rank-preserved c = λ n xs le marked. search_more (λ rank. not (is_among xs rank)) c.loop-rank.rank (c.loop-rank.invariant n xs le marked)
    (taken n c.args.taken.now xs c.loop-rank.rank (omega arith) marked c.if-not-taken-rank.false)

pub returns : goal.returns
returns c = λ n xs le marked. least_none (λ rank. not (is_among xs rank)) (width c.args.p.now) c.loop-rank.rank 0 (omega arith) (omega arith) (c.loop-rank.invariant n xs le marked)
