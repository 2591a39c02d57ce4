use Rattle.std.proofs.Common.{refl, slice_index_or}
use Rattle.ob_tables.proofs.TakenLaws.{taken_none, taken_more}
use Rattle.ob_tables.proofs.decode.are_ranks.Goals as goal

pub loop-rank-init : goal.loop-rank-init
loop-rank-init c = taken_none c.args.ranks.now c.requires

pub loop-rank-preserved : goal.loop-rank-preserved
loop-rank-preserved c = taken_more c.args.ranks.now c.loop-rank.taken c.loop-rank.rank-index (slice_index_or c.args.ranks.now c.loop-rank.rank-index 0) c.loop-rank-test.true refl c.if-slot-ranks.false c.if-taken-slot.false c.loop-rank.invariant
