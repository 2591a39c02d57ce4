use Rattle.std.proofs.Common.{refl, arith, ◌+◌, ◌*◌, ◌==◌, slice_index_or}
use Rattle.ob_tables.proofs.SpellingLaws.{indexes_read_more}
use Rattle.ob_tables.proofs.decode.read_indexes.Goals as goal

pub loop-j-preserved : goal.loop-j-preserved
loop-j-preserved c =
    rw (c.push.ensures.items, c.push-in-loop-j.ensures.items)
    (indexes_read_more c.args.bytes.now c.args.at c.loop-j.j (slice_index_or c.args.bytes.now (c.args.at + 2 * c.loop-j.j) 0) (slice_index_or c.args.bytes.now (c.args.at + 2 * c.loop-j.j + 1) 0)
    (slice_index_or c.args.bytes.now (c.args.at + 2 * c.loop-j.j + 1) 0 == 1) c.loop-j.ranks.items c.loop-j.used.items (omega (arith, c.requires.long)) refl refl c.if-mark-gt1.false refl c.loop-j.invariant)
