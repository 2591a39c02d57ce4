use Rattle.std.proofs.Common.{◌+◌, ◌*◌, ℕ, List, slice_set, slice_index_or, ap, refl, ◌∙◌}
use Rattle.ob_tables.proofs.PartLaws.{indexes_more}
use Rattle.ob_tables.proofs.encode.write_indexes.Goals as goal

pub loop-j-preserved : goal.loop-j-preserved
loop-j-preserved c =
    ap (λ (b : List ℕ). slice_set (slice_set b (c.args.at + 2 * c.loop-j.j) (slice_index_or c.args.ranks.now c.loop-j.j 0)) (c.args.at + 2 * c.loop-j.j + 1) c.mark_of.result) c.loop-j.invariant
    ∙ indexes_more c.args.out.now c.args.at c.args.ranks.now c.args.used.now c.loop-j.j (slice_index_or c.args.ranks.now c.loop-j.j 0) c.mark_of.result c.loop-j-test.true c.requires.marks c.requires.room refl c.mark_of.ensures
