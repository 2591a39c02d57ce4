use Rattle.std.proofs.Common.{ap, ◌∙◌, ◌++◌, ◌∷◌, [], slice_index_or}
use Rattle.ob_check.specs.Rules.{ranks_in}
use Rattle.ob_check.proofs.MarkLaws.{ranks_more, marked_as}
use Rattle.ob_check.proofs.indexes.take_rank.Goals as goal

pub returns : goal.returns
returns c = marked_as 48 c.mark.new.marks _ _
    (ap (λ n. ranks_in c.args.p.now c.args.bytes.now c.args.u c.args.i ++ slice_index_or c.args.bytes.now n 0 ∷ []) c.index_place.ensures.place ∙ ranks_more c.args.p.now c.args.bytes.now c.args.u c.args.i)
    (c.mark.ensures 48 (ranks_in c.args.p.now c.args.bytes.now c.args.u c.args.i) c.requires.taken)
