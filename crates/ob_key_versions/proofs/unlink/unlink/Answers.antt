use Rattle.std.proofs.Common.{◌∙◌, arith}
use Rattle.ob_key_versions.specs.Tables.{link_at}
use Rattle.ob_key_versions.proofs.Unlinks.{unlinked_more}
use Rattle.ob_key_versions.proofs.unlink.unlink.Goals as goal

pub loop-op-preserved : goal.loop-op-preserved
loop-op-preserved c =
    let so_far = c.loop-op.invariant in
    let one = c.unlink_one-lost.ensures in (
      λ k u. unlinked_more c.args.ops.now c.loop-op.op-index k c.args.t u c.op-item.result (link_at c.args.table.now k u) (link_at c.loop-op.table k u) (link_at c.unlink_one-lost.new.table k u) (omega arith) c.op-item.is (so_far.0 k u) (one.links k u),
      omega (arith, so_far.1, one.count),
      omega (arith, so_far.2, one.few),
      λ k. one.bases k ∙ so_far.3 k,
      λ k there. one.room k (so_far.4 k there),
      λ k u. one.readers k u ∙ so_far.5 k u,
    )
