use Rattle.std.proofs.Common.{is_some, take, sym, ap, ◌∙◌, arith}
use Rattle.ob_order.specs.Works as works
use Rattle.ob_order.proofs.Edits.{last_write_more}
use Rattle.ob_key_versions.specs.Agendas.{IsReaderAbove}
use Rattle.ob_key_versions.proofs.Unlinks.{either}
use Rattle.ob_key_versions.proofs.Agendas.{adds_then}
use Rattle.ob_key_versions.proofs.readers.add_readers_of_ops.Goals as goal

pub loop-op-preserved : goal.loop-op-preserved
loop-op-preserved c =
    let i = c.loop-op.op-index in
    let ops = c.args.ops.now in
    let one = c.add_readers_of_op.ensures in (
      λ k u some noted above. either (works.write_of c.op-item.result k) (works.last_write (take i ops) k) _
          (ap is_some (sym (last_write_more ops i k c.op-item.result (omega arith) c.op-item.is)) ∙ some)
          (λ e. one.has k u e noted above)
          (λ e. one.adds.kept u (c.loop-op.invariant.0 k u e noted above)),
      adds_then c.args.agenda.now c.loop-op.agenda c.add_readers_of_op.new.agenda (IsReaderAbove c.args.table.now c.args.t) c.loop-op.invariant.1 one.adds,
    )
