use Rattle.std.proofs.Common.{ap, sym, ◌∙◌, arith}
use Rattle.std.proofs.lemmas.List.{take_all}
use Rattle.ob_order.specs.Works as works
use Rattle.ob_order.proofs.Tidies.{least_source_more}
use Rattle.ob_order.proofs.work.least_gone.Goals as goal

pub loop-op-preserved : goal.loop-op-preserved
loop-op-preserved c =
    let gone = works.is_gone c.args.list.now in
    c.least_of-least.ensures
    ∙ (ap (λ a. works.least_of a c.gone_source.result) c.loop-op.invariant
    ∙ (ap (works.least_of _) c.gone_source.ensures
    ∙ sym (least_source_more gone c.args.ops.now c.loop-op.op-index c.op-item.result (omega (arith, c.loop-op-test.true)) c.op-item.is)))

pub returns : goal.returns
returns c = c.loop-op.invariant ∙ ap (works.least_source (works.is_gone c.args.list.now)) (take_all c.loop-op.op-index c.args.ops.now (omega (arith, c.loop-op-test.false)))
