use Rattle.std.proofs.Common.{length, ap, ◌∙◌, arith}
use Rattle.std.specs.List.{count_by}
use Rattle.std.proofs.lemmas.Grind.{common_steps}
use Rattle.std.proofs.lemmas.List.{take_all}
use Rattle.ob_order.specs.Works as works
use Rattle.ob_desk.proofs.Counted.{count_item}
use Rattle.ob_desk.proofs.Going.{live_listed}
use Rattle.ob_desk.proofs.part.count_live.Goals as goal

pub returns : goal.returns
returns c =
    let part = c.args.part.now in
    let same = ap length c.deref-t-items.ensures.value in
    let ended = c.loop-t-test.false in
    c.loop-t.invariant.0 ∙ (ap (count_by (works.goes_on part.order.state.works)) (take_all c.loop-t.t-index part.going.items (omega (arith, same, ended))) ∙ live_listed part.order.state.works part.going.items c.requires)

pub loop-t-preserved : goal.loop-t-preserved
loop-t-preserved c = grind (arith, common_steps, count_item)
