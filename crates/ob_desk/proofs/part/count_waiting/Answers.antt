use Rattle.std.proofs.Common.{length, ap, ◌∙◌, arith}
use Rattle.std.specs.List.{count_by}
use Rattle.std.proofs.lemmas.Grind.{common_steps}
use Rattle.std.proofs.lemmas.List.{take_all}
use Rattle.ob_desk.specs.Desk as desks
use Rattle.ob_desk.specs.Parts.{part_of}
use Rattle.ob_desk.proofs.Counted.{count_item}
use Rattle.ob_desk.proofs.Going.{waiting_listed}
use Rattle.ob_desk.proofs.part.count_waiting.Goals as goal

pub returns : goal.returns
returns c =
    let part = c.args.part.now in
    let same = ap length c.deref-t-items.ensures.value in
    let ended = c.loop-t-test.false in
    c.loop-t.invariant.0 ∙ (ap (count_by (desks.waits (part_of part))) (take_all c.loop-t.t-index part.going.items (omega (arith, same, ended))) ∙ waiting_listed (part_of part) part.going.items c.requires)

pub loop-t-preserved : goal.loop-t-preserved
loop-t-preserved c = grind (arith, common_steps, count_item)
