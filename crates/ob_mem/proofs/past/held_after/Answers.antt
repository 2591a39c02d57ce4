use Rattle.std.proofs.Common.{◌∙◌, ap, length, take}
use Rattle.ob_mem.specs.Replay.{Moment, sure}
use Rattle.ob_mem.proofs.Calls.{length-replay}
use Rattle.ob_mem.proofs.Fillings.{held_next}
use Rattle.ob_mem.proofs.past.held_after.Goals as goal

pub loop-call-preserved : goal.loop-call-preserved
loop-call-preserved c =
    let next = held_next c.args.calls.now c.loop-call.call-index _ (sure c.args.first.now) c.loop-call.held.cells.items c.loop-call.held.unsure.items c.loop-call-test.true c.loop-call.invariant.cells c.loop-call.invariant.unsure in
    record {
      cells = c.in_ok-apply.ensures.cells ∙ ap (λ (m : Moment). m.cells) next;
      unsure = c.in_ok-apply.ensures.unsure ∙ ap (λ (m : Moment). m.unsure) next;
    }

pub returns-clause-size : goal.returns-clause-size
returns-clause-size c = ap length c.loop-call.invariant.cells ∙ length-replay (take c.loop-call.call-index c.args.calls.now) (sure c.args.first.now)
