use Rattle.std.proofs.Common.{◌∙◌, arith, subst}
use Rattle.atomic_table.specs.Table.{Me}
use Rattle.ob_turn.specs.declared.turn.View.{View}
use Rattle.ob_turn.specs.declared.turn.Slot.{Slot}
use Rattle.ob_turn.specs.TurnRule.{Entered}
use Rattle.ob_turn.proofs.TurnSteps.{watches}
use Rattle.ob_turn.proofs.turn_calls.Turn+T+E.wait.Goals as goal

pub load-served-requires : goal.load-served-requires
load-served-requires g c =
    let same = c.loop.invariant.2 in
    (c.loop.invariant.0 ∙ c.requires.own, omega (arith, c.args.self.now.sized.0), watches _ _ _ _ _ _ _ _ c.args.ticket ((λ i. (same i).0.stage) ∙ c.requires.waiting))

pub returns-then-served-ticket-clause-entered : goal.returns-then-served-ticket-clause-entered
returns-then-served-ticket-clause-entered g c =
    let T : Type 0 = g.row.T.Denot in
    let E : Type 0 = g.row.E.Denot in
    let same = c.loop.invariant.2 in
    subst (λ (m : Me (Slot T E) (View T E)). Entered g.T.Stepped.steps m c.args.ticket c.load-served.new.seat.me) same
    ((c.load-served.ensures.2 c.args.ticket ((λ i. (same i).0.stage) ∙ c.requires.waiting)).1 c.if-served-ticket.true)
