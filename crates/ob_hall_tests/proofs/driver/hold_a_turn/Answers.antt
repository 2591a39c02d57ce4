use Rattle.std.proofs.Common.{◌∙◌, ◌∷◌, [], ◌++◌, ap, sym, subst}
use Rattle.ob_desk.specs.Desk.{DeskState}
use Rattle.ob_turn.specs.History.{IsAt}
use Rattle.ob_turn.specs.TurnCalls.{TurnSeat}
use Rattle.ob_hall.specs.Turns.{IsTurn}
use Rattle.ob_hall.specs.Passes.{Steps}
use Rattle.ob_hall.proofs.Trying.{idle_turn}
use Rattle.ob_hall_tests.proofs.Passes.{held}
use Rattle.ob_hall_tests.proofs.driver.hold_a_turn.Goals as goal

pub leave-requires-clause-desk : goal.leave-requires-clause-desk
leave-requires-clause-desk g c =
    let mid = c.enter-desk.new.pass.seat.me.0 in
    let place = ap (λ (s : TurnSeat DeskState Steps). s.me.0.by) c.raise.ensures.raised.seat ∙ c.requires.place in
    subst (λ (calls : Steps). IsAt IsTurn mid (mid.noted ++ calls ∷ []) c.enter-desk.result) (sym (c.of.ensures ∙ c.none-nothing.ensures)) (idle_turn c.args.hall.now c.raise.new.pass c.enter-desk.new.pass c.enter-desk.result c.enter-desk.ensures.entered place)

pub returns : goal.returns
returns g c =
    let place = ap (λ (s : TurnSeat DeskState Steps). s.me.0.by) c.raise.ensures.raised.seat ∙ c.requires.place in
    let unmade = ap (λ (s : TurnSeat DeskState Steps). s.me.0.mine) c.raise.ensures.raised.seat ∙ c.requires.unmade in
    held c.args.hall.now c.raise.new.pass c.enter-desk.new.pass c.leave.new.pass c.enter-desk.result c.of.result.value place unmade c.enter-desk.ensures.entered c.leave.ensures.left c.leave.ensures.own c.leave.ensures.idle (c.of.ensures ∙ c.none-nothing.ensures) c.requires.none_closed
