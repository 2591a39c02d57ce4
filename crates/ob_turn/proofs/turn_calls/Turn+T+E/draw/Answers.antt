use Rattle.std.proofs.Common.{◌∙◌, arith}
use Rattle.ob_turn.proofs.TurnSteps.{arrives, draws}
use Rattle.ob_turn.proofs.turn_calls.Turn+T+E.draw.Goals as goal

pub load-requires : goal.load-requires
load-requires g c = (c.requires.own, omega (arith, c.args.self.now.sized.0), arrives _ _ _ _ _ _ _ _ c.requires.idle.0 c.requires.idle.1)

pub fetch_add-requires : goal.fetch_add-requires
fetch_add-requires g c =
    let ready = c.load.ensures.2.1 (omega (arith, c.if-load-ge-LAST.false)) in
    (c.load.ensures.0 ∙ c.requires.own, omega (arith, c.args.self.now.sized.0), draws _ _ _ _ _ _ _ _ (λ i. (ready i).stage))
