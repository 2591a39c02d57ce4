use Rattle.std.proofs.Common.{sym, subst, ◌∷◌, [], ◌++◌}
use Rattle.ob_turn.specs.History.{IsAt}
use Rattle.ob_hall.specs.Turns.{IsTurn}
use Rattle.ob_hall.specs.Passes.{Steps, LeavesTurn}
use Rattle.ob_driver.proofs.noting.leave.Goals as goal

pub leave-requires-clause-own : goal.leave-requires-clause-own
leave-requires-clause-own c = c.requires.own

pub leave-requires-clause-inside : goal.leave-requires-clause-inside
leave-requires-clause-inside c = c.requires.inside

pub leave-requires-clause-desk : goal.leave-requires-clause-desk
leave-requires-clause-desk c =
    subst (λ (calls : Steps). IsAt IsTurn c.args.pass.now.seat.me.0 (c.args.pass.now.seat.me.0.noted ++ calls ∷ []) c.args.desk) (sym c.noted.ensures) c.requires.desk

pub returns-clause-left : goal.returns-clause-left
returns-clause-left c = subst (λ (calls : Steps). LeavesTurn c.args.pass.now c.leave.new.pass calls) c.noted.ensures c.leave.ensures.left

pub returns-clause-own : goal.returns-clause-own
returns-clause-own c = c.leave.ensures.own

pub returns-clause-idle : goal.returns-clause-idle
returns-clause-idle c = c.leave.ensures.idle
