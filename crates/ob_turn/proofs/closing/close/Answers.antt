use Rattle.std.proofs.Common.{subst, rules}
use Rattle.ob_turn.specs.TurnCalls.{IsIdle, TurnSeat}
use Rattle.ob_turn.proofs.TurnClosing.{begins, goes_on, ends, last_of}
use Rattle.std.specs.List.{All}
use Rattle.ob_turn.proofs.closing.close.Goals as goal

pub loop-other-init : goal.loop-other-init
loop-other-init g c = begins g.T.Stepped.steps _ _ _ _ c.in-Some.ensures.items c.requires.own c.requires.idle

pub join-requires-clause-idle : goal.join-requires-clause-idle
join-requires-clause-idle g c =
    let i = c.loop-other.invariant.idle in (
      i.0,
      last_of (λ (s : TurnSeat g.row.T.Denot g.row.E.Denot). IsIdle s) c.pop-in-loop-other.new.self.items c.in-Some-pop.other
          (subst (All (λ (s : TurnSeat g.row.T.Denot g.row.E.Denot). IsIdle s)) c.in-Some-pop.ensures.items i.1),
    )

pub loop-other-preserved : goal.loop-other-preserved
loop-other-preserved g c = goes_on g.T.Stepped.steps _ _ c.loop-other.seats.items _ c.loop-other.seat c.in-Some-pop.other _ c.loop-other.invariant c.in-Some-pop.ensures.items c.join.ensures.joined

pub returns : goal.returns
returns g c = record { whole = ends g.T.Stepped.steps _ _ _ _ _ _ c.loop-other.invariant (search rules) c.close_with.ensures.whole }
