use Rattle.std.proofs.Common.{suc, ap, sym, ◌∙◌}
use Rattle.ob_turn.specs.TurnRule.{value_in}
use Rattle.ob_turn.proofs.Entering.{enters, places}
use Rattle.ob_turn.proofs.turn_calls.Turn+T+E.take_behind.Goals as goal

pub returns-in-Rests : goal.returns-in-Rests
returns-in-Rests g c =
    let e = c.exchange.ensures in record {
      entered = enters g.T.Stepped.steps c.args.seat.now c.draw-ticket.new.seat c.wait.new.seat c.exchange.new.seat c.draw-ticket.result c.exchange.result c.in-Rests.value
          c.draw-ticket.ensures.same c.draw-ticket.ensures.drawn c.requires.idle.empty c.wait.ensures.same c.wait.ensures.entered record { table = e.0; id = e.1 } e.2 e.3 (ap value_in c.in-Rests.is);
      stands = record {
        place = ap suc (places g.T.Stepped.steps c.args.seat.now c.draw-ticket.new.seat c.wait.new.seat c.exchange.new.seat c.draw-ticket.result c.draw-ticket.ensures.drawn c.wait.ensures.entered (λ i. (e.3 i).0)) ∙ sym c.turns_with-count.ensures.with_this;
        behind = c.turns_with-count.ensures.behind;
      };
    }

pub returns-in-Leaves : goal.returns-in-Leaves
returns-in-Leaves g c =
    let e = c.exchange.ensures in record {
      entered = enters g.T.Stepped.steps c.args.seat.now c.draw-ticket.new.seat c.wait.new.seat c.exchange.new.seat c.draw-ticket.result c.exchange.result c.in-Leaves.value
          c.draw-ticket.ensures.same c.draw-ticket.ensures.drawn c.requires.idle.empty c.wait.ensures.same c.wait.ensures.entered record { table = e.0; id = e.1 } e.2 e.3 (ap value_in c.in-Leaves.is);
      stands = record {
        place = ap suc (places g.T.Stepped.steps c.args.seat.now c.draw-ticket.new.seat c.wait.new.seat c.exchange.new.seat c.draw-ticket.result c.draw-ticket.ensures.drawn c.wait.ensures.entered (λ i. (e.3 i).0)) ∙ sym c.turns_with-count.ensures.with_this;
        behind = c.turns_with-count.ensures.behind;
      };
    }
