use Rattle.std.proofs.Common.{◌≡◌, ◌∙◌, ap, arith, [], ◌∷◌, List, ℕ}
use Rattle.atomic_table.specs.Table.{rest}
use Rattle.ob_turn.specs.declared.turn.Slot.{Slot}
use Rattle.ob_turn.specs.declared.turn.Slot.TheVariants.{Noted}
use Rattle.ob_turn.specs.TurnRule.{noting}
use Rattle.ob_turn.proofs.TurnSteps.{notes}
use Rattle.ob_turn.proofs.turn_calls.Turn+T+E.note.Goals as goal

pub load-requires : goal.load-requires
load-requires g c =
    let T : Type 0 = g.row.T.Denot in
    let E : Type 0 = g.row.E.Denot in
    let e = c.exchange.ensures in
    let inside = c.requires.inside in (
      e.0 ∙ c.requires.own,
      omega (arith, c.args.self.now.sized.0),
      notes _ _ _ _ _ _ _ _ inside.stage.0 c.args.call ((λ i. (e.3 i).0.stage) ∙ inside.stage.1)
          ((λ i. (e.3 i).1) ∙ ap (λ (l : List (ℕ × Slot T E)). (0, Noted c.args.call) ∷ rest l) inside.slot.1),
    )

pub returns : goal.returns
returns g c =
    let T : Type 0 = g.row.T.Denot in
    let E : Type 0 = g.row.E.Denot in
    let e = c.exchange.ensures in
    let f = c.load.ensures in
    let inside = c.requires.inside in
    let slot : c.exchange.new.seat.me.1 ≡ (0, Noted c.args.call) ∷ [] = (λ i. (e.3 i).1) ∙ ap (λ (l : List (ℕ × Slot T E)). (0, Noted c.args.call) ∷ rest l) inside.slot.1 in
    let told = f.2 c.args.call slot in record {
      noted = record {
        same = record { table = f.0 ∙ e.0; id = f.1 ∙ e.1 };
        inside = record {
          stage = (inside.stage.0, (λ i. (told i).0.stage) ∙ ((λ i. (e.3 i).0.stage) ∙ inside.stage.1));
          slot = (Noted c.args.call, (λ i. (told i).1) ∙ slot);
        };
        knows = (λ i. (told i).0) ∙ (λ i. noting (e.3 i).0 c.args.call.value);
      };
    }
