use Rattle.std.proofs.Common.{◌∙◌, ap, sym, subst, arith, [], ◌∷◌, ◌++◌, List, ℕ}
use Rattle.atomic_table.specs.Table.{rest}
use Rattle.ob_turn.specs.declared.turn.View.{View}
use Rattle.ob_turn.specs.declared.turn.Slot.{Slot}
use Rattle.ob_turn.specs.declared.turn.Slot.TheVariants.{Leaves}
use Rattle.ob_turn.specs.History.{IsAt}
use Rattle.ob_turn.specs.TurnRule.{left}
use Rattle.ob_turn.proofs.TurnSteps.{goes}
use Rattle.ob_turn.proofs.turn_calls.Turn+T+E.put.Goals as goal

pub fetch_add-served-requires : goal.fetch_add-served-requires
fetch_add-served-requires g c =
    let T : Type 0 = g.row.T.Denot in
    let E : Type 0 = g.row.E.Denot in
    let e = c.exchange.ensures in
    let inside = c.requires.inside in (
      e.0 ∙ c.requires.own,
      omega (arith, c.args.self.now.sized.0),
      goes _ _ _ _ _ _ _ _ inside.stage.0 c.args.value c.args.last ((λ i. (e.3 i).0.stage) ∙ inside.stage.1)
          ((λ i. (e.3 i).1) ∙ ap (λ (l : List (ℕ × Slot T E)). (0, Leaves c.args.value c.args.last) ∷ rest l) inside.slot.1)
          (subst (λ (p : View T E). IsAt g.T.Stepped.steps p (p.noted ++ c.args.last.value ∷ []) c.args.value) (sym (λ i. (e.3 i).0)) c.requires.value),
    )

pub returns : goal.returns
returns g c =
    let T : Type 0 = g.row.T.Denot in
    let E : Type 0 = g.row.E.Denot in
    let e = c.exchange.ensures in
    let f = c.fetch_add-served.ensures in
    let told = f.2 c.args.value c.args.last ((λ i. (e.3 i).1) ∙ ap (λ (l : List (ℕ × Slot T E)). (0, Leaves c.args.value c.args.last) ∷ rest l) c.requires.inside.slot.1) in record {
      left = record {
        same = record { table = f.0 ∙ e.0; id = f.1 ∙ e.1 };
        knows = told.0 ∙ (λ i. (left (e.3 i).0 c.args.last.value, []));
        own = told.1;
      };
    }
