-- The driver's pass once the bell is raised to the epoch that the vault's opening found.
use Rattle.std.proofs.Common.{◌≡◌, ◌∙◌, ◌≤◌, ℕ, All, List, [], ◌∷◌, ◌++◌, sym, ap, subst, arith}
use Rattle.std.proofs.lemmas.List.Elements.{All-nil}
use Rattle.ob_base.specs.declared.params.Params.{Params}
use Rattle.ob_serial.specs.Vaults.{VaultCounts}
use Rattle.ob_desk.specs.Desk.{DeskState}
use Rattle.ob_turn.specs.BellHistory.{latest}
use Rattle.ob_turn.specs.TurnCalls as turns
use Rattle.ob_turn.specs.TurnCalls.{TurnSeat}
use Rattle.ob_hall.specs.Passes.{Steps, Hall, Pass, opening_of, own_calls, calls_in, raised_by, told_by, IsPassOf, IsRaised}
use Rattle.ob_hall.specs.Rounds.{rounds_of, rounds_behind}
use Rattle.ob_driver.specs.Resting.{params_of, IsMild, IsBetweenTurns}
use Rattle.ob_driver.specs.Drives.{IsFirstPass}

abbrev TSeat : Type 0
TSeat = TurnSeat DeskState Steps

module _ (hall : Hall) (before : Pass) (p : Params) (c : VaultCounts) (first : IsFirstPass hall before p c) where
  pub params_are : p ≡ params_of hall
  params_are = sym (ap (λ (d : DeskState). d.setup.params) first.opening)

  -- nothing was told to it
  pub none_told : told_by before ≤ c.epoch
  none_told = subst (λ (ns : List ℕ). latest 0 ns ≤ c.epoch) (sym first.fresh.none_told) (omega arith)

  module _ (after : Pass) (raised : IsRaised before after c.epoch) (own : IsPassOf hall after) where
    none_made : own_calls after ≡ []
    none_made = ap (λ (s : TSeat). calls_in s.me.0.mine) raised.seat ∙ ap calls_in first.fresh.none_made

    heard : raised_by after ≡ c.epoch ∷ []
    heard = (λ i. (raised.raises.knows i).seen) ∙ ap (λ (ns : List ℕ). ns ++ c.epoch ∷ []) first.fresh.none_told

    pub begins : IsBetweenTurns hall after c
    begins = record {
      at = record {
        driver = record {
          own = own;
          place = ap (λ (s : TSeat). s.me.0.by) raised.seat ∙ first.fresh.place;
          raises = (λ i. (raised.raises.knows i).raises) ∙ first.raises;
          mild = subst (All IsMild) (sym none_made) (All-nil IsMild);
        };
        rounds = ap (rounds_behind (params_of hall).batches (rounds_of (opening_of hall))) none_made ∙ ap rounds_of first.opening;
        serves = first.serves;
        told = subst (λ (ns : List ℕ). latest 0 ns ≤ c.epoch) (sym heard) (omega arith);
      };
      idle = subst (λ (s : TSeat). turns.IsIdle s) (sym raised.seat) first.fresh.idle;
    }
