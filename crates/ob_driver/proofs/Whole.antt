-- A turn of the driver's, from its beginning to its end.
use Rattle.std.proofs.Common.{◌≡◌, ◌∙◌, ◌-◌, ℕ, List, [], ◌∷◌, ◌++◌, length, map, replicate, Option, None, Some, refl, sym, ap, subst, append_assoc}
use Rattle.ob_base.specs.declared.params.Params.{Params}
use Rattle.ob_serial.specs.Vaults.{VaultCounts}
use Rattle.ob_desk.specs.Desk as desk
use Rattle.ob_desk.specs.Desk.{DeskState, Call, Reply, MayCall}
use Rattle.ob_turn.specs.declared.turn.Entry.{Entry}
use Rattle.ob_hall.specs.Passes.{Steps, Hall, Pass, EntersTurn}
use Rattle.ob_hall.specs.Rounds.{Rounds}
use Rattle.ob_driver.specs.Resting.{fetching, noted_by, IsDriver, IsOut}
use Rattle.ob_driver.specs.Turning.{NotesMore, MakesTurn}
use Rattle.ob_driver.proofs.Turning.{turn_from}
use Rattle.ob_driver.proofs.Resting.{mid_place, sound, rounds_are, not_closed, none_noted, same_entries}

-- a turn that began here
pub whole_turn : (hall : Hall) (before mid after : Pass) (d : DeskState) (calls : Steps) → IsDriver hall before → EntersTurn hall before mid d → MakesTurn mid after (noted_by mid ++ calls) → MakesTurn before after calls
whole_turn hall before mid after d calls driver entered m = record {
  turn = m.turn;
  made = m.made ∙ ap (λ (es : List (Entry Steps)). es ++ m.turn ∷ []) (same_entries hall before mid d driver entered);
  calls_are = m.calls_are ∙ ap (λ (s : Steps). s ++ calls) (none_noted hall before mid d driver entered);
  place = m.place ∙ (mid_place hall before mid d driver entered ∙ sym driver.place);
}

-- notes, and the end of the turn
pub behind_notes : (before mid after : Pass) (notes calls : Steps) → NotesMore before mid notes → MakesTurn mid after (noted_by mid ++ calls) → MakesTurn before after (noted_by before ++ (notes ++ calls))
behind_notes before mid after notes calls n m = subst (λ (s : Steps). MakesTurn before after s) (ap (λ (s : Steps). s ++ calls) n.noted ∙ append_assoc (noted_by before) notes calls) (turn_from before mid after notes (noted_by mid ++ calls) n m)

-- The batch that is out may be delivered.
pub may_land : (hall : Hall) (before mid : Pass) (d : DeskState) (c : VaultCounts) (keys : List (Option ℕ)) (values : List (Option (List ℕ))) → IsOut hall before c keys → EntersTurn hall before mid d → length values ≡ length keys → MayCall d (desk.Deliver keys values)
may_land hall before mid d c keys values o entered whole = (
  not_closed hall before mid d o.driver entered (fetching c o.flying) o.rounds refl,
  o.keys_are ∙ (ap (λ (p : Params). map Some o.flying ++ replicate (p.places - length o.flying) None) (sym (sound hall before mid d o.driver entered).params)
      ∙ ap (λ (flying : List ℕ). map Some flying ++ replicate (d.setup.params.places - length flying) None) (sym (ap (λ (q : Rounds). q.flying) (rounds_are hall before mid d o.driver entered ∙ o.rounds)))),
  whole,
)
