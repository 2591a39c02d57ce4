-- A seat that drew a ticket, found it served and took the slot is in its turn.
use Rattle.std.proofs.Common.{◌≡◌, ℕ, List, [], ◌∷◌, length, ap, refl, sym, ◌∙◌, subst}
use Rattle.std.specs.List.{All}
use mathlib.Core.Option.{some, some-injective}
use mathlib.Core.List.{IsPrefix}
use Rattle.atomic_table.specs.Table.{rest}
use Rattle.ob_turn.specs.declared.turn.Entry.{Entry}
use Rattle.ob_turn.specs.declared.turn.View.{View}
use Rattle.ob_turn.specs.declared.turn.Slot.{Slot}
use Rattle.ob_turn.specs.declared.turn.Slot.TheVariants.{Out}
use Rattle.ob_turn.specs.declared.turn.Stage.TheVariants.{Waiting, Inside}
use Rattle.ob_turn.specs.History.{entries_of, HasPart, LeadsFromOpening, Reaches}
use Rattle.ob_turn.specs.TurnRule.{value_in, staged, Entered}
use Rattle.ob_turn.specs.TurnCalls.{TurnSeat, IsSame, Enters}

module _ {T E : Type 0} (steps : ℕ → T → E → T → Type 0) where
  first_value : Slot T E → List (ℕ × Slot T E) → Slot T E
  first_value y [] = y
  first_value y (c ∷ cs) = c.1

  pub enters : (before drawn watched after : TurnSeat T E) (k : ℕ) (y : Slot T E) (x : T)
      → IsSame before drawn → drawn.me ≡ (staged before.me.0 (Waiting k), before.me.1) → before.me.1 ≡ [] → IsSame drawn watched → Entered steps drawn.me k watched.me
      → IsSame watched after → watched.me.1 ≡ (0, y) ∷ rest watched.me.1 → after.me ≡ (watched.me.0, (0, Out) ∷ rest watched.me.1) → value_in y ≡ some x → Enters steps before after x
  unfolding first_value
  enters before drawn watched after k y x same_drawn drew empty same_watched found same_after took gave has =
      let e : Entered steps (staged before.me.0 (Waiting k), before.me.1) k watched.me = subst (λ m. Entered steps m k watched.me) drew found in
      let log : List (Entry E) = e.2 in
      let held : watched.me.1 ≡ (0, e.0) ∷ before.me.1 = λ i. (e.3 i).1 in
      let one : y ≡ e.0 = ap (first_value y) (sym took ∙ held) in
      let value : x ≡ e.1 = some-injective x e.1 (sym has ∙ (ap value_in one ∙ e.4)) in
      let view : after.me.0 ≡ record before.me.0 { stage = Inside k; noted = []; seen = log } = (λ i. (gave i).0) ∙ (λ i. (e.3 i).0) in
      let seen : log ≡ after.me.0.seen = λ i. (sym view i).seen in record {
        same = record { table = same_after.table ∙ (same_watched.table ∙ same_drawn.table); id = same_after.id ∙ (same_watched.id ∙ same_drawn.id) };
        inside = record {
          stage = (k, λ i. (view i).stage);
          slot = (Out, (λ i. (gave i).1) ∙ (ap (λ (l : List (ℕ × Slot T E)). (0, Out) ∷ rest l) held ∙ ap (λ (l : List (ℕ × Slot T E)). (0, Out) ∷ l) empty));
        };
        knows = view ∙ (λ i. record before.me.0 { stage = (sym view i).stage; noted = []; seen = (sym view i).seen });
        goes_on = subst (IsPrefix before.me.0.seen) seen e.6;
        own = subst (λ (v : View T E). entries_of v.by v.seen ≡ v.mine) (sym view) e.7;
        joined = subst (λ (l : List (Entry E)). All (HasPart l) before.me.0.joined) seen e.8;
        value = subst (λ (v : View T E). Reaches steps v x) (sym view) (x, subst (LeadsFromOpening steps before.me.0.opening log) (sym value) e.5, refl);
      }

  -- Its ticket says how many turns it has seen.
  pub places : (before drawn watched after : TurnSeat T E) (k : ℕ)
      → drawn.me ≡ (staged before.me.0 (Waiting k), before.me.1) → Entered steps drawn.me k watched.me → after.me.0 ≡ watched.me.0 → length after.me.0.seen ≡ k
  places before drawn watched after k drew found same =
      let e : Entered steps (staged before.me.0 (Waiting k), before.me.1) k watched.me = subst (λ m. Entered steps m k watched.me) drew found in
      (λ i. length (same i).seen) ∙ ((λ i. length (e.3 i).0.seen) ∙ sym e.9)
