-- A turn of several calls, for its caller: it begins, goes on with each call that is noted, and ends with the last.
use Rattle.std.proofs.Common.{ℕ, List, ◌++◌, ◌∷◌, [], refl, sym, ◌∙◌, subst}
use Rattle.ob_turn.specs.declared.turn.View.{View}
use Rattle.ob_turn.specs.History.{IsAt, Reaches}
use Rattle.ob_turn.specs.TurnRule.{noting}
use Rattle.ob_turn.specs.TurnCalls.{TurnSeat, Enters, NotesCall, TurnGoesOn}
use Rattle.ob_turn.proofs.Entries.{calls-snoc}

module _ {T E : Type 0} (steps : ℕ → T → E → T → Type 0) where
  -- What the calls lead to, and one more.
  pub one_more : (v : View T E) (calls : List E) (x y : T) (e : E) → IsAt steps v calls x → steps v.by x e y → IsAt steps v (calls ++ e ∷ []) y
  one_more v calls x y e at st = (at.0, at.1, calls-snoc steps v.by at.0 calls x y e at.2 st)

  -- The turn has begun.
  pub turn_begins : (before now : TurnSeat T E) (x : T) → Enters steps before now x → TurnGoesOn steps now now x
  turn_begins before now x e = record { same = record { table = refl; id = refl }; inside = e.inside; knows = refl; value = e.value }

  -- A call led on, and is noted.
  pub turn_goes_on : (entered now next : TurnSeat T E) (x y : T) (e : E) → TurnGoesOn steps entered now x → steps now.me.0.by x e y → NotesCall now next e → TurnGoesOn steps entered next y
  turn_goes_on entered now next x y e g st n = record {
    same = record { table = n.same.table ∙ g.same.table; id = n.same.id ∙ g.same.id };
    inside = n.inside;
    knows = n.knows ∙ ((λ i. noting (g.knows i) e) ∙ (λ i. record entered.me.0 { noted = (sym n.knows i).noted }));
    value = subst (λ (v : View T E). Reaches steps v y) (sym n.knows) (one_more now.me.0 now.me.0.noted x y e g.value st);
  }

  -- The last call leads on: what the end of the turn asks.
  pub turn_ends : (entered now : TurnSeat T E) (x y : T) (e : E) → TurnGoesOn steps entered now x → steps now.me.0.by x e y → IsAt steps now.me.0 (now.me.0.noted ++ e ∷ []) y
  turn_ends entered now x y e g st = one_more now.me.0 now.me.0.noted x y e g.value st
