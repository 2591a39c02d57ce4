-- A turn of a pass, as entries of the one history.
use Rattle.std.proofs.Common.{◌≡◌, ℕ, List, [], ◌∷◌, ◌++◌, Option, refl, sym, ◌∙◌, subst, append-nil}
use mathlib.Core.List.{IsPrefix}
use Rattle.ob_desk.specs.Desk.{DeskState}
use Rattle.ob_session.specs.Steps as steps
use Rattle.ob_turn.specs.declared.turn.Entry.{Entry}
use Rattle.ob_turn.specs.declared.turn.View.{View}
use Rattle.ob_turn.specs.History.{entry, LeadsByTurns, LeadsFromOpening, IsAt, Reaches}
use Rattle.ob_turn.specs.TurnRule.{left}
use Rattle.ob_turn.specs.declared.bell.Heard.{Heard}
use Rattle.atomic_table.specs.declared.shared.Seat.{Seat}
use Rattle.ob_turn.proofs.Entries.{leads-snoc}
use Rattle.ob_turn.proofs.Prefixes.{prefix_snoc}
use Rattle.ob_hall.specs.Turns.{IsBy, IsTurn}
use Rattle.ob_hall.specs.Passes.{Steps, Hall, Pass, opening_of, pass_place, history_of, calls_in, IsPassOf, IsEarOf, IsLegal, EntersTurn, LeavesTurn}
use Rattle.ob_hall.specs.Calling.{MakesCalls}

abbrev V : Type 0
V = View DeskState Steps

-- The desk of a pass in its turn is what the whole history leads to.
pub entered_legal : (hall : Hall) (before after : Pass) (d : DeskState) → IsPassOf hall before → EntersTurn hall before after d → IsLegal hall (history_of after) d
entered_legal hall before after d own e =
    let reached : Reaches IsTurn (record before.seat.me.0 { stage = after.seat.me.0.stage; noted = []; seen = after.seat.me.0.seen }) d = subst (λ (v : V). Reaches IsTurn v d) e.enters.knows e.enters.value in
    let legal : LeadsByTurns IsTurn (opening_of hall) (history_of after) reached.0 = subst (λ (o : Option DeskState). LeadsFromOpening IsTurn o (history_of after) reached.0) own.opening reached.1 in
    subst (λ (q : DeskState). LeadsByTurns IsTurn (opening_of hall) (history_of after) q) reached.2 legal

-- What the end of a turn with one note asks.
pub one_note : (hall : Hall) (before after : Pass) (d new : DeskState) (calls : Steps) → EntersTurn hall before after d → steps.Leads d calls new → IsBy (pass_place after) d calls
    → IsAt IsTurn after.seat.me.0 (after.seat.me.0.noted ++ calls ∷ []) new
one_note hall before after d new calls e led by =
    let v : V = record before.seat.me.0 { stage = after.seat.me.0.stage; noted = []; seen = after.seat.me.0.seen } in
    let reached : Reaches IsTurn v d = subst (λ (w : V). Reaches IsTurn w d) e.enters.knows e.enters.value in
    let same_by : pass_place after ≡ pass_place before = λ i. (e.enters.knows i).by in
    let at : IsAt IsTurn v (calls ∷ []) new = (
      reached.0,
      reached.1,
      (
        new,
        (subst (λ (q : DeskState). steps.Leads q calls new) (sym reached.2) led, subst (λ (q : DeskState). IsBy (pass_place before) q calls) (sym reached.2) (subst (λ (n : ℕ). IsBy n d calls) same_by by)),
        refl,
      ),
    ) in
    subst (λ (w : V). IsAt IsTurn w (w.noted ++ calls ∷ []) new) (sym e.enters.knows) at

calls_of_one : (by : ℕ) (calls : Steps) → calls_in (entry by (calls ∷ []) ∷ []) ≡ calls
calls_of_one by calls = append-nil (calls ++ []) ∙ append-nil calls

-- A turn with one note is one more entry.
pub one_turn : (hall : Hall) (before mid after : Pass) (d new : DeskState) (calls : Steps) → IsPassOf hall before → EntersTurn hall before mid d → steps.Leads d calls new → IsBy (pass_place mid) d calls → LeavesTurn mid after calls
    → MakesCalls hall before after calls
one_turn hall before mid after d new calls own e led by l =
    let view : mid.seat.me.0 ≡ record before.seat.me.0 { stage = mid.seat.me.0.stage; noted = []; seen = mid.seat.me.0.seen } = e.enters.knows in
    let one : Entry Steps = entry (pass_place before) (calls ∷ []) in
    let after_is : after.seat.me.0 ≡ left (record before.seat.me.0 { stage = mid.seat.me.0.stage; noted = []; seen = mid.seat.me.0.seen }) calls = (λ i. (l.ends.knows i).0) ∙ (λ i. left (view i) calls) in
    let seen : history_of after ≡ history_of mid ++ one ∷ [] = λ i. (after_is i).seen in
    let legal : IsLegal hall (history_of mid) d = entered_legal hall before mid d own e in
    let place : pass_place after ≡ pass_place before = λ i. (after_is i).by in
    let same_by : pass_place mid ≡ pass_place before = λ i. (view i).by in
    let turn : IsTurn (pass_place before) d calls new = (led, subst (λ (n : ℕ). IsBy n d calls) same_by by) in
    record {
      goes_on = subst (IsPrefix (history_of before)) (sym seen) (prefix_snoc (history_of before) (history_of mid) one e.enters.goes_on);
      legal = (new, subst (λ (h : List (Entry Steps)). IsLegal hall h new) (sym seen) (leads-snoc IsTurn (opening_of hall) (history_of mid) d new (pass_place before) (calls ∷ []) legal (new, turn, refl)));
      new = one ∷ [];
      made = λ i. (after_is i).mine;
      calls_are = calls_of_one (pass_place before) calls;
      own = l.ends.own;
      last = ([], history_of mid, one, refl, seen);
      place = place;
      client = l.beside.client ∙ e.beside.client;
    }

-- The pass stays one of this hall.
abbrev IsEar : Hall → Seat (Unit {0}) Heard → Type 0
IsEar hall ear = IsEarOf hall ear

pub still_own : (hall : Hall) (before mid after : Pass) (d : DeskState) (calls : Steps) → IsPassOf hall before → EntersTurn hall before mid d → LeavesTurn mid after calls → IsPassOf hall after
still_own hall before mid after d calls own e l = record {
  seat = (l.ends.same.table ∙ e.enters.same.table) ∙ own.seat;
  ear = subst (λ x. IsEar hall x) (sym (l.beside.ear ∙ e.beside.ear)) own.ear;
  opening = (λ i. (l.ends.knows i).0.opening) ∙ ((λ i. (e.enters.knows i).opening) ∙ own.opening);
  opens = own.opens;
  own = l.ends.own;
  one_part = (λ i. (l.ends.knows i).0.parts) ∙ ((λ i. (e.enters.knows i).parts) ∙ own.one_part);
}
