-- A turn of the driver's: it goes on call by call, and ends.
use Rattle.std.proofs.Common.{◌≡◌, ◌∙◌, ℕ, zero, List, [], ◌∷◌, ◌++◌, None, refl, sym, ap, subst, append-nil, append_assoc}
use Rattle.std.proofs.lemmas.List.Elements.{All-nil, All-cons}
use Rattle.std.proofs.lemmas.List.Concat.{flat_map-append}
use Rattle.ob_desk.specs.Desk.{DeskState, Call, Reply, MayCall, DeskStep}
use Rattle.ob_session.specs.Clients.{client_of}
use Rattle.ob_turn.specs.declared.turn.Entry.{Entry}
use Rattle.ob_turn.specs.declared.turn.View.{View}
use Rattle.ob_turn.specs.History.{entry, IsAt, Reaches}
use Rattle.ob_turn.proofs.LongTurn.{one_more}
use Rattle.ob_hall.specs.Turns.{IsBy, IsTurn}
use Rattle.ob_hall.specs.Passes.{Steps, Hall, Pass, pass_place, entries_by, calls_in, own_calls, IsPassOf, NotesTurn, LeavesTurn}
use Rattle.ob_hall.proofs.Histories.{noted_calls, IsNoClients}
use Rattle.ob_hall.proofs.Chaining.{calls_append}
use Rattle.ob_driver.specs.Resting.{IsInTurn, noted_by}
use Rattle.ob_conduct.specs.Acts.{Act, history}
use Rattle.ob_driver.specs.Turning.{NotesMore, MakesTurn, IsOneTurn, AreActs}

-- one call of the driver's is a turn's part
one_call : (by : ℕ) (d : DeskState) (s : Call × Reply) (new : DeskState) → by ≡ zero → MayCall d s.0 → DeskStep d s.0 s.1 new → client_of s.0 ≡ None → IsTurn by d (s ∷ []) new
one_call by d s new place may step none = ((new, may, step, refl), subst (λ (n : ℕ). IsBy n d (s ∷ [])) (sym place) (All-cons IsNoClients s [] none (All-nil IsNoClients)))

-- what the end of the turn asks, and what a note leads to
pub call_leads : (hall : Hall) (now : Pass) (d new : DeskState) (s : Call × Reply) → IsInTurn hall now d → MayCall d s.0 → DeskStep d s.0 s.1 new → client_of s.0 ≡ None → IsAt IsTurn now.seat.me.0 (now.seat.me.0.noted ++ (s ∷ []) ∷ []) new
call_leads hall now d new s t may step none = one_more IsTurn now.seat.me.0 now.seat.me.0.noted d new (s ∷ []) t.value (one_call (pass_place now) d s new t.place may step none)

pub call_noted : (hall : Hall) (now next : Pass) (d new : DeskState) (s : Call × Reply) → IsInTurn hall now d → NotesTurn now next (s ∷ []) → IsPassOf hall next → MayCall d s.0 → DeskStep d s.0 s.1 new → client_of s.0 ≡ None → IsInTurn hall next new
call_noted hall now next d new s t n own may step none = record {
  own = own;
  place = (λ i. (n.notes.knows i).by) ∙ t.place;
  inside = n.notes.inside;
  value = subst (λ (v : View DeskState Steps). Reaches IsTurn v new) (sym n.notes.knows) (call_leads hall now d new s t may step none);
}

pub notes_one : (now next : Pass) (s : Call × Reply) → NotesTurn now next (s ∷ []) → NotesMore now next (s ∷ [])
notes_one now next s n = record {
  made = λ i. (n.notes.knows i).mine;
  seen = λ i. (n.notes.knows i).seen;
  noted = ap noted_calls (λ i. (n.notes.knows i).noted) ∙ flat_map-append (λ (c : Steps). c) now.seat.me.0.noted ((s ∷ []) ∷ []);
  place = λ i. (n.notes.knows i).by;
  ear = n.beside.ear;
}

pub notes_join : (a b c : Pass) (xs ys : Steps) → NotesMore a b xs → NotesMore b c ys → NotesMore a c (xs ++ ys)
notes_join a b c xs ys m n = record {
  made = n.made ∙ m.made;
  seen = n.seen ∙ m.seen;
  noted = n.noted ∙ (ap (λ (l : Steps). l ++ ys) m.noted ∙ append_assoc (noted_by a) xs ys);
  place = n.place ∙ m.place;
  ear = n.ear ∙ m.ear;
}

pub turn_made : (now after : Pass) (s : Call × Reply) → LeavesTurn now after (s ∷ []) → MakesTurn now after (noted_by now ++ s ∷ [])
turn_made now after s l = record {
  turn = entry (pass_place now) (now.seat.me.0.noted ++ (s ∷ []) ∷ []);
  made = λ i. (l.ends.knows i).0.mine;
  calls_are = append-nil (noted_calls (now.seat.me.0.noted ++ (s ∷ []) ∷ [])) ∙ flat_map-append (λ (c : Steps). c) now.seat.me.0.noted ((s ∷ []) ∷ []);
  place = λ i. (l.ends.knows i).0.by;
}

-- a turn that began before these notes
pub turn_from : (before now after : Pass) (notes calls : Steps) → NotesMore before now notes → MakesTurn now after calls → MakesTurn before after calls
turn_from before now after notes calls n m = record { turn = m.turn; made = m.made ∙ ap (λ (es : List (Entry Steps)). es ++ m.turn ∷ []) n.made; calls_are = m.calls_are; place = m.place ∙ n.place }

-- the pass's calls are so much longer
pub calls_longer : (before after : Pass) (calls : Steps) → MakesTurn before after calls → own_calls after ≡ own_calls before ++ calls
calls_longer before after calls m = ap calls_in m.made ∙ (calls_append (entries_by before) (m.turn ∷ []) ∙ ap (λ (c : Steps). own_calls before ++ c) m.calls_are)

-- ---- turns as acts

pub acts_append : (turns : List (Entry Steps)) (acts : List Act) (more : List (Entry Steps)) (also : List Act) → AreActs turns acts → AreActs more also → AreActs (turns ++ more) (acts ++ also)
acts_append [] acts more also none are = subst (λ (x : List Act). AreActs more (x ++ also)) (sym none) are
acts_append (turn ∷ turns) acts more also (these, rest, is, one, calls_are, behind) are =
    (these, rest ++ also, ap (λ (x : List Act). x ++ also) is ∙ append_assoc these rest also, one, calls_are, acts_append turns rest more also behind are)

-- one turn, in which these acts were done
pub acts_one : (turn : Entry Steps) (acts : List Act) → IsOneTurn acts → calls_in (turn ∷ []) ≡ history acts → AreActs (turn ∷ []) acts
acts_one turn acts one calls_are = (acts, [], sym (append-nil acts), one, calls_are, refl)
