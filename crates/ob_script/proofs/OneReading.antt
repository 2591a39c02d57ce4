-- Bytes are read in one way, and no script has a bad line.
use Rattle.std.proofs.Common.{◌≡◌, ◌≤◌, ◌^◌, ℕ, List, [], ◌∷◌, ◌++◌, Option, Some, None, true, false, sym, ap, ◌∙◌, inl, inr}
use Rattle.std.specs.Prelude.{is_none}
use Rattle.ob_script.specs.declared.line.Line.{Line}
use Rattle.ob_script.specs.Script.{Text, State, AcceptsLine, ReadsLines, IsScript, is_within, Scripts, IsFirstBad, IsBad, IsInRange, IsSpelled, step, start}
use Rattle.ob_script.proofs.Lines.{line_only}

same_line : (a b : Line) → ◌≡◌ {A = Option Line} (Some a) (Some b) → a ≡ b
same_line a b h = cc h

pub one_line : (n : ℕ) → n ≤ 2 ^ 32 → (a b : Line) (text : Text) → IsInRange n a → IsInRange n b → IsSpelled a text → IsSpelled b text → a ≡ b
one_line n small a b text p q x y = same_line a b (sym (line_only n a text small p x) ∙ line_only n b text small q y)

some_same : (s t : State) → ◌≡◌ {A = Option State} (Some s) (Some t) → s ≡ t
some_same s t h = cc h

one_next : (n : ℕ) → n ≤ 2 ^ 32 → (s : State) (text : Text) (a b : State) → AcceptsLine n s text a → AcceptsLine n s text b → a ≡ b
one_next n small s text a b x y =
    let same = one_line n small x.line y.line text x.range y.range x.text_is y.text_is in
    some_same a b (sym x.next_is ∙ ap (step s) same ∙ y.next_is)

-- where some lines and others behind them are read, the first lead to one state
parts_read : (n : ℕ) → n ≤ 2 ^ 32 → (s : State) (before behind : List Text) (mid last : State) → ReadsLines n s before mid → ReadsLines n s (before ++ behind) last → ReadsLines n mid behind last
parts_read n small s [] behind mid last h e = rw h at e
parts_read n small s (t ∷ before) behind mid last h e =
    let same = one_next n small s t h.0 e.0 h.1 e.1 in
    parts_read n small h.0 before behind mid last h.2 (rw (sym same) at e.2)

none_is : {A : Type 0} (o : Option A) → o ≡ None → is_none o ≡ false → ⊥
none_is o e f = let g = rw e at f in cc g

bad_read : (n : ℕ) (bytes : List ℕ) (s : State) (behind : List Text) (last : State) → IsBad n bytes s behind → ReadsLines n s behind last → is_within bytes ≡ true → last.open_asks ≡ None → ⊥
bad_read n bytes s (text ∷ texts) last bad h within whole = let no_step = bad h.1.line h.1.range h.1.text_is in let both = sym no_step ∙ h.1.next_is in cc both
bad_read n bytes s [] last (inl past) h within whole = let both = sym past ∙ within in cc both
bad_read n bytes s [] last (inr left_open) h within whole = none_is s.open_asks (ap (λ (x : State). x.open_asks) h ∙ whole) left_open

pub not_both : (n : ℕ) → n ≤ 2 ^ 32 → (bytes : List ℕ) (line : ℕ) (scripts : Scripts) → IsFirstBad n bytes line → IsScript n bytes scripts → ⊥
not_both n small bytes line scripts b s = bad_read n bytes b.state b.behind s.last b.bad (parts_read n small start b.before b.behind b.state s.last b.good (rw b.lines_are at s.reads)) s.within s.whole
