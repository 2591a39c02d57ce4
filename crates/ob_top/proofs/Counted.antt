-- Each script is read in one way, and lanes are one number.
use Rattle.std.proofs.Common.{◌≡◌, ◌≤◌, ◌^◌, ℕ, List, [], ◌∷◌, Option, None, Some, sym, ap, subst, arith, ◌∙◌}
use Rattle.std.proofs.lemmas.Fmt.{decimal_injective}
use Rattle.ob_words.specs.Work.{AreLanes}
use Rattle.ob_script.specs.Script.{Text, State, Scripts, AcceptsLine, ReadsLines, IsScript, step, start, lines_of}
use Rattle.ob_script.proofs.OneReading.{one_line}

some_same : (s t : State) → ◌≡◌ {A = Option State} (Some s) (Some t) → s ≡ t
some_same s t h = cc h

one_next : (n : ℕ) → n ≤ 2 ^ 32 → (s : State) (text : Text) (a b : State) → AcceptsLine n s text a → AcceptsLine n s text b → a ≡ b
one_next n small s text a b x y =
    let same = one_line n small x.line y.line text x.range y.range x.text_is y.text_is in
    some_same a b (sym x.next_is ∙ ap (step s) same ∙ y.next_is)

one_state : (n : ℕ) → n ≤ 2 ^ 32 → (s : State) (texts : List Text) (a b : State) → ReadsLines n s texts a → ReadsLines n s texts b → a ≡ b
one_state n small s [] a b x y = sym x ∙ y
one_state n small s (t ∷ texts) a b x y = one_state n small y.0 texts a b (subst (λ (q : State). ReadsLines n q texts a) (one_next n small s t x.0 y.0 x.1 y.1) x.2) y.2

-- bytes are one script
pub one_script : (n : ℕ) → n ≤ 2 ^ 32 → (bytes : List ℕ) (a b : Scripts) → IsScript n bytes a → IsScript n bytes b → a ≡ b
one_script n small bytes a b x y =
    let same = one_state n small start (lines_of bytes) x.last y.last x.reads y.reads in
    x.scripts_are ∙ ap (λ (s : State). record { keys = n; clients = s.clients; txns = s.done }) same ∙ sym y.scripts_are

-- the word of `--lanes` is one number's
pub one_lanes : (lanes : Option (List ℕ)) (m n : ℕ) → AreLanes lanes m → AreLanes lanes n → m ≡ n
one_lanes None m n a b = a ∙ sym b
one_lanes (Some word) m n (a, some, few) (b, more, less) = decimal_injective m n (omega (arith, few)) (omega (arith, less)) (sym a ∙ b)
