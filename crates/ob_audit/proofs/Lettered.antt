-- Lines that begin with a letter and a blank, and the others.
use Rattle.std.proofs.Common.{◌≡◌, ◌<◌, ◌^◌, ◌⊎◌, ℕ, Bool, true, false, List, [], ◌∷◌, Option, Some, None, refl, sym, ap, ◌∙◌, arith, inl, inr}
use Rattle.std.specs.Prelude.{option_map}
use Rattle.std.specs.Fmt.{decimal}
use Rattle.ob_base.specs.declared.params.Params.{Params}
use Rattle.ob_store.specs.declared.watch.Note.TheVariants as N
use Rattle.ob_schedule.specs.declared.line.Line.{Line}
use Rattle.ob_schedule.specs.declared.line.Line.TheVariants as L
use Rattle.ob_audit.specs.Spelling.{numbers_text, open_text, IsLineSpelled, IsLineInRange}

head_is : (a b : ℕ) (xs ys : List ℕ) → a ∷ xs ≡ b ∷ ys → a ≡ b
head_is a b xs ys e = cc

behind_two : (a b c d : ℕ) (xs ys : List ℕ) → a ∷ c ∷ xs ≡ b ∷ d ∷ ys → xs ≡ ys
behind_two a b c d xs ys e = cc

two_items : (a b : ℕ) (xs : List ℕ) (c : ℕ) → a ∷ b ∷ xs ≡ c ∷ [] → ⊥
two_items a b xs c e = cc

open_letter : (letter : ℕ) (rest : List ℕ) (mirrored : Bool) → letter ∷ 32 ∷ rest ≡ open_text mirrored → letter ≡ 79
open_letter letter rest false is = absurd (two_items letter 32 rest 79 is)
open_letter letter rest true is = head_is letter 79 (32 ∷ rest) (32 ∷ 77 ∷ []) is

-- the parameters' line
pub start_only : (letter : ℕ) (rest : List ℕ) (o : Option Params) → letter ≡ 80 → ((p : Params) → rest ≡ numbers_text p → o ≡ Some p) → (line : Line) → IsLineSpelled line (letter ∷ 32 ∷ rest) → option_map L.Start o ≡ Some line
start_only letter rest o at only (L.Start p) is = ap (option_map L.Start) (only p (behind_two letter 80 32 32 rest (numbers_text p) is))
start_only letter rest o at only (L.Open mirrored) is = absurd (let e : letter ≡ 79 = open_letter letter rest mirrored is in omega arith)
start_only letter rest o at only (L.Note (N.Label x)) is = absurd (let e : letter ≡ 76 = head_is letter 76 (32 ∷ rest) (32 ∷ decimal x) is in omega arith)
start_only letter rest o at only (L.Note (N.Read x)) is = absurd (let e : letter ≡ 82 = head_is letter 82 (32 ∷ rest) (32 ∷ decimal x) is in omega arith)
start_only letter rest o at only (L.Note (N.Write x)) is = absurd (let e : letter ≡ 87 = head_is letter 87 (32 ∷ rest) (32 ∷ decimal x) is in omega arith)
start_only letter rest o at only (L.Note N.Sync) is = absurd (let e : letter ≡ 83 = head_is letter 83 (32 ∷ rest) [] is in omega arith)
start_only letter rest o at only L.Bad is = absurd is

-- what a letter's line is
abbrev pub LetterLine : ℕ → ℕ → Line → Type 0
LetterLine letter n line = ((letter ≡ 76) × (line ≡ L.Note (N.Label n))) ⊎ (((letter ≡ 82) × (line ≡ L.Note (N.Read n))) ⊎ ((letter ≡ 87) × (line ≡ L.Note (N.Write n))))

pub number_line : (letter : ℕ) (rest : List ℕ) (o : Option ℕ) → (letter ≡ 80 → ⊥) → (letter ≡ 79 → ⊥) → ((n : ℕ) → n < 2 ^ 64 → rest ≡ decimal n → o ≡ Some n) → (line : Line) → IsLineInRange line → IsLineSpelled line (letter ∷ 32 ∷ rest) → (n : ℕ) × ((o ≡ Some n) × LetterLine letter n line)
number_line letter rest o other closed only (L.Start p) range is = absurd (other (head_is letter 80 (32 ∷ rest) (32 ∷ numbers_text p) is))
number_line letter rest o other closed only (L.Open mirrored) range is = absurd (closed (open_letter letter rest mirrored is))
number_line letter rest o other closed only (L.Note (N.Label x)) range is = (x, (only x range (behind_two letter 76 32 32 rest (decimal x) is), inl (head_is letter 76 (32 ∷ rest) (32 ∷ decimal x) is, refl)))
number_line letter rest o other closed only (L.Note (N.Read x)) range is = (x, (only x range (behind_two letter 82 32 32 rest (decimal x) is), inr (inl (head_is letter 82 (32 ∷ rest) (32 ∷ decimal x) is, refl))))
number_line letter rest o other closed only (L.Note (N.Write x)) range is = (x, (only x range (behind_two letter 87 32 32 rest (decimal x) is), inr (inr (head_is letter 87 (32 ∷ rest) (32 ∷ decimal x) is, refl))))
number_line letter rest o other closed only (L.Note N.Sync) range is = absurd (two_items letter 32 rest 83 is)
number_line letter rest o other closed only L.Bad range is = absurd is

-- the number that was read, and its letter's line
some_same : (a b : ℕ) → ◌≡◌ {A = Option ℕ} (Some a) (Some b) → a ≡ b
some_same a b e = cc

pub label_only : (letter n : ℕ) (rest : List ℕ) → letter ≡ 76 → ((m : ℕ) → m < 2 ^ 64 → rest ≡ decimal m → ◌≡◌ {A = Option ℕ} (Some n) (Some m)) → (line : Line) → IsLineInRange line → IsLineSpelled line (letter ∷ 32 ∷ rest) → ◌≡◌ {A = Option Line} (Some (L.Note (N.Label n))) (Some line)
label_only letter n rest at only line range is =
    let t = number_line letter rest (Some n) (λ e. omega (arith, e, at)) (λ e. omega (arith, e, at)) only line range is in
    elim t.1.1 [
      | inl a ↦ ap (λ (m : ℕ). Some (L.Note (N.Label m))) (some_same n t.0 t.1.0) ∙ ap (λ (l : Line). Some l) (sym a.1)
      | inr (inl a) ↦ absurd (omega (arith, a.0, at))
      | inr (inr a) ↦ absurd (omega (arith, a.0, at))
    ]

pub read_only : (letter n : ℕ) (rest : List ℕ) → letter ≡ 82 → ((m : ℕ) → m < 2 ^ 64 → rest ≡ decimal m → ◌≡◌ {A = Option ℕ} (Some n) (Some m)) → (line : Line) → IsLineInRange line → IsLineSpelled line (letter ∷ 32 ∷ rest) → ◌≡◌ {A = Option Line} (Some (L.Note (N.Read n))) (Some line)
read_only letter n rest at only line range is =
    let t = number_line letter rest (Some n) (λ e. omega (arith, e, at)) (λ e. omega (arith, e, at)) only line range is in
    elim t.1.1 [
      | inl a ↦ absurd (omega (arith, a.0, at))
      | inr (inl a) ↦ ap (λ (m : ℕ). Some (L.Note (N.Read m))) (some_same n t.0 t.1.0) ∙ ap (λ (l : Line). Some l) (sym a.1)
      | inr (inr a) ↦ absurd (omega (arith, a.0, at))
    ]

pub write_only : (letter n : ℕ) (rest : List ℕ) → letter ≡ 87 → ((m : ℕ) → m < 2 ^ 64 → rest ≡ decimal m → ◌≡◌ {A = Option ℕ} (Some n) (Some m)) → (line : Line) → IsLineInRange line → IsLineSpelled line (letter ∷ 32 ∷ rest) → ◌≡◌ {A = Option Line} (Some (L.Note (N.Write n))) (Some line)
write_only letter n rest at only line range is =
    let t = number_line letter rest (Some n) (λ e. omega (arith, e, at)) (λ e. omega (arith, e, at)) only line range is in
    elim t.1.1 [
      | inl a ↦ absurd (omega (arith, a.0, at))
      | inr (inl a) ↦ absurd (omega (arith, a.0, at))
      | inr (inr a) ↦ ap (λ (m : ℕ). Some (L.Note (N.Write m))) (some_same n t.0 t.1.0) ∙ ap (λ (l : Line). Some l) (sym a.1)
    ]

-- no line: there is no number, or the letter is another
pub no_number : (letter : ℕ) (rest : List ℕ) → (letter ≡ 80 → ⊥) → (letter ≡ 79 → ⊥) → ((m : ℕ) → m < 2 ^ 64 → rest ≡ decimal m → ◌≡◌ {A = Option ℕ} None (Some m)) → (line : Line) → IsLineInRange line → IsLineSpelled line (letter ∷ 32 ∷ rest) → ⊥
no_number letter rest other closed only line range is = let t = number_line letter rest None other closed only line range is in let e = t.1.0 in absurd (cc)

pub no_letter : (letter n : ℕ) (rest : List ℕ) → (letter ≡ 80 → ⊥) → (letter ≡ 79 → ⊥) → (letter ≡ 76 → ⊥) → (letter ≡ 82 → ⊥) → (letter ≡ 87 → ⊥) → ((m : ℕ) → m < 2 ^ 64 → rest ≡ decimal m → ◌≡◌ {A = Option ℕ} (Some n) (Some m)) → (line : Line) → IsLineInRange line → IsLineSpelled line (letter ∷ 32 ∷ rest) → ⊥
no_letter letter n rest p o l r w only line range is =
    let t = number_line letter rest (Some n) p o only line range is in
    elim t.1.1 [
      | inl a ↦ l a.0
      | inr (inl a) ↦ r a.0
      | inr (inr a) ↦ w a.0
    ]

-- ---- a run with a mirror

letter_alone : (x : ℕ) (rest text : List ℕ) → (79 ≡ x → ⊥) → 79 ∷ 32 ∷ rest ≡ x ∷ text → ⊥
letter_alone x rest text other is = other (head_is 79 x (32 ∷ rest) text is)

pub mirrored_line : (rest : List ℕ) (line : Line) → IsLineSpelled line (79 ∷ 32 ∷ rest) → (line ≡ L.Open true) × (rest ≡ 77 ∷ [])
mirrored_line rest (L.Start p) is = absurd (letter_alone 80 rest (32 ∷ numbers_text p) (λ e. omega (arith, e)) is)
mirrored_line rest (L.Open false) is = absurd (two_items 79 32 rest 79 is)
mirrored_line rest (L.Open true) is = (refl, behind_two 79 79 32 32 rest (77 ∷ []) is)
mirrored_line rest (L.Note (N.Label x)) is = absurd (letter_alone 76 rest (32 ∷ decimal x) (λ e. omega (arith, e)) is)
mirrored_line rest (L.Note (N.Read x)) is = absurd (letter_alone 82 rest (32 ∷ decimal x) (λ e. omega (arith, e)) is)
mirrored_line rest (L.Note (N.Write x)) is = absurd (letter_alone 87 rest (32 ∷ decimal x) (λ e. omega (arith, e)) is)
mirrored_line rest (L.Note N.Sync) is = absurd (letter_alone 83 rest [] (λ e. omega (arith, e)) is)
mirrored_line rest L.Bad is = absurd is

pub mirrored_only : (rest : List ℕ) (line : Line) → IsLineSpelled line (79 ∷ 32 ∷ rest) → ◌≡◌ {A = Option Line} (Some (L.Open true)) (Some line)
mirrored_only rest line is = ap (λ (l : Line). Some l) (sym (mirrored_line rest line is).0)

pub no_mirrored : (rest : List ℕ) → (rest ≡ 77 ∷ [] → ⊥) → (line : Line) → IsLineSpelled line (79 ∷ 32 ∷ rest) → ⊥
no_mirrored rest other line is = other (mirrored_line rest line is).1
