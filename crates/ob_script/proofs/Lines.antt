-- What is read as a line is spelled so, and what is spelled so is read.
use Rattle.std.proofs.Common.{◌≡◌, ◌≤◌, ◌<◌, ◌^◌, ◌⊎◌, ℕ, Bool, true, false, ◌==◌, List, [], ◌∷◌, ◌++◌, length, Option, Some, None, refl, sym, ap, arith, cond, codes, inl, inr}
use Rattle.std.specs.Prelude.{if◌then◌else◌}
use Rattle.std.specs.Prelude.{option_map, IfSome}
use Rattle.std.specs.Str.{bytes_eq, all_ascii_digits}
use Rattle.std.specs.Fmt.{decimal, signed_decimal}
use Rattle.std.proofs.lemmas.Bool.{ltb-true, lt-ltb, leb-true, le-leb, eqb-true, ne_eqb}
use Rattle.std.proofs.lemmas.Str.Parse.{tells_all_ascii_digits}
use Rattle.std.proofs.lemmas.Option.{cond_some, option_and_then_some}
use Rattle.std.proofs.lemmas.Slice.Eq.{bytes_eq-Decides}
use Rattle.std.proofs.lemmas.Fmt.{digits_decimal}
use Rattle.ob_script.specs.declared.line.Ask.{Ask}
use Rattle.ob_script.specs.declared.line.Ask.TheVariants.{Get, Put, Del, Add}
use Rattle.ob_script.specs.declared.line.Ending.TheVariants.{Commit, Abort}
use Rattle.ob_script.specs.declared.line.Line.{Line}
use Rattle.ob_script.specs.declared.line.Line.TheVariants.{Blank, Client, Begin, Asks, Ends}
use Rattle.ob_script.specs.Script.{IsSpelled, IsInRange, IsAskInRange, ask_text, is_blank}
use Rattle.ob_script.specs.Integers.{integer_of}
use Rattle.ob_script.specs.Reading.{cut, numeral_value, client_numeral, key_numeral, get_at, put_at, del_at, add_at, ask_at, word_line, named_line, line_from, line_at}
use Rattle.ob_script.proofs.Numbers.{own, both, number_found, number_only}
use Rattle.ob_script.proofs.Amounts.{integer_found, integer_only}

-- What was read is in range, and is spelled so.
pub record Found (n : ℕ) (text : List ℕ) (line : Line) : Type 0 where
  pub range : IsInRange n line
  pub text_is : IsSpelled line text

-- The same of an operation.
record FoundAsk (n : ℕ) (text : List ℕ) (ask : Ask) : Type 0 where
  range : IsAskInRange n ask
  text_is : text ≡ ask_text ask

choose : {A : Type 0} (b : Bool) (x y z : A) → cond b x y ≡ z → ((b ≡ true) × (x ≡ z)) ⊎ ((b ≡ false) × (y ≡ z))
choose true x y z h = inl (refl, h)
choose false x y z h = inr (refl, h)

pub cut_found : (at : ℕ) (xs : List ℕ) (p : List ℕ × List ℕ) → cut at xs ≡ Some p → xs ≡ p.0 ++ at ∷ p.1
cut_found at [] p h = cc
cut_found at (x ∷ xs) p h = elim (choose (x == at) (Some ([], xs)) (option_map (λ p. (x ∷ p.0, p.1)) (cut at xs)) (Some p) h) [
  | inl here ↦ let same = eqb-true x at here.0 in let e : ◌≡◌ {A = List ℕ × List ℕ} ([], xs) p = cc here.1 in rw (← e, same) refl
  | inr later ↦ elim (cut at xs) as (λ o. cut at xs ≡ o → option_map (λ p. (x ∷ p.0, p.1)) o ≡ Some p → x ∷ xs ≡ p.0 ++ at ∷ p.1) [
    | None ↦ λ e f. cc
    | Some q ↦ λ e f. let g : ◌≡◌ {A = List ℕ × List ℕ} (x ∷ q.0, q.1) p = cc f in rw (← g) (ap (λ (t : List ℕ). x ∷ t) (cut_found at xs q e))
  ] refl later.1
]

-- digits have no space
cut_digits : (ds more : List ℕ) → all_ascii_digits ds ≡ true → cut 32 (ds ++ 32 ∷ more) ≡ Some (ds, more)
cut_digits [] more h = refl
cut_digits (d ∷ ds) more h =
    let parts = tells_all_ascii_digits.parts d ds h in
    let digit = parts.0 in
    let other : (d == 32) ≡ false = ne_eqb d 32 (λ e. omega (arith, e, digit.0)) in
    let rest = cut_digits ds more parts.1 in
    rw (other, rest) refl

word_is : (word name : List ℕ) → bytes_eq word name ≡ true → word ≡ name
word_is word name h = (bytes_eq-Decides word name).0 h

client_found : (n : ℕ) (rest : List ℕ) (line : Line) → client_numeral rest ≡ Some line → Found n (codes "client " ++ rest) line
client_found n rest line h = option_and_then_some _ (numeral_value rest) line h (λ client e f.
    let tests = cond_some _ _ _ f in
    let parts = both _ _ tests.0 in
    let digits = number_found rest client e in
    rw (← tests.1) (record { range = (leb-true _ _ parts.0, leb-true _ _ parts.1); text_is = rw digits.0 refl }))

mapped_some : {A B P : Type 0} (f : A → B) (o : Option A) (y : B) → option_map f o ≡ Some y → ((x : A) → o ≡ Some x → f x ≡ y → P) → P
mapped_some f None y h k = cc h
mapped_some f (Some x) y h k = k x refl (cc h)

key_found : (n : ℕ) (rest : List ℕ) (key : ℕ) → key_numeral n rest ≡ Some key → (rest ≡ decimal key) × (key < n)
key_found n rest key h = option_and_then_some _ (numeral_value rest) key h (λ k e f.
    let tests = cond_some _ _ _ f in
    let digits = number_found rest k e in
    rw (← tests.1) (digits.0, ltb-true _ _ tests.0))

get_found : (n : ℕ) (rest : List ℕ) (ask : Ask) → get_at n rest ≡ Some ask → FoundAsk n (codes "get " ++ rest) ask
get_found n rest ask h = mapped_some (λ key. Get key) (key_numeral n rest) ask h (λ key e f.
    let found = key_found n rest key e in
    rw (← f) (record { range = found.1; text_is = rw found.0 refl }))

del_found : (n : ℕ) (rest : List ℕ) (ask : Ask) → del_at n rest ≡ Some ask → FoundAsk n (codes "del " ++ rest) ask
del_found n rest ask h = mapped_some (λ key. Del key) (key_numeral n rest) ask h (λ key e f.
    let found = key_found n rest key e in
    rw (← f) (record { range = found.1; text_is = rw found.0 refl }))

put_found : (n : ℕ) (rest : List ℕ) (ask : Ask) → put_at n rest ≡ Some ask → FoundAsk n (codes "put " ++ rest) ask
put_found n rest ask h = option_and_then_some _ (cut 32 rest) ask h (λ p cut_is f. option_and_then_some _ (key_numeral n p.0) ask f (λ key e g.
    let tests = cond_some _ _ _ g in
    let parts = both _ _ tests.0 in
    let found = key_found n p.0 key e in
    let apart = cut_found 32 rest p cut_is in
    rw (← tests.1) (record { range = (found.1, leb-true _ _ parts.0, parts.1); text_is = rw (apart, found.0) refl })))

add_found : (n : ℕ) (rest : List ℕ) (ask : Ask) → add_at n rest ≡ Some ask → FoundAsk n (codes "add " ++ rest) ask
add_found n rest ask h = option_and_then_some _ (cut 32 rest) ask h (λ p cut_is f. option_and_then_some _ (key_numeral n p.0) ask f (λ key e g. mapped_some (λ amount. Add key amount) (integer_of p.1) ask g (λ amount i is.
    let found = key_found n p.0 key e in
    let number = integer_found p.1 amount i in
    let apart = cut_found 32 rest p cut_is in
    rw (← is) (record { range = (found.1, number.1); text_is = rw (apart, found.0, number.0) refl }))))

-- what is read behind one of these words is an operation
fourth : (n : ℕ) (word rest : List ℕ) (ask : Ask) → (if bytes_eq word (codes "add") then add_at n rest else None) ≡ Some ask → FoundAsk n (word ++ 32 ∷ rest) ask
fourth n word rest ask h = elim (choose (bytes_eq word (codes "add")) (add_at n rest) None (Some ask) h) [
  | inl one ↦ rw (word_is word (codes "add") one.0) (add_found n rest ask one.1)
  | inr other ↦ cc other.1
]

abbrev del_or : ℕ → List ℕ → List ℕ → Option Ask
del_or n word rest = if bytes_eq word (codes "del") then del_at n rest else if bytes_eq word (codes "add") then add_at n rest else None

third : (n : ℕ) (word rest : List ℕ) (ask : Ask) → del_or n word rest ≡ Some ask → FoundAsk n (word ++ 32 ∷ rest) ask
third n word rest ask h = elim (choose (bytes_eq word (codes "del")) (del_at n rest) (if bytes_eq word (codes "add") then add_at n rest else None) (Some ask) h) [
  | inl one ↦ rw (word_is word (codes "del") one.0) (del_found n rest ask one.1)
  | inr other ↦ fourth n word rest ask other.1
]

abbrev put_or : ℕ → List ℕ → List ℕ → Option Ask
put_or n word rest = if bytes_eq word (codes "put") then put_at n rest else del_or n word rest

second : (n : ℕ) (word rest : List ℕ) (ask : Ask) → put_or n word rest ≡ Some ask → FoundAsk n (word ++ 32 ∷ rest) ask
second n word rest ask h = elim (choose (bytes_eq word (codes "put")) (put_at n rest) (del_or n word rest) (Some ask) h) [
  | inl one ↦ rw (word_is word (codes "put") one.0) (put_found n rest ask one.1)
  | inr other ↦ third n word rest ask other.1
]

ask_found : (n : ℕ) (word rest : List ℕ) (ask : Ask) → ask_at n word rest ≡ Some ask → FoundAsk n (word ++ 32 ∷ rest) ask
ask_found n word rest ask h = elim (choose (bytes_eq word (codes "get")) (get_at n rest) (put_or n word rest) (Some ask) h) [
  | inl one ↦ rw (word_is word (codes "get") one.0) (get_found n rest ask one.1)
  | inr other ↦ second n word rest ask other.1
]

named_found : (n : ℕ) (word rest : List ℕ) (line : Line) → named_line n word rest ≡ Some line → Found n (word ++ 32 ∷ rest) line
named_found n word rest line h = elim (choose (bytes_eq word (codes "client")) (client_numeral rest) (option_map Asks (ask_at n word rest)) (Some line) h) [
  | inl one ↦ rw (word_is word (codes "client") one.0) (client_found n rest line one.1)
  | inr other ↦ mapped_some (λ ask. Asks ask) (ask_at n word rest) line other.1 (λ ask e is.
      let found = ask_found n word rest ask e in
      rw (← is) (record { range = found.range; text_is = found.text_is }))
]

same_line : (a b : Line) → ◌≡◌ {A = Option Line} (Some a) (Some b) → a ≡ b
same_line a b h = cc h

abbrev abort_or : List ℕ → Option Line
abort_or text = if bytes_eq text (codes "abort") then Some (Ends Abort) else None

abbrev commit_or : List ℕ → Option Line
commit_or text = if bytes_eq text (codes "commit") then Some (Ends Commit) else abort_or text

word_found : (n : ℕ) (text : List ℕ) (line : Line) → word_line text ≡ Some line → Found n text line
word_found n text line h = elim (choose (bytes_eq text (codes "begin")) (Some Begin) (commit_or text) (Some line) h) [
  | inl one ↦ rw (← same_line Begin line one.1) (record { range = tt; text_is = word_is text (codes "begin") one.0 })
  | inr other ↦ elim (choose (bytes_eq text (codes "commit")) (Some (Ends Commit)) (abort_or text) (Some line) other.1) [
    | inl one ↦ rw (← same_line (Ends Commit) line one.1) (record { range = tt; text_is = word_is text (codes "commit") one.0 })
    | inr last ↦ elim (choose (bytes_eq text (codes "abort")) (Some (Ends Abort)) None (Some line) last.1) [
      | inl one ↦ rw (← same_line (Ends Abort) line one.1) (record { range = tt; text_is = word_is text (codes "abort") one.0 })
      | inr none ↦ cc none.1
    ]
  ]
]

from_found : (n : ℕ) (text : List ℕ) (line : Line) → line_from n text (cut 32 text) ≡ Some line → Found n text line
from_found n text line h = elim (cut 32 text) as (λ o. cut 32 text ≡ o → line_from n text o ≡ Some line → Found n text line) [
  | None ↦ λ e f. word_found n text line f
  | Some p ↦ λ e f. rw (cut_found 32 text p e) (named_found n p.0 p.1 line f)
] refl h

pub line_found : (n : ℕ) (text : List ℕ) (line : Line) → line_at n text ≡ Some line → Found n text line
line_found n text line h = elim (choose (is_blank text) (Some Blank) (line_from n text (cut 32 text)) (Some line) h) [
  | inl blank ↦ rw (← same_line Blank line blank.1) (record { range = tt; text_is = blank.0 })
  | inr other ↦ from_found n text line other.1
]

key_only : (n key : ℕ) → n ≤ 2 ^ 32 → key < n → key_numeral n (decimal key) ≡ Some key
key_only n key small below = rw (number_only key (omega arith), lt-ltb key n below) refl

-- a key's digits end at the space behind them
key_apart : (n key : ℕ) (more : List ℕ) → n ≤ 2 ^ 32 → key < n → cut 32 (decimal key ++ 32 ∷ more) ≡ Some (decimal key, more)
key_apart n key more small below = cut_digits (decimal key) more (digits_decimal own key (omega arith))

pub line_only : (n : ℕ) (line : Line) (text : List ℕ) → n ≤ 2 ^ 32 → IsInRange n line → IsSpelled line text → line_at n text ≡ Some line
line_only n Blank text small range spelled = rw spelled refl
line_only n (Client client) text small range spelled = let number = number_only client (omega (arith, range.1)) in
    rw (spelled, number, le-leb 1 client range.0, le-leb client 64 range.1) refl
line_only n Begin text small range spelled = rw spelled refl
line_only n (Asks (Get key)) text small range spelled = rw (spelled, key_only n key small range) refl
line_only n (Asks (Put key value)) text small range spelled =
    rw (spelled, key_apart n key value small range.0, key_only n key small range.0, le-leb (length value) 64 range.1, range.2) refl
line_only n (Asks (Del key)) text small range spelled = rw (spelled, key_only n key small range) refl
line_only n (Asks (Add key amount)) text small range spelled =
    rw (spelled, key_apart n key (signed_decimal amount) small range.0, key_only n key small range.0, integer_only amount range.1) refl
line_only n (Ends Commit) text small range spelled = rw spelled refl
line_only n (Ends Abort) text small range spelled = rw spelled refl

pub if_found : (n : ℕ) (text : List ℕ) (read : Option Line) → read ≡ line_at n text → IfSome read (λ line. IsInRange n line × IsSpelled line text)
if_found n text None h = tt
if_found n text (Some line) h = let found = line_found n text line (sym h) in (found.range, found.text_is)
