-- A text that is written is its line's, and no other's.
use Rattle.std.specs.Prelude.{◌≡◌, ◌<◌, ◌≤◌, ◌⊎◌, ℕ, ◌+◌, ◌^◌, ◌==◌, Bool, true, false, cond, List, [], ◌∷◌, ◌++◌, length, decimal, Option, Some, None}
use Rattle.std.specs.List.{flat_map}
use Rattle.std.specs.Str.{all_ascii_digits}
use Rattle.std.proofs.Common.{refl, sym, ap, ◌∙◌, subst, inl, inr, arith, append_assoc}
use Rattle.std.proofs.lemmas.Bool.{ne_eqb}
use Rattle.std.proofs.lemmas.List.{length-append}
use Rattle.std.proofs.lemmas.Fmt.{digits_decimal, decimal_injective, length-decimal-le}
use Rattle.std.proofs.lemmas.Str.Parse.{tells_all_ascii_digits}
use Rattle.ob_base.specs.declared.params.Params.{Params}
use Rattle.ob_store.specs.declared.watch.Note.TheVariants as N
use Rattle.ob_schedule.specs.declared.line.Line.{Line}
use Rattle.ob_schedule.specs.declared.line.Line.TheVariants as L
use Rattle.ob_schedule.specs.declared.line.Wanted.{Wanted}
use Rattle.ob_schedule.specs.Follow.{Follow, started}
use Rattle.ob_schedule.proofs.Determined.{determined}
use Rattle.ob_audit.specs.Spelling.{numbers_text, note_text, open_text, IsLineSpelled, IsLineInRange, IsNoteInRange, SpellsLine, IsLineOf}
use Rattle.ob_audit.specs.declared.verdict.Audit.{Audit}
use Rattle.ob_audit.specs.declared.verdict.Audit.TheVariants.{Fits, Breaks}
use Rattle.ob_audit.specs.Traces.{with_first, lines_in, TakesFirst, TakesNext, RefusesNext, Admitted, FitsWhole, IsLineRefused, IsPast, IsVerdict}
use Rattle.ob_audit.proofs.Cuts.{cut_number, some_inner}
use Rattle.ob_audit.proofs.Lettered.{mirrored_line, start_only, label_only, read_only, write_only}
use Rattle.ob_audit.proofs.Numerals.{own}
use Rattle.ob_audit.proofs.Ranges.{same_params, few_numbers}
use Rattle.ob_audit.proofs.Written.{are_the_writers}
use Rattle.ob_audit.specs.Reading.{cut_at}
use Rattle.ob_histories.specs.Laws.{TakesLines, AreAdmitted}
use Rattle.ob_histories.proofs.Numbered.{admitted_written}
use Rattle.ob_histories.specs.Texts.{with_feed, HaveTexts, TakesAll, LinesAreAdmitted}

-- ---- bytes without a line feed

abbrev IsFree : List ℕ → Type 0
IsFree [] = Unit {0}
IsFree (b ∷ bs) = (b ≡ 10 → ⊥) × IsFree bs

free_joined : (xs ys : List ℕ) → IsFree xs → IsFree ys → IsFree (xs ++ ys)
free_joined [] ys a b = b
free_joined (x ∷ xs) ys a b = (a.0, free_joined xs ys a.1 b)

digits_free : (ds : List ℕ) → all_ascii_digits ds ≡ true → IsFree ds
digits_free [] h = tt
digits_free (d ∷ ds) h = let parts = tells_all_ascii_digits.parts d ds h in let digit = parts.0 in (λ e. omega (arith, e, digit.0), digits_free ds parts.1)

number_free : (n : ℕ) → n < 2 ^ 64 → IsFree (decimal n)
number_free n small = digits_free (decimal n) (digits_decimal own n (omega arith))

-- a number behind a blank, and more
blank_free : (n : ℕ) (rest : List ℕ) → n < 2 ^ 32 → IsFree rest → IsFree (decimal n ++ 32 ∷ rest)
blank_free n rest small free = free_joined (decimal n) (32 ∷ rest) (number_free n (omega arith)) (λ e. omega (arith, e), free)

cut_free : (text rest : List ℕ) → IsFree text → lines_in (text ++ 10 ∷ rest) ≡ text ∷ lines_in rest
cut_free [] rest free = refl
cut_free (b ∷ bs) rest free =
    let other : (b == 10) ≡ false = ne_eqb b 10 free.0 in
    ap (λ (t : Bool). cond t ([] ∷ lines_in (bs ++ 10 ∷ rest)) (with_first b (lines_in (bs ++ 10 ∷ rest)))) other ∙ ap (with_first b) (cut_free bs rest free.1)

-- ---- a line's text

abbrev text_of : Line → List ℕ
text_of (L.Start p) = 80 ∷ 32 ∷ numbers_text p
text_of (L.Open mirrored) = open_text mirrored
text_of (L.Note note) = note_text note
text_of L.Bad = []

abbrev IsWritten : Line → Type 0
IsWritten (L.Start p) = Unit {0}
IsWritten (L.Open mirrored) = Unit {0}
IsWritten (L.Note note) = IsNoteInRange note
IsWritten L.Bad = ⊥

text_written : (line : Line) → IsWritten line → text_of line ++ 10 ∷ [] ≡ with_feed line
text_written (L.Start p) is = are_the_writers.starts p (text_of (L.Start p)) refl
text_written (L.Open mirrored) is = are_the_writers.opens mirrored (open_text mirrored) refl
text_written (L.Note note) is = are_the_writers.notes note (note_text note) refl
text_written L.Bad is = absurd is

numbers_free : (p : Params) → IsFree (numbers_text p)
numbers_free p =
    let few = few_numbers p in
    blank_free p.keys _ few.0 (blank_free p.levels _ few.1 (blank_free p.real _ few.2 (blank_free p.dummies _ few.3 (blank_free p.batches _ few.4
    (blank_free p.places _ few.5 (blank_free p.writes _ few.6 (blank_free p.evictions _ few.7 (number_free p.room (omega (arith, few.8))))))))))

text_free : (line : Line) → IsWritten line → IsFree (text_of line)
text_free (L.Start p) is = (λ e. omega (arith, e), (λ e. omega (arith, e), numbers_free p))
text_free (L.Open false) is = (λ e. omega (arith, e), tt)
text_free (L.Open true) is = (λ e. omega (arith, e), (λ e. omega (arith, e), (λ e. omega (arith, e), tt)))
text_free (L.Note (N.Label x)) is = (λ e. omega (arith, e), (λ e. omega (arith, e), number_free x is))
text_free (L.Note (N.Read x)) is = (λ e. omega (arith, e), (λ e. omega (arith, e), number_free x is))
text_free (L.Note (N.Write x)) is = (λ e. omega (arith, e), (λ e. omega (arith, e), number_free x is))
text_free (L.Note N.Sync) is = (λ e. omega (arith, e), tt)
text_free L.Bad is = absurd is

-- ---- a text has one line

same_first : (a b : ℕ) (xs ys : List ℕ) → a < 2 ^ 32 → b < 2 ^ 32 → decimal a ++ 32 ∷ xs ≡ decimal b ++ 32 ∷ ys → (a ≡ b) × (xs ≡ ys)
same_first a b xs ys la lb same =
    let whole : ◌≡◌ {A = Option (List ℕ × List ℕ)} (Some (decimal a, xs)) (Some (decimal b, ys)) = sym (cut_number a xs (omega arith)) ∙ ap (cut_at 32) same ∙ cut_number b ys (omega arith) in
    let pair = some_inner {A = List ℕ × List ℕ} (decimal a, xs) (decimal b, ys) whole in
    (decimal_injective a b (omega arith) (omega arith) (ap (λ (t : List ℕ × List ℕ). t.0) pair), ap (λ (t : List ℕ × List ℕ). t.1) pair)

same_numbers : (p q : Params) → numbers_text p ≡ numbers_text q → p ≡ q
same_numbers p q same =
    let a = few_numbers p in let b = few_numbers q in
    let k = same_first p.keys q.keys _ _ a.0 b.0 same in
    let l = same_first p.levels q.levels _ _ a.1 b.1 k.1 in
    let z = same_first p.real q.real _ _ a.2 b.2 l.1 in
    let s = same_first p.dummies q.dummies _ _ a.3 b.3 z.1 in
    let r = same_first p.batches q.batches _ _ a.4 b.4 s.1 in
    let c = same_first p.places q.places _ _ a.5 b.5 r.1 in
    let w = same_first p.writes q.writes _ _ a.6 b.6 c.1 in
    let e = same_first p.evictions q.evictions _ _ a.7 b.7 w.1 in
    same_params p q k.0 l.0 z.0 s.0 r.0 c.0 w.0 e.0 (decimal_injective p.room q.room (omega (arith, a.8)) (omega (arith, b.8)) e.1)

head_is : (a b : ℕ) (xs ys : List ℕ) → a ∷ xs ≡ b ∷ ys → a ≡ b
head_is a b xs ys e = cc

one_item : (a b c : ℕ) (xs : List ℕ) → a ∷ [] ≡ b ∷ c ∷ xs → ⊥
one_item a b c xs e = cc

open_alone : (line : Line) → IsLineSpelled line (79 ∷ []) → line ≡ L.Open false
open_alone (L.Start p) is = absurd (one_item 79 80 32 (numbers_text p) is)
open_alone (L.Open false) is = refl
open_alone (L.Open true) is = absurd (one_item 79 79 32 (77 ∷ []) is)
open_alone (L.Note (N.Label x)) is = absurd (one_item 79 76 32 (decimal x) is)
open_alone (L.Note (N.Read x)) is = absurd (one_item 79 82 32 (decimal x) is)
open_alone (L.Note (N.Write x)) is = absurd (one_item 79 87 32 (decimal x) is)
open_alone (L.Note N.Sync) is = absurd (let e : 79 ≡ 83 = head_is 79 83 [] [] is in omega (arith, e))
open_alone L.Bad is = absurd is

sync_alone : (line : Line) → IsLineSpelled line (83 ∷ []) → line ≡ L.Note N.Sync
sync_alone (L.Start p) is = absurd (one_item 83 80 32 (numbers_text p) is)
sync_alone (L.Open false) is = absurd (let e : 83 ≡ 79 = head_is 83 79 [] [] is in omega (arith, e))
sync_alone (L.Open true) is = absurd (one_item 83 79 32 (77 ∷ []) is)
sync_alone (L.Note (N.Label x)) is = absurd (one_item 83 76 32 (decimal x) is)
sync_alone (L.Note (N.Read x)) is = absurd (one_item 83 82 32 (decimal x) is)
sync_alone (L.Note (N.Write x)) is = absurd (one_item 83 87 32 (decimal x) is)
sync_alone (L.Note N.Sync) is = refl
sync_alone L.Bad is = absurd is

numbers_told : (x : ℕ) → x < 2 ^ 64 → (m : ℕ) → m < 2 ^ 64 → decimal x ≡ decimal m → ◌≡◌ {A = Option ℕ} (Some x) (Some m)
numbers_told x small m few same = ap {A = ℕ} {B = Option ℕ} (λ (n : ℕ). Some n) (decimal_injective x m small few same)

text_alone : (line other : Line) → IsWritten line → IsLineInRange other → IsLineSpelled other (text_of line) → other ≡ line
text_alone (L.Start p) other is range spelled =
    sym (some_inner {A = Line} (L.Start p) other (start_only 80 (numbers_text p) (Some p) refl (λ q same. ap {A = Params} {B = Option Params} (λ (r : Params). Some r) (same_numbers p q same)) other spelled))
text_alone (L.Open false) other is range spelled = open_alone other spelled
text_alone (L.Open true) other is range spelled = (mirrored_line (77 ∷ []) other spelled).0
text_alone (L.Note (N.Label x)) other is range spelled = sym (some_inner {A = Line} (L.Note (N.Label x)) other (label_only 76 x (decimal x) refl (numbers_told x is) other range spelled))
text_alone (L.Note (N.Read x)) other is range spelled = sym (some_inner {A = Line} (L.Note (N.Read x)) other (read_only 82 x (decimal x) refl (numbers_told x is) other range spelled))
text_alone (L.Note (N.Write x)) other is range spelled = sym (some_inner {A = Line} (L.Note (N.Write x)) other (write_only 87 x (decimal x) refl (numbers_told x is) other range spelled))
text_alone (L.Note N.Sync) other is range spelled = sync_alone other spelled
text_alone L.Bad other is range spelled = absurd is

-- ---- it is short enough

number_short : (x : ℕ) → x < 2 ^ 64 → length (decimal x) ≤ 20
number_short x small = length-decimal-le 20 x (omega arith) (omega (arith, small)) small

blank_short : (n k : ℕ) (rest : List ℕ) → n < 2 ^ 17 → length rest ≤ k → length (decimal n ++ 32 ∷ rest) ≤ 7 + k
blank_short n k rest small few = let digits : length (decimal n) ≤ 6 = length-decimal-le 6 n (omega arith) (omega (arith, small)) (omega (arith, small)) in omega (arith, digits, few, length-append (decimal n) (32 ∷ rest))

numbers_short : (p : Params) → length (numbers_text p) ≤ 76
numbers_short p =
    let r = p.in_range in
    blank_short p.keys 69 _ (omega (arith, r.few_keys)) (blank_short p.levels 62 _ (omega (arith, r.few_levels)) (blank_short p.real 55 _ (omega (arith, r.few_real))
    (blank_short p.dummies 48 _ (omega (arith, r.few_dummies)) (blank_short p.batches 41 _ (omega (arith, r.few_batches)) (blank_short p.places 34 _ (omega (arith, r.few_places))
    (blank_short p.writes 27 _ (omega (arith, r.few_writes)) (blank_short p.evictions 20 _ (omega (arith, r.few_evictions)) (number_short p.room (omega (arith, r.few_room))))))))))

text_spells : (line : Line) → IsWritten line → SpellsLine (text_of line) line
text_spells (L.Start p) is = record { spelled = refl; in_range = tt; short = omega (arith, numbers_short p) }
text_spells (L.Open false) is = record { spelled = refl; in_range = tt; short = omega arith }
text_spells (L.Open true) is = record { spelled = refl; in_range = tt; short = omega arith }
text_spells (L.Note (N.Label x)) is = record { spelled = refl; in_range = is; short = omega (arith, number_short x is) }
text_spells (L.Note (N.Read x)) is = record { spelled = refl; in_range = is; short = omega (arith, number_short x is) }
text_spells (L.Note (N.Write x)) is = record { spelled = refl; in_range = is; short = omega (arith, number_short x is) }
text_spells (L.Note N.Sync) is = record { spelled = refl; in_range = tt; short = omega arith }
text_spells L.Bad is = absurd is

line_alone : (line other : Line) → IsWritten line → IsLineOf (text_of line) other → other ≡ line
line_alone line other is (inl spells) = text_alone line other is spells.in_range spells.spelled
line_alone line other is (inr (bad, none)) = absurd (none line (text_spells line is))

-- ---- the law

written_parts : (line : Line) (lines : List Line) → HaveTexts (line ∷ lines) → IsWritten line × HaveTexts lines
written_parts (L.Start p) lines are = (tt, are)
written_parts (L.Open mirrored) lines are = (tt, are)
written_parts (L.Note note) lines are = are
written_parts L.Bad lines are = absurd are

first_text : (line : Line) (lines : List Line) → IsWritten line → lines_in (flat_map with_feed (line ∷ lines)) ≡ text_of line ∷ lines_in (flat_map with_feed lines)
first_text line lines is =
    let rest : List ℕ = flat_map with_feed lines in
    ap (λ (bytes : List ℕ). lines_in (bytes ++ rest)) (sym (text_written line is)) ∙ ap lines_in (append_assoc (text_of line) (10 ∷ []) rest) ∙ cut_free (text_of line) rest (text_free line is)

admitted_takes : (known last : Option Follow) (lines : List Line) → HaveTexts lines → Admitted known (lines_in (flat_map with_feed lines)) last → TakesAll known lines last
admitted_takes known last [] are admitted = admitted
admitted_takes known last (line ∷ lines) are admitted =
    let parts = written_parts line lines are in
    go parts.0 parts.1 (subst (λ (texts : List (List ℕ)). Admitted known texts last) (first_text line lines parts.0) admitted) (λ next. admitted_takes (Some next) last lines parts.1)
  where
    go : IsWritten line → HaveTexts lines → Admitted known (text_of line ∷ lines_in (flat_map with_feed lines)) last → ((next : Follow) → Admitted (Some next) (lines_in (flat_map with_feed lines)) last → TakesAll (Some next) lines last)
        → TakesAll known (line ∷ lines) last
    go is rest (other, of, (next, takes, more)) further = (next, subst (λ (l : Line). TakesNext known l next) (line_alone line other is of) takes, further next more)

takes_admitted : (known last : Option Follow) (lines : List Line) → HaveTexts lines → TakesAll known lines last → Admitted known (lines_in (flat_map with_feed lines)) last
takes_admitted known last [] are takes = takes
takes_admitted known last (line ∷ lines) are (next, took, more) =
    let parts = written_parts line lines are in
    subst (λ (texts : List (List ℕ)). Admitted known texts last) (sym (first_text line lines parts.0)) (line, inl (text_spells line parts.0), (next, took, takes_admitted (Some next) last lines parts.1 more))

pub behind_takes : (known last : Follow) (lines : List Line) → TakesLines known lines last → TakesAll (Some known) lines (Some last)
behind_takes known last [] is = ap {A = Follow} {B = Option Follow} (λ (f : Follow). Some f) is
behind_takes known last (line ∷ lines) (next, took, more) = (next, took, behind_takes next last lines more)

start_takes : (lines : List Line) → AreAdmitted lines → (last : Option Follow) × TakesAll None lines last
start_takes [] are = (None, refl)
start_takes (L.Start p ∷ lines) (last, takes) = (Some last, (started p, refl, behind_takes (started p) last lines takes))
start_takes (L.Open mirrored ∷ lines) are = absurd are
start_takes (L.Note note ∷ lines) are = absurd are
start_takes (L.Bad ∷ lines) are = absurd are

-- ---- what fits is answered so

spelled_is : (line : Line) (bytes : List ℕ) → IsLineSpelled line bytes → bytes ≡ text_of line
spelled_is (L.Start p) bytes is = is
spelled_is (L.Open mirrored) bytes is = is
spelled_is (L.Note note) bytes is = is
spelled_is L.Bad bytes is = absurd is

spells_written : (line : Line) (bytes : List ℕ) → SpellsLine bytes line → IsWritten line
spells_written (L.Start p) bytes is = tt
spells_written (L.Open mirrored) bytes is = tt
spells_written (L.Note note) bytes is = is.in_range
spells_written L.Bad bytes is = absurd is.spelled

one_line : (bytes : List ℕ) (a b : Line) → IsLineOf bytes a → IsLineOf bytes b → a ≡ b
one_line bytes a b (inl spells) is = sym (line_alone a b (spells_written a bytes spells) (subst (λ (text : List ℕ). IsLineOf text b) (spelled_is a bytes spells.spelled) is))
one_line bytes a b (inr (bad, none)) (inl spells) = absurd (none b spells)
one_line bytes a b (inr (bad, none)) (inr (other, none_more)) = bad ∙ sym other

first_once : (line : Line) (g h : Follow) → TakesFirst line g → TakesFirst line h → g ≡ h
first_once (L.Start p) g h a b = a ∙ sym b
first_once (L.Open mirrored) g h a b = absurd a
first_once (L.Note note) g h a b = absurd a
first_once L.Bad g h a b = absurd a

next_once : (known : Option Follow) (line : Line) (g h : Follow) → TakesNext known line g → TakesNext known line h → g ≡ h
next_once None line g h a b = first_once line g h a b
next_once (Some known) line g h a b = determined known line g h a b

never_next : (known : Option Follow) (line : Line) (wanted : Wanted) (next : Follow) → RefusesNext known line wanted → TakesNext known line next → ⊥
never_next None line wanted next refused takes = refused.1 next takes
never_next (Some known) line wanted next refused takes = refused.never (next, takes)

-- a line that is refused behind admitted ones isn't admitted there
refused_never : (from known last : Option Follow) (before : List (List ℕ)) (text : List ℕ) (rest : List (List ℕ)) (wanted : Wanted) (found : Line) → Admitted from before known → IsLineOf text found → RefusesNext known found wanted
    → Admitted from (before ++ text ∷ rest) last → ⊥
refused_never from known last [] text rest wanted found same of refused (line, is, (next, takes, more)) =
    never_next from found wanted next (subst (λ (k : Option Follow). RefusesNext k found wanted) same refused) (subst (λ (l : Line). TakesNext from l next) (one_line text line found is of) takes)
refused_never from known last (first ∷ before) text rest wanted found (line, is, (next, takes, more)) of refused (other, also, (then, took, whole)) =
    let same : line ≡ other = one_line first line other is also in
    let once : next ≡ then = next_once from other next then (subst (λ (l : Line). TakesNext from l next) same takes) took in
    refused_never (Some next) known last before text rest wanted found more of refused (subst (λ (f : Follow). Admitted (Some f) (before ++ text ∷ rest) last) (sym once) whole)

fits_alone : (limit : ℕ) (input : List ℕ) (audit : Audit) → FitsWhole limit input → IsVerdict limit input audit → audit ≡ Fits
fits_alone limit input Fits fits is = refl
fits_alone limit input (Breaks line wanted found) fits is = absurd (go is.breaks)
  where
    go : IsPast limit input is.rest wanted found ⊎ IsLineRefused limit input is.text is.rest is.known wanted found → ⊥
    go (inl past) = omega (arith, past.past, fits.within)
    go (inr refused) = refused_never None is.known fits.last is.before is.text is.rest wanted found is.admitted refused.is refused.refused (subst (λ (texts : List (List ℕ)). Admitted None texts fits.last) is.lines fits.admitted)

pub lines_are : LinesAreAdmitted
lines_are = record {
  texts = λ known last lines are. (admitted_takes known last lines are, takes_admitted known last lines are);
  written = admitted_written;
  fits = λ lines admitted few. (let takes = start_takes lines admitted in record { within = few; last = takes.0; admitted = takes_admitted None takes.0 lines (admitted_written lines admitted) takes.1 });
  alone = fits_alone;
}
