-- The lines of bytes, by where they are cut.
use Rattle.std.proofs.Common.{◌≡◌, ◌<◌, ◌⊎◌, ℕ, Bool, true, false, ◌==◌, List, [], ◌∷◌, length, Option, Some, None, refl, ap, arith, cond, inl, inr, length-append}
use Rattle.std.specs.Prelude.{option_map, if◌then◌else◌}
use Rattle.std.specs.List.{slice_split, onto_first}
use Rattle.std.proofs.lemmas.List.Splits.{length-slice_split}
use Rattle.ob_script.specs.Script.{lines_from, lines_of_parts, is_line_end}
use Rattle.ob_script.specs.Reading.{cut}
use Rattle.ob_script.proofs.Lines.{cut_found}

abbrev grow : ℕ → List ℕ × List ℕ → List ℕ × List ℕ
grow x p = (x ∷ p.0, p.1)

split_some : (xs a b : List ℕ) → cut 10 xs ≡ Some (a, b) → slice_split is_line_end xs ≡ a ∷ slice_split is_line_end b
split_some [] a b h = cc
split_some (x ∷ xs) a b h = elim (x == 10) as (λ t. (if t then Some ([], xs) else option_map (grow x) (cut 10 xs)) ≡ Some (a, b) → cond t ([] ∷ slice_split is_line_end xs) (onto_first x (slice_split is_line_end xs)) ≡ a ∷ slice_split is_line_end b) [
  | true ↦ λ e. let pair : ◌≡◌ {A = List ℕ × List ℕ} ([], xs) (a, b) = cc e in ap (λ (p : List ℕ × List ℕ). p.0 ∷ slice_split is_line_end p.1) pair
  | false ↦ λ e. elim (cut 10 xs) as (λ o. cut 10 xs ≡ o → option_map (grow x) o ≡ Some (a, b) → onto_first x (slice_split is_line_end xs) ≡ a ∷ slice_split is_line_end b) [
    | None ↦ λ e f. cc f
    | Some q ↦ λ e f. let pair : grow x q ≡ (a, b) = cc f in
        rw (split_some xs q.0 q.1 e) (ap (λ (p : List ℕ × List ℕ). p.0 ∷ slice_split is_line_end p.1) pair)
  ] refl e
] h

split_none : (xs : List ℕ) → cut 10 xs ≡ None → slice_split is_line_end xs ≡ xs ∷ []
split_none [] h = refl
split_none (x ∷ xs) h = elim (x == 10) as (λ t. ◌≡◌ {A = Option (List ℕ × List ℕ)} (if t then Some ([], xs) else option_map (grow x) (cut 10 xs)) None → cond t ([] ∷ slice_split is_line_end xs) (onto_first x (slice_split is_line_end xs)) ≡ (x ∷ xs) ∷ []) [
  | true ↦ λ e. cc e
  | false ↦ λ e. elim (cut 10 xs) as (λ o. cut 10 xs ≡ o → ◌≡◌ {A = Option (List ℕ × List ℕ)} (option_map (grow x) o) None → onto_first x (slice_split is_line_end xs) ≡ (x ∷ xs) ∷ []) [
    | None ↦ λ e f. rw (split_none xs e) refl
    | Some q ↦ λ e f. cc f
  ] refl e
] h

-- a part that others follow is a line
parts_more : (all : Bool) (part : List ℕ) (parts : List (List ℕ)) → 0 < length parts → lines_of_parts all (part ∷ parts) ≡ part ∷ lines_of_parts all parts
parts_more all part [] some = absurd (omega arith)
parts_more all part (next ∷ more) some = refl

pub line_some : (all : Bool) (bytes a b : List ℕ) → cut 10 bytes ≡ Some (a, b) → (lines_from all bytes ≡ a ∷ lines_from all b) × (length b < length bytes)
line_some all bytes a b h =
    let parts = length-slice_split is_line_end b in
    let whole = cut_found 10 bytes (a, b) h in
    (rw (split_some bytes a b h) (parts_more all a (slice_split is_line_end b) (omega (arith, parts))), rw whole (omega (arith, length-append a (10 ∷ b))))

pub line_last : (bytes : List ℕ) → cut 10 bytes ≡ None → 0 < length bytes → (lines_from true bytes ≡ bytes ∷ []) × (0 < length bytes)
line_last [] h some = absurd (omega arith)
line_last (x ∷ xs) h some = (rw (split_none (x ∷ xs) h) refl, some)

pub line_none : (all : Bool) (bytes : List ℕ) → cut 10 bytes ≡ None → (all ≡ false) ⊎ (length bytes ≡ 0) → lines_from all bytes ≡ []
line_none all [] h e = elim all as (λ t. lines_from t [] ≡ []) [ true ↦ refl | false ↦ refl ]
line_none all (x ∷ xs) h (inl cut_off) = rw (split_none (x ∷ xs) h) (rw cut_off refl)
line_none all (x ∷ xs) h (inr e) = absurd (omega arith)
