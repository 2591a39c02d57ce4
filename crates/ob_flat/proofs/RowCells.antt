-- Rows as they are written are read again.
use Rattle.std.proofs.Common.{◌≡◌, ⊎_elim, Result, Ok, Err, OnOk, ℕ, zero, suc, ◌+◌, ◌-◌, ◌<◌, ◌≤◌, ◌^◌, List, [], ◌∷◌, ◌++◌, Option, Some, None, take, drop, length, get_or, replicate, refl, subst, sym, ap, ◌∙◌, arith, length-append}
use Rattle.std.proofs.lemmas.List.{take_at, drop-replicate, length-replicate, get_or-replicate}
use Rattle.std.proofs.lemmas.Bool.{le-leb}
use Rattle.std.proofs.lemmas.Bool.Decides.{leb_tells}
use Rattle.std.proofs.Math.Seq.{drop-append-add}
use Rattle.ob_base.specs.LittleEndian.{with_part}
use Rattle.ob_seal.specs.declared.keys.Keys.{Keys}
use Rattle.ob_seal.specs.Seals.{sealed}
use Rattle.ob_seal.proofs.Spelling.{sealed_same}
use Rattle.ob_store.specs.Disk.{Image}
use Rattle.ob_store.specs.Calls.{Holds}
use Rattle.ob_cells.specs.Runs.{AreSealed, run_at}
use Rattle.ob_cells.proofs.Listed.{onward_low}
use Rattle.ob_flat.specs.Rows.{row_bytes, plain_of, row_cell, row_cells, IsShort, AreShort, length_in, HasValue, IsRow, AreRowsAt}

-- a value put behind its length
pub row_made : (v : List ℕ) → length v ≤ 64 → with_part (with_part (replicate 96 0) 0 (1 ∷ length v ∷ [])) 2 v ≡ row_bytes (Some v)
row_made v le =
    ap (λ (tail : List ℕ). 1 ∷ length v ∷ v ++ tail) (drop-append-add (1 ∷ length v ∷ []) (replicate 94 0) (length v) ∙ drop-replicate (length v) 94 0)

length-row_bytes : (value : Option (List ℕ)) → IsShort value → length (row_bytes value) ≡ 96
length-row_bytes None short = refl
length-row_bytes (Some v) short = omega (arith, short, length-append v (replicate (94 - length v) 0), length-replicate {A = ℕ} (94 - length v) 0)

has_row : (value : Option (List ℕ)) → IsShort value → (length_in (row_bytes value) ≤ 64) × HasValue (row_bytes value) value
has_row None short = (omega arith, refl)
has_row (Some v) short = (short, (refl, refl, take_at v (replicate (94 - length v) 0) (length v) refl))

-- what is written for a value is a row with it
pub row_is : (keys : Keys) (cell g n : ℕ) (value : Option (List ℕ)) → g < 2 ^ 64 → n < 2 ^ 64 → IsShort value → IsRow keys cell g n (row_cell keys cell g n value) value
unfolding row_cell
row_is keys cell g n value hg hn short =
    let has = has_row value short in
    record { generation_fits = hg; number_fits = hn; plain = row_bytes value; whole = length-row_bytes value short; spelled = refl; short = has.0; has = has.1 }

-- a row has one value
has_same : (plain : List ℕ) (a b : Option (List ℕ)) → HasValue plain a → HasValue plain b → a ≡ b
has_same plain None None r s = refl
has_same plain None (Some w) r s = let one = s.0 in absurd (omega arith)
has_same plain (Some v) None r s = let one = r.0 in absurd (omega arith)
has_same plain (Some v) (Some w) r s = ap (λ (l : List ℕ). Some l) (sym r.2 ∙ ap (λ n. take n (drop 2 plain)) (sym r.1 ∙ s.1) ∙ s.2)

pub row_same : (keys : Keys) (cell g h m n : ℕ) (bytes : List ℕ) (a b : Option (List ℕ)) → IsRow keys cell g m bytes a → IsRow keys cell h n bytes b → a ≡ b
row_same keys cell g h m n bytes a b r s =
    let same = sealed_same keys cell g h m n r.plain s.plain r.generation_fits s.generation_fits r.number_fits s.number_fits (r.whole ∙ sym s.whole) (sym r.spelled ∙ s.spelled) in
    has_same s.plain a b (subst (λ (l : List ℕ). HasValue l a) same.2 r.has) s.has

-- ---- runs of cells

pub length-row_cells : (keys : Keys) (cell g n : ℕ) (values : List (Option (List ℕ))) → length (row_cells keys cell g n values) ≡ length values
length-row_cells keys cell g n [] = refl
length-row_cells keys cell g n (v ∷ values) = ap suc (length-row_cells keys (cell + 1) g (n + 1) values)

pub get_or-row_cells : (keys : Keys) (cell g n : ℕ) (values : List (Option (List ℕ))) (i : ℕ) → i < length values
    → get_or (row_cells keys cell g n values) i [] ≡ row_cell keys (cell + i) g (n + i) (get_or values i None)
get_or-row_cells keys cell g n [] i lt = absurd (omega arith)
get_or-row_cells keys cell g n (v ∷ values) zero lt =
    let c : cell ≡ cell + 0 = omega arith in
    let m : n ≡ n + 0 = omega arith in
    ap (λ x. row_cell keys x g n v) c ∙ ap (λ x. row_cell keys (cell + 0) g x v) m
get_or-row_cells keys cell g n (v ∷ values) (suc i) lt =
    let c : (cell + 1) + i ≡ cell + suc i = omega arith in
    let m : (n + 1) + i ≡ n + suc i = omega arith in
    get_or-row_cells keys (cell + 1) g (n + 1) values i (omega arith)
    ∙ ap (λ x. row_cell keys x g ((n + 1) + i) (get_or values i None)) c ∙ ap (λ x. row_cell keys (cell + suc i) g x (get_or values i None)) m

-- rows that were written are rows with these values
pub rows_are : (keys : Keys) (base g n : ℕ) (image : Image) (values : List (Option (List ℕ))) → g < 2 ^ 64 → n + length values ≤ 2 ^ 62 → AreShort values
    → Holds base (row_cells keys base g n values) image → AreRowsAt keys base image g n values
rows_are keys base g n image values hg fits short holds i lt =
    let cell : image (base + i) ≡ row_cell keys (base + i) g (n + i) (get_or values i None) = holds i (omega (arith, length-row_cells keys base g n values)) ∙ get_or-row_cells keys base g n values i lt in
    let low : n + i < 2 ^ 64 = omega arith in
    subst (λ m. IsRow keys (base + i) g m (image (base + i)) (get_or values i None)) (sym (onward_low n i low))
    (subst (λ (l : List ℕ). IsRow keys (base + i) g (n + i) l (get_or values i None)) (sym cell) (row_is keys (base + i) g (n + i) (get_or values i None) hg low (short i lt)))

-- no value is short
pub blanks_short : (n : ℕ) → AreShort (replicate n None)
blanks_short n i lt =
    let few : i < n = omega (arith, length-replicate {A = Option (List ℕ)} n None) in
    subst (λ (v : Option (List ℕ)). IsShort v) (sym (get_or-replicate n i None None few)) tt

-- ---- a run that was sealed with these plain bytes

-- a value whose plain bytes are as many as a cell has is short
short_whole : (value : Option (List ℕ)) → length (plain_of value) ≡ 96 → IsShort value
short_whole None long = tt
short_whole (Some v) long = ⊎_elim
    (λ yes. yes.1)
    (λ no. (let none : plain_of (Some v) ≡ [] = rw no.0 refl in absurd (omega (arith, ap length none, long))))
    (leb_tells (length v) 64)

plain_short : (value : Option (List ℕ)) → IsShort value → plain_of value ≡ row_bytes value
plain_short None short = refl
plain_short (Some v) short = rw (le-leb (length v) 64 short) refl

pub all_short : (values : List (Option (List ℕ))) → ((i : ℕ) → i < length values → length (plain_of (get_or values i None)) ≡ 96) → AreShort values
all_short values whole i lt = short_whole (get_or values i None) (whole i lt)

pub holds_rows : (keys : Keys) (base g n : ℕ) (image : Image) (values : List (Option (List ℕ))) → n + length values ≤ 2 ^ 62
    → ((i : ℕ) → i < length values → length (plain_of (get_or values i None)) ≡ 96)
    → AreSealed keys base (length values) g n (λ i. plain_of (get_or values i None)) (run_at base image) → Holds base (row_cells keys base g n values) image
unfolding row_cell
holds_rows keys base g n image values fits whole so i lt =
    let few : i < length values = omega (arith, length-row_cells keys base g n values) in
    so i few ∙ ap (λ m. sealed keys (base + i) g m (plain_of (get_or values i None))) (onward_low n i (omega arith))
    ∙ ap (λ (l : List ℕ). sealed keys (base + i) g (n + i) l) (plain_short (get_or values i None) (short_whole (get_or values i None) (whole i few)))
    ∙ sym (get_or-row_cells keys base g n values i few)

pub holds_blanks : (keys : Keys) (base g n m : ℕ) (image : Image) → n + m ≤ 2 ^ 62
    → AreSealed keys base m g n (λ i. row_bytes None) (run_at base image) → Holds base (row_cells keys base g n (replicate m None)) image
unfolding row_cell
holds_blanks keys base g n m image fits so i lt =
    let few : i < m = omega (arith, length-row_cells keys base g n (replicate m None), length-replicate {A = Option (List ℕ)} m None) in
    let within : i < length (replicate {A = Option (List ℕ)} m None) = omega (arith, length-replicate {A = Option (List ℕ)} m None) in
    so i few ∙ ap (λ k. sealed keys (base + i) g k (row_bytes None)) (onward_low n i (omega arith))
    ∙ ap (λ (v : Option (List ℕ)). row_cell keys (base + i) g (n + i) v) (sym (get_or-replicate m i None None few))
    ∙ sym (get_or-row_cells keys base g n (replicate m None) i within)

-- what follows from two clauses on an answer
pub on_both : {T E : Type 0} (P Q R : Type 0) (r : Result T E) → (P → Q → R) → OnOk r P → OnOk r Q → OnOk r R
on_both P Q R (Ok v) f p q = f p q
on_both P Q R (Err e) f p q = tt
