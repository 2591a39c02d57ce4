-- Lines, read byte by byte.
use Rattle.std.proofs.Common.{◌≡◌, ◌≢◌, ◌≤◌, ◌<◌, ◌+◌, ℕ, ◌==◌, Bool, true, false, cond, List, [], ◌∷◌, ◌++◌, length, take, Option, Some, refl, sym, ap, ◌∙◌, subst, arith, length-append}
use Rattle.std.proofs.Math.Seq.{take-append-add}
use Rattle.std.proofs.lemmas.Bool.{ne_eqb}
use Rattle.std.proofs.lemmas.List.{append-nil, take_all, length-take, take-append-le}
use Rattle.ob_schedule.specs.Follow.{Follow}
use Rattle.ob_audit.specs.Traces.{with_first, lines_in, TakesNext, Admitted}
use Rattle.ob_audit.specs.Reader.{prefixed, TakesText}

-- ---- lines

pub prefixed_more : (xs : List ℕ) (b : ℕ) (ts : List (List ℕ)) → prefixed (xs ++ b ∷ []) ts ≡ prefixed xs (with_first b ts)
prefixed_more [] b ts = refl
prefixed_more (x ∷ xs) b ts = ap (λ (t : List (List ℕ)). with_first x t) (prefixed_more xs b ts)

prefixed_text : (xs ys : List ℕ) (ts : List (List ℕ)) → prefixed xs (ys ∷ ts) ≡ (xs ++ ys) ∷ ts
prefixed_text [] ys ts = refl
prefixed_text (x ∷ xs) ys ts = ap (λ (t : List (List ℕ)). with_first x t) (prefixed_text xs ys ts)

pub prefixed_line : (xs : List ℕ) (ts : List (List ℕ)) → prefixed xs ([] ∷ ts) ≡ xs ∷ ts
prefixed_line xs ts = prefixed_text xs [] ts ∙ ap (λ (t : List ℕ). t ∷ ts) (append-nil xs)

last_line : (x : ℕ) (xs : List ℕ) → prefixed (x ∷ xs) [] ≡ (x ∷ xs) ∷ []
last_line x [] = refl
last_line x (y ∷ ys) = ap (λ (t : List (List ℕ)). with_first x t) (last_line y ys)

-- what is begun, and isn't empty, is a line at the end
pub prefixed_last : (xs : List ℕ) → 0 < length xs → prefixed xs [] ≡ xs ∷ []
prefixed_last [] some = absurd (omega arith)
prefixed_last (x ∷ xs) some = last_line x xs

pub lines_other : (b : ℕ) (bs : List ℕ) → b ≢ 10 → lines_in (b ∷ bs) ≡ with_first b (lines_in bs)
lines_other b bs ne = let e : (b == 10) ≡ false = ne_eqb b 10 ne in rw e refl

first_some : (b : ℕ) (ts : List (List ℕ)) → with_first b ts ≡ [] → ⊥
first_some b [] e = cc
first_some b (t ∷ ts) e = cc

-- there is a line where there is a byte
pub some_lines : (bs : List ℕ) → 0 < length bs → lines_in bs ≢ []
some_lines [] some e = omega arith
some_lines (b ∷ bs) some e = go (b == 10) e
  where
    go : (t : Bool) → cond t ([] ∷ lines_in bs) (with_first b (lines_in bs)) ≡ [] → ⊥
    go true e = cc
    go false e = first_some b (lines_in bs) e

-- one byte more than what was read ends in one line more
pub one_line : (begun : List ℕ) (b : ℕ) → (text : List ℕ) × (prefixed begun (lines_in (b ∷ [])) ≡ text ∷ [])
one_line begun b = go (b == 10)
  where
    go : (t : Bool) → (text : List ℕ) × (prefixed begun (cond t ([] ∷ []) (with_first b [])) ≡ text ∷ [])
    go true = (begun, prefixed_line begun [])
    go false = (begun ++ b ∷ [], prefixed_text begun (b ∷ []) [])

pub taken_behind : (xs ys : List ℕ) (n m : ℕ) → m ≡ length xs + n → take m (xs ++ ys) ≡ xs ++ take n ys
taken_behind xs ys n m is = ap (λ (k : ℕ). take k (xs ++ ys)) is ∙ take-append-add xs ys n

-- ---- what is kept of a line

pub kept_more : (kept begun : List ℕ) (b : ℕ) → length kept < 97 → kept ≡ take 97 begun → kept ++ b ∷ [] ≡ take 97 (begun ++ b ∷ [])
kept_more kept begun b few is =
    let n : length kept ≡ length (take 97 begun) = ap (λ (k : List ℕ). length k) is in
    let short : length begun ≤ 96 = omega (arith, n, length-take 97 begun, few) in
    let whole : take 97 begun ≡ begun = take_all 97 begun (omega (arith, short)) in
    let all : take 97 (begun ++ b ∷ []) ≡ begun ++ b ∷ [] = take_all 97 (begun ++ b ∷ []) (omega (arith, short, length-append begun (b ∷ []))) in
    ap (λ (k : List ℕ). k ++ b ∷ []) (is ∙ whole) ∙ sym all

pub kept_same : (kept begun : List ℕ) (b : ℕ) → length kept ≡ 97 → kept ≡ take 97 begun → kept ≡ take 97 (begun ++ b ∷ [])
kept_same kept begun b full is =
    let n : length kept ≡ length (take 97 begun) = ap (λ (k : List ℕ). length k) is in
    let long : 97 ≤ length begun = omega (arith, n, length-take 97 begun, full) in
    is ∙ sym (take-append-le 97 begun (b ∷ []) long)

pub none_begun : (begun : List ℕ) → [] ≡ take 97 begun → begun ≡ []
none_begun [] e = refl
none_begun (x ∷ xs) e = cc

pub some_begun : (kept begun : List ℕ) → 0 < length kept → kept ≡ take 97 begun → 0 < length begun
some_begun kept begun some is =
    let n : length kept ≡ length (take 97 begun) = ap (λ (k : List ℕ). length k) is in
    omega (arith, n, length-take 97 begun, some)

-- ---- lines that are admitted

pub admitted_more : (known mid last : Option Follow) (texts : List (List ℕ)) (text : List ℕ) → Admitted known texts mid → TakesText mid text last → Admitted known (texts ++ text ∷ []) last
admitted_more known mid last [] text is (line, of, (next, takes, now)) =
    (line, of, (next, subst (λ (k : Option Follow). TakesNext k line next) is takes, now))
admitted_more known mid last (t ∷ ts) text (line, of, (next, takes, rest)) took =
    (line, of, (next, takes, admitted_more (Some next) mid last ts text rest took))
