-- The words of a format, bucket by bucket.
use Rattle.std.proofs.Common.{◌≡◌, ℕ, zero, suc, ◌+◌, ◌-◌, ◌*◌, ◌<◌, ◌≤◌, false, List, [], ◌∷◌, ◌++◌, Option, None, map, set, take, drop, replicate, length, get_or, refl, sym, subst, ◌∙◌, ap, arith, append_assoc, length-append}
use Rattle.std.specs.List.{range_with_len}
use Rattle.std.proofs.lemmas.List.{append-nil, length-replicate, take_all, take-append-le}
use Rattle.std.proofs.lemmas.List.FromFn.{length-map-range_with_len, map-range_with_len_more}
use Rattle.std.proofs.Math.Nat.{mul-le-mul_right}
use Rattle.std.proofs.Math.Seq.{set-append_seam}
use Rattle.ob_base.specs.declared.params.Params.{Params}
use Rattle.ob_base.specs.Tree.{below, buckets, width}
use Rattle.ob_tables.specs.Buckets.{no_version, version_at}
use Rattle.ob_tables.specs.Version.{Version, blank, filled}
use Rattle.ob_stand.specs.Fresh.{fresh_version}
use Rattle.ob_opening.specs.Formats.{drawn_ranks, first_version, words_of}

-- words that come behind don't change a bucket's
pub words_stay : (p : Params) (u : ℕ) (drawn more : List ℕ) → u * width p + width p ≤ length drawn → words_of p (drawn ++ more) u ≡ words_of p drawn u
words_stay p u drawn more few = stay (u * width p) (width p) drawn few
  where
    stay : (a n : ℕ) (xs : List ℕ) → a + n ≤ length xs → take n (drop a (xs ++ more)) ≡ take n (drop a xs)
    stay zero n xs few = take-append-le n xs more (omega arith)
    stay (suc a) n [] few = absurd (omega arith)
    stay (suc a) n (x ∷ xs) few = stay a n xs (omega arith)

-- and those that come are the next bucket's
pub words_next : (p : Params) (u : ℕ) (drawn more : List ℕ) → length drawn ≡ u * width p → length more ≡ width p → words_of p (drawn ++ more) u ≡ more
words_next p u drawn more many long = next (u * width p) drawn many
  where
    next : (a : ℕ) (xs : List ℕ) → length xs ≡ a → take (width p) (drop a (xs ++ more)) ≡ more
    next zero [] same = take_all (width p) more (omega arith)
    next zero (x ∷ xs) same = absurd (omega arith)
    next (suc a) [] same = absurd (omega arith)
    next (suc a) (x ∷ xs) same = next a xs (omega arith)

-- a version without keys
pub first_filled : (p : Params) (u : ℕ) (words : List ℕ) → length words ≡ width p → filled (blank p) 0 1 (u * width p) [] words ≡ first_version p u words
first_filled p u words long =
    let keys : length (replicate {A = Option ℕ} p.real None) - 0 ≡ p.real = (let l = length-replicate {A = Option ℕ} p.real None in omega arith) in
    ap (λ (n : ℕ). record { home = 0; generation = 1; base = u * width p; keys = replicate n None; ranks = (first_version p u words).ranks; used = replicate (length words) false }) keys
    ∙ ap (λ (n : ℕ). record { home = 0; generation = 1; base = u * width p; keys = replicate p.real None; ranks = (first_version p u words).ranks; used = replicate n false }) long

-- ---- the buckets, as they are filled

-- the first n have their versions, of these words
abbrev pub filling : Params → List ℕ → ℕ → List Version
filling p drawn n = map (fresh_version p (drawn_ranks p drawn)) (below n) ++ replicate (buckets p - n) (blank p)

map_like : {X : Type 0} (f h : ℕ → X) (a n : ℕ) → ((u : ℕ) → a ≤ u → u < a + n → f u ≡ h u) → map f (range_with_len a n) ≡ map h (range_with_len a n)
map_like f h a zero same = refl
map_like f h a (suc n) same = ap (λ x. x ∷ map f (range_with_len (a + 1) n)) (same a (omega arith) (omega arith)) ∙ ap (λ xs. h a ∷ xs) (map_like f h (a + 1) n (λ u from to. same u (omega arith) (omega arith)))

pub filling_none : (p : Params) → filling p [] 0 ≡ replicate (buckets p) (blank p)
filling_none p = let e : buckets p - 0 ≡ buckets p = omega arith in ap (λ (n : ℕ). replicate n (blank p)) e

pub filling_whole : (p : Params) (drawn : List ℕ) → filling p drawn (buckets p) ≡ map (fresh_version p (drawn_ranks p drawn)) (below (buckets p))
filling_whole p drawn =
    let e : buckets p - buckets p ≡ 0 = omega arith in
    let made = map (fresh_version p (drawn_ranks p drawn)) (below (buckets p)) in
    ap (λ (n : ℕ). made ++ replicate n (blank p)) e ∙ append-nil made

pub length-filling : (p : Params) (drawn : List ℕ) (n : ℕ) → n ≤ buckets p → length (filling p drawn n) ≡ buckets p
length-filling p drawn n low =
    let made = map (fresh_version p (drawn_ranks p drawn)) (below n) in
    let all = length-append made (replicate (buckets p - n) (blank p)) in
    let front = length-map-range_with_len (fresh_version p (drawn_ranks p drawn)) 0 n in
    let back = length-replicate (buckets p - n) (blank p) in
    omega (arith, all, front, back)

-- the next bucket was not written
pub filling_blank : (p : Params) (drawn : List ℕ) (n : ℕ) → n < buckets p → version_at (filling p drawn n) n ≡ blank p
filling_blank p drawn n low =
    let made = map (fresh_version p (drawn_ranks p drawn)) (below n) in
    let front : length made ≡ n = length-map-range_with_len (fresh_version p (drawn_ranks p drawn)) 0 n in
    let more : buckets p - n ≡ suc (buckets p - (n + 1)) = omega arith in
    ap (λ (m : ℕ). version_at (made ++ replicate m (blank p)) n) more ∙ at made (replicate (buckets p - (n + 1)) (blank p)) n front
  where
    at : (xs ys : List Version) (m : ℕ) → length xs ≡ m → get_or (xs ++ blank p ∷ ys) m no_version ≡ blank p
    at [] ys m long = subst (λ (i : ℕ). get_or (blank p ∷ ys) i no_version ≡ blank p) long refl
    at (x ∷ xs) ys zero long = absurd (omega arith)
    at (x ∷ xs) ys (suc m) long = at xs ys m (omega arith)

pub filling_next : (p : Params) (drawn more : List ℕ) (n : ℕ) → n < buckets p → length drawn ≡ n * width p → length more ≡ width p → set (filling p drawn n) n (first_version p n more) ≡ filling p (drawn ++ more) (n + 1)
filling_next p drawn more n low many long =
    let made = map (fresh_version p (drawn_ranks p drawn)) (below n) in
    let now = map (fresh_version p (drawn_ranks p (drawn ++ more))) (below n) in
    let front : length made ≡ n = length-map-range_with_len (fresh_version p (drawn_ranks p drawn)) 0 n in
    let rest = replicate (buckets p - (n + 1)) (blank p) in
    let one = first_version p n more in
    let here : one ≡ fresh_version p (drawn_ranks p (drawn ++ more)) n = ap (λ (words : List ℕ). first_version p n words) (sym (words_next p n drawn more many long)) in
    let still : made ≡ now = map_like (fresh_version p (drawn_ranks p drawn)) (fresh_version p (drawn_ranks p (drawn ++ more))) 0 n (λ u from to. ap (λ (words : List ℕ). first_version p u words) (sym (words_stay p u drawn more (before u (omega arith))))) in
    let left : buckets p - n ≡ suc (buckets p - (n + 1)) = omega arith in
    ap (λ (m : ℕ). set (made ++ replicate m (blank p)) n one) left
    ∙ subst (λ (i : ℕ). set (made ++ blank p ∷ rest) i one ≡ made ++ one ∷ rest) front (set-append_seam made (blank p) rest one)
    ∙ ap (λ (vs : List Version). vs ++ one ∷ rest) still
    ∙ ap (λ (v : Version). now ++ v ∷ rest) here
    ∙ sym (append_assoc now (fresh_version p (drawn_ranks p (drawn ++ more)) n ∷ []) rest)
    ∙ ap (λ (vs : List Version). vs ++ rest) (sym (map-range_with_len_more (fresh_version p (drawn_ranks p (drawn ++ more))) 0 n n (omega arith)))
  where
    before : (u : ℕ) → u < n → u * width p + width p ≤ length drawn
    before u lt = let rows : (u + 1) * width p ≤ n * width p = mul-le-mul_right (width p) (omega arith) in omega (arith, rows, many)
