-- Parts written into bytes, one behind the other.
use Rattle.std.specs.Prelude.{◌≡◌, ◌<◌, ◌≤◌, ℕ, ◌+◌, ◌*◌, Bool, List, [], ◌∷◌, ◌++◌, Option, Some, None, take, drop, length, slice_set}
use Rattle.std.specs.List.{flat_map}
use Rattle.std.specs.Int.{w32, w64, to_le_bytes}
use Rattle.std.proofs.Common.{zero, suc, arith, refl, sym, ap, ◌∙◌, get_or, false, length-append, length-take, length-drop, append_assoc, add-one}
use Rattle.std.proofs.lemmas.List.{take_at, drop_at, drop-drop, append-nil, take-append-drop, set_split, length-take-le, take_more}
use Rattle.std.proofs.lemmas.List.Concat.{flat_map-append, flat_map-cons}
use Rattle.ob_base.specs.LittleEndian.{with_part}
use Rattle.ob_tables.specs.Version.{Version, key_bytes, mark_of, index_bytes, version_bytes, version_len}

pub part_none : (b : List ℕ) (at : ℕ) → with_part b at [] ≡ b
part_none b at = ap (λ (xs : List ℕ). xs ++ drop (at + 0) b) (append-nil (take at b)) ∙ (let e : at + 0 ≡ at = omega arith in rw e (take-append-drop at b))

-- a part behind a part
pub parts_joined : (b : List ℕ) (at : ℕ) (p q : List ℕ) (m : ℕ) → at + length p ≡ m → m ≤ length b → with_part (with_part b at p) m q ≡ with_part b at (p ++ q)
parts_joined b at p q m e fits =
    let front : List ℕ = take at b ++ p in
    let back : List ℕ = drop (at + length p) b in
    let long : length front ≡ m = omega (arith, length-append (take at b) p, length-take at b) in
    let head : take m (front ++ back) ≡ front = take_at front back m long in
    let tail : drop (m + length q) (front ++ back) ≡ drop (at + length (p ++ q)) b =
    sym (drop-drop (length q) m (front ++ back)) ∙ ap (drop (length q)) (drop_at front back m long) ∙ drop-drop (length q) (at + length p) b
    ∙ ap (λ (n : ℕ). drop n b) (let n : length (p ++ q) ≡ length p + length q = length-append p q in let z : (at + length p) + length q ≡ at + length (p ++ q) = omega arith in z) in
    ap (λ (xs : List ℕ). xs ++ q ++ drop (m + length q) (front ++ back)) head ∙ ap (λ (xs : List ℕ). front ++ q ++ xs) tail
    ∙ ap (λ (xs : List ℕ). xs ++ drop (at + length (p ++ q)) b) (append_assoc (take at b) p q)

pub length_part : (b : List ℕ) (at : ℕ) (p : List ℕ) → at + length p ≤ length b → length (with_part b at p) ≡ length b
length_part b at p fits = omega (arith, length-append (take at b ++ p) (drop (at + length p) b), length-append (take at b) p, length-take at b, length-drop (at + length p) b)

-- one byte
pub set_part : (b : List ℕ) (i x : ℕ) → i < length b → slice_set b i x ≡ with_part b i (x ∷ [])
set_part b i x h = set_split b i x h ∙ ap (λ (n : ℕ). take i b ++ (x ∷ drop n b)) (sym (add-one i)) ∙ sym (append_assoc (take i b) (x ∷ []) (drop (i + 1) b))

pub part_whole : (b p : List ℕ) → length p ≡ length b → with_part b 0 p ≡ p
part_whole b p long = ap (λ (xs : List ℕ). p ++ xs) (drop_past b (0 + length p) (omega arith)) ∙ append-nil p
  where
    drop_past : (xs : List ℕ) (n : ℕ) → length xs ≤ n → drop n xs ≡ []
    drop_past [] zero h = refl
    drop_past [] (suc n) h = refl
    drop_past (x ∷ xs) zero h = absurd (omega arith)
    drop_past (x ∷ xs) (suc n) h = drop_past xs n (omega arith)

-- ---- the loops

pub key_width : (k : Option ℕ) → length (key_bytes k) ≡ 4
key_width None = refl
key_width (Some k) = refl

pub keys_width : (keys : List (Option ℕ)) → length (flat_map key_bytes keys) ≡ 4 * length keys
keys_width [] = refl
keys_width (k ∷ keys) = omega (arith, ap (λ (xs : List ℕ). length xs) (flat_map-cons key_bytes k keys), length-append (key_bytes k) (flat_map key_bytes keys), key_width k, keys_width keys)

pub keys_none : (b : List ℕ) (at : ℕ) (keys : List (Option ℕ)) → b ≡ with_part b at (flat_map key_bytes (take 0 keys))
keys_none b at keys = sym (part_none b at)

-- one key more is written
pub keys_more : (b : List ℕ) (at : ℕ) (keys : List (Option ℕ)) (j : ℕ) (number : ℕ) → j < length keys → at + 4 * length keys ≤ length b → to_le_bytes w32 number ≡ key_bytes (get_or keys j None)
    → with_part (with_part b at (flat_map key_bytes (take j keys))) (at + 4 * j) (to_le_bytes w32 number) ≡ with_part b at (flat_map key_bytes (take (j + 1) keys))
keys_more b at keys j number h fits spelled =
    let n : length (take j keys) ≡ j = length-take-le j keys (omega arith) in
    let more : flat_map key_bytes (take (j + 1) keys) ≡ flat_map key_bytes (take j keys) ++ to_le_bytes w32 number =
    ap (flat_map key_bytes) (take_more keys j None h) ∙ flat_map-append key_bytes (take j keys) (get_or keys j None ∷ [])
    ∙ ap (λ (xs : List ℕ). flat_map key_bytes (take j keys) ++ xs) (append-nil (key_bytes (get_or keys j None)) ∙ sym spelled) in
    parts_joined b at (flat_map key_bytes (take j keys)) (to_le_bytes w32 number) (at + 4 * j) (omega (arith, keys_width (take j keys))) (omega arith)
    ∙ ap (with_part b at) (sym more)

pub index_width : (ranks : List ℕ) (used : List Bool) → length used ≡ length ranks → length (index_bytes ranks used) ≡ 2 * length ranks
index_width [] us e = refl
index_width (r ∷ rs) [] e = absurd (omega arith)
index_width (r ∷ rs) (u ∷ us) e = omega (arith, index_width rs us (omega arith))

pub index_push : (ranks : List ℕ) (used : List Bool) (r : ℕ) (u : Bool) → length used ≡ length ranks → index_bytes (ranks ++ r ∷ []) (used ++ u ∷ []) ≡ index_bytes ranks used ++ r ∷ mark_of u ∷ []
index_push [] [] r u e = refl
index_push [] (v ∷ us) r u e = absurd (omega arith)
index_push (s ∷ rs) [] r u e = absurd (omega arith)
index_push (s ∷ rs) (v ∷ us) r u e = ap (λ (xs : List ℕ). s ∷ mark_of v ∷ xs) (index_push rs us r u (omega arith))

-- one index more is written
pub indexes_more : (b : List ℕ) (at : ℕ) (ranks : List ℕ) (used : List Bool) (j r m : ℕ) → j < length ranks → length used ≡ length ranks → at + 2 * length ranks ≤ length b
    → r ≡ get_or ranks j 0 → m ≡ mark_of (get_or used j false)
    → slice_set (slice_set (with_part b at (index_bytes (take j ranks) (take j used))) (at + 2 * j) r) (at + 2 * j + 1) m ≡ with_part b at (index_bytes (take (j + 1) ranks) (take (j + 1) used))
indexes_more b at ranks used j r m h same fits is_r is_m =
    let p : List ℕ = index_bytes (take j ranks) (take j used) in
    let n : length (take j ranks) ≡ j = length-take-le j ranks (omega arith) in
    let l : length (take j used) ≡ j = length-take-le j used (omega arith) in
    let wide : length p ≡ 2 * j = omega (arith, index_width (take j ranks) (take j used) (l ∙ sym n)) in
    let k : j < length used = omega arith in
    let more : index_bytes (take (j + 1) ranks) (take (j + 1) used) ≡ p ++ r ∷ m ∷ [] =
    ap (λ (xs : List ℕ). index_bytes xs (take (j + 1) used)) (take_more ranks j 0 h) ∙ ap (index_bytes (take j ranks ++ get_or ranks j 0 ∷ [])) (take_more used j false k)
    ∙ index_push (take j ranks) (take j used) (get_or ranks j 0) (get_or used j false) (l ∙ sym n) ∙ rw (is_r, is_m) refl in
    let whole : length (with_part b at p) ≡ length b = length_part b at p (omega arith) in
    let one : slice_set (with_part b at p) (at + 2 * j) r ≡ with_part b at (p ++ r ∷ []) = set_part (with_part b at p) (at + 2 * j) r (omega arith) ∙ parts_joined b at p (r ∷ []) (at + 2 * j) (omega arith) (omega arith) in
    let long : length (p ++ r ∷ []) ≡ 2 * j + 1 = omega (arith, length-append p (r ∷ [])) in
    let whole2 : length (with_part b at (p ++ r ∷ [])) ≡ length b = length_part b at (p ++ r ∷ []) (omega arith) in
    ap (λ (xs : List ℕ). slice_set xs (at + 2 * j + 1) m) one
    ∙ set_part (with_part b at (p ++ r ∷ [])) (at + 2 * j + 1) m (omega arith) ∙ parts_joined b at (p ++ r ∷ []) (m ∷ []) (at + 2 * j + 1) (omega arith) (omega arith)
    ∙ ap (with_part b at) (append_assoc p (r ∷ []) (m ∷ []) ∙ sym more)

-- the parts of a version, written one behind the other
pub encoded : (b : List ℕ) (v : Version) (b1 b2 b3 b4 b5 : List ℕ) (places : ℕ) → length b ≡ version_len v → length v.used ≡ length v.ranks → places ≡ length v.keys
    → b1 ≡ slice_set b 0 v.home → b2 ≡ with_part b1 1 (to_le_bytes w64 v.generation) → b3 ≡ with_part b2 9 (to_le_bytes w64 v.base)
    → b4 ≡ with_part b3 17 (flat_map key_bytes v.keys) → b5 ≡ with_part b4 (17 + 4 * places) (index_bytes v.ranks v.used) → b5 ≡ version_bytes v
encoded b v b1 b2 b3 b4 b5 places long marks many e1 e2 e3 e4 e5 =
    let g : List ℕ = to_le_bytes w64 v.generation in
    let n : List ℕ = to_le_bytes w64 v.base in
    let k : List ℕ = flat_map key_bytes v.keys in
    let i : List ℕ = index_bytes v.ranks v.used in
    let wk : length k ≡ 4 * length v.keys = keys_width v.keys in
    let wi : length i ≡ 2 * length v.ranks = index_width v.ranks v.used marks in
    let l1 : length b ≡ 17 + 4 * length v.keys + 2 * length v.ranks = long in
    let f1 : b1 ≡ with_part b 0 (v.home ∷ []) = e1 ∙ set_part b 0 v.home (omega arith) in
    let f2 : b2 ≡ with_part b 0 (v.home ∷ g) = e2 ∙ ap (λ (xs : List ℕ). with_part xs 1 g) f1 ∙ parts_joined b 0 (v.home ∷ []) g 1 refl (omega arith) in
    let f3 : b3 ≡ with_part b 0 ((v.home ∷ g) ++ n) = e3 ∙ ap (λ (xs : List ℕ). with_part xs 9 n) f2 ∙ parts_joined b 0 (v.home ∷ g) n 9 refl (omega arith) in
    let f4 : b4 ≡ with_part b 0 (((v.home ∷ g) ++ n) ++ k) = e4 ∙ ap (λ (xs : List ℕ). with_part xs 17 k) f3 ∙ parts_joined b 0 ((v.home ∷ g) ++ n) k 17 refl (omega arith) in
    let wp : length (((v.home ∷ g) ++ n) ++ k) ≡ 17 + length k = length-append ((v.home ∷ g) ++ n) k in
    let f5 : b5 ≡ with_part b 0 ((((v.home ∷ g) ++ n) ++ k) ++ i) = e5 ∙ ap (λ (xs : List ℕ). with_part xs (17 + 4 * places) i) f4 ∙ parts_joined b 0 (((v.home ∷ g) ++ n) ++ k) i (17 + 4 * places) (omega arith) (omega arith) in
    f5 ∙ part_whole b ((((v.home ∷ g) ++ n) ++ k) ++ i) (omega (arith, length-append (((v.home ∷ g) ++ n) ++ k) i))
    ∙ append_assoc ((v.home ∷ g) ++ n) k i ∙ append_assoc (v.home ∷ g) n (k ++ i)
