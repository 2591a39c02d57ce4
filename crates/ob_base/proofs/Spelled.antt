-- Numbers and items that are spelled alike are the same, and a number read is spelled by its bytes.
use Rattle.std.proofs.Common.{◌≡◌, ◌<◌, ◌≤◌, ℕ, zero, suc, ◌+◌, ◌*◌, ◌^◌, List, [], ◌∷◌, ◌++◌, take, drop, length, get_or, arith, refl, sym, ap, ◌∙◌, append_assoc, length-append, length-take, length-drop}
use Rattle.std.specs.Int.{w32, w64, to_le_bytes, from_le_bytes}
use Rattle.std.specs.List.{flat_map}
use Rattle.std.proofs.lemmas.List.{get_or-drop}
use Rattle.std.proofs.lemmas.List.Concat.{flat_map-cons}
use Rattle.std.proofs.lemmas.Nat.{from_le_bytes-to_le_bytes_4, from_le_bytes-to_le_bytes_8, le_bytes_4, le_bytes_8}
use Rattle.ob_base.specs.LittleEndian.{field_at}

-- lists with heads of one length
pub split_same : (xs ys a b : List ℕ) → length xs ≡ length ys → xs ++ a ≡ ys ++ b → (xs ≡ ys) × (a ≡ b)
split_same [] [] a b long e = (refl, e)
split_same [] (y ∷ ys) a b long e = absurd (omega arith)
split_same (x ∷ xs) [] a b long e = absurd (omega arith)
split_same (x ∷ xs) (y ∷ ys) a b long e =
    let head : x ≡ y = cc in
    let tail : xs ++ a ≡ ys ++ b = cc in
    let rest = split_same xs ys a b (omega arith) tail in
    let same : xs ≡ ys = rest.0 in
    (cc, rest.1)

-- a number is told by its bytes
pub le32_same : (m n : ℕ) → m < 2 ^ 32 → n < 2 ^ 32 → to_le_bytes w32 m ≡ to_le_bytes w32 n → m ≡ n
le32_same m n hm hn e = sym (from_le_bytes-to_le_bytes_4 m hm) ∙ ap (from_le_bytes w32) e ∙ from_le_bytes-to_le_bytes_4 n hn

pub le64_same : (m n : ℕ) → m < 2 ^ 64 → n < 2 ^ 64 → to_le_bytes w64 m ≡ to_le_bytes w64 n → m ≡ n
le64_same m n hm hn e = sym (from_le_bytes-to_le_bytes_8 m hm) ∙ ap (from_le_bytes w64) e ∙ from_le_bytes-to_le_bytes_8 n hn

-- a number in front
pub front32 : (m n : ℕ) (a b : List ℕ) → m < 2 ^ 32 → n < 2 ^ 32 → to_le_bytes w32 m ++ a ≡ to_le_bytes w32 n ++ b → (m ≡ n) × (a ≡ b)
front32 m n a b hm hn e = let parts = split_same (to_le_bytes w32 m) (to_le_bytes w32 n) a b refl e in (le32_same m n hm hn parts.0, parts.1)

pub front64 : (m n : ℕ) (a b : List ℕ) → m < 2 ^ 64 → n < 2 ^ 64 → to_le_bytes w64 m ++ a ≡ to_le_bytes w64 n ++ b → (m ≡ n) × (a ≡ b)
front64 m n a b hm hn e = let parts = split_same (to_le_bytes w64 m) (to_le_bytes w64 n) a b refl e in (le64_same m n hm hn parts.0, parts.1)

module _ {X : Type 0} (f : X → List ℕ) (w : ℕ) (d : X) where
  -- items of one width, one after another
  pub length-flat_map_wide : (xs : List X) → ((i : ℕ) → i < length xs → length (f (get_or xs i d)) ≡ w) → length (flat_map f xs) ≡ length xs * w
  length-flat_map_wide [] wide = omega arith
  length-flat_map_wide (x ∷ xs) wide =
      let here : length (f x) ≡ w = wide 0 (omega arith) in
      let rest : length (flat_map f xs) ≡ length xs * w = length-flat_map_wide xs (λ i lt. wide (suc i) (omega arith)) in
      let more : suc (length xs) * w ≡ w + length xs * w = omega arith in
      rw (flat_map-cons f x xs, length-append) (omega arith)

  -- items of one width, spelled alike item by item
  pub items_same : (xs ys : List X) (a b : List ℕ) → length xs ≡ length ys
      → ((i : ℕ) → i < length xs → length (f (get_or xs i d)) ≡ w) → ((i : ℕ) → i < length ys → length (f (get_or ys i d)) ≡ w)
      → ((i : ℕ) → i < length xs → f (get_or xs i d) ≡ f (get_or ys i d) → get_or xs i d ≡ get_or ys i d)
      → flat_map f xs ++ a ≡ flat_map f ys ++ b → (xs ≡ ys) × (a ≡ b)
  items_same [] [] a b long wx wy one e = (refl, e)
  items_same [] (y ∷ ys) a b long wx wy one e = absurd (omega arith)
  items_same (x ∷ xs) [] a b long wx wy one e = absurd (omega arith)
  items_same (x ∷ xs) (y ∷ ys) a b long wx wy one e =
      let e' : f x ++ (flat_map f xs ++ a) ≡ f y ++ (flat_map f ys ++ b) =
      sym (append_assoc (f x) (flat_map f xs) a) ∙ ap (λ l. l ++ a) (sym (flat_map-cons f x xs)) ∙ e ∙ ap (λ l. l ++ b) (flat_map-cons f y ys) ∙ append_assoc (f y) (flat_map f ys) b in
      let parts = split_same (f x) (f y) (flat_map f xs ++ a) (flat_map f ys ++ b) (wx 0 (omega arith) ∙ sym (wy 0 (omega arith))) e' in
      let head : x ≡ y = one 0 (omega arith) parts.0 in
      let rest = items_same xs ys a b (omega arith) (λ i lt. wx (suc i) (omega arith)) (λ i lt. wy (suc i) (omega arith)) (λ i lt. one (suc i) (omega arith)) parts.1 in
      let tail : xs ≡ ys = rest.0 in
      (cc, rest.1)

-- a part of bytes is of bytes
pub low_take : (n : ℕ) (xs : List ℕ) → ((i : ℕ) → get_or xs i 0 < 256) → (i : ℕ) → get_or (take n xs) i 0 < 256
low_take zero xs low i = omega arith
low_take (suc n) [] low i = omega arith
low_take (suc n) (x ∷ xs) low zero = low 0
low_take (suc n) (x ∷ xs) low (suc i) = low_take n xs (λ j. low (suc j)) i

pub low_part : (bytes : List ℕ) (at n : ℕ) → ((i : ℕ) → get_or bytes i 0 < 256) → (i : ℕ) → get_or (take n (drop at bytes)) i 0 < 256
low_part bytes at n low i = low_take n (drop at bytes) (λ j. rw (get_or-drop at bytes j 0) (low (at + j))) i

-- a number read is spelled by its bytes
pub field32 : (bytes : List ℕ) (at number : ℕ) → ((i : ℕ) → get_or bytes i 0 < 256) → at + 4 ≤ length bytes → number ≡ field_at w32 bytes at → to_le_bytes w32 number ≡ take 4 (drop at bytes)
field32 bytes at number low fits e = le_bytes_4 (take 4 (drop at bytes)) number (omega (arith, length-take 4 (drop at bytes), length-drop at bytes)) (low_part bytes at 4 low) e

pub field64 : (bytes : List ℕ) (at number : ℕ) → ((i : ℕ) → get_or bytes i 0 < 256) → at + 8 ≤ length bytes → number ≡ field_at w64 bytes at → to_le_bytes w64 number ≡ take 8 (drop at bytes)
field64 bytes at number low fits e = le_bytes_8 (take 8 (drop at bytes)) number (omega (arith, length-take 8 (drop at bytes), length-drop at bytes)) (low_part bytes at 8 low) e
