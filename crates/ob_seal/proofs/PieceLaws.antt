-- Bytes are told by their pieces.
use Rattle.std.proofs.Common.{◌≡◌, ◌<◌, ◌≤◌, ℕ, zero, suc, ◌+◌, ◌-◌, ◌*◌, List, [], ◌∷◌, ◌++◌, take, drop, length, arith, refl, sym, ap, ◌∙◌, ⊎_elim, length-append, length-drop}
use Rattle.std.specs.Prelude.{replicate}
use Rattle.std.proofs.lemmas.Bool.{cases_lt}
use Rattle.std.proofs.lemmas.List.{take-append-le, take-append-drop, drop-drop}
use Rattle.std.proofs.Math.Seq.{take-append-add}
use Rattle.ob_seal.specs.Pieces.{piece}
use Rattle.ob_base.proofs.Spelled.{split_same}

length-take_long : (n : ℕ) (xs : List ℕ) → n ≤ length xs → length (take n xs) ≡ n
length-take_long n xs le = omega (arith, length-append (take n xs) (drop n xs), ap length (take-append-drop n xs), length-drop n xs)

pub length-piece : (i : ℕ) (xs : List ℕ) → length (piece i xs) ≡ 96
unfolding piece
length-piece i xs = length-take_long 96 (drop (96 * i) xs ++ replicate 96 0) (omega (arith, length-append (drop (96 * i) xs) (replicate 96 0)))

both_empty : (xs ys : List ℕ) → length xs ≡ length ys → length xs ≤ 0 → xs ≡ ys
both_empty [] [] long le = refl
both_empty [] (y ∷ ys) long le = absurd (omega arith)
both_empty (x ∷ xs) ys long le = absurd (omega arith)

module _ (w : ℕ) (z : List ℕ) where
  take_short : (xs : List ℕ) → length xs ≤ w → take w (xs ++ z) ≡ xs ++ take (w - length xs) z
  take_short xs le = let e : w ≡ length xs + (w - length xs) = omega arith in ap (λ n. take n (xs ++ z)) e ∙ take-append-add xs z (w - length xs)

  short_same : (xs ys : List ℕ) → length xs ≡ length ys → length xs ≤ w → take w (xs ++ z) ≡ take w (ys ++ z) → xs ≡ ys
  short_same xs ys long le e = (split_same xs ys (take (w - length xs) z) (take (w - length ys) z) long (sym (take_short xs le) ∙ e ∙ take_short ys (omega arith))).0

  long_same : (xs ys : List ℕ) → length xs ≡ length ys → w ≤ length xs → take w (xs ++ z) ≡ take w (ys ++ z) → drop w xs ≡ drop w ys → xs ≡ ys
  long_same xs ys long le e rest =
      let heads : take w xs ≡ take w ys = sym (take-append-le w xs z le) ∙ e ∙ take-append-le w ys z (omega arith) in
      sym (take-append-drop w xs) ∙ rw (heads, rest) (take-append-drop w ys)

-- pieces from the second on are those behind the first
pub piece_next : (i : ℕ) (xs : List ℕ) → piece (suc i) xs ≡ piece i (drop 96 xs)
unfolding piece
piece_next i xs =
    let e : 96 * suc i ≡ 96 + 96 * i = omega arith in
    ap (λ l. take 96 (l ++ replicate 96 0)) (ap (λ n. drop n xs) e ∙ sym (drop-drop (96 * i) 96 xs))

-- the first piece
pub piece_first : (xs : List ℕ) → piece 0 xs ≡ take 96 (xs ++ replicate 96 0)
unfolding piece
piece_first xs = refl

-- bytes of one length with the same pieces are the same
pub pieces_same : (k : ℕ) (xs ys : List ℕ) → length xs ≡ length ys → length xs ≤ 96 * k → ((i : ℕ) → i < k → piece i xs ≡ piece i ys) → xs ≡ ys
pieces_same zero xs ys long le each = both_empty xs ys long (omega arith)
pieces_same (suc k) xs ys long le each =
    let first : take 96 (xs ++ replicate 96 0) ≡ take 96 (ys ++ replicate 96 0) = sym (piece_first xs) ∙ each 0 (omega arith) ∙ piece_first ys in
    ⊎_elim
    (λ (short : length xs < 96). short_same 96 (replicate 96 0) xs ys long (omega arith) first)
    (λ (far : 96 ≤ length xs). long_same 96 (replicate 96 0) xs ys long far first
    (pieces_same k (drop 96 xs) (drop 96 ys) (omega (arith, length-drop 96 xs, length-drop 96 ys)) (omega (arith, length-drop 96 xs))
    (λ i lt. sym (piece_next i xs) ∙ each (suc i) (omega arith) ∙ piece_next i ys)))
    (cases_lt (length xs) 96)
