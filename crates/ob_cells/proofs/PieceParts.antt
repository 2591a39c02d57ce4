-- Pieces that are put one behind the other.
use Rattle.std.proofs.Common.{◌≡◌, ℕ, ◌+◌, ◌*◌, ◌-◌, ◌<◌, ◌≤◌, List, ◌++◌, take, drop, length, sym, ap, ◌∙◌, arith, ⊎_elim, append_assoc, length-append, length-drop}
use Rattle.std.specs.Prelude.{replicate, min}
use Rattle.std.proofs.lemmas.Bool.{cases_lt}
use Rattle.std.proofs.lemmas.List.{take_at, take_all, drop_at, drop_all, take-append-le, take-take, take-replicate, drop-replicate, drop-take, append-nil, length-take-le}
use Rattle.std.proofs.Math.Seq.{take-append-add}
use Rattle.ob_base.specs.LittleEndian.{with_part}
use Rattle.ob_seal.specs.Pieces.{piece}

-- a piece stands in the bytes before its end
piece_inner : (i n : ℕ) (xs : List ℕ) → 96 * i + 96 ≤ n → n ≤ length xs → piece i xs ≡ take 96 (drop (96 * i) (take n xs))
unfolding piece
piece_inner i n xs few long =
    let e : 96 * i + (n - 96 * i) ≡ n = omega arith in
    let rest : 96 ≤ length (drop (96 * i) xs) = omega (arith, length-drop (96 * i) xs) in
    take-append-le 96 (drop (96 * i) xs) (replicate 96 0) rest
    ∙ sym (take-take 96 (n - 96 * i) (drop (96 * i) xs) (omega arith))
    ∙ ap (take 96) (sym (drop-take (96 * i) (n - 96 * i) xs) ∙ ap (λ m. drop (96 * i) (take m xs)) e)

parts : (at : ℕ) (bytes part : List ℕ) → with_part bytes at part ≡ take at bytes ++ (part ++ drop (at + length part) bytes)
parts at bytes part = append_assoc (take at bytes) part (drop (at + length part) bytes)

pub piece_same : (i : ℕ) (bytes part : List ℕ) → length part ≡ 96 → 96 * i ≤ length bytes → piece i (with_part bytes (96 * i) part) ≡ part
unfolding piece
piece_same i bytes part long le =
    let front : length (take (96 * i) bytes) ≡ 96 * i = length-take-le (96 * i) bytes le in
    let back = part ++ drop (96 * i + length part) bytes in
    ap (λ (l : List ℕ). take 96 (drop (96 * i) l ++ replicate 96 0)) (parts (96 * i) bytes part)
    ∙ ap (λ (l : List ℕ). take 96 (l ++ replicate 96 0)) (drop_at (take (96 * i) bytes) back (96 * i) front)
    ∙ ap (take 96) (append_assoc part (drop (96 * i + length part) bytes) (replicate 96 0))
    ∙ take_at part (drop (96 * i + length part) bytes ++ replicate 96 0) 96 long

pub piece_other : (i j : ℕ) (bytes part : List ℕ) → j < i → 96 * i ≤ length bytes → piece j (with_part bytes (96 * i) part) ≡ piece j bytes
piece_other i j bytes part lt le =
    let front : length (take (96 * i) bytes) ≡ 96 * i = length-take-le (96 * i) bytes le in
    let back = part ++ drop (96 * i + length part) bytes in
    let long : 96 * i ≤ length (take (96 * i) bytes ++ back) = omega (arith, length-append (take (96 * i) bytes) back) in
    ap (piece j) (parts (96 * i) bytes part)
    ∙ piece_inner j (96 * i) (take (96 * i) bytes ++ back) (omega arith) long
    ∙ ap (λ (l : List ℕ). take 96 (drop (96 * j) l)) (take_at (take (96 * i) bytes) back (96 * i) front)
    ∙ sym (piece_inner j (96 * i) bytes (omega arith) le)

-- the first bytes of some, and zeros
pub filled_so : (bytes : List ℕ) (few : ℕ) → few ≡ min (length bytes) 96 → with_part (replicate 96 0) 0 (take few bytes) ≡ take 96 (bytes ++ replicate 96 0)
filled_so bytes few is =
    ⊎_elim
    (λ (short : length bytes < 96). (let e : few ≡ length bytes = omega arith in let rest : 96 ≡ length bytes + (96 - length bytes) = omega arith in
    ap (λ (l : List ℕ). with_part (replicate 96 0) 0 l) (ap (λ n. take n bytes) e ∙ take_all (length bytes) bytes (omega arith))
    ∙ ap (λ (l : List ℕ). bytes ++ l) (ap (λ n. drop n (replicate 96 0)) (zero_and (length bytes)) ∙ drop-replicate (length bytes) 96 0 ∙ sym (take-replicate (96 - length bytes) 96 0 (omega arith)))
    ∙ sym (ap (λ n. take n (bytes ++ replicate 96 0)) rest ∙ take-append-add bytes (replicate 96 0) (96 - length bytes))))
    (λ (far : 96 ≤ length bytes). (let e : few ≡ 96 = omega arith in
    ap (λ n. with_part (replicate 96 0) 0 (take n bytes)) e
    ∙ ap (λ (l : List ℕ). take 96 bytes ++ l) (drop_all (0 + length (take 96 bytes)) (replicate 96 0) (omega (arith, length-take-le 96 bytes far))) ∙ append-nil (take 96 bytes)
    ∙ sym (take-append-le 96 bytes (replicate 96 0) far)))
    (cases_lt (length bytes) 96)
  where
    zero_and : (n : ℕ) → 0 + n ≡ n
    zero_and n = omega arith
