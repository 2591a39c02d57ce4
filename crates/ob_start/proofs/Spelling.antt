-- Heads as they are written are read again.
use Rattle.std.proofs.Common.{◌≡◌, ℕ, ◌+◌, ◌*◌, ◌<◌, ◌≤◌, ◌^◌, List, [], ◌∷◌, ◌++◌, take, drop, length, get_or, refl, sym, ap, ◌∙◌, arith, append_assoc, add_assoc, length-append}
use Rattle.std.specs.List.{flat_map}
use Rattle.std.specs.Int.{w32, to_le_bytes}
use Rattle.std.proofs.lemmas.List.{take_at, length-take-le, drop-drop, append-nil, take_more, take-append-drop}
use Rattle.std.proofs.lemmas.Nat.{from_le_bytes-to_le_bytes_4}
use Rattle.std.proofs.Math.Seq.{drop-append-add}
use Rattle.ob_base.specs.declared.params.Params.{Params}
use Rattle.ob_base.specs.LittleEndian.{with_part}
use Rattle.ob_seal.specs.declared.keys.Keys.{Keys}
use Rattle.ob_start.specs.Heads.{head_mark, head_plain, head_cell, head_number_at, IsHead}

-- the head that is written is one of its parameters
pub head_is : (keys : Keys) (version : ℕ) (p : Params) → IsHead keys version p (head_cell keys version p)
unfolding head_plain head_mark
head_is keys version p =
    let r = p.in_range in
    let deep : 2 ^ 16 < 2 ^ 32 = omega arith in
    let a : head_number_at (head_cell keys version p) 0 ≡ p.keys = from_le_bytes-to_le_bytes_4 p.keys (omega (arith, r.few_keys)) in
    let b : head_number_at (head_cell keys version p) 1 ≡ p.levels = from_le_bytes-to_le_bytes_4 p.levels (omega (arith, r.few_levels)) in
    let c : head_number_at (head_cell keys version p) 2 ≡ p.real = from_le_bytes-to_le_bytes_4 p.real (omega (arith, r.few_real)) in
    let d : head_number_at (head_cell keys version p) 3 ≡ p.dummies = from_le_bytes-to_le_bytes_4 p.dummies (omega (arith, r.few_dummies)) in
    let e : head_number_at (head_cell keys version p) 4 ≡ p.batches = from_le_bytes-to_le_bytes_4 p.batches (omega (arith, r.few_batches)) in
    let f : head_number_at (head_cell keys version p) 5 ≡ p.places = from_le_bytes-to_le_bytes_4 p.places (omega (arith, r.few_places)) in
    let g : head_number_at (head_cell keys version p) 6 ≡ p.writes = from_le_bytes-to_le_bytes_4 p.writes (omega (arith, r.few_writes)) in
    let h : head_number_at (head_cell keys version p) 7 ≡ p.evictions = from_le_bytes-to_le_bytes_4 p.evictions (omega (arith, r.few_evictions)) in
    let i : head_number_at (head_cell keys version p) 8 ≡ p.room = from_le_bytes-to_le_bytes_4 p.room (omega (arith, r.few_room)) in
    record { marked = refl; stamped = refl; numbers = nine a b c d e f g h i }
  where
    nine : {a b c d e f g h i a' b' c' d' e' f' g' h' i' : ℕ} → a ≡ a' → b ≡ b' → c ≡ c' → d ≡ d' → e ≡ e' → f ≡ f' → g ≡ g' → h ≡ h' → i ≡ i'
        → ◌≡◌ {A = List ℕ} (a ∷ b ∷ c ∷ d ∷ e ∷ f ∷ g ∷ h ∷ i ∷ []) (a' ∷ b' ∷ c' ∷ d' ∷ e' ∷ f' ∷ g' ∷ h' ∷ i' ∷ [])
    nine pa pb pc pd pe pf pg ph pi = cc

-- a part behind a part
pub part_behind : (z a b : List ℕ) (at : ℕ) → at + length a + length b ≤ length z → with_part (with_part z at a) (at + length a) b ≡ with_part z at (a ++ b)
part_behind z a b at fits =
    let front = take at z ++ a in
    let rest = drop (at + length a) z in
    let long : length front ≡ at + length a = length-append (take at z) a ∙ ap (λ n. n + length a) (length-take-le at z (omega arith)) in
    ap (λ (l : List ℕ). l ++ b ++ drop (at + length a + length b) (front ++ rest)) (take_at front rest (at + length a) long)
    ∙ ap (λ (l : List ℕ). front ++ b ++ l) (ap (λ n. drop n (front ++ rest)) (ap (λ n. n + length b) (sym long)) ∙ drop-append-add front rest (length b) ∙ drop-drop (length b) (at + length a) z)
    ∙ ap (λ (l : List ℕ). l ++ drop (at + length a + length b) z) (append_assoc (take at z) a b)
    ∙ ap (λ n. take at z ++ (a ++ b) ++ drop n z) (add_assoc at (length a) (length b) ∙ ap (λ n. at + n) (sym (length-append a b)))

-- numbers in bytes
length_numbers : (xs : List ℕ) → length (flat_map (λ n. to_le_bytes w32 n) xs) ≡ 4 * length xs
length_numbers [] = refl
length_numbers (x ∷ xs) = length-append (to_le_bytes w32 x) (flat_map (λ n. to_le_bytes w32 n) xs) ∙ (let e = length_numbers xs in omega arith)

flat_more : (xs : List ℕ) (y : ℕ) → flat_map (λ n. to_le_bytes w32 n) (xs ++ y ∷ []) ≡ flat_map (λ n. to_le_bytes w32 n) xs ++ to_le_bytes w32 y
flat_more [] y = append-nil (to_le_bytes w32 y)
flat_more (x ∷ xs) y = ap (λ (l : List ℕ). to_le_bytes w32 x ++ l) (flat_more xs y) ∙ sym (append_assoc (to_le_bytes w32 x) (flat_map (λ n. to_le_bytes w32 n) xs) (to_le_bytes w32 y))

-- one number more
pub number_more : (z numbers : List ℕ) (i : ℕ) → i < length numbers → 12 + 4 * length numbers ≤ length z
    → with_part (with_part z 12 (flat_map (λ n. to_le_bytes w32 n) (take i numbers))) (12 + 4 * i) (to_le_bytes w32 (get_or numbers i 0)) ≡ with_part z 12 (flat_map (λ n. to_le_bytes w32 n) (take (i + 1) numbers))
number_more z numbers i lt fits =
    let front = flat_map (λ n. to_le_bytes w32 n) (take i numbers) in
    let last = to_le_bytes w32 (get_or numbers i 0) in
    let long : length front ≡ 4 * i = length_numbers (take i numbers) ∙ ap (λ n. 4 * n) (length-take-le i numbers (omega arith)) in
    ap (λ n. with_part (with_part z 12 front) n last) (ap (λ n. 12 + n) (sym long))
    ∙ part_behind z front last 12 (omega (arith, long, lt, fits))
    ∙ ap (λ (l : List ℕ). with_part z 12 l) (sym (ap (λ (l : List ℕ). flat_map (λ n. to_le_bytes w32 n) l) (take_more numbers i 0 lt) ∙ flat_more (take i numbers) (get_or numbers i 0)))

pub part_none : (z : List ℕ) → z ≡ with_part z 12 []
part_none z = sym (ap (λ (l : List ℕ). l ++ drop 12 z) (append-nil (take 12 z)) ∙ take-append-drop 12 z)
