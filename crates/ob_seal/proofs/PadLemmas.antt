-- The bytes that a generator fills in are the words of its stream, and pads lie apart.
use Rattle.std.proofs.Common.{◌≡◌, ℕ, zero, suc, ◌+◌, ◌*◌, ◌%◌, ◌^◌, ◌<◌, List, [], ◌∷◌, ◌++◌, length, arith, refl, sym, ap, ◌∙◌, length-append, get_or}
use Rattle.std.specs.Prelude.{bit_xor}
use Rattle.std.specs.Int.{w32, to_le_bytes}
use Rattle.std.specs.Int.Bits.{xor_self, xor_assoc, xor_zero_r}
use Rattle.std.specs.List.{flat_map, range_with_len}
use Rattle.std.proofs.lemmas.List.{append-nil}
use Rattle.std.proofs.lemmas.List.Concat.{flat_map-append}
use Rattle.rand_core.specs.Steps.{word_bytes}
use Rattle.rand_chacha.specs.ChaCha.{ChaCha, next_word}
use Rattle.ob_seal.specs.Pads.{word_bytes_at, words_from, pad_place, xored}

abbrev pub at_place : List ℕ → ℕ → ℕ → ChaCha
at_place key stream place = record { key = key; stream = stream; word_pos = place % 2 ^ 68 }

-- one number more
range_more : (a n : ℕ) → range_with_len a (suc n) ≡ range_with_len a n ++ (a + n) ∷ []
range_more a zero = let e : a + 0 ≡ a = omega arith in rw e refl
range_more a (suc n) =
    let e : a + 1 + n ≡ a + suc n = omega arith in
    ap (λ (xs : List ℕ). a ∷ xs) (range_more (a + 1) n ∙ ap (λ (x : ℕ). range_with_len (a + 1) n ++ x ∷ []) e)

-- one word more
words_more : (key : List ℕ) (stream place k : ℕ) → words_from key stream place (suc k) ≡ words_from key stream place k ++ word_bytes_at key stream (place + k)
unfolding words_from
words_more key stream place k =
    ap (flat_map (word_bytes_at key stream)) (range_more place k)
    ∙ flat_map-append (word_bytes_at key stream) (range_with_len place k) ((place + k) ∷ [])
    ∙ ap (λ (xs : List ℕ). flat_map (word_bytes_at key stream) (range_with_len place k) ++ xs) (append-nil (word_bytes_at key stream (place + k)))

-- a generator's next words are those of its stream, and leave it after them
pub word_bytes-chacha : (key : List ℕ) (stream place k : ℕ)
    → word_bytes (to_le_bytes w32) (next_word 10) k (at_place key stream place)
    ≡ (words_from key stream place k, at_place key stream (place + k))
unfolding word_bytes words_from
word_bytes-chacha key stream place zero = let e : place + 0 ≡ place = omega arith in rw e refl
word_bytes-chacha key stream place (suc k) =
    let before = word_bytes-chacha key stream place k in
    let next : ((place + k) % 2 ^ 68 + 1) % 2 ^ 68 ≡ (place + suc k) % 2 ^ 68 = omega arith in
    let more = words_more key stream place k in
    rw (more, before, next) refl

words_none : (key : List ℕ) (stream place : ℕ) → words_from key stream place 0 ≡ []
unfolding words_from
words_none key stream place = refl

pub length-words_from : (key : List ℕ) (stream place k : ℕ) → length (words_from key stream place k) ≡ 4 * k
length-words_from key stream place zero = ap length (words_none key stream place)
length-words_from key stream place (suc k) =
    let before = length-words_from key stream place k in
    let more = ap length (words_more key stream place k) ∙ length-append (words_from key stream place k) (word_bytes_at key stream (place + k)) in
    omega arith

-- pads that have a place of a stream in common are those of one identity
pub pads_apart : (g h m n i j : ℕ) → m < 2 ^ 62 → n < 2 ^ 62 → i < 24 → j < 24
    → ◌≡◌ {A = ℕ × ℕ} (g, (pad_place m + i) % 2 ^ 68) (h, (pad_place n + j) % 2 ^ 68)
    → ◌≡◌ {A = ℕ × ℕ} (g, m) (h, n)
pads_apart g h m n i j hm hn hi hj same =
    let stream : g ≡ h = ap (λ (p : ℕ × ℕ). p.0) same in
    let place : (24 * m + i) % 2 ^ 68 ≡ (24 * n + j) % 2 ^ 68 = ap (λ (p : ℕ × ℕ). p.1) same in
    let number : m ≡ n = omega arith in
    cc

-- ---- bytes changed by a pad

twice : (a k : ℕ) → bit_xor (bit_xor a k) k ≡ a
twice a k = xor_assoc a k k ∙ rw (xor_self k) (xor_zero_r a)

xor_back : (a b k : ℕ) → bit_xor a k ≡ bit_xor b k → a ≡ b
xor_back a b k e = sym (twice a k) ∙ ap (λ (x : ℕ). bit_xor x k) e ∙ twice b k

pub length-xored : (xs ks : List ℕ) → length (xored xs ks) ≡ length xs
length-xored [] ks = refl
length-xored (x ∷ xs) [] = refl
length-xored (x ∷ xs) (k ∷ ks) = ap suc (length-xored xs ks)

-- a byte of the changed ones
pub get_or-xored : (xs ks : List ℕ) (i : ℕ) → i < length xs → i < length ks → get_or (xored xs ks) i 0 ≡ bit_xor (get_or xs i 0) (get_or ks i 0)
get_or-xored [] ks i hx hk = absurd (omega arith)
get_or-xored (x ∷ xs) [] i hx hk = absurd (omega arith)
get_or-xored (x ∷ xs) (k ∷ ks) zero hx hk = refl
get_or-xored (x ∷ xs) (k ∷ ks) (suc i) hx hk = get_or-xored xs ks i (omega arith) (omega arith)

-- changed twice, the bytes are as before
pub xored_twice : (xs ks : List ℕ) → xored (xored xs ks) ks ≡ xs
xored_twice [] ks = refl
xored_twice (x ∷ xs) [] = refl
xored_twice (x ∷ xs) (k ∷ ks) =
    let head = twice x k in
    let tail = xored_twice xs ks in
    cc

-- bytes that a pad changes into the same ones are the same
pub xored_same : (xs ys ks : List ℕ) → xored xs ks ≡ xored ys ks → xs ≡ ys
xored_same xs ys ks e = sym (xored_twice xs ks) ∙ ap (λ (zs : List ℕ). xored zs ks) e ∙ xored_twice ys ks
