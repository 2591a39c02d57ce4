-- The pad of a sealed cell: words of one stream of ChaCha20, each low byte first.
use Rattle.std.specs.Prelude.{ℕ, ◌*◌, ◌%◌, ◌^◌, List, [], ◌∷◌, bit_xor}
use Rattle.std.specs.List.{flat_map, range_with_len}
use Rattle.std.specs.Int.{w32, to_le_bytes}
use Rattle.rand_chacha.specs.ChaCha.{ChaCha, word_at, key_of}

-- the bytes of a word of a stream, which repeats after 2 ^ 68 words
abbrev pub word_bytes_at : List ℕ → ℕ → ℕ → List ℕ
word_bytes_at key stream place = to_le_bytes w32 (word_at 10 key stream (place % 2 ^ 68))

-- the bytes of so many words of a stream, from a place on
unfoldable pub words_from : List ℕ → ℕ → ℕ → ℕ → List ℕ
words_from key stream place count = flat_map (word_bytes_at key stream) (range_with_len place count)

-- the first place of the pad of a seal number
abbrev pub pad_place : ℕ → ℕ
pad_place number = 24 * number

-- the pad of a seal number of a generation: the words at places 24n to 24n + 23 of that stream
abbrev pub pad_of : List ℕ → ℕ → ℕ → List ℕ
pad_of seal_key generation number = words_from (key_of seal_key) generation (pad_place number) 24

-- a generator whose next words are the pad of a seal number of a generation
abbrev pub before_pad : List ℕ → ℕ → ℕ → ChaCha
before_pad seal_key generation number = record { key = key_of seal_key; stream = generation; word_pos = pad_place number % 2 ^ 68 }

-- the first list changed by the second, as far as both go
abbrev pub xored : List ℕ → List ℕ → List ℕ
xored [] ys = []
xored (x ∷ xs) [] = x ∷ xs
xored (x ∷ xs) (y ∷ ys) = bit_xor x y ∷ xored xs ys
