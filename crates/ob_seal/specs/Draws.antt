-- What a tape gives: the words at its places, and the list of those drawn.
use Rattle.std.specs.Prelude.{ℕ, ◌+◌, ◌*◌, ◌^◌, List, map, slice_index}
use Rattle.std.specs.List.{range_with_len}
use Rattle.rand_chacha.specs.ChaCha.{word_at}

-- a tape over a list: its words, the generation in force, and how many words of it are drawn
pub record ListPlace : Type 0 where
  pub words : List ℕ
  pub generation : ℕ
  pub place : ℕ

-- a tape over ChaCha20: its key as eight words, the generation in force, and how many words of it are drawn
pub record StreamPlace : Type 0 where
  pub key : List ℕ
  pub generation : ℕ
  pub place : ℕ

-- the word at a place of a list, with zeros behind its end
abbrev pub list_word : List ℕ → ℕ → ℕ
list_word words i = slice_index words i

-- the word at place i of a generation: the pair i of the words of that stream of ChaCha20, low half first
abbrev pub stream_word : List ℕ → ℕ → ℕ → ℕ
stream_word key generation i = word_at 10 key generation (2 * i) + word_at 10 key generation (2 * i + 1) * 2 ^ 32

-- the words at the first n places
abbrev pub first_words : (ℕ → ℕ) → ℕ → List ℕ
first_words word n = map word (range_with_len 0 n)

-- the words drawn so far
abbrev pub list_drawn : ListPlace → List ℕ
list_drawn t = first_words (list_word t.words) t.place

abbrev pub stream_drawn : StreamPlace → List ℕ
stream_drawn t = first_words (stream_word t.key t.generation) t.place
