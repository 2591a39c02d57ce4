-- Which words labels show and books hold: those held before, or new ones.
use Rattle.std.specs.Prelude.{◌≡◌, ℕ, ◌+◌, ◌<◌, ◌≤◌, ◌==◌, cond, List, [], ◌∷◌, length, Option}
use Rattle.std.specs.declared.option.Option.TheVariants.{Some}
use Rattle.std.proofs.Common.{arith, refl, sym, ap, subst, inl, inr, ◌⊎◌}
use Rattle.ob_base.specs.declared.params.Params.{Params}
use Rattle.ob_base.specs.Repeats.{Has}
use Rattle.ob_ring.specs.FlatTable.{after_label, asks_for, shown_label}
use Rattle.ob_recover.specs.Life.{WordId, next_word, LabelFill, with_words, labels_of, book_after, book_written}
use Rattle.ob_recover.proofs.LabelLaws.{label_from, put_from, put_is, rebound_from}
use Rattle.ob_fresh.specs.Drawn.{AreNextPuts}

-- a word that a book holds
abbrev pub IsHeld : (ℕ → Option WordId) → WordId → Type 0
IsHeld book w = (k : ℕ) × (book k ≡ Some w)

-- a word of the same generation as this one, at its place or behind it
abbrev pub IsFrom : WordId → WordId → Type 0
IsFrom first w = (w.generation ≡ first.generation) × (first.place ≤ w.place)

from_next : (first w : WordId) → IsFrom (next_word first) w → IsFrom first w
from_next first w h = (h.0, (let x : first.place + 1 ≤ w.place = h.1 in omega arith))

from_itself : (first w : WordId) → first ≡ w → IsFrom first w
from_itself first w e = subst (λ (v : WordId). IsFrom first v) e (refl, omega arith)

held_label : (book : ℕ → Option WordId) (ask : Option ℕ) (own : WordId) (k : ℕ) (w : WordId) → after_label book ask own k ≡ Some w → IsHeld book w ⊎ IsFrom own w
held_label book ask own k w h = elim (rebound_from (asks_for ask k) own (book k) w h) [
  | inl new ↦ inr (from_itself own w new.1)
  | inr old ↦ inl (k, old.1)
]

shown_one : (book : ℕ → Option WordId) (ask : Option ℕ) (own : WordId) → IsHeld book (shown_label book ask own) ⊎ IsFrom own (shown_label book ask own)
shown_one book ask own = elim (label_from book ask own) [
  | inl same ↦ inr (from_itself own (shown_label book ask own) (sym same))
  | inr held ↦ inl (held.0, held.2)
]

pub words_of_labels : (e b i : ℕ) (book : ℕ → Option WordId) (first : WordId) (asks : List (Option ℕ)) (l : LabelFill) → Has (labels_of e b i book (with_words first asks)) l → IsHeld book l.word ⊎ IsFrom first l.word
words_of_labels e b i book first [] l h = absurd h
words_of_labels e b i book first (a ∷ asks) l (inl is) = subst (λ (m : LabelFill). IsHeld book m.word ⊎ IsFrom first m.word) is (shown_one book a first)
words_of_labels e b i book first (a ∷ asks) l (inr h) = elim (words_of_labels e b (i + 1) (after_label book a first) (next_word first) asks l h) [
  | inl held ↦ held_label book a first held.0 l.word held.1
  | inr new ↦ inr (from_next first l.word new)
]

pub words_of_book : (book : ℕ → Option WordId) (first : WordId) (asks : List (Option ℕ)) (k : ℕ) (w : WordId) → book_after book (with_words first asks) k ≡ Some w → IsHeld book w ⊎ IsFrom first w
words_of_book book first [] k w h = inl (k, h)
words_of_book book first (a ∷ asks) k w h = elim (words_of_book (after_label book a first) (next_word first) asks k w h) [
  | inl held ↦ held_label book a first held.0 w held.1
  | inr new ↦ inr (from_next first w new)
]

-- ---- writes

-- and before the word so many places on
abbrev pub IsAmong : WordId → ℕ → WordId → Type 0
IsAmong first n w = IsFrom first w × (w.place < first.place + n)

module _ (p : Params) (word_of : WordId → ℕ) where
  pub words_of_writes : (book : ℕ → Option WordId) (first : WordId) (ws : List (ℕ × Option WordId)) (k : ℕ) (w : WordId) → AreNextPuts first ws → book_written p word_of book ws k ≡ Some w → IsHeld book w ⊎ IsAmong first (length ws) w
  words_of_writes book first [] k w puts h = inl (k, h)
  words_of_writes book first (x ∷ ws) k w puts h = elim (words_of_writes (λ i. cond (i == x.0) x.1 (book i)) (next_word first) ws k w puts.1 h) [
    | inl held ↦ elim (put_from (held.0 == x.0) x.1 (book held.0) w held.1) [
      | inl put ↦ (
          let same : first ≡ w = sym (put_is x.1 first w puts.0 put.1) in
          inr (from_itself first w same, (let at : first.place ≡ w.place = ap (λ (v : WordId). v.place) same in omega arith)))
      | inr old ↦ inl (held.0, old.1)
    ]
    | inr new ↦ inr (from_next first w new.0, (let at : w.place < (first.place + 1) + length ws = new.1 in omega arith))
  ]
