-- Works on the small store, with what is seen of them; and what the laws don't say, each with works that show why.
use Rattle.std.specs.Prelude.{◌≡◌, ℕ, ◌+◌, ◌*◌, List, [], ◌∷◌, ◌++◌, Option, None, Some}
use Rattle.ob_base.specs.declared.params.Params.{Params}
use Rattle.ob_stand.specs.ValueSamples.{numbers_of}
use Rattle.ob_recover.specs.Life.{WordId}
use Rattle.ob_deniable.specs.Works.{LifeWork, Opens, Logs, Shows, Lifts, Ends, own_slots, SameShape, SeenHole, Leaf, Place, IsLifeOf, seen_of_work, words_moved, Exchange}

abbrev pub word : ℕ → ℕ → WordId
word g n = record { generation = g; place = n }

abbrev pub two_pads : List (Option ℕ)
two_pads = None ∷ None ∷ []

abbrev pub key_first : List (Option ℕ)
key_first = Some 5 ∷ None ∷ []

abbrev pub key_second : List (Option ℕ)
key_second = None ∷ Some 5 ∷ []

-- two batches of pads, the lifts, and an end with these writes
abbrev pub first_epoch : List (ℕ × Option WordId) → List LifeWork
first_epoch writes = Logs two_pads (word 1 0) ∷ Shows ∷ Logs two_pads (word 1 2) ∷ Shows ∷ Lifts ∷ Ends writes 5 ∷ []

-- key 5 is put, under the word behind those of the pads
abbrev pub put_five : List (ℕ × Option WordId)
put_five = (5, Some (word 1 4)) ∷ []

-- two batches, with a crash behind the first, which is repeated
abbrev pub crashed_epoch : List (Option ℕ) → List (Option ℕ) → List LifeWork
crashed_epoch asks others = Logs asks (word 1 5) ∷ Shows ∷ Opens 2 ∷ Shows ∷ Logs others (word 2 0) ∷ Shows ∷ Lifts ∷ Ends [] 2 ∷ []

-- two batches behind a crash that lost a record: the words 5 and 6 were drawn for it
abbrev pub lost_epoch : List (Option ℕ) → List (Option ℕ) → List LifeWork
lost_epoch asks others = Opens 2 ∷ Logs asks (word 2 0) ∷ Shows ∷ Logs others (word 2 2) ∷ Shows ∷ Lifts ∷ Ends [] 4 ∷ []

-- key 5 is put and asked for in each batch behind; beside it pads alone
abbrev pub asking : List LifeWork
asking = first_epoch put_five ++ crashed_epoch key_first key_second

abbrev pub padding : List LifeWork
padding = first_epoch [] ++ crashed_epoch two_pads two_pads

-- the same with a lost record
abbrev pub asking_again : List LifeWork
asking_again = first_epoch put_five ++ lost_epoch key_first key_second

abbrev pub padding_again : List LifeWork
padding_again = first_epoch [] ++ lost_epoch two_pads two_pads

-- a put of a word that no run drew
abbrev pub stray : List LifeWork
stray = first_epoch ((5, Some (word 9 0)) ∷ []) ++ crashed_epoch two_pads two_pads

-- no batch in the second epoch, and one
abbrev pub ended_once : List LifeWork
ended_once = first_epoch []

abbrev pub begun_again : List LifeWork
begun_again = first_epoch [] ++ Logs two_pads (word 1 5) ∷ Shows ∷ []

abbrev pub tape : WordId → ℕ
tape w = w.generation * 6 + w.place * 7

-- the leaves, and the places of slots, in what is seen
abbrev pub leaves_among : List SeenHole → List ℕ
leaves_among [] = []
leaves_among (Leaf leaf ∷ rest) = leaf ∷ leaves_among rest
leaves_among (Place u v slot ∷ rest) = leaves_among rest

abbrev pub places_in : List SeenHole → List ℕ
places_in [] = []
places_in (Leaf leaf ∷ rest) = places_in rest
places_in (Place u v slot ∷ rest) = slot ∷ places_in rest

abbrev pub all_of : List (List SeenHole) → List SeenHole
all_of [] = []
all_of (holes ∷ rest) = holes ++ all_of rest

pub record Sampled : Type 0 where
  pub p : Params
  pub numbers : numbers_of p ≡ 8 ∷ 2 ∷ 2 ∷ 3 ∷ 2 ∷ 2 ∷ 2 ∷ 2 ∷ 8 ∷ []
  -- two lives of one shape, whatever the words are; on one tape other leaves are seen of them
  pub shape : SameShape asking padding
  pub lives : (word_of : WordId → ℕ) → IsLifeOf p word_of own_slots asking × IsLifeOf p word_of own_slots padding
  pub leaves : leaves_among (all_of (seen_of_work p tape own_slots asking)) ≡ 2 ∷ 1 ∷ 0 ∷ 3 ∷ 2 ∷ 0 ∷ 2 ∷ 0 ∷ 0 ∷ 1 ∷ []
  pub others : leaves_among (all_of (seen_of_work p tape own_slots padding)) ≡ 2 ∷ 1 ∷ 0 ∷ 3 ∷ 1 ∷ 0 ∷ 1 ∷ 0 ∷ 0 ∷ 3 ∷ []
  -- exchanged, the word that the key kept goes where the first pad's stood, that one where the next pad's did, and so round
  pub exchange : Exchange p asking padding
  pub kept : exchange.ids (word 1 4) ≡ word 1 5
  pub asked : exchange.ids (word 1 5) ≡ word 2 1
  pub asked_again : exchange.ids (word 2 1) ≡ word 1 4
  -- where a record was lost, the words that were drawn for it stay
  pub lost_lives : (word_of : WordId → ℕ) → IsLifeOf p word_of own_slots asking_again
  pub lost : (behind : Exchange p asking_again padding_again) × (behind.ids (word 1 5) ≡ word 1 5) × (behind.ids (word 1 6) ≡ word 1 6)
  -- one tape for both is wrong, and so are words that move without their indexes
  pub tapes_differ : seen_of_work p tape own_slots asking ≡ seen_of_work p tape own_slots padding → ⊥
  pub indexes_move : seen_of_work p tape own_slots asking ≡ seen_of_work p (words_moved exchange.ids_back tape) own_slots padding → ⊥
  -- of one batch more there is no exchange, nor of a put whose word no run drew, though the shape is the same
  pub shape_is_needed : Exchange p ended_once begun_again → ⊥
  pub stray_shape : SameShape asking stray
  pub draws_are_needed : Exchange p asking stray → ⊥
