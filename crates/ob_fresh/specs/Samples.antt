-- Lives on the small store, with the words that they show; and rows of acts that are none, or show a word twice.
use Rattle.std.specs.Prelude.{◌≡◌, ℕ, List, [], ◌∷◌, ◌++◌, map, Option, None, Some}
use Rattle.ob_base.specs.Repeats.{Has}
use Rattle.ob_base.specs.Tree.{below}
use Rattle.ob_base.specs.declared.params.Params.{Params}
use Rattle.ob_stand.specs.ValueSamples.{numbers_of}
use Rattle.ob_recover.specs.Life.{WordId, LifeBatch, LifeAct, Open, Append, ShowBatch, ShowLifts, End, LabelFill, SlotFill, IsLife, formatted_life, life_labels, reached}
use Rattle.ob_fresh.specs.Drawn.{WordFill, SlotWord, AreWordsInTurn, formatted_words, id_shown, life_words}
use Rattle.ob_fresh.specs.Fresh.{WordsAreApart}

abbrev pub id_at : ℕ → ℕ → WordId
id_at g n = record { generation = g; place = n }

-- all words are 0, so each index lies in its own slot
abbrev pub zero_words : WordId → ℕ
zero_words w = 0

abbrev pub each_its_own : ℕ → ℕ → ℕ
each_its_own u j = j

-- a record of two places whose first word is this: of pads, and of key 5 and a pad
abbrev pub two_pads_from : WordId → LifeBatch
two_pads_from w = record { asks = None ∷ None ∷ []; first = w }

abbrev pub five_from : WordId → LifeBatch
five_from w = record { asks = Some 5 ∷ None ∷ []; first = w }

abbrev pub put_of_five : WordId → List (ℕ × Option WordId)
put_of_five w = (5, Some w) ∷ []

-- ---- lives

abbrev pub up_to_end : List LifeAct
up_to_end = Open 2 ∷ Append (two_pads_from (id_at 2 0)) ∷ ShowBatch ∷ Append (two_pads_from (id_at 2 2)) ∷ ShowBatch ∷ ShowLifts ∷ []

-- an end was in doubt, and the next opening found it done
abbrev pub found_done : List LifeAct
found_done = up_to_end ++ End (put_of_five (id_at 2 4)) 31 each_its_own ∷ Open 3 ∷ Append (five_from (id_at 3 0)) ∷ ShowBatch ∷ []

-- it was found not done: all is shown again, and ended by words of the next run
abbrev pub found_undone : List LifeAct
found_undone = up_to_end ++ Open 3 ∷ ShowBatch ∷ ShowBatch ∷ ShowLifts ∷ End (put_of_five (id_at 3 0)) 27 each_its_own ∷ []

-- behind a crash the next opening crashes before it has shown the batch again, and the one behind it does so
abbrev pub twice_crashed : List LifeAct
twice_crashed = Open 2 ∷ Append (two_pads_from (id_at 2 0)) ∷ ShowBatch ∷ Open 3 ∷ Open 4 ∷ ShowBatch ∷ Append (five_from (id_at 4 0)) ∷ ShowBatch ∷ ShowLifts ∷ End [] 29 each_its_own ∷ []

-- ---- and none

abbrev pub shown_unlogged : List LifeAct
shown_unlogged = Open 2 ∷ ShowBatch ∷ []

-- behind a format a record takes words that buckets have
abbrev pub words_taken : List LifeAct
words_taken = Append (two_pads_from (id_at 1 2)) ∷ ShowBatch ∷ []

-- a put keeps a word that a bucket filled anew has
abbrev pub put_taken : List LifeAct
put_taken = up_to_end ++ End (put_of_five (id_at 2 6)) 31 each_its_own ∷ []

-- an end draws words for one bucket less than it fills anew
abbrev pub few_drawn : List LifeAct
few_drawn = up_to_end ++ End [] 26 each_its_own ∷ []

abbrev pub label_at : ℕ → ℕ → ℕ → WordId → LabelFill
label_at e b i w = record { epoch = e; batch = b; place = i; word = w }

abbrev pub slot_in : ℕ → SlotFill
slot_in u = record { epoch = 1; bucket = u; number = 0; version = 0; slot = 2 }

-- ---- what is shown

abbrev pub ids_in : List WordFill → List (ℕ × ℕ)
ids_in fills = map (λ x. ((id_shown x).generation, (id_shown x).place)) fills

-- the first batch, the second, which reads three buckets out, and the final lifts of two others
abbrev pub first_ids : List (ℕ × ℕ)
first_ids = (2, 0) ∷ (2, 1) ∷ (1, 2) ∷ (1, 7) ∷ (1, 17) ∷ (1, 3) ∷ (1, 8) ∷ (1, 18) ∷ []

abbrev pub second_ids : List (ℕ × ℕ)
second_ids = (2, 2) ∷ (2, 3) ∷ (1, 4) ∷ (1, 0) ∷ (1, 1) ∷ (1, 9) ∷ (1, 5) ∷ (1, 6) ∷ (1, 19) ∷ (1, 15) ∷ (1, 16) ∷ []

abbrev pub lift_ids : List (ℕ × ℕ)
lift_ids = (1, 10) ∷ (1, 11) ∷ (1, 25) ∷ (1, 26) ∷ []

pub record Sampled : Type 0 where
  pub p : Params
  pub numbers : numbers_of p ≡ 8 ∷ 2 ∷ 2 ∷ 3 ∷ 2 ∷ 2 ∷ 2 ∷ 2 ∷ 8 ∷ []
  pub done : IsLife p zero_words (formatted_life each_its_own) found_done × AreWordsInTurn p zero_words each_its_own found_done
  pub undone : IsLife p zero_words (formatted_life each_its_own) found_undone × AreWordsInTurn p zero_words each_its_own found_undone
  pub crashed : IsLife p zero_words (formatted_life each_its_own) twice_crashed × AreWordsInTurn p zero_words each_its_own twice_crashed
  -- buckets 3, 5, 1, 2, 0 have the words from 6, 11, 16, 21, 26 on; key 5 kept word 4, and lies at bucket 3's index 0
  pub done_ids : ids_in (life_words p zero_words (formatted_life each_its_own) (formatted_words p) found_done)
      ≡ first_ids ++ second_ids ++ lift_ids ++ (2, 4) ∷ (3, 1) ∷ (2, 28) ∷ (2, 18) ∷ (2, 6) ∷ (2, 29) ∷ (2, 19) ∷ (2, 8) ∷ []
  -- what is repeated shows the same words
  pub undone_ids : ids_in (life_words p zero_words (formatted_life each_its_own) (formatted_words p) found_undone) ≡ (first_ids ++ second_ids ++ lift_ids) ++ first_ids ++ second_ids ++ lift_ids
  -- so a repeat by new words is no life's
  pub repeat_by_new : (acts : List LifeAct) → IsLife p zero_words (formatted_life each_its_own) acts →
      Has (life_labels p zero_words (formatted_life each_its_own) acts) (label_at 1 0 0 (id_at 2 0)) → Has (life_labels p zero_words (formatted_life each_its_own) acts) (label_at 1 0 0 (id_at 3 0)) → ⊥
  -- nor is a batch that is shown before its record
  pub unlogged : IsLife p zero_words (formatted_life each_its_own) shown_unlogged → ⊥
  -- two buckets of one first word show it twice
  pub one_first : WordsAreApart p zero_words (SlotWord (slot_in 0) (id_at 1 2) ∷ SlotWord (slot_in 1) (id_at 1 2) ∷ []) → ⊥
  pub not_drawn : AreWordsInTurn p zero_words each_its_own few_drawn → ⊥
  -- a life whose words aren't drawn in turn may show a bucket's word as a label
  pub taken_life : IsLife p zero_words (formatted_life each_its_own) words_taken
  pub taken_twice : WordsAreApart p zero_words (life_words p zero_words (formatted_life each_its_own) (formatted_words p) words_taken) → ⊥
  pub taken_out_of_turn : AreWordsInTurn p zero_words each_its_own words_taken → ⊥
  pub put_life : IsLife p zero_words (formatted_life each_its_own) put_taken
  pub put_out_of_turn : AreWordsInTurn p zero_words each_its_own put_taken → ⊥
  -- an end turns the homes of the buckets that it lifts, and of no other: none of these stays
  pub homes : map ((reached p zero_words (formatted_life each_its_own) found_done).content.home) (below 7) ≡ 1 ∷ 1 ∷ 1 ∷ 1 ∷ 0 ∷ 1 ∷ 0 ∷ []
  pub home_left : (reached p zero_words (formatted_life each_its_own) found_done).content.home 3 ≡ 0 → ⊥
