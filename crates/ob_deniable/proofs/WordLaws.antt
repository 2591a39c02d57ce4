-- The exchange over words.
use Rattle.std.specs.Prelude.{◌≡◌, ℕ, ◌<◌, ◌≤◌, List, length, slice_index}
use Rattle.std.proofs.Common.{sym, ap, subst, ◌∙◌, inl, inr, arith}
use Rattle.std.proofs.lemmas.Bool.{cases_lt}
use Rattle.std.proofs.lemmas.List.{get_or_past}
use Rattle.std.proofs.lemmas.List.FromFn.{length-map-range_with_len, get_or-map-range_with_len}
use Rattle.ob_base.specs.declared.params.Params.{Params}
use Rattle.ob_tables.specs.Rank.{ranks_of}
use Rattle.ob_recover.specs.Life.{WordId}
use Rattle.ob_deniable.specs.Moved.{PermutesBelow, AreMoved}
use Rattle.ob_deniable.specs.Works.{LifeWork, VersionSlots, IsLifeOf, seen_of_work, words_moved, slots_moved, Exchange}
use Rattle.ob_deniable.specs.Words.{SlotWords, AreUntied, slots_of_words, slot_words_moved, WordsExchange}
use Rattle.ob_deniable.proofs.RankLaws.{long_ranks, rankings_move}

module _ (p : Params) (one other : List LifeWork) (a : Exchange p one other) (word_of : WordId → ℕ) (words : SlotWords) (h : AreUntied p words) where
  abbrev back : ℕ → ℕ → ℕ → ℕ
  back = a.indexes_back word_of

  abbrev moved : SlotWords
  moved = slot_words_moved back words

  permutes : (v u : ℕ) → PermutesBelow (length (words v u)) (a.indexes word_of v u) (back v u)
  permutes v u = subst (λ (n : ℕ). PermutesBelow n (a.indexes word_of v u) (back v u)) (sym (h.many v u)) (a.indexes_within word_of v u)

  along : (v u : ℕ) → AreMoved (back v u) (words v u) (moved v u)
  along v u = (
    length-map-range_with_len (λ j. slice_index (words v u) (back v u j)) 0 (length (words v u)),
    λ j k. get_or-map-range_with_len (λ j. slice_index (words v u) (back v u j)) 0 (length (words v u)) j j 0 k (omega arith),
  )

  -- past the last index nothing stands, and nothing is led there
  past : (v u j : ℕ) → length (words v u) ≤ j → length (words v u) ≤ back v u j
  past v u j k = elim (cases_lt (back v u j) (length (words v u))) [
    | inl low ↦ absurd (
        let at : a.indexes word_of v u (back v u j) < length (words v u) = (permutes v u).to_within (back v u j) low in
        let same : a.indexes word_of v u (back v u j) ≡ j = (a.indexes_undo word_of v u).back j in
        omega arith)
    | inr high ↦ high
  ]

  slot_same : (v u j : ℕ) → slots_of_words moved v u j ≡ slots_moved back (slots_of_words words) v u j
  slot_same v u j =
      let law = rankings_move (words v u) (moved v u) (a.indexes word_of v u) (back v u) (permutes v u) (h.no_tie v u) (along v u) in
      let long : length (ranks_of (words v u)) ≡ length (words v u) = long_ranks (words v u) in
      let long' : length (ranks_of (moved v u)) ≡ length (moved v u) = long_ranks (moved v u) in
      let many : length (moved v u) ≡ length (words v u) = (along v u).0 in
      elim (cases_lt j (length (words v u))) [
        | inl low ↦ law.1.1 j (omega arith)
        | inr high ↦ (
            let far : length (words v u) ≤ back v u j = past v u j high in
            get_or_past (ranks_of (moved v u)) j 0 (omega arith) ∙ sym (get_or_past (ranks_of (words v u)) (back v u j) 0 (omega arith)))
      ]

  slots_same : slots_of_words moved ≡ slots_moved back (slots_of_words words)
  slots_same i v u j = slot_same v u j i

  untied : AreUntied p moved
  untied = record {
    many = λ v u. (along v u).0 ∙ h.many v u;
    no_tie = λ v u. (rankings_move (words v u) (moved v u) (a.indexes word_of v u) (back v u) (permutes v u) (h.no_tie v u) (along v u)).0;
  }

pub words_exchange : WordsExchange
words_exchange p one other a word_of words h life =
    let same : slots_of_words (slot_words_moved (a.indexes_back word_of) words) ≡ slots_moved (a.indexes_back word_of) (slots_of_words words) = slots_same p one other a word_of words h in
    record {
      untied = untied p one other a word_of words h;
      lives = subst (λ (s : VersionSlots). IsLifeOf p (words_moved a.ids_back word_of) s other) (sym same) (a.lives word_of (slots_of_words words) life);
      same = a.same word_of (slots_of_words words) life ∙ ap (λ (s : VersionSlots). seen_of_work p (words_moved a.ids_back word_of) s other) (sym same);
    }
