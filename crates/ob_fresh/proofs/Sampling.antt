-- Lives on the small store, computed.
use Rattle.std.specs.Prelude.{◌≡◌, ℕ, ◌<◌, List, [], ◌∷◌, ◌++◌, map}
use Rattle.std.proofs.Common.{zero, suc, arith, refl, ap, inl, inr}
use Rattle.ob_base.specs.Repeats.{Has}
use Rattle.ob_base.specs.Tree.{below, buckets}
use Rattle.ob_tables.specs.Rank.{IsRanking}
use Rattle.ob_ring.proofs.Rows.{p0}
use Rattle.ob_recover.specs.Life.{WordId, LabelFill, LifeAct, IsLife, formatted_life, life_labels, reached}
use Rattle.ob_recover.proofs.FreshLaws.{lives_are_fresh}
use Rattle.ob_fresh.specs.Drawn.{AreRanksFrom, AreWordsInTurn, LabelWord, SlotWord, WordFill, formatted_words, life_words}
use Rattle.ob_fresh.specs.Fresh.{WordsAreApart}
use Rattle.ob_fresh.specs.Samples.{Sampled, each_its_own, few_drawn, first_ids, second_ids, lift_ids, found_done, found_undone, id_at, ids_in, label_at, put_taken, shown_unlogged, slot_in, twice_crashed, words_taken, zero_words}

own_ranking : (n : ℕ) → IsRanking n (λ j. j)
own_ranking n = record { within = λ j h. h; apart = λ i j h k e. e; onto = λ s h. (s, h, refl) }

-- of equal words the index is the rank
own_ranks : (first : WordId) → AreRanksFrom p0 zero_words (λ j. j) first
own_ranks first zero low = refl
own_ranks first (suc zero) low = refl
own_ranks first (suc (suc zero)) low = refl
own_ranks first (suc (suc (suc zero))) low = refl
own_ranks first (suc (suc (suc (suc zero)))) low = refl
own_ranks first (suc (suc (suc (suc (suc j))))) low = absurd (omega arith)

done_life : IsLife p0 zero_words (formatted_life each_its_own) found_done
done_life = (
  omega arith,
  (
    (omega arith, refl, omega arith),
    (
      omega arith,
      (
        (omega arith, refl, omega arith),
        (
          omega arith,
          ((refl, refl), ((refl, refl, (id_at 2 4, refl, refl, omega arith, omega arith), λ u up. own_ranking 5), (omega arith, ((omega arith, refl, omega arith), (omega arith, tt))))),
        ),
      ),
    ),
  ),
)

done_turn : AreWordsInTurn p0 zero_words each_its_own found_done
done_turn = record {
  format = λ u low. own_ranks (id_at 0 0);
  behind = (tt, (refl, (tt, (refl, (tt, (tt, (record { few = omega arith; puts = (refl, tt); many = refl; ranks = λ u up. own_ranks (id_at 0 0) }, (tt, (refl, (tt, tt))))))))));
}

undone_life : IsLife p0 zero_words (formatted_life each_its_own) found_undone
undone_life = (
  omega arith,
  (
    (omega arith, refl, omega arith),
    (
      omega arith,
      (
        (omega arith, refl, omega arith),
        (omega arith, ((refl, refl), (omega arith, (omega arith, (omega arith, ((refl, refl), ((refl, refl, (id_at 3 0, refl, refl, omega arith, omega arith), λ u up. own_ranking 5), tt))))))),
      ),
    ),
  ),
)

undone_turn : AreWordsInTurn p0 zero_words each_its_own found_undone
undone_turn = record {
  format = λ u low. own_ranks (id_at 0 0);
  behind = (tt, (refl, (tt, (refl, (tt, (tt, (tt, (tt, (tt, (tt, (record { few = omega arith; puts = (refl, tt); many = refl; ranks = λ u up. own_ranks (id_at 0 0) }, tt)))))))))));
}

crashed_life : IsLife p0 zero_words (formatted_life each_its_own) twice_crashed
crashed_life = (
  omega arith,
  (
    (omega arith, refl, omega arith),
    (omega arith, (omega arith, (omega arith, (omega arith, ((omega arith, refl, omega arith), (omega arith, ((refl, refl), ((refl, refl, omega arith, λ u up. own_ranking 5), tt)))))))),
  ),
)

crashed_turn : AreWordsInTurn p0 zero_words each_its_own twice_crashed
crashed_turn = record {
  format = λ u low. own_ranks (id_at 0 0);
  behind = (tt, (refl, (tt, (tt, (tt, (tt, (refl, (tt, (tt, (record { few = omega arith; puts = tt; many = refl; ranks = λ u up. own_ranks (id_at 0 0) }, tt))))))))));
}

done_ids : ids_in (life_words p0 zero_words (formatted_life each_its_own) (formatted_words p0) found_done)
    ≡ first_ids ++ second_ids ++ lift_ids ++ (2, 4) ∷ (3, 1) ∷ (2, 28) ∷ (2, 18) ∷ (2, 6) ∷ (2, 29) ∷ (2, 19) ∷ (2, 8) ∷ []
done_ids = refl

undone_ids : ids_in (life_words p0 zero_words (formatted_life each_its_own) (formatted_words p0) found_undone) ≡ (first_ids ++ second_ids ++ lift_ids) ++ first_ids ++ second_ids ++ lift_ids
undone_ids = refl

-- ---- refuted

repeat_by_new : (acts : List LifeAct) → IsLife p0 zero_words (formatted_life each_its_own) acts →
    Has (life_labels p0 zero_words (formatted_life each_its_own) acts) (label_at 1 0 0 (id_at 2 0)) → Has (life_labels p0 zero_words (formatted_life each_its_own) acts) (label_at 1 0 0 (id_at 3 0)) → ⊥
repeat_by_new acts life h g =
    let one = (lives_are_fresh p0 zero_words each_its_own acts (omega arith) (λ u. own_ranking 5) life).labels_again (label_at 1 0 0 (id_at 2 0)) (label_at 1 0 0 (id_at 3 0)) h g refl refl refl in
    let same : ◌≡◌ {A = ℕ} 2 3 = ap (λ (l : LabelFill). l.word.generation) one in
    omega arith

unlogged : IsLife p0 zero_words (formatted_life each_its_own) shown_unlogged → ⊥
unlogged life = let low : 0 < 0 = life.1.0 in omega arith

abbrev bucket_of_fill : WordFill → ℕ
bucket_of_fill (LabelWord l) = 9
bucket_of_fill (SlotWord f word) = f.bucket

one_first : WordsAreApart p0 zero_words (SlotWord (slot_in 0) (id_at 1 2) ∷ SlotWord (slot_in 1) (id_at 1 2) ∷ []) → ⊥
one_first words =
    let one = words.apart (SlotWord (slot_in 0) (id_at 1 2)) (SlotWord (slot_in 1) (id_at 1 2)) (inl refl) (inr (inl refl)) refl in
    let same : ◌≡◌ {A = ℕ} 0 1 = ap bucket_of_fill one in
    omega arith

not_drawn : AreWordsInTurn p0 zero_words each_its_own few_drawn → ⊥
not_drawn turn =
    let many : ◌≡◌ {A = ℕ} 26 31 = turn.behind.1.1.1.1.1.1.0.many in
    omega arith

taken_life : IsLife p0 zero_words (formatted_life each_its_own) words_taken
taken_life = ((omega arith, refl, omega arith), (omega arith, tt))

taken_twice : WordsAreApart p0 zero_words (life_words p0 zero_words (formatted_life each_its_own) (formatted_words p0) words_taken) → ⊥
taken_twice words =
    let one = words.apart (LabelWord (label_at 1 0 0 (id_at 1 2))) (SlotWord (slot_in 0) (id_at 1 2)) (inl refl) (inr (inr (inl refl))) refl in
    let same : ◌≡◌ {A = ℕ} 9 0 = ap bucket_of_fill one in
    omega arith

taken_out_of_turn : AreWordsInTurn p0 zero_words each_its_own words_taken → ⊥
unfolding buckets
taken_out_of_turn turn =
    let place : ◌≡◌ {A = ℕ} 2 35 = ap (λ (w : WordId). w.place) turn.behind.0 in
    omega arith

put_life : IsLife p0 zero_words (formatted_life each_its_own) put_taken
put_life = (
  omega arith,
  (
    (omega arith, refl, omega arith),
    (
      omega arith,
      ((omega arith, refl, omega arith), (omega arith, ((refl, refl), ((refl, refl, (id_at 2 6, refl, refl, omega arith, omega arith), λ u up. own_ranking 5), tt)))),
    ),
  ),
)

put_out_of_turn : AreWordsInTurn p0 zero_words each_its_own put_taken → ⊥
put_out_of_turn turn =
    let place : ◌≡◌ {A = ℕ} 6 4 = ap (λ (w : WordId). w.place) turn.behind.1.1.1.1.1.1.0.puts.0 in
    omega arith

homes : map ((reached p0 zero_words (formatted_life each_its_own) found_done).content.home) (below 7) ≡ 1 ∷ 1 ∷ 1 ∷ 1 ∷ 0 ∷ 1 ∷ 0 ∷ []
homes = refl

home_left : (reached p0 zero_words (formatted_life each_its_own) found_done).content.home 3 ≡ 0 → ⊥
home_left e = let turned : ◌≡◌ {A = ℕ} 1 0 = e in omega arith

pub sampled : Sampled
sampled = record {
  p = p0;
  numbers = refl;
  done = (done_life, done_turn);
  undone = (undone_life, undone_turn);
  crashed = (crashed_life, crashed_turn);
  done_ids = done_ids;
  undone_ids = undone_ids;
  repeat_by_new = repeat_by_new;
  unlogged = unlogged;
  one_first = one_first;
  not_drawn = not_drawn;
  taken_life = taken_life;
  taken_twice = taken_twice;
  taken_out_of_turn = taken_out_of_turn;
  put_life = put_life;
  put_out_of_turn = put_out_of_turn;
  homes = homes;
  home_left = home_left;
}
