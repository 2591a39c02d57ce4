-- Works on the small store, computed: lives, their exchange, and why no premise can go.
use Rattle.std.specs.Prelude.{◌≡◌, ℕ, ◌<◌, [], ◌∷◌, map, length, slice_index}
use Rattle.std.proofs.Common.{refl, ap, ◌∙◌, arith}
use Rattle.ob_ring.proofs.Rows.{p0}
use Rattle.ob_recover.specs.Life.{WordId, LabelFill, leaf_of_word}
use Rattle.ob_deniable.specs.Works.{VersionSlots, own_slots, SameShape, AreWritesDrawn, IsLifeOf, labels_in, seen_of_work, slots_moved, words_moved, Exchange}
use Rattle.ob_deniable.specs.Samples.{word, asking, padding, asking_again, padding_again, stray, ended_once, begun_again, tape, leaves_among, places_in, all_of, Sampled}
use Rattle.ob_deniable.proofs.Swaps.{all_swapped, exchanged}
use Rattle.ob_deniable.proofs.Ids.{own_ranked, same_word, word_pairs}
use Rattle.ob_deniable.proofs.Exchanging.{words_of, indexes_back_of, exchange, exchange_ids, exchange_ids_back}

some_dummies : 0 < 3
some_dummies = omega arith

-- ---- key 5 beside pads, with a crash and a repeat

shape : SameShape asking padding
shape = ((refl, refl), (tt, ((refl, refl), (tt, (tt, (refl, ((refl, refl), (tt, (refl, (tt, ((refl, refl), (tt, (tt, (refl, tt))))))))))))))

drawn : AreWritesDrawn p0 1 0 asking
drawn = ((word 1 4, refl, refl, omega arith, omega arith), (omega arith, tt))

pads_drawn : AreWritesDrawn p0 1 0 padding
pads_drawn = (omega arith, (omega arith, tt))

-- it is a life, whatever the words are
asking_lives : (w : WordId → ℕ) → IsLifeOf p0 w own_slots asking
asking_lives w = (
  (omega arith, refl, omega arith),
  (
    omega arith,
    (
      (omega arith, refl, omega arith),
      (
        omega arith,
        (
          (refl, refl),
          (
            (refl, refl, (word 1 4, refl, refl, omega arith, omega arith), λ u h. own_ranked p0 1 u),
            ((omega arith, refl, omega arith), (omega arith, (omega arith, (omega arith, ((omega arith, refl, omega arith), (omega arith, ((refl, refl), ((refl, refl, omega arith, λ u h. own_ranked p0 2 u), tt)))))))),
          ),
        ),
      ),
    ),
  ),
)

padding_lives : (w : WordId → ℕ) → IsLifeOf p0 w own_slots padding
padding_lives w = (
  (omega arith, refl, omega arith),
  (
    omega arith,
    (
      (omega arith, refl, omega arith),
      (
        omega arith,
        (
          (refl, refl),
          (
            (refl, refl, omega arith, λ u h. own_ranked p0 1 u),
            ((omega arith, refl, omega arith), (omega arith, (omega arith, (omega arith, ((omega arith, refl, omega arith), (omega arith, ((refl, refl), ((refl, refl, omega arith, λ u h. own_ranked p0 2 u), tt)))))))),
          ),
        ),
      ),
    ),
  ),
)

leaves : leaves_among (all_of (seen_of_work p0 tape own_slots asking)) ≡ 2 ∷ 1 ∷ 0 ∷ 3 ∷ 2 ∷ 0 ∷ 2 ∷ 0 ∷ 0 ∷ 1 ∷ []
leaves = refl

others : leaves_among (all_of (seen_of_work p0 tape own_slots padding)) ≡ 2 ∷ 1 ∷ 0 ∷ 3 ∷ 1 ∷ 0 ∷ 1 ∷ 0 ∷ 0 ∷ 3 ∷ []
others = refl

-- exchanged, the very same is seen: computed, not by the law
same : seen_of_work p0 tape own_slots asking ≡ seen_of_work p0 (words_of p0 asking padding tape) (slots_moved (indexes_back_of p0 asking padding tape) own_slots) padding
same = refl

abbrev worked : Exchange p0 asking padding
worked = exchange p0 some_dummies asking padding shape drawn pads_drawn

worked_ids : (w : WordId) → worked.ids w ≡ exchanged same_word (word_pairs p0 asking padding) w
worked_ids w = exchange_ids p0 some_dummies asking padding shape drawn pads_drawn w

tapes_differ : seen_of_work p0 tape own_slots asking ≡ seen_of_work p0 tape own_slots padding → ⊥
tapes_differ h =
    let fifth : ◌≡◌ {A = ℕ} 2 1 = ap (λ seen. slice_index (leaves_among (all_of seen)) 4) h in
    omega arith

-- where the one shows the key's own index 0, of the other a dummy is seen, 2
words_alone : seen_of_work p0 tape own_slots asking ≡ seen_of_work p0 (words_of p0 asking padding tape) own_slots padding → ⊥
words_alone h =
    let shown : ◌≡◌ {A = ℕ} 0 2 = ap (λ seen. slice_index (places_in (all_of seen)) 23) h in
    omega arith

indexes_move : seen_of_work p0 tape own_slots asking ≡ seen_of_work p0 (words_moved worked.ids_back tape) own_slots padding → ⊥
indexes_move h = words_alone (h ∙ ap (λ back. seen_of_work p0 (words_moved back tape) own_slots padding) (exchange_ids_back p0 some_dummies asking padding shape drawn pads_drawn))

-- the transpositions of the pairs as they stand move a repeat's word twice: 2 should be seen of the fifth hole
plain_leaves : map (λ (l : LabelFill). leaf_of_word p0 (words_moved (all_swapped same_word (word_pairs p0 asking padding)) tape) l.word) (labels_in p0 padding) ≡ 2 ∷ 1 ∷ 0 ∷ 3 ∷ 3 ∷ 0 ∷ 3 ∷ 0 ∷ 0 ∷ 1 ∷ []
plain_leaves = refl

-- ---- a lost record

shape_again : SameShape asking_again padding_again
shape_again = ((refl, refl), (tt, ((refl, refl), (tt, (tt, (refl, (refl, ((refl, refl), (tt, ((refl, refl), (tt, (tt, (refl, tt)))))))))))))

drawn_again : AreWritesDrawn p0 1 0 asking_again
drawn_again = ((word 1 4, refl, refl, omega arith, omega arith), (omega arith, tt))

pads_drawn_again : AreWritesDrawn p0 1 0 padding_again
pads_drawn_again = (omega arith, (omega arith, tt))

asking_again_lives : (w : WordId → ℕ) → IsLifeOf p0 w own_slots asking_again
asking_again_lives w = (
  (omega arith, refl, omega arith),
  (
    omega arith,
    (
      (omega arith, refl, omega arith),
      (
        omega arith,
        (
          (refl, refl),
          (
            (refl, refl, (word 1 4, refl, refl, omega arith, omega arith), λ u h. own_ranked p0 1 u),
            (omega arith, ((omega arith, refl, omega arith), (omega arith, ((omega arith, refl, omega arith), (omega arith, ((refl, refl), ((refl, refl, omega arith, λ u h. own_ranked p0 2 u), tt))))))),
          ),
        ),
      ),
    ),
  ),
)

same_again : seen_of_work p0 tape own_slots asking_again ≡ seen_of_work p0 (words_of p0 asking_again padding_again tape) (slots_moved (indexes_back_of p0 asking_again padding_again tape) own_slots) padding_again
same_again = refl

abbrev behind_loss : Exchange p0 asking_again padding_again
behind_loss = exchange p0 some_dummies asking_again padding_again shape_again drawn_again pads_drawn_again

lost_ids : (w : WordId) → behind_loss.ids w ≡ exchanged same_word (word_pairs p0 asking_again padding_again) w
lost_ids w = exchange_ids p0 some_dummies asking_again padding_again shape_again drawn_again pads_drawn_again w

-- ---- no exchange

stray_shape : SameShape asking stray
stray_shape = ((refl, refl), (tt, ((refl, refl), (tt, (tt, (refl, ((refl, refl), (tt, (refl, (tt, ((refl, refl), (tt, (tt, (refl, tt))))))))))))))

stray_lives_not : (w : WordId → ℕ) (slots : VersionSlots) → IsLifeOf p0 w slots stray → ⊥
stray_lives_not w slots life =
    let end = life.1.1.1.1.1.0 in
    let put = end.2 in
    let nine : ◌≡◌ {A = ℕ} 9 put.0.generation = ap (λ (x : WordId). x.generation) put.1 in
    let first : ◌≡◌ {A = ℕ} put.0.generation 1 = put.2 in
    omega arith

draws_are_needed : Exchange p0 asking stray → ⊥
draws_are_needed e = stray_lives_not (words_moved e.ids_back tape) (slots_moved (e.indexes_back tape) own_slots) (e.lives tape own_slots (asking_lives tape))

ended_once_lives : IsLifeOf p0 tape own_slots ended_once
ended_once_lives = ((omega arith, refl, omega arith), (omega arith, ((omega arith, refl, omega arith), (omega arith, ((refl, refl), ((refl, refl, omega arith, λ u h. own_ranked p0 1 u), tt))))))

shape_is_needed : Exchange p0 ended_once begun_again → ⊥
shape_is_needed e =
    let many : ◌≡◌ {A = ℕ} 6 8 = ap length (e.same tape own_slots ended_once_lives) in
    omega arith

pub sampled : Sampled
sampled = record {
  p = p0;
  numbers = refl;
  shape = shape;
  lives = λ w. (asking_lives w, padding_lives w);
  leaves = leaves;
  others = others;
  exchange = worked;
  kept = worked_ids (word 1 4);
  asked = worked_ids (word 1 5);
  asked_again = worked_ids (word 2 1);
  lost_lives = asking_again_lives;
  lost = (behind_loss, lost_ids (word 1 5), lost_ids (word 1 6));
  tapes_differ = tapes_differ;
  indexes_move = indexes_move;
  shape_is_needed = shape_is_needed;
  stray_shape = stray_shape;
  draws_are_needed = draws_are_needed;
}
