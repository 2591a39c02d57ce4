-- Works on the small store, computed.
use Rattle.std.specs.Prelude.{◌≡◌, ℕ, ◌+◌, ◌*◌, ◌<◌, nat_lt, List, [], ◌∷◌, ◌++◌, length, map, slice_index}
use Rattle.std.specs.List.{count_by, range_with_len}
use Rattle.std.proofs.Common.{zero, suc, arith, refl, sym, ap, ◌∙◌}
use Rattle.std.proofs.lemmas.Bool.Decides.{nat_tests}
use Rattle.std.proofs.lemmas.List.FromFn.{get_or-map-range_with_len}
use Rattle.ob_tables.specs.Rank.{comes_before}
use Rattle.ob_deniable.proofs.Counts.{count_same, range_has}
use Rattle.ob_ring.proofs.Rows.{p0}
use Rattle.ob_deniable.specs.Telling.{ActFills, LeafFill, fills_of_work}
use Rattle.ob_deniable.specs.Works.{SameShape, IsLifeOf, own_slots}
use Rattle.ob_deniable.proofs.Ids.{own_ranked}
use Rattle.ob_deniable_runs.specs.Samples.{Sampled, batch_more, bucket_put, first_shows, five_kept, pads_alone, rising, stray_put, word_at}
use Rattle.ob_deniable_runs.specs.Tapes.{ArePutsInTurn, CouldBeDone, IsDoneOn, IsUntied}
use Rattle.ob_deniable_runs.proofs.Denied.{tapes_exchange}
use Rattle.ob_fresh.specs.Drawn.{AreRanksFrom, formatted_words, version_words, words_on}
use Rattle.ob_recover.specs.Bridge.{slot_read_off}
use Rattle.ob_recover.specs.Life.{WordId}

-- ---- rising words

rising_untied : (first : WordId) → IsUntied p0 rising first
rising_untied first i j h k e =
    let many : length (version_words p0 rising first) ≡ 5 = refl in
    let at : first.generation * 101 + (first.place + i) ≡ slice_index (version_words p0 rising first) i = sym (get_or-map-range_with_len (λ j. rising (words_on first j)) 0 5 i i 0 (omega arith) (omega arith)) in
    let at' : slice_index (version_words p0 rising first) j ≡ first.generation * 101 + (first.place + j) = get_or-map-range_with_len (λ j. rising (words_on first j)) 0 5 j j 0 (omega arith) (omega arith) in
    let same : first.generation * 101 + (first.place + i) ≡ first.generation * 101 + (first.place + j) = at ∙ e ∙ at' in
    omega arith

before_rising : (a i j : ℕ) → comes_before (a + i) i (a + j) j ≡ nat_lt i j
before_rising a i j = grind (arith, nat_tests)

word_in : (first : WordId) (j : ℕ) → j < 5 → slice_index (version_words p0 rising first) j ≡ (first.generation * 101 + first.place) + j
word_in first j low = get_or-map-range_with_len (λ j. rising (words_on first j)) 0 5 j j 0 low (omega arith) ∙ (let sum : first.generation * 101 + (first.place + j) ≡ (first.generation * 101 + first.place) + j = omega arith in sum)

below_it : (j : ℕ) → j < 5 → j ≡ count_by (λ i. nat_lt i j) (range_with_len 0 5)
below_it zero low = refl
below_it (suc zero) low = refl
below_it (suc (suc zero)) low = refl
below_it (suc (suc (suc zero))) low = refl
below_it (suc (suc (suc (suc zero)))) low = refl
below_it (suc (suc (suc (suc (suc j))))) low = absurd (omega arith)

rising_ranks : (first : WordId) → AreRanksFrom p0 rising (λ j. j) first
rising_ranks first j low =
    below_it j low
    ∙ count_same (λ i. nat_lt i j) (λ i. comes_before (slice_index (version_words p0 rising first) i) i (slice_index (version_words p0 rising first) j) j) (range_with_len 0 5)
    (λ i h. (
    let in' = range_has 0 5 i h in
    let here : i < 5 = omega (arith, in'.1) in
    sym (before_rising (first.generation * 101 + first.place) i j) ∙ (λ t. comes_before (sym (word_in first i here) t) i (sym (word_in first j low) t) j)))

-- ---- a key beside pads

five_life : IsLifeOf p0 rising own_slots five_kept
five_life = (
  omega arith,
  (
    (omega arith, refl, omega arith),
    (
      omega arith,
      (
        (omega arith, refl, omega arith),
        (
          omega arith,
          ((refl, refl), ((refl, refl, (word_at 2 4, refl, refl, omega arith, omega arith), λ u up. own_ranked p0 1 u), (omega arith, ((omega arith, refl, omega arith), (omega arith, tt))))),
        ),
      ),
    ),
  ),
)

five_done : IsDoneOn p0 rising own_slots five_kept
five_done = record {
  ranked = λ u. own_ranked p0 0 u;
  is_life = five_life;
  turn = record {
    format = λ u low. rising_ranks ((formatted_words p0).first u);
    behind = (tt, (refl, (tt, (refl, (tt, (tt, (record { few = omega arith; puts = (refl, tt); many = refl; ranks = λ u up. rising_ranks _ }, (tt, (refl, (tt, tt))))))))));
  };
  untied = record { format = λ u low. rising_untied ((formatted_words p0).first u); ends = (λ u up. rising_untied _, tt) };
}

shape : SameShape five_kept pads_alone
shape = (refl, ((refl, refl), (tt, ((refl, refl), (tt, (tt, (refl, (refl, ((refl, refl), (tt, tt))))))))))

puts : ArePutsInTurn p0 pads_alone
puts = (omega arith, tt, tt)

could : CouldBeDone p0 rising pads_alone (fills_of_work p0 rising own_slots five_kept)
could = tapes_exchange p0 rising own_slots five_kept pads_alone (omega arith) five_done shape puts

-- ---- refuted

-- the second run's first label shows the word that the key kept, 4, or the pad's own
leaves_seen : List ActFills → List ℕ
leaves_seen [] = []
leaves_seen (f ∷ rest) = map (λ (l : LeafFill). l.leaf) f.leaves ++ leaves_seen rest

one_tape : fills_of_work p0 rising own_slots five_kept ≡ fills_of_work p0 rising own_slots pads_alone → ⊥
unfolding leaves_seen
one_tape e =
    let fifth : ◌≡◌ {A = ℕ} 2 3 = ap (λ fs. slice_index (leaves_seen fs) 4) e in
    omega arith

stray : CouldBeDone p0 rising stray_put (fills_of_work p0 rising own_slots five_kept) → ⊥
stray c =
    let generation : ◌≡◌ {A = ℕ} 9 2 = ap (λ (w : WordId). w.generation) c.done.turn.behind.1.1.1.1.1.1.0.puts.0 in
    omega arith

bucket : CouldBeDone p0 rising bucket_put (fills_of_work p0 rising own_slots five_kept) → ⊥
bucket c =
    let place : ◌≡◌ {A = ℕ} 6 4 = ap (λ (w : WordId). w.place) c.done.turn.behind.1.1.1.1.1.1.0.puts.0 in
    omega arith

more : CouldBeDone p0 rising batch_more (fills_of_work p0 rising own_slots five_kept) → ⊥
more c =
    let many : ◌≡◌ {A = ℕ} 10 12 = ap (λ (fs : List ActFills). length fs) c.same in
    omega arith

unread : (slot other : ℕ → ℕ → ℕ) → slot_read_off slot (first_shows 0) ≡ slot_read_off other (first_shows 2) → other 0 0 ≡ other 0 2
unread slot other e =
    let read : slot 0 0 ≡ other 0 2 = ap (λ f. f (record { bucket = 0; number = 0 })) e in
    let not_read : slot 0 0 ≡ other 0 0 = ap (λ f. f (record { bucket = 0; number = 1 })) e in
    sym not_read ∙ read

pub sampled : Sampled
sampled = record {
  p = p0;
  numbers = refl;
  done = five_done;
  shape = shape;
  puts = puts;
  could = could;
  one_tape = one_tape;
  stray_shape = (refl, ((refl, refl), (tt, ((refl, refl), (tt, (tt, (refl, (refl, ((refl, refl), (tt, tt))))))))));
  stray = stray;
  bucket_shape = (refl, ((refl, refl), (tt, ((refl, refl), (tt, (tt, (refl, (refl, ((refl, refl), (tt, tt))))))))));
  bucket = bucket;
  more = more;
  unread = unread;
}
