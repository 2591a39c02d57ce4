-- The exchange between two works of one shape.
use Rattle.std.specs.Prelude.{◌≡◌, ℕ, ◌+◌, ◌<◌, ◌==◌, List, [], ◌∷◌, map}
use Rattle.std.proofs.Common.{refl, sym, ap, subst, ◌∙◌, inl, arith}
use Rattle.std.proofs.lemmas.Bool.{lt-leb}
use Rattle.ob_base.specs.declared.params.Params.{Params}
use Rattle.ob_base.specs.Repeats.{Has}
use Rattle.ob_recover.specs.Life.{WordId, LifeState, SlotFill, life_labels, formatted_life}
use Rattle.ob_recover.proofs.EndLaws.{none_counted}
use Rattle.ob_recover.proofs.FreshLaws.{slots_formatted}
use Rattle.ob_deniable.specs.Moved.{PermutesBelow, Undo}
use Rattle.ob_deniable.specs.Works.{own_slots, LifeWork, Opens, Logs, Shows, Lifts, Ends, VersionSlots, acts_of, HasShapeOf, SameShape, AreWritesDrawn, IsLifeOf, seen_of_work, words_moved, slots_moved, Exchange, Inverts, LivesExchange}
use Rattle.ob_deniable.specs.Telling.{IsFormatRanked}
use Rattle.ob_deniable.proofs.Swaps.{exchanged, turned, side_by_side, exchanged_undo}
use Rattle.ob_deniable.proofs.Moving.{life_moved}
use Rattle.ob_tables.specs.Rank.{IsRanking}
use Rattle.ob_deniable.proofs.Shapes.{life_by_shape, AreRankings}
use Rattle.ob_deniable.proofs.Ids.{same_word, words_tell, own_ranked, word_pairs, IsRowFresh, row_is, row_fresh, leaves_equal, pairs_turned, ids_stay}
use Rattle.ob_deniable.proofs.Tables.{slot_name, leaf, leaf'}
use Rattle.ob_deniable.proofs.Acts.{rows, RowsAlike, Alike, rows_alike}
use Rattle.ob_deniable.proofs.Ranked.{seen_by_rows}
use Rattle.ob_deniable.proofs.Indexes.{numbers_tell, index_row, pairs_in, led, pairs_turned_in, led_low, pairs_low, ranking_moved, flat, flat_rows, names_flat, rows_seen, places_same}

has_own_shape : (a : LifeWork) → HasShapeOf a a
has_own_shape (Opens g) = refl
has_own_shape (Logs asks first) = (refl, refl)
has_own_shape Shows = tt
has_own_shape Lifts = tt
has_own_shape (Ends ws n) = refl

own_shape : (one : List LifeWork) → SameShape one one
own_shape [] = tt
own_shape (a ∷ one) = (has_own_shape a, own_shape one)

other_way_at : (a b : LifeWork) → HasShapeOf a b → HasShapeOf b a
other_way_at (Opens g) (Opens h) e = sym e
other_way_at (Logs asks first) (Logs others start) e = (sym e.0, sym e.1)
other_way_at Shows Shows e = tt
other_way_at Lifts Lifts e = tt
other_way_at (Ends ws n) (Ends vs m) e = sym e
other_way_at a b e = absurd e

other_way : (one other : List LifeWork) → SameShape one other → SameShape other one
other_way [] [] h = tt
other_way [] (b ∷ other) h = absurd h
other_way (a ∷ one) [] h = absurd h
other_way (a ∷ one) (b ∷ other) h = (other_way_at a b h.0, other_way one other h.1)

module _ (p : Params) where
  life_of : (some : 0 < p.dummies) (w w' : WordId → ℕ) (slots slots' : VersionSlots) (one other : List LifeWork) → SameShape one other → AreWritesDrawn p 1 0 other → AreRankings p slots' → IsLifeOf p w slots one → IsLifeOf p w' slots' other
  life_of some w w' slots slots' one other sh drawn ranked life =
      life_by_shape p w w' 0 0 slots slots' (formatted_life (slots 0)) (formatted_life (slots' 0)) one other sh (record { generation = refl; drawn = refl; begun = refl; lifting = refl; many = refl }) drawn ranked life

  pub at_first : (some : 0 < p.dummies) (w w' : WordId → ℕ) (slots slots' : VersionSlots) → IsFormatRanked p slots → IsFormatRanked p slots' → Alike p some w w' (formatted_life (slots 0)) (formatted_life (slots' 0))
  at_first some w w' slots slots' ranked ranked' = record {
    holes = record { epoch = refl; begun = refl; log = tt };
    lifting = refl;
    version = λ u. refl;
    faces = record {
      count = λ u. 0;
      sound = record { placed = λ k u j e. absurd (cc); alone = λ k k' u j e f. absurd (cc) };
      sound' = record { placed = λ k u j e. absurd (cc); alone = λ k k' u j e f. absurd (cc) };
      counted = record { lifted_is = λ u. sym (lt-leb p.dummies 0 some); reads_is = λ u h. none_counted (p.real + p.dummies) };
      counted' = record { lifted_is = λ u. sym (lt-leb p.dummies 0 some); reads_is = λ u h. none_counted (p.real + p.dummies) };
      booked = λ k. refl;
      booked' = λ k. refl;
      counter = refl;
    };
    within = inl (omega arith);
    known = λ n h. refl;
    mine = slots_formatted p w (slots 0) some ranked;
    theirs = slots_formatted p w' (slots' 0) some ranked';
  }

  -- ---- what is exchanged

  abbrev pub back_of : List LifeWork → List LifeWork → WordId → WordId
  back_of one other = exchanged same_word (turned (word_pairs p one other))

  abbrev pub words_of : List LifeWork → List LifeWork → (WordId → ℕ) → WordId → ℕ
  words_of one other w = words_moved (back_of one other) w

  abbrev pub index_pairs : List LifeWork → List LifeWork → (WordId → ℕ) → ℕ → ℕ → List (ℕ × ℕ)
  index_pairs one other w v u = pairs_in (p.real + p.dummies) v u (index_row p w one) (index_row p (words_of one other w) other)

  abbrev pub indexes_back_of : List LifeWork → List LifeWork → (WordId → ℕ) → ℕ → ℕ → ℕ → ℕ
  indexes_back_of one other w v u = led (turned (index_pairs one other w v u))

  module _ (some : 0 < p.dummies) (one other : List LifeWork) (sh : SameShape one other) (drawn : AreWritesDrawn p 1 0 one) (drawn' : AreWritesDrawn p 1 0 other) where
    permutes : (w : WordId → ℕ) (v u : ℕ) → PermutesBelow (p.real + p.dummies) (led (index_pairs one other w v u)) (indexes_back_of one other w v u)
    permutes w v u =
        let n : ℕ = p.real + p.dummies in
        let xs : List SlotFill = index_row p w one in
        let ys : List SlotFill = index_row p (words_of one other w) other in
        let undo : Undo (led (pairs_in n v u xs ys)) (led (turned (pairs_in n v u xs ys))) = exchanged_undo (λ (x y : ℕ). x == y) numbers_tell (pairs_in n v u xs ys) in
        record {
          to_within = led_low n (pairs_in n v u xs ys) (pairs_low n v u xs ys);
          from_within = subst (λ (ps : List (ℕ × ℕ)). (j : ℕ) → j < n → led ps j < n) (sym (pairs_turned_in n v u xs ys)) (led_low n (pairs_in n v u ys xs) (pairs_low n v u ys xs));
          there = λ j h. undo.there j;
          back = λ j h. undo.back j;
        }

    moved_ranked : (w : WordId → ℕ) (slots : VersionSlots) (v u : ℕ) → IsRanking (p.real + p.dummies) (slots v u) → IsRanking (p.real + p.dummies) (slots_moved (indexes_back_of one other w) slots v u)
    moved_ranked w slots v u ranked =
        let at = permutes w v u in
        ranking_moved (p.real + p.dummies) (led (index_pairs one other w v u)) (indexes_back_of one other w v u) (slots v u) (exchanged_undo (λ (x y : ℕ). x == y) numbers_tell (index_pairs one other w v u)) at.to_within at.from_within ranked

    seen_same : (w : WordId → ℕ) (slots : VersionSlots) → IsLifeOf p w slots one → seen_of_work p w slots one ≡ seen_of_work p (words_of one other w) (slots_moved (indexes_back_of one other w) slots) other
    seen_same w slots life =
        let v : WordId → ℕ = words_of one other w in
        let moved : VersionSlots = slots_moved (indexes_back_of one other w) slots in
        let s : LifeState = formatted_life (λ u j. j) in
        let own : IsLifeOf p w own_slots one = life_of some w w slots own_slots one one (own_shape one) drawn (own_ranked p) life in
        let own' : IsLifeOf p v own_slots other = life_of some w v slots own_slots one other sh drawn' (own_ranked p) life in
        let a : IsRowFresh p some one = row_fresh p some w own_slots one (own_ranked p) own in
        let b : IsRowFresh p some other = row_fresh p some v own_slots other (own_ranked p) own' in
        let leaves : map (leaf p some w v) (life_labels p w s (acts_of 0 own_slots one)) ≡ map (leaf' p some w v) (life_labels p v s (acts_of 0 own_slots other)) =
        ap (map (leaf p some w v)) (row_is p some w own_slots one) ∙ leaves_equal p some one other sh a b w ∙ ap (map (leaf' p some w v)) (sym (row_is p some v own_slots other)) in
        let alike : RowsAlike p some w v (rows p w s (acts_of 0 own_slots one)) (rows p v s (acts_of 0 own_slots other)) = rows_alike p some w v 0 0 own_slots own_slots s s one other sh (at_first some w v own_slots own_slots (own_ranked p 0) (own_ranked p 0)) own own' leaves in
        let mine : flat (rows p w s (acts_of 0 own_slots one)) ≡ index_row p w one = flat_rows p w s (acts_of 0 own_slots one) in
        let theirs : flat (rows p v s (acts_of 0 own_slots other)) ≡ index_row p v other = flat_rows p v s (acts_of 0 own_slots other) in
        let names : map slot_name (index_row p w one) ≡ map slot_name (index_row p v other) = ap (map slot_name) (sym mine) ∙ names_flat p some w v (rows p w s (acts_of 0 own_slots one)) (rows p v s (acts_of 0 own_slots other)) alike ∙ ap (map slot_name) theirs in
        seen_by_rows p w slots 0 (formatted_life (slots 0)) s one (record { at = refl; epoch = refl; begun = refl; log = refl; content = record { table = refl; book = refl; version = refl; slot = λ u j. refl; slot0 = λ u j. refl } })
        ∙ rows_seen p some w v slots moved (rows p w s (acts_of 0 own_slots one)) (rows p v s (acts_of 0 own_slots other)) alike
        (λ r h. places_same p some w v one other own own' names slots r (subst (λ (fs : List SlotFill). Has (side_by_side fs (index_row p v other)) r) mine (subst (λ (fs : List SlotFill). Has (side_by_side (flat (rows p w s (acts_of 0 own_slots one))) fs) r) theirs h)))
        ∙ sym (seen_by_rows p v moved 0 (formatted_life (moved 0)) s other (record { at = refl; epoch = refl; begun = refl; log = refl; content = record { table = refl; book = refl; version = refl; slot = λ u j. refl; slot0 = λ u j. refl } }))

    life_same : (w : WordId → ℕ) (slots : VersionSlots) → IsLifeOf p w slots one → IsLifeOf p (words_of one other w) (slots_moved (indexes_back_of one other w) slots) other
    life_same w slots life =
        let v : WordId → ℕ = words_of one other w in
        let moved : VersionSlots = slots_moved (indexes_back_of one other w) slots in
        let s : LifeState = formatted_life (λ u j. j) in
        let own : IsLifeOf p w own_slots one = life_of some w w slots own_slots one one (own_shape one) drawn (own_ranked p) life in
        let own' : IsLifeOf p v own_slots other = life_of some w v slots own_slots one other sh drawn' (own_ranked p) life in
        let a : IsRowFresh p some one = row_fresh p some w own_slots one (own_ranked p) own in
        let b : IsRowFresh p some other = row_fresh p some v own_slots other (own_ranked p) own' in
        let leaves : map (leaf p some w v) (life_labels p w s (acts_of 0 own_slots one)) ≡ map (leaf' p some w v) (life_labels p v s (acts_of 0 own_slots other)) =
        ap (map (leaf p some w v)) (row_is p some w own_slots one) ∙ leaves_equal p some one other sh a b w ∙ ap (map (leaf' p some w v)) (sym (row_is p some v own_slots other)) in
        life_moved p some w v 0 slots moved (formatted_life (slots 0)) s s (formatted_life (moved 0)) one other sh
        (record { epoch = refl; generation = refl; drawn = refl; begun = refl; lifting = refl; log = refl; table = refl }) (record { epoch = refl; generation = refl; drawn = refl; begun = refl; lifting = refl; log = refl; table = refl })
        (at_first some w v own_slots own_slots (own_ranked p 0) (own_ranked p 0)) (moved_ranked w slots) life own own' leaves

    pub exchange : Exchange p one other
    exchange = record {
      ids = exchanged same_word (word_pairs p one other);
      ids_back = back_of one other;
      ids_undo = exchanged_undo same_word words_tell (word_pairs p one other);
      ids_stay = ids_stay p one other;
      indexes = λ w v u. led (index_pairs one other w v u);
      indexes_back = indexes_back_of one other;
      indexes_undo = λ w v u. exchanged_undo (λ (x y : ℕ). x == y) numbers_tell (index_pairs one other w v u);
      indexes_within = permutes;
      rankings = moved_ranked;
      lives = life_same;
      same = seen_same;
    }

    -- the ids that it moves
    pub exchange_ids : (w : WordId) → exchange.ids w ≡ exchanged same_word (word_pairs p one other) w
    unfolding exchange
    exchange_ids w = refl

    pub exchange_ids_back : exchange.ids_back ≡ back_of one other
    unfolding exchange
    exchange_ids_back = refl

  module _ (some : 0 < p.dummies) (one other : List LifeWork) (sh : SameShape one other) (back : SameShape other one) (drawn : AreWritesDrawn p 1 0 one) (drawn' : AreWritesDrawn p 1 0 other) where
    -- back and forth, the words are the same again
    words_return : (w : WordId → ℕ) → words_of other one (words_of one other w) ≡ w
    words_return w i x = w (((ap (λ (qs : List (WordId × WordId)). back_of one other (exchanged same_word qs x)) (ap turned (sym (pairs_turned p one other)) ∙ twice (word_pairs p one other))) ∙ (exchanged_undo same_word words_tell (word_pairs p one other)).there x) i)
      where
        twice : (qs : List (WordId × WordId)) → turned (turned qs) ≡ qs
        twice [] = refl
        twice (q ∷ qs) = ap (λ ps. q ∷ ps) (twice qs)

    pub inverts : Inverts (exchange some one other sh drawn drawn') (exchange some other one back drawn' drawn)
    unfolding exchange
    inverts = record {
      words = words_return;
      slots = λ w slots i v u j. (
          let n : ℕ = p.real + p.dummies in
          let w' : WordId → ℕ = words_of one other w in
          let xs : List SlotFill = index_row p w one in
          let ys : List SlotFill = index_row p w' other in
          let forth : indexes_back_of other one w' v u j ≡ led (pairs_in n v u xs ys) j =
          (λ i. led (turned (pairs_in n v u ys (index_row p (words_return w i) one))) j) ∙ ap (λ (qs : List (ℕ × ℕ)). led qs j) (pairs_turned_in n v u ys xs) in
          let home : indexes_back_of one other w v u (indexes_back_of other one w' v u j) ≡ j = ap (indexes_back_of one other w v u) forth ∙ (exchanged_undo (λ (x y : ℕ). x == y) numbers_tell (pairs_in n v u xs ys)).there j in
          slots v u (home i));
    }

pub lives_exchange : LivesExchange
lives_exchange p one other some sh drawn drawn' =
    let back : SameShape other one = other_way one other sh in
    (exchange p some one other sh drawn drawn', exchange p some other one back drawn' drawn, inverts p some one other sh back drawn drawn', inverts p some other one back sh drawn' drawn)
