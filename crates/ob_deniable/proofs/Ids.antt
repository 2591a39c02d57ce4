-- The permutation of ids between two works of one shape, and that leaves are equal under it.
use Rattle.std.specs.Prelude.{◌≡◌, ℕ, ◌<◌, ◌==◌, ◌&&◌, Bool, List, map}
use Rattle.std.proofs.Common.{refl, sym, ap, subst, ◌∙◌}
use Rattle.std.proofs.lemmas.Bool.{eqb-true, eq-eqb, and_parts, and_from}
use Rattle.ob_base.specs.declared.params.Params.{Params}
use Rattle.ob_base.specs.Repeats.{Has}
use Rattle.ob_recover.specs.Life.{WordId, LabelFill, HolesAreFresh, life_labels, life_slots, leaf_of_word, formatted_life}
use Rattle.ob_recover.proofs.FreshLaws.{lives_are_fresh}
use Rattle.ob_deniable.specs.Works.{LifeWork, own_slots, labels_in, IsShown, VersionSlots, acts_of, SameShape, IsLifeOf, words_moved}
use Rattle.ob_deniable.proofs.Swaps.{IsEquality, exchanged, turned, IsMatching, side_by_side, has_paired, exchanged_undo, exchanged_each, exchanged_stays}
use Rattle.ob_deniable.proofs.Pairs.{has_mapped, mapped_has, names_paired, rows_equal, turned_paired}
use Rattle.ob_deniable.proofs.Shapes.{label_name, labels_any, names_any, AreRankings}

abbrev pub same_word : WordId → WordId → Bool
same_word a b = (a.generation == b.generation) && (a.place == b.place)

pub words_tell : IsEquality same_word
words_tell = record {
  equal = λ x y e. (
      let parts = and_parts (x.generation == y.generation) (x.place == y.place) e in
      λ i. record { generation = eqb-true x.generation y.generation parts.0 i; place = eqb-true x.place y.place parts.1 i });
  itself = λ x. and_from (x.generation == x.generation) (x.place == x.place) (eq-eqb x.generation x.generation refl) (eq-eqb x.place x.place refl);
}

pub own_ranked : (p : Params) → AreRankings p own_slots
own_ranked p v u = record { within = λ j h. h; apart = λ i j h k e. e; onto = λ s h. (s, h, refl) }

abbrev pub labels_row : Params → List LifeWork → List LabelFill
labels_row p one = labels_in p one

abbrev pub word_pairs : Params → List LifeWork → List LifeWork → List (WordId × WordId)
word_pairs p one other = map (λ (r : LabelFill × LabelFill). (r.0.word, r.1.word)) (side_by_side (labels_row p one) (labels_row p other))

abbrev pub ids_of : Params → List LifeWork → List LifeWork → WordId → WordId
ids_of p one other = exchanged same_word (word_pairs p one other)

module _ (p : Params) (some : 0 < p.dummies) where
  pub record IsRowFresh (one : List LifeWork) : Type 0 where
    pub apart : (l m : LabelFill) → Has (labels_row p one) l → Has (labels_row p one) m → l.word ≡ m.word → l ≡ m
    pub again : (l m : LabelFill) → Has (labels_row p one) l → Has (labels_row p one) m → l.epoch ≡ m.epoch → l.batch ≡ m.batch → l.place ≡ m.place → l ≡ m

  pub row_is : (w : WordId → ℕ) (slots : VersionSlots) (one : List LifeWork) → life_labels p w (formatted_life (slots 0)) (acts_of 0 slots one) ≡ labels_row p one
  row_is w slots one = labels_any p w (λ x. 0) 0 0 slots own_slots (formatted_life (slots 0)) (formatted_life (own_slots 0)) one (record { epoch = refl; begun = refl; book = refl; log = refl })

  pub row_fresh : (w : WordId → ℕ) (slots : VersionSlots) (one : List LifeWork) → AreRankings p slots → IsLifeOf p w slots one → IsRowFresh one
  row_fresh w slots one ranked life =
      let f : HolesAreFresh (life_labels p w (formatted_life (slots 0)) (acts_of 0 slots one)) (life_slots p w (formatted_life (slots 0)) (acts_of 0 slots one)) = lives_are_fresh p w (slots 0) (acts_of 0 slots one) some (ranked 0) life in
      let g : HolesAreFresh (labels_row p one) (life_slots p w (formatted_life (slots 0)) (acts_of 0 slots one)) = subst (λ (ls : List LabelFill). HolesAreFresh ls (life_slots p w (formatted_life (slots 0)) (acts_of 0 slots one))) (row_is w slots one) f in
      record { apart = g.labels_apart; again = g.labels_again }

  pub names_of_rows : (one other : List LifeWork) → SameShape one other → map (label_name p) (labels_row p one) ≡ map (label_name p) (labels_row p other)
  names_of_rows one other sh = names_any p (λ w. 0) (λ w. 0) 0 0 own_slots own_slots (formatted_life (own_slots 0)) (formatted_life (own_slots 0)) one other sh (record { epoch = refl; begun = refl; log = tt })

  module _ (one other : List LifeWork) (sh : SameShape one other) (a : IsRowFresh one) (b : IsRowFresh other) where
    -- where two holes of a row show one word they are one hole, so their partners are, too
    partner : (r s : LabelFill × LabelFill) → Has (side_by_side (labels_row p one) (labels_row p other)) r → Has (side_by_side (labels_row p one) (labels_row p other)) s → label_name p r.0 ≡ label_name p s.0 → r.1 ≡ s.1
    partner r s h k e =
        let rn : label_name p r.0 ≡ label_name p r.1 = names_paired (label_name p) (labels_row p one) (labels_row p other) (names_of_rows one other sh) r h in
        let sn : label_name p s.0 ≡ label_name p s.1 = names_paired (label_name p) (labels_row p one) (labels_row p other) (names_of_rows one other sh) s k in
        let same : label_name p r.1 ≡ label_name p s.1 = sym rn ∙ e ∙ sn in
        b.again r.1 s.1 (has_paired (labels_row p one) (labels_row p other) r h).1 (has_paired (labels_row p one) (labels_row p other) s k).1 (ap (λ (l : LabelFill). l.epoch) same) (ap (λ (l : LabelFill). l.batch) same) (ap (λ (l : LabelFill). l.place) same)

    partner_back : (r s : LabelFill × LabelFill) → Has (side_by_side (labels_row p one) (labels_row p other)) r → Has (side_by_side (labels_row p one) (labels_row p other)) s → label_name p r.1 ≡ label_name p s.1 → r.0 ≡ s.0
    partner_back r s h k e =
        let rn : label_name p r.0 ≡ label_name p r.1 = names_paired (label_name p) (labels_row p one) (labels_row p other) (names_of_rows one other sh) r h in
        let sn : label_name p s.0 ≡ label_name p s.1 = names_paired (label_name p) (labels_row p one) (labels_row p other) (names_of_rows one other sh) s k in
        let same : label_name p r.0 ≡ label_name p s.0 = rn ∙ e ∙ sym sn in
        a.again r.0 s.0 (has_paired (labels_row p one) (labels_row p other) r h).0 (has_paired (labels_row p one) (labels_row p other) s k).0 (ap (λ (l : LabelFill). l.epoch) same) (ap (λ (l : LabelFill). l.batch) same) (ap (λ (l : LabelFill). l.place) same)

    pub words_match : IsMatching (word_pairs p one other)
    words_match = record {
      right = λ q r h k e. (
          let f = has_mapped (λ (r : LabelFill × LabelFill). (r.0.word, r.1.word)) (side_by_side (labels_row p one) (labels_row p other)) q h in
          let g = has_mapped (λ (r : LabelFill × LabelFill). (r.0.word, r.1.word)) (side_by_side (labels_row p one) (labels_row p other)) r k in
          let same : f.0.0 ≡ g.0.0 = a.apart f.0.0 g.0.0 (has_paired (labels_row p one) (labels_row p other) f.0 f.1).0 (has_paired (labels_row p one) (labels_row p other) g.0 g.1).0 (ap (λ (t : WordId × WordId). t.0) f.2 ∙ e ∙ sym (ap (λ (t : WordId × WordId). t.0) g.2)) in
          sym (ap (λ (t : WordId × WordId). t.1) f.2) ∙ ap (λ (l : LabelFill). l.word) (partner f.0 g.0 f.1 g.1 (ap (label_name p) same)) ∙ ap (λ (t : WordId × WordId). t.1) g.2);
      left = λ q r h k e. (
          let f = has_mapped (λ (r : LabelFill × LabelFill). (r.0.word, r.1.word)) (side_by_side (labels_row p one) (labels_row p other)) q h in
          let g = has_mapped (λ (r : LabelFill × LabelFill). (r.0.word, r.1.word)) (side_by_side (labels_row p one) (labels_row p other)) r k in
          let same : f.0.1 ≡ g.0.1 = b.apart f.0.1 g.0.1 (has_paired (labels_row p one) (labels_row p other) f.0 f.1).1 (has_paired (labels_row p one) (labels_row p other) g.0 g.1).1 (ap (λ (t : WordId × WordId). t.1) f.2 ∙ e ∙ sym (ap (λ (t : WordId × WordId). t.1) g.2)) in
          sym (ap (λ (t : WordId × WordId). t.0) f.2) ∙ ap (λ (l : LabelFill). l.word) (partner_back f.0 g.0 f.1 g.1 (ap (label_name p) same)) ∙ ap (λ (t : WordId × WordId). t.0) g.2);
    }

    -- a label hole of one shows an id, and that of other the id that it is led to
    pub ids_lead : (r : LabelFill × LabelFill) → Has (side_by_side (labels_row p one) (labels_row p other)) r → ids_of p one other r.0.word ≡ r.1.word
    ids_lead r h = exchanged_each same_word words_tell (word_pairs p one other) words_match (r.0.word, r.1.word) (mapped_has (λ (r : LabelFill × LabelFill). (r.0.word, r.1.word)) (side_by_side (labels_row p one) (labels_row p other)) r h)

    abbrev pub ids_back : WordId → WordId
    ids_back = exchanged same_word (turned (word_pairs p one other))

    pub leaves_equal : (w : WordId → ℕ) → map (λ (l : LabelFill). leaf_of_word p w l.word) (labels_row p one) ≡ map (λ (l : LabelFill). leaf_of_word p (words_moved ids_back w) l.word) (labels_row p other)
    leaves_equal w = rows_equal (label_name p) (λ (l : LabelFill). leaf_of_word p w l.word) (λ (l : LabelFill). leaf_of_word p (words_moved ids_back w) l.word) (labels_row p one) (labels_row p other) (names_of_rows one other sh)
        (λ r h. ap (leaf_of_word p w) (sym ((exchanged_undo same_word words_tell (word_pairs p one other)).there r.0.word) ∙ ap ids_back (ids_lead r h)))

pub pairs_turned : (p : Params) (one other : List LifeWork) → turned (word_pairs p one other) ≡ word_pairs p other one
pairs_turned p one other = turned_paired (λ (l : LabelFill). l.word) (labels_row p one) (labels_row p other)

pub ids_stay : (p : Params) (one other : List LifeWork) (w : WordId) → (IsShown p one w → ⊥) → (IsShown p other w → ⊥) → ids_of p one other w ≡ w
ids_stay p one other w a b = exchanged_stays same_word words_tell (word_pairs p one other) w
    (λ q h e. (let f = has_mapped (λ (r : LabelFill × LabelFill). (r.0.word, r.1.word)) (side_by_side (labels_row p one) (labels_row p other)) q h in a (f.0.0, (has_paired (labels_row p one) (labels_row p other) f.0 f.1).0, ap (λ (t : WordId × WordId). t.0) f.2 ∙ e)))
    (λ q h e. (let f = has_mapped (λ (r : LabelFill × LabelFill). (r.0.word, r.1.word)) (side_by_side (labels_row p one) (labels_row p other)) q h in b (f.0.1, (has_paired (labels_row p one) (labels_row p other) f.0 f.1).1, ap (λ (t : WordId × WordId). t.1) f.2 ∙ e)))
