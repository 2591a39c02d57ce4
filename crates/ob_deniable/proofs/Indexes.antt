-- The permutation of a version's indexes between two works of one shape, and that the same is seen.
use Rattle.std.specs.Prelude.{◌≡◌, ℕ, ◌+◌, ◌<◌, ◌==◌, nat_lt, ◌&&◌, Bool, true, false, List, [], ◌∷◌, ◌++◌, map, filter, length}
use Rattle.std.proofs.Common.{refl, sym, ap, subst, ◌∙◌, inl, inr, arith}
use Rattle.std.proofs.lemmas.Bool.{eqb-true, eq-eqb, and_parts, and_from, cases_Bool, ltb-true, lt-ltb}
use Rattle.std.proofs.lemmas.List.{map-append, length-map}
use Rattle.ob_tables.specs.Rank.{IsRanking}
use Rattle.ob_base.specs.declared.params.Params.{Params}
use Rattle.ob_base.specs.Repeats.{Has}
use Rattle.ob_recover.specs.Life.{WordId, LifeState, LifeAct, LabelFill, SlotFill, HolesAreFresh, life_labels, life_slots, slots_shown, life_step, formatted_life}
use Rattle.ob_recover.proofs.FreshLaws.{lives_are_fresh, slots_formatted}
use Rattle.ob_recover.proofs.LifeSlots.{AreSlotsSound}
use Rattle.ob_deniable.specs.Moved.{Undo}
use Rattle.ob_deniable.specs.Works.{own_slots, LifeWork, VersionSlots, Leaf, Place, acts_of, IsLifeOf, slots_moved, seen_label}
use Rattle.ob_deniable.proofs.Swaps.{IsEquality, swapped, exchanged, turned, IsMatching, side_by_side, has_paired, exchanged_undo, exchanged_each}
use Rattle.ob_deniable.proofs.Pairs.{has_filter, filter_has, has_mapped, mapped_has, names_paired, rows_equal}
use Rattle.ob_deniable.proofs.Ids.{own_ranked}
use Rattle.ob_deniable.proofs.Tables.{slot_name, leaf}
use Rattle.ob_deniable.proofs.Acts.{rows, RowsAlike}
use Rattle.ob_deniable.proofs.Ranked.{seen_ranked, seen_row, indexes_low}

pub numbers_tell : IsEquality (λ (x y : ℕ). x == y)
numbers_tell = record { equal = λ x y e. eqb-true x y e; itself = λ x. eq-eqb x x refl }

abbrev pub index_row : Params → (WordId → ℕ) → List LifeWork → List SlotFill
index_row p w one = life_slots p w (formatted_life (λ u j. j)) (acts_of 0 own_slots one)

-- a hole of this version of this bucket, and one of its n indexes
abbrev pub is_of : ℕ → ℕ → ℕ → SlotFill → Bool
is_of n v u f = (f.version == v) && ((f.bucket == u) && nat_lt f.slot n)

abbrev pub both_of : ℕ → ℕ → ℕ → SlotFill × SlotFill → Bool
both_of n v u r = is_of n v u r.0 && is_of n v u r.1

abbrev pub slots_at : SlotFill × SlotFill → ℕ × ℕ
slots_at r = (r.0.slot, r.1.slot)

abbrev pub pairs_in : ℕ → ℕ → ℕ → List SlotFill → List SlotFill → List (ℕ × ℕ)
pairs_in n v u xs ys = map slots_at (filter (both_of n v u) (side_by_side xs ys))

abbrev pub led : List (ℕ × ℕ) → ℕ → ℕ
led qs = exchanged (λ (x y : ℕ). x == y) qs

-- ---- the pairs turned round

both_turned : (a b : Bool) → (a && b) ≡ (b && a)
both_turned true true = refl
both_turned true false = refl
both_turned false true = refl
both_turned false false = refl

turned_at : (n v u : ℕ) (x y : SlotFill) (b : Bool) (rest : List (SlotFill × SlotFill)) (others : List (SlotFill × SlotFill)) → both_of n v u (x, y) ≡ b → turned (map slots_at (filter (both_of n v u) rest)) ≡ map slots_at (filter (both_of n v u) others) →
    turned (map slots_at (filter (both_of n v u) ((x, y) ∷ rest))) ≡ map slots_at (filter (both_of n v u) ((y, x) ∷ others))
turned_at n v u x y true rest others e h =
    let back : both_of n v u (y, x) ≡ true = both_turned (is_of n v u y) (is_of n v u x) ∙ e in
    rw (e, back) (ap (λ (l : List (ℕ × ℕ)). (y.slot, x.slot) ∷ l) h)
turned_at n v u x y false rest others e h =
    let back : both_of n v u (y, x) ≡ false = both_turned (is_of n v u y) (is_of n v u x) ∙ e in
    rw (e, back) h

pub pairs_turned_in : (n v u : ℕ) (xs ys : List SlotFill) → turned (pairs_in n v u xs ys) ≡ pairs_in n v u ys xs
pairs_turned_in n v u [] [] = refl
pairs_turned_in n v u [] (y ∷ ys) = refl
pairs_turned_in n v u (x ∷ xs) [] = refl
pairs_turned_in n v u (x ∷ xs) (y ∷ ys) = turned_at n v u x y (both_of n v u (x, y)) (side_by_side xs ys) (side_by_side ys xs) refl (pairs_turned_in n v u xs ys)

-- ---- what is below n stays there

swapped_low : (n x y z : ℕ) → x < n → y < n → z < n → swapped (λ (a b : ℕ). a == b) x y z < n
swapped_low n x y z a b c = elim (cases_Bool (x == z)) [
  | inl on ↦ rw on b
  | inr off ↦ elim (cases_Bool (y == z)) [ inl on ↦ rw (off, on) a | inr out ↦ rw (off, out) c ]
]

pub led_low : (n : ℕ) (qs : List (ℕ × ℕ)) → ((q : ℕ × ℕ) → Has qs q → (q.0 < n) × (q.1 < n)) → (x : ℕ) → x < n → led qs x < n
led_low n [] low x h = h
led_low n (q ∷ qs) low x h =
    let rest : (y : ℕ) → y < n → led qs y < n = led_low n qs (λ r k. low r (inr k)) in
    swapped_low n (led qs q.0) q.1 (led qs x) (rest q.0 (low q (inl refl)).0) (low q (inl refl)).1 (rest x h)

is_of_parts : (n v u : ℕ) (f : SlotFill) → is_of n v u f ≡ true → (f.version ≡ v) × (f.bucket ≡ u) × (f.slot < n)
is_of_parts n v u f e =
    let one = and_parts (f.version == v) ((f.bucket == u) && nat_lt f.slot n) e in
    let two = and_parts (f.bucket == u) (nat_lt f.slot n) one.1 in
    (eqb-true f.version v one.0, eqb-true f.bucket u two.0, ltb-true f.slot n two.1)

pub pairs_low : (n v u : ℕ) (xs ys : List SlotFill) (q : ℕ × ℕ) → Has (pairs_in n v u xs ys) q → (q.0 < n) × (q.1 < n)
pairs_low n v u xs ys q h =
    let f = has_mapped slots_at (filter (both_of n v u) (side_by_side xs ys)) q h in
    let on = (has_filter (both_of n v u) (side_by_side xs ys) f.0 f.1).1 in
    let sides = and_parts (is_of n v u f.0.0) (is_of n v u f.0.1) on in
    subst (λ (q : ℕ × ℕ). (q.0 < n) × (q.1 < n)) f.2 ((is_of_parts n v u f.0.0 sides.0).2, (is_of_parts n v u f.0.1 sides.1).2)

-- a ranking moved along is a ranking
pub ranking_moved : (n : ℕ) (to from place : ℕ → ℕ) → Undo to from → ((j : ℕ) → j < n → to j < n) → ((j : ℕ) → j < n → from j < n) → IsRanking n place → IsRanking n (λ j. place (from j))
ranking_moved n to from place undo to_low from_low r = record {
  within = λ j h. r.within (from j) (from_low j h);
  apart = λ i j h k e. sym (undo.back i) ∙ ap to (r.apart (from i) (from j) (from_low i h) (from_low j k) e) ∙ undo.back j;
  onto = λ s h. (let at = r.onto s h in (to at.0, to_low at.0 at.1, ap place (undo.there at.0) ∙ at.2));
}

-- ---- rows of fills

abbrev pub flat : List (List LabelFill × List SlotFill) → List SlotFill
flat [] = []
flat (x ∷ xs) = x.1 ++ flat xs

pub flat_rows : (p : Params) (v : WordId → ℕ) (s : LifeState) (acts : List LifeAct) → flat (rows p v s acts) ≡ life_slots p v s acts
flat_rows p v s [] = refl
flat_rows p v s (a ∷ rest) = ap (λ fs. slots_shown p v s a ++ fs) (flat_rows p v (life_step p v s a) rest)

paired_left : (xs ys us vs : List SlotFill) (r : SlotFill × SlotFill) → Has (side_by_side xs ys) r → Has (side_by_side (xs ++ us) (ys ++ vs)) r
paired_left [] ys us vs r h = absurd h
paired_left (x ∷ xs) [] us vs r h = absurd h
paired_left (x ∷ xs) (y ∷ ys) us vs r (inl e) = inl e
paired_left (x ∷ xs) (y ∷ ys) us vs r (inr h) = inr (paired_left xs ys us vs r h)

paired_right : (xs ys us vs : List SlotFill) (r : SlotFill × SlotFill) → length xs ≡ length ys → Has (side_by_side us vs) r → Has (side_by_side (xs ++ us) (ys ++ vs)) r
paired_right [] [] us vs r l h = h
paired_right [] (y ∷ ys) us vs r l h = absurd (omega arith)
paired_right (x ∷ xs) [] us vs r l h = absurd (omega arith)
paired_right (x ∷ xs) (y ∷ ys) us vs r l h = inr (paired_right xs ys us vs r (omega arith) h)

module _ (p : Params) (some : 0 < p.dummies) (w w' : WordId → ℕ) where
  pub names_flat : (xs ys : List (List LabelFill × List SlotFill)) → RowsAlike p some w w' xs ys → map slot_name (flat xs) ≡ map slot_name (flat ys)
  names_flat [] [] h = refl
  names_flat [] (y ∷ ys) h = absurd h
  names_flat (x ∷ xs) [] h = absurd h
  names_flat (x ∷ xs) (y ∷ ys) h = map-append slot_name x.1 (flat xs) ∙ (λ i. h.1 i ++ names_flat xs ys h.2 i) ∙ sym (map-append slot_name y.1 (flat ys))

  label_seen : (v : WordId → ℕ) (ls : List LabelFill) → map (seen_label p v) ls ≡ map Leaf (map (λ (l : LabelFill). leaf p some v v l) ls)
  label_seen v [] = refl
  label_seen v (l ∷ ls) = ap (λ hs. seen_label p v l ∷ hs) (label_seen v ls)

  -- where slots agree at each pair of fills, the rows are seen alike
  pub rows_seen : (slots slots' : VersionSlots) (xs ys : List (List LabelFill × List SlotFill)) → RowsAlike p some w w' xs ys →
      ((r : SlotFill × SlotFill) → Has (side_by_side (flat xs) (flat ys)) r → seen_ranked slots r.0 ≡ seen_ranked slots' r.1) → map (seen_row p w slots) xs ≡ map (seen_row p w' slots') ys
  rows_seen slots slots' [] [] h g = refl
  rows_seen slots slots' [] (y ∷ ys) h g = absurd h
  rows_seen slots slots' (x ∷ xs) [] h g = absurd h
  rows_seen slots slots' (x ∷ xs) (y ∷ ys) h g =
      let long : length x.1 ≡ length y.1 = sym (length-map x.1 slot_name) ∙ ap length h.1 ∙ length-map y.1 slot_name in
      let labels : map (seen_label p w) x.0 ≡ map (seen_label p w') y.0 = label_seen w x.0 ∙ ap (map Leaf) h.0 ∙ sym (label_seen w' y.0) in
      let places : map (seen_ranked slots) x.1 ≡ map (seen_ranked slots') y.1 = rows_equal slot_name (seen_ranked slots) (seen_ranked slots') x.1 y.1 h.1 (λ r k. g r (paired_left x.1 y.1 (flat xs) (flat ys) r k)) in
      λ i. (labels i ++ places i) ∷ rows_seen slots slots' xs ys h.2 (λ r k. g r (paired_right x.1 y.1 (flat xs) (flat ys) r long k)) i

pub sound_at_first : (p : Params) (w : WordId → ℕ) → 0 < p.dummies → AreSlotsSound p w (formatted_life (λ u j. j))
sound_at_first p w some = slots_formatted p w (λ u j. j) some (own_ranked p 0)

-- ---- two lives over own slots, whose rows have equal names

module _ (p : Params) (some : 0 < p.dummies) (w w' : WordId → ℕ) (one other : List LifeWork) (life : IsLifeOf p w own_slots one) (life' : IsLifeOf p w' own_slots other) (names : map slot_name (index_row p w one) ≡ map slot_name (index_row p w' other)) where
  abbrev n : ℕ
  n = p.real + p.dummies

  abbrev xs : List SlotFill
  xs = index_row p w one

  abbrev ys : List SlotFill
  ys = index_row p w' other

  fresh : HolesAreFresh (life_labels p w (formatted_life (λ u j. j)) (acts_of 0 own_slots one)) xs
  fresh = lives_are_fresh p w (λ u j. j) (acts_of 0 own_slots one) some (own_ranked p 0) life

  fresh' : HolesAreFresh (life_labels p w' (formatted_life (λ u j. j)) (acts_of 0 own_slots other)) ys
  fresh' = lives_are_fresh p w' (λ u j. j) (acts_of 0 own_slots other) some (own_ranked p 0) life'

  named : (r : SlotFill × SlotFill) → Has (side_by_side xs ys) r → slot_name r.0 ≡ slot_name r.1
  named r h = names_paired slot_name xs ys names r h

  at_pair : (v u : ℕ) (q : ℕ × ℕ) → Has (pairs_in n v u xs ys) q → (r : SlotFill × SlotFill) × Has (side_by_side xs ys) r × (slots_at r ≡ q) × (is_of n v u r.0 ≡ true) × (is_of n v u r.1 ≡ true)
  at_pair v u q h =
      let f = has_mapped slots_at (filter (both_of n v u) (side_by_side xs ys)) q h in
      let at = has_filter (both_of n v u) (side_by_side xs ys) f.0 f.1 in
      let sides = and_parts (is_of n v u f.0.0) (is_of n v u f.0.1) at.1 in
      (f.0, at.0, f.2, sides.0, sides.1)

  pub indexes_match : (v u : ℕ) → IsMatching (pairs_in n v u xs ys)
  indexes_match v u = record {
    right = λ q t h k e. (
        let f = at_pair v u q h in
        let g = at_pair v u t k in
        let fp = is_of_parts n v u f.0.0 f.3 in
        let gp = is_of_parts n v u g.0.0 g.3 in
        let same : f.0.0 ≡ g.0.0 = fresh.slots_apart f.0.0 g.0.0 (has_paired xs ys f.0 f.1).0 (has_paired xs ys g.0 g.1).0 (fp.1 ∙ sym gp.1) (fp.0 ∙ sym gp.0) (ap (λ (x : ℕ × ℕ). x.0) f.2 ∙ e ∙ sym (ap (λ (x : ℕ × ℕ). x.0) g.2)) in
        let name : slot_name f.0.1 ≡ slot_name g.0.1 = sym (named f.0 f.1) ∙ ap slot_name same ∙ named g.0 g.1 in
        let partner : f.0.1 ≡ g.0.1 = fresh'.slots_again f.0.1 g.0.1 (has_paired xs ys f.0 f.1).1 (has_paired xs ys g.0 g.1).1 (ap (λ (x : SlotFill). x.epoch) name) (ap (λ (x : SlotFill). x.bucket) name) (ap (λ (x : SlotFill). x.number) name) in
        sym (ap (λ (x : ℕ × ℕ). x.1) f.2) ∙ ap (λ (x : SlotFill). x.slot) partner ∙ ap (λ (x : ℕ × ℕ). x.1) g.2);
    left = λ q t h k e. (
        let f = at_pair v u q h in
        let g = at_pair v u t k in
        let fp = is_of_parts n v u f.0.1 f.4 in
        let gp = is_of_parts n v u g.0.1 g.4 in
        let same : f.0.1 ≡ g.0.1 = fresh'.slots_apart f.0.1 g.0.1 (has_paired xs ys f.0 f.1).1 (has_paired xs ys g.0 g.1).1 (fp.1 ∙ sym gp.1) (fp.0 ∙ sym gp.0) (ap (λ (x : ℕ × ℕ). x.1) f.2 ∙ e ∙ sym (ap (λ (x : ℕ × ℕ). x.1) g.2)) in
        let name : slot_name f.0.0 ≡ slot_name g.0.0 = named f.0 f.1 ∙ ap slot_name same ∙ sym (named g.0 g.1) in
        let partner : f.0.0 ≡ g.0.0 = fresh.slots_again f.0.0 g.0.0 (has_paired xs ys f.0 f.1).0 (has_paired xs ys g.0 g.1).0 (ap (λ (x : SlotFill). x.epoch) name) (ap (λ (x : SlotFill). x.bucket) name) (ap (λ (x : SlotFill). x.number) name) in
        sym (ap (λ (x : ℕ × ℕ). x.0) f.2) ∙ ap (λ (x : SlotFill). x.slot) partner ∙ ap (λ (x : ℕ × ℕ). x.0) g.2);
  }

  is_of_from : (f : SlotFill) (v u : ℕ) → f.version ≡ v → f.bucket ≡ u → f.slot < n → is_of n v u f ≡ true
  is_of_from f v u a b c = and_from (f.version == v) ((f.bucket == u) && nat_lt f.slot n) (eq-eqb f.version v a) (and_from (f.bucket == u) (nat_lt f.slot n) (eq-eqb f.bucket u b) (lt-ltb f.slot n c))

  -- one shows an index, and other the index that it is led to
  pub indexes_lead : (r : SlotFill × SlotFill) → Has (side_by_side xs ys) r → led (pairs_in n r.0.version r.0.bucket xs ys) r.0.slot ≡ r.1.slot
  indexes_lead r h =
      let name : slot_name r.0 ≡ slot_name r.1 = named r h in
      let v : ℕ = r.0.version in
      let u : ℕ = r.0.bucket in
      let low : r.0.slot < n = indexes_low p some w 0 (formatted_life (λ u j. j)) one life (sound_at_first p w some) (λ u j. refl) r.0 (has_paired xs ys r h).0 in
      let low' : r.1.slot < n = indexes_low p some w' 0 (formatted_life (λ u j. j)) other life' (sound_at_first p w' some) (λ u j. refl) r.1 (has_paired xs ys r h).1 in
      let on : both_of n v u r ≡ true = and_from (is_of n v u r.0) (is_of n v u r.1) (is_of_from r.0 v u refl refl low) (is_of_from r.1 v u (sym (ap (λ (x : SlotFill). x.version) name)) (sym (ap (λ (x : SlotFill). x.bucket) name)) low') in
      exchanged_each (λ (x y : ℕ). x == y) numbers_tell (pairs_in n v u xs ys) (indexes_match v u) (slots_at r) (mapped_has slots_at (filter (both_of n v u) (side_by_side xs ys)) r (filter_has (both_of n v u) (side_by_side xs ys) r h on))

  abbrev pub back : ℕ → ℕ → ℕ → ℕ
  back v u = led (turned (pairs_in n v u xs ys))

  pub places_same : (slots : VersionSlots) (r : SlotFill × SlotFill) → Has (side_by_side xs ys) r → seen_ranked slots r.0 ≡ seen_ranked (slots_moved back slots) r.1
  places_same slots r h =
      let name : slot_name r.0 ≡ slot_name r.1 = named r h in
      let v : ℕ = r.0.version in
      let u : ℕ = r.0.bucket in
      let returns : back v u r.1.slot ≡ r.0.slot = ap (back v u) (sym (indexes_lead r h)) ∙ (exchanged_undo (λ (x y : ℕ). x == y) numbers_tell (pairs_in n v u xs ys)).there r.0.slot in
      (λ i. Place u v (slots v u (sym returns i)))
      ∙ (λ i. (let f : SlotFill = name i in Place f.bucket f.version (slots f.version f.bucket (back f.version f.bucket r.1.slot))))
