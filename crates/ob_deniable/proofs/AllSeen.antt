-- What is seen is all that fills the holes.
use Rattle.std.specs.Prelude.{◌≡◌, ℕ, ◌+◌, ◌<◌, List, [], ◌∷◌, ◌++◌, map, length}
use Rattle.std.proofs.Common.{refl, sym, ap, ◌∙◌}
use Rattle.std.proofs.lemmas.List.{length-map}
use Rattle.ob_base.specs.declared.params.Params.{Params}
use Rattle.ob_recover.specs.Life.{WordId, LifeBatch, LifeState, Open, Append, ShowBatch, ShowLifts, End, LabelFill, SlotFill, IsLife, labels_shown, slots_shown, life_step, leaf_of_word, formatted_life}
use Rattle.ob_deniable.specs.Works.{LifeWork, Opens, Logs, Shows, Lifts, Ends, VersionSlots, acts_of, SameShape, SeenHole, Leaf, Place, seen_label, seen_slot, seen_of_acts}
use Rattle.ob_deniable.specs.Telling.{ActFills, leaf_fill, fills_of_acts, SeenIsAll}
use Rattle.ob_deniable.proofs.Pairs.{cons_head, cons_tail, nil_cons, rows_split}
use Rattle.ob_deniable.proofs.Shapes.{label_name, names_shown}
use Rattle.ob_deniable.proofs.Tables.{slot_name}
use Rattle.ob_deniable.proofs.Acts.{Alike, Known, open_keeps, append_keeps, shows_keep, lifts_keep, end_keeps, now_known, batch_names, lift_names}
use Rattle.ob_deniable.proofs.Exchanging.{at_first}

leaf_in : SeenHole → ℕ
leaf_in (Leaf n) = n
leaf_in (Place u v s) = 0

slot_in : SeenHole → ℕ
slot_in (Leaf n) = 0
slot_in (Place u v s) = s

module _ (p : Params) (w w' : WordId → ℕ) where
  same_leaf : (l m : LabelFill) → seen_label p w l ≡ seen_label p w' m → leaf_of_word p w l.word ≡ leaf_of_word p w' m.word
  unfolding leaf_in
  same_leaf l m e = ap leaf_in e

  leaves_from_seen : (ls ms : List LabelFill) → map (seen_label p w) ls ≡ map (seen_label p w') ms → map (λ (l : LabelFill). leaf_of_word p w l.word) ls ≡ map (λ (l : LabelFill). leaf_of_word p w' l.word) ms
  leaves_from_seen [] [] e = refl
  leaves_from_seen [] (m ∷ ms) e = absurd (nil_cons (seen_label p w' m) (map (seen_label p w') ms) e)
  leaves_from_seen (l ∷ ls) [] e = absurd (nil_cons (seen_label p w l) (map (seen_label p w) ls) (sym e))
  leaves_from_seen (l ∷ ls) (m ∷ ms) e =
      λ i. same_leaf l m (cons_head (seen_label p w l) (seen_label p w' m) (map (seen_label p w) ls) (map (seen_label p w') ms) e) i ∷ leaves_from_seen ls ms (cons_tail (seen_label p w l) (seen_label p w' m) (map (seen_label p w) ls) (map (seen_label p w') ms) e) i

  leaf_fill_same : (l m : LabelFill) → label_name p l ≡ label_name p m → leaf_of_word p w l.word ≡ leaf_of_word p w' m.word → leaf_fill p w l ≡ leaf_fill p w' m
  leaf_fill_same l m n e i = record { epoch = (n i).epoch; batch = (n i).batch; place = (n i).place; leaf = e i }

  leaf_fills : (ls ms : List LabelFill) → map (label_name p) ls ≡ map (label_name p) ms → map (seen_label p w) ls ≡ map (seen_label p w') ms → map (leaf_fill p w) ls ≡ map (leaf_fill p w') ms
  leaf_fills [] [] n e = refl
  leaf_fills [] (m ∷ ms) n e = absurd (nil_cons (seen_label p w' m) (map (seen_label p w') ms) e)
  leaf_fills (l ∷ ls) [] n e = absurd (nil_cons (seen_label p w l) (map (seen_label p w) ls) (sym e))
  leaf_fills (l ∷ ls) (m ∷ ms) n e =
      let here : leaf_fill p w l ≡ leaf_fill p w' m = leaf_fill_same l m (cons_head (label_name p l) (label_name p m) (map (label_name p) ls) (map (label_name p) ms) n) (same_leaf l m (cons_head (seen_label p w l) (seen_label p w' m) (map (seen_label p w) ls) (map (seen_label p w') ms) e)) in
      λ i. here i ∷ leaf_fills ls ms (cons_tail (label_name p l) (label_name p m) (map (label_name p) ls) (map (label_name p) ms) n) (cons_tail (seen_label p w l) (seen_label p w' m) (map (seen_label p w) ls) (map (seen_label p w') ms) e) i

  slot_same : (f g : SlotFill) → slot_name f ≡ slot_name g → seen_slot p w f ≡ seen_slot p w' g → f ≡ g
  unfolding slot_in
  slot_same f g n e i = record { epoch = (n i).epoch; bucket = (n i).bucket; number = (n i).number; version = (n i).version; slot = ap slot_in e i }

  slot_fills : (fs gs : List SlotFill) → map slot_name fs ≡ map slot_name gs → map (seen_slot p w) fs ≡ map (seen_slot p w') gs → fs ≡ gs
  slot_fills [] [] n e = refl
  slot_fills [] (g ∷ gs) n e = absurd (nil_cons (slot_name g) (map slot_name gs) n)
  slot_fills (f ∷ fs) [] n e = absurd (nil_cons (slot_name f) (map slot_name fs) (sym n))
  slot_fills (f ∷ fs) (g ∷ gs) n e =
      let here : f ≡ g = slot_same f g (cons_head (slot_name f) (slot_name g) (map slot_name fs) (map slot_name gs) n) (cons_head (seen_slot p w f) (seen_slot p w' g) (map (seen_slot p w) fs) (map (seen_slot p w') gs) e) in
      λ i. here i ∷ slot_fills fs gs (cons_tail (slot_name f) (slot_name g) (map slot_name fs) (map slot_name gs) n) (cons_tail (seen_slot p w f) (seen_slot p w' g) (map (seen_slot p w) fs) (map (seen_slot p w') gs) e) i

module _ (p : Params) (some : 0 < p.dummies) (w w' : WordId → ℕ) where
  all_seen : (e e' : ℕ) (slots slots' : VersionSlots) (s s' : LifeState) (one other : List LifeWork) → SameShape one other → Alike p some w w' s s' → IsLife p w s (acts_of e slots one) → IsLife p w' s' (acts_of e' slots' other) →
      seen_of_acts p w s (acts_of e slots one) ≡ seen_of_acts p w' s' (acts_of e' slots' other) → fills_of_acts p w s (acts_of e slots one) ≡ fills_of_acts p w' s' (acts_of e' slots' other)
  all_seen e e' slots slots' s s' [] [] sh a life life' h = refl
  all_seen e e' slots slots' s s' [] (y ∷ other) sh a life life' h = absurd sh
  all_seen e e' slots slots' s s' (x ∷ one) [] sh a life life' h = absurd sh
  all_seen e e' slots slots' s s' (Opens g ∷ one) (Opens g' ∷ other) sh a life life' h =
      ap (λ (fs : List ActFills). record { leaves = []; slots = [] } ∷ fs) (all_seen e e' slots slots' (life_step p w s (Open g)) (life_step p w' s' (Open g')) one other sh.1 (open_keeps p some w w' s s' a g g' life.0 life'.0) life.1 life'.1 (cons_tail [] [] _ _ h))
  all_seen e e' slots slots' s s' (Logs asks first ∷ one) (Logs others start ∷ other) sh a life life' h =
      let r : LifeBatch = record { asks = asks; first = first } in
      let r' : LifeBatch = record { asks = others; first = start } in
      ap (λ (fs : List ActFills). record { leaves = []; slots = [] } ∷ fs) (all_seen e e' slots slots' (life_step p w s (Append r)) (life_step p w' s' (Append r')) one other sh.1 (append_keeps p some w w' s s' a r r' sh.0.0 life.0 life'.0) life.1 life'.1 (cons_tail [] [] _ _ h))
  all_seen e e' slots slots' s s' (Shows ∷ one) (Shows ∷ other) sh a life life' h =
      let L : List LabelFill = labels_shown p w s ShowBatch in
      let L' : List LabelFill = labels_shown p w' s' ShowBatch in
      let S : List SlotFill = slots_shown p w s ShowBatch in
      let S' : List SlotFill = slots_shown p w' s' ShowBatch in
      let named : map (label_name p) L ≡ map (label_name p) L' = names_shown p w w' s s' a.holes in
      let many : length (map (seen_label p w) L) ≡ length (map (seen_label p w') L') = length-map L (seen_label p w) ∙ sym (length-map L (label_name p)) ∙ ap length named ∙ length-map L' (label_name p) ∙ sym (length-map L' (seen_label p w')) in
      let row : map (seen_label p w) L ++ map (seen_slot p w) S ≡ map (seen_label p w') L' ++ map (seen_slot p w') S' = cons_head _ _ _ _ h in
      let parts = rows_split (map (seen_label p w) L) (map (seen_label p w') L') (map (seen_slot p w) S) (map (seen_slot p w') S') many row in
      let now : Known p some w w' s s' s.begun = now_known p some w w' s s' a (leaves_from_seen p w w' L L' parts.0) in
      let labels : map (leaf_fill p w) L ≡ map (leaf_fill p w') L' = leaf_fills p w w' L L' named parts.0 in
      let places : S ≡ S' = slot_fills p w w' S S' (batch_names p some w w' s s' a life.0 now) parts.1 in
      let rest = all_seen e e' slots slots' (life_step p w s ShowBatch) (life_step p w' s' ShowBatch) one other sh.1 (shows_keep p some w w' s s' a life.0 life'.0 now) life.1 life'.1 (cons_tail _ _ _ _ h) in
      λ i. record { leaves = labels i; slots = places i } ∷ rest i
  all_seen e e' slots slots' s s' (Lifts ∷ one) (Lifts ∷ other) sh a life life' h =
      let places : slots_shown p w s ShowLifts ≡ slots_shown p w' s' ShowLifts = slot_fills p w w' (slots_shown p w s ShowLifts) (slots_shown p w' s' ShowLifts) (lift_names p some w w' s s' a life.0) (cons_head _ _ _ _ h) in
      let rest = all_seen e e' slots slots' (life_step p w s ShowLifts) (life_step p w' s' ShowLifts) one other sh.1 (lifts_keep p some w w' s s' a life.0 life'.0) life.1 life'.1 (cons_tail _ _ _ _ h) in
      λ i. record { leaves = []; slots = places i } ∷ rest i
  all_seen e e' slots slots' s s' (Ends ws n ∷ one) (Ends vs m ∷ other) sh a life life' h =
      ap (λ (fs : List ActFills). record { leaves = []; slots = [] } ∷ fs) (all_seen (e + 1) (e' + 1) slots slots' (life_step p w s (End ws n (slots (e + 1)))) (life_step p w' s' (End vs m (slots' (e' + 1)))) one other sh.1
      (end_keeps p some w w' s s' a ws vs n m (slots (e + 1)) (slots' (e' + 1)) life.0 life'.0) life.1 life'.1 (cons_tail [] [] _ _ h))
  all_seen e e' slots slots' s s' (x ∷ one) (y ∷ other) sh a life life' h = absurd sh.0

pub seen_is_all : SeenIsAll
seen_is_all p one other w w' slots slots' some sh ranked ranked' life life' h = all_seen p some w w' 0 0 slots slots' (formatted_life (slots 0)) (formatted_life (slots' 0)) one other sh (at_first p some w w' slots slots' ranked ranked') life life' h
