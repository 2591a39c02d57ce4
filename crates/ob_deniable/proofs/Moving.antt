-- A life of the one work is a life of the other: each end fills what the other's fills, with rankings moved along.
use Rattle.std.specs.Prelude.{◌≡◌, ℕ, ◌+◌, ◌<◌, ◌≤◌, List, [], ◌∷◌, ◌++◌, map, length, Option}
use Rattle.std.proofs.Common.{refl, sym, ap, subst, ◌∙◌, inr, arith}
use Rattle.std.proofs.lemmas.List.{map-append, length-map}
use Rattle.ob_tables.specs.Rank.{IsRanking}
use Rattle.ob_base.specs.declared.params.Params.{Params}
use Rattle.ob_ring.specs.FlatTable.{FinalLifts, Writes, Refill, after}
use Rattle.ob_recover.specs.Life.{WordId, LifeBatch, LifeState, Open, Append, ShowBatch, ShowLifts, End, LabelFill, AreDrawn, IsLife, is_table_lifted, leaf_write, life_labels, labels_shown, life_step, table_after, table_now, book_now}
use Rattle.ob_deniable.specs.Works.{own_slots, LifeWork, Opens, Logs, Shows, Lifts, Ends, VersionSlots, acts_of, SameShape}
use Rattle.ob_deniable.proofs.Pairs.{rows_split}
use Rattle.ob_deniable.proofs.Shapes.{label_name, names_shown}
use Rattle.ob_deniable.proofs.Tables.{leaf, leaf', Faces, up_same}
use Rattle.ob_deniable.proofs.Acts.{Alike, Known, open_keeps, append_keeps, shows_keep, lifts_keep, end_keeps, now_known, faces_now}

-- the same but for slots
pub record Follows (s s0 : LifeState) : Type 0 where
  pub epoch : s.epoch ≡ s0.epoch
  pub generation : s.generation ≡ s0.generation
  pub drawn : s.drawn ≡ s0.drawn
  pub begun : s.begun ≡ s0.begun
  pub lifting : s.lifting ≡ s0.lifting
  pub log : s.log ≡ s0.log
  pub table : s.content.table ≡ s0.content.table

module _ (p : Params) (w : WordId → ℕ) where
  table_follows : (s s0 : LifeState) → Follows s s0 → table_now p w s ≡ table_now p w s0
  table_follows s s0 f i = table_after p w (f.table i) (f.log i)

  up_follows : (s s0 : LifeState) → Follows s s0 → (u : ℕ) → is_table_lifted p w s u ≡ is_table_lifted p w s0 u
  up_follows s s0 f u i = (after p (table_follows s s0 f i) FinalLifts).lifted u

  append_follows : (s s0 : LifeState) (r : LifeBatch) → Follows s s0 → Follows (life_step p w s (Append r)) (life_step p w s0 (Append r))
  append_follows s s0 r f = record { epoch = f.epoch; generation = f.generation; drawn = refl; begun = f.begun; lifting = f.lifting; log = ap (λ (l : List LifeBatch). l ++ r ∷ []) f.log; table = f.table }

  shows_follow : (s s0 : LifeState) → Follows s s0 → Follows (life_step p w s ShowBatch) (life_step p w s0 ShowBatch)
  shows_follow s s0 f = record { epoch = f.epoch; generation = f.generation; drawn = f.drawn; begun = ap (λ (n : ℕ). n + 1) f.begun; lifting = f.lifting; log = f.log; table = f.table }

  lifts_follow : (s s0 : LifeState) → Follows s s0 → Follows (life_step p w s ShowLifts) (life_step p w s0 ShowLifts)
  lifts_follow s s0 f = record { epoch = f.epoch; generation = f.generation; drawn = f.drawn; begun = ap (λ (n : ℕ). n + 1) f.begun; lifting = refl; log = f.log; table = f.table }

  end_follows : (s s0 : LifeState) (ws : List (ℕ × Option WordId)) (n : ℕ) (slot slot0 : ℕ → ℕ → ℕ) → Follows s s0 → Follows (life_step p w s (End ws n slot)) (life_step p w s0 (End ws n slot0))
  end_follows s s0 ws n slot slot0 f = record {
    epoch = ap (λ (n : ℕ). n + 1) f.epoch;
    generation = f.generation;
    drawn = refl;
    begun = refl;
    lifting = refl;
    log = refl;
    table = λ i. after p (after p (after p (table_follows s s0 f i) FinalLifts) (Writes (map (leaf_write p w) ws))) Refill;
  }

module _ (p : Params) (some : 0 < p.dummies) (w w' : WordId → ℕ) where
  pub life_moved : (e : ℕ) (slots slots' : VersionSlots) (s s0 t0 t : LifeState) (one other : List LifeWork) → SameShape one other → Follows s s0 → Follows t t0 → Alike p some w w' s0 t0 →
      ((v u : ℕ) → IsRanking (p.real + p.dummies) (slots v u) → IsRanking (p.real + p.dummies) (slots' v u)) →
      IsLife p w s (acts_of e slots one) → IsLife p w s0 (acts_of e own_slots one) → IsLife p w' t0 (acts_of e own_slots other) →
      map (leaf p some w w') (life_labels p w s0 (acts_of e own_slots one)) ≡ map (leaf' p some w w') (life_labels p w' t0 (acts_of e own_slots other)) → IsLife p w' t (acts_of e slots' other)
  life_moved e slots slots' s s0 t0 t [] [] sh f g a r life own own' h = tt
  life_moved e slots slots' s s0 t0 t [] (y ∷ other) sh f g a r life own own' h = absurd sh
  life_moved e slots slots' s s0 t0 t (x ∷ one) [] sh f g a r life own own' h = absurd sh
  life_moved e slots slots' s s0 t0 t (Opens x ∷ one) (Opens y ∷ other) sh f g a r life own own' h =
      let was : t0.generation < y = own'.0 in
      let same : t.generation ≡ t0.generation = g.generation in (
        (omega arith),
        life_moved e slots slots' (life_step p w s (Open x)) (life_step p w s0 (Open x)) (life_step p w' t0 (Open y)) (life_step p w' t (Open y)) one other sh.1
            (record { epoch = f.epoch; generation = refl; drawn = refl; begun = refl; lifting = f.lifting; log = f.log; table = f.table }) (record { epoch = g.epoch; generation = refl; drawn = refl; begun = refl; lifting = g.lifting; log = g.log; table = g.table })
            (open_keeps p some w w' s0 t0 a x y own.0 own'.0) r life.1 own.1 own'.1 h,
      )
  life_moved e slots slots' s s0 t0 t (Logs asks first ∷ one) (Logs others start ∷ other) sh f g a r life own own' h =
      let b : LifeBatch = record { asks = asks; first = first } in
      let b' : LifeBatch = record { asks = others; first = start } in
      let room : length t0.log < p.batches = own'.0.0 in
      let long : length t.log ≡ length t0.log = ap length g.log in
      let free : t0.drawn ≤ start.place = own'.0.2 in
      let drawn : t.drawn ≡ t0.drawn = g.drawn in (
        ((omega arith), own'.0.1 ∙ sym g.generation, (omega arith)),
        life_moved e slots slots' (life_step p w s (Append b)) (life_step p w s0 (Append b)) (life_step p w' t0 (Append b')) (life_step p w' t (Append b')) one other sh.1
            (append_follows p w s s0 b f) (append_follows p w' t t0 b' g) (append_keeps p some w w' s0 t0 a b b' sh.0.0 own.0 own'.0) r life.1 own.1 own'.1 h,
      )
  life_moved e slots slots' s s0 t0 t (Shows ∷ one) (Shows ∷ other) sh f g a r life own own' h =
      let L : List LabelFill = labels_shown p w s0 ShowBatch in
      let L' : List LabelFill = labels_shown p w' t0 ShowBatch in
      let more : List LabelFill = life_labels p w (life_step p w s0 ShowBatch) (acts_of e own_slots one) in
      let more' : List LabelFill = life_labels p w' (life_step p w' t0 ShowBatch) (acts_of e own_slots other) in
      let many : length (map (leaf p some w w') L) ≡ length (map (leaf' p some w w') L') = length-map L (leaf p some w w') ∙ sym (length-map L (label_name p)) ∙ ap length (names_shown p w w' s0 t0 a.holes) ∙ length-map L' (label_name p) ∙ sym (length-map L' (leaf' p some w w')) in
      let parts = rows_split (map (leaf p some w w') L) (map (leaf' p some w w') L') (map (leaf p some w w') more) (map (leaf' p some w w') more') many (sym (map-append (leaf p some w w') L more) ∙ h ∙ map-append (leaf' p some w w') L' more') in
      let now : Known p some w w' s0 t0 s0.begun = now_known p some w w' s0 t0 a parts.0 in
      let low : t0.begun < length t0.log = own'.0 in
      let begun : t.begun ≡ t0.begun = g.begun in
      let long : length t.log ≡ length t0.log = ap length g.log in (
        (omega arith),
        life_moved e slots slots' (life_step p w s ShowBatch) (life_step p w s0 ShowBatch) (life_step p w' t0 ShowBatch) (life_step p w' t ShowBatch) one other sh.1
            (shows_follow p w s s0 f) (shows_follow p w' t t0 g) (shows_keep p some w w' s0 t0 a own.0 own'.0 now) r life.1 own.1 own'.1 parts.1,
      )
  life_moved e slots slots' s s0 t0 t (Lifts ∷ one) (Lifts ∷ other) sh f g a r life own own' h = (
    (ap length g.log ∙ own'.0.0, g.begun ∙ own'.0.1),
    life_moved e slots slots' (life_step p w s ShowLifts) (life_step p w s0 ShowLifts) (life_step p w' t0 ShowLifts) (life_step p w' t ShowLifts) one other sh.1
        (lifts_follow p w s s0 f) (lifts_follow p w' t t0 g) (lifts_keep p some w w' s0 t0 a own.0 own'.0) r life.1 own.1 own'.1 h,
  )
  life_moved e slots slots' s s0 t0 t (Ends ws n ∷ one) (Ends vs m ∷ other) sh f g a r life own own' h =
      let faces : Faces p some w w' (table_now p w s0) (table_now p w' t0) (book_now p w s0) (book_now p w' t0) = faces_now p some w w' s0 t0 a (λ k. a.known k (inr own.0.0)) in
      let up : (u : ℕ) → is_table_lifted p w s u ≡ is_table_lifted p w' t u = λ u. up_follows p w s s0 f u ∙ up_same p some w w' (table_now p w s0) (table_now p w' t0) (book_now p w s0) (book_now p w' t0) faces u ∙ sym (up_follows p w' t t0 g u) in (
        (g.lifting ∙ own'.0.0, ap length g.log ∙ own'.0.1, subst (λ (k : ℕ). AreDrawn p w' t.generation k vs m) (sym g.drawn) (subst (λ (k : ℕ). AreDrawn p w' k t0.drawn vs m) (sym g.generation) own'.0.2), λ u on. r (e + 1) u (life.0.3 u (up u ∙ on))),
        life_moved (e + 1) slots slots' (life_step p w s (End ws n (slots (e + 1)))) (life_step p w s0 (End ws n (own_slots (e + 1)))) (life_step p w' t0 (End vs m (own_slots (e + 1)))) (life_step p w' t (End vs m (slots' (e + 1)))) one other sh.1
            (end_follows p w s s0 ws n (slots (e + 1)) (own_slots (e + 1)) f) (end_follows p w' t t0 vs m (slots' (e + 1)) (own_slots (e + 1)) g) (end_keeps p some w w' s0 t0 a ws vs n m (own_slots (e + 1)) (own_slots (e + 1)) own.0 own'.0) r life.1 own.1 own'.1 h,
      )
  life_moved e slots slots' s s0 t0 t (x ∷ one) (y ∷ other) sh f g a r life own own' h = absurd sh.0
