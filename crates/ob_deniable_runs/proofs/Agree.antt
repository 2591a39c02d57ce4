-- Two tapes that agree in the words of records and of puts have the same lives, in which the same holes are filled with the same.
use Rattle.std.specs.Prelude.{◌≡◌, ℕ, ◌+◌, ◌-◌, ◌^◌, ◌%◌, ◌==◌, false, cond, List, [], ◌∷◌, ◌++◌, map, Option, ⊤}
use Rattle.std.specs.declared.option.Option.TheVariants.{None, Some}
use Rattle.std.proofs.Common.{zero, suc, refl, sym, ap, subst, ◌∙◌, inl, inr}
use Rattle.ob_base.specs.declared.params.Params.{Params}
use Rattle.ob_ring.specs.FlatTable.{FlatTable, FinalLifts, Writes, Refill, after, after_batch, after_label, asks_for, batch_shown, final_shown, shown_label}
use Rattle.ob_schedule.specs.Paths.{eviction_path}
use Rattle.ob_recover.specs.Life.{WordId, LifeAct, LifeBatch, LifeContent, LifeState, Open, Append, ShowBatch, ShowLifts, End, LabelFill, SlotFill, IsActAllowed, IsLife, batch_places, book_after, book_after_log, book_now, book_written, labels_of, labels_shown, leaf_of_put, leaf_write, leaves, life_step}
use Rattle.ob_recover.specs.Life.{lift_slots, log_labels, log_slots, phase_labels, phase_slots, planned_slots, slots_of, slots_shown, table_after, table_now}
use Rattle.ob_recover.proofs.LabelLaws.{label_from, put_from, rebound_from}
use Rattle.ob_deniable.specs.Telling.{ActFills, fills_of_acts, leaf_fill}
use Rattle.ob_deniable.proofs.Shapes.{drawn_any}

module _ (p : Params) (w w' : WordId → ℕ) where
  abbrev pub AreAgreed : List (Option ℕ × WordId) → Type 0
  AreAgreed [] = ⊤
  AreAgreed (a ∷ rest) = (w a.1 ≡ w' a.1) × AreAgreed rest

  abbrev pub IsLogAgreed : List LifeBatch → Type 0
  IsLogAgreed [] = ⊤
  IsLogAgreed (r ∷ rs) = AreAgreed (batch_places r) × IsLogAgreed rs

  abbrev pub IsPutAgreed : Option WordId → Type 0
  IsPutAgreed o = (v : WordId) → o ≡ Some v → w v ≡ w' v

  abbrev pub ArePutsAgreed : List (ℕ × Option WordId) → Type 0
  ArePutsAgreed [] = ⊤
  ArePutsAgreed (x ∷ ws) = IsPutAgreed x.1 × ArePutsAgreed ws

  abbrev pub IsActAgreed : LifeAct → Type 0
  IsActAgreed (Append r) = AreAgreed (batch_places r)
  IsActAgreed (End ws drawn slot) = ArePutsAgreed ws
  IsActAgreed a = ⊤

  abbrev pub AreActsAgreed : List LifeAct → Type 0
  AreActsAgreed [] = ⊤
  AreActsAgreed (a ∷ rest) = IsActAgreed a × AreActsAgreed rest

  abbrev pub IsBookAgreed : (ℕ → Option WordId) → Type 0
  IsBookAgreed book = (k : ℕ) → IsPutAgreed (book k)

  -- ---- tables

  leaves_same : (places : List (Option ℕ × WordId)) → AreAgreed places → leaves p w places ≡ leaves p w' places
  leaves_same [] h = refl
  leaves_same (a ∷ rest) h = λ i. (a.0, h.0 i % 2 ^ p.levels) ∷ leaves_same rest h.1 i

  table_same : (t : FlatTable) (log : List LifeBatch) → IsLogAgreed log → table_after p w t log ≡ table_after p w' t log
  table_same t [] h = refl
  table_same t (r ∷ rs) h = (λ i. table_after p w (after_batch p t (leaves_same (batch_places r) h.0 i)) rs) ∙ table_same (after_batch p t (leaves p w' (batch_places r))) rs h.1

  put_same : (o : Option WordId) → IsPutAgreed o → leaf_of_put p w o ≡ leaf_of_put p w' o
  put_same None h = refl
  put_same (Some v) h = λ i. Some (h v refl i % 2 ^ p.levels)

  writes_same : (ws : List (ℕ × Option WordId)) → ArePutsAgreed ws → map (leaf_write p w) ws ≡ map (leaf_write p w') ws
  writes_same [] h = refl
  writes_same (x ∷ ws) h = λ i. (x.0, put_same x.1 h.0 i) ∷ writes_same ws h.1 i

  -- ---- ids and slots

  phase_labels_same : (e b : ℕ) (book : ℕ → Option WordId) (log : List LifeBatch) (n : ℕ) → phase_labels p w e b book log n ≡ phase_labels p w' e b book log n
  phase_labels_same e b book [] n = refl
  phase_labels_same e b book (r ∷ log) zero = refl
  phase_labels_same e b book (r ∷ log) (suc n) = phase_labels_same e (b + 1) (book_after book (batch_places r)) log n

  log_labels_same : (e b : ℕ) (book : ℕ → Option WordId) (log : List LifeBatch) → log_labels p w e b book log ≡ log_labels p w' e b book log
  log_labels_same e b book [] = refl
  log_labels_same e b book (r ∷ log) = ap (λ (ls : List LabelFill). labels_of e b 0 book (batch_places r) ++ ls) (log_labels_same e (b + 1) (book_after book (batch_places r)) log)

  book_same : (book : ℕ → Option WordId) (log : List LifeBatch) → book_after_log p w book log ≡ book_after_log p w' book log
  book_same book [] = refl
  book_same book (r ∷ log) = book_same (book_after book (batch_places r)) log

  written_same : (book : ℕ → Option WordId) (ws : List (ℕ × Option WordId)) → book_written p w book ws ≡ book_written p w' book ws
  written_same book [] = refl
  written_same book (x ∷ ws) = written_same (λ k. cond (k == x.0) x.1 (book k)) ws

  log_slots_same : (e : ℕ) (c : LifeContent) (t : FlatTable) (log : List LifeBatch) → IsLogAgreed log → log_slots p w e c t log ≡ log_slots p w' e c t log
  log_slots_same e c t [] h = refl
  log_slots_same e c t (r ∷ rs) h =
      (λ i. slots_of e c (batch_shown p t (leaves_same (batch_places r) h.0 i)) ++ log_slots p w e c (after_batch p t (leaves_same (batch_places r) h.0 i)) rs)
      ∙ ap (λ (fs : List SlotFill). slots_of e c (batch_shown p t (leaves p w' (batch_places r))) ++ fs) (log_slots_same e c (after_batch p t (leaves p w' (batch_places r))) rs h.1)

  phase_slots_same : (e : ℕ) (c : LifeContent) (t : FlatTable) (log : List LifeBatch) (n : ℕ) → IsLogAgreed log → phase_slots p w e c t log n ≡ phase_slots p w' e c t log n
  phase_slots_same e c t [] n h = refl
  phase_slots_same e c t (r ∷ rs) zero h = λ i. slots_of e c (batch_shown p t (leaves_same (batch_places r) h.0 i))
  phase_slots_same e c t (r ∷ rs) (suc n) h = (λ i. phase_slots p w e c (after_batch p t (leaves_same (batch_places r) h.0 i)) rs n) ∙ phase_slots_same e c (after_batch p t (leaves p w' (batch_places r))) rs n h.1

  module _ (s : LifeState) (logged : IsLogAgreed s.log) where
    now_same : table_now p w s ≡ table_now p w' s
    now_same = table_same s.content.table s.log logged

    lift_same : lift_slots p w (s.epoch + 1) s.content (table_now p w s) ≡ lift_slots p w' (s.epoch + 1) s.content (table_now p w' s)
    lift_same i = slots_of (s.epoch + 1) s.content (final_shown p (now_same i) (eviction_path p (now_same i).counter))

    pub slots_same : (a : LifeAct) → slots_shown p w s a ≡ slots_shown p w' s a
    slots_same (Open g) = refl
    slots_same (Append r) = refl
    slots_same ShowBatch = phase_slots_same (s.epoch + 1) s.content s.content.table s.log s.begun logged
    slots_same ShowLifts = lift_same
    slots_same (End ws drawn slot) = refl

    planned_same : planned_slots p w s ≡ planned_slots p w' s
    planned_same i = s.past_slots ++ (log_slots_same (s.epoch + 1) s.content s.content.table s.log logged i ++ cond s.lifting (lift_same i) [])

    pub step_same : (a : LifeAct) → IsActAgreed a → life_step p w s a ≡ life_step p w' s a
    step_same (Open g) h = refl
    step_same (Append r) h = refl
    step_same ShowBatch h = refl
    step_same ShowLifts h = refl
    step_same (End ws drawn slot) h = λ i. record {
      epoch = s.epoch + 1;
      content = record {
        table = after p (after p (after p (now_same i) FinalLifts) (Writes (writes_same ws h i))) Refill;
        book = (ap (λ (book : ℕ → Option WordId). book_written p w book ws) (book_same s.content.book s.log) ∙ written_same (book_after_log p w' s.content.book s.log) ws) i;
        version = λ u. cond ((after p (now_same i) FinalLifts).lifted u) (s.epoch + 1) (s.content.version u);
        slot = λ u. cond ((after p (now_same i) FinalLifts).lifted u) (slot u) (s.content.slot u);
        home = λ u. cond ((after p (now_same i) FinalLifts).lifted u) (1 - s.content.home u) (s.content.home u);
      };
      log = [];
      lifting = false;
      generation = s.generation;
      drawn = drawn;
      begun = 0;
      past_labels = s.past_labels ++ log_labels_same (s.epoch + 1) 0 s.content.book s.log i;
      past_slots = planned_same i;
    }

    pub allowed_same : (a : LifeAct) → IsActAllowed p w s a → IsActAllowed p w' s a
    allowed_same (Open g) ok = ok
    allowed_same (Append r) ok = ok
    allowed_same ShowBatch ok = ok
    allowed_same ShowLifts ok = ok
    allowed_same (End ws drawn slot) ok = (ok.0, ok.1, drawn_any p w w' s.generation s.drawn ws drawn ok.2, λ u on. ok.3 u ((λ i. (after p (now_same i) FinalLifts).lifted u) ∙ on))

  -- ---- labels

  label_agreed : (book : ℕ → Option WordId) (ask : Option ℕ) (own : WordId) → IsBookAgreed book → w own ≡ w' own → w (shown_label book ask own) ≡ w' (shown_label book ask own)
  label_agreed book ask own held new = elim (label_from book ask own) [
    | inl same ↦ subst (λ (v : WordId). w v ≡ w' v) (sym same) new
    | inr old ↦ held old.0 (shown_label book ask own) old.2
  ]

  label_keeps : (book : ℕ → Option WordId) (ask : Option ℕ) (own : WordId) → IsBookAgreed book → w own ≡ w' own → IsBookAgreed (after_label book ask own)
  label_keeps book ask own held new k v e = elim (rebound_from (asks_for ask k) own (book k) v e) [
    | inl now ↦ subst (λ (v : WordId). w v ≡ w' v) now.1 new
    | inr old ↦ held k v old.1
  ]

  labels_filled : (e b i : ℕ) (book : ℕ → Option WordId) (places : List (Option ℕ × WordId)) → IsBookAgreed book → AreAgreed places → map (leaf_fill p w) (labels_of e b i book places) ≡ map (leaf_fill p w') (labels_of e b i book places)
  labels_filled e b i book [] held h = refl
  labels_filled e b i book (a ∷ rest) held h =
      λ j. record { epoch = e; batch = b; place = i; leaf = label_agreed book a.0 a.1 held h.0 j % 2 ^ p.levels } ∷ labels_filled e b (i + 1) (after_label book a.0 a.1) rest (label_keeps book a.0 a.1 held h.0) h.1 j

  places_keep : (book : ℕ → Option WordId) (places : List (Option ℕ × WordId)) → IsBookAgreed book → AreAgreed places → IsBookAgreed (book_after book places)
  places_keep book [] held h = held
  places_keep book (a ∷ rest) held h = places_keep (after_label book a.0 a.1) rest (label_keeps book a.0 a.1 held h.0) h.1

  log_keeps : (book : ℕ → Option WordId) (log : List LifeBatch) → IsBookAgreed book → IsLogAgreed log → IsBookAgreed (book_after_log p w book log)
  log_keeps book [] held h = held
  log_keeps book (r ∷ rs) held h = log_keeps (book_after book (batch_places r)) rs (places_keep book (batch_places r) held h.0) h.1

  puts_keep : (book : ℕ → Option WordId) (ws : List (ℕ × Option WordId)) → IsBookAgreed book → ArePutsAgreed ws → IsBookAgreed (book_written p w book ws)
  puts_keep book [] held h = held
  puts_keep book (x ∷ ws) held h = puts_keep (λ k. cond (k == x.0) x.1 (book k)) ws (λ k v e. elim (put_from (k == x.0) x.1 (book k) v e) [ inl put ↦ h.0 v put.1 | inr old ↦ held k v old.1 ]) h.1

  phase_filled : (e b : ℕ) (book : ℕ → Option WordId) (log : List LifeBatch) (n : ℕ) → IsBookAgreed book → IsLogAgreed log → map (leaf_fill p w) (phase_labels p w e b book log n) ≡ map (leaf_fill p w') (phase_labels p w' e b book log n)
  phase_filled e b book [] n held h = refl
  phase_filled e b book (r ∷ rs) zero held h = labels_filled e b 0 book (batch_places r) held h.0
  phase_filled e b book (r ∷ rs) (suc n) held h = phase_filled e (b + 1) (book_after book (batch_places r)) rs n (places_keep book (batch_places r) held h.0) h.1

  logs_more : (log : List LifeBatch) (r : LifeBatch) → IsLogAgreed log → AreAgreed (batch_places r) → IsLogAgreed (log ++ r ∷ [])
  logs_more [] r h now = (now, tt)
  logs_more (x ∷ log) r h now = (h.0, logs_more log r h.1 now)

  -- ---- lives

  abbrev pub IsAgreedLife : LifeState → List LifeAct → Type 0
  IsAgreedLife s acts = IsLife p w' s acts × (fills_of_acts p w s acts ≡ fills_of_acts p w' s acts)

  onward : (s : LifeState) (a : LifeAct) (rest : List LifeAct) → IsLogAgreed s.log → IsActAgreed a → IsActAllowed p w s a → map (leaf_fill p w) (labels_shown p w s a) ≡ map (leaf_fill p w') (labels_shown p w' s a) → IsAgreedLife (life_step p w s a) rest → IsAgreedLife s (a ∷ rest)
  onward s a rest logged agreed ok labels more =
      let step : life_step p w s a ≡ life_step p w' s a = step_same s logged a agreed in
      let there : IsAgreedLife (life_step p w' s a) rest = subst (λ (t : LifeState). IsAgreedLife t rest) step more in (
        (allowed_same s logged a ok, there.0),
        (λ i. record { leaves = labels i; slots = slots_same s logged a i } ∷ fills_of_acts p w (step i) rest) ∙ ap (λ (fs : List ActFills). record { leaves = map (leaf_fill p w') (labels_shown p w' s a); slots = slots_shown p w' s a } ∷ fs) there.1,
      )

  pub lives_agree : (s : LifeState) (acts : List LifeAct) → IsBookAgreed s.content.book → IsLogAgreed s.log → AreActsAgreed acts → IsLife p w s acts → IsAgreedLife s acts
  lives_agree s [] held logged agreed life = (tt, refl)
  lives_agree s (Open g ∷ rest) held logged agreed life = onward s (Open g) rest logged tt life.0 refl (lives_agree (life_step p w s (Open g)) rest held logged agreed.1 life.1)
  lives_agree s (Append r ∷ rest) held logged agreed life = onward s (Append r) rest logged agreed.0 life.0 refl (lives_agree (life_step p w s (Append r)) rest held (logs_more s.log r logged agreed.0) agreed.1 life.1)
  lives_agree s (ShowBatch ∷ rest) held logged agreed life =
      onward s ShowBatch rest logged tt life.0 (phase_filled (s.epoch + 1) 0 s.content.book s.log s.begun held logged) (lives_agree (life_step p w s ShowBatch) rest held logged agreed.1 life.1)
  lives_agree s (ShowLifts ∷ rest) held logged agreed life = onward s ShowLifts rest logged tt life.0 refl (lives_agree (life_step p w s ShowLifts) rest held logged agreed.1 life.1)
  lives_agree s (End ws drawn slot ∷ rest) held logged agreed life =
      onward s (End ws drawn slot) rest logged agreed.0 life.0 refl
      (lives_agree (life_step p w s (End ws drawn slot)) rest (puts_keep (book_now p w s) ws (log_keeps s.content.book s.log held logged) agreed.0) tt agreed.1 life.1)
