-- What is public of two tables is the same while their leaves are: counts, lifted buckets, and which holes come.
use Rattle.std.specs.Prelude.{◌≡◌, ℕ, ◌+◌, ◌-◌, ◌^◌, ◌<◌, ◌≤◌, nat_le, Bool, true, false, cond, ◌||◌, List, [], ◌∷◌, map, length, Option}
use Rattle.std.specs.List.{count_by}
use Rattle.std.proofs.Common.{zero, suc, arith, refl, sym, ap, subst, ◌∙◌}
use Rattle.std.proofs.lemmas.Bool.{leb-false, lt-leb}
use Rattle.ob_base.specs.declared.params.Params.{Params}
use Rattle.ob_base.specs.Tree.{passes}
use Rattle.ob_schedule.specs.Paths.{is_one_of, eviction_path}
use Rattle.ob_schedule.specs.Holes.{Hole, batch_holes, final_holes}
use Rattle.ob_ring.specs.FlatTable.{FlatTable, Shown, FinalLifts, after, after_batch, after_final, after_writes, batch_shown, final_shown, leaves_shown}
use Rattle.ob_ring.specs.FlatTable.{refill_order}
use Rattle.ob_ring.specs.News.{Marks}
use Rattle.ob_ring.specs.Sound.{IsSound, IsCounted, hole_of}
use Rattle.ob_ring.proofs.Batches.{BatchLaw, batch_law, FinalLaw, final_law, final_holes_law}
use Rattle.ob_recover.specs.Life.{WordId, LifeBatch, LifeContent, LifeState, LabelFill, SlotFill, batch_places, labels_of, book_after, book_after_log, book_written, leaf_of_word, leaf_write, leaves, phase_labels, phase_slots, lift_slots, slots_of, table_after, table_now, book_now}
use Rattle.ob_recover.proofs.BookLaws.{IsBookOf, book_batch, book_end, label_leaves}
use Rattle.ob_recover.proofs.EndLaws.{EndLaw, end_law, ended_table, up_of, count_ended}
use Rattle.ob_recover.proofs.LifeSlots.{AreSlotsSound, puts_low}
use Rattle.ob_recover.proofs.Ending.{batch_counter}
use Rattle.ob_stand.proofs.Counts.{fills_counter, writes_counter}
use Rattle.ob_deniable.proofs.Shapes.{AreLogsAlike}

-- ---- the counter

ended_counter : (p : Params) (t : FlatTable) (ws : List (ℕ × Option ℕ)) → (ended_table p t ws).counter ≡ (after p t FinalLifts).counter
ended_counter p t ws = fills_counter p (after_writes (after p t FinalLifts) ws) (refill_order p (after_writes (after p t FinalLifts) ws)) ∙ writes_counter (after p t FinalLifts) ws

-- ---- names of slot holes

abbrev pub slot_name : SlotFill → SlotFill
slot_name f = record f { slot = 0 }

abbrev name_at : ℕ → (ℕ → ℕ) → Hole → SlotFill
name_at e version h = record { epoch = e; bucket = h.bucket; number = h.number; version = version h.bucket; slot = 0 }

slots_named : (e : ℕ) (c : LifeContent) (ss : List Shown) → map slot_name (slots_of e c ss) ≡ map (name_at e c.version) (map hole_of ss)
slots_named e c [] = refl
slots_named e c (s ∷ ss) = ap (λ (fs : List SlotFill). name_at e c.version (hole_of s) ∷ fs) (slots_named e c ss)

pub names_of_slots : (e : ℕ) (c c' : LifeContent) (ss ss' : List Shown) → ((u : ℕ) → c.version u ≡ c'.version u) → map hole_of ss ≡ map hole_of ss' → map slot_name (slots_of e c ss) ≡ map slot_name (slots_of e c' ss')
names_of_slots e c c' ss ss' v h = slots_named e c ss ∙ (λ i. map (name_at e (λ u. v u i)) (h i)) ∙ sym (slots_named e c' ss')

module _ (p : Params) (some : 0 < p.dummies) (w w' : WordId → ℕ) where
  abbrev pub leaf : LabelFill → ℕ
  leaf l = leaf_of_word p w l.word

  abbrev pub leaf' : LabelFill → ℕ
  leaf' l = leaf_of_word p w' l.word

  -- two tables with the books that they stand for: one count of reads for both
  pub record Faces (t t' : FlatTable) (book book' : ℕ → Option WordId) : Type 0 where
    pub count : ℕ → ℕ
    pub sound : IsSound p t
    pub sound' : IsSound p t'
    pub counted : IsCounted p t count
    pub counted' : IsCounted p t' count
    pub booked : IsBookOf p w t book
    pub booked' : IsBookOf p w' t' book'
    pub counter : t.counter ≡ t'.counter

  module _ (t t' : FlatTable) (book book' : ℕ → Option WordId) (f : Faces t t' book book') (e b : ℕ) (r r' : LifeBatch) (same : map leaf (labels_of e b 0 book (batch_places r)) ≡ map leaf' (labels_of e b 0 book' (batch_places r'))) where
    abbrev asked : List (Option ℕ × ℕ)
    asked = leaves p w (batch_places r)

    abbrev asked' : List (Option ℕ × ℕ)
    asked' = leaves p w' (batch_places r')

    leaves_same : leaves_shown p t asked ≡ leaves_shown p t' asked'
    leaves_same = label_leaves p w t book e b 0 (batch_places r) f.booked ∙ same ∙ sym (label_leaves p w' t' book' e b 0 (batch_places r') f.booked')

    pub faces_batch : Faces (after_batch p t asked) (after_batch p t' asked') (book_after book (batch_places r)) (book_after book' (batch_places r'))
    faces_batch =
        let law : BatchLaw p t asked f.count = batch_law p t asked f.count f.sound f.counted in
        let law' : BatchLaw p t' asked' f.count = batch_law p t' asked' f.count f.sound' f.counted' in
        record {
          count = λ u. f.count u + count_by (passes p u) (leaves_shown p t asked);
          sound = law.sound;
          sound' = law'.sound;
          counted = law.counted;
          counted' = subst (λ (ls : List ℕ). IsCounted p (after_batch p t' asked') (λ u. f.count u + count_by (passes p u) ls)) (sym leaves_same) law'.counted;
          booked = book_batch p w t book (batch_places r) f.booked;
          booked' = book_batch p w' t' book' (batch_places r') f.booked';
          counter = batch_counter p t asked ∙ f.counter ∙ sym (batch_counter p t' asked');
        }

    pub holes_batch : map hole_of (batch_shown p t asked) ≡ map hole_of (batch_shown p t' asked')
    holes_batch = (batch_law p t asked f.count f.sound f.counted).holes ∙ ap (batch_holes p f.count) leaves_same ∙ sym (batch_law p t' asked' f.count f.sound' f.counted').holes

  -- a phase of two logs shows the same leaves
  abbrev pub PhaseKnown : ℕ → ℕ → (ℕ → Option WordId) → (ℕ → Option WordId) → List LifeBatch → List LifeBatch → ℕ → Type 0
  PhaseKnown e b book book' log log' n = map leaf (phase_labels p w e b book log n) ≡ map leaf' (phase_labels p w' e b book' log' n)

  -- then it shows the same holes
  pub phase_names : (e b : ℕ) (c c' : LifeContent) (t t' : FlatTable) (book book' : ℕ → Option WordId) (log log' : List LifeBatch) (n : ℕ) → ((u : ℕ) → c.version u ≡ c'.version u) → AreLogsAlike p log log' → Faces t t' book book' →
      ((m : ℕ) → m ≤ n → PhaseKnown e b book book' log log' m) → map slot_name (phase_slots p w e c t log n) ≡ map slot_name (phase_slots p w' e c' t' log' n)
  phase_names e b c c' t t' book book' [] [] n v a f known = refl
  phase_names e b c c' t t' book book' [] (q ∷ log') n v a f known = absurd a
  phase_names e b c c' t t' book book' (r ∷ log) [] n v a f known = absurd a
  phase_names e b c c' t t' book book' (r ∷ log) (q ∷ log') zero v a f known =
      names_of_slots e c c' (batch_shown p t (leaves p w (batch_places r))) (batch_shown p t' (leaves p w' (batch_places q))) v (holes_batch t t' book book' f e b r q (known 0 (omega arith)))
  phase_names e b c c' t t' book book' (r ∷ log) (q ∷ log') (suc n) v a f known =
      phase_names e (b + 1) c c' (after_batch p t (leaves p w (batch_places r))) (after_batch p t' (leaves p w' (batch_places q))) (book_after book (batch_places r)) (book_after book' (batch_places q)) log log' n v a.1
      (faces_batch t t' book book' f e b r q (known 0 (omega arith))) (λ m h. known (suc m) (omega arith))

  -- and where all phases of two logs do, so do the tables behind them
  pub log_faces : (e b : ℕ) (t t' : FlatTable) (book book' : ℕ → Option WordId) (log log' : List LifeBatch) → AreLogsAlike p log log' → Faces t t' book book' → ((m : ℕ) → m < length log → PhaseKnown e b book book' log log' m) →
      Faces (table_after p w t log) (table_after p w' t' log') (book_after_log p w book log) (book_after_log p w' book' log')
  log_faces e b t t' book book' [] [] a f known = f
  log_faces e b t t' book book' [] (q ∷ log') a f known = absurd a
  log_faces e b t t' book book' (r ∷ log) [] a f known = absurd a
  log_faces e b t t' book book' (r ∷ log) (q ∷ log') a f known =
      log_faces e (b + 1) (after_batch p t (leaves p w (batch_places r))) (after_batch p t' (leaves p w' (batch_places q))) (book_after book (batch_places r)) (book_after book' (batch_places q)) log log' a.1
      (faces_batch t t' book book' f e b r q (known 0 (omega arith))) (λ m h. known (suc m) (omega arith))

  pub lifts_names : (e : ℕ) (c c' : LifeContent) (t t' : FlatTable) (book book' : ℕ → Option WordId) → ((u : ℕ) → c.version u ≡ c'.version u) → Faces t t' book book' → map slot_name (lift_slots p w e c t) ≡ map slot_name (lift_slots p w' e c' t')
  lifts_names e c c' t t' book book' v f =
      names_of_slots e c c' (final_shown p t (eviction_path p t.counter)) (final_shown p t' (eviction_path p t'.counter)) v
      (final_holes_law p t f.count f.sound f.counted ∙ ap (final_holes p f.count) f.counter ∙ sym (final_holes_law p t' f.count f.sound' f.counted'))

  pub up_same : (t t' : FlatTable) (book book' : ℕ → Option WordId) → Faces t t' book book' → (u : ℕ) → up_of p t u ≡ up_of p t' u
  up_same t t' book book' f u =
      let fin : FinalLaw p t f.count (λ u. false) (eviction_path p t.counter) = final_law p t f.count (λ u. false) (eviction_path p t.counter) f.sound (record { lifted_is = f.counted.lifted_is; reads_is = f.counted.reads_is }) in
      let fin' : FinalLaw p t' f.count (λ u. false) (eviction_path p t'.counter) = final_law p t' f.count (λ u. false) (eviction_path p t'.counter) f.sound' (record { lifted_is = f.counted'.lifted_is; reads_is = f.counted'.reads_is }) in
      fin.lifted_is u ∙ (λ i. is_one_of (eviction_path p (f.counter i)) u || (false || nat_le p.dummies (f.count u))) ∙ sym (fin'.lifted_is u)

  -- what an end needs of one life
  module _ (v : WordId → ℕ) (s : LifeState) (inv : AreSlotsSound p v s) (on : s.lifting ≡ true) where
    marks_then : Marks p (after_final p (table_now p v s) (eviction_path p (table_now p v s).counter)) inv.seen
    marks_then = subst (λ (b : Bool). Marks p (cond b (after_final p (table_now p v s) (eviction_path p (table_now p v s).counter)) (table_now p v s)) inv.seen) on inv.marks

    bound_then : (count : ℕ → ℕ) → IsCounted p (table_now p v s) count → (u : ℕ) → 2 ^ (p.levels + 1) - 1 ≤ u → count u < p.dummies
    bound_then count c u out = leb-false p.dummies (count u) (sym (c.lifted_is u) ∙ inv.counted.lifted_is u ∙ lt-leb p.dummies (inv.count u) (inv.bound u out))

    end_then : (ws : List (ℕ × Option WordId)) (count : ℕ → ℕ) → IsCounted p (table_now p v s) count → EndLaw p (table_now p v s) count inv.seen (map (leaf_write p v) ws)
    end_then ws count c = end_law p some (table_now p v s) count inv.seen (map (leaf_write p v) ws) inv.sound c inv.low (puts_low p v ws) (bound_then count c) marks_then

  pub faces_end : (s s' : LifeState) (ws ws' : List (ℕ × Option WordId)) → AreSlotsSound p w s → AreSlotsSound p w' s' → s.lifting ≡ true → s'.lifting ≡ true →
      Faces (table_now p w s) (table_now p w' s') (book_now p w s) (book_now p w' s') →
      Faces (ended_table p (table_now p w s) (map (leaf_write p w) ws)) (ended_table p (table_now p w' s') (map (leaf_write p w') ws')) (book_written p w (book_now p w s) ws) (book_written p w' (book_now p w' s') ws')
  faces_end s s' ws ws' mine theirs on on' f =
      let t : FlatTable = table_now p w s in
      let t' : FlatTable = table_now p w' s' in
      let law : EndLaw p t f.count mine.seen (map (leaf_write p w) ws) = end_then w s mine on ws f.count f.counted in
      let law' : EndLaw p t' f.count theirs.seen (map (leaf_write p w') ws') = end_then w' s' theirs on' ws' f.count f.counted' in
      record {
        count = count_ended p t f.count;
        sound = law.sound;
        sound' = law'.sound;
        counted = law.counted;
        counted' = subst (λ (count : ℕ → ℕ). IsCounted p (ended_table p t' (map (leaf_write p w') ws')) count) (λ i u. cond (sym (up_same t t' (book_now p w s) (book_now p w' s') f u) i) 0 (f.count u)) law'.counted;
        booked = book_end p w t (book_now p w s) ws f.booked;
        booked' = book_end p w' t' (book_now p w' s') ws' f.booked';
        counter = ended_counter p t (map (leaf_write p w) ws) ∙ (λ i. (after p (record t { counter = f.counter i }) FinalLifts).counter) ∙ sym (ended_counter p t' (map (leaf_write p w') ws'));
      }
