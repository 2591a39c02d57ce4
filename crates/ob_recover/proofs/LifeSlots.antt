-- The slots of a life are fresh.
use Rattle.std.specs.Prelude.{◌≡◌, ℕ, ◌+◌, ◌-◌, ◌^◌, ◌<◌, ◌≤◌, Bool, true, false, cond, List, [], ◌∷◌, ◌++◌, map, length, Option}
use Rattle.std.specs.declared.option.Option.TheVariants.{None, Some}
use Rattle.std.specs.List.{count_by}
use Rattle.std.proofs.Common.{zero, suc, arith, refl, sym, ap, subst, ◌∙◌, inl, inr}
use Rattle.std.proofs.lemmas.Bool.{true≢false, false≢true}
use Rattle.std.proofs.lemmas.Nat.{pow_pos}
use Rattle.std.proofs.Math.Nat.{mod-lt}
use Rattle.std.proofs.lemmas.List.{append_assoc, append-nil}
use Rattle.ob_tables.specs.Rank.{IsRanking}
use Rattle.ob_base.specs.declared.params.Params.{Params}
use Rattle.ob_base.specs.Tree.{passes}
use Rattle.ob_schedule.specs.Paths.{eviction_path}
use Rattle.ob_ring.specs.FlatTable.{FlatTable, after_batch, batch_shown, leaves_shown, final_shown, after_final, leaf_of, written_row}
use Rattle.ob_ring.specs.News.{Seen, with_all, Marks}
use Rattle.ob_recover.specs.Life.{is_table_lifted, WordId, LifeBatch, SlotFill, batch_places, slots_of, LifeState, LifeAct, Open, Append, ShowBatch, ShowLifts, End, leaves, leaf_of_word, leaf_write}
use Rattle.ob_recover.specs.Life.{table_after, log_slots, phase_slots, lift_slots, table_now, planned_slots, life_step, IsActAllowed, IsLife, life_slots, slots_shown, reached}
use Rattle.ob_base.proofs.Repeats.{has_left, has_right, has_cases}
use Rattle.ob_base.specs.Repeats.{Has}
use Rattle.ob_ring.specs.Sound.{IsSound}
use Rattle.ob_ring.specs.Sound.{IsCounted}
use Rattle.ob_ring.proofs.Batches.{BatchLaw, batch_law}
use Rattle.ob_ring.proofs.NewLaws.{NewLaw, batch_new, final_new}
use Rattle.ob_ring.proofs.Lows.{IsLow, AreLow, ArePutsLow, low_batch, outside_batch}
use Rattle.ob_recover.proofs.EndLaws.{EndLaw, end_law, count_ended, up_of}
use Rattle.ob_recover.proofs.SlotLaws.{AreSlotsApart, slots_step, slots_end, seen_ended}

module _ (p : Params) (word_of : WordId → ℕ) where
  pub leaf_low : (w : WordId) → leaf_of_word p word_of w < 2 ^ p.levels
  leaf_low w = mod-lt (word_of w) (pow_pos p.levels)

  pub leaves_low : (places : List (Option ℕ × WordId)) → AreLow p (leaves p word_of places)
  leaves_low [] = tt
  leaves_low (a ∷ rest) = (leaf_low a.1, leaves_low rest)

  put_low : (w : ℕ × Option WordId) (v : Option WordId) → w.1 ≡ v → leaf_of (written_row (leaf_write p word_of w).1) 0 < 2 ^ p.levels
  put_low w None e = rw e (pow_pos p.levels)
  put_low w (Some x) e = rw e (leaf_low x)

  pub puts_low : (ws : List (ℕ × Option WordId)) → ArePutsLow p (map (leaf_write p word_of) ws)
  puts_low [] = tt
  puts_low (w ∷ ws) = (put_low w w.1 refl, puts_low ws)

  pub table_more : (t : FlatTable) (log : List LifeBatch) (r : LifeBatch) → table_after p word_of t (log ++ r ∷ []) ≡ after_batch p (table_after p word_of t log) (leaves p word_of (batch_places r))
  table_more t [] r = refl
  table_more t (x ∷ log) r = table_more (after_batch p t (leaves p word_of (batch_places x))) log r

  log_slots_more : (e : ℕ) (s : LifeState) (t : FlatTable) (log : List LifeBatch) (r : LifeBatch) → log_slots p word_of e s.content t (log ++ r ∷ []) ≡ log_slots p word_of e s.content t log ++ slots_of e s.content (batch_shown p (table_after p word_of t log) (leaves p word_of (batch_places r)))
  log_slots_more e s t [] r = append-nil (slots_of e s.content (batch_shown p t (leaves p word_of (batch_places r))))
  log_slots_more e s t (x ∷ log) r =
      ap (λ (fs : List SlotFill). slots_of e s.content (batch_shown p t (leaves p word_of (batch_places x))) ++ fs) (log_slots_more e s (after_batch p t (leaves p word_of (batch_places x))) log r)
      ∙ sym (append_assoc (slots_of e s.content (batch_shown p t (leaves p word_of (batch_places x)))) (log_slots p word_of e s.content (after_batch p t (leaves p word_of (batch_places x))) log)
      (slots_of e s.content (batch_shown p (table_after p word_of t (x ∷ log)) (leaves p word_of (batch_places r)))))

  -- the table after the lifts, where they were begun
  abbrev pub shown_table : LifeState → FlatTable
  shown_table s = cond s.lifting (after_final p (table_now p word_of s) (eviction_path p (table_now p word_of s).counter)) (table_now p word_of s)

  -- what a life keeps
  pub record AreSlotsSound (s : LifeState) : Type 0 where
    pub count : ℕ → ℕ
    pub seen : Seen
    pub sound : IsSound p (table_now p word_of s)
    pub counted : IsCounted p (table_now p word_of s) count
    pub low : IsLow p (table_now p word_of s)
    pub bound : (u : ℕ) → 2 ^ (p.levels + 1) - 1 ≤ u → count u < p.dummies
    pub marks : Marks p (shown_table s) seen
    pub full : s.lifting ≡ true → length s.log ≡ p.batches
    pub slots : AreSlotsApart p (planned_slots p word_of s) s.content.version s.content.slot seen (s.epoch + 1)

  abbrev tail : LifeState → Bool → List SlotFill
  tail s b = cond b (lift_slots p word_of (s.epoch + 1) s.content (table_now p word_of s)) []

  planned_more : (s : LifeState) (r : LifeBatch) → s.lifting ≡ false → planned_slots p word_of (life_step p word_of s (Append r)) ≡ planned_slots p word_of s ++ slots_of (s.epoch + 1) s.content (batch_shown p (table_now p word_of s) (leaves p word_of (batch_places r)))
  planned_more s r off =
      let A : List SlotFill = log_slots p word_of (s.epoch + 1) s.content s.content.table s.log in
      let N : List SlotFill = slots_of (s.epoch + 1) s.content (batch_shown p (table_now p word_of s) (leaves p word_of (batch_places r))) in
      let s' : LifeState = life_step p word_of s (Append r) in
      let lhs : planned_slots p word_of s' ≡ s.past_slots ++ ((A ++ N) ++ []) =
      (λ i. s.past_slots ++ (log_slots_more (s.epoch + 1) s s.content.table s.log r i ++ tail s' (off i))) in
      let rhs : planned_slots p word_of s ≡ s.past_slots ++ A =
      (λ i. s.past_slots ++ (A ++ tail s (off i))) ∙ ap (λ (fs : List SlotFill). s.past_slots ++ fs) (append-nil A) in
      lhs ∙ ap (λ (fs : List SlotFill). s.past_slots ++ fs) (append-nil (A ++ N)) ∙ sym (append_assoc s.past_slots A N) ∙ ap (λ (fs : List SlotFill). fs ++ N) (sym rhs)

  append_keeps : (s : LifeState) (r : LifeBatch) → length s.log < p.batches → AreSlotsSound s → (b : Bool) → s.lifting ≡ b → AreSlotsSound (life_step p word_of s (Append r))
  append_keeps s r room inv true is = absurd (omega (arith, inv.full is))
  append_keeps s r room inv false is =
      let t : FlatTable = table_now p word_of s in
      let asked : List (Option ℕ × ℕ) = leaves p word_of (batch_places r) in
      let law : BatchLaw p t asked inv.count = batch_law p t asked inv.count inv.sound inv.counted in
      let m : Marks p t inv.seen = subst (λ (b : Bool). Marks p (cond b (after_final p t (eviction_path p t.counter)) t) inv.seen) is inv.marks in
      let new : NewLaw p (after_batch p t asked) inv.seen (batch_shown p t asked) = batch_new p t asked inv.count inv.seen inv.sound inv.counted m in
      let same : table_now p word_of (life_step p word_of s (Append r)) ≡ after_batch p t asked = table_more s.content.table s.log r in
      record {
        count = λ u. inv.count u + count_by (passes p u) (leaves_shown p t asked);
        seen = with_all inv.seen (batch_shown p t asked);
        sound = subst (λ (x : FlatTable). IsSound p x) (sym same) law.sound;
        counted = subst (λ (x : FlatTable). IsCounted p x (λ u. inv.count u + count_by (passes p u) (leaves_shown p t asked))) (sym same) law.counted;
        low = subst (λ (x : FlatTable). IsLow p x) (sym same) (low_batch p t asked (leaves_low (batch_places r)) inv.low);
        bound = λ u out. omega (arith, inv.bound u out, outside_batch p t asked u (leaves_low (batch_places r)) inv.low out);
        marks = rw is (subst (λ (x : FlatTable). Marks p x (with_all inv.seen (batch_shown p t asked))) (sym same) new.marks);
        full = λ on. absurd (true≢false (sym on ∙ is));
        slots = subst (λ (fs : List SlotFill). AreSlotsApart p fs s.content.version s.content.slot (with_all inv.seen (batch_shown p t asked)) (s.epoch + 1)) (sym (planned_more s r is))
            (slots_step p (planned_slots p word_of s) s.content inv.seen (s.epoch + 1) (batch_shown p t asked) inv.slots new.new);
      }

  lifts_keep : (s : LifeState) → length s.log ≡ p.batches → AreSlotsSound s → (b : Bool) → s.lifting ≡ b → AreSlotsSound (life_step p word_of s ShowLifts)
  lifts_keep s whole inv true is = record {
    count = inv.count;
    seen = inv.seen;
    sound = inv.sound;
    counted = inv.counted;
    low = inv.low;
    bound = inv.bound;
    marks = subst (λ (b : Bool). Marks p (cond b (after_final p (table_now p word_of s) (eviction_path p (table_now p word_of s).counter)) (table_now p word_of s)) inv.seen) is inv.marks;
    full = λ on. whole;
    slots = subst (λ (b : Bool). AreSlotsApart p (s.past_slots ++ (log_slots p word_of (s.epoch + 1) s.content s.content.table s.log ++ tail s b)) s.content.version s.content.slot inv.seen (s.epoch + 1)) is inv.slots;
  }
  lifts_keep s whole inv false is =
      let t : FlatTable = table_now p word_of s in
      let A : List SlotFill = log_slots p word_of (s.epoch + 1) s.content s.content.table s.log in
      let X : List SlotFill = lift_slots p word_of (s.epoch + 1) s.content t in
      let m : Marks p t inv.seen = subst (λ (b : Bool). Marks p (cond b (after_final p t (eviction_path p t.counter)) t) inv.seen) is inv.marks in
      let new : NewLaw p (after_final p t (eviction_path p t.counter)) inv.seen (final_shown p t (eviction_path p t.counter)) = final_new p t (eviction_path p t.counter) inv.seen inv.sound m in
      let was : planned_slots p word_of s ≡ s.past_slots ++ A = (λ i. s.past_slots ++ (A ++ tail s (is i))) ∙ ap (λ (fs : List SlotFill). s.past_slots ++ fs) (append-nil A) in
      record {
        count = inv.count;
        seen = with_all inv.seen (final_shown p t (eviction_path p t.counter));
        sound = inv.sound;
        counted = inv.counted;
        low = inv.low;
        bound = inv.bound;
        marks = new.marks;
        full = λ on. whole;
        slots = subst (λ (fs : List SlotFill). AreSlotsApart p fs s.content.version s.content.slot (with_all inv.seen (final_shown p t (eviction_path p t.counter))) (s.epoch + 1))
            (ap (λ (fs : List SlotFill). fs ++ X) was ∙ append_assoc s.past_slots A X)
            (slots_step p (planned_slots p word_of s) s.content inv.seen (s.epoch + 1) (final_shown p t (eviction_path p t.counter)) inv.slots new.new);
      }

  end_keeps : (some : 0 < p.dummies) (s : LifeState) (ws : List (ℕ × Option WordId)) (drawn : ℕ) (slot : ℕ → ℕ → ℕ) → s.lifting ≡ true → ((u : ℕ) → is_table_lifted p word_of s u ≡ true → IsRanking (p.real + p.dummies) (slot u)) → AreSlotsSound s →
      AreSlotsSound (life_step p word_of s (End ws drawn slot))
  end_keeps some s ws drawn slot on ranked inv =
      let t : FlatTable = table_now p word_of s in
      let m : Marks p (after_final p t (eviction_path p t.counter)) inv.seen = subst (λ (b : Bool). Marks p (cond b (after_final p t (eviction_path p t.counter)) t) inv.seen) on inv.marks in
      let law : EndLaw p t inv.count inv.seen (map (leaf_write p word_of) ws) = end_law p some t inv.count inv.seen (map (leaf_write p word_of) ws) inv.sound inv.counted inv.low (puts_low ws) inv.bound m in
      record {
        count = count_ended p t inv.count;
        seen = seen_ended (up_of p t) inv.seen;
        sound = law.sound;
        counted = law.counted;
        low = law.low;
        bound = λ u out. law.few u;
        marks = law.marks;
        full = λ e. absurd (false≢true e);
        slots = subst (λ (fs : List SlotFill). AreSlotsApart p fs (λ u. cond (up_of p t u) (s.epoch + 1) (s.content.version u)) (λ u. cond (up_of p t u) (slot u) (s.content.slot u)) (seen_ended (up_of p t) inv.seen) (s.epoch + 1 + 1)) (sym (append-nil (planned_slots p word_of s)))
            (slots_end p (planned_slots p word_of s) s.content.version s.content.slot slot inv.seen (s.epoch + 1) (up_of p t) inv.slots ranked);
      }

  pub slots_keep : (some : 0 < p.dummies) (s : LifeState) (a : LifeAct) → IsActAllowed p word_of s a → AreSlotsSound s → AreSlotsSound (life_step p word_of s a)
  slots_keep some s (Open g) h inv = record { count = inv.count; seen = inv.seen; sound = inv.sound; counted = inv.counted; low = inv.low; bound = inv.bound; marks = inv.marks; full = inv.full; slots = inv.slots }
  slots_keep some s (Append r) h inv = append_keeps s r h.0 inv s.lifting refl
  slots_keep some s ShowBatch h inv = record { count = inv.count; seen = inv.seen; sound = inv.sound; counted = inv.counted; low = inv.low; bound = inv.bound; marks = inv.marks; full = inv.full; slots = inv.slots }
  slots_keep some s ShowLifts h inv = lifts_keep s h.0 inv s.lifting refl
  slots_keep some s (End ws drawn slot) h inv = end_keeps some s ws drawn slot h.0 h.3 inv

  -- what is shown is planned then, and what was planned stays
  has_phase : (e : ℕ) (s : LifeState) (t : FlatTable) (log : List LifeBatch) (n : ℕ) (f : SlotFill) → Has (phase_slots p word_of e s.content t log n) f → Has (log_slots p word_of e s.content t log) f
  has_phase e s t [] n f h = h
  has_phase e s t (r ∷ log) zero f h = has_left (slots_of e s.content (batch_shown p t (leaves p word_of (batch_places r)))) (log_slots p word_of e s.content (after_batch p t (leaves p word_of (batch_places r))) log) f h
  has_phase e s t (r ∷ log) (suc n) f h = has_right (slots_of e s.content (batch_shown p t (leaves p word_of (batch_places r)))) (log_slots p word_of e s.content (after_batch p t (leaves p word_of (batch_places r))) log) f
      (has_phase e s (after_batch p t (leaves p word_of (batch_places r))) log n f h)

  shown_planned : (s : LifeState) (a : LifeAct) (f : SlotFill) → Has (slots_shown p word_of s a) f → Has (planned_slots p word_of (life_step p word_of s a)) f
  shown_planned s (Open g) f h = absurd h
  shown_planned s (Append r) f h = absurd h
  shown_planned s ShowBatch f h = has_right s.past_slots (log_slots p word_of (s.epoch + 1) s.content s.content.table s.log ++ tail s s.lifting) f
      (has_left (log_slots p word_of (s.epoch + 1) s.content s.content.table s.log) (tail s s.lifting) f (has_phase (s.epoch + 1) s s.content.table s.log s.begun f h))
  shown_planned s ShowLifts f h = has_right s.past_slots (log_slots p word_of (s.epoch + 1) s.content s.content.table s.log ++ tail s true) f
      (has_right (log_slots p word_of (s.epoch + 1) s.content s.content.table s.log) (tail s true) f h)
  shown_planned s (End ws drawn slot) f h = absurd h

  append_stays : (s : LifeState) (r : LifeBatch) (f : SlotFill) → (b : Bool) → s.lifting ≡ b → length s.log < p.batches → (s.lifting ≡ true → length s.log ≡ p.batches) → Has (planned_slots p word_of s) f → Has (planned_slots p word_of (life_step p word_of s (Append r))) f
  append_stays s r f true is room full h = absurd (omega (arith, full is))
  append_stays s r f false is room full h = subst (λ (fs : List SlotFill). Has fs f) (sym (planned_more s r is)) (has_left (planned_slots p word_of s) (slots_of (s.epoch + 1) s.content (batch_shown p (table_now p word_of s) (leaves p word_of (batch_places r)))) f h)

  lifts_stay : (s : LifeState) (f : SlotFill) (b : Bool) → Has (s.past_slots ++ (log_slots p word_of (s.epoch + 1) s.content s.content.table s.log ++ tail s b)) f → Has (s.past_slots ++ (log_slots p word_of (s.epoch + 1) s.content s.content.table s.log ++ tail s true)) f
  lifts_stay s f true h = h
  lifts_stay s f false h = elim (has_cases s.past_slots (log_slots p word_of (s.epoch + 1) s.content s.content.table s.log ++ []) f h) [
    | inl past ↦ has_left s.past_slots (log_slots p word_of (s.epoch + 1) s.content s.content.table s.log ++ tail s true) f past
    | inr now ↦ has_right s.past_slots (log_slots p word_of (s.epoch + 1) s.content s.content.table s.log ++ tail s true) f
        (has_left (log_slots p word_of (s.epoch + 1) s.content s.content.table s.log) (tail s true) f (subst (λ (fs : List SlotFill). Has fs f) (append-nil (log_slots p word_of (s.epoch + 1) s.content s.content.table s.log)) now))
  ]

  planned_stays : (s : LifeState) (a : LifeAct) (f : SlotFill) → IsActAllowed p word_of s a → AreSlotsSound s → Has (planned_slots p word_of s) f → Has (planned_slots p word_of (life_step p word_of s a)) f
  planned_stays s (Open g) f ok inv h = h
  planned_stays s (Append r) f ok inv h = append_stays s r f s.lifting refl ok.0 inv.full h
  planned_stays s ShowBatch f ok inv h = h
  planned_stays s ShowLifts f ok inv h = lifts_stay s f s.lifting h
  planned_stays s (End ws drawn slot) f ok inv h = has_left (planned_slots p word_of s) [] f h

  pub slots_life : (some : 0 < p.dummies) (s : LifeState) (acts : List LifeAct) → IsLife p word_of s acts → AreSlotsSound s → AreSlotsSound (reached p word_of s acts)
  slots_life some s [] h inv = inv
  slots_life some s (a ∷ rest) h inv = slots_life some (life_step p word_of s a) rest h.1 (slots_keep some s a h.0 inv)

  planned_lasts : (some : 0 < p.dummies) (s : LifeState) (acts : List LifeAct) (f : SlotFill) → IsLife p word_of s acts → AreSlotsSound s → Has (planned_slots p word_of s) f → Has (planned_slots p word_of (reached p word_of s acts)) f
  planned_lasts some s [] f life inv h = h
  planned_lasts some s (a ∷ rest) f life inv h = planned_lasts some (life_step p word_of s a) rest f life.1 (slots_keep some s a life.0 inv) (planned_stays s a f life.0 inv h)

  pub life_planned : (some : 0 < p.dummies) (s : LifeState) (acts : List LifeAct) (f : SlotFill) → IsLife p word_of s acts → AreSlotsSound s → Has (life_slots p word_of s acts) f → Has (planned_slots p word_of (reached p word_of s acts)) f
  life_planned some s [] f life inv h = absurd h
  life_planned some s (a ∷ rest) f life inv h = elim (has_cases (slots_shown p word_of s a) (life_slots p word_of (life_step p word_of s a) rest) f h) [
    | inl now ↦ planned_lasts some (life_step p word_of s a) rest f life.1 (slots_keep some s a life.0 inv) (shown_planned s a f now)
    | inr later ↦ life_planned some (life_step p word_of s a) rest f life.1 (slots_keep some s a life.0 inv) later
  ]
