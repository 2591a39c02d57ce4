-- What is public of a life goes on as the schedule's public state does.
use Rattle.std.specs.Prelude.{◌≡◌, ◌⊎◌, ℕ, ◌+◌, ◌-◌, ◌%◌, ◌^◌, ◌<◌, ◌≤◌, ◌==◌, nat_le, Bool, false, cond, ◌||◌, List, [], ◌∷◌, ◌++◌, map, length, Option}
use Rattle.std.specs.List.{count_by, flat_map}
use Rattle.std.proofs.Common.{arith, refl, sym, ap, subst, ◌∙◌, inl, inr, length-append}
use Rattle.std.proofs.lemmas.Bool.{leb-false, lt-leb}
use Rattle.std.proofs.lemmas.List.{append-nil}
use mathlib.Core.Path.{fun_ext}
use Rattle.ob_base.specs.Layout.{EpochTwin}
use Rattle.ob_base.specs.declared.params.Params.{Params}
use Rattle.ob_base.specs.Tree.{below, passes, width}
use Rattle.ob_tables.specs.Rank.{IsRanking}
use Rattle.ob_schedule.specs.Paths.{is_one_of, eviction_path}
use Rattle.ob_schedule.specs.Schedule.{Public, after_end, after_phase, counts_now, gate_cell, is_lifted_by_end, public_formatted}
use Rattle.ob_stand.proofs.Counts.{fills_counter, writes_counter}
use Rattle.ob_ring.specs.FlatTable.{FinalLifts, FlatTable, after, after_batch, after_final, after_writes, reads, refill_order}
use Rattle.ob_ring.specs.News.{Marks}
use Rattle.ob_ring.specs.Sound.{IsCounted, IsSound}
use Rattle.ob_ring.proofs.Batches.{FinalLaw, final_law}
use Rattle.ob_ring.proofs.TableLaws.{none_counted}
use Rattle.ob_recover.specs.Life.{WordId, LifeBatch, LifeState, LifeAct, Open, Append, ShowBatch, ShowLifts, End, IsActAllowed, IsLife, batch_places, is_table_lifted, leaf_write, leaves, life_step, reached, formatted_life, table_after, table_now}
use Rattle.ob_recover.specs.LifePublic.{leaves_in, public_in}
use Rattle.ob_recover.proofs.BookLaws.{IsBookOf, book_end}
use Rattle.ob_recover.proofs.EndLaws.{EndLaw, end_law, ended_table}
use Rattle.ob_recover.proofs.Ending.{batch_counter}
use Rattle.ob_recover.proofs.FreshLaws.{phase_labels_more, slots_formatted}
use Rattle.ob_recover.proofs.LifeSlots.{AreSlotsSound, puts_low, slots_keep}
use Rattle.ob_fresh.specs.PublicLives.{SeenAct, Opens, AreEndsShown, GoesOnPublic, LivesArePublic, all_seen, formatted_gates, leaves_next, public_after, public_step, seen_of}
use Rattle.ob_fresh.proofs.Leaves.{LogLaw, flat_agree, flat_behind, flat_more, leaf, log_law, none_behind}

module _ (p : Params) (word_of : WordId → ℕ) where
  -- what a life keeps of what is public
  pub record IsOpen (s : LifeState) : Type 0 where
    pub slots : AreSlotsSound p word_of s
    pub sound : IsSound p s.content.table
    pub counted : IsCounted p s.content.table (λ u. reads p s.content.table u)
    pub booked : IsBookOf p word_of s.content.table s.content.book
    pub within : (s.begun ≤ length s.log) ⊎ (length s.log ≡ p.batches)

  counter_log : (t : FlatTable) (log : List LifeBatch) → (table_after p word_of t log).counter ≡ t.counter
  counter_log t [] = refl
  counter_log t (r ∷ log) = counter_log (after_batch p t (leaves p word_of (batch_places r))) log ∙ batch_counter p t (leaves p word_of (batch_places r))

  nothing_more : (s : LifeState) → length s.log ≤ s.begun → leaves_in p word_of s s.begun ≡ []
  nothing_more s h = ap (map (leaf p word_of)) (none_behind p word_of (s.epoch + 1) 0 s.content.book s.log s.begun h)

  pub appended : (s : LifeState) (r : LifeBatch) (gates : ℕ → Bool) → IsOpen s → IsActAllowed p word_of s (Append r) → public_in p word_of (life_step p word_of s (Append r)) gates ≡ public_in p word_of s gates
  appended s r gates inv ok =
      let room : length s.log < p.batches = ok.0 in
      let low : s.begun ≤ length s.log = elim inv.within [ inl in' ↦ in' | inr full ↦ absurd (omega arith) ] in
      let same : flat_map (leaves_in p word_of (life_step p word_of s (Append r))) (below s.begun) ≡ flat_map (leaves_in p word_of s) (below s.begun) =
      flat_agree (leaves_in p word_of (life_step p word_of s (Append r))) (leaves_in p word_of s) 0 s.begun
      (λ n a b. ap (map (leaf p word_of)) (phase_labels_more p word_of (s.epoch + 1) 0 s.content.book s.log (r ∷ []) n (omega arith))) in
      ap (λ (ls : List ℕ). record (public_in p word_of s gates) { leaves = ls }) same

  pub shown : (s : LifeState) (gates : ℕ → Bool) → public_in p word_of (life_step p word_of s ShowBatch) gates ≡ after_phase p (public_in p word_of s gates) (leaves_next p word_of s)
  shown s gates = ap (λ (ls : List ℕ). record (public_in p word_of s gates) { leaves = ls }) (flat_more (leaves_in p word_of s) s.begun)

  pub lifted : (s : LifeState) (gates : ℕ → Bool) → IsActAllowed p word_of s ShowLifts → public_in p word_of (life_step p word_of s ShowLifts) gates ≡ public_in p word_of s gates
  lifted s gates ok =
      let full : length s.log ≡ p.batches = ok.0 in
      let begun : s.begun ≡ p.batches = ok.1 in
      ap (λ (ls : List ℕ). record (public_in p word_of s gates) { leaves = ls })
      (flat_more (leaves_in p word_of s) s.begun ∙ ap (λ (ls : List ℕ). flat_map (leaves_in p word_of s) (below s.begun) ++ ls) (nothing_more s (omega arith)) ∙ append-nil (flat_map (leaves_in p word_of s) (below s.begun)))

  -- ---- an end

  module _ (some : 0 < p.dummies) (s : LifeState) (inv : IsOpen s) (ws : List (ℕ × Option WordId)) (drawn : ℕ) (slot : ℕ → ℕ → ℕ) (ok : IsActAllowed p word_of s (End ws drawn slot)) where
    abbrev t : FlatTable
    t = table_now p word_of s

    -- how often each bucket was read by the end of the log
    abbrev count : ℕ → ℕ
    count u = reads p s.content.table u + count_by (passes p u) (flat_map (leaves_in p word_of s) (below (length s.log)))

    law : LogLaw p word_of (s.epoch + 1) 0 s.content.table s.content.book (λ u. reads p s.content.table u) s.log
    law = log_law p word_of (s.epoch + 1) 0 s.content.table s.content.book (λ u. reads p s.content.table u) s.log inv.sound inv.counted inv.booked

    counted : IsCounted p t count
    counted = law.counted

    bound : (u : ℕ) → 2 ^ (p.levels + 1) - 1 ≤ u → count u < p.dummies
    bound u out = leb-false p.dummies (count u) (sym (counted.lifted_is u) ∙ inv.slots.counted.lifted_is u ∙ lt-leb p.dummies (inv.slots.count u) (inv.slots.bound u out))

    marks : Marks p (after_final p t (eviction_path p t.counter)) inv.slots.seen
    marks = subst (λ (b : Bool). Marks p (cond b (after_final p t (eviction_path p t.counter)) t) inv.slots.seen) ok.0 inv.slots.marks

    abbrev puts : List (ℕ × Option ℕ)
    puts = map (leaf_write p word_of) ws

    ended : EndLaw p t count inv.slots.seen puts
    ended = end_law p some t count inv.slots.seen puts inv.slots.sound counted inv.slots.low (puts_low p word_of ws) bound marks

    fin : FinalLaw p t count (λ u. false) (eviction_path p t.counter)
    fin = final_law p t count (λ u. false) (eviction_path p t.counter) inv.slots.sound (record { lifted_is = counted.lifted_is; reads_is = counted.reads_is })

    counter_now : t.counter ≡ s.content.table.counter
    counter_now = counter_log s.content.table s.log

    up_is : (u : ℕ) → is_table_lifted p word_of s u ≡ (is_one_of (eviction_path p s.content.table.counter) u || nat_le p.dummies (count u))
    up_is u = fin.lifted_is u ∙ ap (λ (c : ℕ). is_one_of (eviction_path p c) u || nat_le p.dummies (count u)) counter_now

    reads_ended : (u : ℕ) → reads p (ended_table p t puts) u ≡ cond (is_table_lifted p word_of s u) 0 (count u)
    reads_ended u = ended.counted.reads_is u (ended.few u)

    counter_ended : (ended_table p t puts).counter ≡ (s.content.table.counter + p.evictions) % 2 ^ p.levels
    counter_ended =
        fills_counter p (after_writes (after p t FinalLifts) puts) (refill_order p (after_writes (after p t FinalLifts) puts)) ∙ writes_counter (after p t FinalLifts) puts
        ∙ ap (λ (c : ℕ). (c + p.evictions) % 2 ^ p.levels) counter_now

    counted_ended : IsCounted p (ended_table p t puts) (λ u. reads p (ended_table p t puts) u)
    counted_ended = subst (λ (c : ℕ → ℕ). IsCounted p (ended_table p t puts) c) (fun_ext (λ u. sym (reads_ended u))) ended.counted

    booked_ended : IsBookOf p word_of (life_step p word_of s (End ws drawn slot)).content.table (life_step p word_of s (End ws drawn slot)).content.book
    booked_ended = book_end p word_of t _ ws law.booked

    -- an attempt that has shown all batches has shown all leaves
    counts_all : (gates : ℕ → Bool) → p.batches ≤ s.begun → (u : ℕ) → counts_now p (public_in p word_of s gates) u ≡ count u
    counts_all gates all u =
        let whole : length s.log ≡ p.batches = ok.1 in
        let so : s.begun ≡ length s.log + (s.begun - length s.log) = omega arith in
        ap (λ (ls : List ℕ). reads p s.content.table u + count_by (passes p u) ls)
        (ap (λ (n : ℕ). flat_map (leaves_in p word_of s) (below n)) so
        ∙ flat_behind (leaves_in p word_of s) (length s.log) (s.begun - length s.log) (λ n h. ap (map (leaf p word_of)) (none_behind p word_of (s.epoch + 1) 0 s.content.book s.log n h)))

    pub public_ended : (gates : ℕ → Bool) → p.batches ≤ s.begun → public_in p word_of (life_step p word_of s (End ws drawn slot)) (λ cell. (cell == gate_cell p EpochTwin (s.epoch + 1)) || gates cell) ≡ after_end p (public_in p word_of s gates)
    public_ended gates all =
        let q : Public = public_in p word_of s gates in
        let up : (u : ℕ) → is_table_lifted p word_of s u ≡ is_lifted_by_end p q u =
        λ u. up_is u ∙ ap (λ (n : ℕ). is_one_of (eviction_path p s.content.table.counter) u || nat_le p.dummies n) (sym (counts_all gates all u)) in
        let counts : (u : ℕ) → reads p (ended_table p t puts) u ≡ cond (is_lifted_by_end p q u) 0 (counts_now p q u) = λ u. reads_ended u ∙ (λ i. cond (up u i) 0 (sym (counts_all gates all u) i)) in
        λ i. record {
          epoch = s.epoch + 1;
          homes = λ u. cond (up u i) (1 - s.content.home u) (s.content.home u);
          counts = λ u. counts u i;
          counter = counter_ended i;
          gates = λ cell. (cell == gate_cell p EpochTwin (s.epoch + 1)) || gates cell;
          leaves = [];
        }

    pub open_ended : IsOpen (life_step p word_of s (End ws drawn slot))
    open_ended = record {
      slots = slots_keep p word_of some s (End ws drawn slot) ok inv.slots;
      sound = ended.sound;
      counted = counted_ended;
      booked = booked_ended;
      within = inl (omega arith);
    }

  -- ---- any act

  pub stays_open : (some : 0 < p.dummies) (s : LifeState) (a : LifeAct) → IsActAllowed p word_of s a → IsOpen s → IsOpen (life_step p word_of s a)
  stays_open some s (Open g) ok inv = record { slots = slots_keep p word_of some s (Open g) ok inv.slots; sound = inv.sound; counted = inv.counted; booked = inv.booked; within = inl (omega arith) }
  stays_open some s (Append r) ok inv = record {
    slots = slots_keep p word_of some s (Append r) ok inv.slots;
    sound = inv.sound;
    counted = inv.counted;
    booked = inv.booked;
    within = (
        let room : length s.log < p.batches = ok.0 in
        let more : length (s.log ++ r ∷ []) ≡ length s.log + 1 = length-append s.log (r ∷ []) in
        elim inv.within [ inl low ↦ inl (omega arith) | inr full ↦ absurd (omega arith) ]);
  }
  stays_open some s ShowBatch ok inv = record { slots = slots_keep p word_of some s ShowBatch ok inv.slots; sound = inv.sound; counted = inv.counted; booked = inv.booked; within = (let low : s.begun < length s.log = ok in inl (omega arith)) }
  stays_open some s ShowLifts ok inv = record { slots = slots_keep p word_of some s ShowLifts ok inv.slots; sound = inv.sound; counted = inv.counted; booked = inv.booked; within = inr ok.0 }
  stays_open some s (End ws drawn slot) ok inv = open_ended some s inv ws drawn slot ok

  pub open_life : (some : 0 < p.dummies) (s : LifeState) (acts : List LifeAct) → IsLife p word_of s acts → IsOpen s → IsOpen (reached p word_of s acts)
  open_life some s [] life inv = inv
  open_life some s (a ∷ rest) life inv = open_life some (life_step p word_of s a) rest life.1 (stays_open some s a life.0 inv)

  goes_on : (some : 0 < p.dummies) (s : LifeState) (gates : ℕ → Bool) → IsOpen s → GoesOnPublic p word_of s gates
  goes_on some s gates inv = record {
    opens = λ g found. refl;
    appends = λ r ok. appended s r gates inv ok;
    shows = λ ok. shown s gates;
    lifts = λ ok. lifted s gates ok;
    ends = λ ws drawn slot ok all. public_ended some s inv ws drawn slot ok gates all;
  }

  -- ---- a new store

  pub open_formatted : (some : 0 < p.dummies) (slot : ℕ → ℕ → ℕ) → ((u : ℕ) → IsRanking (width p) (slot u)) → IsOpen (formatted_life slot)
  open_formatted some slot ranked =
      let first : AreSlotsSound p word_of (formatted_life slot) = slots_formatted p word_of slot some ranked in
      record {
        slots = first;
        sound = first.sound;
        counted = record { lifted_is = λ u. sym (lt-leb p.dummies 0 some) ∙ ap (λ (n : ℕ). nat_le p.dummies n) (sym (none_counted (width p))); reads_is = λ u h. refl };
        booked = λ k. refl;
        within = inl (omega arith);
      }

  pub public_first : (slot : ℕ → ℕ → ℕ) → public_in p word_of (formatted_life slot) (formatted_gates p) ≡ public_formatted p
  public_first slot = λ i. record (public_formatted p) { counts = λ u. none_counted (width p) i }

  -- ---- all that was seen

  module _ (some : 0 < p.dummies) (found : ℕ → ℕ → Bool) where
    step_seen : (s : LifeState) (a : LifeAct) (q : Public) (rest : List LifeAct) → IsOpen s → IsActAllowed p word_of s a → AreEndsShown p word_of s (a ∷ rest) → public_in p word_of s q.gates ≡ q →
        public_in p word_of (life_step p word_of s a) (public_after p q (seen_of p word_of found s a)).gates ≡ public_after p q (seen_of p word_of found s a)
    step_seen s (Open g) q rest inv ok shown_all is = ap (λ (x : Public). public_step p x (Opens g (found g))) is
    step_seen s (Append r) q rest inv ok shown_all is = appended s r q.gates inv ok ∙ is
    step_seen s ShowBatch q rest inv ok shown_all is = shown s q.gates ∙ ap (λ (x : Public). after_phase p x (leaves_next p word_of s)) is
    step_seen s ShowLifts q rest inv ok shown_all is = lifted s q.gates ok ∙ is
    step_seen s (End ws drawn slot) q rest inv ok shown_all is =
        ap (λ (e : ℕ). public_in p word_of (life_step p word_of s (End ws drawn slot)) (λ cell. (cell == gate_cell p EpochTwin (e + 1)) || q.gates cell)) (sym (ap (λ (x : Public). x.epoch) is))
        ∙ public_ended some s inv ws drawn slot ok q.gates shown_all.0 ∙ ap (after_end p) is

    later_shown : (s : LifeState) (a : LifeAct) (rest : List LifeAct) → AreEndsShown p word_of s (a ∷ rest) → AreEndsShown p word_of (life_step p word_of s a) rest
    later_shown s (Open g) rest h = h
    later_shown s (Append r) rest h = h
    later_shown s ShowBatch rest h = h
    later_shown s ShowLifts rest h = h
    later_shown s (End ws drawn slot) rest h = h.1

    pub behind_both : (q : Public) (xs ys : List SeenAct) → public_after p q (xs ++ ys) ≡ public_after p (public_after p q xs) ys
    behind_both q [] ys = refl
    behind_both q (x ∷ xs) ys = behind_both (public_step p q x) xs ys

    pub life_seen : (s : LifeState) (acts : List LifeAct) (q : Public) → IsOpen s → IsLife p word_of s acts → AreEndsShown p word_of s acts → public_in p word_of s q.gates ≡ q →
        public_in p word_of (reached p word_of s acts) (public_after p q (all_seen p word_of found s acts)).gates ≡ public_after p q (all_seen p word_of found s acts)
    life_seen s [] q inv life ends is = is
    life_seen s (a ∷ rest) q inv life ends is =
        let s1 : LifeState = life_step p word_of s a in
        let now : List SeenAct = seen_of p word_of found s a in
        let then : List SeenAct = all_seen p word_of found s1 rest in
        let here : public_in p word_of s1 (public_after p q now).gates ≡ public_after p q now = step_seen s a q rest inv life.0 ends is in
        subst (λ (x : Public). public_in p word_of (reached p word_of s1 rest) x.gates ≡ x) (sym (behind_both q now then))
        (life_seen s1 rest (public_after p q now) (stays_open some s a life.0 inv) life.1 (later_shown s a rest ends) here)

pub lives_are_public : LivesArePublic
lives_are_public = record {
  formatted = λ p word_of slot. public_first p word_of slot;
  goes_on = λ p word_of slot acts gates some ranked life. goes_on p word_of some (reached p word_of (formatted_life slot) acts) gates (open_life p word_of some (formatted_life slot) acts life (open_formatted p word_of some slot ranked));
  seen = λ p word_of found slot acts some ranked life ends. life_seen p word_of some found (formatted_life slot) acts (public_formatted p) (open_formatted p word_of some slot ranked) life ends (public_first p word_of slot);
}
