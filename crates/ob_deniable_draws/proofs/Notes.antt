-- Fills that agree in the holes that a call shows give its very notes and phases.
use Rattle.std.specs.Prelude.{◌≡◌, ℕ, suc, ◌+◌, ◌-◌, ◌^◌, ◌%◌, ◌<◌, ◌≤◌, nat_le, Bool, false, cond, ◌||◌, List, [], ◌∷◌, ◌++◌, map, length, Option}
use Rattle.std.proofs.Common.{arith, refl, sym, ap, subst, ◌∙◌, inl, inr}
use Rattle.std.proofs.lemmas.Bool.{cases_Bool, leb-false, lt-leb}
use Rattle.std.proofs.lemmas.List.{append-nil}
use Rattle.ob_base.specs.Layout.{slot_cell}
use Rattle.ob_base.specs.Repeats.{Has}
use Rattle.ob_base.specs.Tree.{width}
use Rattle.ob_base.specs.declared.params.Params.{Params}
use Rattle.ob_deniable.specs.Telling.{leaf_fill}
use Rattle.ob_deniable_runs.proofs.Both.{leaves_in_fills}
use Rattle.ob_recover.proofs.BookLaws.{label_leaves}
use Rattle.ob_recover.proofs.Ending.{batch_counter}
use Rattle.ob_recover.proofs.LifeSlots.{AreSlotsSound, leaves_low, puts_low, table_more}
use Rattle.ob_recover.proofs.NotesLaws.{counts_follow, end_follows}
use Rattle.ob_recover.proofs.Phases.{homes_kept, phase_is}
use Rattle.ob_recover.proofs.Tree as tree
use Rattle.ob_recover.specs.Known.{AreSlotsOf, slot_kept}
use Rattle.ob_recover.specs.Life.{Append, End, IsActAllowed, LabelFill, LifeBatch, LifeContent, LifeState, ShowBatch, ShowLifts, SlotFill, WordId}
use Rattle.ob_recover.specs.Life.{batch_places, book_after, book_after_log, book_now, is_table_lifted, labels_of, labels_shown, leaf_of_word, leaf_write, leaves, life_step, phase_labels, phase_slots, slot_fill, slots_of, slots_shown, table_after, table_now}
use Rattle.ob_ring.proofs.Batches.{FinalLaw, final_holes_law, final_law}
use Rattle.ob_ring.proofs.NewLaws.{batch_new}
use Rattle.ob_ring.specs.FlatTable.{FinalLifts, FlatTable, Shown, after, after_batch, after_final, after_writes, batch_shown, final_shown, leaves_shown, refill_order}
use Rattle.ob_ring.specs.News.{AreNew, Marks, Seen, with_shown}
use Rattle.ob_ring.specs.Sound.{IsCounted, hole_of}
use Rattle.ob_schedule.specs.Holes.{final_holes}
use Rattle.ob_schedule.specs.Paths.{eviction_path, is_one_of}
use Rattle.ob_schedule.specs.Phases.{phases_of, shared}
use Rattle.ob_schedule.specs.Schedule.{Fills, Public, after_end, after_phase, batch_leaves, counts_now, end_lifts, hole_reads, is_lifted_by_end, phase_notes, record_notes, written_by_end}
use Rattle.ob_serial.specs.Vaults as vaults
use Rattle.ob_stand.proofs.Counts.{fills_counter, writes_counter}
use Rattle.ob_store.specs.declared.watch.Note.TheVariants.{Read}
use Rattle.ob_tables.specs.Content.{Content}
use Rattle.ob_vault.specs.Seen.{RingPublic, ring_next, ring_notes, ring_phases}
use Rattle.ob_vault.specs.Shapes.{Ends, Fetches}
use Rattle.ob_vault.specs.Shown.{AreFilledBy}
use Rattle.ob_deniable_draws.proofs.Contents.{content_hidden}
use Rattle.ob_deniable_draws.proofs.Keeping.{booked_log}
use Rattle.ob_deniable_draws.proofs.Stays.{Stays, home_is, life_at}

has_fill : (e : ℕ) (c : LifeContent) (ss : List Shown) (x : Shown) → Has ss x → Has (slots_of e c ss) (slot_fill e c x)
has_fill e c [] x none = absurd none
has_fill e c (y ∷ ss) x (inl is) = inl (ap (slot_fill e c) is)
has_fill e c (y ∷ ss) x (inr has) = inr (has_fill e c ss x has)

index_low : (p : Params) (seen : Seen) (ss : List Shown) (s : Shown) → AreNew p seen ss → Has ss s → s.index < width p
index_low p seen [] s new has = absurd has
index_low p seen (x ∷ ss) s new (inl is) = subst (λ (y : Shown). y.index < width p) is new.0
index_low p seen (x ∷ ss) s new (inr has) = index_low p (with_shown seen x) ss s new.3 has

module _ (p : Params) (tape : WordId → ℕ) where
  last_labels : (e b : ℕ) (book : ℕ → Option WordId) (log : List LifeBatch) (r : LifeBatch) → phase_labels p tape e b book (log ++ r ∷ []) (length log) ≡ labels_of e (b + length log) 0 (book_after_log p tape book log) (batch_places r)
  last_labels e b book [] r = ap (λ (n : ℕ). labels_of e n 0 book (batch_places r)) (let z : b ≡ b + 0 = omega arith in z)
  last_labels e b book (x ∷ log) r =
      last_labels e (b + 1) (book_after book (batch_places x)) log r
      ∙ ap (λ (n : ℕ). labels_of e n 0 (book_after_log p tape (book_after book (batch_places x)) log) (batch_places r)) (let z : (b + 1) + length log ≡ b + suc (length log) = omega arith in z)

  last_slots : (e : ℕ) (c : LifeContent) (t : FlatTable) (log : List LifeBatch) (r : LifeBatch) → phase_slots p tape e c t (log ++ r ∷ []) (length log) ≡ slots_of e c (batch_shown p (table_after p tape t log) (leaves p tape (batch_places r)))
  last_slots e c t [] r = refl
  last_slots e c t (x ∷ log) r = last_slots e c (after_batch p t (leaves p tape (batch_places x))) log r

  -- what the schedule knows is of the life
  pub record Knows (q : Public) (s : LifeState) : Type 0 where
    pub homes : (u : ℕ) → q.homes u ≡ s.content.home u
    pub counted : IsCounted p (table_now p tape s) (counts_now p q)
    pub counter : (table_now p tape s).counter ≡ q.counter

-- ---- a batch

module _ (p : Params) (some : 0 < p.dummies) (w w' : WordId → ℕ) (q : RingPublic) (s s' : LifeState) (r r' : LifeBatch) (asks others : List (Option ℕ)) (f f' : Fills) (row : AreFilledBy p w s (Append r ∷ ShowBatch ∷ []) (vaults.Fetch asks) f)
    (other : AreFilledBy p w' s' (Append r' ∷ ShowBatch ∷ []) (vaults.Fetch others) f') (many : length s.log ≡ length s'.log) (knows : Knows p w' q.known s') (at : q.shown ≡ length s'.log) (stays : Stays p w' s') (low : s'.generation < 2 ^ 64) (room : p.keys ≤ p.room)
    (ok : IsActAllowed p w' s' (Append r')) (begun : s'.begun ≡ length s'.log)
    (labels : map (leaf_fill p w) (labels_shown p w (life_step p w s (Append r)) ShowBatch) ≡ map (leaf_fill p w') (labels_shown p w' (life_step p w' s' (Append r')) ShowBatch))
    (slots : slots_shown p w (life_step p w s (Append r)) ShowBatch ≡ slots_shown p w' (life_step p w' s' (Append r')) ShowBatch) where
  abbrev s1 : LifeState
  s1 = life_step p w s (Append r)

  abbrev s2 : LifeState
  s2 = life_step p w' s' (Append r')

  abbrev t : FlatTable
  t = table_now p w' s'

  abbrev asked : List (Option ℕ × ℕ)
  asked = leaves p w' (batch_places r')

  abbrev C : Content
  C = content_hidden p w' s'.content

  abbrev L : List ℕ
  L = leaves_shown p t asked

  own_leaves : batch_leaves p f' (length s'.log) ≡ L
  own_leaves =
      sym other.labels ∙ ap (map (λ (l : LabelFill). leaf_of_word p w' l.word)) (append-nil (labels_shown p w' s2 ShowBatch))
      ∙ ap (λ (n : ℕ). map (λ (l : LabelFill). leaf_of_word p w' l.word) (phase_labels p w' (s'.epoch + 1) 0 s'.content.book (s'.log ++ r' ∷ []) n)) begun
      ∙ ap (map (λ (l : LabelFill). leaf_of_word p w' l.word)) (last_labels p w' (s'.epoch + 1) 0 s'.content.book s'.log r')
      ∙ sym (label_leaves p w' t (book_now p w' s') (s'.epoch + 1) (0 + length s'.log) 0 (batch_places r') (booked_log p w' some s'.content.table s'.content.book s'.log stays.ready.booked))

  row_leaves : batch_leaves p f (length s.log) ≡ batch_leaves p f' (length s'.log)
  row_leaves =
      sym row.labels ∙ ap (map (λ (l : LabelFill). leaf_of_word p w l.word)) (append-nil (labels_shown p w s1 ShowBatch)) ∙ leaves_in_fills p w w' some (labels_shown p w s1 ShowBatch) (labels_shown p w' s2 ShowBatch) labels
      ∙ ap (map (λ (l : LabelFill). leaf_of_word p w' l.word)) (sym (append-nil (labels_shown p w' s2 ShowBatch))) ∙ other.labels

  pub own_shown : batch_leaves p f' q.shown ≡ L
  own_shown = ap (batch_leaves p f') at ∙ own_leaves

  row_shown : batch_leaves p f q.shown ≡ L
  row_shown = ap (batch_leaves p f) (at ∙ sym many) ∙ row_leaves ∙ own_leaves

  -- ---- slots

  inv : AreSlotsSound p w' s'
  inv = stays.slots

  standing : s'.lifting ≡ false
  standing = elim (cases_Bool s'.lifting) [ inl on ↦ absurd (let full : length s'.log ≡ p.batches = inv.full on in let less : length s'.log < p.batches = ok.0 in omega arith) | inr off ↦ off ]

  marks : Marks p t inv.seen
  marks = subst (λ (b : Bool). Marks p (cond b (after_final p t (eviction_path p t.counter)) t) inv.seen) standing inv.marks

  shown_are : slots_shown p w' s2 ShowBatch ≡ slots_of (s'.epoch + 1) s'.content (batch_shown p t asked)
  shown_are =
      ap (phase_slots p w' (s'.epoch + 1) s'.content s'.content.table (s'.log ++ r' ∷ [])) begun
      ∙ last_slots p w' (s'.epoch + 1) s'.content s'.content.table s'.log r'

  abbrev Picked : Shown → Type 0
  Picked x = Has (batch_shown p t asked) x

  has_shown : (x : Shown) → Picked x → Has (slots_shown p w' s2 ShowBatch) (slot_fill (s'.epoch + 1) s'.content x)
  has_shown x has = subst (λ (fs : List SlotFill). Has fs (slot_fill (s'.epoch + 1) s'.content x)) (sym shown_are) (has_fill (s'.epoch + 1) s'.content (batch_shown p t asked) x has)

  kept : (x : Shown) → Picked x → s'.content.slot x.bucket x.index ≡ slot_kept C x.bucket x.index
  kept x has =
      (life_at p w' s' stays low room).slots x.bucket x.index (tree.in_tree p x.bucket (tree.bucket_at (tree.many p) (batch_shown p t asked) x (tree.batch_below p t asked (leaves_low p w' (batch_places r')) inv.low) has))
      (index_low p inv.seen (batch_shown p t asked) x (batch_new p t asked inv.count inv.seen inv.sound inv.counted marks).new has)

  other_slots : AreSlotsOf C (batch_shown p t asked) f'
  other_slots x has = sym (other.slots (slot_fill (s'.epoch + 1) s'.content x) (subst (λ (fs : List SlotFill). Has fs (slot_fill (s'.epoch + 1) s'.content x)) (sym (append-nil (slots_shown p w' s2 ShowBatch))) (has_shown x has))) ∙ kept x has

  row_slots : AreSlotsOf C (batch_shown p t asked) f
  row_slots x has =
      sym (row.slots (slot_fill (s'.epoch + 1) s'.content x) (subst (λ (fs : List SlotFill). Has fs (slot_fill (s'.epoch + 1) s'.content x)) (sym slots ∙ sym (append-nil (slots_shown p w s1 ShowBatch))) (has_shown x has)))
      ∙ kept x has

  -- ---- notes

  homes_are : (q.known).homes ≡ homes_kept C
  homes_are i u = (knows.homes u ∙ home_is p w' s' stays low room u) i

  reads_same : phase_notes p q.known f (batch_leaves p f q.shown) ≡ phase_notes p q.known f' (batch_leaves p f' q.shown)
  reads_same =
      ap (phase_notes p q.known f) row_shown ∙ sym (phase_is p q.known f C t asked homes_are inv.sound knows.counted row_slots)
      ∙ phase_is p q.known f' C t asked homes_are inv.sound knows.counted other_slots ∙ ap (phase_notes p q.known f') (sym own_shown)

  pub batch_noted : ring_notes p q Fetches f' ≡ ring_notes p q Fetches f
  batch_noted i = record_notes p (((q.known).epoch + 1) % 2) q.shown ++ sym reads_same i

  pub batch_phased : ring_phases p q Fetches f' ≡ ring_phases p q Fetches f
  batch_phased i = phases_of (record_notes p (((q.known).epoch + 1) % 2) q.shown) ++ shared (sym reads_same i) ∷ []

  pub batch_next : ring_next p q Fetches f' ≡ ring_next p q Fetches f
  batch_next i = record { known = after_phase p q.known ((own_shown ∙ sym row_shown) i); shown = suc q.shown }

  pub batch_known : Knows p w' (after_phase p q.known (batch_leaves p f' q.shown)) (life_step p w' s2 ShowBatch)
  batch_known =
      let same : table_now p w' s2 ≡ after_batch p t asked = table_more p w' s'.content.table s'.log r' in
      record {
        homes = knows.homes;
        counted = subst (λ (x : FlatTable). IsCounted p x (counts_now p (after_phase p q.known (batch_leaves p f' q.shown)))) (sym same)
            (subst (λ (l : List ℕ). IsCounted p (after_batch p t asked) (counts_now p (after_phase p q.known l))) (sym own_shown) (counts_follow p q.known t asked inv.sound knows.counted));
        counter = ap (λ (x : FlatTable). x.counter) same ∙ batch_counter p t asked ∙ knows.counter;
      }

-- ---- an end

holes_agree : (p : Params) (q : Public) (f f' : Fills) (ss : List Shown) → ((x : Shown) → Has ss x → f.slot (hole_of x) ≡ f'.slot (hole_of x)) → hole_reads p q f (map hole_of ss) ≡ hole_reads p q f' (map hole_of ss)
holes_agree p q f f' [] same = refl
holes_agree p q f f' (x ∷ ss) same = λ i. Read (slot_cell p (q.homes x.bucket) x.bucket (same x (inl refl) i)) ∷ holes_agree p q f f' ss (λ y has. same y (inr has)) i

module _ (p : Params) (some : 0 < p.dummies) (w w' : WordId → ℕ) (q : RingPublic) (s s' : LifeState) (vs ws : List (ℕ × Option WordId)) (drawn drawn' : ℕ) (slot slot' : ℕ → ℕ → ℕ) (writes others : List (ℕ × Option (List ℕ))) (f f' : Fills)
    (row : AreFilledBy p w s (ShowLifts ∷ End vs drawn slot ∷ []) (vaults.End writes) f) (other : AreFilledBy p w' s' (ShowLifts ∷ End ws drawn' slot' ∷ []) (vaults.End others) f') (knows : Knows p w' q.known s') (stays : Stays p w' (life_step p w' s' ShowLifts))
    (slots : slots_shown p w s ShowLifts ≡ slots_shown p w' s' ShowLifts) where
  abbrev te : FlatTable
  te = table_now p w' s'

  abbrev lifted : List Shown
  lifted = final_shown p te (eviction_path p te.counter)

  agree : (x : Shown) → Has lifted x → f'.slot (hole_of x) ≡ f.slot (hole_of x)
  agree x has =
      let y : SlotFill = slot_fill (s'.epoch + 1) s'.content x in
      let mine : Has (slots_shown p w' s' ShowLifts) y = has_fill (s'.epoch + 1) s'.content lifted x has in
      sym (other.slots y (subst (λ (fs : List SlotFill). Has fs y) (sym (append-nil (slots_shown p w' s' ShowLifts))) mine))
      ∙ row.slots y (subst (λ (fs : List SlotFill). Has fs y) (sym slots ∙ sym (append-nil (slots_shown p w s ShowLifts))) mine)

  inv_end : AreSlotsSound p w' (life_step p w' s' ShowLifts)
  inv_end = stays.slots

  pub lifts_noted : end_lifts p q.known f' ≡ end_lifts p q.known f
  lifts_noted =
      let holes : map hole_of lifted ≡ final_holes p (counts_now p q.known) (q.known).counter = final_holes_law p te (counts_now p q.known) inv_end.sound knows.counted ∙ ap (final_holes p (counts_now p q.known)) knows.counter in
      ap (hole_reads p q.known f') (sym holes) ∙ holes_agree p q.known f' f lifted agree ∙ ap (hole_reads p q.known f) holes

  pub end_noted : ring_notes p q Ends f' ≡ ring_notes p q Ends f
  end_noted i = lifts_noted i ++ written_by_end p q.known

  pub end_phased : ring_phases p q Ends f' ≡ ring_phases p q Ends f
  end_phased i = shared (lifts_noted i) ∷ phases_of (written_by_end p q.known)

  fin_end : FinalLaw p te (counts_now p q.known) (λ u. false) (eviction_path p te.counter)
  fin_end = final_law p te (counts_now p q.known) (λ u. false) (eviction_path p te.counter) inv_end.sound (record { lifted_is = knows.counted.lifted_is; reads_is = knows.counted.reads_is })

  up_is : (u : ℕ) → is_table_lifted p w' (life_step p w' s' ShowLifts) u ≡ is_lifted_by_end p q.known u
  up_is u = fin_end.lifted_is u ∙ (λ i. is_one_of (eviction_path p (knows.counter i)) u || nat_le p.dummies (counts_now p q.known u))

  pub end_known : Knows p w' (after_end p q.known) (life_step p w' (life_step p w' s' ShowLifts) (End ws drawn' slot'))
  end_known = record {
    homes = λ u i. cond (sym (up_is u) i) (1 - knows.homes u i) (knows.homes u i);
    counted = end_follows p q.known te (map (leaf_write p w') ws) inv_end.seen some inv_end.sound knows.counted inv_end.low (puts_low p w' ws)
        (λ u out. leb-false p.dummies (counts_now p q.known u) (sym (knows.counted.lifted_is u) ∙ inv_end.counted.lifted_is u ∙ lt-leb p.dummies (inv_end.count u) (inv_end.bound u out))) inv_end.marks knows.counter;
    counter = fills_counter p (after_writes (after p te FinalLifts) (map (leaf_write p w') ws)) (refill_order p (after_writes (after p te FinalLifts) (map (leaf_write p w') ws)))
        ∙ writes_counter (after p te FinalLifts) (map (leaf_write p w') ws) ∙ (λ i. (knows.counter i + p.evictions) % 2 ^ p.levels);
  }
