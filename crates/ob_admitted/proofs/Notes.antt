-- A call shows a history's notes.
use Rattle.std.specs.Prelude.{◌≡◌, ℕ, ◌+◌, ◌%◌, ◌<◌, Bool, List, [], ◌∷◌, ◌++◌, map, length, slice_index, Option}
use Rattle.std.specs.List.{count_by, flat_map, range_with_len}
use Rattle.std.proofs.Common.{suc, arith, refl, sym, ap, ◌∙◌, subst, inl, inr, add-one}
use Rattle.std.proofs.lemmas.List.{append-nil}
use Rattle.ob_base.specs.Repeats.{Has}
use Rattle.ob_base.proofs.Repeats.{has_left, has_right}
use Rattle.ob_base.specs.Layout.{slot_cell}
use Rattle.ob_base.specs.Tree.{below, passes}
use Rattle.ob_base.specs.declared.params.Params.{Params}
use Rattle.ob_schedule.specs.Holes.{Hole, batch_holes, final_holes, passes_before, place_holes}
use Rattle.ob_schedule.specs.Paths.{eviction_path}
use Rattle.ob_schedule.specs.Schedule.{Fills, Public, batch_leaves, batch_notes, counts_now, end_notes, hole_reads, phase_notes, record_notes, written_by_end}
use Rattle.ob_store.specs.declared.watch.Note.{Note}
use Rattle.ob_store.specs.declared.watch.Note.TheVariants.{Label, Read}
use Rattle.ob_ring.specs.FlatTable.{FlatTable, Shown, after_batch, batch_shown, final_shown, leaves_shown, reads}
use Rattle.ob_ring.specs.Sound.{IsCounted, hole_of}
use Rattle.ob_ring.proofs.Batches.{BatchLaw, batch_law, final_holes_law}
use Rattle.ob_recover.specs.Life.{WordId, LabelFill, SlotFill, LifeBatch, LifeContent, LifeState, batch_places, book_after, book_after_log, book_now, formatted_life, labels_of}
use Rattle.ob_recover.specs.Life.{leaf_of_word, leaves, life_labels, life_slots, lift_slots, phase_labels, phase_slots, reached, slot_fill, slots_of, table_after, table_now}
use Rattle.ob_recover.specs.LifePublic.{leaves_in, public_in}
use Rattle.ob_recover.proofs.BookLaws.{label_leaves}
use Rattle.ob_fresh.proofs.Leaves.{LogLaw, log_law}
use Rattle.ob_fresh.proofs.Publics.{IsOpen, open_formatted, open_life}
use Rattle.ob_serial.specs.Vaults as vault
use Rattle.ob_histories.specs.Fills.{AllFills, fills_at, public_in_epoch}
use Rattle.ob_histories.proofs.Finding.{epoch_at}
use Rattle.ob_admitted.specs.Publics.{IsPublicOfFills}
use Rattle.ob_admitted.specs.Notes.{AreBothFilled, CallsGoByFills, batch_acts, end_acts}
use Rattle.ob_admitted.proofs.Publics.{counter_log, labels_filled, lives_go, words_many}

-- ---- notes go by the slots of their holes

module _ (p : Params) (q : Public) (c d : Fills) where
  reads_same : (hs : List Hole) → ((h : Hole) → Has hs h → c.slot h ≡ d.slot h) → hole_reads p q c hs ≡ hole_reads p q d hs
  reads_same [] same = refl
  reads_same (h ∷ hs) same = λ i. Read (slot_cell p (q.homes h.bucket) h.bucket (same h (inl refl) i)) ∷ reads_same hs (λ g has. same g (inr has)) i

  phases_same : (label : ℕ → ℕ) (holes : ℕ → List Hole) (is : List ℕ) → ((h : Hole) → Has (flat_map holes is) h → c.slot h ≡ d.slot h)
      → flat_map (λ i. Label (label i) ∷ hole_reads p q c (holes i)) is ≡ flat_map (λ i. Label (label i) ∷ hole_reads p q d (holes i)) is
  phases_same label holes [] same = refl
  phases_same label holes (n ∷ is) same = λ i. (Label (label n) ∷ reads_same (holes n) (λ h has. same h (has_left (holes n) (flat_map holes is) h has)) i)
      ++ phases_same label holes is (λ h has. same h (has_right (holes n) (flat_map holes is) h has)) i

  pub notes_same : (ls : List ℕ) → ((h : Hole) → Has (batch_holes p (counts_now p q) ls) h → c.slot h ≡ d.slot h) → phase_notes p q c ls ≡ phase_notes p q d ls
  notes_same ls same = phases_same (slice_index ls) (λ i. place_holes p (λ u. counts_now p q u + passes_before p ls i u) (slice_index ls i)) (below (length ls)) same

-- a hole of shown indexes is one's
pub of_shown : (P : Hole → Type 0) (ss : List Shown) → ((s : Shown) → Has ss s → P (hole_of s)) → (h : Hole) → Has (map hole_of ss) h → P h
of_shown P [] each h has = absurd has
of_shown P (s ∷ ss) each h (inl same) = subst P same (each s (inl refl))
of_shown P (s ∷ ss) each h (inr has) = of_shown P ss (λ x k. each x (inr k)) h has

pub has_fill : (e : ℕ) (c : LifeContent) (ss : List Shown) (s : Shown) → Has ss s → Has (slots_of e c ss) (slot_fill e c s)
has_fill e c [] s has = has
has_fill e c (x ∷ ss) s (inl same) = inl (ap (slot_fill e c) same)
has_fill e c (x ∷ ss) s (inr has) = inr (has_fill e c ss s has)

-- ---- the last phase of a log

module _ (p : Params) (word_of : WordId → ℕ) where
  pub last_labels : (e b : ℕ) (book : ℕ → Option WordId) (log : List LifeBatch) (r : LifeBatch) (more : List LifeBatch) → phase_labels p word_of e b book (log ++ r ∷ more) (length log) ≡ labels_of e (b + length log) 0 (book_after_log p word_of book log) (batch_places r)
  last_labels e b book [] r more = (let same : b ≡ b + 0 = omega arith in ap (λ (n : ℕ). labels_of e n 0 book (batch_places r)) same)
  last_labels e b book (x ∷ log) r more =
      let same : (b + 1) + length log ≡ b + suc (length log) = omega arith in
      last_labels e (b + 1) (book_after book (batch_places x)) log r more ∙ ap (λ (n : ℕ). labels_of e n 0 (book_after_log p word_of book (x ∷ log)) (batch_places r)) same

  pub last_slots : (e : ℕ) (c : LifeContent) (t : FlatTable) (log : List LifeBatch) (r : LifeBatch) (more : List LifeBatch) → phase_slots p word_of e c t (log ++ r ∷ more) (length log) ≡ slots_of e c (batch_shown p (table_after p word_of t log) (leaves p word_of (batch_places r)))
  last_slots e c t [] r more = refl
  last_slots e c t (x ∷ log) r more = last_slots e c (after_batch p t (leaves p word_of (batch_places x))) log r more

module _ (p : Params) (word_of : WordId → ℕ) (f : AllFills) (s : LifeState) (inv : IsOpen p word_of s) (is : IsPublicOfFills p word_of f s) (gates : ℕ → Bool) (c : Fills) (begun : s.begun ≡ length s.log) where
  abbrev t : FlatTable
  t = table_now p word_of s

  abbrev q : Public
  q = public_in p word_of s gates

  abbrev d : Fills
  d = fills_at p f s.epoch

  law : LogLaw p word_of (s.epoch + 1) 0 s.content.table s.content.book (λ u. reads p s.content.table u) s.log
  law = log_law p word_of (s.epoch + 1) 0 s.content.table s.content.book (λ u. reads p s.content.table u) s.log inv.sound inv.counted inv.booked

  counted : IsCounted p t (counts_now p q)
  counted = subst (λ (n : ℕ). IsCounted p t (λ u. reads p s.content.table u + count_by (passes p u) (flat_map (leaves_in p word_of s) (below n)))) (sym begun) law.counted

  same_public : q ≡ record (public_in_epoch p f s.epoch (length s.log)) { gates = gates }
  same_public = λ j. record {
    epoch = sym (epoch_at p f s.epoch) j;
    homes = λ u. sym (is.homes u) j;
    counts = λ u. sym (is.counts u) j;
    counter = sym is.counter j;
    gates = gates;
    leaves = (ap (λ (n : ℕ). flat_map (leaves_in p word_of s) (below n)) begun ∙ sym (is.batches (length s.log) (omega arith))) j;
  }

  -- a fill that both have
  slots_same : (x : Shown) → f.slot x.bucket (s.content.version x.bucket) x.number ≡ s.content.slot x.bucket x.index → s.content.slot x.bucket x.index ≡ c.slot (hole_of x) → c.slot (hole_of x) ≡ d.slot (hole_of x)
  slots_same x by_fills by_call = sym by_call ∙ sym by_fills ∙ ap (λ (v : ℕ). f.slot x.bucket v x.number) (sym (is.versions x.bucket))

  -- ---- a batch

  module _ (r : LifeBatch) (asks : List (Option ℕ)) (whole : length r.asks ≡ p.places) (both : AreBothFilled p word_of f s (batch_acts r) (vault.Fetch asks) c) where
    abbrev asked : List (Option ℕ × ℕ)
    asked = leaves p word_of (batch_places r)

    abbrev shown_labels : List LabelFill
    shown_labels = labels_of (s.epoch + 1) (0 + length s.log) 0 (book_now p word_of s) (batch_places r)

    abbrev shown : List Shown
    shown = batch_shown p t asked

    labels_are : life_labels p word_of s (batch_acts r) ≡ shown_labels
    labels_are =
        append-nil (phase_labels p word_of (s.epoch + 1) 0 s.content.book (s.log ++ r ∷ []) s.begun) ∙ ap (λ (n : ℕ). phase_labels p word_of (s.epoch + 1) 0 s.content.book (s.log ++ r ∷ []) n) begun
        ∙ last_labels p word_of (s.epoch + 1) 0 s.content.book s.log r []

    slots_are : life_slots p word_of s (batch_acts r) ≡ slots_of (s.epoch + 1) s.content shown
    slots_are =
        append-nil (phase_slots p word_of (s.epoch + 1) s.content s.content.table (s.log ++ r ∷ []) s.begun) ∙ ap (λ (n : ℕ). phase_slots p word_of (s.epoch + 1) s.content s.content.table (s.log ++ r ∷ []) n) begun
        ∙ last_slots p word_of (s.epoch + 1) s.content s.content.table s.log r []

    leaves_c : leaves_shown p t asked ≡ batch_leaves p c (length s.log)
    leaves_c = label_leaves p word_of t (book_now p word_of s) (s.epoch + 1) (0 + length s.log) 0 (batch_places r) law.booked
        ∙ ap (map (λ (l : LabelFill). leaf_of_word p word_of l.word)) (sym labels_are) ∙ both.0.labels

    leaves_d : leaves_shown p t asked ≡ batch_leaves p d (length s.log)
    leaves_d =
        let epoch : s.epoch + 1 ≡ suc s.epoch = add-one s.epoch in
        let same : 0 + length s.log ≡ length s.log = omega arith in
        let many : length (batch_places r) ≡ p.places = words_many r.first r.asks ∙ whole in
        label_leaves p word_of t (book_now p word_of s) (s.epoch + 1) (0 + length s.log) 0 (batch_places r) law.booked
        ∙ labels_filled p word_of f (s.epoch + 1) (0 + length s.log) 0 (book_now p word_of s) (batch_places r) (λ l h. both.1.leaves l (subst (λ (ls : List LabelFill). Has ls l) (sym labels_are) h))
        ∙ (λ j. map (f.leaf (epoch j) (same j)) (range_with_len 0 (many j)))

    each_shown : (x : Shown) → Has shown x → c.slot (hole_of x) ≡ d.slot (hole_of x)
    each_shown x has =
        let h : Has (life_slots p word_of s (batch_acts r)) (slot_fill (s.epoch + 1) s.content x) = subst (λ (fs : List SlotFill). Has fs (slot_fill (s.epoch + 1) s.content x)) (sym slots_are) (has_fill (s.epoch + 1) s.content shown x has) in
        slots_same x (both.1.slots_are (slot_fill (s.epoch + 1) s.content x) h) (both.0.slots (slot_fill (s.epoch + 1) s.content x) h)

    one : BatchLaw p t asked (counts_now p q)
    one = batch_law p t asked (counts_now p q) law.sound counted

    each_hole : (h : Hole) → Has (batch_holes p (counts_now p q) (batch_leaves p c (length s.log))) h → c.slot h ≡ d.slot h
    each_hole h has = of_shown (λ (g : Hole). c.slot g ≡ d.slot g) shown each_shown h
        (subst (λ (hs : List Hole). Has hs h) (sym (one.holes ∙ ap (batch_holes p (counts_now p q)) leaves_c)) has)

    pub batch_is : batch_notes p q c (length s.log) ≡ batch_notes p (public_in_epoch p f s.epoch (length s.log)) d (length s.log)
    batch_is =
        ap (λ (ns : List Note). record_notes p ((q.epoch + 1) % 2) (length s.log) ++ ns) (notes_same p q c d (batch_leaves p c (length s.log)) each_hole ∙ ap (phase_notes p q d) (sym leaves_c ∙ leaves_d))
        ∙ ap (λ (r : Public). batch_notes p r d (length s.log)) same_public

  -- ---- an end

  module _ (ws : List (ℕ × Option WordId)) (drawn : ℕ) (slot : ℕ → ℕ → ℕ) (writes : List (ℕ × Option (List ℕ))) (full : length s.log ≡ p.batches) (both : AreBothFilled p word_of f s (end_acts ws drawn slot) (vault.End writes) c) where
    abbrev lifts : List Shown
    lifts = final_shown p t (eviction_path p t.counter)

    slots_lifted : life_slots p word_of s (end_acts ws drawn slot) ≡ slots_of (s.epoch + 1) s.content lifts
    slots_lifted = append-nil (lift_slots p word_of (s.epoch + 1) s.content t)

    each_lift : (x : Shown) → Has lifts x → c.slot (hole_of x) ≡ d.slot (hole_of x)
    each_lift x has =
        let h : Has (life_slots p word_of s (end_acts ws drawn slot)) (slot_fill (s.epoch + 1) s.content x) = subst (λ (fs : List SlotFill). Has fs (slot_fill (s.epoch + 1) s.content x)) (sym slots_lifted) (has_fill (s.epoch + 1) s.content lifts x has) in
        slots_same x (both.1.slots_are (slot_fill (s.epoch + 1) s.content x) h) (both.0.slots (slot_fill (s.epoch + 1) s.content x) h)

    final : map hole_of lifts ≡ final_holes p (counts_now p q) q.counter
    final = final_holes_law p t (counts_now p q) law.sound counted ∙ ap (final_holes p (counts_now p q)) (counter_log p word_of f s.content.table s.log)

    pub end_is : end_notes p q c ≡ end_notes p (record (public_in_epoch p f s.epoch p.batches) { gates = gates }) d
    end_is =
        ap (λ (ns : List Note). ns ++ written_by_end p q) (reads_same p q c d (final_holes p (counts_now p q) q.counter)
        (λ h has. of_shown (λ (g : Hole). c.slot g ≡ d.slot g) lifts each_lift h (subst (λ (hs : List Hole). Has hs h) (sym final) has)))
        ∙ ap (λ (r : Public). end_notes p r d) (same_public ∙ ap (λ (n : ℕ). record (public_in_epoch p f s.epoch n) { gates = gates }) full)

pub calls_go : CallsGoByFills
calls_go p word_of slot acts f ranked life ends whole filled =
    let some : 0 < p.dummies = (let one = p.in_range.some_dummies in omega (arith, one)) in
    let is = lives_go p word_of slot acts f ranked life ends whole filled in
    let inv = open_life p word_of some (formatted_life slot) acts life (open_formatted p word_of some slot ranked) in
    record {
      batches = λ r asks c gates begun places both. batch_is p word_of f (reached p word_of (formatted_life slot) acts) inv is gates c begun r asks places both;
      ends = λ ws drawn slot' writes c gates begun full both. end_is p word_of f (reached p word_of (formatted_life slot) acts) inv is gates c begun ws drawn slot' writes full both;
    }
