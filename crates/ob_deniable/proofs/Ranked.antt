-- A life's slots are the ranks of the indexes that it shows, and the indexes are independent of the ranks.
use Rattle.std.specs.Prelude.{◌≡◌, ℕ, ◌+◌, ◌<◌, Bool, true, false, cond, List, [], ◌∷◌, ◌++◌, map}
use Rattle.std.proofs.Common.{zero, suc, arith, refl, sym, ap, subst, ◌∙◌, inl, inr}
use Rattle.std.proofs.lemmas.List.{append-nil}
use Rattle.ob_base.specs.declared.params.Params.{Params}
use Rattle.ob_base.specs.Repeats.{Has}
use Rattle.ob_base.proofs.Repeats.{has_cases}
use Rattle.ob_schedule.specs.Paths.{eviction_path}
use Rattle.ob_ring.specs.FlatTable.{FlatTable, Shown, FinalLifts, Writes, Refill, after, after_batch, batch_shown, final_shown}
use Rattle.ob_recover.specs.Life.{WordId, LifeBatch, LifeContent, LifeState, LifeAct, Open, Append, ShowBatch, ShowLifts, End, LabelFill, SlotFill, IsLife, batch_places, book_after_log, book_written}
use Rattle.ob_recover.specs.Life.{is_table_lifted, leaf_write, leaves, phase_slots, lift_slots, slot_fill, slots_of, labels_shown, slots_shown, life_slots, life_step, phase_labels, table_after}
use Rattle.ob_recover.specs.Life.{table_now}
use Rattle.ob_recover.proofs.LifeSlots.{AreSlotsSound, slots_keep, life_planned}
use Rattle.ob_deniable.specs.Works.{own_slots, LifeWork, Opens, Logs, Shows, Lifts, Ends, VersionSlots, acts_of, SeenHole, Place, seen_label, seen_slot, seen_of_acts}
use Rattle.ob_deniable.proofs.Pairs.{has_mapped}
use Rattle.ob_deniable.proofs.Acts.{rows}

-- a fill that shows an index, with the slot that the index has
abbrev pub ranked : VersionSlots → SlotFill → SlotFill
ranked slots f = record f { slot = slots f.version f.bucket f.slot }

abbrev pub seen_ranked : VersionSlots → SlotFill → SeenHole
seen_ranked slots f = Place f.bucket f.version (slots f.version f.bucket f.slot)

pub record SameContent (slots : VersionSlots) (c c0 : LifeContent) : Type 0 where
  pub table : c.table ≡ c0.table
  pub book : c.book ≡ c0.book
  pub version : c.version ≡ c0.version
  pub slot : (u j : ℕ) → c.slot u j ≡ slots (c0.version u) u j
  pub slot0 : (u j : ℕ) → c0.slot u j ≡ j

slots_ranked : (slots : VersionSlots) (e : ℕ) (c c0 : LifeContent) (ss : List Shown) → SameContent slots c c0 → slots_of e c ss ≡ map (ranked slots) (slots_of e c0 ss)
slots_ranked slots e c c0 [] r = refl
slots_ranked slots e c c0 (s ∷ ss) r =
    let at : c.slot s.bucket s.index ≡ slots (c0.version s.bucket) s.bucket (c0.slot s.bucket s.index) = r.slot s.bucket s.index ∙ ap (slots (c0.version s.bucket) s.bucket) (sym (r.slot0 s.bucket s.index)) in
    λ i. record { epoch = e; bucket = s.bucket; number = s.number; version = r.version i s.bucket; slot = at i } ∷ slots_ranked slots e c c0 ss r i

end_slot : (b : Bool) (e v : ℕ) (new old : ℕ → ℕ) (by_version : ℕ → ℕ → ℕ) (j : ℕ) → new j ≡ by_version e j → old j ≡ by_version v j → cond b new old j ≡ by_version (cond b e v) j
end_slot true e v new old by_version j h k = h
end_slot false e v new old by_version j h k = k

end_slot0 : (b : Bool) (old : ℕ → ℕ) (j : ℕ) → old j ≡ j → cond b (λ i. i) old j ≡ j
end_slot0 true old j h = refl
end_slot0 false old j h = h

module _ (p : Params) (w : WordId → ℕ) (slots : VersionSlots) where
  phase_ranked : (e : ℕ) (c c0 : LifeContent) (t : FlatTable) (log : List LifeBatch) (n : ℕ) → SameContent slots c c0 → phase_slots p w e c t log n ≡ map (ranked slots) (phase_slots p w e c0 t log n)
  phase_ranked e c c0 t [] n r = refl
  phase_ranked e c c0 t (b ∷ log) zero r = slots_ranked slots e c c0 (batch_shown p t (leaves p w (batch_places b))) r
  phase_ranked e c c0 t (b ∷ log) (suc n) r = phase_ranked e c c0 (after_batch p t (leaves p w (batch_places b))) log n r

  pub record Ranks (e : ℕ) (s s0 : LifeState) : Type 0 where
    pub at : s.epoch ≡ e
    pub epoch : s.epoch ≡ s0.epoch
    pub begun : s.begun ≡ s0.begun
    pub log : s.log ≡ s0.log
    pub content : SameContent slots s.content s0.content

  seen_map : (fs : List SlotFill) → map (seen_slot p w) (map (ranked slots) fs) ≡ map (seen_ranked slots) fs
  seen_map [] = refl
  seen_map (f ∷ fs) = ap (λ hs. seen_ranked slots f ∷ hs) (seen_map fs)

  abbrev pub seen_row : List LabelFill × List SlotFill → List SeenHole
  seen_row r = map (seen_label p w) r.0 ++ map (seen_ranked slots) r.1

  pub seen_by_rows : (e : ℕ) (s s0 : LifeState) (one : List LifeWork) → Ranks e s s0 → seen_of_acts p w s (acts_of e slots one) ≡ map seen_row (rows p w s0 (acts_of e own_slots one))
  seen_by_rows e s s0 [] r = refl
  seen_by_rows e s s0 (Opens g ∷ one) r = ap (λ hs. [] ∷ hs) (seen_by_rows e (life_step p w s (Open g)) (life_step p w s0 (Open g)) one (record { at = r.at; epoch = r.epoch; begun = refl; log = r.log; content = r.content }))
  seen_by_rows e s s0 (Logs asks first ∷ one) r =
      let b : LifeBatch = record { asks = asks; first = first } in
      ap (λ hs. [] ∷ hs) (seen_by_rows e (life_step p w s (Append b)) (life_step p w s0 (Append b)) one (record { at = r.at; epoch = r.epoch; begun = r.begun; log = ap (λ (l : List LifeBatch). l ++ b ∷ []) r.log; content = r.content }))
  seen_by_rows e s s0 (Shows ∷ one) r =
      let labels : labels_shown p w s ShowBatch ≡ labels_shown p w s0 ShowBatch = λ i. phase_labels p w (r.epoch i + 1) 0 (r.content.book i) (r.log i) (r.begun i) in
      let places : slots_shown p w s ShowBatch ≡ map (ranked slots) (slots_shown p w s0 ShowBatch) = phase_ranked (s.epoch + 1) s.content s0.content s.content.table s.log s.begun r.content ∙
      (λ i. map (ranked slots) (phase_slots p w (r.epoch i + 1) s0.content (r.content.table i) (r.log i) (r.begun i))) in
      let rest = seen_by_rows e (life_step p w s ShowBatch) (life_step p w s0 ShowBatch) one (record { at = r.at; epoch = r.epoch; begun = ap (λ (n : ℕ). n + 1) r.begun; log = r.log; content = r.content }) in
      let seen : map (seen_slot p w) (slots_shown p w s ShowBatch) ≡ map (seen_ranked slots) (slots_shown p w s0 ShowBatch) = ap (map (seen_slot p w)) places ∙ seen_map (slots_shown p w s0 ShowBatch) in
      λ i. (map (seen_label p w) (labels i) ++ seen i) ∷ rest i
  seen_by_rows e s s0 (Lifts ∷ one) r =
      let places : slots_shown p w s ShowLifts ≡ map (ranked slots) (slots_shown p w s0 ShowLifts) =
      slots_ranked slots (s.epoch + 1) s.content s0.content (final_shown p (table_now p w s) (eviction_path p (table_now p w s).counter)) r.content
      ∙ (λ i. (let t : FlatTable = table_after p w (r.content.table i) (r.log i) in map (ranked slots) (slots_of (r.epoch i + 1) s0.content (final_shown p t (eviction_path p t.counter))))) in
      let rest = seen_by_rows e (life_step p w s ShowLifts) (life_step p w s0 ShowLifts) one (record { at = r.at; epoch = r.epoch; begun = ap (λ (n : ℕ). n + 1) r.begun; log = r.log; content = r.content }) in
      let seen : map (seen_slot p w) (slots_shown p w s ShowLifts) ≡ map (seen_ranked slots) (slots_shown p w s0 ShowLifts) = ap (map (seen_slot p w)) places ∙ seen_map (slots_shown p w s0 ShowLifts) in
      λ i. seen i ∷ rest i
  seen_by_rows e s s0 (Ends ws n ∷ one) r =
      let t : table_now p w s ≡ table_now p w s0 = λ i. table_after p w (r.content.table i) (r.log i) in
      let up : (u : ℕ) → is_table_lifted p w s u ≡ is_table_lifted p w s0 u = λ u i. (after p (t i) FinalLifts).lifted u in
      let s1 : LifeState = life_step p w s (End ws n (slots (e + 1))) in
      let s2 : LifeState = life_step p w s0 (End ws n (own_slots (e + 1))) in
      ap (λ hs. [] ∷ hs) (seen_by_rows (e + 1) s1 s2 one (record {
        at = ap (λ (n : ℕ). n + 1) r.at;
        epoch = ap (λ (n : ℕ). n + 1) r.epoch;
        begun = refl;
        log = refl;
        content = record {
          table = λ i. after p (after p (after p (t i) FinalLifts) (Writes (map (leaf_write p w) ws))) Refill;
          book = λ i. book_written p w (book_after_log p w (r.content.book i) (r.log i)) ws;
          version = λ i u. cond (up u i) (r.epoch i + 1) (r.content.version i u);
          slot = λ u j. ap (λ (b : Bool). cond b (slots (e + 1) u) (s.content.slot u) j) (up u)
              ∙ end_slot (is_table_lifted p w s0 u) (s0.epoch + 1) (s0.content.version u) (slots (e + 1) u) (s.content.slot u) (λ v i. slots v u i) j (λ i. slots ((sym r.at ∙ r.epoch) i + 1) u j) (r.content.slot u j);
          slot0 = λ u j. end_slot0 (is_table_lifted p w s0 u) (s0.content.slot u) j (r.content.slot0 u j);
        };
      }))

-- ---- an index that is shown is one of its bucket's

module _ (p : Params) (some : 0 < p.dummies) (w : WordId → ℕ) where
  from_phase : (e : ℕ) (c : LifeContent) (t : FlatTable) (log : List LifeBatch) (n : ℕ) (f : SlotFill) → Has (phase_slots p w e c t log n) f → f.version ≡ c.version f.bucket
  from_phase e c t [] n f h = absurd h
  from_phase e c t (r ∷ log) zero f h = let x = has_mapped (slot_fill e c) (batch_shown p t (leaves p w (batch_places r))) f h in subst (λ (g : SlotFill). g.version ≡ c.version g.bucket) x.2 refl
  from_phase e c t (r ∷ log) (suc n) f h = from_phase e c (after_batch p t (leaves p w (batch_places r))) log n f h

  from_lifts : (e : ℕ) (c : LifeContent) (t : FlatTable) (f : SlotFill) → Has (lift_slots p w e c t) f → f.version ≡ c.version f.bucket
  from_lifts e c t f h = let x = has_mapped (slot_fill e c) (final_shown p t (eviction_path p t.counter)) f h in subst (λ (g : SlotFill). g.version ≡ c.version g.bucket) x.2 refl

  shown_low : (s : LifeState) (a : LifeAct) (f : SlotFill) → IsLife p w s (a ∷ []) → AreSlotsSound p w s → (c : LifeContent) → (life_step p w s a).content ≡ c → ((u j : ℕ) → c.slot u j ≡ j) → f.version ≡ c.version f.bucket →
      Has (slots_shown p w s a) f → f.slot < p.real + p.dummies
  shown_low s a f life inv c is own at h =
      let next : AreSlotsSound p w (life_step p w s a) = slots_keep p w some s a life.0 inv in
      let planned = life_planned p w some s (a ∷ []) f life inv (subst (λ (fs : List SlotFill). Has fs f) (sym (append-nil (slots_shown p w s a))) h) in
      let was = next.slots.present f planned (at ∙ (λ i. (sym is i).version f.bucket)) in
      let j : ℕ = was.1.0 in
      let low : j < p.real + p.dummies = was.1.1 in
      let slot : f.slot ≡ j = was.1.2 ∙ (λ i. (is i).slot f.bucket j) ∙ own f.bucket j in
      omega arith

  pub indexes_low : (e : ℕ) (s : LifeState) (one : List LifeWork) → IsLife p w s (acts_of e own_slots one) → AreSlotsSound p w s → ((u j : ℕ) → s.content.slot u j ≡ j) → (f : SlotFill) → Has (life_slots p w s (acts_of e own_slots one)) f → f.slot < p.real + p.dummies
  indexes_low e s [] life inv own f h = absurd h
  indexes_low e s (Opens g ∷ one) life inv own f h = indexes_low e (life_step p w s (Open g)) one life.1 (slots_keep p w some s (Open g) life.0 inv) own f h
  indexes_low e s (Logs asks first ∷ one) life inv own f h =
      let r : LifeBatch = record { asks = asks; first = first } in
      indexes_low e (life_step p w s (Append r)) one life.1 (slots_keep p w some s (Append r) life.0 inv) own f h
  indexes_low e s (Shows ∷ one) life inv own f h = elim (has_cases (slots_shown p w s ShowBatch) (life_slots p w (life_step p w s ShowBatch) (acts_of e own_slots one)) f h) [
    | inl now ↦ shown_low s ShowBatch f (life.0, tt) inv s.content refl own (from_phase (s.epoch + 1) s.content s.content.table s.log s.begun f now) now
    | inr later ↦ indexes_low e (life_step p w s ShowBatch) one life.1 (slots_keep p w some s ShowBatch life.0 inv) own f later
  ]
  indexes_low e s (Lifts ∷ one) life inv own f h = elim (has_cases (slots_shown p w s ShowLifts) (life_slots p w (life_step p w s ShowLifts) (acts_of e own_slots one)) f h) [
    | inl now ↦ shown_low s ShowLifts f (life.0, tt) inv s.content refl own (from_lifts (s.epoch + 1) s.content (table_now p w s) f now) now
    | inr later ↦ indexes_low e (life_step p w s ShowLifts) one life.1 (slots_keep p w some s ShowLifts life.0 inv) own f later
  ]
  indexes_low e s (Ends ws n ∷ one) life inv own f h =
      indexes_low (e + 1) (life_step p w s (End ws n (own_slots (e + 1)))) one life.1 (slots_keep p w some s (End ws n (own_slots (e + 1))) life.0 inv) (λ u j. end_slot0 (is_table_lifted p w s u) (s.content.slot u) j (own u j)) f h
