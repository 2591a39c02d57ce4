-- The slots that an act shows: of the tree's buckets, of their present versions, at their indexes.
use Rattle.std.specs.Prelude.{◌≡◌, ℕ, ◌+◌, ◌<◌, List, [], ◌∷◌}
use Rattle.std.proofs.Common.{zero, suc, refl, subst}
use Rattle.ob_base.specs.declared.params.Params.{Params}
use Rattle.ob_base.specs.Repeats.{Has}
use Rattle.ob_base.specs.Tree.{buckets, width}
use Rattle.ob_base.proofs.Repeats.{has_left}
use Rattle.ob_ring.specs.FlatTable.{FlatTable, Shown, after_batch, batch_shown, final_shown}
use Rattle.ob_ring.proofs.Lows.{IsLow, eviction_within, low_batch}
use Rattle.ob_schedule.specs.Paths.{eviction_path}
use Rattle.ob_recover.specs.Life.{WordId, LifeBatch, LifeContent, LifeState, LifeAct, Open, Append, ShowBatch, ShowLifts, End, SlotFill, IsActAllowed, batch_places, leaves, lift_slots, life_step, phase_slots, planned_slots, slot_fill, slots_of, slots_shown, table_now}
use Rattle.ob_recover.proofs.LifeSlots.{AreSlotsSound, leaves_low, life_planned, slots_keep}
use Rattle.ob_recover.proofs.Tree.{AreShownBelow, all_below, batch_below, bucket_at, final_below, in_tree, many}
use Rattle.ob_fresh.proofs.Listed.{has_mapped}

-- a hole of a bucket's present version
pub record IsPresent (p : Params) (c : LifeContent) (e : ℕ) (f : SlotFill) : Type 0 where
  pub epoch : f.epoch ≡ e
  pub in_tree : f.bucket < buckets p
  pub version : f.version ≡ c.version f.bucket

slots_present : (p : Params) (e : ℕ) (c : LifeContent) (ss : List Shown) → AreShownBelow (many p) ss → (f : SlotFill) → Has (slots_of e c ss) f → IsPresent p c e f
slots_present p e c ss low f h =
    let x = has_mapped (slot_fill e c) ss f h in
    subst (λ (g : SlotFill). IsPresent p c e g) x.2 (record { epoch = refl; in_tree = in_tree p x.0.bucket (bucket_at (many p) ss x.0 low x.1); version = refl })

module _ (p : Params) (word_of : WordId → ℕ) where
  phase_present : (e : ℕ) (c : LifeContent) (t : FlatTable) (log : List LifeBatch) (n : ℕ) → IsLow p t → (f : SlotFill) → Has (phase_slots p word_of e c t log n) f → IsPresent p c e f
  phase_present e c t [] n low f h = absurd h
  phase_present e c t (r ∷ log) zero low f h =
      slots_present p e c (batch_shown p t (leaves p word_of (batch_places r))) (batch_below p t (leaves p word_of (batch_places r)) (leaves_low p word_of (batch_places r)) low) f h
  phase_present e c t (r ∷ log) (suc n) low f h =
      phase_present e c (after_batch p t (leaves p word_of (batch_places r))) log n (low_batch p t (leaves p word_of (batch_places r)) (leaves_low p word_of (batch_places r)) low) f h

  lifts_present : (e : ℕ) (c : LifeContent) (t : FlatTable) (f : SlotFill) → Has (lift_slots p word_of e c t) f → IsPresent p c e f
  lifts_present e c t f h =
      let path : List ℕ = eviction_path p t.counter in
      slots_present p e c (final_shown p t path) (final_below (many p) p t path (all_below (many p) path (λ u one. eviction_within p t.counter u one))) f h

  shown_present : (s : LifeState) (a : LifeAct) → IsLow p s.content.table → (f : SlotFill) → Has (slots_shown p word_of s a) f → IsPresent p s.content (s.epoch + 1) f
  shown_present s (Open g) low f h = absurd h
  shown_present s (Append r) low f h = absurd h
  shown_present s ShowBatch low f h = phase_present (s.epoch + 1) s.content s.content.table s.log s.begun low f h
  shown_present s ShowLifts low f h = lifts_present (s.epoch + 1) s.content (table_now p word_of s) f h
  shown_present s (End ws drawn slot) low f h = absurd h

  -- it shows the slot of one of the bucket's indexes
  pub record IsShownAt (s : LifeState) (f : SlotFill) : Type 0 where
    pub present : IsPresent p s.content (s.epoch + 1) f
    pub index : ℕ
    pub low : index < width p
    pub at : f.slot ≡ s.content.slot f.bucket index

  module _ (some : 0 < p.dummies) (s : LifeState) (sound : AreSlotsSound p word_of s) (low : IsLow p s.content.table) where
    planned_now : (a : LifeAct) → IsActAllowed p word_of s a → (f : SlotFill) → Has (slots_shown p word_of s a) f → Has (planned_slots p word_of (life_step p word_of s a)) f
    planned_now a ok f h = life_planned p word_of some s (a ∷ []) f (ok, tt) sound (has_left (slots_shown p word_of s a) [] f h)

    pub shown_at : (a : LifeAct) → IsActAllowed p word_of s a → (f : SlotFill) → Has (slots_shown p word_of s a) f → IsShownAt s f
    shown_at (Open g) ok f h = absurd h
    shown_at (Append r) ok f h = absurd h
    shown_at ShowBatch ok f h =
        let here : IsPresent p s.content (s.epoch + 1) f = shown_present s ShowBatch low f h in
        let then : AreSlotsSound p word_of (life_step p word_of s ShowBatch) = slots_keep p word_of some s ShowBatch ok sound in
        let found = then.slots.present f (planned_now ShowBatch ok f h) here.version in
        record { present = here; index = found.1.0; low = found.1.1; at = found.1.2 }
    shown_at ShowLifts ok f h =
        let here : IsPresent p s.content (s.epoch + 1) f = shown_present s ShowLifts low f h in
        let then : AreSlotsSound p word_of (life_step p word_of s ShowLifts) = slots_keep p word_of some s ShowLifts ok sound in
        let found = then.slots.present f (planned_now ShowLifts ok f h) here.version in
        record { present = here; index = found.1.0; low = found.1.1; at = found.1.2 }
    shown_at (End ws drawn slot) ok f h = absurd h
