-- The slots that a life plans to show are a bucket's.
use Rattle.std.specs.Prelude.{◌≡◌, ◌<◌, ◌⊎◌, ℕ, ◌+◌, Bool, true, false, cond, List, [], ◌∷◌, ◌++◌}
use Rattle.std.proofs.Common.{sym, ap, ◌∙◌, subst, inl, inr}
use Rattle.ob_base.specs.Repeats.{Has}
use Rattle.ob_base.proofs.Repeats.{has_cases}
use Rattle.ob_base.specs.Tree.{width}
use Rattle.ob_base.specs.declared.params.Params.{Params}
use Rattle.ob_ring.specs.FlatTable.{FlatTable, Shown, after_batch, batch_shown}
use Rattle.ob_recover.specs.Life.{WordId, LifeAct, LifeBatch, LifeContent, LifeState, SlotFill, Open, Append, ShowBatch, ShowLifts, End, IsLife, batch_places, leaves, life_step, lift_slots, log_slots, planned_slots, reached, slots_of, table_now}
use Rattle.ob_recover.proofs.LifeSlots.{AreSlotsSound, slots_keep}

pub version_of : (e : ℕ) (c : LifeContent) (ss : List Shown) (f : SlotFill) → Has (slots_of e c ss) f → f.version ≡ c.version f.bucket
version_of e c [] f h = absurd h
version_of e c (s ∷ ss) f (inl same) = (λ i. (sym same i).version) ∙ ap (λ (x : SlotFill). c.version x.bucket) same
version_of e c (s ∷ ss) f (inr h) = version_of e c ss f h

module _ (p : Params) (word_of : WordId → ℕ) where
  versions_of_log : (e : ℕ) (c : LifeContent) (t : FlatTable) (log : List LifeBatch) (f : SlotFill) → Has (log_slots p word_of e c t log) f → f.version ≡ c.version f.bucket
  versions_of_log e c t [] f h = absurd h
  versions_of_log e c t (r ∷ rs) f h = go (has_cases (slots_of e c (batch_shown p t (leaves p word_of (batch_places r)))) (log_slots p word_of e c (after_batch p t (leaves p word_of (batch_places r))) rs) f h)
      (λ later. versions_of_log e c (after_batch p t (leaves p word_of (batch_places r))) rs f later)
    where
      go : Has (slots_of e c (batch_shown p t (leaves p word_of (batch_places r)))) f ⊎ Has (log_slots p word_of e c (after_batch p t (leaves p word_of (batch_places r))) rs) f
          → (Has (log_slots p word_of e c (after_batch p t (leaves p word_of (batch_places r))) rs) f → f.version ≡ c.version f.bucket) → f.version ≡ c.version f.bucket
      go (inl now) later = version_of e c (batch_shown p t (leaves p word_of (batch_places r))) f now
      go (inr behind) later = later behind

  abbrev of_lifts : LifeState → Bool → List SlotFill
  of_lifts s lifting = cond lifting (lift_slots p word_of (s.epoch + 1) s.content (table_now p word_of s)) []

  abbrev AreLow : List SlotFill → Type 0
  AreLow fs = (f : SlotFill) → Has fs f → f.slot < width p

  pub planned_low : (s : LifeState) → AreSlotsSound p word_of s → AreLow s.past_slots → AreLow (planned_slots p word_of s)
  planned_low s sound past f h = go (has_cases s.past_slots (log_slots p word_of (s.epoch + 1) s.content s.content.table s.log ++ of_lifts s s.lifting) f h)
    where
      present : f.version ≡ s.content.version f.bucket → f.slot < width p
      present same =
          (let is = (sound.slots.present f h same).1 in
          subst (λ (x : ℕ). x < width p) (sym is.2) ((sound.slots.ranked f.bucket).within is.0 is.1))

      lifted : (b : Bool) → Has (of_lifts s b) f → f.slot < width p
      lifted true now = present (lifts_version now)
        where
          lifts_version : Has (lift_slots p word_of (s.epoch + 1) s.content (table_now p word_of s)) f → f.version ≡ s.content.version f.bucket
          lifts_version now = version_of (s.epoch + 1) s.content _ f now
      lifted false now = absurd now

      running : Has (log_slots p word_of (s.epoch + 1) s.content s.content.table s.log) f ⊎ Has (of_lifts s s.lifting) f → f.slot < width p
      running (inl now) = present (versions_of_log (s.epoch + 1) s.content s.content.table s.log f now)
      running (inr now) = lifted s.lifting now

      go : Has s.past_slots f ⊎ Has (log_slots p word_of (s.epoch + 1) s.content s.content.table s.log ++ of_lifts s s.lifting) f → f.slot < width p
      go (inl before) = past f before
      go (inr now) = running (has_cases (log_slots p word_of (s.epoch + 1) s.content s.content.table s.log) (of_lifts s s.lifting) f now)

  step_low : (s : LifeState) (a : LifeAct) → AreSlotsSound p word_of s → AreLow s.past_slots → AreLow (life_step p word_of s a).past_slots
  step_low s (Open g) sound past = past
  step_low s (Append r) sound past = past
  step_low s ShowBatch sound past = past
  step_low s ShowLifts sound past = past
  step_low s (End ws drawn slot) sound past = planned_low s sound past

  pub life_low : (some : 0 < p.dummies) (s : LifeState) (acts : List LifeAct) → IsLife p word_of s acts → AreSlotsSound p word_of s → AreLow s.past_slots → AreLow (reached p word_of s acts).past_slots
  life_low some s [] life sound past = past
  life_low some s (a ∷ rest) life sound past = life_low some (life_step p word_of s a) rest life.1 (slots_keep p word_of some s a life.0 sound) (step_low s a sound past)
