-- The laws of lives and of the public schedule.
use Rattle.std.specs.Prelude.{◌≡◌, ℕ, ◌+◌, ◌<◌, List, ◌++◌, Option, length}
use Rattle.ob_tables.specs.Rank.{IsRanking}
use Rattle.ob_base.specs.declared.params.Params.{Params}
use Rattle.ob_base.specs.Repeats.{Has, NoRepeats}
use Rattle.ob_ring.specs.FlatTable.{FlatTable, Batch, FinalLifts, picks, after, leaves_shown}
use Rattle.ob_schedule.specs.Holes.{final_holes}
use Rattle.ob_ring.specs.Sound.{IsSound, IsCounted}
use Rattle.ob_ring.specs.News.{Seen, with_all, AreNew, Marks}
use Rattle.ob_schedule.specs.Schedule.{Public, counts_now, phase_notes, after_phase, hole_reads}
use Rattle.ob_recover.specs.Bridge.{picked_notes, picked_reads, slot_read_off}
use Rattle.ob_recover.specs.Life.{WordId, LifeState, LifeAct, ShowBatch, ShowLifts, LabelFill, SlotFill, HolesAreFresh, IsLife, life_labels, life_slots, formatted_life, reached, labels_shown, slots_shown}
use Rattle.ob_recover.specs.Calls.{RunSeals, AreRising, pads_of}

-- every life from a format on is fresh, over any number of runs, crashes and repeats
abbrev pub LivesAreFresh : Type 0
LivesAreFresh = (p : Params) (word_of : WordId → ℕ) (slot : ℕ → ℕ → ℕ) (acts : List LifeAct) → 0 < p.dummies → ((u : ℕ) → IsRanking (p.real + p.dummies) (slot u)) →
    IsLife p word_of (formatted_life slot) acts → HolesAreFresh (life_labels p word_of (formatted_life slot) acts) (life_slots p word_of (formatted_life slot) acts)

-- two attempts of an epoch that have begun equally many phases show the same next
abbrev pub AttemptsAgree : Type 0
AttemptsAgree = (p : Params) (word_of : WordId → ℕ) (s : LifeState) (acts : List LifeAct) → IsLife p word_of s acts →
    (reached p word_of s acts).epoch ≡ s.epoch → (reached p word_of s acts).begun ≡ s.begun → s.begun < length s.log →
    (labels_shown p word_of (reached p word_of s acts) ShowBatch ≡ labels_shown p word_of s ShowBatch) × (slots_shown p word_of (reached p word_of s acts) ShowBatch ≡ slots_shown p word_of s ShowBatch)

-- and the final lifts of an epoch are the same in each attempt that comes to them
abbrev pub LiftsAgree : Type 0
LiftsAgree = (p : Params) (word_of : WordId → ℕ) (s : LifeState) (acts : List LifeAct) → IsLife p word_of s acts →
    (reached p word_of s acts).epoch ≡ s.epoch → length s.log ≡ p.batches → length (reached p word_of s acts).log ≡ p.batches →
    slots_shown p word_of (reached p word_of s acts) ShowLifts ≡ slots_shown p word_of s ShowLifts

-- a part of what is shown, as where a call stops inside a phase, is fresh too
abbrev pub PartsAreFresh : Type 0
PartsAreFresh = (labels ls : List LabelFill) (slots fs : List SlotFill) → ((l : LabelFill) → Has ls l → Has labels l) → ((f : SlotFill) → Has fs f → Has slots f) → HolesAreFresh labels slots → HolesAreFresh ls fs

-- what a batch reads is its public schedule, filled with the leaves shown and with the slots read off by their holes' names,
-- whatever the order of the slots is; no index was shown before; and the counts that the schedule goes on from are the table's
pub record BatchFacts (p : Params) (q : Public) (label : ℕ → ℕ → ℕ) (slot : ℕ → ℕ → ℕ) (t : FlatTable) (places : List (Option ℕ × ℕ)) (seen : Seen) : Type 0 where
  pub scheduled : picked_notes p q.homes slot t places ≡ phase_notes p q (record { label = label; slot = slot_read_off slot (picks p t (Batch places)) }) (leaves_shown p t places)
  pub new : AreNew p seen (picks p t (Batch places))
  pub sound : IsSound p (after p t (Batch places))
  pub counted : IsCounted p (after p t (Batch places)) (counts_now p (after_phase p q (leaves_shown p t places)))
  pub marks : Marks p (after p t (Batch places)) (with_all seen (picks p t (Batch places)))

abbrev pub PicksAreScheduled : Type 0
PicksAreScheduled = (p : Params) (q : Public) (label : ℕ → ℕ → ℕ) (slot : ℕ → ℕ → ℕ) (t : FlatTable) (places : List (Option ℕ × ℕ)) (seen : Seen) →
    IsSound p t → IsCounted p t (counts_now p q) → Marks p t seen → BatchFacts p q label slot t places seen

-- and so are the final lifts
abbrev pub LiftsAreScheduled : Type 0
LiftsAreScheduled = (p : Params) (q : Public) (label : ℕ → ℕ → ℕ) (slot : ℕ → ℕ → ℕ) (t : FlatTable) (seen : Seen) →
    IsSound p t → IsCounted p t (counts_now p q) → Marks p t seen → t.counter ≡ q.counter →
    (picked_reads p q.homes slot (picks p t FinalLifts) ≡ hole_reads p q (record { label = label; slot = slot_read_off slot (picks p t FinalLifts) }) (final_holes p (counts_now p q) q.counter))
    × AreNew p seen (picks p t FinalLifts)

-- what is sealed in runs of rising generations has no identity twice
abbrev pub PadsDiffer : Type 0
PadsDiffer = (generation : ℕ) (runs : List RunSeals) → AreRising generation runs → NoRepeats (pads_of runs)

-- a life goes on by the acts of a further call
abbrev pub LivesGoOn : Type 0
LivesGoOn = (p : Params) (word_of : WordId → ℕ) (s : LifeState) (xs ys : List LifeAct) → IsLife p word_of s xs → IsLife p word_of (reached p word_of s xs) ys → IsLife p word_of s (xs ++ ys)
