-- What a call of a life shows is what a history with the life's fills shows.
use Rattle.std.specs.Prelude.{◌≡◌, ℕ, Bool, List, [], ◌∷◌, Option, length}
use Rattle.ob_base.specs.Tree.{width}
use Rattle.ob_base.specs.declared.params.Params.{Params}
use Rattle.ob_tables.specs.Rank.{IsRanking}
use Rattle.ob_schedule.specs.Schedule.{Fills, batch_notes, end_notes}
use Rattle.ob_recover.specs.Life.{WordId, LifeAct, LifeBatch, LifeState, Append, ShowBatch, ShowLifts, End, IsLife, formatted_life, life_labels, life_slots, planned_labels, reached}
use Rattle.ob_recover.specs.LifePublic.{public_in}
use Rattle.ob_fresh.specs.PublicLives.{AreEndsShown}
use Rattle.ob_serial.specs.Vaults as vault
use Rattle.ob_serial.specs.Vaults.{VaultCall}
use Rattle.ob_vault.specs.Shown.{AreFilledBy}
use Rattle.ob_histories.specs.Fills.{AllFills, fills_at, public_in_epoch}
use Rattle.ob_admitted.specs.Fills.{FillsAll}
use Rattle.ob_admitted.specs.Publics.{AreRecordsWhole}

abbrev pub batch_acts : LifeBatch → List LifeAct
batch_acts r = Append r ∷ ShowBatch ∷ []

abbrev pub end_acts : List (ℕ × Option WordId) → ℕ → (ℕ → ℕ → ℕ) → List LifeAct
end_acts ws drawn slot = ShowLifts ∷ End ws drawn slot ∷ []

-- the call's fills, and these of all epochs, are what the acts show
abbrev pub AreBothFilled : Params → (WordId → ℕ) → AllFills → LifeState → List LifeAct → VaultCall → Fills → Type 0
AreBothFilled p word_of f s acts call c = AreFilledBy p word_of s acts call c × FillsAll p word_of f (life_labels p word_of s acts) (life_slots p word_of s acts)

-- where this attempt has shown all batches of the log, whichever gates are open
pub record CallsShowHistories (p : Params) (word_of : WordId → ℕ) (f : AllFills) (s : LifeState) : Type 0 where
  pub batches : (r : LifeBatch) (asks : List (Option ℕ)) (c : Fills) (gates : ℕ → Bool) → s.begun ≡ length s.log → length r.asks ≡ p.places → AreBothFilled p word_of f s (batch_acts r) (vault.Fetch asks) c
      → batch_notes p (public_in p word_of s gates) c (length s.log) ≡ batch_notes p (public_in_epoch p f s.epoch (length s.log)) (fills_at p f s.epoch) (length s.log)
  pub ends : (ws : List (ℕ × Option WordId)) (drawn : ℕ) (slot : ℕ → ℕ → ℕ) (writes : List (ℕ × Option (List ℕ))) (c : Fills) (gates : ℕ → Bool) → s.begun ≡ length s.log → length s.log ≡ p.batches
      → AreBothFilled p word_of f s (end_acts ws drawn slot) (vault.End writes) c
      → end_notes p (public_in p word_of s gates) c ≡ end_notes p (record (public_in_epoch p f s.epoch p.batches) { gates = gates }) (fills_at p f s.epoch)

-- behind these acts of a life from a format on
abbrev pub CallsGoByFills : Type 0
CallsGoByFills = (p : Params) (word_of : WordId → ℕ) (slot : ℕ → ℕ → ℕ) (acts : List LifeAct) (f : AllFills) → ((u : ℕ) → IsRanking (width p) (slot u)) → IsLife p word_of (formatted_life slot) acts
    → AreEndsShown p word_of (formatted_life slot) acts → AreRecordsWhole p acts → FillsAll p word_of f (planned_labels p word_of (reached p word_of (formatted_life slot) acts)) []
    → CallsShowHistories p word_of f (reached p word_of (formatted_life slot) acts)
