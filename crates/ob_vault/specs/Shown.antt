-- What a ring store's vault draws, as acts of a life of its store.
use Rattle.std.specs.Prelude.{◌≡◌, ℕ, ◌+◌, ◌<◌, List, [], ◌∷◌, ◌++◌, map, length, Option}
use Rattle.ob_base.specs.Repeats.{Has}
use Rattle.ob_base.specs.declared.params.Params.{Params}
use Rattle.ob_tables.specs.Rank.{IsRanking}
use Rattle.ob_fresh.specs.Drawn.{AllDrawNext, WordsKept}
use Rattle.ob_tables.specs.Content.{Obeys}
use Rattle.ob_vault.specs.Shapes.{Shape}
use Rattle.ob_vault.specs.KindShown.{AreDrawn}
use Rattle.ob_recover.specs.Life.{Append, End as EndAct, HolesAreFresh, IsLife, LifeAct, LifeBatch, LifeState, ShowBatch, ShowLifts, SlotFill, WordId, formatted_life, leaf_of_word, life_labels, life_slots, reached}
use Rattle.ob_log.specs.Logs.{RecordsFit}
use Rattle.ob_vault.specs.Acts.{AreBatchesSmall, AreTapeWords}
use Rattle.ob_vault.specs.Hidden.{RingHidden}
use Rattle.ob_vault.specs.RingKind.{ring_kind}
use Rattle.ob_recover.specs.Lives.{IsLifeAt}
use Rattle.ob_schedule.specs.Schedule.{Fills, batch_leaves}
use Rattle.ob_serial.specs.Vaults.{End, Fetch, VaultCall}

-- The life is where this is hidden: behind the epoch, with its content and with the records, each of which was shown in this attempt; in
-- the generation, of which so many words were drawn.
pub record IsInLife (p : Params) (word_of : WordId → ℕ) (h : RingHidden) (s : LifeState) : Type 0 where
  pub obeys : Obeys p h.content
  pub fit : RecordsFit p h.records
  pub life : IsLifeAt p word_of h.content h.records s
  pub small : AreBatchesSmall s.log
  pub epoch : s.epoch ≡ h.epoch
  pub generation : s.generation ≡ h.generation
  pub drawn : s.drawn ≡ length h.words
  pub begun : s.begun ≡ length s.log

-- the leaves that a call shows, filled so, as the batch of this number; an end shows none
abbrev pub leaves_filled : Params → (batch : ℕ) → VaultCall → Fills → List ℕ
leaves_filled p batch (Fetch asks) f = batch_leaves p f batch
leaves_filled p batch (End writes) f = []

-- These fill the call's holes as the acts show them: each leaf is the low bits of the word that is shown there, and the hole of each slot
-- that is shown is filled by it.
pub record AreFilledBy (p : Params) (word_of : WordId → ℕ) (s : LifeState) (acts : List LifeAct) (call : VaultCall) (f : Fills) : Type 0 where
  pub labels : map (λ l. leaf_of_word p word_of l.word) (life_labels p word_of s acts) ≡ leaves_filled p (length s.log) call f
  pub slots : (x : SlotFill) → Has (life_slots p word_of s acts) x → x.slot ≡ f.slot (record { bucket = x.bucket; number = x.number })

-- the acts of a batch with these keys, or of an end
abbrev pub AreActsOf : VaultCall → List LifeAct → Type 0
AreActsOf (Fetch asks) acts = (b : LifeBatch) × (b.asks ≡ asks) × (acts ≡ Append b ∷ ShowBatch ∷ [])
AreActsOf (End writes) acts = (ws : List (ℕ × Option WordId)) × (drawn : ℕ) × (slot : ℕ → ℕ → ℕ) × (acts ≡ ShowLifts ∷ EndAct ws drawn slot ∷ [])

-- each of these calls makes its acts, one behind the other, and is filled by what they show
abbrev pub AreShownBy : (p : Params) → (word_of : WordId → ℕ) → LifeState → List VaultCall → List (Shape × Fills) → List LifeAct → Type 0
AreShownBy p word_of s [] [] acts = acts ≡ []
AreShownBy p word_of s (call ∷ calls) (step ∷ steps) acts = (first : List LifeAct) × (rest : List LifeAct) × (acts ≡ first ++ rest)
    × AreActsOf call first × AreFilledBy p word_of s first call step.1 × AreShownBy p word_of (reached p word_of s first) calls steps rest
AreShownBy p word_of s _ _ acts = ⊥

-- The calls are a life's: their acts lead on to where this is hidden, and draw their words in turn. And from a format on the whole life is fresh: no word is shown in two
-- holes, no slot of a bucket's filling either, and a hole that is shown again is filled as before.
pub record AreOfLife (p : Params) (word_of : WordId → ℕ) (s : LifeState) (calls : List VaultCall) (steps : List (Shape × Fills)) (behind : RingHidden) : Type 0 where
  pub acts : List LifeAct
  pub is_life : IsLife p word_of s acts
  pub then : IsInLife p word_of behind (reached p word_of s acts)
  pub shown : AreShownBy p word_of s calls steps acts
  pub turn : (k : WordsKept) → k.drawn ≡ s.drawn → AllDrawNext p word_of s k acts
  pub fresh : (slot : ℕ → ℕ → ℕ) (before : List LifeAct) → 0 < p.dummies → ((u : ℕ) → IsRanking (p.real + p.dummies) (slot u)) → IsLife p word_of (formatted_life slot) before → reached p word_of (formatted_life slot) before ≡ s
      → HolesAreFresh (life_labels p word_of (formatted_life slot) (before ++ acts)) (life_slots p word_of (formatted_life slot) (before ++ acts))

-- What calls draw, one behind the other from what is hidden where a life is, is what the life shows, whatever words the tape gave.
abbrev pub DrawnIsShown : Type 0
DrawnIsShown = (p : Params) (word_of : WordId → ℕ) (s : LifeState) (h behind : RingHidden) (calls : List VaultCall) (steps : List (Shape × Fills))
    → IsInLife p word_of h s → AreDrawn ring_kind p h calls steps behind → AreTapeWords word_of behind.generation behind.words → AreOfLife p word_of s calls steps behind
