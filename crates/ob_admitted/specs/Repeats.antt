-- What an opening of a life repeats is what a history with the life's fills shows again.
use Rattle.std.specs.Prelude.{◌≡◌, ℕ, Bool, List, [], ◌∷◌, length, map}
use Rattle.std.specs.List.{flat_map}
use Rattle.ob_base.specs.Repeats.{Has}
use Rattle.ob_base.specs.Tree.{below, width}
use Rattle.ob_base.specs.declared.params.Params.{Params}
use Rattle.ob_store.specs.declared.watch.Note.{Note}
use Rattle.ob_tables.specs.Rank.{IsRanking}
use Rattle.ob_schedule.specs.Schedule.{Fills, batch_leaves, begun_public, phase_notes, repeats}
use Rattle.ob_recover.specs.Calls.{repeated}
use Rattle.ob_recover.specs.Life.{WordId, LifeAct, LifeState, SlotFill, Open, IsLife, formatted_life, leaf_of_word, life_labels, life_slots, planned_labels, reached}
use Rattle.ob_recover.specs.LifePublic.{public_in}
use Rattle.ob_fresh.specs.PublicLives.{AreEndsShown}
use Rattle.ob_histories.specs.Fills.{AllFills, fills_at, public_in_epoch}
use Rattle.ob_admitted.specs.Fills.{FillsAll}
use Rattle.ob_admitted.specs.Publics.{AreRecordsWhole}

-- what a history with these fills shows of a batch, but for its record
abbrev pub phase_of_fills : Params → AllFills → (epoch batch : ℕ) → List Note
phase_of_fills p f epoch b = phase_notes p (public_in_epoch p f epoch b) (fills_at p f epoch) (batch_leaves p (fills_at p f epoch) b)

-- a run begins a generation, and repeats each batch of the log
abbrev pub begin_acts : LifeState → ℕ → List LifeAct
begin_acts s generation = Open generation ∷ repeated (length s.log)

-- the opening's fills are what its acts show
pub record AreRepeatsFilled (p : Params) (word_of : WordId → ℕ) (s : LifeState) (generation : ℕ) (c : Fills) : Type 0 where
  pub labels : map (λ l. leaf_of_word p word_of l.word) (life_labels p word_of s (begin_acts s generation)) ≡ flat_map (λ b. batch_leaves p c b) (below (length s.log))
  pub slots : (x : SlotFill) → Has (life_slots p word_of s (begin_acts s generation)) x → x.slot ≡ c.slot (record { bucket = x.bucket; number = x.number })

-- whichever gates were open, and were found open
abbrev pub OpeningsShowHistories : Params → (WordId → ℕ) → AllFills → LifeState → Type 0
OpeningsShowHistories p word_of f s = (generation : ℕ) (c : Fills) (gates found : ℕ → Bool) → AreRepeatsFilled p word_of s generation c → FillsAll p word_of f [] (life_slots p word_of s (begin_acts s generation))
    → repeats p (begun_public found (public_in p word_of s gates)) c 0 (length s.log) ≡ flat_map (phase_of_fills p f s.epoch) (below (length s.log))

-- behind these acts of a life from a format on
abbrev pub OpeningsGoByFills : Type 0
OpeningsGoByFills = (p : Params) (word_of : WordId → ℕ) (slot : ℕ → ℕ → ℕ) (acts : List LifeAct) (f : AllFills) → ((u : ℕ) → IsRanking (width p) (slot u)) → IsLife p word_of (formatted_life slot) acts
    → AreEndsShown p word_of (formatted_life slot) acts → AreRecordsWhole p acts → FillsAll p word_of f (planned_labels p word_of (reached p word_of (formatted_life slot) acts)) []
    → OpeningsShowHistories p word_of f (reached p word_of (formatted_life slot) acts)
