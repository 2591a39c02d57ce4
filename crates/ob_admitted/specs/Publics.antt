-- What is public of a life is what is public of its fills.
use Rattle.std.specs.Prelude.{◌≡◌, ℕ, ◌≤◌, List, [], ◌∷◌, length}
use Rattle.std.specs.List.{flat_map}
use Rattle.std.proofs.Common.{suc}
use Rattle.ob_base.specs.Tree.{below, width}
use Rattle.ob_base.specs.declared.params.Params.{Params}
use Rattle.ob_tables.specs.Rank.{IsRanking}
use Rattle.ob_ring.specs.FlatTable.{reads}
use Rattle.ob_recover.specs.Life.{WordId, LifeAct, LifeState, Open, Append, ShowBatch, ShowLifts, End, IsLife, formatted_life, planned_labels, reached}
use Rattle.ob_recover.specs.LifePublic.{leaves_in}
use Rattle.ob_fresh.specs.PublicLives.{AreEndsShown}
use Rattle.ob_histories.specs.Fills.{AllFills, leaves_of_batches, public_at, version_filled}
use Rattle.ob_admitted.specs.Fills.{FillsAll}

-- each record asks for as many places as a batch has
abbrev pub AreRecordsWhole : Params → List LifeAct → Type 0
AreRecordsWhole p [] = Unit {0}
AreRecordsWhole p (Append r ∷ acts) = (length r.asks ≡ p.places) × AreRecordsWhole p acts
AreRecordsWhole p (Open g ∷ acts) = AreRecordsWhole p acts
AreRecordsWhole p (ShowBatch ∷ acts) = AreRecordsWhole p acts
AreRecordsWhole p (ShowLifts ∷ acts) = AreRecordsWhole p acts
AreRecordsWhole p (End ws drawn slot ∷ acts) = AreRecordsWhole p acts

-- At the beginning of the epoch that runs a history with these fills has the life's homes, counts, counter and versions; and what its batches
-- show are the leaves of the life's.
pub record IsPublicOfFills (p : Params) (word_of : WordId → ℕ) (f : AllFills) (s : LifeState) : Type 0 where
  pub homes : (u : ℕ) → (public_at p f s.epoch).homes u ≡ s.content.home u
  pub counts : (u : ℕ) → (public_at p f s.epoch).counts u ≡ reads p s.content.table u
  pub counter : (public_at p f s.epoch).counter ≡ s.content.table.counter
  pub versions : (u : ℕ) → version_filled p f s.epoch u ≡ s.content.version u
  pub batches : (b : ℕ) → b ≤ length s.log → leaves_of_batches p f (suc s.epoch) b ≡ flat_map (leaves_in p word_of s) (below b)

-- of a life from a format on, of which each epoch was ended by an attempt that had shown all its batches
abbrev pub LivesGoByFills : Type 0
LivesGoByFills = (p : Params) (word_of : WordId → ℕ) (slot : ℕ → ℕ → ℕ) (acts : List LifeAct) (f : AllFills) → ((u : ℕ) → IsRanking (width p) (slot u)) → IsLife p word_of (formatted_life slot) acts
    → AreEndsShown p word_of (formatted_life slot) acts → AreRecordsWhole p acts → FillsAll p word_of f (planned_labels p word_of (reached p word_of (formatted_life slot) acts)) []
    → IsPublicOfFills p word_of f (reached p word_of (formatted_life slot) acts)
