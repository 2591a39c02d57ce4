-- Stages of a call: in each the same acts are behind the store, and the same one is in flight.
use Rattle.std.specs.Prelude.{◌≡◌, ◌⊎◌, ℕ, zero, suc, ◌+◌, ◌≤◌, ◌^◌, List, [], ◌∷◌, ◌++◌, length, Option, None, Some}
use Rattle.std.proofs.Common.{inl, inr}
use Rattle.ob_base.specs.Repeats.{Has}
use Rattle.ob_base.specs.declared.params.Params.{Params}
use Rattle.ob_fresh.specs.Drawn.{DrawInTurn, WordsKept}
use Rattle.ob_opening.specs.OpeningActs.{IsLeftAt, StandsInLife, opening_call}
use Rattle.ob_opening.specs.OpeningRuns.{BeginsAt, OpensFrom, begun_notes}
use Rattle.ob_recover.specs.Calls.{Ended, Fetched, Finds, LifeCall, Opened, repeated}
use Rattle.ob_recover.specs.Finds.{IsFoundInRing}
use Rattle.ob_recover.specs.declared.found.Found.{Found}
use Rattle.ob_recover.specs.Life.{Append, End, IsLife, LifeAct, LifeBatch, LifeState, Open, ShowBatch, ShowLifts, WordId, reached}
use Rattle.ob_seal.specs.declared.keys.Keys.{Keys}
use Rattle.ob_store.specs.Calls.{Notes}
use Rattle.ob_store.specs.Disk.{Disk, Image}
use Rattle.ob_store.specs.Images.{LeavesOnly, Passes, Same}
use Rattle.ob_start.specs.Beginning.{ReadsThenSync}
use Rattle.ob_store.specs.Told.{events_of}

-- the places of a batch's words are below 2^64
abbrev pub IsBatchSmall : LifeBatch → Type 0
IsBatchSmall b = (b.first).place + length b.asks ≤ 2 ^ 64

-- The same of each batch of a log. It holds of the empty log with which a life begins, and each run hands it on to the next.
abbrev pub AreBatchesSmall : List LifeBatch → Type 0
AreBatchesSmall bs = (b : LifeBatch) → Has bs b → IsBatchSmall b

-- ---- the table

-- the acts that were made, and the one in flight
abbrev pub StageActs : Type 0
StageActs = List LifeAct × Option LifeAct

-- An opening is at first where the last run stopped; what was in flight is found or isn't, and a generation begins; then batches are shown
-- again. A fetch keeps its record, and then it shows its batch. An end shows its lifts, and then its epoch becomes durable.
abbrev pub stages_of : (pending : Option LifeAct) → LifeCall → List StageActs
stages_of pending (Opened found g n) = ([], pending) ∷ (found, Some (Open g)) ∷ (found ++ Open g ∷ repeated n, None) ∷ []
stages_of pending (Fetched r) = ([], Some (Append r)) ∷ (Append r ∷ ShowBatch ∷ [], None) ∷ []
stages_of pending (Ended ws drawn slot) = (ShowLifts ∷ [], None) ∷ (ShowLifts ∷ [], Some (End ws drawn slot)) ∷ []

-- ---- over a store

module _ {S : Type 0} (disk : S → Disk) (keys : Keys) (p : Params) (word_of : WordId → ℕ) (s : LifeState) where
  -- The acts are the life's, and their words are drawn in turn. A crash at any moment of the stage leaves an image that the next opening goes on
  -- from, behind these acts and maybe the one in flight.
  pub record IsStage (acts : StageActs) (old new : S) : Type 0 where
    pub is_life : IsLife p word_of s acts.0
    pub small : AreBatchesSmall (reached p word_of s acts.0).log × ((b : LifeBatch) → acts.1 ≡ Some (Append b) → IsBatchSmall b)
    pub turn : (k : WordsKept) → k.drawn ≡ s.drawn → DrawInTurn p word_of s k acts.0 acts.1
    pub leaves : LeavesOnly (disk old) (disk new) (IsLeftAt keys p word_of (reached p word_of s acts.0) acts.1)

  -- of an opening: it draws no word
  pub record IsOpeningStage (acts : StageActs) (old new : S) : Type 0 where
    pub is_life : IsLife p word_of s acts.0
    pub leaves : LeavesOnly (disk old) (disk new) (IsLeftAt keys p word_of (reached p word_of s acts.0) acts.1)

-- One stage behind the other, each up to its store, the last one up to the last store. By the end of one that another follows the store was
-- called for just what is told of the one of this number.
abbrev pub AreStages : {S : Type 0} → (Is : StageActs → S → S → Type 0) → (IsCalled : ℕ → S → Type 0) → (number : ℕ) → List StageActs → (old : S) → (ends : List S) → (new : S) → Type 0
AreStages Is IsCalled number rows old [] new = new ≡ old
AreStages Is IsCalled number [] old (end ∷ ends) new = ⊥
AreStages Is IsCalled number (row ∷ rows) old (end ∷ ends) new = Is row old end × ((ends ≡ []) ⊎ IsCalled number end) × AreStages Is IsCalled (suc number) rows end ends new

-- ---- an opening

module _ {S : Type 0} (disk : S → Disk) (keys : Keys) (p : Params) (old new : S) where
  -- it found this, and began the next generation
  pub record BeginsBehind : Type 0 where
    pub found : Found
    pub found_in : (disk old).tells → IsFoundInRing keys p (disk old).cells found
    pub begins : BeginsAt disk keys (begun_notes p found) found.generation old new

  -- it only read; or its first sync succeeded; or its generation began
  abbrev pub HowFar : Type 0
  HowFar = Passes Same (disk old) (disk new) ⊎ (OpensFrom disk keys p old new ⊎ BeginsBehind)

  abbrev pub stages_done : HowFar → ℕ
  stages_done (inl still) = 1
  stages_done (inr (inl opens)) = 2
  stages_done (inr (inr begun)) = 3

  -- By the end of the first one, where its sync succeeded, nothing was called for but reads and that sync; by the end of the second one, where
  -- batches are shown again behind it, all was read that is found, and the generation begun: no batch was read.
  abbrev pub IsCalledToOpen : ℕ → S → Type 0
  IsCalledToOpen zero end = ReadsThenSync (disk old) (disk end)
  IsCalledToOpen (suc number) end = (found : Found) × IsFoundInRing keys p (disk old).cells found × Notes (events_of (begun_notes p found)) (disk old).seen (disk end).seen

  -- So many stages of an opening, which found this of the act in flight.
  pub record IsOpeningStaged (word_of : WordId → ℕ) (s : LifeState) (pending : Option LifeAct) (how : HowFar) : Type 0 where
    pub found : List LifeAct
    pub finds : Finds pending found
    pub here : StandsInLife keys p word_of (reached p word_of s found) (disk old).cells
    pub ends : List S
    pub many : length ends ≡ stages_done how
    pub stages : AreStages (IsOpeningStage disk keys p word_of s) IsCalledToOpen 0 (stages_of pending (opening_call p word_of s found)) old ends new

-- So it is for a store whose life had reached this state, perhaps with an act in flight, in each image that a crash might then have left.
abbrev pub OpeningsComeInStages : {S : Type 0} → (S → Disk) → Type 0
OpeningsComeInStages {S} disk = (keys : Keys) (p : Params) (word_of : WordId → ℕ) (s : LifeState) (pending : Option LifeAct) (old new : S) → (disk old).tells → IsLeftAt keys p word_of s pending (disk old).cells
    → ((c : Image) → (disk old).may_leave c → IsLeftAt keys p word_of s pending c) → (how : HowFar disk keys p old new) → IsOpeningStaged disk keys p old new word_of s pending how
