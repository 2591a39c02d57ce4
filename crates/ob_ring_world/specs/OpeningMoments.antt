-- What a crash at any moment of an opening leaves, in the words of a life.
use Rattle.std.specs.Prelude.{◌⊎◌, ℕ, suc, List, Option, Some}
use Rattle.ob_base.specs.declared.params.Params.{Params}
use Rattle.ob_store.specs.Disk.{Disk, Image}
use Rattle.ob_store.specs.Images.{IsSynced, LeavesOnly, Passes, Same}
use Rattle.ob_seal.specs.declared.keys.Keys.{Keys}
use Rattle.ob_serial.specs.Vaults.{Standing}
use Rattle.ob_stand.specs.Stands.{StandsRing}
use Rattle.ob_recover.specs.Calls.{Finds}
use Rattle.ob_recover.specs.Life.{IsLife, LifeAct, LifeState, Open, WordId, reached}
use Rattle.ob_opening.specs.OpeningActs.{IsLeftAt, StandsInLife}
use Rattle.ob_opening.specs.OpeningRuns.{OpensFrom}

-- it stands for what the cells stood for
abbrev pub StandsAlso : Keys → Params → (cells image : Image) → Type 0
StandsAlso keys p cells image = (at : Standing) → (generation : ℕ) × StandsRing keys p generation cells at → (generation : ℕ) × StandsRing keys p generation image at

-- What the opening finds of the act in flight, and the life behind that. From each image that a crash leaves at any moment the next opening
-- can go on there, where the next generation may have begun; and it stands for what the cells stood for.
pub record IsLeftInOpening {S : Type 0} (disk : S → Disk) (keys : Keys) (p : Params) (word_of : WordId → ℕ) (s : LifeState) (pending : Option LifeAct) (old new : S) : Type 0 where
  pub found : List LifeAct
  pub finds : Finds pending found
  pub is_life : IsLife p word_of s found
  pub here : StandsInLife keys p word_of (reached p word_of s found) (disk old).cells
  pub images : LeavesOnly (disk old) (disk new)
      (λ image. IsLeftAt keys p word_of (reached p word_of s found) (Some (Open (suc (reached p word_of s found).generation))) image × StandsAlso keys p (disk old).cells image)

-- So it is of a store for which no write waited, and whose life had reached this state, perhaps with an act in flight, whatever an opening of
-- it answers.
abbrev pub OpeningsMomentByMoment : {S : Type 0} → (S → Disk) → Type 0
OpeningsMomentByMoment {S} disk = (keys : Keys) (p : Params) (word_of : WordId → ℕ) (s : LifeState) (pending : Option LifeAct) (old new : S) → (disk old).tells → IsSynced (disk old) → IsLeftAt keys p word_of s pending (disk old).cells
    → Passes Same (disk old) (disk new) ⊎ OpensFrom disk keys p old new → IsLeftInOpening disk keys p word_of s pending old new
