-- Lives of a store: what is sealed over any number of runs and crashes. They are told over the register of generations, the cells
-- behind both registers, and the sealer, so they are those of every kind of vault.
use Rattle.std.specs.Prelude.{◌≡◌, ◌⊎◌, ℕ, suc, List, [], ◌∷◌, ◌++◌, Option, Some, None, IfSome}
use Rattle.ob_store.specs.Disk.{Disk, Image}
use Rattle.ob_store.specs.Images.{IsSynced, IsImageOf, LeavesOnly}
use Rattle.ob_store.specs.Calls.{GoesOn}
use Rattle.ob_seal.specs.declared.keys.Keys.{Keys}
use Rattle.ob_seal.specs.Sealing.{Sealing}
use Rattle.ob_twin.specs.Clear.{AreInClear, AreInClearBut}
use Rattle.ob_twin.specs.Keyed.{tagging}
use Rattle.ob_twin.specs.Register.{StandsAt}
use Rattle.ob_serial.specs.Vaults.{VaultAnswer, Values, Ended}
use Rattle.ob_pads.specs.Seals.{ClearBy, Pad, pads_between, SealerGoesOn, SealsBy}

-- What happens to a store. An opening that went well gives a sealer. A head that is read, or an opening that is refused, gives none. A
-- call of the vault, with its answer, leaves the sealer so. A crash comes in the last of these or after it.
pub data StoreAct (S : Type 0) : Type 0 where
  Opened : (store : S) (sealing : Sealing) → StoreAct S
  Unopened : (store : S) → StoreAct S
  Answered : (store : S) (sealing : Sealing) (answer : VaultAnswer) → StoreAct S
  Crashed : (store : S) → StoreAct S

-- where a life is: at the store, as the last act left it and as it found it, and the sealer, in a run
pub record At (S : Type 0) : Type 0 where
  pub store : S
  pub since : S
  pub sealing : Option Sealing

abbrev pub after_act : {S : Type 0} → At S → StoreAct S → At S
after_act at (Opened store sealing) = record { store = store; since = at.store; sealing = Some sealing }
after_act at (Unopened store) = record { store = store; since = at.store; sealing = None }
after_act at (Answered store sealing answer) = record { store = store; since = at.store; sealing = Some sealing }
after_act at (Crashed store) = record { store = store; since = store; sealing = None }

abbrev pub after_acts : {S : Type 0} → At S → List (StoreAct S) → At S
after_acts at [] = at
after_acts at (act ∷ acts) = after_acts (after_act at act) acts

abbrev pub sealed_by : {S : Type 0} → At S → StoreAct S → List Pad
sealed_by at (Answered store sealing answer) = pads_between at.sealing sealing
sealed_by at _ = []

abbrev pub pads_of : {S : Type 0} → At S → List (StoreAct S) → List Pad
pads_of at [] = []
pads_of at (act ∷ acts) = sealed_by at act ++ pads_of (after_act at act) acts

-- what the vault's calls answered
abbrev pub answers_of : {S : Type 0} → List (StoreAct S) → List VaultAnswer
answers_of [] = []
answers_of (Answered store sealing answer ∷ acts) = answer ∷ answers_of acts
answers_of (_ ∷ acts) = answers_of acts

-- The number of the next seal, behind the calls that were answered: an opening's sealer begins it, and a call that was refused, or left in
-- doubt, takes it no further.
abbrev pub number_behind : {S : Type 0} → ℕ → List (StoreAct S) → ℕ
number_behind n [] = n
number_behind n (Opened store sealing ∷ acts) = number_behind sealing.next acts
number_behind n (Answered store sealing (Values values) ∷ acts) = number_behind sealing.next acts
number_behind n (Answered store sealing Ended ∷ acts) = number_behind sealing.next acts
number_behind n (_ ∷ acts) = number_behind n acts

-- none of them is a crash
abbrev pub AreUncrashed : {S : Type 0} → List (StoreAct S) → Type 0
AreUncrashed [] = Unit {0}
AreUncrashed (Crashed store ∷ acts) = ⊥
AreUncrashed (_ ∷ acts) = AreUncrashed acts

-- the image's register of generations stands at this
abbrev pub IsAtGeneration : Keys → ℕ → Image → Type 0
IsAtGeneration keys g image = StandsAt (tagging keys) 1 image g

-- Where the register stood at g, a crash leaves what it might have left before, or an image that stands there or at the next one.
abbrev pub LeavesNext : Keys → Disk → Disk → Type 0
LeavesNext keys old new = (g : ℕ) → IsAtGeneration keys g old.cells → LeavesOnly old new (λ c. old.may_leave c ⊎ (IsAtGeneration keys g c ⊎ IsAtGeneration keys (suc g) c))

-- An opening that went well: the sealer is a new one, of the next generation, and each image stands at that.
pub record Opens (keys : Keys) (old new : Disk) (sealing : Sealing) : Type 0 where
  pub goes : GoesOn old new
  pub tells : new.tells
  pub keys_are : sealing.keys ≡ keys
  pub none_sealed : sealing.next ≡ 0
  pub next : (g : ℕ) → IsAtGeneration keys g old.cells → sealing.generation ≡ suc g
  pub images : (g : ℕ) → IsAtGeneration keys g old.cells → (c : Image) → new.may_leave c → IsAtGeneration keys (suc g) c
  pub crash : LeavesNext keys old new
  -- of its first nine cells each is as it was, or has what a register writes there
  pub clear : AreInClear (tagging keys) old.cells new.cells

-- a head that was read, or an opening that was refused
pub record LeavesUnopened (keys : Keys) (old new : Disk) : Type 0 where
  pub goes : GoesOn old new
  pub tells : new.tells
  pub crash : LeavesNext keys old new
  -- so is it here, but for one whose write the store refused
  pub clear : AreInClearBut (tagging keys) new.seen old.cells new.cells

-- a call of a vault: where each image stood at the run's generation, and what reads gave, so does each that a crash leaves, and what
-- reads then give
pub record Answers (old new : Disk) (was now : Sealing) (answer : VaultAnswer) : Type 0 where
  pub goes : GoesOn old new
  pub tells : new.tells
  pub further : SealerGoesOn was now
  pub seals : SealsBy answer was now old.cells new.cells
  pub clear : ClearBy answer was.keys new.seen old.cells new.cells
  pub images : ((c : Image) → IsImageOf old c → IsAtGeneration was.keys was.generation c) → LeavesOnly old new (IsAtGeneration was.keys was.generation)

-- A crash leaves an image that the store may have left since the last act began, and nothing waits for a sync.
pub record IsCrashed (since old new : Disk) : Type 0 where
  pub left : old.left_since since.moment new.cells
  pub sure : IsSynced new
  pub tells : new.tells
  pub leaves : new.leaves

module _ {S : Type 0} (disk : S → Disk) (keys : Keys) where
  abbrev pub IsStep : At S → StoreAct S → Type 0
  IsStep at (Opened store sealing) = Opens keys (disk at.store) (disk store) sealing
  IsStep at (Unopened store) = LeavesUnopened keys (disk at.store) (disk store)
  IsStep at (Answered store sealing answer) = (was : Sealing) × (at.sealing ≡ Some was) × Answers (disk at.store) (disk store) was sealing answer
  IsStep at (Crashed store) = IsCrashed (disk at.since) (disk at.store) (disk store)

  abbrev pub IsLife : At S → List (StoreAct S) → Type 0
  IsLife at [] = Unit {0}
  IsLife at (act ∷ acts) = IsStep at act × IsLife (after_act at act) acts

  -- a store that was formatted, at generation 1
  pub record IsFormattedStore (store : S) : Type 0 where
    pub tells : (disk store).tells
    pub leaves : (disk store).leaves
    pub images : (c : Image) → (disk store).may_leave c → IsAtGeneration keys 1 c

  -- as long as a run goes on, each image that a crash may leave tells its generation
  abbrev pub AreDurable : At S → List (StoreAct S) → Type 0
  AreDurable at [] = Unit {0}
  AreDurable at (act ∷ acts) = IfSome at.sealing (λ s. (c : Image) → (disk at.store).may_leave c → IsAtGeneration keys s.generation c) × AreDurable (after_act at act) acts

abbrev pub formatted_at : {S : Type 0} → S → At S
formatted_at store = record { store = store; since = store; sealing = None }

-- A row of acts without a crash that leads from a store to a store, whatever was before it, and in which a vault's calls had these
-- answers.
pub record LivesOn {S : Type 0} (disk : S → Disk) (keys : Keys) (old new : S) (answers : List VaultAnswer) : Type 0 where
  pub acts : List (StoreAct S)
  pub uncrashed : AreUncrashed acts
  pub answers_are : answers_of acts ≡ answers
  pub life : (at : At S) → at.store ≡ old → IsLife disk keys at acts
  pub ends : (at : At S) → at.store ≡ old → (after_acts at acts).store ≡ new

-- One behind whose answered calls the next seal has this number.
pub record LivesTo {S : Type 0} (disk : S → Disk) (keys : Keys) (old new : S) (answers : List VaultAnswer) (number : ℕ) : Type 0 where
  pub lives : LivesOn disk keys old new answers
  pub number_is : number_behind 0 lives.acts ≡ number
