-- The stages of a run: its opening's, and then those of its vault's calls, one behind the other.
use Rattle.std.specs.Prelude.{◌≡◌, Bool, true, false, List, [], ◌∷◌, ◌++◌, ℕ, Option, Some, None}
use Rattle.ob_base.specs.declared.params.Params.{Params}
use Rattle.ob_seal.specs.declared.keys.Keys.{Keys}
use Rattle.ob_serial.specs.Vaults.{VaultCall}
use Rattle.ob_store.specs.Disk.{Disk, Image}
use Rattle.ob_opening.specs.OpeningActs.{IsLeftAt}
use Rattle.ob_recover.specs.Life.{LifeAct, LifeState, WordId}
use Rattle.std.proofs.Common.{inr}
use Rattle.ob_vault.specs.Stages.{BeginsBehind, IsOpeningStaged}
use Rattle.ob_vault.specs.KindLives.{LifeWords}
use Rattle.ob_vault.specs.Kinds.{StoreKind}
use Rattle.ob_vault.specs.Openings.{OpensStanding}
use Rattle.ob_vault.specs.Shapes.{Shape}
use Rattle.ob_top.specs.Audited.{AuditWords}

-- A store was opened in stages, with the head's read in front, as the kind of store tells; or behind the head, in three stages, in each life that was
-- left there, perhaps with an act in flight.
abbrev pub OpensStaged : List ℕ → (store : StoreKind) → LifeWords store → {S : Type 0} → (S → Disk) → Keys → Params → (old new : S) → Type 0
OpensStaged [] store life {S} disk keys p old new = (begins : BeginsBehind disk keys p old new) × ((word_of : WordId → ℕ) (s : LifeState) (pending : Option LifeAct) → (disk old).tells → IsLeftAt keys p word_of s pending (disk old).cells
    → ((c : Image) → (disk old).may_leave c → IsLeftAt keys p word_of s pending c) → IsOpeningStaged disk keys p old new word_of s pending (inr (inr begins)))
OpensStaged (cell ∷ head) store life disk keys p old new = life.opens_staged disk keys p old new

-- A store was opened: up to the first sync it was called for reads alone, it stands on, and it was done in stages.
pub record OpensInStages (head_is : List ℕ) (store : StoreKind) (life : LifeWords store) {S : Type 0} (disk : S → Disk) (keys : Keys) (p : Params) (old new : S) : Type 0 where
  pub standing : OpensStanding store disk keys p (disk old) (disk new)
  pub stages : OpensStaged head_is store life disk keys p old new

-- The calls of a run over the store that was opened, each from where the one before it left the store. Of each this is so, from what is public and hidden
-- behind those before it. An answered one drew this, and the tape had then given just the words hidden behind it; and then one was refused, if one was.
module _ (store : StoreKind) (p : Params) {S : Type 0} (IsSo : List VaultCall → List (Shape × store.Drawn) → store.Public → store.Hidden → VaultCall → (words : List ℕ) → (answered : Bool) → (old new : S) → Type 0) (last : Option VaultCall) (words : List ℕ)
    (behind : store.Hidden) (new : S) where
  -- the last one, or nothing
  abbrev pub LastIs : Option VaultCall → (done : List VaultCall) (taken : List (Shape × store.Drawn)) → store.Public → S → Type 0
  LastIs None done taken q old = new ≡ old
  LastIs (Some call) done taken q old = IsSo done taken q behind call words false old new

  -- those that are still to come, behind these
  abbrev pub CallsAre : (done : List VaultCall) (taken : List (Shape × store.Drawn)) → store.Public → store.Hidden → List VaultCall → List (Shape × store.Drawn) → S → Type 0
  CallsAre done taken q h [] [] old = (behind ≡ h) × LastIs last done taken q old
  CallsAre done taken q h (call ∷ calls) (step ∷ steps) old = (mid : S) × (given : List ℕ) × (then : store.Hidden) × store.draws p h call step.1 then × store.is_of_tape p then None given None
      × IsSo done taken q h call given true old mid
      × CallsAre (done ++ call ∷ []) (taken ++ step ∷ []) (store.next p q step.0 step.1) then calls steps mid
  CallsAre done taken q h _ _ old = ⊥

module _ (store : StoreKind) (life : LifeWords store) (audit : AuditWords store) {S : Type 0} (disk : S → Disk) (keys : Keys) (most : ℕ) (p : Params) (found : store.Found) (opened : Disk) where
  -- An answered call made all of its stages, a refused one the first of them; and what a crash leaves at a moment of one is as the notes tell.
  abbrev pub IsCallStagedAsShown : List VaultCall → List (Shape × store.Drawn) → store.Public → store.Hidden → VaultCall → (words : List ℕ) → (answered : Bool) → (old new : S) → Type 0
  IsCallStagedAsShown done taken q h call words answered old new = life.call_staged disk keys most p found opened done taken q h call words answered old new × audit.call_cut_as_shown disk keys most p found opened done taken q h call words old

  abbrev pub CallsStaged : (last : Option VaultCall) (words : List ℕ) (behind : store.Hidden) (new : S) (done : List VaultCall) (taken : List (Shape × store.Drawn)) → store.Public → store.Hidden → List VaultCall → List (Shape × store.Drawn) → S → Type 0
  CallsStaged last words behind new = CallsAre store p IsCallStagedAsShown last words behind new
