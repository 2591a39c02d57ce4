-- The moments of a call, stage by stage.
use Rattle.std.specs.Prelude.{◌≡◌, ◌⊎◌, ℕ, suc, Bool, List, [], ◌∷◌, ◌++◌, None, Some}
use Rattle.std.proofs.Common.{refl, sym, subst, inl, inr}
use Rattle.ob_base.specs.declared.params.Params.{Params}
use Rattle.ob_opening.specs.OpeningActs.{IsLeftAt}
use Rattle.ob_recover.specs.Calls.{LifeCall, acts_of}
use Rattle.ob_recover.specs.Life.{Append, LifeAct, LifeState, ShowBatch, WordId, reached}
use Rattle.ob_seal.specs.declared.keys.Keys.{Keys}
use Rattle.ob_serial.specs.Vaults.{End, Fetch, VaultCall}
use Rattle.ob_store.proofs.Moments.{then_on, weakened}
use Rattle.ob_store.specs.Disk.{Disk, Image}
use Rattle.ob_store.specs.Images.{LeavesOnly}
use Rattle.ob_store.specs.declared.watch.Note.{Note}
use Rattle.ob_vault.proofs.Fetching.{none_pending}
use Rattle.ob_vault.specs.Acts.{IsBatchSmall, IsCalledFor, IsLeftWithin, IsStaged, RunsInLife, life_call}
use Rattle.ob_vault.specs.RingVaults.{Running}
use Rattle.ob_vault.specs.Stages.{AreStages, IsStage, StageActs, stages_of}

-- the acts of a stage are the first ones of the call, and the one in flight is the next
abbrev IsFront : LifeCall → StageActs → Type 0
IsFront c row = (rest : List LifeAct) × (acts_of c ≡ row.0 ++ rest) × ((row.1 ≡ None) ⊎ ((a : LifeAct) × (more : List LifeAct) × (row.1 ≡ Some a) × (rest ≡ a ∷ more)))

abbrev AreFronts : LifeCall → List StageActs → Type 0
AreFronts c [] = Unit {0}
AreFronts c (row ∷ rows) = IsFront c row × AreFronts c rows

module _ {S : Type 0} (disk : S → Disk) (word_of : WordId → ℕ) (s : LifeState) (old new : Running S) (notes : List Note) (runs : RunsInLife word_of s old.run (disk old.store)) where
  abbrev p : Params
  p = (old.run).params

  abbrev keys : Keys
  keys = ((old.run).sealer).keys

  abbrev made_by : VaultCall → LifeCall
  made_by call = life_call disk word_of old new notes call

  abbrev Within : VaultCall → Image → Type 0
  Within call = IsLeftWithin disk word_of old new notes s call

  stage_within : (call : VaultCall) (row : StageActs) (a b : S) → IsFront (made_by call) row → IsStage disk keys p word_of s row a b → LeavesOnly (disk a) (disk b) (Within call)
  stage_within call row a b front x = weakened (disk a) (disk b) (IsLeftAt keys p word_of (reached p word_of s row.0) row.1) (Within call)
      (λ c left. record { made = row.0; rest = front.0; pending = row.1; acts = front.1; is_life = x.is_life; next = front.2; small = x.small; left = left })
      x.leaves

  abbrev Staged : VaultCall → ℕ → List StageActs → S → List S → Type 0
  Staged call number rows a ends = AreStages (IsStage disk keys p word_of s) (λ stage end. IsCalledFor disk word_of old new notes call (disk end).seen) number rows a ends new.store

  -- behind the first ones
  go_on : (call : VaultCall) (number : ℕ) (rows : List StageActs) (a : S) (ends : List S) → LeavesOnly (disk old.store) (disk a) (Within call) → AreFronts (made_by call) rows → Staged call number rows a ends
      → LeavesOnly (disk old.store) (disk new.store) (Within call)
  go_on call number rows a [] so_far fronts is = subst (λ (x : S). LeavesOnly (disk old.store) (disk x) (Within call)) (sym is) so_far
  go_on call number [] a (x ∷ ends) so_far fronts is = absurd is
  go_on call number (row ∷ rows) a (x ∷ ends) so_far fronts is =
      go_on call (suc number) rows x ends (then_on (disk old.store) (disk a) (disk x) (Within call) so_far (stage_within call row a x fronts.0 is.0)) fronts.1 is.2

  by_ends : (call : VaultCall) (rows : List StageActs) (ends : List S) → AreFronts (made_by call) rows → Staged call 0 rows old.store ends → (ends ≡ [] → LeavesOnly (disk old.store) (disk new.store) (IsLeftAt keys p word_of s None))
      → LeavesOnly (disk old.store) (disk new.store) (Within call)
  by_ends call rows [] fronts is idle = weakened (disk old.store) (disk new.store) (IsLeftAt keys p word_of s None) (Within call)
      (λ c left. record { made = []; rest = acts_of (made_by call); pending = None; acts = refl; is_life = tt; next = inl refl; small = (runs.small, λ b e. none_pending (IsBatchSmall b) (Append b) e); left = left })
      (idle refl)
  by_ends call [] (x ∷ ends) fronts is idle = absurd is
  by_ends call (row ∷ rows) (x ∷ ends) fronts is idle = go_on call 1 rows x ends (stage_within call row old.store x fronts.0 is.0) fronts.1 is.2

  fronts_of : (call : VaultCall) → AreFronts (made_by call) (stages_of None (made_by call))
  fronts_of (Fetch asks) = ((acts_of (made_by (Fetch asks)), refl, inr (_, ShowBatch ∷ [], refl, refl)), (([], refl, inl refl), tt))
  fronts_of (End ws) = ((_, refl, inl refl), ((_, refl, inr (_, [], refl, refl)), tt))

  pub moments : (call : VaultCall) (answered : Bool) → IsStaged disk word_of old new notes s call answered → LeavesOnly (disk old.store) (disk new.store) (Within call)
  moments call answered is = by_ends call (stages_of None (made_by call)) is.ends (fronts_of call) is.stages is.idle
