-- The calls of a plain vault, as acts of its store's life.
use Rattle.std.specs.Prelude.{ℕ, List, map, Option}
use Rattle.ob_base.specs.declared.params.Params.{Params}
use Rattle.ob_store.specs.declared.watch.Note.{Note}
use Rattle.ob_store.specs.Disk.{Disk}
use Rattle.ob_seal.specs.declared.keys.Keys.{Keys}
use Rattle.ob_seal.specs.Sealing.{Sealing}
use Rattle.ob_twin.specs.declared.gates.Open.{Open}
use Rattle.ob_serial.specs.Vaults.{VaultCall, VaultAnswer}
use Rattle.ob_serial.specs.VaultKinds.{Kind, AllCalled}
use Rattle.ob_pads.specs.Lives.{Opens, Answers, LivesOn}
use Rattle.ob_flat.specs.Calls.{Holding, FlatCalled}

-- A call, as the vault's own words tell it, is an act, where the store tells its cells behind it.
abbrev pub CallsAreActs : {S : Type 0} → (S → Disk) → Type 0
CallsAreActs {S} disk = (p : Params) (known : Open) (epoch : ℕ) (values : List (Option (List ℕ))) (before after : Holding S) (notes : List Note) (call : VaultCall) (answer : VaultAnswer) (p_new : Params) (known_new : Open) (epoch_new : ℕ)
    → FlatCalled p known epoch values before after (disk before.store) (disk after.store) notes call answer p_new known_new epoch_new → (disk after.store).tells
    → Answers (disk before.store) (disk after.store) before.sealing after.sealing answer

-- what of a vault a plain one's words speak of
pub record FlatViews (V S : Type 0) : Type 0 where
  pub store : V → S
  pub sealing : V → Sealing
  pub params : V → Params
  pub known : V → Open
  pub epoch : V → ℕ
  pub values : V → List (Option (List ℕ))

abbrev pub holding : {V S : Type 0} → FlatViews V S → V → Holding S
holding views v = record { store = views.store v; sealing = views.sealing v }

-- the vault's own words are those of a plain one
abbrev pub IsFlat : {V S : Type 0} → Kind V → (S → Disk) → FlatViews V S → Type 0
IsFlat {V} kind disk views = (v w : V) (call : VaultCall) (answer : VaultAnswer) (notes : List Note) → kind.called v call answer notes w
    → FlatCalled (views.params v) (views.known v) (views.epoch v) (views.values w) (holding views v) (holding views w) (disk (views.store v)) (disk (views.store w)) notes call answer (views.params w) (views.known w) (views.epoch w)

-- An opening, and the chain of calls of the vault over it, are a run in the life of the store that was opened, where the last store tells
-- its cells.
abbrev pub FlatChainsLive : {V S : Type 0} → Kind V → (S → Disk) → Type 0
FlatChainsLive {V} {S} kind disk = (views : FlatViews V S) → IsFlat kind disk views
    → (keys : Keys) (old : S) (first last : V) (steps : List (VaultCall × VaultAnswer)) → (disk (views.store last)).tells
    → ((disk (views.store first)).tells → Opens keys (disk old) (disk (views.store first)) (views.sealing first)) → AllCalled kind first steps last
    → LivesOn disk keys old (views.store last) (map (λ s. s.1) steps)
