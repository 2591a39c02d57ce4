-- What a call of a vault shows, in the words of its kind of store.
use Rattle.std.specs.Prelude.{◌≡◌, ◌⊎◌, ◌+◌, ℕ, suc, List, [], ◌∷◌, ◌++◌, Option, Some, None}
use Rattle.ob_base.specs.declared.params.Params.{Params}
use Rattle.ob_base.specs.declared.fault.Fault.{Fault}
use Rattle.ob_base.specs.declared.fault.Fault.TheVariants.{StoreFault, SinkFault}
use Rattle.ob_seal.specs.declared.keys.Keys.{Keys}
use Rattle.ob_store.specs.declared.event.Event.{Event}
use Rattle.ob_store.specs.declared.watch.Note.{Note}
use Rattle.ob_store.specs.Disk.{Disk}
use Rattle.ob_store.specs.Calls.{Notes}
use Rattle.ob_recover.specs.Telling.{ArePhasesMade}
use Rattle.ob_serial.specs.Vaults.{VaultCall, Fetch, End, VaultAnswer, Values, Ended, RefusedBy, DoubtBy}
use Rattle.ob_vault.specs.Shapes.{Shape, shape_of}
use Rattle.ob_vault.specs.Kinds.{StoreKind}
use Rattle.ob_vault.specs.KindShown.{IsSeenCut}

-- Why a vault refuses a call: its store failed, perhaps at the last write or sync of the epoch behind n; or for a cause of its kind.
abbrev pub IsRefusalWhy : (store : StoreKind) → Keys → Params → store.Found → (opened now : Disk) → store.Hidden → List Shape → ℕ → Option VaultCall → (words : List ℕ) → Fault → Type 0
IsRefusalWhy store keys p found opened now h so_far n call words (StoreFault unsure) = (unsure ≡ None) ⊎ (unsure ≡ Some (suc (store.epoch found + n)))
IsRefusalWhy store keys p found opened now h so_far n call words SinkFault = ⊥
IsRefusalWhy store keys p found opened now h so_far n call words fault = store.causes keys p found opened now h so_far n call words fault

-- A call that was refused, behind calls of these shapes and so many epochs; at most so many lanes read at once, and a tape has then given
-- these words, and its watch was shown these notes.
pub record Stops (store : StoreKind) (keys : Keys) (most : ℕ) (p : Params) (found : store.Found) (opened old new : Disk) (words : List ℕ) (q : store.Public) (h : store.Hidden) (so_far : List Shape) (n : ℕ) (call : VaultCall) (fault : Fault) (notes : List Note) : Type 0 where
  pub more : List Event
  pub cut : IsSeenCut store most p q h (Some call) words (Some fault) more
  pub shown : store.cut_shown most p q call cut.0 fault more notes
  pub seen : Notes more old.seen new.seen
  pub why : IsRefusalWhy store keys p found opened new h so_far n (Some call) words fault
  pub of_tape : store.is_of_tape p h (Some call) words (Some fault)

-- A call that was answered, what it drew, its phases, made by at most so many lanes, its notes, and where the vault then is.
pub record IsAnsweredCall {V : Type 0} (store : StoreKind) (most : ℕ) (p : Params) (At : store.Public → store.Hidden → List Shape → ℕ → V → Type 0) (old new : Disk) (w : V) (q : store.Public) (h : store.Hidden) (so_far : List Shape) (call : VaultCall) (n : ℕ) (notes : List Note) : Type 0 where
  pub drawn : store.Drawn
  pub behind : store.Hidden
  pub draws : store.draws p h call drawn behind
  pub seen : ArePhasesMade most (store.phases p q (shape_of call) drawn) old.seen new.seen
  pub shown : notes ≡ store.notes p q (shape_of call) drawn
  pub at : At (store.next p q (shape_of call) drawn) behind (so_far ++ shape_of call ∷ []) n w

-- What a call with these notes does, from a vault that is there behind calls of these shapes and so many epochs.
abbrev pub IsCallOfKind : {V : Type 0} → (store : StoreKind) → (keys : Keys) → (most : ℕ) → (p : Params) → (found : store.Found) → (opened : Disk) → (At : store.Public → store.Hidden → List Shape → ℕ → V → Type 0)
    → Disk → Disk → (words : List ℕ) → V → (notes : List Note) → store.Public → store.Hidden → List Shape → ℕ → VaultCall → VaultAnswer → Type 0
IsCallOfKind store keys most p found opened At old new words w notes q h so_far n (Fetch asks) (Values values) = IsAnsweredCall store most p At old new w q h so_far (Fetch asks) n notes
IsCallOfKind store keys most p found opened At old new words w notes q h so_far n (End writes) Ended = IsAnsweredCall store most p At old new w q h so_far (End writes) (suc n) notes
IsCallOfKind store keys most p found opened At old new words w notes q h so_far n (Fetch asks) (RefusedBy fault) = Stops store keys most p found opened old new words q h so_far n (Fetch asks) fault notes
IsCallOfKind store keys most p found opened At old new words w notes q h so_far n (End writes) (RefusedBy fault) = Stops store keys most p found opened old new words q h so_far n (End writes) fault notes
IsCallOfKind store keys most p found opened At old new words w notes q h so_far n (End writes) (DoubtBy fault) = Stops store keys most p found opened old new words q h so_far n (End writes) fault notes
IsCallOfKind store keys most p found opened At old new words w notes q h so_far n _ _ = Unit {0}
