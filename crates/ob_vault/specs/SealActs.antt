-- The calls of a ring store, as acts of its life.
use Rattle.std.specs.Prelude.{ℕ, List, ◌++◌, map}
use Rattle.ob_base.specs.declared.params.Params.{Params}
use Rattle.ob_pads.specs.Laws.{AllServed, NoneServed}
use Rattle.ob_pads.specs.Lives.{Answers, LivesOn, LivesTo, Opens}
use Rattle.ob_vault.specs.Hidden.{RingHidden}
use Rattle.ob_vault.specs.RingKind.{RingFound}
use Rattle.ob_vault.specs.RingSteps.{HasRingWords, RingAt}
use Rattle.ob_vault.specs.Seen.{RingPublic}
use Rattle.ob_vault.specs.RingVaults.{RingCalled, Running}
use Rattle.ob_seal.specs.declared.keys.Keys.{Keys}
use Rattle.ob_serial.specs.VaultKinds.{AllCalled, Kind}
use Rattle.ob_serial.specs.Vaults.{VaultAnswer, VaultCall}
use Rattle.ob_store.specs.Disk.{Disk}
use Rattle.ob_store.specs.declared.watch.Note.{Note}

-- A call of a ring vault, as its own words tell it, is an act, where the store tells its cells behind it.
abbrev pub RingCallsAreActs : {S : Type 0} → (S → Disk) → Type 0
RingCallsAreActs {S} disk = (old new : Running S) (notes : List Note) (call : VaultCall) (answer : VaultAnswer) → RingCalled disk old new notes call answer → (disk new.store).tells
    → Answers (disk old.store) (disk new.store) (old.run).sealer (new.run).sealer answer

-- the vault's own words are those of a ring vault, which runs so
abbrev pub IsRingVault : {V S : Type 0} → Kind V → (S → Disk) → (V → Running S) → Type 0
IsRingVault {V} kind disk runs = (v w : V) (call : VaultCall) (answer : VaultAnswer) (notes : List Note) → kind.called v call answer notes w → RingCalled disk (runs v) (runs w) notes call answer

-- An opening, and the chain of calls of the vault over it, are a run in the life of the store that was opened, where the last store tells
-- its cells.
abbrev pub RingChainsLive : {V S : Type 0} → Kind V → (S → Disk) → Type 0
RingChainsLive {V} {S} kind disk = (runs : V → Running S) → IsRingVault kind disk runs
    → (keys : Keys) (old : S) (first last : V) (steps : List (VaultCall × VaultAnswer)) → (disk (runs last).store).tells
    → ((disk (runs first).store).tells → Opens keys (disk old) (disk (runs first).store) ((runs first).run).sealer) → AllCalled kind first steps last
    → LivesOn disk keys old (runs last).store (map (λ s. s.1) steps)

-- Behind an opening there were calls that were answered, behind which this is hidden, and others that weren't: of that run the next seal has
-- the number that is hidden, so each answered call has taken just as many as the count of seals went on by.
abbrev pub RingRunsAreNumbered : {V S : Type 0} → Kind V → (S → Disk) → Type 0
RingRunsAreNumbered {V} {S} kind disk = (runs : V → Running S) → HasRingWords kind disk runs
    → (keys : Keys) (most : ℕ) (p : Params) (f : RingFound) (old : S) (first v last : V) (front rest : List (VaultCall × VaultAnswer)) (q : RingPublic) (h : RingHidden) (n : ℕ) → (disk (runs last).store).tells
    → ((disk (runs first).store).tells → Opens keys (disk old) (disk (runs first).store) ((runs first).run).sealer)
    → AllCalled kind first front v → AllServed front → RingAt kind disk runs keys most p f (disk (runs first).store) q h n v → AllCalled kind v rest last → NoneServed rest
    → LivesTo disk keys old (runs last).store (map (λ s. s.1) (front ++ rest)) h.seals
