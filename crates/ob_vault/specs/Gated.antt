-- What a call of a ring vault leaves of the registers' gates.
use Rattle.std.specs.Prelude.{◌≡◌, ℕ, suc, ◌-◌, true, false, List, length}
use Rattle.ob_base.specs.Layout.{GenerationTwin}
use Rattle.ob_fetch.specs.Fetches.{RunIsAt}
use Rattle.ob_fetch.specs.declared.run.Run.{Run}
use Rattle.ob_log.specs.Logs.{BatchRecord}
use Rattle.ob_opening.specs.OpeningActs.{AreGatesIn}
use Rattle.ob_opening.specs.Openings.{IsOpenedAt}
use Rattle.ob_opening.specs.declared.opening.Opening.{Opening}
use Rattle.ob_recover.specs.Known.{fills_with_lifts, gates_open, public_of_kept}
use Rattle.ob_schedule.specs.Schedule.{end_notes, gate_cell}
use Rattle.ob_seal.specs.declared.keys.Keys.{Keys}
use Rattle.ob_base.specs.declared.params.Params.{Params}
use Rattle.ob_serial.specs.VaultKinds.{AllCalled, Kind}
use Rattle.ob_serial.specs.Vaults.{End, Fetch, VaultAnswer, VaultCall}
use Rattle.ob_stand.specs.Stands.{RingStanding}
use Rattle.ob_store.specs.Disk.{Disk, Image}
use Rattle.ob_store.specs.declared.watch.Note.{Note}
use Rattle.ob_tables.specs.Content.{Content}
use Rattle.ob_twin.specs.Keyed.{tagging}
use Rattle.ob_twin.specs.Opening.{GatesAre}
use Rattle.ob_twin.specs.Register.{StandsAt}
use Rattle.ob_twin.specs.Stops.{IsRegisterLeft}
use Rattle.ob_vault.specs.Acts.{AreAllAnswered, is_answered}
use Rattle.ob_vault.specs.RingKind.{IsRingFound, RingFound}
use Rattle.ob_vault.specs.RingSteps.{HasRingWords}
use Rattle.ob_vault.specs.RingVaults.{HasPlanned, RingCalled, Running, run_over}

-- what a run knows of both registers' gates is so, where its store tells its cells
abbrev pub AreGatesKnown : Run → Disk → Type 0
AreGatesKnown run disk = disk.tells → AreGatesIn run.gates disk.cells

-- The epoch's register in an image that a call left which was refused. A fetch leaves its gates as they were known; an end leaves them by how
-- many notes of its row weren't shown.
abbrev pub IsEpochGated : Run → (cells : Image) → (lacking : ℕ) → VaultCall → Image → Type 0
IsEpochGated run cells lacking (Fetch asks) image = GatesAre (run.gates).epoch 5 image
IsEpochGated run cells lacking (End writes) image = IsRegisterLeft (tagging (run.sealer).keys) 5 (suc run.epoch) cells lacking image

-- and both registers
pub record AreGatesBehind (run : Run) (cells : Image) (lacking : ℕ) (call : VaultCall) (image : Image) : Type 0 where
  pub generation : GatesAre (run.gates).generation 1 image
  pub epoch : IsEpochGated run cells lacking call image

-- the schedule's end of what the store knows of these
abbrev pub row_of_end : Run → Content → List BatchRecord → List Note
row_of_end run c rs = end_notes run.params (public_of_kept run.params c rs run.epoch run.gates) (fills_with_lifts run.params c rs)

-- ---- the laws

-- An opening of what stood leaves a run that knows the gates.
abbrev pub OpenedRunsKnowGates : {S : Type 0} → (L : Type 0) → (S → Disk) → Type 0
OpenedRunsKnowGates {S} L disk = (keys : Keys) (p : Params) (s : RingStanding) (store : S) (o : Opening L) → IsOpenedAt keys p s (disk store) o → AreGatesKnown (run_over o) (disk store)

-- Calls that are answered go on knowing them, and those of the generations' register stay.
abbrev pub CallsKnowGates : {S : Type 0} → (S → Disk) → Type 0
CallsKnowGates {S} disk = (old new : Running S) (notes : List Note) (call : VaultCall) (answer : VaultAnswer) → AreGatesKnown old.run (disk old.store) → RingCalled disk old new notes call answer → is_answered answer ≡ true
    → AreGatesKnown new.run (disk new.store) × (((new.run).gates).generation ≡ ((old.run).gates).generation)

-- So they are behind a chain of such calls.
abbrev pub ChainsKnowGates : {V S : Type 0} → Kind V → (S → Disk) → Type 0
ChainsKnowGates {V} {S} k disk = (runs : V → Running S) → HasRingWords k disk runs → (first last : V) (steps : List (VaultCall × VaultAnswer)) → AreGatesKnown (runs first).run (disk (runs first).store) → AllCalled k first steps last → AreAllAnswered steps
    → AreGatesKnown (runs last).run (disk (runs last).store) × ((((runs last).run).gates).generation ≡ (((runs first).run).gates).generation)

-- Where the generations' register stood at the generation before a run's own, the gate of that one is known to be open too, which the next run sets.
abbrev pub FoundRunsKnowGenerations : Type 0
FoundRunsKnowGenerations = (keys : Keys) (p : Params) (image : Image) (f : RingFound) (generation : ℕ) → IsRingFound keys p image f → StandsAt (tagging keys) 1 image generation → ((f.run).sealer).generation ≡ suc generation
    → gates_open (f.run).gates (gate_cell p GenerationTwin (suc ((f.run).sealer).generation)) ≡ true

-- So a run that goes on from what was found knows all gates behind its answered calls, and these two to be open.
abbrev pub RunsKnowGates : {V S : Type 0} → Kind V → (S → Disk) → Type 0
RunsKnowGates {V} {S} k disk = (runs : V → Running S) → HasRingWords k disk runs → (keys : Keys) (p : Params) (image : Image) (f : RingFound) (generation : ℕ) → IsRingFound keys p image f → StandsAt (tagging keys) 1 image generation → ((f.run).sealer).generation ≡ suc generation
    → (first last : V) (steps : List (VaultCall × VaultAnswer)) → ((runs first).run).gates ≡ (f.run).gates → AreGatesKnown (runs first).run (disk (runs first).store) → AllCalled k first steps last → AreAllAnswered steps
    → AreGatesKnown (runs last).run (disk (runs last).store) × (gates_open ((runs last).run).gates (gate_cell p GenerationTwin (suc ((f.run).sealer).generation)) ≡ true)

-- And one that is refused, where the store stood, leaves them so in each image.
abbrev pub RefusedCallsLeaveGates : {S : Type 0} → (S → Disk) → Type 0
RefusedCallsLeaveGates {S} disk = (old new : Running S) (notes : List Note) (call : VaultCall) (answer : VaultAnswer) → AreGatesKnown old.run (disk old.store) → (s : RingStanding) → RunIsAt old.run s (disk old.store) → RingCalled disk old new notes call answer
    → is_answered answer ≡ false → (c : Content) (rs : List BatchRecord) → HasPlanned old.run c rs → (image : Image) → (disk new.store).may_leave image
    → AreGatesBehind old.run (disk old.store).cells (length (row_of_end old.run c rs) - length notes) call image
