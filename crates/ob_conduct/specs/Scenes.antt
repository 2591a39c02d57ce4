-- The desk, the vault and the trace at one moment of a run, and the words of its runners.
use Rattle.std.specs.Prelude.{ℕ, ◌≡◌, false, List, [], ◌∷◌, ◌++◌}
use Rattle.ob_io.specs.Streams.{Flow}
use Rattle.ob_store.specs.declared.watch.Note.{Note}
use Rattle.ob_store.specs.Lines.{Trace, Shows}
use Rattle.ob_serial.specs.Vaults.{VaultCall, VaultAnswer}
use Rattle.ob_serial.specs.VaultKinds.{Kind, Called}
use Rattle.ob_desk.specs.Desk.{DeskState, Call, Reply}

-- the desk, the vault, and what its watch tells
pub record Scene (V : Type 0) : Type 0 where
  pub desk : DeskState
  pub vault : V
  pub trace : Trace

abbrev pub scene : {V : Type 0} → DeskState → V → Trace → Scene V
scene desk vault trace = record { desk = desk; vault = vault; trace = trace }

-- and the runners, and what stands in the output
pub record RunState (V U : Type 0) : Type 0 where
  pub scene : Scene V
  pub runners : List U
  pub output : Flow

abbrev pub run_state : {V U : Type 0} → Scene V → List U → Flow → RunState V U
run_state scene runners output = record { scene = scene; runners = runners; output = output }

-- the words of a kind of runner
pub record RunnerKind (U Plan : Type 0) : Type 1 where
  pub client : U → ℕ
  pub bound : U → ℕ
  pub plan : U → Plan
  pub fits : U → List (Call × Reply) → Type 0
  pub turn : Plan → ℕ → List (Call × Reply) → List (Call × Reply) → Type 0

abbrev pub runner_kind : {U Plan : Type 0} → (U → ℕ) → (U → ℕ) → (U → Plan) → (U → List (Call × Reply) → Type 0) → (Plan → ℕ → List (Call × Reply) → List (Call × Reply) → Type 0) → RunnerKind U Plan
runner_kind client bound plan fits turn = record { client = client; bound = bound; plan = plan; fits = fits; turn = turn }

-- a runner's client, and what it is to do
abbrev pub seat_of : {U Plan : Type 0} → RunnerKind U Plan → U → ℕ × Plan
seat_of kind u = (kind.client u, kind.plan u)

-- One call, made under a watch that was whole before it, to which its notes were shown.
pub record Watched {V : Type 0} (k : Kind V) (old : V) (before : Trace) (call : VaultCall) (answer : VaultAnswer) (new : V) (after : Trace) : Type 0 where
  pub one : Called k old call answer new
  pub whole : before.broken ≡ false
  pub shown : Shows one.notes before after

-- Calls with their answers lead from a vault and what its watch told to a vault and what its watch tells, each made under a whole watch; and these are the notes of them, one behind the other.
abbrev pub AllNoted : {V : Type 0} → Kind V → V → Trace → List (VaultCall × VaultAnswer) → List Note → V → Trace → Type 0
AllNoted k old before [] notes new after = (new ≡ old) × (notes ≡ []) × (after ≡ before)
AllNoted {V} k old before (step ∷ steps) notes new after =
    (mid : V) × (between : Trace) × (one : Watched k old before step.0 step.1 mid between) × (more : List Note) × (notes ≡ one.one.notes ++ more) × AllNoted k mid between steps more new after
