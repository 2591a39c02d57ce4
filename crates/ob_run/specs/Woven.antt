-- The acts of a hall's whole history: the driver's, entry by entry, and between them the clients'.
use Rattle.std.specs.Prelude.{◌≡◌, ◌⊎◌, ℕ, zero, suc, All, List, [], ◌∷◌, ◌++◌, slice_get, Some, None}
use Rattle.std.specs.Ordering.{nat_cmp}
use Rattle.ob_serial.specs.Serial.{Map, OneByOne, committed_of}
use Rattle.ob_serial.specs.VaultKinds.{Kind, AllCalled}
use Rattle.ob_desk.specs.Desk.{DeskState, Run}
use Rattle.ob_desk.specs.Beats.{BeatKind}
use Rattle.ob_session.specs.Steps.{Leads}
use Rattle.ob_turn.specs.declared.turn.Entry.{Entry}
use Rattle.ob_turn.specs.History.{entries_of, LeadsByTurns}
use Rattle.ob_hall.specs.Turns.{client_numbers, IsTurn}
use Rattle.ob_hall.specs.Passes.{Steps, IsNew, calls_in}
use Rattle.ob_conduct.specs.Acts.{Act, Says, history, calls, records, IsAllowed}
use Rattle.ob_conduct.specs.Records.{contents, HoldsMap}
use Rattle.ob_driver.specs.Turning.{IsOneTurn, AreActs}
use Rattle.ob_driver.specs.Drives.{AreThings}

-- These are the acts of an entry with these calls. At place 0 they are the driver's, which are given; at place i + 1 it is one step of the i-th of these clients, even where it called nothing. Where there is no such client nothing was called.
abbrev pub IsEntryOf : List ℕ → ℕ → Steps → List Act → List Act → Type 0
IsEntryOf clients zero steps driven acts = IsOneTurn driven × (steps ≡ history driven) × (acts ≡ driven)
IsEntryOf clients (suc i) steps driven acts = (driven ≡ []) × (((number : ℕ) × (slice_get clients i ≡ Some number) × (acts ≡ Says number steps ∷ [])) ⊎ ((slice_get clients i ≡ None) × (steps ≡ []) × (acts ≡ [])))

-- These are the acts of the entries, one entry behind the other, where the driver's are given.
abbrev pub AreWoven : List ℕ → List (Entry Steps) → List Act → List Act → Type 0
AreWoven clients [] driven acts = (driven ≡ []) × (acts ≡ [])
AreWoven clients (e ∷ entries) driven acts = (mine : List Act) × (more : List Act) × (these : List Act) × (rest : List Act)
    × (driven ≡ mine ++ more) × (acts ≡ these ++ rest) × IsEntryOf clients e.by (calls_in (e ∷ [])) mine these × AreWoven clients entries more rest

-- The acts of a whole history, and what they do to the vault: its calls are those of the driver's acts, which lead from one vault to another.
pub record Woven {V : Type 0} (k : Kind V) (beat : BeatKind) (opened d : DeskState) (log : List (Entry Steps)) (old new : V) (driven : List Act) : Type 0 where
  pub acts : List Act
  pub are : AreWoven (client_numbers opened) log driven acts
  pub allowed : All (IsAllowed beat) acts
  -- the desk's calls are one history, and the vault's are the driver's
  pub history_is : history acts ≡ calls_in log
  pub leads : Leads opened (history acts) d
  pub calls_are : calls acts ≡ calls driven
  -- clients publish nothing
  pub records_are : records acts ≡ records driven
  -- on the map that the vault held each batch was delivered with its values, and it holds what the committed transactions made of it
  pub serial : (m : Map nat_cmp) → HoldsMap k old m → Run m opened (history acts) (contents m (records acts)) d × HoldsMap k new (contents m (records acts))
  -- they ran one by one
  pub one_by_one : (m : Map nat_cmp) → HoldsMap k old m → OneByOne nat_cmp m (committed_of (records acts)) (contents m (records acts))

-- Whatever threads make the calls: of a history that is legal from a new desk, with the driver's acts in their entries, which are things that it does, and a chain of the vault's calls that belong to them, this is so.
abbrev pub HistoriesWeave : {V : Type 0} → Kind V → Type 0
HistoriesWeave {V} k = (beat : BeatKind) (opened d : DeskState) (log : List (Entry Steps)) (old new : V) (driven : List Act) → IsNew opened → LeadsByTurns IsTurn opened log d → AreActs (entries_of 0 log) driven → AreThings driven → All (IsAllowed beat) driven
    → AllCalled k old (calls driven) new → Woven k beat opened d log old new driven
