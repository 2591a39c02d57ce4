-- What calls a vault gets while its map is read.
use Rattle.std.specs.Prelude.{ℕ, ◌≡◌, ◌⊎◌, ◌≤◌, All, List, [], ◌∷◌, length}
use Rattle.ob_base.specs.declared.fault.Fault.{Fault}
use Rattle.ob_base.specs.declared.fault.Fault.TheVariants.{Memory}
use Rattle.ob_store.specs.Lines.{Trace, Shows}
use Rattle.ob_serial.specs.Vaults.{VaultCall, Fetch, End, VaultAnswer, Values, Ended, RefusedBy, DoubtBy}
use Rattle.ob_serial.specs.VaultKinds.{Kind, Called}

-- Calls with their answers lead from a vault to a vault, and the notes of each were shown.
abbrev pub AllShown : {V : Type 0} → Kind V → V → Trace → List (VaultCall × VaultAnswer) → V → Trace → Type 0
AllShown k old before [] new after = (new ≡ old) × (after ≡ before)
AllShown {V} k old before (step ∷ steps) new after = (mid : V) × (at : Trace) × (one : Called k old step.0 step.1 mid) × Shows one.notes before at × AllShown k mid at steps new after

-- a call that changes no value: a fetch, or an end without writes
abbrev pub ChangesNone : VaultCall → Type 0
ChangesNone (Fetch keys) = Unit {0}
ChangesNone (End []) = Unit {0}
ChangesNone (End (write ∷ writes)) = ⊥

-- an answer that is no refusal
abbrev pub IsGiven : VaultAnswer → Type 0
IsGiven (Values values) = Unit {0}
IsGiven Ended = Unit {0}
IsGiven (RefusedBy fault) = ⊥
IsGiven (DoubtBy fault) = ⊥

-- such a call was answered
abbrev pub IsReading : VaultCall × VaultAnswer → Type 0
IsReading step = ChangesNone step.0 × IsGiven step.1

-- a refusal for this fault
abbrev pub IsRefusal : Fault → VaultAnswer → Type 0
IsRefusal fault (Values values) = ⊥
IsRefusal fault Ended = ⊥
IsRefusal fault (RefusedBy other) = other ≡ fault
IsRefusal fault (DoubtBy other) = other ≡ fault

module _ {V : Type 0} (k : Kind V) (most : ℕ) where
  -- At most so many calls, which were answered and changed no value.
  pub record ReadsOnly (old : V) (before : Trace) (new : V) (after : Trace) : Type 0 where
    pub steps : List (VaultCall × VaultAnswer)
    pub few : length steps ≤ most
    pub chain : AllShown k old before steps new after
    pub reads : All IsReading steps

  -- Behind such calls one was refused.
  pub record IsRefusedReading (old : V) (before : Trace) (fault : Fault) (new : V) (after : Trace) : Type 0 where
    pub mid : V
    pub at : Trace
    pub behind : ReadsOnly old before mid at
    pub call : VaultCall
    pub reads : ChangesNone call
    pub answer : VaultAnswer
    pub refused : IsRefusal fault answer
    pub one : Called k mid call answer new
    pub shown : Shows one.notes at after

  -- So it ended early; or memory was wanting, and all calls were answered.
  abbrev pub ReadingFails : V → Trace → Fault → V → Trace → Type 0
  ReadingFails old before fault new after = ((fault ≡ Memory) × ReadsOnly old before new after) ⊎ IsRefusedReading old before fault new after
