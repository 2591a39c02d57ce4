-- What is seen of a vault's calls: a function of their shapes and of what they drew, from what is public of the vault before them.
use Rattle.std.specs.Prelude.{◌≡◌, ℕ, List, [], ◌∷◌, ◌++◌, Option, Some, None}
use Rattle.ob_base.specs.declared.params.Params.{Params}
use Rattle.ob_base.specs.declared.fault.Fault.{Fault}
use Rattle.ob_store.specs.declared.event.Event.{Event}
use Rattle.ob_store.specs.declared.watch.Note.{Note}
use Rattle.ob_serial.specs.Vaults.{VaultCall}
use Rattle.ob_schedule.specs.Phases.{Phase}
use Rattle.ob_vault.specs.Shapes.{Shape}
use Rattle.ob_vault.specs.Kinds.{StoreKind}

module _ (kind : StoreKind) (p : Params) where
  -- a call with its keys, values and writes erased, and what it drew
  abbrev pub ShownStep : Type 0
  ShownStep = Shape × kind.Drawn

  -- the phases of calls, one behind the other
  abbrev pub steps_phases : kind.Public → List (Shape × kind.Drawn) → List Phase
  steps_phases q [] = []
  steps_phases q (step ∷ steps) = kind.phases p q step.0 step.1 ++ steps_phases (kind.next p q step.0 step.1) steps

  -- and what a watch is shown of them
  abbrev pub steps_notes : kind.Public → List (Shape × kind.Drawn) → List Note
  steps_notes q [] = []
  steps_notes q (step ∷ steps) = kind.notes p q step.0 step.1 ++ steps_notes (kind.next p q step.0 step.1) steps

  -- what is public behind them
  abbrev pub public_behind : kind.Public → List (Shape × kind.Drawn) → kind.Public
  public_behind q [] = q
  public_behind q (step ∷ steps) = public_behind (kind.next p q step.0 step.1) steps

  -- Each of these calls drew what its step has, from what was hidden behind the calls before it; and this is hidden behind the last.
  abbrev pub AreDrawn : kind.Hidden → List VaultCall → List (Shape × kind.Drawn) → kind.Hidden → Type 0
  AreDrawn h [] [] behind = behind ≡ h
  AreDrawn h (call ∷ calls) (step ∷ steps) behind = (mid : kind.Hidden) × kind.draws p h call step.1 mid × AreDrawn mid calls steps behind
  AreDrawn h _ _ behind = ⊥

-- What is seen, of so many lanes at most, of a call that was refused with a fault, as its kind of store tells. None: no call was refused.
abbrev pub IsSeenCut : (kind : StoreKind) → (most : ℕ) → Params → kind.Public → kind.Hidden → Option VaultCall → (words : List ℕ) → Option Fault → List Event → Type 0
IsSeenCut kind most p q h (Some call) words (Some fault) more = (drawn : kind.Drawn) × kind.cut most p q h call drawn words fault more
IsSeenCut kind most p q h _ words _ more = more ≡ []

-- what a watch was shown of that call, filled by the same
abbrev pub IsCutShown : (kind : StoreKind) (most : ℕ) (p : Params) (q : kind.Public) (h : kind.Hidden) (call : Option VaultCall) (words : List ℕ) (fault : Option Fault) (more : List Event) → IsSeenCut kind most p q h call words fault more → (shown : List Note) → Type 0
IsCutShown kind most p q h (Some call) words (Some fault) more cut shown = kind.cut_shown most p q call cut.0 fault more shown
IsCutShown kind most p q h (Some call) words None more cut shown = shown ≡ []
IsCutShown kind most p q h None words fault more cut shown = shown ≡ []
