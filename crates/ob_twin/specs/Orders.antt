-- The order of a set and of a get, and what is told of each answer.
use Rattle.std.specs.Prelude.{◌+◌, ◌⊎◌, ℕ, Bool, List, [], ◌∷◌, ◌++◌, if◌then◌else◌, Option, Some, None, Result, Ok, Err}
use Rattle.ob_base.specs.declared.fault.Failed.{Failed}
use Rattle.ob_store.specs.declared.event.Event.{Event}
use Rattle.ob_store.specs.declared.watch.Note.{Note}
use Rattle.ob_store.specs.declared.watch.Note.TheVariants.{Read, Write, Sync}
use Rattle.ob_store.specs.Lines.{Trace}
use Rattle.ob_store.specs.Told.{Tells, TellsFirst}
use Rattle.ob_twin.specs.declared.twin.Twin.{Twin}
use Rattle.ob_twin.specs.declared.twin.Twin.TheVariants.{GENERATION, EPOCH}
use Rattle.ob_twin.specs.declared.set_err.SetErr.{SetErr}
use Rattle.ob_twin.specs.declared.set_err.SetErr.TheVariants.{Before, Unsure}
use Rattle.ob_twin.specs.Register.{body_at, gate_at, place_of}

-- a write and a sync
abbrev pub through_notes : ℕ → List Note
through_notes cell = Write cell ∷ Sync ∷ []

-- the gate closed where that is needed, and then the body, each made sure of before the next
abbrev pub prepare_notes : Bool → ℕ → ℕ → List Note
prepare_notes closed_first first n = (if closed_first then through_notes (gate_at first (place_of n)) else []) ++ through_notes (body_at first (place_of n))

-- and then the gate open: its write,
abbrev pub gate_notes : Bool → ℕ → ℕ → List Note
gate_notes closed_first first n = prepare_notes closed_first first n ++ Write (gate_at first (place_of n)) ∷ []

-- and its sync
abbrev pub set_notes : Bool → ℕ → ℕ → List Note
set_notes closed_first first n = prepare_notes closed_first first n ++ through_notes (gate_at first (place_of n))

-- The cell is written, whatever is answered. A sync that failed was made and isn't shown.
abbrev pub WriteDoes : ℕ → Option (List Event) → Option (List Event) → Trace → Trace → Result (Unit {0}) Failed → Type 0
WriteDoes cell old new before after (Ok done) = Tells (through_notes cell) (through_notes cell) old new before after
WriteDoes cell old new before after (Err failed) =
    Tells (Write cell ∷ []) (Write cell ∷ []) old new before after ⊎ Tells (through_notes cell) (Write cell ∷ []) old new before after

-- What a set does and shows. All of its steps where it went well; refused before the gate, the first of those before the gate; and
-- where it is unsure, all of those and the gate's write, which is shown, with its sync or without it.
abbrev pub SetDoes : Bool → ℕ → ℕ → Option (List Event) → Option (List Event) → Trace → Trace → Result (Unit {0}) SetErr → Type 0
SetDoes closed_first first n old new before after (Ok done) = Tells (set_notes closed_first first n) (set_notes closed_first first n) old new before after
SetDoes closed_first first n old new before after (Err (Before fault)) = TellsFirst (prepare_notes closed_first first n) old new before after
SetDoes closed_first first n old new before after (Err (Unsure fault)) =
    Tells (gate_notes closed_first first n) (gate_notes closed_first first n) old new before after
    ⊎ Tells (set_notes closed_first first n) (gate_notes closed_first first n) old new before after

-- a refusal at the write that opens the gate, or at the sync after it, leaves open which epoch the store is at
abbrev pub unsure_of : Twin → ℕ → Option ℕ
unsure_of GENERATION n = None
unsure_of EPOCH n = Some n

-- the four cells of a register are read in their order
abbrev pub get_notes : ℕ → List Note
get_notes first = Read first ∷ Read (first + 1) ∷ Read (first + 2) ∷ Read (first + 3) ∷ []
