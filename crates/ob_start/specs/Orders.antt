-- The orders of reads, writes and syncs, each spelled as its notes.
use Rattle.std.specs.Prelude.{ℕ, true, List, [], ◌∷◌, ◌++◌, map}
use Rattle.ob_store.specs.declared.watch.Note.{Note}
use Rattle.ob_store.specs.declared.watch.Note.TheVariants.{Write, Sync}
use Rattle.ob_twin.specs.declared.gates.Open.{Open}
use Rattle.ob_twin.specs.Register.{place_of}
use Rattle.ob_twin.specs.Opening.{is_closed_first}
use Rattle.ob_twin.specs.Orders.{through_notes, set_notes, get_notes}

-- both registers are read, the generation's first
abbrev pub registers_notes : List Note
registers_notes = get_notes 1 ++ get_notes 5

-- a sync, and the new generation
abbrev pub begin_notes : Open → ℕ → List Note
begin_notes known generation = (Sync ∷ []) ++ set_notes (is_closed_first known (place_of generation)) 1 generation

-- a write of each of these cells
abbrev pub writes_of : List ℕ → List Note
writes_of cells = map (λ cell. Write cell) cells

-- the gates of both registers
abbrev pub register_gates : List ℕ
register_gates = 2 ∷ 4 ∷ 6 ∷ 8 ∷ []

-- each gate closed, those of the registers and then the others, and a sync
abbrev pub shut_notes : List ℕ → List Note
shut_notes more = writes_of register_gates ++ (writes_of more ++ Sync ∷ [])

-- no head; each gate closed; generation 1
abbrev pub lay_notes : List ℕ → List Note
lay_notes more = through_notes 0 ++ (shut_notes more ++ set_notes true 1 1)
