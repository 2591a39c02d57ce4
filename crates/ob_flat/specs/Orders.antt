-- The orders of reads, writes and syncs, each spelled as its notes.
use Rattle.std.specs.Prelude.{ℕ, true, List, [], ◌∷◌, ◌++◌}
use Rattle.ob_store.specs.declared.event.Event.{Event}
use Rattle.ob_store.specs.declared.watch.Note.{Note}
use Rattle.ob_store.specs.declared.watch.Note.TheVariants.{Sync}
use Rattle.ob_store.specs.Runs.{write_notes}
use Rattle.ob_store.specs.Told.{events_of}
use Rattle.ob_cells.specs.Orders.{read_notes}
use Rattle.ob_twin.specs.declared.gates.Open.{Open}
use Rattle.ob_twin.specs.Register.{place_of}
use Rattle.ob_twin.specs.Opening.{is_closed_first}
use Rattle.ob_twin.specs.Orders.{through_notes, prepare_notes, gate_notes, set_notes}
use Rattle.ob_start.specs.Orders as start
use Rattle.ob_flat.specs.Places.{area_of}

-- so many rows, and a sync
abbrev pub rows_notes : ℕ → ℕ → List Note
rows_notes base n = write_notes base n ++ Sync ∷ []

-- The end of an epoch: its rows, a sync, and its number;
abbrev pub end_notes : ℕ → Open → ℕ → List Note
end_notes keys known epoch = rows_notes (area_of keys epoch) keys ++ set_notes (is_closed_first known (place_of epoch)) 5 epoch

-- what of it comes before the write that opens its gate,
abbrev pub end_prepare_notes : ℕ → Open → ℕ → List Note
end_prepare_notes keys known epoch = rows_notes (area_of keys epoch) keys ++ prepare_notes (is_closed_first known (place_of epoch)) 5 epoch

-- and with that write, but without the last sync
abbrev pub end_gate_notes : ℕ → Open → ℕ → List Note
end_gate_notes keys known epoch = rows_notes (area_of keys epoch) keys ++ gate_notes (is_closed_first known (place_of epoch)) 5 epoch

abbrev pub end_events : ℕ → Open → ℕ → List Event
end_events keys known epoch = events_of (end_notes keys known epoch)

-- Opening, from the first cell behind the head on: both registers,
abbrev pub registers_events : List Event
registers_events = events_of start.registers_notes

-- the rows of the epoch's area,
abbrev pub found_notes : ℕ → ℕ → List Note
found_notes keys epoch = start.registers_notes ++ read_notes (area_of keys epoch) keys

-- and behind them a sync and the new generation
abbrev pub open_notes : ℕ → ℕ → Open → ℕ → List Note
open_notes keys epoch known generation = start.registers_notes ++ (read_notes (area_of keys epoch) keys ++ start.begin_notes known generation)

abbrev pub open_events : ℕ → ℕ → Open → ℕ → List Event
open_events keys epoch known generation = events_of (open_notes keys epoch known generation)

-- Formatting: no head, each gate closed, generation 1; the rows of an empty map, epoch 0; and the head.
abbrev pub format_notes : ℕ → List Note
format_notes keys = start.lay_notes [] ++ ((rows_notes 9 keys ++ set_notes true 5 0) ++ through_notes 0)

abbrev pub format_events : ℕ → List Event
format_events keys = events_of (format_notes keys)
