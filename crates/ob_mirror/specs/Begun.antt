-- What both halves of a mirror told of their calls when they were put together, as numbers.
use Rattle.std.specs.Prelude.{ℕ, List, [], ◌∷◌, Option, Some, None}
use Rattle.ob_store.specs.declared.event.Event.{Event}
use Rattle.ob_store.specs.declared.event.Event.TheVariants.{Read, Write, Sync}
use Rattle.ob_store.specs.Disk.{Disk}

-- a read is 1, a write 2, a sync 3
abbrev pub event_kind : Event → ℕ
event_kind (Read cell) = 1
event_kind (Write cell) = 2
event_kind Sync = 3

abbrev pub event_cell : Event → ℕ
event_cell (Read cell) = cell
event_cell (Write cell) = cell
event_cell Sync = 0

-- events as numbers, with 0 behind them, in front of others
abbrev pub events_before : List Event → List ℕ → List ℕ
events_before [] rest = 0 ∷ rest
events_before (event ∷ events) rest = event_kind event ∷ event_cell event ∷ events_before events rest

abbrev pub told_before : Option (List Event) → List ℕ → List ℕ
told_before None rest = 0 ∷ rest
told_before (Some events) rest = 1 ∷ events_before events rest

-- the faults and the events of a store as numbers, in front of others
abbrev pub half_before : Disk → List ℕ → List ℕ
half_before half rest = half.faults ∷ told_before half.seen rest
