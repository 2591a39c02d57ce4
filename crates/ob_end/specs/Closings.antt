-- What the end of an epoch leaves and shows, once its tables are made.
use Rattle.std.specs.Prelude.{◌≡◌, ◌⊎◌, ◌<◌, ℕ, Bool, List, ◌++◌, Option, Result, Ok, Err}
use Rattle.ob_base.specs.declared.params.Params.{Params}
use Rattle.ob_fetch.specs.Stages.{InTwoStages}
use Rattle.ob_seal.specs.declared.keys.Keys.{Keys}
use Rattle.ob_stand.specs.Ends.{RingEnd, standing_after}
use Rattle.ob_stand.specs.Stands.{OneOf, RingStanding, Stands}
use Rattle.ob_store.specs.Calls.{Notes}
use Rattle.ob_store.specs.Disk.{Disk, Image}
use Rattle.ob_store.specs.Images.{LeavesOnly}
use Rattle.ob_store.specs.Lines.{Trace}
use Rattle.ob_store.specs.Told.{Tells, TellsFirst, events_of}
use Rattle.ob_store.specs.declared.event.Event.{Event}
use Rattle.ob_store.specs.declared.watch.Note.{Note}
use Rattle.ob_twin.specs.Orders.{gate_notes, prepare_notes, set_notes}
use Rattle.ob_twin.specs.declared.set_err.SetErr.{SetErr}
use Rattle.ob_twin.specs.declared.set_err.SetErr.TheVariants as set

-- the head and the register of generations are the same
abbrev pub SameGeneration : Image → Image → Type 0
SameGeneration a b = (k : ℕ) → k < 5 → a k ≡ b k

-- These writes were made while a crash leaves what stood; then the epoch's register is set, while it leaves that or what the end makes. Once it
-- went well that stands.
module _ {S : Type 0} (disk : S → Disk) (writes : List Note) (keys : Keys) (p : Params) (s : RingStanding) (end : RingEnd) (old new : S) where
  abbrev pub ClosesInStages : Type 0
  ClosesInStages = InTwoStages disk (Notes (events_of writes)) (Stands keys p s) (OneOf keys p s (standing_after s end)) old new

  abbrev pub ClosesEnd : Result (Unit {0}) SetErr → Type 0
  ClosesEnd (Ok done) = ClosesInStages × Stands keys p (standing_after s end) (disk new).cells
  ClosesEnd (Err (set.Before fault)) = LeavesOnly (disk old) (disk new) (Stands keys p s)
  ClosesEnd (Err (set.Unsure fault)) = ClosesInStages

-- what holds once all was written, but maybe for the register
abbrev pub IfWritten : Type 0 → Result (Unit {0}) SetErr → Type 0
IfWritten A (Ok done) = A
IfWritten A (Err (set.Before fault)) = Unit {0}
IfWritten A (Err (set.Unsure fault)) = A

-- These writes, and then the set of the epoch's register: all of it where it went well; refused before the gate, the first of what comes
-- before that; and where it is unsure, all of that and the gate's write, which is shown, with its sync or without it.
abbrev pub CloseDoes : List Note → Bool → ℕ → Option (List Event) → Option (List Event) → Trace → Trace → Result (Unit {0}) SetErr → Type 0
CloseDoes writes closed_first epoch old new before after (Ok done) =
    Tells (writes ++ set_notes closed_first 5 epoch) (writes ++ set_notes closed_first 5 epoch) old new before after
CloseDoes writes closed_first epoch old new before after (Err (set.Before fault)) = TellsFirst (writes ++ prepare_notes closed_first 5 epoch) old new before after
CloseDoes writes closed_first epoch old new before after (Err (set.Unsure fault)) =
    Tells (writes ++ gate_notes closed_first 5 epoch) (writes ++ gate_notes closed_first 5 epoch) old new before after
    ⊎ Tells (writes ++ set_notes closed_first 5 epoch) (writes ++ gate_notes closed_first 5 epoch) old new before after
