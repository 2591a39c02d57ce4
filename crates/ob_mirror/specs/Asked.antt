-- What a store promises of each of its calls, a word a call.
use Rattle.std.specs.Prelude.{◌≡◌, ◌≤◌, ℕ, ◌+◌, ◌-◌, List, [], ◌∷◌, Option, Result, OnOk, OnErr, IfOk}
use Rattle.ob_base.specs.Causes.{HasCause}
use Rattle.ob_base.specs.declared.fault.Failed.{Failed}
use Rattle.ob_store.specs.declared.event.Event.{Event}
use Rattle.ob_store.specs.declared.event.Event.TheVariants as event
use Rattle.ob_store.specs.Disk.{Disk}
use Rattle.ob_store.specs.Images.{IsSynced, SameBut, Tears, Shrinks, Elapses}
use Rattle.ob_store.specs.Calls.{GoesOn, Serves, IsFailed, Keeps, Notes, NotesLane, TellsOn, IsFreshLane, AddsFaults}

-- It was asked for a lane.
pub record IsLaneMade {L : Type 0} (lane_seen : L → Option (List Event)) (lane_faults : L → ℕ) (old new : Disk) (result : Result L Failed) : Type 0 where
  pub goes : GoesOn old new
  pub fresh : IfOk result (λ lane. lane_faults lane ≡ 0)
  pub fresh_seen : IfOk result (λ lane. IsFreshLane old.seen (lane_seen lane))
  pub keeps : Keeps old new
  pub crash : Shrinks old new
  pub time : Elapses old new
  pub seen : Notes [] old.seen new.seen
  pub out : OnOk result (new.out ≤ old.out + 1)
  pub out_err : OnErr result (new.out ≤ old.out)
  pub cause : HasCause old.faults new.faults result

-- A lane was to read a cell.
pub record IsLaneRead {L : Type 0} (lane_seen : L → Option (List Event)) (lane_faults : L → ℕ) (disk : Disk) (cell : ℕ) (old new : L) (out : List ℕ) (result : Result (Unit {0}) Failed) : Type 0 where
  pub bytes : disk.tells → OnOk result (out ≡ disk.cells cell)
  pub seen : Notes (event.Read cell ∷ []) (lane_seen old) (lane_seen new)
  pub tells : TellsOn (lane_seen old) (lane_seen new) (lane_faults old) (lane_faults new)
  pub cause : HasCause (lane_faults old) (lane_faults new) result

-- A lane was given back.
pub record IsAbsorbed {L : Type 0} (lane_seen : L → Option (List Event)) (lane_faults : L → ℕ) (lane : L) (old new : Disk) : Type 0 where
  pub goes : GoesOn old new
  pub keeps : Keeps old new
  pub crash : Shrinks old new
  pub time : Elapses old new
  pub seen : NotesLane (lane_seen lane) old.seen new.seen
  pub out : new.out ≤ old.out - 1
  pub faults : AddsFaults (lane_faults lane) old.faults new.faults

-- It was to write a cell.
pub record IsCellWritten (cell : ℕ) (bytes : List ℕ) (old new : Disk) (result : Result (Unit {0}) Failed) : Type 0 where
  pub serves : Serves IsFailed old new result
  pub written : old.tells → OnOk result (new.cells cell ≡ bytes)
  pub rest : old.tells → SameBut cell new.cells old.cells
  pub crash : Tears cell old new
  pub time : Elapses old new
  pub seen : Notes (event.Write cell ∷ []) old.seen new.seen

-- It was to make sure of what was written.
pub record IsMadeSure (old new : Disk) (result : Result (Unit {0}) Failed) : Type 0 where
  pub serves : Serves IsFailed old new result
  pub durable : old.tells → OnOk result (IsSynced new)
  pub keeps : Keeps old new
  pub crash : Shrinks old new
  pub time : Elapses old new
  pub seen : Notes (event.Sync ∷ []) old.seen new.seen
