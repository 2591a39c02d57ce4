-- Private: parts of the driver's turns: a batch read within one, and what is told of an epoch that was closed.
use Rattle.std.specs.Prelude.{◌≡◌, ℕ, suc, true, List, [], ◌∷◌, ◌++◌, Option, Err}
use Rattle.ob_base.specs.Causes.{Rose}
use Rattle.ob_base.specs.declared.fault.Fault.{Fault}
use Rattle.ob_store.specs.declared.watch.Note.{Note}
use Rattle.ob_store.specs.Calls.{IsStoreFault}
use Rattle.ob_store.specs.Lines.{Shows}
use Rattle.ob_serial.specs.Serial.{EpochRecord}
use Rattle.ob_serial.specs.Vaults.{VaultCounts, VaultCall, VaultAnswer, Fetch, End, Ended, RefusedBy}
use Rattle.ob_serial.specs.VaultViews.{IsFetchFault, IsEndFault, end_answer}
use Rattle.ob_serial.specs.VaultKinds.{Kind}
use Rattle.ob_serial.specs.declared.vault.EndErr.{EndErr}
use Rattle.ob_desk.specs.Desk as desk
use Rattle.ob_desk.specs.Desk.{DeskState}
use Rattle.ob_desk.specs.declared.calls.Look.{Look}
use Rattle.ob_hall.specs.Passes.{Hall, Pass}
use Rattle.ob_conduct.specs.declared.run_err.RunErr.{RunErr}
use Rattle.ob_conduct.specs.declared.run_err.RunErr.TheVariants as failed
use Rattle.ob_conduct.specs.Acts.{Batch, look_calls, rest_calls, rest_fetches, publish_calls, stop_for, fault_in, fault_of}
use Rattle.ob_conduct.specs.Scenes.{Scene, AllNoted}
use Rattle.ob_conduct.specs.Ready.{IsBetweenActs, IsDueRecord}
use Rattle.ob_driver.specs.Resting.{params_of, IsInTurn, IsWhere, noted_by}
use Rattle.ob_driver.specs.Turning.{NotesMore, MakesTurn}

-- The driver's pass is in its turn at a desk that is where the vault is, and has noted a look.
pub record IsLooking (hall : Hall) (pass : Pass) (d : DeskState) (c : VaultCounts) : Type 0 where
  pub look : Look
  pub noted : noted_by pass ≡ look_calls look
  pub turn : IsInTurn hall pass d
  pub at : IsWhere hall pass c
  pub ready : IsBetweenActs (params_of hall) d c

-- how far the vault has come behind an end
abbrev pub counts_ended : ℕ → VaultCounts → VaultCounts
counts_ended batches c = record c { epoch = suc c.epoch; left = batches }

-- calls of the vault with their answers, each made under a watch that was whole, to which their notes were shown
pub record AsksAll {V : Type 0} (k : Kind V) (old : Scene V) (asked : List (VaultCall × VaultAnswer)) (new : Scene V) : Type 0 where
  pub notes : List Note
  pub chain : AllNoted k old.vault old.trace asked notes new.vault new.trace
  pub shown : Shows notes old.trace new.trace

-- Within the turn batches were taken, read and delivered.
pub record ReadsInside {V : Type 0} (k : Kind V) (hall : Hall) (before : Pass) (old : Scene V) (batches : List Batch) (after : Pass) (new : Scene V) (c : VaultCounts) : Type 0 where
  pub notes : NotesMore before after (rest_calls batches)
  pub turn : IsInTurn hall after new.desk
  pub asks : AsksAll k old (rest_fetches batches) new
  pub ready : IsBetweenActs (params_of hall) new.desk c
  pub same_epoch : new.desk.running.epoch ≡ old.desk.running.epoch
  pub same_stop : new.desk.stop ≡ old.desk.stop

-- And one more was taken, which the vault refused.
pub record RefusesInside {V : Type 0} (k : Kind V) (hall : Hall) (before : Pass) (old : Scene V) (batches : List Batch) (fault : Fault) (after : Pass) (new : Scene V) : Type 0 where
  pub keys : List (Option ℕ)
  pub notes : NotesMore before after (rest_calls batches ++ (desk.TakeBatch, desk.Batch keys) ∷ [])
  pub turn : IsInTurn hall after new.desk
  pub asks : AsksAll k old (rest_fetches batches ++ (Fetch keys, RefusedBy fault) ∷ []) new
  pub is_fault : IsFetchFault fault
  pub cause : IsStoreFault fault → Rose (k.disk old.vault).faults (k.disk new.vault).faults

-- What stops the run within the turn: the vault refused one more batch, or the watch broke in the last one that was delivered.
abbrev pub StopsInside : {V : Type 0} → Kind V → Hall → Pass → Scene V → RunErr → Pass → Scene V → Type 0
StopsInside k hall before old (failed.Fault fault) after new = (batches : List Batch) × RefusesInside k hall before old batches fault after new
StopsInside k hall before old failed.Unwatched after new = (batches : List Batch) × (c : VaultCounts) × ReadsInside k hall before old batches after new c × (new.trace.broken ≡ true)

-- The vault ended the epoch that was closed with its writes, and then it was published in a turn.
pub record Ends {V : Type 0} (k : Kind V) (epoch : ℕ) (writes : List (ℕ × Option (List ℕ))) (before : Pass) (old : Scene V) (told : EpochRecord ℕ) (after : Pass) (new : Scene V) : Type 0 where
  pub left : ℕ
  pub made : MakesTurn before after (publish_calls left told)
  pub asks : AsksAll k old ((End writes, Ended) ∷ []) new
  pub due : IsDueRecord epoch writes told

-- The vault refused its end, or left it in doubt, and then the desk was told so in a turn.
pub record EndRefused {V : Type 0} (k : Kind V) (epoch : ℕ) (writes : List (ℕ × Option (List ℕ))) (before : Pass) (old : Scene V) (err : RunErr) (after : Pass) (new : Scene V) : Type 0 where
  pub refused : EndErr
  pub made : MakesTurn before after ((stop_for refused, desk.Done) ∷ [])
  pub asks : AsksAll k old ((End writes, end_answer (Err refused)) ∷ []) new
  pub fault_is : err ≡ failed.Fault (fault_in refused)
  pub is_fault : IsEndFault epoch refused
  pub cause : IsStoreFault (fault_of err) → Rose (k.disk old.vault).faults (k.disk new.vault).faults
