-- What a run of the clients over a vault does, from a new desk to its end.
use Rattle.std.specs.Prelude.{◌≡◌, ◌⊎◌, false, All, List, [], length, map, Result, Ok, Err, decimal}
use Rattle.std.specs.List.{range_with_len}
use Rattle.std.specs.Ordering.{nat_cmp}
use Rattle.ob_base.specs.declared.fault.Fault.TheVariants.{Memory}
use Rattle.ob_report.specs.Printed.{IsPrinted}
use Rattle.ob_report.specs.Report.{report}
use Rattle.ob_store.specs.declared.watch.Note.{Note}
use Rattle.ob_store.specs.Lines.{Shows}
use Rattle.ob_serial.specs.Serial.{Map, AreInOrder, OneByOne, committed_of}
use Rattle.ob_serial.specs.VaultKinds.{Kind, ended_of}
use Rattle.ob_desk.specs.Desk.{Run}
use Rattle.ob_desk.specs.Beats.{BeatKind}
use Rattle.ob_session.specs.Steps.{Leads}
use Rattle.ob_session.specs.Clients.{said_by}
use Rattle.ob_conduct.specs.declared.run_err.RunErr.{RunErr}
use Rattle.ob_conduct.specs.declared.run_err.RunErr.TheVariants as failed
use Rattle.ob_conduct.specs.Acts.{Act, history, calls, records, IsAllowed}
use Rattle.ob_conduct.specs.Rounds.{KeepRule, plan_rule, InRounds}
use Rattle.ob_conduct.specs.Scenes.{RunState, RunnerKind, seat_of, AllNoted}
use Rattle.ob_conduct.specs.Records.{contents, HoldsMap, AreWritten, AreAnswered, IsOver, IsWritten}
use Rattle.ob_conduct.specs.Moves.{Failure}

-- Memory was wanting before the first round, and nothing was done.
pub record IsOutOfMemory {V U : Type 0} (old new : RunState V U) (acts : List Act) (err : RunErr) : Type 0 where
  pub fault_is : err ≡ failed.Fault Memory
  pub none : acts ≡ []
  pub silent : new.output ≡ old.output

-- How a run ends, by its answer: each client has signed off, all lines are written, and the watch is whole; or nothing was done, or the last
-- act tells what cut it off.
abbrev pub RunEnds : {V U : Type 0} → Kind V → (old new : RunState V U) → List Act → Result (Unit {0}) RunErr → Type 0
RunEnds k old new acts (Ok done) = AreAnswered (calls acts) × IsOver new.scene.desk × IsWritten (report decimal (records acts)) old.output new.output × (new.scene.trace.broken ≡ false)
RunEnds k old new acts (Err err) = IsOutOfMemory old new acts err ⊎ Failure k old.scene new.scene acts old.output new.output err

-- A run: what was done, in order, from a new desk and the vault as it was found, and how it ended. `old.scene.desk.running.epoch` is the
-- number of the first epoch that could end.
pub record Conducted {V U Plan : Type 0} (k : Kind V) (kind : RunnerKind U Plan) (beat : BeatKind) (old new : RunState V U) (acts : List Act) (result : Result (Unit {0}) RunErr) : Type 0 where
  pub allowed : All (IsAllowed beat) acts
  -- the desk's calls are one history, each of them allowed where it is made, and the vault's calls are one chain, each made under a watch that was whole, to which their notes were shown
  pub leads : Leads old.scene.desk (history acts) new.scene.desk
  pub notes : List Note
  pub chain : AllNoted k old.scene.vault old.scene.trace (calls acts) notes new.scene.vault new.scene.trace
  pub shown : Shows notes old.scene.trace new.scene.trace
  -- on the map that the vault held each batch was delivered with its values, and it holds what the committed transactions made of it
  pub serial : (m : Map nat_cmp) → HoldsMap k old.scene.vault m → Run m old.scene.desk (history acts) (contents m (records acts)) new.scene.desk × HoldsMap k new.scene.vault (contents m (records acts))
  -- they ran one by one
  pub one_by_one : (m : Map nat_cmp) → HoldsMap k old.scene.vault m → OneByOne nat_cmp m (committed_of (records acts)) (contents m (records acts))
  pub in_order : AreInOrder (records acts)
  pub epochs : map (λ r. r.epoch) (records acts) ≡ range_with_len old.scene.desk.running.epoch (length (records acts))
  pub wrote : AreWritten (ended_of (calls acts)) (records acts)
  pub printed : IsPrinted old.output new.output (report decimal (records acts))
  -- each runner has made just its client's calls
  pub fitting : All (λ u. kind.fits u (said_by (kind.client u) (history acts))) new.runners
  -- and each of its steps was a turn by its plan
  pub keeps : KeepRule (plan_rule kind.turn (map (seat_of kind) old.runners)) [] acts
  pub clients : map kind.client new.runners ≡ map kind.client old.runners
  pub bounds : map kind.bound new.runners ≡ map kind.bound old.runners
  pub plans : map kind.plan new.runners ≡ map kind.plan old.runners
  pub ends : RunEnds k old new acts result

-- A run by hand: the clients take their turns in rounds, each of them in order, and then the driver does one thing.
abbrev pub ByHand : {V U Plan : Type 0} → Kind V → RunnerKind U Plan → BeatKind → RunState V U → RunState V U → Result (Unit {0}) RunErr → Type 0
ByHand k kind beat old new result = (acts : List Act) × Conducted k kind beat old new acts result × InRounds (map kind.client old.runners) acts
