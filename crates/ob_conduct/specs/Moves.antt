-- What each part of an act does, and each act.
use Rattle.std.specs.Prelude.{ℕ, suc, ◌≡◌, ◌+◌, ◌⊎◌, true, false, All, Contains, List, [], ◌∷◌, ◌++◌, length, map, Option, Some, Result, Ok, Err, decimal}
use Rattle.std.specs.Ordering.{nat_cmp}
use Rattle.ob_base.specs.declared.params.Params.{Params}
use Rattle.ob_base.specs.Causes.{Rose}
use Rattle.ob_base.specs.declared.fault.Fault.{Fault}
use Rattle.ob_base.specs.declared.fault.Fault.TheVariants.{Memory, SinkFault}
use Rattle.ob_io.specs.Streams.{Flow}
use Rattle.ob_report.specs.Printed.{IsPrinted}
use Rattle.ob_report.specs.Report.{report}
use Rattle.ob_store.specs.declared.watch.Note.{Note}
use Rattle.ob_store.specs.Calls.{IsStoreFault}
use Rattle.ob_store.specs.Lines.{Trace, Shows}
use Rattle.ob_serial.specs.Serial.{EpochRecord, Map}
use Rattle.ob_serial.specs.Vaults.{VaultCall, Fetch, End, VaultAnswer, Ended, RefusedBy, VaultCounts}
use Rattle.ob_serial.specs.VaultViews.{IsFetchFault, IsEndFault, end_answer}
use Rattle.ob_serial.specs.VaultKinds.{Kind, ended_of}
use Rattle.ob_serial.specs.declared.vault.EndErr.{EndErr}
use Rattle.ob_desk.specs.Desk as desk
use Rattle.ob_desk.specs.Desk.{DeskState, Setup, Call, Reply, Part, Run, MayOpen, StopStep, new_desk, record_of}
use Rattle.ob_desk.specs.Beats.{BeatKind}
use Rattle.ob_session.specs.Steps.{Leads, IsOwn}
use Rattle.ob_session.specs.Clients.{said_by}
use Rattle.ob_conduct.specs.declared.run_err.RunErr.{RunErr}
use Rattle.ob_conduct.specs.declared.run_err.RunErr.TheVariants as failed
use Rattle.ob_conduct.specs.Acts.{Act, Says, Halts, Delivers, DeliverFails, FetchFails, RestUnwatched, Publishes, Refuses, Unprinted, Unwatched, Batch, history, calls, records, rest_calls, rest_fetches, close_calls, publish_calls, stop_calls, stop_for, fault_in, fault_of, fault_told, IsAllowed}
use Rattle.ob_conduct.specs.Rounds.{KeepRule, plan_rule, AreDriven, AreTurns, IsOneThing}
use Rattle.ob_conduct.specs.Scenes.{Scene, AllNoted, RunnerKind, seat_of}
use Rattle.ob_conduct.specs.Records.{HoldsMap, AreAnswered, IsWritten, IsCutShort}
use Rattle.ob_conduct.specs.Ready.{IsBetweenActs, TellsEpochs, IsDueRecord}

-- These calls of the desk and of the vault lead from one scene to another, and the notes of the vault's calls were shown.
pub record Moves {V : Type 0} (k : Kind V) (old : Scene V) (steps : List (Call × Reply)) (asked : List (VaultCall × VaultAnswer)) (new : Scene V) : Type 0 where
  pub leads : Leads old.desk steps new.desk
  pub notes : List Note
  pub chain : AllNoted k old.vault old.trace asked notes new.vault new.trace
  pub shown : Shows notes old.trace new.trace
  pub run : (m : Map nat_cmp) → HoldsMap k old.vault m → (next : Map nat_cmp) × Run m old.desk steps next new.desk × HoldsMap k new.vault next

-- Batches were taken, fetched and delivered, and nothing else changed.
pub record ReadsBatches {V : Type 0} (k : Kind V) (p : Params) (old : Scene V) (batches : List Batch) (new : Scene V) (c : VaultCounts) : Type 0 where
  pub moves : Moves k old (rest_calls batches) (rest_fetches batches) new
  pub ready : IsBetweenActs p new.desk c
  pub same_epoch : new.desk.running.epoch ≡ old.desk.running.epoch
  pub same_stop : new.desk.stop ≡ old.desk.stop

-- Batches were, and one more was refused.
pub record ReadFails {V : Type 0} (k : Kind V) (old : Scene V) (batches : List Batch) (fault : Fault) (new : Scene V) : Type 0 where
  pub keys : List (Option ℕ)
  pub moves : Moves k old (rest_calls batches ++ (desk.TakeBatch, desk.Batch keys) ∷ (desk.Stop fault, desk.Done) ∷ []) (rest_fetches batches ++ (Fetch keys, RefusedBy fault) ∷ []) new
  pub is_fault : IsFetchFault fault
  pub cause : IsStoreFault fault → Rose (k.disk old.vault).faults (k.disk new.vault).faults
  pub stopped : new.desk.stop ≡ Some fault

-- The watch had broken, and the desk was stopped for that.
pub record HaltsUnwatched {V : Type 0} (k : Kind V) (old new : Scene V) : Type 0 where
  pub moves : Moves k old (stop_calls SinkFault) [] new
  pub broken : new.trace.broken ≡ true
  pub stopped : new.desk.stop ≡ Some SinkFault

-- What comes of a look at the watch: nothing where it is whole, else the desk is stopped.
abbrev pub HeedsWatch : DeskState → DeskState → Trace → Result (Unit {0}) RunErr → Type 0
HeedsWatch old new trace (Ok done) = (trace.broken ≡ false) × (new ≡ old)
HeedsWatch old new trace (Err (failed.Fault fault)) = ⊥
HeedsWatch old new trace (Err failed.Unwatched) = (trace.broken ≡ true) × StopStep old SinkFault new

-- Batches were taken, fetched and delivered, in the last of which the watch broke, and the desk was stopped.
pub record ReadsUnwatched {V : Type 0} (k : Kind V) (p : Params) (old : Scene V) (batches : List Batch) (new : Scene V) : Type 0 where
  pub mid : Scene V
  pub counts : VaultCounts
  pub read : ReadsBatches k p old batches mid counts
  pub halts : HaltsUnwatched k mid new

-- What stops a run in a batch of its own: the vault refused it, or the watch broke in it.
abbrev pub BatchStops : {V : Type 0} → Kind V → Params → Scene V → RunErr → Scene V → Type 0
BatchStops k p old (failed.Fault fault) new = ReadFails k old [] fault new
BatchStops k p old failed.Unwatched new = (batch : Batch) × ReadsUnwatched k p old (batch ∷ []) new

-- what stops it in the batches before a close
abbrev pub RestStops : {V : Type 0} → Kind V → Params → Scene V → RunErr → Scene V → Type 0
RestStops k p old (failed.Fault fault) new = (batches : List Batch) × ReadFails k old batches fault new
RestStops k p old failed.Unwatched new = (batches : List Batch) × ReadsUnwatched k p old batches new

-- The desk closed its epoch with these writes.
pub record IsClosed {V : Type 0} (k : Kind V) (old : Scene V) (writes : List (ℕ × Option (List ℕ))) (new : Scene V) : Type 0 where
  pub moves : Moves k old (close_calls writes) [] new
  pub part : Part
  pub is_closed : new.desk.closed ≡ Some part
  pub due : IsDueRecord old.desk.running.epoch writes (record_of part)

-- The epoch was closed, ended and published.
pub record IsEnded {V : Type 0} (k : Kind V) (p : Params) (old : Scene V) (told : EpochRecord ℕ) (new : Scene V) (c : VaultCounts) : Type 0 where
  pub writes : List (ℕ × Option (List ℕ))
  pub left : ℕ
  pub mid : Scene V
  pub closed : IsClosed k old writes mid
  pub moves : Moves k mid (publish_calls left told) ((End writes, Ended) ∷ []) new
  pub due : IsDueRecord old.desk.running.epoch writes told
  pub ready : IsBetweenActs p new.desk c
  pub next_epoch : new.desk.running.epoch ≡ suc old.desk.running.epoch
  pub same_stop : new.desk.stop ≡ old.desk.stop

-- The epoch was closed, and its end refused or left in doubt.
pub record EndFails {V : Type 0} (k : Kind V) (old : Scene V) (fault : Fault) (new : Scene V) : Type 0 where
  pub writes : List (ℕ × Option (List ℕ))
  pub refused : EndErr
  pub mid : Scene V
  pub closed : IsClosed k old writes mid
  pub moves : Moves k mid ((stop_for refused, desk.Done) ∷ []) ((End writes, end_answer (Err refused)) ∷ []) new
  pub fault_is : fault ≡ fault_in refused
  pub is_fault : IsEndFault old.desk.running.epoch refused
  pub cause : IsStoreFault fault → Rose (k.disk old.vault).faults (k.disk new.vault).faults
  pub stopped : new.desk.stop ≡ Some fault

-- A thing that the driver did, which nobody refused, and behind which the watch is whole.
pub record Acted {V : Type 0} (k : Kind V) (p : Params) (beat : BeatKind) (old : Scene V) (before : Flow) (new : Scene V) (c : VaultCounts) (after : Flow) : Type 0 where
  pub thing : List Act
  pub one : IsOneThing thing
  pub allowed : All (IsAllowed beat) thing
  pub moves : Moves k old (history thing) (calls thing) new
  -- it is no client's
  pub driven : AreDriven thing
  pub quiet : (client : ℕ) → said_by client (history thing) ≡ []
  pub ready : IsBetweenActs p new.desk c
  pub answered : AreAnswered (calls thing)
  pub told : TellsEpochs old.desk.running.epoch new.desk.running.epoch (ended_of (calls thing)) (records thing)
  pub written : IsWritten (report decimal (records thing)) before after
  pub whole : new.trace.broken ≡ false

-- The epoch that is closed behind these acts, and whose end was refused or left in doubt. Its record is `record_of closed`.
pub record IsUnended {V : Type 0} (k : Kind V) (old : Scene V) (front : List Act) (writes : List (ℕ × Option (List ℕ))) (refused : EndErr) : Type 0 where
  pub mid : Scene V
  pub moves : Moves k old (history front) (calls front) mid
  pub closed : Part
  pub is_closed : mid.desk.closed ≡ Some closed
  pub due : IsDueRecord (old.desk.running.epoch + length (records front)) writes (record_of closed)
  pub is_fault : IsEndFault (old.desk.running.epoch + length (records front)) refused

-- What stands behind what an act tells of: a client found no memory; the vault refused a batch, or an end; the output failed; or the watch broke in the vault's last call, before which it was whole.
abbrev pub IsReason : {V : Type 0} → Kind V → Scene V → List Act → Act → Trace → Type 0
IsReason k old front (Halts fault) after = fault ≡ Memory
IsReason k old front (DeliverFails keys fault) after = IsFetchFault fault
IsReason k old front (FetchFails look batches keys fault) after = IsFetchFault fault
IsReason k old front (RestUnwatched look batches) after = after.broken ≡ true
IsReason k old front (Refuses writes refused) after = IsUnended k old front writes refused
IsReason k old front Unprinted after = Unit {0}
IsReason k old front Unwatched after = after.broken ≡ true
IsReason k old front _ after = ⊥

-- All lines are written; where the output failed, all but those of the last record.
abbrev pub AreLines : Act → List (EpochRecord ℕ) → Flow → Flow → Type 0
AreLines Unprinted told before after = IsCutShort told before after
AreLines _ told before after = IsWritten (report decimal told) before after

-- a client's own calls
abbrev pub IsSaid : Act → Type 0
IsSaid (Says client steps) = All (IsOwn client) steps
IsSaid _ = ⊥

-- What may come between a client's stop of the desk and this act, which is the driver's: clients' turns; where the watch broke in a batch, its
-- delivery; and where it broke in an end, or the lines failed, the publish of that epoch, which was closed before.
abbrev pub MayComeBefore : Act → Act → Type 0
MayComeBefore (Says client steps) act = All (IsOwn client) steps
MayComeBefore (Delivers batch) Unwatched = Unit {0}
MayComeBefore (Publishes writes left told) Unprinted = Unit {0}
MayComeBefore (Publishes writes left told) Unwatched = Unit {0}
MayComeBefore _ act = ⊥

-- Behind all that the driver did before this act, but for such a delivery or publish, a client stopped the desk for want of memory.
pub record IsForestalled (act : Act) (front : List Act) : Type 0 where
  pub before : List Act
  pub client : ℕ
  pub steps : List (Call × Reply)
  pub behind : List Act
  pub front_is : front ≡ before ++ Says client steps ∷ behind
  pub stops : Contains steps (desk.Stop Memory, desk.Done)
  pub says : All (λ (one : Act). MayComeBefore one act) behind

-- The desk is stopped with this fault, unless a client had stopped it just before this act. By hand no client's turn comes between, so there it is.
abbrev pub IsStoppedFor : Option Fault → Fault → Act → List Act → Type 0
IsStoppedFor stop fault act front = (stop ≡ Some fault) ⊎ ((stop ≡ Some Memory) × IsForestalled act front)

-- Acts of which the driver's last one tells what cut the run off, and only clients' turns stand behind it: nobody refused those before it, and the
-- desk is stopped for that. The vault refused by its store only where its count of faults rose.
pub record Failure {V : Type 0} (k : Kind V) (old new : Scene V) (acts : List Act) (before after : Flow) (err : RunErr) : Type 0 where
  pub front : List Act
  pub act : Act
  pub behind : List Act
  pub acts_are : acts ≡ front ++ act ∷ behind
  pub says : All IsSaid behind
  pub answered : AreAnswered (calls front)
  pub told : fault_told act ≡ Some err
  pub reason : IsReason k old front act new.trace
  pub cause : IsStoreFault (fault_of err) → Rose (k.disk old.vault).faults (k.disk new.vault).faults
  pub stopped : IsStoppedFor new.desk.stop (fault_of err) act front
  pub lines : AreLines act (records acts) before after

-- The last thing that the driver did in a run that fails.
pub record ActFails {V : Type 0} (k : Kind V) (beat : BeatKind) (old : Scene V) (before : Flow) (err : RunErr) (new : Scene V) (after : Flow) : Type 0 where
  pub thing : List Act
  pub one : IsOneThing thing
  pub allowed : All (IsAllowed beat) thing
  pub moves : Moves k old (history thing) (calls thing) new
  pub driven : AreDriven thing
  pub quiet : (client : ℕ) → said_by client (history thing) ≡ []
  pub next : ℕ
  pub told : TellsEpochs old.desk.running.epoch next (ended_of (calls thing)) (records thing)
  pub printed : IsPrinted before after (report decimal (records thing))
  pub failure : Failure k old new thing before after err

-- A step of each runner: their clients' calls, one behind the other. So these clients had their turns.
pub record Stepped {U Plan : Type 0} (kind : RunnerKind U Plan) (numbers : List ℕ) (old : DeskState) (was : List U) (new : DeskState) (are : List U) : Type 0 where
  pub acts : List Act
  pub says : All IsSaid acts
  pub leads : Leads old (history acts) new
  pub clients : map kind.client are ≡ map kind.client was
  pub bounds : map kind.bound are ≡ map kind.bound was
  pub plans : map kind.plan are ≡ map kind.plan was
  pub fitting : (calls : List (Call × Reply)) → All (λ u. kind.fits u (said_by (kind.client u) calls)) was → All (λ u. kind.fits u (said_by (kind.client u) (calls ++ history acts))) are
  pub turns : AreTurns numbers acts
  pub keeps : (calls : List (Call × Reply)) → All (λ u. kind.fits u (said_by (kind.client u) calls)) was → KeepRule (plan_rule kind.turn (map (seat_of kind) was)) calls acts

-- The desk came by these calls from a new one, and each runner has made just its client's calls.
pub record Heard {U : Type 0} (client : U → ℕ) (fits : U → List (Call × Reply) → Type 0) (d : DeskState) (runners : List U) : Type 0 where
  pub setup : Setup
  pub epoch : ℕ
  pub left : ℕ
  pub calls : List (Call × Reply)
  pub opened : MayOpen setup epoch left (map client runners)
  pub leads : Leads (new_desk setup epoch left (map client runners)) calls d
  pub fitting : All (λ u. fits u (said_by (client u) calls)) runners
