-- What a run's acts are of lists of events.
use Rattle.std.specs.Prelude.{ℕ, suc, ◌≡◌, All, Bool, List, [], ◌∷◌, length, map, take, None, Result, Ok}
use Rattle.ob_store.specs.Images.{LeavesOnly}
use Rattle.ob_serial.specs.Vaults.{VaultState, Standing, StandsIn, standing_now}
use Rattle.ob_serial.specs.VaultKinds.{Kind, AllCalled, after_calls}
use Rattle.ob_desk.specs.Desk.{Setup, DeskState, new_desk, MayOpen, Call, Reply}
use Rattle.ob_desk.specs.Beats.{BeatKind}
use Rattle.ob_session.specs.Steps.{Leads}
use Rattle.ob_session.specs.Clients.{told_of, said_by}
use Rattle.ob_session.specs.Records.{IsAtRest, TellAll, txns_by}
use Rattle.ob_conduct.specs.declared.run_err.RunErr.{RunErr}
use Rattle.ob_conduct.specs.Acts.{Act, IsAllowed, history, calls, records}
use Rattle.ob_conduct.specs.Left.{Rests as CrashesRest, OnlyNow}
use Rattle.ob_conduct.specs.Scenes.{RunState, RunnerKind}
use Rattle.ob_conduct.specs.Records.{IsOver}
use Rattle.ob_conduct.specs.Conducted.{Conducted}
use Rattle.ob_driver.specs.Drives.{AreThings}
use Rattle.ob_run.specs.Threaded.{driven, RunsBy}
use Rattle.ob_world.specs.Courses.{Course, course_of}
use Rattle.ob_world.specs.Drivers.{DriverAt, AtRest, HasTold, HasFailed}
use Rattle.ob_world.specs.Worlds.{WorldEvent, Desk, Vault, Report, Crash, Open, World, IsWorld, first_world, opened_vault}
use Rattle.ob_world.specs.Headlines.{published_in, acknowledged, IsPrefix}
use Rattle.ob_world.specs.Weaves.{woven, publishes_in, reports_of, reported_in}

-- These acts were done from a new desk, over a vault that held v unspent. A run that is `Conducted` has all of this.
pub record AreActsFrom {V : Type 0} (k : Kind V) (setup : Setup) (clients : List ℕ) (v : VaultState) (old new : V) (acts : List Act) (d : DeskState) : Type 0 where
  pub beat : BeatKind
  pub allowed : All (IsAllowed beat) acts
  pub leads : Leads (new_desk setup (suc v.epoch) v.left clients) (history acts) d
  pub chain : AllCalled k old (calls acts) new
  pub holds : k.holds old v
  pub fresh : v ≡ opened_vault setup.params.batches (standing_now v) v.left

-- where a run may leave the driver
abbrev pub IsEndPlace : DriverAt → Type 0
IsEndPlace AtRest = Unit {0}
IsEndPlace (HasTold told) = Unit {0}
IsEndPlace (HasFailed fault) = Unit {0}
IsEndPlace _ = ⊥

-- Their events lead from the world of that opening to the desk as it is left, and to the vault behind its calls.
pub record IsWovenWorld {V : Type 0} (k : Kind V) (setup : Setup) (clients : List ℕ) (v : VaultState) (old new : V) (acts : List Act) (d : DeskState) : Type 0 where
  pub last : World V
  pub leads : IsWorld (course_of k) (first_world setup clients (standing_now v) v.left old) (woven acts (reports_of acts)) last
  pub desk_is : last.desk ≡ d
  pub vault_is : last.vault ≡ after_calls v (calls acts)
  pub past_is : last.past ≡ new
  -- the driver rests at the end, or it failed, or its last record wasn't printed; it rests unless the desk is stopped
  pub ends : IsEndPlace last.driver
  pub rests : d.stop ≡ None → last.driver ≡ AtRest

-- So it is of each run whose driver's acts are things that it does, wherever clients' turns stand between.
abbrev pub ActsAreAWorld : {V : Type 0} → Kind V → Type 0
ActsAreAWorld {V} k = (setup : Setup) (clients : List ℕ) (v : VaultState) (old new : V) (acts : List Act) (d : DeskState)
    → AreActsFrom k setup clients v old new acts d → AreThings (driven acts) → IsWovenWorld k setup clients v old new acts d

-- So a run, by threads or by hand, has acts that are a list of the world.
abbrev pub RunsAreWorlds : {V U Plan : Type 0} → Kind V → RunnerKind U Plan → Type 0
RunsAreWorlds {V} {U} k kind = (threads : Bool) (beat : BeatKind) (old new : RunState V U) (result : Result (Unit {0}) RunErr) (setup : Setup) (v : VaultState)
    → RunsBy threads k kind beat old new result → old.scene.desk ≡ new_desk setup (suc v.epoch) v.left (map kind.client old.runners) → k.holds old.scene.vault v → v ≡ opened_vault setup.params.batches (standing_now v) v.left
    → (acts : List Act) × Conducted k kind beat old new acts result × IsWovenWorld k setup (map kind.client old.runners) v old.scene.vault new.scene.vault acts new.scene.desk

-- Where a run answers Ok each client has signed off, the desk isn't stopped, the driver rests, and of each client the published records
-- tell all that it began.
abbrev pub RunsEndWhole : {V U Plan : Type 0} → Kind V → RunnerKind U Plan → Type 0
RunsEndWhole {V} {U} k kind = (threads : Bool) (beat : BeatKind) (old new : RunState V U) (done : Unit {0}) (setup : Setup) (v : VaultState)
    → RunsBy threads k kind beat old new (Ok done) → old.scene.desk ≡ new_desk setup (suc v.epoch) v.left (map kind.client old.runners) → k.holds old.scene.vault v → v ≡ opened_vault setup.params.batches (standing_now v) v.left
    → MayOpen setup (suc v.epoch) v.left (map kind.client old.runners)
    → (acts : List Act) × Conducted k kind beat old new acts (Ok done) × (w : IsWovenWorld k setup (map kind.client old.runners) v old.scene.vault new.scene.vault acts new.scene.desk)
    × IsOver new.scene.desk × (w.last.driver ≡ AtRest) × ((number : ℕ) → TellAll number (txns_by number (records acts)) (told_of (said_by number (history acts))))

-- no crash and no opening
abbrev pub IsOneRun : List WorldEvent → Type 0
IsOneRun [] = Unit {0}
IsOneRun (Desk caller call reply ∷ events) = IsOneRun events
IsOneRun (Vault call answer ∷ events) = IsOneRun events
IsOneRun (Report told ∷ events) = IsOneRun events
IsOneRun (Crash inside image ∷ events) = ⊥
IsOneRun (Open clients ∷ events) = ⊥

-- the desk's calls among events
abbrev pub desk_steps : List WorldEvent → List (Call × Reply)
desk_steps [] = []
desk_steps (Desk caller call reply ∷ events) = (call, reply) ∷ desk_steps events
desk_steps (Vault call answer ∷ events) = desk_steps events
desk_steps (Report told ∷ events) = desk_steps events
desk_steps (Crash inside image ∷ events) = desk_steps events
desk_steps (Open clients ∷ events) = desk_steps events

-- The events of acts publish the acts' records, and of these the first are reported, in order.
abbrev pub RecordsAreReported : Type 0
RecordsAreReported = (acts : List Act) (reports : ℕ) (d new : DeskState) → Leads d (history acts) new → (published_in (woven acts reports) ≡ records acts) × (reported_in (woven acts reports) ≡ take reports (records acts))

-- So many records were published as acts publish one: where all was printed, as many are reported.
abbrev pub PublishesAreRecords : Type 0
PublishesAreRecords = (beat : BeatKind) (acts : List Act) (d new : DeskState) → All (IsAllowed beat) acts → Leads d (history acts) new → publishes_in acts ≡ length (records acts)

-- Behind an opening, where the desk is at rest: each transaction that a client began, and was told of, is in a published record.
abbrev pub EveryBeginIsTold : Course → Type 0
EveryBeginIsTold c = (w last : World c.Past) (setup : Setup) (epoch left : ℕ) (clients : List ℕ) (events : List WorldEvent) (number : ℕ)
    → MayOpen setup epoch left clients → w.desk ≡ new_desk setup epoch left clients → IsOneRun events → IsWorld c w events last → IsAtRest last.desk
    → TellAll number (txns_by number (published_in events)) (told_of (said_by number (desk_steps events)))

-- From each place of a run on to any later one a crash leaves only what stands for a prefix of what ended; and that holds each epoch which
-- was acknowledged before that place. What reads give at the later place stands so as well.
abbrev pub MomentsArePrefixes : {V : Type 0} → Kind V → Type 0
MomentsArePrefixes {V} k = (setup : Setup) (clients : List ℕ) (found : Standing) (left : ℕ) (old : V) (before after : List WorldEvent) (mid last : World V)
    → CrashesRest k → OnlyNow k → k.sound old (opened_vault setup.params.batches found left) → IsOneRun before → IsOneRun after
    → IsWorld (course_of k) (first_world setup clients found left old) before mid → IsWorld (course_of k) mid after last
    → LeavesOnly (k.disk mid.past) (k.disk last.past) (StandsIn (k.stands mid.past) (IsPrefix found.content last.ended (acknowledged before)))
