-- The events of what was done in a run, act by act.
use Rattle.std.specs.Prelude.{ℕ, zero, suc, ◌-◌, List, [], ◌∷◌, ◌++◌, map, flat_map}
use Rattle.ob_serial.specs.Serial.{EpochRecord}
use Rattle.ob_serial.specs.Vaults.{VaultCall, VaultAnswer}
use Rattle.ob_desk.specs.Desk as desk
use Rattle.ob_desk.specs.Desk.{Call, Reply}
use Rattle.ob_conduct.specs.Acts.{Act, Says, Publishes, Unprinted, desk_calls, calls}
use Rattle.ob_world.specs.Worlds.{WorldEvent, Desk, Vault, Report, Crash, Open}

-- a call of the desk, by whom, with its reply
pub record MadeCall : Type 0 where
  pub caller : ℕ
  pub call : Call
  pub reply : Reply

-- A client's act is the client's, all others are the driver's.
abbrev pub caller_of : Act → ℕ
caller_of (Says client steps) = client
caller_of _ = 0

abbrev pub call_by : ℕ → Call × Reply → MadeCall
call_by caller step = record { caller = caller; call = step.0; reply = step.1 }

-- all calls of the desk, in order
abbrev pub calls_made : List Act → List MadeCall
calls_made [] = []
calls_made (act ∷ acts) = map (call_by (caller_of act)) (desk_calls act) ++ calls_made acts

-- what stands right behind a call of the desk: a call of the vault behind each batch that was taken and each close, a report behind a publish
pub data Due : Type 0 where
  NothingIsDue : Due
  CallIsDue : Due
  ReportIsDue : (told : EpochRecord ℕ) → Due

abbrev pub due_behind : Call → Reply → Due
due_behind desk.TakeBatch reply = CallIsDue
due_behind desk.Close reply = CallIsDue
due_behind (desk.Publish epoch left) (desk.Published told) = ReportIsDue told
due_behind _ _ = NothingIsDue

-- the next of these calls of the vault, and a report where there are any left
abbrev pub events_due : Due → List (VaultCall × VaultAnswer) → ℕ → List WorldEvent
events_due NothingIsDue asked reports = []
events_due CallIsDue [] reports = []
events_due CallIsDue (step ∷ asked) reports = Vault step.0 step.1 ∷ []
events_due (ReportIsDue told) asked zero = []
events_due (ReportIsDue told) asked (suc reports) = Report told ∷ []

abbrev pub asked_left : Due → List (VaultCall × VaultAnswer) → List (VaultCall × VaultAnswer)
asked_left CallIsDue [] = []
asked_left CallIsDue (step ∷ asked) = asked
asked_left _ asked = asked

abbrev pub reports_left : Due → ℕ → ℕ
reports_left (ReportIsDue told) zero = zero
reports_left (ReportIsDue told) (suc reports) = reports
reports_left _ reports = reports

-- these calls of the desk in order, with those of the vault, and reports behind the first publishes
abbrev pub woven_from : List MadeCall → List (VaultCall × VaultAnswer) → ℕ → List WorldEvent
woven_from [] asked reports = []
woven_from (one ∷ made) asked reports =
    Desk one.caller one.call one.reply ∷ (events_due (due_behind one.call one.reply) asked reports
    ++ woven_from made (asked_left (due_behind one.call one.reply) asked) (reports_left (due_behind one.call one.reply) reports))

-- The events of these acts, so many of whose publishes were reported.
abbrev pub woven : List Act → ℕ → List WorldEvent
woven acts reports = woven_from (calls_made acts) (calls acts) reports

abbrev pub publishes_in : List Act → ℕ
publishes_in [] = 0
publishes_in (Publishes writes left told ∷ acts) = suc (publishes_in acts)
publishes_in (_ ∷ acts) = publishes_in acts

abbrev pub unprinted_in : List Act → ℕ
unprinted_in [] = 0
unprinted_in (Unprinted ∷ acts) = suc (unprinted_in acts)
unprinted_in (_ ∷ acts) = unprinted_in acts

-- Of all that were published so many were reported: where the output failed, all but that one.
abbrev pub reports_of : List Act → ℕ
reports_of acts = publishes_in acts - unprinted_in acts

-- the records that an event reports, and all of them
abbrev pub reported_by : WorldEvent → List (EpochRecord ℕ)
reported_by (Report told) = told ∷ []
reported_by (Desk caller call reply) = []
reported_by (Vault call answer) = []
reported_by (Crash inside image) = []
reported_by (Open clients) = []

abbrev pub reported_in : List WorldEvent → List (EpochRecord ℕ)
reported_in events = flat_map reported_by events
