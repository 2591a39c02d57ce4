-- What the events of a run publish and report, and that every begin is told.
use Rattle.std.proofs.Common.{◌≡◌, ℕ, zero, suc, List, [], ◌∷◌, ◌++◌, map, take, refl, sym, ap, ◌∙◌, subst}
use Rattle.ob_serial.specs.Serial.{EpochRecord}
use Rattle.ob_serial.specs.Vaults.{VaultCall, VaultAnswer}
use Rattle.ob_desk.specs.Desk as desk
use Rattle.ob_desk.specs.Desk.{DeskState, Call, Reply, DeskStep, published, records_told}
use Rattle.ob_session.specs.Steps.{Leads}
use Rattle.ob_session.specs.Clients.{told_of, said_by}
use Rattle.ob_session.specs.Records.{TellAll, txns_by}
use Rattle.ob_session.proofs.Runs.{records_tell}
use Rattle.ob_conduct.specs.Acts.{Act, desk_calls, history, calls, records}
use Rattle.ob_conduct.proofs.Behind.{leads_split}
use Rattle.ob_world.specs.Courses.{Course}
use Rattle.ob_world.specs.Worlds.{WorldEvent, Desk, Vault, Report, Crash, Open, World, IsWorld}
use Rattle.ob_world.specs.Headlines.{published_in}
use Rattle.ob_world.specs.Weaves.{MadeCall, call_by, caller_of, calls_made, Due, NothingIsDue, CallIsDue, ReportIsDue, due_behind, events_due, asked_left, reports_left, woven_from, reported_in}
use Rattle.ob_world.specs.Laws.{RecordsAreReported, IsOneRun, desk_steps, EveryBeginIsTold}

-- ---- what the weave publishes and reports

-- the records of calls that were made
abbrev records_made : List MadeCall → List (EpochRecord ℕ)
records_made [] = []
records_made (one ∷ made) = records_told one.reply ++ records_made made

-- a publish alone tells a record
abbrev pub records_due : Due → List (EpochRecord ℕ)
records_due NothingIsDue = []
records_due CallIsDue = []
records_due (ReportIsDue told) = told ∷ []

pub told_due : (d : DeskState) (call : Call) (reply : Reply) (new : DeskState) → DeskStep d call reply new → records_due (due_behind call reply) ≡ records_told reply
told_due d (desk.Publish epoch left) (desk.Published told) new step = refl
told_due d desk.TakeBatch (desk.Batch keys) new step = refl
told_due d desk.Close (desk.Writes writes) new step = refl
told_due d call (desk.Published told) new step = absurd step
told_due d call _ new step = refl

abbrev AreDue : List MadeCall → Type 0
AreDue [] = Unit {0}
AreDue (one ∷ made) = (records_due (due_behind one.call one.reply) ≡ records_told one.reply) × AreDue made

due_front : (caller : ℕ) (d : DeskState) (steps : List (Call × Reply)) (mid : DeskState) (made : List MadeCall) → Leads d steps mid → AreDue made → AreDue (map (call_by caller) steps ++ made)
due_front caller d [] mid made led h = h
due_front caller d (step ∷ steps) mid made (next, may, one, led) h = (told_due d step.0 step.1 next one, due_front caller next steps mid made led h)

are_due : (acts : List Act) (d new : DeskState) → Leads d (history acts) new → AreDue (calls_made acts)
are_due [] d new led = tt
are_due (act ∷ acts) d new led =
    let (mid, first, rest) = leads_split d (desk_calls act) (history acts) new led in due_front (caller_of act) d (desk_calls act) mid (calls_made acts) first (are_due acts mid new rest)

made_front : (caller : ℕ) (steps : List (Call × Reply)) (made : List MadeCall) (more : List (Call × Reply)) → records_made made ≡ published more → records_made (map (call_by caller) steps ++ made) ≡ published (steps ++ more)
made_front caller [] made more is = is
made_front caller (step ∷ steps) made more is = ap (λ (rs : List (EpochRecord ℕ)). records_told step.1 ++ rs) (made_front caller steps made more is)

made_records : (acts : List Act) → records_made (calls_made acts) ≡ records acts
made_records [] = refl
made_records (act ∷ acts) = made_front (caller_of act) (desk_calls act) (calls_made acts) (history acts) (made_records acts)

published_due : (d : Due) (asked : List (VaultCall × VaultAnswer)) (n : ℕ) (events : List WorldEvent) → published_in (events_due d asked n ++ events) ≡ published_in events
published_due NothingIsDue asked n events = refl
published_due CallIsDue [] n events = refl
published_due CallIsDue (step ∷ asked) n events = refl
published_due (ReportIsDue told) asked zero events = refl
published_due (ReportIsDue told) asked (suc n) events = refl

weave_publishes : (made : List MadeCall) (asked : List (VaultCall × VaultAnswer)) (n : ℕ) → published_in (woven_from made asked n) ≡ records_made made
weave_publishes [] asked n = refl
weave_publishes (one ∷ made) asked n =
    let due : Due = due_behind one.call one.reply in
    ap (λ (rs : List (EpochRecord ℕ)). records_told one.reply ++ rs) (published_due due asked n (woven_from made (asked_left due asked) (reports_left due n)) ∙ weave_publishes made (asked_left due asked) (reports_left due n))

reported_due : (d : Due) (asked : List (VaultCall × VaultAnswer)) (n : ℕ) (events : List WorldEvent) (rs : List (EpochRecord ℕ)) → reported_in events ≡ take (reports_left d n) rs
    → reported_in (events_due d asked n ++ events) ≡ take n (records_due d ++ rs)
reported_due NothingIsDue asked n events rs is = is
reported_due CallIsDue [] n events rs is = is
reported_due CallIsDue (step ∷ asked) n events rs is = is
reported_due (ReportIsDue told) asked zero events rs is = is ∙ take_none rs
  where
    take_none : (rs : List (EpochRecord ℕ)) → take 0 rs ≡ []
    take_none [] = refl
    take_none (r ∷ rs) = refl
reported_due (ReportIsDue told) asked (suc n) events rs is = ap (λ (l : List (EpochRecord ℕ)). told ∷ l) is

weave_reports : (made : List MadeCall) (asked : List (VaultCall × VaultAnswer)) (n : ℕ) → AreDue made → reported_in (woven_from made asked n) ≡ take n (records_made made)
weave_reports [] asked zero h = refl
weave_reports [] asked (suc n) h = refl
weave_reports (one ∷ made) asked n h =
    let due : Due = due_behind one.call one.reply in
    reported_due due asked n (woven_from made (asked_left due asked) (reports_left due n)) (records_made made) (weave_reports made (asked_left due asked) (reports_left due n) h.1)
    ∙ ap (λ (rs : List (EpochRecord ℕ)). take n (rs ++ records_made made)) h.0

pub records_are_reported : RecordsAreReported
records_are_reported acts reports d new led = (
  weave_publishes (calls_made acts) (calls acts) reports ∙ made_records acts,
  weave_reports (calls_made acts) (calls acts) reports (are_due acts d new led) ∙ ap (take reports) (made_records acts),
)

-- ---- every begin is told

module _ (c : Course) where
  events_lead : (w : World c.Past) (events : List WorldEvent) (last : World c.Past) → IsOneRun events → IsWorld c w events last → Leads w.desk (desk_steps events) last.desk
  events_lead w [] last one run = ap (λ (x : World c.Past). x.desk) (sym run)
  events_lead w (Desk caller call reply ∷ events) last one (mid, s, run) =
      (s.desk, s.may, s.step, subst (λ (x : World c.Past). Leads x.desk (desk_steps events) last.desk) s.state (events_lead mid events last one run))
  events_lead w (Vault call answer ∷ events) last one (mid, s, run) = subst (λ (x : World c.Past). Leads x.desk (desk_steps events) last.desk) s.state (events_lead mid events last one run)
  events_lead w (Report told ∷ events) last one (mid, s, run) = subst (λ (x : World c.Past). Leads x.desk (desk_steps events) last.desk) s.state (events_lead mid events last one run)
  events_lead w (Crash inside image ∷ events) last one run = absurd one
  events_lead w (Open clients ∷ events) last one run = absurd one

  events_publish : (events : List WorldEvent) → published (desk_steps events) ≡ published_in events
  events_publish [] = refl
  events_publish (Desk caller call reply ∷ events) = ap (λ (rs : List (EpochRecord ℕ)). records_told reply ++ rs) (events_publish events)
  events_publish (Vault call answer ∷ events) = events_publish events
  events_publish (Report told ∷ events) = events_publish events
  events_publish (Crash inside image ∷ events) = events_publish events
  events_publish (Open clients ∷ events) = events_publish events

  pub every_begin : EveryBeginIsTold c
  every_begin w last setup epoch left clients events number opens is one run rest =
      subst (λ (rs : List (EpochRecord ℕ)). TellAll number (txns_by number rs) (told_of (said_by number (desk_steps events)))) (events_publish events)
      (records_tell.all setup epoch left clients (desk_steps events) last.desk number opens (subst (λ (d : DeskState). Leads d (desk_steps events) last.desk) is (events_lead w events last one run)) rest)
