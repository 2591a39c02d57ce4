-- The numbers of a desk's clients stay, whatever is called.
use Rattle.std.proofs.Common.{◌≡◌, Bool, true, false, if◌then◌else◌, List, [], ◌∷◌, Option, None, Some, option_map, unwrap_or, refl, ap, ◌∙◌, inl, inr}
use Rattle.ob_base.specs.declared.fault.Fault.{Fault}
use Rattle.ob_serial.specs.declared.records.Outcome.TheVariants.{Aborted as AbortedBy}
use Rattle.ob_serial.specs.declared.records.Why.TheVariants.{Stopped}
use Rattle.ob_desk.specs.Desk.{Part, DeskState, settle, settle_client, begin_client, sign_off_client, is_memory, stop_closed, Call, Begin, GetKey, Poll, Write, Commit, Abort, Settled, Looks, SignOff}
use Rattle.ob_desk.specs.Desk.{Stop, Unsure, IsStopped, TakeBatch, Deliver, Close, Publish, Reply, Begun, Refused, Value, Waits, Aborted, Done, IsSettled, Seen, StoppedBy, Batch, Writes, Published}
use Rattle.ob_desk.specs.Desk.{DeskStep}
use Rattle.ob_session.specs.Steps.{Leads}
use Rattle.ob_session.proofs.Epochs.{halted}
use Rattle.ob_session.proofs.Rolls.{numbers, numbers_mapped, numbers_changed}

kept : (d new : DeskState) → new ≡ d → numbers new.clients ≡ numbers d.clients
kept d new e = ap (λ (q : DeskState). numbers q.clients) e

settled_numbers : (d : DeskState) (f : Fault) (closed : Option Part) → numbers (unwrap_or (option_map (λ c. settle c (AbortedBy (Stopped f)) d.clients) closed) d.clients) ≡ numbers d.clients
settled_numbers d f None = refl
settled_numbers d f (Some part) = numbers_mapped (settle_client part (AbortedBy (Stopped f))) (λ c. refl) d.clients

stopped_numbers : (d : DeskState) (f : Fault) (b : Bool) → numbers (if b then halted f d else stop_closed f (halted f d)).clients ≡ numbers d.clients
stopped_numbers d f true = refl
stopped_numbers d f false = settled_numbers d f d.closed

numbers_step : (d : DeskState) (call : Call) (reply : Reply) (new : DeskState) → DeskStep d call reply new → numbers new.clients ≡ numbers d.clients
numbers_step d (Begin client) (Begun x) new step = ap (λ (q : DeskState). numbers q.clients) step.state ∙ numbers_changed (begin_client x) (λ c. refl) d.clients client
numbers_step d (Begin client) (Refused f) new step = kept d new step.same
numbers_step d (GetKey x k) (Value value) new step = ap (λ (q : DeskState). numbers q.clients) step.state
numbers_step d (GetKey x k) Waits new step = ap (λ (q : DeskState). numbers q.clients) step.state
numbers_step d (GetKey x k) (Aborted why) new (inl step) = kept d new step.same
numbers_step d (GetKey x k) (Aborted why) new (inr (inl step)) = ap (λ (q : DeskState). numbers q.clients) step.state
numbers_step d (GetKey x k) (Aborted why) new (inr (inr step)) = ap (λ (q : DeskState). numbers q.clients) step.state
numbers_step d (Poll x) (Value value) new step = ap (λ (q : DeskState). numbers q.clients) step.state
numbers_step d (Poll x) Waits new step = kept d new step.same
numbers_step d (Poll x) (Aborted why) new step = kept d new step.same
numbers_step d (Write x k value) Done new step = ap (λ (q : DeskState). numbers q.clients) step.state
numbers_step d (Write x k value) (Aborted why) new (inl step) = kept d new step.same
numbers_step d (Write x k value) (Aborted why) new (inr (inl step)) = ap (λ (q : DeskState). numbers q.clients) step.state
numbers_step d (Write x k value) (Aborted why) new (inr (inr step)) = ap (λ (q : DeskState). numbers q.clients) step.state
numbers_step d (Commit x) Done new step = ap (λ (q : DeskState). numbers q.clients) step.state
numbers_step d (Commit x) (Aborted why) new step = kept d new step.same
numbers_step d (Abort x) (Aborted why) new (inl step) = kept d new step.same
numbers_step d (Abort x) (Aborted why) new (inr step) = ap (λ (q : DeskState). numbers q.clients) step.state
numbers_step d (Settled x) (IsSettled outcome) new step = kept d new step.1
numbers_step d Looks (Seen look) new step = kept d new step.1
numbers_step d (SignOff client) Done new step = ap (λ (q : DeskState). numbers q.clients) step.state ∙ numbers_changed sign_off_client (λ c. refl) d.clients client
numbers_step d (Stop f) Done new step = ap (λ (q : DeskState). numbers q.clients) step.state ∙ stopped_numbers d f (is_memory f)
numbers_step d (Unsure f) Done new step = ap (λ (q : DeskState). numbers q.clients) step.state ∙ numbers_mapped (settle_client step.part _) (λ c. refl) d.clients
numbers_step d IsStopped (StoppedBy fault) new step = kept d new step.1
numbers_step d TakeBatch (Batch keys) new step = ap (λ (q : DeskState). numbers q.clients) step.state
numbers_step d (Deliver keys values) Done new step = ap (λ (q : DeskState). numbers q.clients) step.state
numbers_step d Close (Writes writes) new step = ap (λ (q : DeskState). numbers q.clients) step.state
numbers_step d (Publish epoch left) (Published told) new step = ap (λ (q : DeskState). numbers q.clients) step.state ∙ numbers_mapped (settle_client step.part _) (λ c. refl) d.clients
numbers_step d _ _ new step = absurd step

pub numbers_run : (d : DeskState) (steps : List (Call × Reply)) (new : DeskState) → Leads d steps new → numbers new.clients ≡ numbers d.clients
numbers_run d [] new leads = kept d new leads
numbers_run d (step ∷ steps) new leads = numbers_run leads.0 steps new leads.3 ∙ numbers_step d step.0 step.1 leads.0 leads.2
