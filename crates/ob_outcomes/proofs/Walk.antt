-- What each end of an epoch in a run tells: whom it aborts, and that it ends some transaction.
use Rattle.std.proofs.Common.{◌≡◌, ◌∙◌, ◌++◌, ℕ, suc, Bool, true, false, if◌then◌else◌, List, [], ◌∷◌, Option, Some, None, sym, subst, refl, ap, inl, inr}
use Rattle.std.specs.List.{All}
use Rattle.std.specs.Option.{option_or, option_map, unwrap_or}
use Rattle.std.proofs.lemmas.Option.{none-some}
use Rattle.std.proofs.lemmas.List.Elements.{All-head, All-tail, All-cons, All-nil, All-append}
use Rattle.ob_base.specs.declared.fault.Fault.TheVariants.{SinkFault}
use Rattle.ob_serial.specs.declared.records.Outcome.TheVariants.{Committed, Aborted as AbortedBy}
use Rattle.ob_serial.specs.declared.records.Why.TheVariants.{EpochEnd}
use Rattle.ob_serial.specs.declared.vault.EndErr.{EndErr}
use Rattle.ob_serial.specs.declared.vault.EndErr.TheVariants as ended
use Rattle.ob_serial.specs.Serial.{TxnRecord}
use Rattle.ob_order.specs.Works.{Work}
use Rattle.ob_desk.specs.Desk as desk
use Rattle.ob_desk.specs.Desk.{DeskState, DeskStep, MayCall, MayOpen, Part, Setup, Call, Reply, new_desk, look_at, closing, record_of, why_at, stop_part, stop_closed, is_memory}
use Rattle.ob_desk.specs.declared.calls.Look.{Look}
use Rattle.ob_desk.specs.declared.clients.Holder.{Holder}
use Rattle.ob_desk.specs.Beats.{BeatKind}
use Rattle.ob_serial.specs.declared.records.Why.{Why}
use Rattle.ob_session.specs.Steps.{Leads, IsOwn}
use Rattle.ob_outcomes.specs.Ends.{IsOfBatch}
use Rattle.ob_conduct.specs.Acts.{Act, Says, Halts, Rests, Takes, Delivers, DeliverFails, FetchFails, RestUnwatched, Closes, Publishes, Refuses, Unprinted, Unwatched, Batch, desk_calls, look_calls, rest_calls, batch_calls, stop_for, IsAllowed}

-- ---- chains of calls

pub leads_split : (d : DeskState) (xs ys : List (Call × Reply)) (new : DeskState) → Leads d (xs ++ ys) new → (mid : DeskState) × Leads d xs mid × Leads mid ys new
leads_split d [] ys new run = (d, refl, run)
leads_split d (step ∷ xs) ys new (next, may, made, run) = let (mid, front, behind) = leads_split next xs ys new run in (mid, (next, may, made, front), behind)

pub leads_on : (d : DeskState) (xs ys : List (Call × Reply)) (mid new : DeskState) → Leads d xs mid → Leads mid ys new → Leads d (xs ++ ys) new
leads_on d [] ys mid new is run = subst (λ x. Leads x ys new) is run
leads_on d (step ∷ xs) ys mid new (next, may, made, front) run = (next, may, made, leads_on next xs ys mid new front run)

-- ---- an epoch is closed by a close alone

abbrev pub NotClose : Call × Reply → Type 0
NotClose (desk.Close, reply) = ⊥
NotClose _ = Unit {0}

pub closed_back : (d : DeskState) (call : Call) (reply : Reply) (new : DeskState) → DeskStep d call reply new → NotClose (call, reply) → (part : Part) → new.closed ≡ Some part → d.closed ≡ Some part
closed_back d (desk.Begin client) (desk.Begun x) new step other part is = ap (λ (s : DeskState). s.closed) (sym step.state) ∙ is
closed_back d (desk.Begin client) (desk.Refused f) new step other part is = ap (λ (s : DeskState). s.closed) (sym step.same) ∙ is
closed_back d (desk.GetKey x k) (desk.Value value) new step other part is = ap (λ (s : DeskState). s.closed) (sym step.state) ∙ is
closed_back d (desk.GetKey x k) desk.Waits new step other part is = ap (λ (s : DeskState). s.closed) (sym step.state) ∙ is
closed_back d (desk.GetKey x k) (desk.Aborted why) new (inl step) other part is = ap (λ (s : DeskState). s.closed) (sym step.same) ∙ is
closed_back d (desk.GetKey x k) (desk.Aborted why) new (inr (inl step)) other part is = ap (λ (s : DeskState). s.closed) (sym step.state) ∙ is
closed_back d (desk.GetKey x k) (desk.Aborted why) new (inr (inr step)) other part is = ap (λ (s : DeskState). s.closed) (sym step.state) ∙ is
closed_back d (desk.Poll x) (desk.Value value) new step other part is = ap (λ (s : DeskState). s.closed) (sym step.state) ∙ is
closed_back d (desk.Poll x) desk.Waits new step other part is = ap (λ (s : DeskState). s.closed) (sym step.same) ∙ is
closed_back d (desk.Poll x) (desk.Aborted why) new step other part is = ap (λ (s : DeskState). s.closed) (sym step.same) ∙ is
closed_back d (desk.Write x k value) desk.Done new step other part is = ap (λ (s : DeskState). s.closed) (sym step.state) ∙ is
closed_back d (desk.Write x k value) (desk.Aborted why) new (inl step) other part is = ap (λ (s : DeskState). s.closed) (sym step.same) ∙ is
closed_back d (desk.Write x k value) (desk.Aborted why) new (inr (inl step)) other part is = ap (λ (s : DeskState). s.closed) (sym step.state) ∙ is
closed_back d (desk.Write x k value) (desk.Aborted why) new (inr (inr step)) other part is = ap (λ (s : DeskState). s.closed) (sym step.state) ∙ is
closed_back d (desk.Commit x) desk.Done new step other part is = ap (λ (s : DeskState). s.closed) (sym step.state) ∙ is
closed_back d (desk.Commit x) (desk.Aborted why) new step other part is = ap (λ (s : DeskState). s.closed) (sym step.same) ∙ is
closed_back d (desk.Abort x) (desk.Aborted why) new (inl step) other part is = ap (λ (s : DeskState). s.closed) (sym step.same) ∙ is
closed_back d (desk.Abort x) (desk.Aborted why) new (inr step) other part is = ap (λ (s : DeskState). s.closed) (sym step.state) ∙ is
closed_back d (desk.Settled x) (desk.IsSettled outcome) new step other part is = ap (λ (s : DeskState). s.closed) (sym step.1) ∙ is
closed_back d desk.Looks (desk.Seen look) new step other part is = ap (λ (s : DeskState). s.closed) (sym step.1) ∙ is
closed_back d (desk.SignOff client) desk.Done new step other part is = ap (λ (s : DeskState). s.closed) (sym step.state) ∙ is
closed_back d (desk.Stop f) desk.Done new step other part is = halted (is_memory f) (ap (λ (s : DeskState). s.closed) (sym step.state) ∙ is)
  where
    halted : (b : Bool) → (if b then record d { stop = option_or d.stop (Some f); running = stop_part f d.running } else stop_closed f (record d { stop = option_or d.stop (Some f); running = stop_part f d.running })).closed ≡ Some part → d.closed ≡ Some part
    halted true e = e
    halted false e = absurd (none-some part e)
closed_back d (desk.Unsure f) desk.Done new step other part is = absurd (none-some part (ap (λ (s : DeskState). s.closed) (sym step.state) ∙ is))
closed_back d desk.IsStopped (desk.StoppedBy fault) new step other part is = ap (λ (s : DeskState). s.closed) (sym step.1) ∙ is
closed_back d desk.TakeBatch (desk.Batch keys) new step other part is = ap (λ (s : DeskState). s.closed) (sym step.state) ∙ is
closed_back d (desk.Deliver keys values) desk.Done new step other part is = ap (λ (s : DeskState). s.closed) (sym step.state) ∙ is
closed_back d (desk.Publish epoch left) (desk.Published told) new step other part is = absurd (none-some part (ap (λ (s : DeskState). s.closed) (sym step.state) ∙ is))
closed_back d desk.Close reply new step other part is = absurd other
closed_back d _ _ new step other part is = absurd step

pub closed_before : (d : DeskState) (steps : List (Call × Reply)) (new : DeskState) → Leads d steps new → All NotClose steps → (part : Part) → new.closed ≡ Some part → d.closed ≡ Some part
closed_before d [] new run other part is = ap (λ (s : DeskState). s.closed) (sym run) ∙ is
closed_before d (step ∷ steps) new (mid, may, made, run) other part is =
    closed_back d step.0 step.1 mid made (All-head NotClose step steps other) part (closed_before mid steps new run (All-tail NotClose step steps other) part is)

-- a client's calls close none
own_closes : (client : ℕ) (call : Call) (reply : Reply) → IsOwn client (call, reply) → NotClose (call, reply)
own_closes c desk.Close reply own = absurd own
own_closes c (desk.Begin number) reply own = tt
own_closes c (desk.GetKey x k) reply own = tt
own_closes c (desk.Poll x) reply own = tt
own_closes c (desk.Write x k value) reply own = tt
own_closes c (desk.Commit x) reply own = tt
own_closes c (desk.Abort x) reply own = tt
own_closes c (desk.Settled x) reply own = tt
own_closes c (desk.SignOff number) reply own = tt
own_closes c (desk.Stop f) reply own = tt
own_closes c desk.IsStopped reply own = tt
own_closes c desk.Looks reply own = tt
own_closes c (desk.Unsure f) reply own = tt
own_closes c desk.TakeBatch reply own = tt
own_closes c (desk.Deliver keys values) reply own = tt
own_closes c (desk.Publish epoch left) reply own = tt

pub own_close_none : (client : ℕ) (steps : List (Call × Reply)) → All (IsOwn client) steps → All NotClose steps
own_close_none c [] own = All-nil NotClose
own_close_none c (step ∷ steps) own = All-cons NotClose step steps (own_closes c step.0 step.1 (All-head (IsOwn c) step steps own)) (own_close_none c steps (All-tail (IsOwn c) step steps own))

batches_close_none : (batches : List Batch) (more : List (Call × Reply)) → All NotClose more → All NotClose (rest_calls batches ++ more)
batches_close_none [] more none = none
batches_close_none (batch ∷ batches) more none = All-cons NotClose (desk.TakeBatch, desk.Batch batch.keys) ((desk.Deliver batch.keys batch.values, desk.Done) ∷ (rest_calls batches ++ more)) tt
    (All-cons NotClose (desk.Deliver batch.keys batch.values, desk.Done) (rest_calls batches ++ more) tt (batches_close_none batches more none))

one_close_none : (step : Call × Reply) → NotClose step → All NotClose (step ∷ [])
one_close_none step one = All-cons NotClose step [] one (All-nil NotClose)

look_close_none : (look : Look) (more : List (Call × Reply)) → All NotClose more → All NotClose (look_calls look ++ more)
look_close_none look more none = All-cons NotClose (desk.IsStopped, desk.StoppedBy None) ((desk.Looks, desk.Seen look) ∷ more) tt (All-cons NotClose (desk.Looks, desk.Seen look) more tt none)

stop_close_none : (refused : EndErr) → All NotClose ((stop_for refused, desk.Done) ∷ [])
stop_close_none (ended.Before fault) = one_close_none (desk.Stop fault, desk.Done) tt
stop_close_none (ended.Unsure fault) = one_close_none (desk.Unsure fault, desk.Done) tt

-- nor do the driver's other acts
abbrev IsNoClose : Act → Type 0
IsNoClose (Closes look batches writes) = ⊥
IsNoClose _ = Unit {0}

pub act_closes_none : (beat : BeatKind) (act : Act) → IsAllowed beat act → IsNoClose act → All NotClose (desk_calls act)
act_closes_none beat (Says client steps) allowed other = own_close_none client steps allowed
act_closes_none beat (Halts fault) allowed other = one_close_none (desk.IsStopped, desk.StoppedBy (Some fault)) tt
act_closes_none beat (Rests look) allowed other = look_close_none look [] (All-nil NotClose)
act_closes_none beat (Takes look keys) allowed other = look_close_none look ((desk.TakeBatch, desk.Batch keys) ∷ []) (one_close_none (desk.TakeBatch, desk.Batch keys) tt)
act_closes_none beat (Delivers batch) allowed other = one_close_none (desk.Deliver batch.keys batch.values, desk.Done) tt
act_closes_none beat (DeliverFails keys fault) allowed other = one_close_none (desk.Stop fault, desk.Done) tt
act_closes_none beat (FetchFails look batches keys fault) allowed other = look_close_none look (rest_calls batches ++ (desk.TakeBatch, desk.Batch keys) ∷ (desk.Stop fault, desk.Done) ∷ [])
    (batches_close_none batches ((desk.TakeBatch, desk.Batch keys) ∷ (desk.Stop fault, desk.Done) ∷ []) (All-cons NotClose (desk.TakeBatch, desk.Batch keys) ((desk.Stop fault, desk.Done) ∷ []) tt (one_close_none (desk.Stop fault, desk.Done) tt)))
act_closes_none beat (RestUnwatched look batches) allowed other = look_close_none look (rest_calls batches ++ (desk.Stop SinkFault, desk.Done) ∷ []) (batches_close_none batches ((desk.Stop SinkFault, desk.Done) ∷ []) (one_close_none (desk.Stop SinkFault, desk.Done) tt))
act_closes_none beat (Closes look batches writes) allowed other = absurd other
act_closes_none beat (Publishes writes left told) allowed other = one_close_none (desk.Publish (suc told.epoch) left, desk.Published told) tt
act_closes_none beat (Refuses writes refused) allowed other = stop_close_none refused
act_closes_none beat Unprinted allowed other = one_close_none (desk.Stop SinkFault, desk.Done) tt
act_closes_none beat Unwatched allowed other = one_close_none (desk.Stop SinkFault, desk.Done) tt

-- ---- in flight is nothing at a look that leads to a close

abbrev pub flying : DeskState → List ℕ
flying d = d.running.order.flying

pub none_flies : (d : DeskState) (batches : List Batch) (b : DeskState) → Leads d (rest_calls batches) b → flying b ≡ [] → flying d ≡ []
none_flies d [] b run none = ap flying (sym run) ∙ none
none_flies d (batch ∷ batches) b (mid, may, took, rest) none = may.2

-- ---- the driver's calls

-- a look changes nothing
pub record Looked (d new : DeskState) (look : Look) : Type 0 where
  pub same : new ≡ d
  pub not_stopped : d.stop ≡ None
  pub none_closed : d.closed ≡ None
  pub look_is : look ≡ look_at d

pub looked : (d : DeskState) (look : Look) (new : DeskState) → Leads d (look_calls look) new → Looked d new look
looked d look new (a, may, told, (b, free, seen, is)) = record {
  same = is ∙ seen.1 ∙ told.1;
  not_stopped = sym told.0;
  none_closed = subst (λ (x : DeskState). x.closed ≡ None) told.1 free;
  look_is = seen.0 ∙ ap look_at told.1;
}

pub of_batches : (batches : List Batch) → All IsOfBatch (rest_calls batches)
of_batches [] = All-nil IsOfBatch
of_batches (batch ∷ batches) = All-append IsOfBatch (batch_calls batch) (rest_calls batches) (both batch) (of_batches batches)
  where
    both : (batch : Batch) → All IsOfBatch (batch_calls batch)
    both batch = All-cons IsOfBatch (desk.TakeBatch, desk.Batch batch.keys) ((desk.Deliver batch.keys batch.values, desk.Done) ∷ []) tt (All-cons IsOfBatch (desk.Deliver batch.keys batch.values, desk.Done) [] tt (All-nil IsOfBatch))

-- ---- the record of a part in which nobody was aborted for the epoch's end

abbrev pub NotEnded : TxnRecord ℕ → Type 0
NotEnded t = t.outcome ≡ AbortedBy EpochEnd → ⊥

outcome_ended : (why : Option (Why ℕ)) → unwrap_or (option_map AbortedBy why) Committed ≡ AbortedBy EpochEnd → why ≡ Some EpochEnd
outcome_ended None e = absurd (cc e)
outcome_ended (Some why) e = ap Some (cc e)

pub none_ended : (epoch t : ℕ) (ws : List Work) (hs : List Holder) → ((n : ℕ) → desk.why_in ws hs (suc n) ≡ Some EpochEnd → ⊥) → All NotEnded (desk.txns_from epoch t ws hs)
none_ended epoch t [] hs none = All-nil NotEnded
none_ended epoch t (w ∷ ws) [] none = All-nil NotEnded
none_ended epoch t (w ∷ ws) (h ∷ hs) none = All-cons NotEnded _ _ (λ e. none 0 (outcome_ended (desk.why_of w.fate h.cause) e)) (none_ended epoch (suc t) ws hs (λ n. none (suc n)))
