-- In a running epoch nobody is aborted for the epoch's end.
use Rattle.std.proofs.Common.{◌≡◌, ℕ, zero, suc, Bool, true, false, if◌then◌else◌, List, [], ◌∷◌, ◌++◌, map, All, Option, None, Some, option_map, option_and_then, unwrap_or, slice_get, refl, sym, ap, ◌∙◌, subst, inl, inr, ◌⊎◌, ⊎_elim}
use Rattle.std.specs.Option.{option_or}
use Rattle.std.proofs.lemmas.Bool.{cases_eq}
use Rattle.std.proofs.lemmas.List.Elements.{All-nil, All-cons, All-append}
use Rattle.std.proofs.lemmas.Option.{none-some, same_Some}
use Rattle.ob_base.specs.declared.fault.Fault.{Fault}
use Rattle.ob_serial.specs.declared.records.Why.{Why}
use Rattle.ob_serial.specs.declared.records.Why.TheVariants.{Conflict, Depends, ReadsFull, WritesFull, ShareReads, ShareWrites, EpochEnd, Asked, Stopped}
use Rattle.ob_serial.specs.declared.records.Outcome.TheVariants.{Committed, Aborted as AbortedBy}
use Rattle.ob_serial.specs.Serial.{EpochRecord}
use Rattle.ob_order.specs.declared.fate.Fate.{Fate}
use Rattle.ob_order.specs.declared.fate.Fate.TheVariants.{Going, Ended, Fell}
use Rattle.ob_order.specs.declared.answers.Wrote.{Wrote}
use Rattle.ob_order.specs.declared.answers.Wrote.TheVariants.{Yes, Conflict as Conflicts, Full as WritesAreFull}
use Rattle.ob_order.specs.Works.{at_ticket, edit, fate_at}
use Rattle.ob_order.specs.Order.{write_reply}
use Rattle.ob_order.proofs.Edits.{at_edit_same, at_edit_other, slice_get-push}
use Rattle.ob_desk.specs.declared.clients.Holder.{Holder}
use Rattle.ob_desk.specs.Desk.{Part, DeskState, new_desk, closing, record_of, records_told, published, is_memory, stop_closed, stop_part, stop_holder, new_holder, note_asked, note_cause, why_of}
use Rattle.ob_desk.specs.Desk.{cause_at, why_refused, Call, Begin, GetKey, Poll, Write, Commit, Abort, Settled, Looks, SignOff, Stop, Unsure, IsStopped, TakeBatch, Deliver, Close, Publish, Reply, Begun}
use Rattle.ob_desk.specs.Desk.{Refused, Value, Waits, Aborted, Done, IsSettled, Seen, StoppedBy, Batch, Writes, Published, DeskStep}
use Rattle.ob_session.specs.Steps.{Leads}
use Rattle.ob_outcomes.specs.Ends.{NoneEndedYet, CloseIsDue, ClosesAreDue, DueClosesEndNone}
use Rattle.ob_outcomes.proofs.Closed.{asked_outlast_close}
use Rattle.ob_outcomes.proofs.Records.{record_all, why_told}

-- none of these was aborted for the epoch's end
pub record Unended (hs : List Holder) : Type 0 where
  pub at_each : (t : ℕ) → cause_at hs t ≡ Some EpochEnd → ⊥

-- a change of a holder that doesn't note it
record Spares (f : Holder → Holder) : Type 0 where
  each : (h : Holder) → (f h).cause ≡ Some EpochEnd → h.cause ≡ Some EpochEnd

unended_map : (f : Holder → Holder) → Spares f → (o : Option Holder) → option_and_then (λ h. h.cause) (option_map f o) ≡ Some EpochEnd → option_and_then (λ h. h.cause) o ≡ Some EpochEnd
unended_map f spares None e = e
unended_map f spares (Some h) e = spares.each h e

unended_edit : (f : Holder → Holder) (hs : List Holder) (s : ℕ) → Spares f → Unended hs → Unended (edit f hs s)
unended_edit f hs s spares h = record {
  at_each = λ t e. ⊎_elim
      (λ same. h.at_each s (unended_map f spares (at_ticket hs s) (sym (ap (option_and_then (λ x. x.cause)) (at_edit_same f hs s)) ∙ subst (λ q. cause_at (edit f hs s) q ≡ Some EpochEnd) same e)))
      (λ other. h.at_each t (sym (ap (option_and_then (λ x. x.cause)) (at_edit_other f hs s t other)) ∙ e))
      (cases_eq t s);
}

unended_stopped : (f : Fault) (hs : List Holder) → Unended hs → Unended (map (stop_holder f) hs)
unended_stopped f hs h = record { at_each = at_each }
  where
    spared : (c : Option (Why ℕ)) → option_or c (Some (Stopped f)) ≡ Some EpochEnd → c ≡ Some EpochEnd
    spared None e = let q : Stopped f ≡ EpochEnd = same_Some _ _ e in absurd (cc)
    spared (Some c) e = e

    mapped : (gs : List Holder) (n : ℕ) → option_and_then (λ x. x.cause) (slice_get (map (stop_holder f) gs) n) ≡ Some EpochEnd → option_and_then (λ x. x.cause) (slice_get gs n) ≡ Some EpochEnd
    mapped [] n e = e
    mapped (g ∷ gs) zero e = spared g.cause e
    mapped (g ∷ gs) (suc n) e = mapped gs n e

    at_each : (t : ℕ) → cause_at (map (stop_holder f) hs) t ≡ Some EpochEnd → ⊥
    at_each zero e = none-some EpochEnd e
    at_each (suc n) e = h.at_each (suc n) (mapped hs n e)

unended_begun : (client : ℕ) (hs : List Holder) → Unended hs → Unended (hs ++ new_holder client ∷ [])
unended_begun client hs h = record { at_each = at_each }
  where
    at_each : (t : ℕ) → cause_at (hs ++ new_holder client ∷ []) t ≡ Some EpochEnd → ⊥
    at_each zero e = none-some EpochEnd e
    at_each (suc n) e = ⊎_elim
        (λ old. h.at_each (suc n) (sym (ap (option_and_then (λ x. x.cause)) old) ∙ e))
        (λ last. none-some EpochEnd (sym (ap (option_and_then (λ x. x.cause)) last.2) ∙ e))
        (slice_get-push hs (new_holder client) n)

unended_new : Unended []
unended_new = record { at_each = at_each }
  where
    at_each : (t : ℕ) → cause_at [] t ≡ Some EpochEnd → ⊥
    at_each zero e = none-some EpochEnd e
    at_each (suc n) e = none-some EpochEnd e

-- a cause that isn't the epoch's end
spares_note : (why : Why ℕ) → (why ≡ EpochEnd → ⊥) → Spares (note_cause why)
spares_note why other = record { each = λ h e. absurd (other (same_Some why EpochEnd e)) }

not_full : (queued left : ℕ) (why : Why ℕ) → why ≡ ReadsFull queued left → why ≡ EpochEnd → ⊥
not_full queued left why e f = let q : ReadsFull queued left ≡ EpochEnd = sym e ∙ f in cc

not_past_reads : (keys : ℕ) (why : Why ℕ) → why ≡ ShareReads keys → why ≡ EpochEnd → ⊥
not_past_reads keys why e f = let q : ShareReads keys ≡ EpochEnd = sym e ∙ f in cc

not_past_writes : (keys : ℕ) (why : Why ℕ) → why ≡ ShareWrites keys → why ≡ EpochEnd → ⊥
not_past_writes keys why e f = let q : ShareWrites keys ≡ EpochEnd = sym e ∙ f in cc

not_refused : (w : Wrote) (why : Why ℕ) → why_refused w ≡ Some why → why ≡ EpochEnd → ⊥
not_refused Yes why e f = none-some why e
not_refused (Conflicts key reader) why e f = let q : Conflict key reader ≡ EpochEnd = same_Some _ _ e ∙ f in cc
not_refused (WritesAreFull keys) why e f = let q : WritesFull keys ≡ EpochEnd = same_Some _ _ e ∙ f in cc

abbrev InDesk : DeskState → Type 0
InDesk d = Unended d.running.holders

-- the running part's holders are these
holds : (d new made : DeskState) → new ≡ made → InDesk made → InDesk new
holds d new made e h = subst InDesk (sym e) h

unended_step : (d : DeskState) (call : Call) (reply : Reply) (new : DeskState) → DeskStep d call reply new → InDesk d → InDesk new
unended_step d (Begin client) (Begun x) new step h = holds d new _ step.state (unended_begun client d.running.holders h)
unended_step d (Begin client) (Refused f) new step h = holds d new d step.same h
unended_step d (GetKey x k) (Value value) new step h = holds d new _ step.state h
unended_step d (GetKey x k) Waits new step h = holds d new _ step.state h
unended_step d (GetKey x k) (Aborted why) new (inl step) h = holds d new d step.same h
unended_step d (GetKey x k) (Aborted why) new (inr (inl step)) h = holds d new _ step.state (unended_edit (note_cause why) d.running.holders x.ticket (spares_note why (not_full step.queued step.left why step.cause)) h)
unended_step d (GetKey x k) (Aborted why) new (inr (inr step)) h = holds d new _ step.state (unended_edit (note_cause why) d.running.holders x.ticket (spares_note why (not_past_reads step.keys why step.cause)) h)
unended_step d (Poll x) (Value value) new step h = holds d new _ step.state h
unended_step d (Poll x) Waits new step h = holds d new d step.same h
unended_step d (Poll x) (Aborted why) new step h = holds d new d step.same h
unended_step d (Write x k value) Done new step h = holds d new _ step.state h
unended_step d (Write x k value) (Aborted why) new (inl step) h = holds d new d step.same h
unended_step d (Write x k value) (Aborted why) new (inr (inl step)) h = holds d new _ step.state (unended_edit (note_cause why) d.running.holders x.ticket (spares_note why (not_refused (write_reply d.setup.params d.running.order x.ticket k) why step.cause)) h)
unended_step d (Write x k value) (Aborted why) new (inr (inr step)) h = holds d new _ step.state (unended_edit (note_cause why) d.running.holders x.ticket (spares_note why (not_past_writes step.keys why step.cause)) h)
unended_step d (Commit x) Done new step h = holds d new _ step.state (unended_edit note_asked d.running.holders x.ticket (record { each = λ q e. e }) h)
unended_step d (Commit x) (Aborted why) new step h = holds d new d step.same h
unended_step d (Abort x) (Aborted why) new (inl step) h = holds d new d step.same h
unended_step d (Abort x) (Aborted why) new (inr step) h = holds d new _ step.state (unended_edit (note_cause Asked) d.running.holders x.ticket (spares_note Asked (λ e. let q : Asked ≡ EpochEnd = e in cc)) h)
unended_step d (Settled x) (IsSettled outcome) new step h = holds d new d step.1 h
unended_step d Looks (Seen look) new step h = holds d new d step.1 h
unended_step d (SignOff client) Done new step h = holds d new _ step.state h
unended_step d (Stop f) Done new step h = holds d new _ step.state (by_fault (is_memory f))
  where
    by_fault : (b : Bool) → InDesk (if b then record d { stop = option_or d.stop (Some f); running = stop_part f d.running } else stop_closed f (record d { stop = option_or d.stop (Some f); running = stop_part f d.running }))
    by_fault true = unended_stopped f d.running.holders h
    by_fault false = unended_stopped f d.running.holders h
unended_step d (Unsure f) Done new step h = holds d new _ step.state (unended_stopped f d.running.holders h)
unended_step d IsStopped (StoppedBy fault) new step h = holds d new d step.1 h
unended_step d TakeBatch (Batch keys) new step h = holds d new _ step.state h
unended_step d (Deliver keys values) Done new step h = holds d new _ step.state h
unended_step d Close (Writes writes) new step h = holds d new _ step.state unended_new
unended_step d (Publish epoch left) (Published told) new step h = holds d new _ step.state h
unended_step d _ _ new step h = absurd step

unended_leads : (d : DeskState) (steps : List (Call × Reply)) (new : DeskState) → Leads d steps new → InDesk d → InDesk new
unended_leads d [] new run h = subst InDesk (sym run) h
unended_leads d (step ∷ steps) new run h = unended_leads run.0 steps new run.3 (unended_step d step.0 step.1 run.0 run.2 h)

-- for the epoch's end is aborted only who has it noted
noted_end : (fate : Option Fate) (cause : Option (Why ℕ)) → option_and_then (λ f. why_of f cause) fate ≡ Some EpochEnd → cause ≡ Some EpochEnd
noted_end None cause e = absurd (none-some EpochEnd e)
noted_end (Some Going) cause e = absurd (none-some EpochEnd e)
noted_end (Some Ended) None e = let q : Asked ≡ EpochEnd = same_Some _ _ e in absurd (cc)
noted_end (Some Ended) (Some c) e = e
noted_end (Some (Fell on)) cause e = let q : Depends on ≡ EpochEnd = same_Some _ _ e in absurd (cc)

pub none_ended_yet : NoneEndedYet
none_ended_yet setup epoch left clients steps d may run t e =
    (unended_leads (new_desk setup epoch left clients) steps d run unended_new).at_each t (noted_end (fate_at d.running.order.works t) (cause_at d.running.holders t) e)

-- ---- where all have asked at each close

-- the running part's and the closed one's
record InBoth (d : DeskState) : Type 0 where
  running : Unended d.running.holders
  closed : (part : Part) → d.closed ≡ Some part → Unended part.holders

-- what is closed after a call: what was closed, or nothing, or all that ran
record ClosesUnended (d new : DeskState) : Type 0 where
  closed : (part : Part) → new.closed ≡ Some part → (d.closed ≡ Some part) ⊎ (part ≡ d.running)

kept_closed : (d new made : DeskState) → new ≡ made → made.closed ≡ d.closed → ClosesUnended d new
kept_closed d new made e same = record { closed = λ part is. inl (sym same ∙ (sym (ap (λ (n : DeskState). n.closed) e) ∙ is)) }

none_closed : (d new made : DeskState) → new ≡ made → made.closed ≡ None → ClosesUnended d new
none_closed d new made e none = record { closed = λ part is. absurd (none-some part (sym none ∙ (sym (ap (λ (n : DeskState). n.closed) e) ∙ is))) }

closes_step : (d : DeskState) (call : Call) (reply : Reply) (new : DeskState) → DeskStep d call reply new → CloseIsDue d call → ClosesUnended d new
closes_step d (Begin client) (Begun x) new step due = kept_closed d new _ step.state refl
closes_step d (Begin client) (Refused f) new step due = kept_closed d new d step.same refl
closes_step d (GetKey x k) (Value value) new step due = kept_closed d new _ step.state refl
closes_step d (GetKey x k) Waits new step due = kept_closed d new _ step.state refl
closes_step d (GetKey x k) (Aborted why) new (inl step) due = kept_closed d new d step.same refl
closes_step d (GetKey x k) (Aborted why) new (inr (inl step)) due = kept_closed d new _ step.state refl
closes_step d (GetKey x k) (Aborted why) new (inr (inr step)) due = kept_closed d new _ step.state refl
closes_step d (Poll x) (Value value) new step due = kept_closed d new _ step.state refl
closes_step d (Poll x) Waits new step due = kept_closed d new d step.same refl
closes_step d (Poll x) (Aborted why) new step due = kept_closed d new d step.same refl
closes_step d (Write x k value) Done new step due = kept_closed d new _ step.state refl
closes_step d (Write x k value) (Aborted why) new (inl step) due = kept_closed d new d step.same refl
closes_step d (Write x k value) (Aborted why) new (inr (inl step)) due = kept_closed d new _ step.state refl
closes_step d (Write x k value) (Aborted why) new (inr (inr step)) due = kept_closed d new _ step.state refl
closes_step d (Commit x) Done new step due = kept_closed d new _ step.state refl
closes_step d (Commit x) (Aborted why) new step due = kept_closed d new d step.same refl
closes_step d (Abort x) (Aborted why) new (inl step) due = kept_closed d new d step.same refl
closes_step d (Abort x) (Aborted why) new (inr step) due = kept_closed d new _ step.state refl
closes_step d (Settled x) (IsSettled outcome) new step due = kept_closed d new d step.1 refl
closes_step d Looks (Seen look) new step due = kept_closed d new d step.1 refl
closes_step d (SignOff client) Done new step due = kept_closed d new _ step.state refl
closes_step d (Stop f) Done new step due = subst (ClosesUnended d) (sym step.state) (by_fault (is_memory f))
  where
    by_fault : (b : Bool) → ClosesUnended d (if b then record d { stop = option_or d.stop (Some f); running = stop_part f d.running } else stop_closed f (record d { stop = option_or d.stop (Some f); running = stop_part f d.running }))
    by_fault true = kept_closed d _ _ refl refl
    by_fault false = none_closed d _ _ refl refl
closes_step d (Unsure f) Done new step due = none_closed d new _ step.state refl
closes_step d IsStopped (StoppedBy fault) new step due = kept_closed d new d step.1 refl
closes_step d TakeBatch (Batch keys) new step due = kept_closed d new _ step.state refl
closes_step d (Deliver keys values) Done new step due = kept_closed d new _ step.state refl
closes_step d Close (Writes writes) new step due = record {
  closed = λ part is. inr (sym (same_Some (closing d.running) part (sym (ap (λ (n : DeskState). n.closed) step.state) ∙ is)) ∙ asked_outlast_close d.running due);
}
closes_step d (Publish epoch left) (Published told) new step due = none_closed d new _ step.state refl
closes_step d _ _ new step due = absurd step

both_step : (d : DeskState) (call : Call) (reply : Reply) (new : DeskState) → DeskStep d call reply new → CloseIsDue d call → InBoth d → InBoth new
both_step d call reply new step due h = record {
  running = unended_step d call reply new step h.running;
  closed = λ part is. ⊎_elim
      (λ old. h.closed part old)
      (λ ran. subst (λ (p : Part). Unended p.holders) (sym ran) h.running)
      ((closes_step d call reply new step due).closed part is);
}

-- the record of a part where none has it noted
abbrev NoneTold : EpochRecord ℕ → Type 0
NoneTold r = All (λ t. t.outcome ≡ AbortedBy EpochEnd → ⊥) r.txns

none_told : (part : Part) → Unended part.holders → NoneTold (record_of part)
none_told part h = record_all (λ t. t.outcome ≡ AbortedBy EpochEnd → ⊥) part (λ n w x at_work at_holder. by_why (why_of w.fate x.cause) (λ e.
    h.at_each (suc n) (noted_end (fate_at part.order.works (suc n)) (cause_at part.holders (suc n)) (why_told part n w x at_work at_holder ∙ e))))
  where
    by_why : (o : Option (Why ℕ)) → (o ≡ Some EpochEnd → ⊥) → unwrap_or (option_map AbortedBy o) Committed ≡ AbortedBy EpochEnd → ⊥
    by_why None other e = cc
    by_why (Some why) other e = other (ap Some (let q : why ≡ EpochEnd = cc in q))

told_step : (d : DeskState) (call : Call) (reply : Reply) (new : DeskState) → DeskStep d call reply new → InBoth d → All NoneTold (records_told reply)
told_step d (Publish epoch left) (Published told) new step h = All-cons NoneTold told [] (subst NoneTold (sym step.record_is) (none_told step.part (h.closed step.part step.is_closed))) (All-nil NoneTold)
told_step d (Publish epoch left) _ new step h = absurd step
told_step d _ (Published told) new step h = absurd step
told_step d _ _ new step h = All-nil NoneTold

none_ends : (d : DeskState) (steps : List (Call × Reply)) (new : DeskState) (run : Leads d steps new) → ClosesAreDue d steps new run → InBoth d → All NoneTold (published steps)
none_ends d [] new run due h = All-nil NoneTold
none_ends d (step ∷ steps) new run due h = All-append NoneTold (records_told step.1) (published steps)
    (told_step d step.0 step.1 run.0 run.2 h)
    (none_ends run.0 steps new run.3 due.1 (both_step d step.0 step.1 run.0 run.2 due.0 h))

pub due_closes_end_none : DueClosesEndNone
due_closes_end_none setup epoch left clients steps d run may due = none_ends (new_desk setup epoch left clients) steps d run due (record { running = unended_new; closed = λ part is. absurd (none-some part is) })
