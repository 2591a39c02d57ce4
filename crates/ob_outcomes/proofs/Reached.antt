-- What every call of the desk keeps, as far as the end of an epoch goes.
use Rattle.std.proofs.Common.{◌≡◌, ℕ, ◌+◌, ◌<◌, Bool, true, false, if◌then◌else◌, List, [], ◌∷◌, ◌++◌, length, map, Some, refl, sym, ap, ◌∙◌, subst, inl, inr, arith, length-append}
use Rattle.std.specs.Option.{option_or}
use Rattle.std.proofs.lemmas.Bool.{false≢true}
use Rattle.std.proofs.lemmas.List.{length-map}
use Rattle.std.proofs.lemmas.Option.{none-some, same_Some}
use Rattle.ob_base.specs.declared.fault.Fault.{Fault}
use Rattle.ob_base.specs.declared.op.Op.{Op}
use Rattle.ob_serial.specs.declared.records.Why.{Why}
use Rattle.ob_serial.specs.declared.records.Why.TheVariants.{Asked}
use Rattle.ob_serial.specs.declared.records.Outcome.TheVariants.{Committed}
use Rattle.ob_order.specs.Works.{stop_work, wait_for, add_op, with_op, aborted, Get}
use Rattle.ob_order.specs.Order.{fresh, after_begin, after_queued, after_take, after_deliver, write_op}
use Rattle.ob_order.proofs.Edits.{length-edit}
use Rattle.ob_order.proofs.Falls.{goes_on-edit, fallen_aborted, length-aborted}
use Rattle.ob_shares.specs.Shares.{Uses}
use Rattle.ob_desk.specs.declared.calls.Txn.{Txn}
use Rattle.ob_desk.specs.Desk.{Part, DeskState, Setup, new_desk, is_memory, stop_closed, stopped_by, end_of, closing, stop_part, stop_holder, with_order, with_holder, on_client, begin_client}
use Rattle.ob_desk.specs.Desk.{note_cause, note_asked, new_holder, Call, Begin, GetKey, Poll, Write, Commit, Abort, Settled, Looks, SignOff, Stop, Unsure, IsStopped, TakeBatch, Deliver, Close, Publish}
use Rattle.ob_desk.specs.Desk.{Reply, Begun, Refused, Value, Waits, Aborted, Done, IsSettled, Seen, StoppedBy, Batch, Writes, Published, DeskStep, MayCall}
use Rattle.ob_desk.proofs.Ends.{closing-epoch}
use Rattle.ob_session.specs.Steps.{Leads}
use Rattle.ob_outcomes.proofs.Awaited.{Awaited, Fits, awaited_new, fits_new, awaited_works, none_waits_op, none_waits_aborted, none_waits_begun, none_waits_stopped, awaited_queued, fits_queued, fits_taken, awaited_taken, awaited_delivered}
use Rattle.ob_outcomes.proofs.Held.{Held, held_fewer, fewer_works, fewer_edit, none_goes_on, held_none, none_in_new, held_begun, held_signed_off, held_settled}

pub record Kept (d : DeskState) : Type 0 where
  pub fits : Fits d.setup.params.places d.running.order
  pub awaited : Awaited d.running.order
  pub even : length d.running.holders ≡ length d.running.order.works
  pub held : Held d.clients d.running
  pub below : (part : Part) → d.closed ≡ Some part → part.epoch < d.running.epoch

pub kept_new : (setup : Setup) (epoch left : ℕ) (clients : List ℕ) → Kept (new_desk setup epoch left clients)
kept_new setup epoch left clients = record {
  fits = fits_new setup.params.places left;
  awaited = awaited_new left;
  even = refl;
  held = held_none _ _ none_in_new;
  below = λ part is. absurd (none-some part is);
}

same : (d new : DeskState) → new ≡ d → Kept d → Kept new
same d new e h = subst Kept (sym e) h

-- only the running part changed
in_running : (d new : DeskState) (part : Part) → new ≡ record d { running = part } → part.epoch ≡ d.running.epoch → Fits d.setup.params.places part.order → Awaited part.order
    → length part.holders ≡ length part.order.works → Held d.clients part → Kept d → Kept new
in_running d new part e epoch fits awaited even held h = subst Kept (sym e) (record {
  fits = fits;
  awaited = awaited;
  even = even;
  held = held;
  below = λ c is. subst (λ q. c.epoch < q) (sym epoch) (h.below c is);
})

-- an answered operation more
grown : {u : Uses} (d new : DeskState) (t : ℕ) (o : Op ℕ) → new ≡ record d { running = record (with_order d.running (record d.running.order { works = with_op d.running.order.works t o })) { uses = u } } → Kept d → Kept new
grown d new t o e h = in_running d new _ e refl
    (record { few = h.fits.few })
    (awaited_works d.running.order (with_op d.running.order.works t o) (none_waits_op d.running.order.works t o) h.awaited)
    (h.even ∙ sym (length-edit (add_op o) d.running.order.works t))
    (held_fewer d.clients d.running _ (fewer_works d.running _ refl refl (λ u going. sym (goes_on-edit (add_op o) d.running.order.works t u (λ w. refl)) ∙ going)) h.held)
    h

queued : {u : Uses} (d new : DeskState) (t k : ℕ) → new ≡ record d { running = record (with_order d.running (after_queued d.running.order t k)) { uses = u } } → Fits d.setup.params.places (after_queued d.running.order t k) → Kept d → Kept new
queued d new t k e fits h = in_running d new _ e refl
    fits
    (awaited_queued d.running.order t k h.awaited)
    (h.even ∙ sym (length-edit (wait_for k) d.running.order.works t))
    (held_fewer d.clients d.running _ (fewer_works d.running _ refl refl (λ u going. sym (goes_on-edit (wait_for k) d.running.order.works t u (λ w. refl)) ∙ going)) h.held)
    h

ended : {u : Uses} (d new : DeskState) (t : ℕ) (why : Why ℕ) → new ≡ record d { running = record (end_of d.running t why) { uses = u } } → Kept d → Kept new
ended d new t why e h = in_running d new _ e refl
    (record { few = h.fits.few })
    (awaited_works d.running.order (aborted d.running.order.works t) (none_waits_aborted d.running.order.works t) h.awaited)
    (length-edit (note_cause why) d.running.holders t ∙ (h.even ∙ sym (length-aborted d.running.order.works t)))
    (held_fewer d.clients d.running _ (fewer_edit (note_cause why) d.running _ t refl refl (λ x. refl) (λ x q. q) (λ u going. (fallen_aborted d.running.order.works t).went_on u going)) h.held)
    h

-- what is left where all that go on were stopped
halted : (d new : DeskState) (f : Fault) → new.setup ≡ d.setup → new.running ≡ stop_part f d.running → ((part : Part) → new.closed ≡ Some part → d.closed ≡ Some part) → Kept d → Kept new
halted d new f setup running closed h = record {
  fits = fits_there setup running (record { few = h.fits.few });
  awaited = subst (λ (p : Part). Awaited p.order) (sym running) (awaited_works d.running.order (map stop_work d.running.order.works) (none_waits_stopped d.running.order.works) h.awaited);
  even = subst (λ (p : Part). length p.holders ≡ length p.order.works) (sym running) (length-map d.running.holders (stop_holder f) ∙ (h.even ∙ sym (length-map d.running.order.works stop_work)));
  held = subst (λ (p : Part). Held new.clients p) (sym running) (held_none new.clients (stop_part f d.running) (none_goes_on d.running.order.works));
  below = λ c is. subst (λ (p : Part). c.epoch < p.epoch) (sym running) (h.below c (closed c is));
}
  where
    fits_there : new.setup ≡ d.setup → new.running ≡ stop_part f d.running → Fits d.setup.params.places (stop_part f d.running).order → Fits new.setup.params.places new.running.order
    fits_there s r fits = subst (λ (q : Setup). Fits q.params.places new.running.order) (sym s) (subst (λ (p : Part). Fits d.setup.params.places p.order) (sym r) fits)

stopped : (d : DeskState) (f : Fault) → Kept d → Kept (stopped_by f d)
stopped d f h = step (is_memory f)
  where
    step : (b : Bool) → Kept (if b then record d { stop = option_or d.stop (Some f); running = stop_part f d.running } else stop_closed f (record d { stop = option_or d.stop (Some f); running = stop_part f d.running }))
    step true = halted d _ f refl refl (λ c is. is) h
    step false = halted d _ f refl refl (λ c is. absurd (none-some c is)) h

-- a desk where this transaction of the client has begun
abbrev begun : DeskState → ℕ → Txn → DeskState
begun d client x = record d {
  running = record d.running { order = after_begin d.running.order; holders = d.running.holders ++ new_holder client ∷ [] };
  clients = on_client (begin_client x) d.clients client;
}

no_longer : true ≡ false → ⊥
no_longer e = false≢true (sym e)

pub kept_step : (d : DeskState) (call : Call) (reply : Reply) (new : DeskState) → MayCall d call → DeskStep d call reply new → Kept d → Kept new
kept_step d (Begin client) (Begun x) new may step h = subst Kept (sym step.state) (subst (λ (q : Txn). Kept (begun d client q)) (sym step.next) (record {
  fits = record { few = h.fits.few };
  awaited = awaited_works d.running.order (d.running.order.works ++ fresh ∷ []) (none_waits_begun d.running.order.works) h.awaited;
  even = length-append d.running.holders (new_holder client ∷ []) ∙ (ap (λ q. q + 1) h.even ∙ sym (length-append d.running.order.works (fresh ∷ [])));
  held = held_begun d client may h.even h.held;
  below = h.below;
}))
kept_step d (Begin client) (Refused f) new may step h = same d new step.same h
kept_step d (GetKey x k) (Value value) new may step h = grown d new x.ticket (Get k value step.source) step.state h
kept_step d (GetKey x k) Waits new may step h = queued d new x.ticket k step.state (fits_queued d.setup.params d.running.order x.ticket k step.reply h.fits) h
kept_step d (GetKey x k) (Aborted why) new may (inl step) h = same d new step.same h
kept_step d (GetKey x k) (Aborted why) new may (inr (inl step)) h = ended d new x.ticket why step.state h
kept_step d (GetKey x k) (Aborted why) new may (inr (inr step)) h = ended d new x.ticket why step.state h
kept_step d (Poll x) (Value value) new may step h = grown d new x.ticket (Get step.key value step.source) step.state h
kept_step d (Poll x) Waits new may step h = same d new step.same h
kept_step d (Poll x) (Aborted why) new may step h = same d new step.same h
kept_step d (Write x k value) Done new may step h = grown d new x.ticket (write_op k value) step.state h
kept_step d (Write x k value) (Aborted why) new may (inl step) h = same d new step.same h
kept_step d (Write x k value) (Aborted why) new may (inr (inl step)) h = ended d new x.ticket why step.state h
kept_step d (Write x k value) (Aborted why) new may (inr (inr step)) h = ended d new x.ticket why step.state h
kept_step d (Commit x) Done new may step h = in_running d new (with_holder note_asked d.running x.ticket) step.state refl h.fits h.awaited
    (length-edit note_asked d.running.holders x.ticket ∙ h.even)
    (held_fewer d.clients d.running _ (fewer_edit note_asked d.running _ x.ticket refl refl (λ q. refl) (λ q e. absurd (no_longer e)) (λ u going. going)) h.held)
    h
kept_step d (Commit x) (Aborted why) new may step h = same d new step.same h
kept_step d (Abort x) (Aborted why) new may (inl step) h = same d new step.same h
kept_step d (Abort x) (Aborted why) new may (inr step) h = ended d new x.ticket Asked step.state h
kept_step d (Settled x) (IsSettled outcome) new may step h = same d new step.1 h
kept_step d Looks (Seen look) new may step h = same d new step.1 h
kept_step d (SignOff client) Done new may step h = subst Kept (sym step.state) (record { fits = h.fits; awaited = h.awaited; even = h.even; held = held_signed_off d client may h.held; below = h.below })
kept_step d (Stop f) Done new may step h = subst Kept (sym step.state) (stopped d f h)
kept_step d (Unsure f) Done new may step h = subst Kept (sym step.state) (halted d _ f refl refl (λ c is. absurd (none-some c is)) h)
kept_step d IsStopped (StoppedBy fault) new may step h = same d new step.1 h
kept_step d TakeBatch (Batch keys) new may step h = in_running d new (with_order d.running (after_take d.setup.params d.running.order)) step.state refl
    (fits_taken d.setup.params d.running.order may.1 h.fits)
    (awaited_taken d.setup.params d.running.order may.2 h.awaited)
    h.even
    (held_fewer d.clients d.running _ (fewer_works d.running _ refl refl (λ u going. going)) h.held)
    h
kept_step d (Deliver keys values) Done new may step h = in_running d new (with_order d.running (after_deliver d.running.order keys values)) step.state refl
    (record { few = h.fits.few })
    (awaited_delivered d.setup.params.places d.running.order keys values may.1 may.2 h.awaited)
    h.even
    (held_fewer d.clients d.running _ (fewer_works d.running _ refl refl (λ u going. going)) h.held)
    h
kept_step d Close (Writes writes) new may step h = subst Kept (sym step.state) (record {
  fits = fits_new d.setup.params.places d.setup.params.batches;
  awaited = awaited_new d.setup.params.batches;
  even = refl;
  held = held_none _ _ none_in_new;
  below = λ c is. let e = ap (λ (p : Part). p.epoch) (sym (same_Some (closing d.running) c is)) ∙ closing-epoch d.running in omega (arith, e);
})
kept_step d (Publish epoch left) (Published told) new may step h = subst Kept (sym step.state) (record {
  fits = h.fits;
  awaited = h.awaited;
  even = h.even;
  held = held_settled d.clients d.running step.part Committed (h.below step.part step.is_closed) h.held;
  below = λ c is. absurd (none-some c is);
})
kept_step d _ _ new may step h = absurd step

pub kept_leads : (d : DeskState) (steps : List (Call × Reply)) (new : DeskState) → Leads d steps new → Kept d → Kept new
kept_leads d [] new run h = subst Kept (sym run) h
kept_leads d (step ∷ steps) new run h = kept_leads run.0 steps new run.3 (kept_step d step.0 step.1 run.0 run.1 run.2 h)

-- whatever calls were made of a new desk
pub kept_always : (setup : Setup) (epoch left : ℕ) (clients : List ℕ) (steps : List (Call × Reply)) (d : DeskState) → Leads (new_desk setup epoch left clients) steps d → Kept d
kept_always setup epoch left clients steps d run = kept_leads (new_desk setup epoch left clients) steps d run (kept_new setup epoch left clients)
