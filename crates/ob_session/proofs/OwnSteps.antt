-- What a client's own calls leave of the tie to it.
use Rattle.std.proofs.Common.{◌≡◌, ℕ, Bool, true, List, Option, None, Some, option_and_then, unwrap_or, refl, sym, ap, ◌∙◌, subst, inl, inr, eqb-true}
use Rattle.std.proofs.lemmas.Bool.{false≢true}
use Rattle.ob_base.specs.declared.op.Op.TheVariants.{Get}
use Rattle.ob_serial.specs.declared.records.Why.{Why}
use Rattle.ob_serial.specs.declared.records.Outcome.{Outcome}
use Rattle.ob_serial.specs.declared.records.Outcome.TheVariants.{Aborted as AbortedBy}
use Rattle.ob_serial.specs.Serial.{TxnRecord}
use Rattle.ob_order.specs.Works.{Work, at_ticket, edit, add_op, wait_for}
use Rattle.ob_order.specs.Order.{OrderState, after_read, after_again, after_write, write_op}
use Rattle.ob_order.specs.declared.answers.Read.TheVariants.{Value as Found, Queued}
use Rattle.ob_order.specs.declared.answers.Wrote.TheVariants.{Yes}
use Rattle.ob_shares.specs.Shares.{Uses}
use Rattle.ob_desk.specs.declared.calls.Txn.{Txn}
use Rattle.ob_desk.specs.declared.clients.Holder.{Holder}
use Rattle.ob_desk.specs.Desk.{DeskState, Call, Begin, GetKey, Poll, Write, Commit, Abort, Settled, Looks, SignOff, Stop, Unsure, IsStopped, TakeBatch, Deliver, Close, Publish, Reply, Begun, Refused}
use Rattle.ob_desk.specs.Desk.{Value, Waits, Aborted, Done, IsSettled, Seen, StoppedBy, Batch, Writes, Published, DeskStep, MayCall, IsLast, IsLive, waiting_at, outcome_at, note_asked, end_of, GetStep}
use Rattle.ob_desk.specs.Desk.{QueuedStep, PollStep, StillQueuedStep, WriteStep, CommitStep}
use Rattle.ob_session.specs.Clients.{Told, is_of, answered, over, told_next, on_last, told_after}
use Rattle.ob_session.proofs.Lasts.{on_last-same}
use Rattle.ob_session.proofs.Fits.{Fits, fits_answered, fits_waits, fits_still, fits_asked, unsourced_write}
use Rattle.ob_session.proofs.Parts.{edit_same}
use Rattle.ob_session.proofs.State.{Mirror}
use Rattle.ob_session.proofs.Changes.{same, RunsAs, live_runs, own_edited, own_ended, over_told}
use Rattle.ob_session.proofs.Begins.{begun_own, signed_own}
use Rattle.ob_session.proofs.Tellings.{more_txns}

-- whether the client has signed off behind its call
abbrev pub signs : Bool → Call → Bool
signs signed (SignOff client) = true
signs signed _ = signed

-- nothing was told
unmoved : (d new : DeskState) (n : ℕ) (txns : List (TxnRecord ℕ)) (told : List Told) (signed : Bool) (k : Told → Told) → ((t : Told) → k t ≡ t) → new ≡ d → Mirror d n txns told signed → Mirror new n txns (on_last k told) signed
unmoved d new n txns told signed k nothing e m = subst (λ (ts : List Told). Mirror new n txns ts signed) (sym (on_last-same k told nothing)) (same d new n txns told signed e m)

-- it was aborted before, and is told so
was_aborted : (d new : DeskState) (n : ℕ) (txns : List (TxnRecord ℕ)) (told : List Told) (signed : Bool) (x : Txn) (o : Outcome ℕ) → x.client ≡ n → IsLast d x → outcome_at d x ≡ Some o → new ≡ d → Mirror d n txns told signed
    → Mirror new n txns (on_last (over o) told) signed
was_aborted d new n txns told signed x o named h is e m = same d new n txns (on_last (over o) told) signed e (over_told d n txns told signed x o m named is h)

-- its work alone changes
worked : {u : Uses} (d new : DeskState) (n : ℕ) (txns : List (TxnRecord ℕ)) (told : List Told) (signed : Bool) (x : Txn) (f : Work → Work) (k : Told → Told) (o : OrderState) (m : Mirror d n txns told signed) → RunsAs x m.client m.running
    → ((one : Told) → (k one).txn ≡ one.txn)
    → ((w : Work) (h : Holder) (one : Told) → at_ticket d.running.order.works x.ticket ≡ Some w → Fits n d.running.epoch x.ticket w h one → Fits n d.running.epoch x.ticket (f w) h (k one))
    → o.works ≡ edit f d.running.order.works x.ticket → new ≡ record d { running = record d.running { order = o; uses = u } } → Mirror new n txns (on_last k told) signed
worked d new n txns told signed x f k o m r name_kept fit works_are e =
    own_edited d new n txns told signed x f (λ h. h) k o d.running.holders m r (λ h. refl) name_kept (λ w h one at_work at_holder fits. fit w h one at_work fits) works_are (sym (edit_same d.running.holders x.ticket)) e

module _ (d : DeskState) (n : ℕ) (txns : List (TxnRecord ℕ)) (told : List Told) (signed : Bool) (new : DeskState) (x : Txn) (m : Mirror d n txns told signed) (named : x.client ≡ n) (h : IsLast d x) where
  got_value : (k : ℕ) (value : Option (List ℕ)) → GetStep d x k value new → Mirror new n txns (on_last (answered (Get k value 0)) told) signed
  got_value k value step = worked d new n txns told signed x (add_op (Get k value step.source)) (answered (Get k value 0)) (after_read d.running.order x.ticket k (Found value step.source)) m
      (live_runs d n txns told signed x m h named step.live) (λ one. refl)
      (λ w q one at_work fits. fits_answered n d.running.epoch x.ticket w q one (Get k value step.source) (Get k value 0) refl fits) refl step.state

  queued : (k : ℕ) → QueuedStep d x k new → Mirror new n txns (on_last (λ t. record t { waiting = Some k }) told) signed
  queued k step = worked d new n txns told signed x (wait_for k) (λ t. record t { waiting = Some k }) (after_read d.running.order x.ticket k Queued) m
      (live_runs d n txns told signed x m h named step.live) (λ one. refl) (λ w q one at_work fits. fits_waits n d.running.epoch x.ticket w q one k fits) refl step.state

  -- the key that it waits for is the one that it was told to wait for
  waits_for : (w : Work) (q : Holder) (one : Told) (key : ℕ) → at_ticket d.running.order.works x.ticket ≡ Some w → waiting_at d.running x.ticket ≡ Some key → Fits n d.running.epoch x.ticket w q one → one.waiting ≡ Some key
  waits_for w q one key at_work is fits = sym fits.waiting ∙ (sym (ap (option_and_then (λ v. v.waiting)) at_work) ∙ is)

  polled : (value : Option (List ℕ)) → PollStep d x value new → Mirror new n txns (on_last (λ t. answered (Get (unwrap_or t.waiting 0) value 0) t) told) signed
  polled value step = worked d new n txns told signed x (add_op (Get step.key value step.source)) (λ t. answered (Get (unwrap_or t.waiting 0) value 0) t) (after_again d.running.order x.ticket step.key (Found value step.source)) m
      (live_runs d n txns told signed x m h named step.live) (λ one. refl)
      (λ w q one at_work fits. fits_answered n d.running.epoch x.ticket w q one (Get step.key value step.source) (Get (unwrap_or one.waiting 0) value 0)
      (ap (λ o. Get (unwrap_or o 0) value 0) (sym (waits_for w q one step.key at_work step.waited fits))) fits) refl step.state

  still_queued : StillQueuedStep d x new → Mirror new n txns (on_last (λ t. record t { waiting = Some (unwrap_or t.waiting 0) }) told) signed
  still_queued step = worked d new n txns told signed x (λ w. w) (λ t. record t { waiting = Some (unwrap_or t.waiting 0) }) d.running.order m
      (live_runs d n txns told signed x m h named step.live) (λ one. refl)
      (λ w q one at_work fits. fits_still n d.running.epoch x.ticket w q one (Some (unwrap_or one.waiting 0))
      (let is = waits_for w q one step.key at_work step.waited fits in fits.waiting ∙ (is ∙ ap (λ o. Some (unwrap_or o 0)) (sym is))) fits)
      (sym (edit_same d.running.order.works x.ticket)) step.same

  wrote : (k : ℕ) (value : Option (List ℕ)) → WriteStep d x k value new → Mirror new n txns (on_last (answered (write_op k value)) told) signed
  wrote k value step = worked d new n txns told signed x (add_op (write_op k value)) (answered (write_op k value)) (after_write d.running.order x.ticket k value Yes) m
      (live_runs d n txns told signed x m h named step.live) (λ one. refl)
      (λ w q one at_work fits. fits_answered n d.running.epoch x.ticket w q one (write_op k value) (write_op k value) (unsourced_write k value) fits) refl step.state

  asked : CommitStep d x new → Mirror new n txns (on_last (λ t. record t { asked = true }) told) signed
  asked step = own_edited d new n txns told signed x (λ w. w) note_asked (λ t. record t { asked = true }) d.running.order (edit note_asked d.running.holders x.ticket) m
      (live_runs d n txns told signed x m h named step.live) (λ q. refl) (λ one. refl)
      (λ w q one at_work at_holder fits. fits_asked n d.running.epoch x.ticket w q one fits) (sym (edit_same d.running.order.works x.ticket)) refl step.state

  ended : {u : Uses} (why : Why ℕ) → IsLive d x → new ≡ record d { running = record (end_of d.running x.ticket why) { uses = u } } → Mirror new n txns (on_last (over (AbortedBy why)) told) signed
  ended why live e = own_ended d new n txns told signed x why m (live_runs d n txns told signed x m h named live) e

pub own_step : (d : DeskState) (n : ℕ) (txns : List (TxnRecord ℕ)) (told : List Told) (signed : Bool) (call : Call) (reply : Reply) (new : DeskState) → is_of n call ≡ true → MayCall d call → DeskStep d call reply new → Mirror d n txns told signed
    → Mirror new n (more_txns n txns reply) (told_after told (call, reply)) (signs signed call)
own_step d n txns told signed (Begin client) (Begun x) new own may step m = begun_own d new n txns told signed client x (eqb-true client n own) step m
own_step d n txns told signed (Begin client) (Refused f) new own may step m = unmoved d new n txns told signed (told_next (Begin client) (Refused f)) (λ t. refl) step.same m
own_step d n txns told signed (GetKey x k) (Value value) new own may step m = got_value d n txns told signed new x m (eqb-true x.client n own) may.0 k value step
own_step d n txns told signed (GetKey x k) Waits new own may step m = queued d n txns told signed new x m (eqb-true x.client n own) may.0 k step
own_step d n txns told signed (GetKey x k) (Aborted why) new own may (inl step) m = was_aborted d new n txns told signed x (AbortedBy why) (eqb-true x.client n own) may.0 step.earlier step.same m
own_step d n txns told signed (GetKey x k) (Aborted why) new own may (inr (inl step)) m = ended d n txns told signed new x m (eqb-true x.client n own) may.0 why step.live step.state
own_step d n txns told signed (GetKey x k) (Aborted why) new own may (inr (inr step)) m = ended d n txns told signed new x m (eqb-true x.client n own) may.0 why step.live step.state
own_step d n txns told signed (Poll x) (Value value) new own may step m = polled d n txns told signed new x m (eqb-true x.client n own) may.0 value step
own_step d n txns told signed (Poll x) Waits new own may step m = still_queued d n txns told signed new x m (eqb-true x.client n own) may.0 step
own_step d n txns told signed (Poll x) (Aborted why) new own may step m = was_aborted d new n txns told signed x (AbortedBy why) (eqb-true x.client n own) may.0 step.earlier step.same m
own_step d n txns told signed (Write x k value) Done new own may step m = wrote d n txns told signed new x m (eqb-true x.client n own) may.0 k value step
own_step d n txns told signed (Write x k value) (Aborted why) new own may (inl step) m = was_aborted d new n txns told signed x (AbortedBy why) (eqb-true x.client n own) may.0 step.earlier step.same m
own_step d n txns told signed (Write x k value) (Aborted why) new own may (inr (inl step)) m = ended d n txns told signed new x m (eqb-true x.client n own) may.0 why step.live step.state
own_step d n txns told signed (Write x k value) (Aborted why) new own may (inr (inr step)) m = ended d n txns told signed new x m (eqb-true x.client n own) may.0 why step.live step.state
own_step d n txns told signed (Commit x) Done new own may step m = asked d n txns told signed new x m (eqb-true x.client n own) may.0 step
own_step d n txns told signed (Commit x) (Aborted why) new own may step m = was_aborted d new n txns told signed x (AbortedBy why) (eqb-true x.client n own) may.0 step.earlier step.same m
own_step d n txns told signed (Abort x) (Aborted why) new own may (inl step) m = was_aborted d new n txns told signed x (AbortedBy why) (eqb-true x.client n own) may.0 step.earlier step.same m
own_step d n txns told signed (Abort x) (Aborted why) new own may (inr step) m = ended d n txns told signed new x m (eqb-true x.client n own) may.0 why step.live
    (step.state ∙ ap (λ (w : Why ℕ). let q : DeskState = record d { running = end_of d.running x.ticket w } in q) (sym step.cause))
own_step d n txns told signed (Settled x) (IsSettled None) new own may step m = unmoved d new n txns told signed (told_next (Settled x) (IsSettled None)) (λ t. refl) step.1 m
own_step d n txns told signed (Settled x) (IsSettled (Some o)) new own may step m = was_aborted d new n txns told signed x o (eqb-true x.client n own) may (sym step.0) step.1 m
own_step d n txns told signed (SignOff client) Done new own may step m =
    subst (λ (ts : List Told). Mirror new n txns ts true) (sym (on_last-same (told_next (SignOff client) Done) told (λ t. refl))) (signed_own d new n txns told signed client (eqb-true client n own) step m)
own_step d n txns told signed Looks (Seen look) new own may step m = absurd (false≢true own)
own_step d n txns told signed (Stop f) Done new own may step m = absurd (false≢true own)
own_step d n txns told signed (Unsure f) Done new own may step m = absurd (false≢true own)
own_step d n txns told signed IsStopped (StoppedBy fault) new own may step m = absurd (false≢true own)
own_step d n txns told signed TakeBatch (Batch keys) new own may step m = absurd (false≢true own)
own_step d n txns told signed (Deliver keys values) Done new own may step m = absurd (false≢true own)
own_step d n txns told signed Close (Writes writes) new own may step m = absurd (false≢true own)
own_step d n txns told signed (Publish epoch left) (Published record_told) new own may step m = absurd (false≢true own)
own_step d n txns told signed _ _ new own may step m = absurd step
