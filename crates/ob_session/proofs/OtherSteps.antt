-- What the calls of others leave of the tie to one client.
use Rattle.std.proofs.Common.{◌≡◌, ℕ, ◌==◌, Bool, false, List, Some, refl, sym, ◌∙◌, subst, inl, inr, eq-eqb}
use Rattle.std.proofs.lemmas.Bool.{false≢true}
use Rattle.ob_base.specs.declared.op.Op.TheVariants.{Get}
use Rattle.ob_serial.specs.declared.records.Why.{Why}
use Rattle.ob_serial.specs.declared.records.Why.TheVariants.{Asked}
use Rattle.ob_serial.specs.Serial.{TxnRecord}
use Rattle.ob_order.specs.Works.{Work, at_ticket, edit, add_op, wait_for}
use Rattle.ob_order.specs.Order.{OrderState, after_read, after_again, after_write, after_take, after_deliver, write_op}
use Rattle.ob_order.specs.declared.answers.Read.TheVariants.{Value as Found, Queued}
use Rattle.ob_order.specs.declared.answers.Wrote.TheVariants.{Yes}
use Rattle.ob_shares.specs.Shares.{Uses}
use Rattle.ob_desk.specs.declared.calls.Txn.{Txn}
use Rattle.ob_desk.specs.declared.clients.Holder.{Holder}
use Rattle.ob_desk.specs.Desk.{DeskState, Call, Begin, GetKey, Poll, Write, Commit, Abort, Settled, Looks, SignOff, Stop, Unsure, IsStopped, TakeBatch, Deliver, Close, Publish, Reply, Begun, Refused}
use Rattle.ob_desk.specs.Desk.{Value, Waits, Aborted, Done, IsSettled, Seen, StoppedBy, Batch, Writes, Published, DeskStep, MayCall, IsLast, IsLive, note_asked, end_of}
use Rattle.ob_session.specs.Clients.{Told, is_of}
use Rattle.ob_session.proofs.Parts.{Tells, edit_same, edited_at, worked_at, ended_other}
use Rattle.ob_session.proofs.State.{Mirror}
use Rattle.ob_session.proofs.Changes.{same, in_running}
use Rattle.ob_session.proofs.Begins.{begun_other, signed_other}
use Rattle.ob_session.proofs.Epochs.{closed_mirror}
use Rattle.ob_session.proofs.Endings.{stopped_mirror, unsure_mirror, published_mirror}
use Rattle.ob_session.proofs.Tellings.{more_txns}

-- a live transaction of another client isn't held by this one
abbrev pub IsTheirs : DeskState → ℕ → Type 0
IsTheirs d n = (x : Txn) → (x.client ≡ n → ⊥) → IsLast d x → IsLive d x → (h : Holder) → at_ticket d.running.holders x.ticket ≡ Some h → h.client ≡ n → ⊥

differ : (a b : ℕ) → (a == b) ≡ false → a ≡ b → ⊥
differ a b off e = false≢true (sym off ∙ eq-eqb a b e)

module _ (d : DeskState) (n : ℕ) (txns : List (TxnRecord ℕ)) (told : List Told) (signed : Bool) (new : DeskState) (x : Txn) (m : Mirror d n txns told signed) (theirs : IsTheirs d n) (other : (x.client == n) ≡ false) (last : IsLast d x) (live : IsLive d x) where
  not_mine : (h : Holder) → at_ticket d.running.holders x.ticket ≡ Some h → h.client ≡ n → ⊥
  not_mine = theirs x (differ x.client n other) last live

  -- another's work changes
  worked : {u : Uses} (f : Work → Work) (o : OrderState) → o.works ≡ edit f d.running.order.works x.ticket → new ≡ record d { running = record d.running { order = o; uses = u } } → Mirror new n txns told signed
  worked f o works_are e = in_running d new n txns told signed o d.running.holders e (λ running tells. subst (λ (ws : List Work). Tells n d.running.epoch ws d.running.holders running) (sym works_are)
      (worked_at n d.running.epoch f x.ticket d.running.order.works d.running.holders running (λ u w h one at_work at_holder mine fits. absurd (not_mine h at_holder mine)) tells)) m

  -- its holder does
  asked : new ≡ record d { running = record d.running { holders = edit note_asked d.running.holders x.ticket } } → Mirror new n txns told signed
  asked e = in_running d new n txns told signed d.running.order (edit note_asked d.running.holders x.ticket) e (λ running tells.
      subst (λ (ws : List Work). Tells n d.running.epoch ws (edit note_asked d.running.holders x.ticket) running) (edit_same d.running.order.works x.ticket)
      (edited_at n d.running.epoch (λ w. w) note_asked x.ticket d.running.order.works d.running.holders running (λ h. refl) (λ u w h one at_work at_holder mine fits. absurd (not_mine h at_holder mine)) tells)) m

  -- it is aborted
  ended : {u : Uses} (why : Why ℕ) → new ≡ record d { running = record (end_of d.running x.ticket why) { uses = u } } → Mirror new n txns told signed
  ended why e = in_running d new n txns told signed (end_of d.running x.ticket why).order (end_of d.running x.ticket why).holders e (λ running tells. ended_other n d.running.epoch d.running x.ticket why running not_mine tells) m

pub other_step : (d : DeskState) (n : ℕ) (txns : List (TxnRecord ℕ)) (told : List Told) (signed : Bool) (call : Call) (reply : Reply) (new : DeskState) → is_of n call ≡ false → IsTheirs d n → MayCall d call → DeskStep d call reply new
    → Mirror d n txns told signed → Mirror new n (more_txns n txns reply) told signed
other_step d n txns told signed (Begin client) (Begun x) new other theirs may step m = begun_other d new n txns told signed client x (differ client n other) step m
other_step d n txns told signed (Begin client) (Refused f) new other theirs may step m = same d new n txns told signed step.same m
other_step d n txns told signed (GetKey x k) (Value value) new other theirs may step m =
    worked d n txns told signed new x m theirs other may.0 step.live (add_op (Get k value step.source)) (after_read d.running.order x.ticket k (Found value step.source)) refl step.state
other_step d n txns told signed (GetKey x k) Waits new other theirs may step m = worked d n txns told signed new x m theirs other may.0 step.live (wait_for k) (after_read d.running.order x.ticket k Queued) refl step.state
other_step d n txns told signed (GetKey x k) (Aborted why) new other theirs may (inl step) m = same d new n txns told signed step.same m
other_step d n txns told signed (GetKey x k) (Aborted why) new other theirs may (inr (inl step)) m = ended d n txns told signed new x m theirs other may.0 step.live why step.state
other_step d n txns told signed (GetKey x k) (Aborted why) new other theirs may (inr (inr step)) m = ended d n txns told signed new x m theirs other may.0 step.live why step.state
other_step d n txns told signed (Poll x) (Value value) new other theirs may step m =
    worked d n txns told signed new x m theirs other may.0 step.live (add_op (Get step.key value step.source)) (after_again d.running.order x.ticket step.key (Found value step.source)) refl step.state
other_step d n txns told signed (Poll x) Waits new other theirs may step m = same d new n txns told signed step.same m
other_step d n txns told signed (Poll x) (Aborted why) new other theirs may step m = same d new n txns told signed step.same m
other_step d n txns told signed (Write x k value) Done new other theirs may step m = worked d n txns told signed new x m theirs other may.0 step.live (add_op (write_op k value)) (after_write d.running.order x.ticket k value Yes) refl step.state
other_step d n txns told signed (Write x k value) (Aborted why) new other theirs may (inl step) m = same d new n txns told signed step.same m
other_step d n txns told signed (Write x k value) (Aborted why) new other theirs may (inr (inl step)) m = ended d n txns told signed new x m theirs other may.0 step.live why step.state
other_step d n txns told signed (Write x k value) (Aborted why) new other theirs may (inr (inr step)) m = ended d n txns told signed new x m theirs other may.0 step.live why step.state
other_step d n txns told signed (Commit x) Done new other theirs may step m = asked d n txns told signed new x m theirs other may.0 step.live step.state
other_step d n txns told signed (Commit x) (Aborted why) new other theirs may step m = same d new n txns told signed step.same m
other_step d n txns told signed (Abort x) (Aborted why) new other theirs may (inl step) m = same d new n txns told signed step.same m
other_step d n txns told signed (Abort x) (Aborted why) new other theirs may (inr step) m = ended d n txns told signed new x m theirs other may.0 step.live Asked step.state
other_step d n txns told signed (Settled x) (IsSettled outcome) new other theirs may step m = same d new n txns told signed step.1 m
other_step d n txns told signed Looks (Seen look) new other theirs may step m = same d new n txns told signed step.1 m
other_step d n txns told signed (SignOff client) Done new other theirs may step m = signed_other d new n txns told signed client (differ client n other) step m
other_step d n txns told signed (Stop f) Done new other theirs may step m = stopped_mirror d new n txns told signed f step.state m
other_step d n txns told signed (Unsure f) Done new other theirs may step m = unsure_mirror d new n txns told signed f step.part step.is_closed step.state m
other_step d n txns told signed IsStopped (StoppedBy fault) new other theirs may step m = same d new n txns told signed step.1 m
other_step d n txns told signed TakeBatch (Batch keys) new other theirs may step m = in_running d new n txns told signed (after_take d.setup.params d.running.order) d.running.holders step.state (λ running tells. tells) m
other_step d n txns told signed (Deliver keys values) Done new other theirs may step m = in_running d new n txns told signed (after_deliver d.running.order keys values) d.running.holders step.state (λ running tells. tells) m
other_step d n txns told signed Close (Writes writes) new other theirs may step m = closed_mirror d new n txns told signed d.setup.params.batches may.0 may.3 step.state m
other_step d n txns told signed (Publish epoch left) (Published record_told) new other theirs may step m = published_mirror d new n txns told signed step.part record_told step.is_closed step.record_is step.state m
other_step d n txns told signed _ _ new other theirs may step m = absurd step
