-- Every step of the desk keeps its parts fine, over any run.
use Rattle.std.proofs.Common.{◌≡◌, ℕ, suc, Bool, true, false, if◌then◌else◌, List, [], ◌∷◌, ◌++◌, length, None, Some, option_map, unwrap_or, refl, sym, ap, ◌∙◌, subst, inl, inr, nat_cmp}
use Rattle.std.specs.FinMap as finite
use Rattle.std.specs.Prelude.{filter, flat_map}
use Rattle.std.specs.Option.{option_or}
use Rattle.std.proofs.lemmas.Grind.{flat_map-append}
use Rattle.std.proofs.lemmas.List.{append-nil}
use Rattle.std.proofs.lemmas.List.Elements.{filter-append}
use Rattle.ob_serial.proofs.Runs.{goes_on}
use Rattle.std.specs.FinMap.{get-empty}
use Rattle.std.proofs.lemmas.Option.{none-some, same_Some}
use Rattle.ob_serial.specs.Serial.{Map, is_committed, OneByOne, committed_of, TxnRecord, EpochRecord}
use Rattle.ob_serial.specs.Vaults.{with_writes}
use Rattle.ob_desk.specs.Desk.{Fault, Why, Asked}
use Rattle.ob_order.specs.Works.{last_writes}
use Rattle.ob_desk.specs.Replay.{map_after}
use Rattle.ob_order.specs.Order.{after_take}
use Rattle.ob_desk.specs.Desk.{Part, DeskState, Txn, new_desk, Setup, reading, writing, is_memory, stop_closed, end_of, closing, stop_part, Call, Begin, GetKey, Poll, Write, Commit, Abort, Settled, Looks, SignOff, Stop}
use Rattle.ob_desk.specs.Desk.{Unsure, IsStopped, TakeBatch, Deliver, Close, Publish, Reply, Begun, Refused, Value, Waits, Aborted, Done, IsSettled, Seen, StoppedBy, Batch, Writes, Published, DeskStep}
use Rattle.ob_desk.specs.Desk.{MayCall, IsFed, base_map, map_next, Run, published, records_told, record_of, DeskReplays, DeskIsSerial, stopped_by}
use Rattle.ob_order.proofs.Newest.{by_option}
use Rattle.ob_desk.proofs.Sees.{replays_from_reads}
use Rattle.ob_desk.proofs.Fine.{fine_waits, asked_bases, Fine, Based, fine_got, fine_queued, fine_holder, fine_wrote, fine_new, fine_begun, fine_end, fine_close_to, fine_stopped, based_delivered, read_found, again_found}
use Rattle.ob_desk.proofs.Published.{one_by_one_from, batch_gives}

pub record Good (m : Map nat_cmp) (d : DeskState) : Type 0 where
  pub running : Fine (base_map m d) d.setup.params.keys d.running
  pub closed : (part : Part) → d.closed ≡ Some part → Fine m d.setup.params.keys part
  pub unfed : (part : Part) → d.closed ≡ Some part → (k : ℕ) → finite.get d.running.order.bases k ≡ None

pub good_new : (m : Map nat_cmp) (setup : Setup) (epoch left : ℕ) (clients : List ℕ) → Good m (new_desk setup epoch left clients)
good_new m setup epoch left clients = record {
  running = fine_new m setup.params.keys epoch left;
  closed = λ part is. absurd (none-some part is);
  unfed = λ part is. absurd (none-some part is);
}

-- nothing happened
same : (m : Map nat_cmp) (d new : DeskState) → new ≡ d → Good m d → Good m new
same m d new e h = subst (Good m) (sym e) h

-- only the running part changed, and no base
in_running : (m : Map nat_cmp) (d new : DeskState) (part : Part) → new ≡ record d { running = part } → Fine (base_map m d) d.setup.params.keys part → part.order.bases ≡ d.running.order.bases → Good m d → Good m new
in_running m d new part e fine bases h = subst (Good m) (sym e) (record {
  running = fine;
  closed = h.closed;
  unfed = λ c is k. ap (λ b. finite.get b k) bases ∙ h.unfed c is k;
})

ended : (m : Map nat_cmp) (d new : DeskState) (t : ℕ) (why : Why ℕ) → new ≡ record d { running = end_of d.running t why } → Good m d → Good m new
ended m d new t why e h = in_running m d new (end_of d.running t why) e (fine_end (base_map m d) d.setup.params.keys d.running t why h.running) refl h

-- with no closed part the map below the running part is the vault's
no_closed : (m : Map nat_cmp) (d : DeskState) → d.closed ≡ None → base_map m d ≡ m
no_closed m d e = ap (λ c. unwrap_or (option_map (λ c. with_writes m (last_writes d.setup.params.keys c.order.works)) c) m) e

-- the running part's bases are the vault's too
based_below : (m : Map nat_cmp) (d : DeskState) → Good m d → Based m d.running.order.bases
based_below m d h = by_option d.closed
    (λ none. subst (λ (x : Map nat_cmp). Based x d.running.order.bases) (no_closed m d none) h.running.based)
    (λ c is. record { at_each = λ k v e. absurd (none-some v (sym (h.unfed c is k) ∙ e)) })

stopped : (m : Map nat_cmp) (d : DeskState) (f : Fault) → Good m d → Good m (stopped_by f d)
stopped m d f h = step (is_memory f)
  where
    step : (b : Bool) → Good m (if b then record d { stop = option_or d.stop (Some f); running = stop_part f d.running } else stop_closed f (record d { stop = option_or d.stop (Some f); running = stop_part f d.running }))
    step true = record {
      running = fine_stopped (base_map m d) (base_map m d) d.setup.params.keys f d.running h.running h.running.based;
      closed = h.closed;
      unfed = h.unfed;
    }
    step false = record {
      running = fine_stopped (base_map m d) m d.setup.params.keys f d.running h.running (based_below m d h);
      closed = λ c is. absurd (none-some c is);
      unfed = λ c is. absurd (none-some c is);
    }

-- what calls named is none of a good desk's
read_good : (m : Map nat_cmp) (d : DeskState) (x : Txn) (k : ℕ) → Good m d → Good m (reading d x k)
read_good m d x k h = record { running = record { reads = h.running.reads; based = h.running.based; within = h.running.within; even = h.running.even }; closed = h.closed; unfed = h.unfed }

written_good : (m : Map nat_cmp) (d : DeskState) (x : Txn) (k : ℕ) → Good m d → Good m (writing d x k)
written_good m d x k h = record { running = record { reads = h.running.reads; based = h.running.based; within = h.running.within; even = h.running.even }; closed = h.closed; unfed = h.unfed }

pub good_step : (m : Map nat_cmp) (d : DeskState) (call : Call) (reply : Reply) (new : DeskState) → MayCall d call → DeskStep d call reply new → IsFed m call → Good m d → Good (map_next m d call) new
good_step m d (Begin client) (Begun x) new may step fed h = subst (Good m) (sym step.state) (record {
  running = fine_begun (base_map m d) d.setup.params.keys d.running _ h.running;
  closed = h.closed;
  unfed = h.unfed;
})
good_step m d (Begin client) (Refused f) new may step fed h = same m d new step.same h
good_step m d (GetKey x k) (Value value) new may step fed h =
    let r = read_good m d x k h in
    in_running m (reading d x k) new _ step.state
    (fine_got (base_map m d) d.setup.params.keys (reading d x k).running x.ticket k (record { source = step.source; value = value }) r.running (read_found d.setup.params d.running.order x.ticket k value step.source step.reply)) refl r
good_step m d (GetKey x k) Waits new may step fed h =
    let r = read_good m d x k h in
    in_running m (reading d x k) new _ step.state (fine_waits (base_map m d) d.setup.params.keys (reading d x k).running x.ticket k r.running) (asked_bases d.running.order k) r
good_step m d (GetKey x k) (Aborted why) new may (inl step) fed h = same m d new step.same h
good_step m d (GetKey x k) (Aborted why) new may (inr (inl step)) fed h = ended m (reading d x k) new x.ticket why step.state (read_good m d x k h)
good_step m d (GetKey x k) (Aborted why) new may (inr (inr step)) fed h = ended m d new x.ticket why step.state h
good_step m d (Poll x) (Value value) new may step fed h = in_running m d new _ step.state
    (fine_got (base_map m d) d.setup.params.keys d.running x.ticket step.key (record { source = step.source; value = value }) h.running (again_found d.running.order x.ticket step.key value step.source step.reply)) refl h
good_step m d (Poll x) Waits new may step fed h = same m d new step.same h
good_step m d (Poll x) (Aborted why) new may step fed h = same m d new step.same h
good_step m d (Write x k value) Done new may step fed h =
    let w = written_good m d x k h in
    in_running m (writing d x k) new _ step.state (fine_wrote (base_map m d) d.setup.params.keys d.setup.params (writing d x k).running x.ticket k value w.running step.reply may.2) refl w
good_step m d (Write x k value) (Aborted why) new may (inl step) fed h = same m d new step.same h
good_step m d (Write x k value) (Aborted why) new may (inr (inl step)) fed h = ended m (writing d x k) new x.ticket why step.state (written_good m d x k h)
good_step m d (Write x k value) (Aborted why) new may (inr (inr step)) fed h = ended m d new x.ticket why step.state h
good_step m d (Commit x) Done new may step fed h = in_running m d new _ step.state (fine_holder (base_map m d) d.setup.params.keys _ d.running x.ticket h.running) refl h
good_step m d (Commit x) (Aborted why) new may step fed h = same m d new step.same h
good_step m d (Abort x) (Aborted why) new may (inl step) fed h = same m d new step.same h
good_step m d (Abort x) (Aborted why) new may (inr step) fed h = ended m d new x.ticket Asked step.state h
good_step m d (Settled x) (IsSettled outcome) new may step fed h = same m d new step.1 h
good_step m d Looks (Seen look) new may step fed h = same m d new step.1 h
good_step m d (SignOff client) Done new may step fed h = subst (Good m) (sym step.state) (record { running = h.running; closed = h.closed; unfed = h.unfed })
good_step m d (Stop f) Done new may step fed h = subst (Good m) (sym step.state) (stopped m d f h)
good_step m d (Unsure f) Done new may step fed h = subst (Good m) (sym step.state) (record {
  running = fine_stopped (base_map m d) m d.setup.params.keys f d.running h.running (based_below m d h);
  closed = λ c is. absurd (none-some c is);
  unfed = λ c is. absurd (none-some c is);
})
good_step m d IsStopped (StoppedBy fault) new may step fed h = same m d new step.1 h
good_step m d TakeBatch (Batch keys) new may step fed h = in_running m d new _ step.state (fine_queued (base_map m d) d.setup.params.keys d.running (after_take d.setup.params d.running.order) h.running refl refl) refl h
good_step m d (Deliver keys values) Done new may step fed h = subst (Good m) (sym step.state) (record {
  running = record {
    reads = h.running.reads;
    based = based_delivered (base_map m d) d.running.order.bases keys values h.running.based (λ i k at. fed i k at ∙ ap (λ x. Some (finite.get x k)) (sym (no_closed m d may.0)));
    within = h.running.within;
    even = h.running.even;
  };
  closed = h.closed;
  unfed = λ c is. absurd (none-some c (sym may.0 ∙ is));
})
good_step m d Close (Writes writes) new may step fed h = subst (Good m) (sym step.state) (record {
  running = fine_new _ d.setup.params.keys (suc d.running.epoch) d.setup.params.batches;
  closed = λ c is. subst (Fine m d.setup.params.keys) (same_Some (closing d.running) c is) (subst (λ (x : Map nat_cmp). Fine x d.setup.params.keys (closing d.running)) (no_closed m d may.0) (fine_close_to (base_map m d) d.setup.params.keys d.running (length d.running.order.works) h.running));
  unfed = λ c is k. get-empty nat_cmp k;
})
good_step m d (Publish epoch left) (Published told) new may step fed h = subst (Good (base_map m d)) (sym step.state) (record {
  running = h.running;
  closed = λ c is. absurd (none-some c is);
  unfed = λ c is. absurd (none-some c is);
})
good_step m d _ _ new may step fed h = absurd step

pub good_run : (m : Map nat_cmp) (d : DeskState) (steps : List (Call × Reply)) (last : Map nat_cmp) (new : DeskState) → Run m d steps last new → Good m d → Good last new
good_run m d [] last new run h = subst (λ (x : Map nat_cmp). Good x new) (sym run.0) (subst (Good m) (sym run.1) h)
good_run m d (step ∷ steps) last new run h = good_run (map_next m d step.0) run.0 steps last new run.4 (good_step m d step.0 step.1 run.0 run.1 run.2 run.3 h)

pub desk_replays : DeskReplays
desk_replays setup epoch left clients m last steps d run =
    let h = good_run m (new_desk setup epoch left clients) steps last d run (good_new m setup epoch left clients) in
    record {
      running = replays_from_reads (base_map last d) d.running.order.works h.running.reads;
      closed = λ part is. replays_from_reads last part.order.works (h.closed part is).reads;
    }

pub committed_append : (xs ys : List (EpochRecord ℕ)) → committed_of (xs ++ ys) ≡ committed_of xs ++ committed_of ys
committed_append xs ys =
    ap (filter (λ (t : TxnRecord ℕ). is_committed t)) (flat_map-append (λ (r : EpochRecord ℕ). r.txns) xs ys)
    ∙ filter-append (λ (t : TxnRecord ℕ). is_committed t) (flat_map (λ (r : EpochRecord ℕ). r.txns) xs) (flat_map (λ (r : EpochRecord ℕ). r.txns) ys)

-- a publish tells what leads to the next map, and no other call tells any
pub serial_step : (m : Map nat_cmp) (d : DeskState) (call : Call) (reply : Reply) (new : DeskState) → DeskStep d call reply new → Good m d → OneByOne nat_cmp m (committed_of (records_told reply)) (map_next m d call)
serial_step m d (Publish epoch left) (Published told) new step h =
    let part = step.part in
    let fine = h.closed part step.is_closed in
    let last : map_after m part.order.works (length part.order.works) ≡ base_map m d =
    sym (batch_gives m d.setup.params.keys part.order.works fine.within) ∙ ap (λ c. unwrap_or (option_map (λ c. with_writes m (last_writes d.setup.params.keys c.order.works)) c) m) (sym step.is_closed) in
    subst (λ (ts : List (TxnRecord ℕ)). OneByOne nat_cmp m (filter (λ (t : TxnRecord ℕ). is_committed t) ts) (base_map m d)) (ap (λ (r : EpochRecord ℕ). r.txns) (sym step.record_is) ∙ sym (append-nil told.txns))
    (subst (OneByOne nat_cmp m (filter (λ (t : TxnRecord ℕ). is_committed t) (record_of part).txns)) last
    (one_by_one_from m part.epoch 1 part.order.works part.holders fine.even (replays_from_reads m part.order.works fine.reads)))
serial_step m d (Publish epoch left) _ new step h = absurd step
serial_step m d _ (Published told) new step h = absurd step
serial_step m d _ _ new step h = refl

serial_run : (m : Map nat_cmp) (d : DeskState) (steps : List (Call × Reply)) (last : Map nat_cmp) (new : DeskState) → Run m d steps last new → Good m d → OneByOne nat_cmp m (committed_of (published steps)) last
serial_run m d [] last new run h = sym run.0
serial_run m d (step ∷ steps) last new run h =
    subst (λ (ts : List (TxnRecord ℕ)). OneByOne nat_cmp m ts last) (sym (committed_append (records_told step.1) (published steps)))
    (goes_on nat_cmp m (committed_of (records_told step.1)) (committed_of (published steps)) (map_next m d step.0) last
    (serial_step m d step.0 step.1 run.0 run.2 h)
    (serial_run (map_next m d step.0) run.0 steps last new run.4 (good_step m d step.0 step.1 run.0 run.1 run.2 run.3 h)))

pub desk_is_serial : DeskIsSerial
desk_is_serial setup epoch left clients m last steps d run = serial_run m (new_desk setup epoch left clients) steps last d run (good_new m setup epoch left clients)
