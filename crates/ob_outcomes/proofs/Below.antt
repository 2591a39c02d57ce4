-- Each transaction of a lone client has read the map below its epoch, whether it was aborted later or not.
use Rattle.std.proofs.Common.{◌≡◌, ℕ, zero, suc, ◌<◌, Bool, true, false, not, ◌&&◌, if◌then◌else◌, List, [], ◌∷◌, ◌++◌, length, Option, None, Some, option_map, unwrap_or, slice_get, refl, sym, ap, ◌∙◌, subst, inl, inr, ⊎_elim, arith, nat_cmp}
use Rattle.std.specs.Prelude.{filter}
use Rattle.std.specs.Option.{option_or}
use Rattle.std.proofs.lemmas.Bool.{cases_eq, false≢true}
use Rattle.std.proofs.lemmas.List.{append-nil}
use Rattle.std.proofs.lemmas.Option.{none-some, same_Some}
use Rattle.ob_base.specs.declared.op.Op.{Op}
use Rattle.ob_base.specs.declared.op.Op.TheVariants.{Get}
use Rattle.ob_base.specs.declared.fault.Fault.{Fault}
use Rattle.ob_serial.specs.Serial.{Map, TxnRecord, EpochRecord, Replays, after_ops, is_committed}
use Rattle.ob_serial.specs.Vaults.{with_writes}
use Rattle.ob_serial.specs.declared.records.Why.TheVariants.{EpochEnd}
use Rattle.ob_order.specs.Works.{Work, is_going, at_ticket, goes_on, add_op, with_op, last_writes}
use Rattle.ob_order.specs.Order.{fresh, write_op}
use Rattle.ob_order.proofs.Edits.{at_edit_same, at_edit_other, slice_get-push}
use Rattle.ob_order.proofs.Falls.{Fallen, fallen_refl, fallen_then, fallen_aborted, fallen_waits, ops_at}
use Rattle.ob_desk.specs.Replay.{map_after, EachReplays}
use Rattle.ob_desk.specs.Desk.{Part, DeskState, Setup, Call, Begin, GetKey, Poll, Write, Commit, Abort, Settled, Looks, SignOff, Stop, Unsure, IsStopped, TakeBatch, Deliver, Close, Publish}
use Rattle.ob_desk.specs.Desk.{Reply, Begun, Refused, Value, Waits, Aborted, Done, IsSettled, Seen, StoppedBy, Batch, Writes, Published, DeskStep, MayCall, Run, new_desk}
use Rattle.ob_desk.specs.Desk.{end_of, close_to, closing, asked_at, record_of, is_memory, stop_part, stop_closed, stopped_by, base_map, map_next, published, records_told}
use Rattle.ob_desk.proofs.Runs as desk_runs
use Rattle.ob_desk.proofs.Sees.{replays_from_reads}
use Rattle.ob_desk.proofs.Published.{one_by_one_from, batch_gives}
use Rattle.ob_conduct.specs.Records.{after_txns, contents}
use Rattle.ob_conduct.proofs.Writes.{left_by}
use Rattle.ob_outcomes.specs.Alone.{IsOwnWhy}
use Rattle.ob_outcomes.specs.Sums.{ReadBelow, LoneReadsBelow}
use Rattle.ob_outcomes.proofs.Alone.{OnlyLast, alone_tale}
use Rattle.ob_outcomes.proofs.Causes as causes
use Rattle.ob_outcomes.proofs.Desks.{Runs, never_none, runs_new, runs_step}
use Rattle.ob_outcomes.proofs.Records.{record_all}

-- ---- works

pub record ReadsAll (m : Map nat_cmp) (ws : List Work) : Type 0 where
  pub at_each : (n : ℕ) (w : Work) → slice_get ws n ≡ Some w → Replays nat_cmp m w.ops

-- who doesn't go on has the operations that it had
record OldOps (ws vs : List Work) : Type 0 where
  pub at_each : (n : ℕ) (v : Work) → slice_get vs n ≡ Some v → is_going v.fate ≡ false → (w : Work) × (slice_get ws n ≡ Some w) × (w.ops ≡ v.ops)

old_same : (ws : List Work) → OldOps ws ws
old_same ws = record { at_each = λ n v at stands. (v, at, refl) }

with_ops : (ws : List Work) (n : ℕ) (os : List (Op ℕ)) → ops_at ws (suc n) ≡ Some os → (w : Work) × (slice_get ws n ≡ Some w) × (w.ops ≡ os)
with_ops ws n os e = step (slice_get ws n) refl e
  where
    step : (o : Option Work) → slice_get ws n ≡ o → option_map (λ w. w.ops) o ≡ Some os → (w : Work) × (slice_get ws n ≡ Some w) × (w.ops ≡ os)
    step None is e = absurd (none-some os e)
    step (Some w) is e = (w, is, same_Some w.ops os e)

old_fallen : (ws vs : List Work) → Fallen ws vs → OldOps ws vs
old_fallen ws vs f = record { at_each = λ n v at stands. with_ops ws n v.ops (sym (f.same_ops (suc n)) ∙ ap (option_map (λ w. w.ops)) at) }

old_begun : (ws : List Work) → OldOps ws (ws ++ fresh ∷ [])
old_begun ws = record {
  at_each = λ n v at stands. ⊎_elim
      (λ old. (v, sym old ∙ at, refl))
      (λ last. absurd (false≢true (sym stands ∙ ap (λ (w : Work). is_going w.fate) (sym (same_Some fresh v (sym last.2 ∙ at))))))
      (slice_get-push ws fresh n);
}

old_op : (ws : List Work) (t : ℕ) (o : Op ℕ) → goes_on ws t ≡ true → OldOps ws (with_op ws t o)
old_op ws t o going = record {
  at_each = λ n v at stands. ⊎_elim
      (λ same. absurd (step (at_ticket ws t) v going (sym (at_edit_same (add_op o) ws t) ∙ subst (λ q. at_ticket (with_op ws t o) q ≡ Some v) same at) stands))
      (λ other. (v, sym (at_edit_other (add_op o) ws t (suc n) other) ∙ at, refl))
      (cases_eq (suc n) t);
}
  where
    step : (x : Option Work) (v : Work) → unwrap_or (option_map (λ w. is_going w.fate) x) false ≡ true → option_map (add_op o) x ≡ Some v → is_going v.fate ≡ false → ⊥
    step None v going e stands = false≢true going
    step (Some w) v going e stands = false≢true (sym stands ∙ (ap (λ (y : Work). is_going y.fate) (sym (same_Some (add_op o w) v e)) ∙ going))

-- below the last one none has written that goes on
none_written : (m : Map nat_cmp) (ws : List Work) (n : ℕ) → ((u : ℕ) → u < n → goes_on ws (suc u) ≡ true → ⊥) → map_after m ws n ≡ m
none_written m ws zero gone = refl
none_written m ws (suc n) gone = step (slice_get ws n) refl (none_written m ws n (λ u l e. gone u (omega (arith, l)) e))
  where
    here : (o : Option Work) → slice_get ws n ≡ o → (b : Bool) → unwrap_or (option_map (λ w. is_going w.fate) o) false ≡ b → b ≡ true → ⊥
    here o is b e up = gone n (omega arith) (ap (λ x. unwrap_or (option_map (λ w. is_going w.fate) x) false) is ∙ e ∙ up)

    step : (o : Option Work) → slice_get ws n ≡ o → map_after m ws n ≡ m → unwrap_or (option_map (λ w. if is_going w.fate then after_ops nat_cmp (map_after m ws n) w.ops else map_after m ws n) o) (map_after m ws n) ≡ m
    step None is rest = rest
    step (Some w) is rest = by (is_going w.fate) refl
      where
        by : (b : Bool) → is_going w.fate ≡ b → (if b then after_ops nat_cmp (map_after m ws n) w.ops else map_after m ws n) ≡ m
        by true e = absurd (here (Some w) is true e refl)
        by false e = rest

reads_on : (m : Map nat_cmp) (ws vs : List Work) → OldOps ws vs → OnlyLast vs → EachReplays m vs → ReadsAll m ws → ReadsAll m vs
reads_on m ws vs old only each h = record { at_each = λ n v at. by n v at (is_going v.fate) refl }
  where
    by : (n : ℕ) (v : Work) → slice_get vs n ≡ Some v → (b : Bool) → is_going v.fate ≡ b → Replays nat_cmp m v.ops
    by n v at true e =
        let goes : goes_on vs (suc n) ≡ true = ap (λ x. unwrap_or (option_map (λ (w : Work). is_going w.fate) x) false) at ∙ e in
        let last = only.at_each (suc n) goes in
        subst (λ (x : Map nat_cmp). Replays nat_cmp x v.ops) (none_written m vs n (λ u l up. let there = only.at_each (suc u) up in omega (arith, l, last, there))) (each.at_each n v at e)
    by n v at false e =
        let w = old.at_each n v at e in
        subst (λ (os : List (Op ℕ)). Replays nat_cmp m os) w.2 (h.at_each n w.0 w.1)

reads_fallen : (m : Map nat_cmp) (ws vs : List Work) → Fallen ws vs → ReadsAll m ws → ReadsAll m vs
reads_fallen m ws vs f h = record {
  at_each = λ n v at. let w = with_ops ws n v.ops (sym (f.same_ops (suc n)) ∙ ap (option_map (λ x. x.ops)) at) in subst (λ (os : List (Op ℕ)). Replays nat_cmp m os) w.2 (h.at_each n w.0 w.1);
}

reads_none : (m : Map nat_cmp) → ReadsAll m []
reads_none m = record { at_each = λ n w at. absurd (none-some w at) }

fallen_close_to : (part : Part) (n : ℕ) → Fallen part.order.works (close_to part n).order.works
fallen_close_to part zero = fallen_refl part.order.works
fallen_close_to part (suc n) = step (goes_on (close_to part n).order.works (suc n) && not (asked_at (close_to part n) (suc n))) (fallen_close_to part n)
  where
    step : (b : Bool) → Fallen part.order.works (close_to part n).order.works → Fallen part.order.works (if b then end_of (close_to part n) (suc n) EpochEnd else close_to part n).order.works
    step true f = fallen_then part.order.works (close_to part n).order.works _ f (fallen_aborted (close_to part n).order.works (suc n))
    step false f = f

-- ---- the desk

record Below (m : Map nat_cmp) (d : DeskState) : Type 0 where
  pub running : d.stop ≡ None → ReadsAll (base_map m d) d.running.order.works
  pub closed : (part : Part) → d.closed ≡ Some part → ReadsAll m part.order.works

-- what is known beside of a desk behind a call
record Known (m : Map nat_cmp) (new : DeskState) : Type 0 where
  pub only : new.stop ≡ None → OnlyLast new.running.order.works
  pub each : EachReplays (base_map m new) new.running.order.works

same : (m : Map nat_cmp) (d new : DeskState) → new ≡ d → Below m d → Below m new
same m d new e h = subst (Below m) (sym e) h

in_running : (m : Map nat_cmp) (d new : DeskState) (part : Part) → new ≡ record d { running = part } → OldOps d.running.order.works part.order.works → Known m new → Below m d → Below m new
in_running m d new part e old known h = subst (λ (n : DeskState). Known m n → Below m n) (sym e)
    (λ k. record { running = λ none. reads_on (base_map m d) d.running.order.works part.order.works old (k.only none) k.each (h.running none); closed = h.closed }) known

stopped : (m : Map nat_cmp) (d : DeskState) (f : Fault) → Below m d → Below m (stopped_by f d)
stopped m d f h = step (is_memory f)
  where
    step : (b : Bool) → Below m (if b then record d { stop = option_or d.stop (Some f); running = stop_part f d.running } else stop_closed f (record d { stop = option_or d.stop (Some f); running = stop_part f d.running }))
    step true = record { running = λ none. absurd (never_none d.stop f none); closed = h.closed }
    step false = record { running = λ none. absurd (never_none d.stop f none); closed = λ c is. absurd (none-some c is) }

no_closed : (m : Map nat_cmp) (d : DeskState) → d.closed ≡ None → base_map m d ≡ m
no_closed m d e = ap (λ c. unwrap_or (option_map (λ (c : Part). with_writes m (last_writes d.setup.params.keys c.order.works)) c) m) e

below_step : (m : Map nat_cmp) (d : DeskState) (call : Call) (reply : Reply) (new : DeskState) → MayCall d call → DeskStep d call reply new → Known (map_next m d call) new → Below m d → Below (map_next m d call) new
below_step m d (Begin client) (Begun x) new may step known h = subst (λ (n : DeskState). Known m n → Below m n) (sym step.state)
    (λ k. record { running = λ none. reads_on (base_map m d) d.running.order.works _ (old_begun d.running.order.works) (k.only none) k.each (h.running none); closed = h.closed }) known
below_step m d (Begin client) (Refused f) new may step known h = same m d new step.same h
below_step m d (GetKey x k) (Value value) new may step known h = in_running m d new _ step.state (old_op d.running.order.works x.ticket (Get k value step.source) step.live.goes) known h
below_step m d (GetKey x k) Waits new may step known h = in_running m d new _ step.state (old_fallen d.running.order.works _ (fallen_waits d.running.order.works x.ticket k)) known h
below_step m d (GetKey x k) (Aborted why) new may (inl step) known h = same m d new step.same h
below_step m d (GetKey x k) (Aborted why) new may (inr (inl step)) known h = in_running m d new _ step.state (old_fallen d.running.order.works _ (fallen_aborted d.running.order.works x.ticket)) known h
below_step m d (GetKey x k) (Aborted why) new may (inr (inr step)) known h = in_running m d new _ step.state (old_fallen d.running.order.works _ (fallen_aborted d.running.order.works x.ticket)) known h
below_step m d (Poll x) (Value value) new may step known h = in_running m d new _ step.state (old_op d.running.order.works x.ticket (Get step.key value step.source) step.live.goes) known h
below_step m d (Poll x) Waits new may step known h = same m d new step.same h
below_step m d (Poll x) (Aborted why) new may step known h = same m d new step.same h
below_step m d (Write x k value) Done new may step known h = in_running m d new _ step.state (old_op d.running.order.works x.ticket (write_op k value) step.live.goes) known h
below_step m d (Write x k value) (Aborted why) new may (inl step) known h = same m d new step.same h
below_step m d (Write x k value) (Aborted why) new may (inr (inl step)) known h = in_running m d new _ step.state (old_fallen d.running.order.works _ (fallen_aborted d.running.order.works x.ticket)) known h
below_step m d (Write x k value) (Aborted why) new may (inr (inr step)) known h = in_running m d new _ step.state (old_fallen d.running.order.works _ (fallen_aborted d.running.order.works x.ticket)) known h
below_step m d (Commit x) Done new may step known h = in_running m d new _ step.state (old_same d.running.order.works) known h
below_step m d (Commit x) (Aborted why) new may step known h = same m d new step.same h
below_step m d (Abort x) (Aborted why) new may (inl step) known h = same m d new step.same h
below_step m d (Abort x) (Aborted why) new may (inr step) known h = in_running m d new _ step.state (old_fallen d.running.order.works _ (fallen_aborted d.running.order.works x.ticket)) known h
below_step m d (Settled x) (IsSettled outcome) new may step known h = same m d new step.1 h
below_step m d Looks (Seen look) new may step known h = same m d new step.1 h
below_step m d (SignOff client) Done new may step known h = subst (Below m) (sym step.state) (record { running = h.running; closed = h.closed })
below_step m d (Stop f) Done new may step known h = subst (Below m) (sym step.state) (stopped m d f h)
below_step m d (Unsure f) Done new may step known h = subst (Below m) (sym step.state) (record { running = λ none. absurd (never_none d.stop f none); closed = λ c is. absurd (none-some c is) })
below_step m d IsStopped (StoppedBy fault) new may step known h = same m d new step.1 h
below_step m d TakeBatch (Batch keys) new may step known h = in_running m d new _ step.state (old_same d.running.order.works) known h
below_step m d (Deliver keys values) Done new may step known h = in_running m d new _ step.state (old_same d.running.order.works) known h
below_step m d Close (Writes writes) new may step known h = subst (Below m) (sym step.state) (record {
  running = λ none. reads_none _;
  closed = λ c is. subst (λ (q : Part). ReadsAll m q.order.works) (same_Some (closing d.running) c is)
      (reads_fallen m d.running.order.works _ (fallen_close_to d.running (length d.running.order.works)) (subst (λ (x : Map nat_cmp). ReadsAll x d.running.order.works) (no_closed m d may.0) (h.running may.3)));
})
below_step m d (Publish epoch left) (Published told) new may step known h = subst (Below (base_map m d)) (sym step.state) (record { running = h.running; closed = λ c is. absurd (none-some c is) })
below_step m d _ _ new may step known h = absurd step

-- ---- the records

-- what the closed part's writes make of the map is what its record does
made_of : (m : Map nat_cmp) (d : DeskState) (part : Part) → d.closed ≡ Some part → desk_runs.Good m d → base_map m d ≡ contents m (record_of part ∷ [])
made_of m d part is good =
    let fine = good.closed part is in
    let ws = part.order.works in
    ap (λ c. unwrap_or (option_map (λ (c : Part). with_writes m (last_writes d.setup.params.keys c.order.works)) c) m) is
    ∙ batch_gives m d.setup.params.keys ws fine.within
    ∙ left_by m _ (map_after m ws (length ws)) (one_by_one_from m part.epoch 1 ws part.holders fine.even (replays_from_reads m ws fine.reads))
    ∙ ap (λ ts. after_txns m (filter (λ (x : TxnRecord ℕ). is_committed x) ts)) (sym (append-nil (record_of part).txns))

shows : (m : Map nat_cmp) (d : DeskState) (call : Call) (reply : Reply) (new : DeskState) → DeskStep d call reply new → Below m d → desk_runs.Good m d → (rest : List (EpochRecord ℕ)) → ReadBelow (map_next m d call) rest → ReadBelow m (records_told reply ++ rest)
shows m d (Publish epoch left) (Published told) new step h good rest behind =
    let read = h.closed step.part step.is_closed in
    subst (λ (r : EpochRecord ℕ). ReadBelow m (r ∷ rest)) (sym step.record_is) (
      record_all (λ t. Replays nat_cmp m t.ops) step.part (λ n w x at_work at_holder. read.at_each n w at_work),
      subst (λ (x : Map nat_cmp). ReadBelow x rest) (made_of m d step.part step.is_closed good) behind,
    )
shows m d (Publish epoch left) _ new step h good rest behind = absurd step
shows m d _ (Published told) new step h good rest behind = absurd step
shows m d _ _ new step h good rest behind = behind

module _ (setup : Setup) (client : ℕ) where
  abbrev Sound : DeskState → Type 0
  Sound d = causes.Good (λ ws t why. IsOwnWhy why) OnlyLast d

  walk : (m : Map nat_cmp) (d : DeskState) (steps : List (Call × Reply)) (last : Map nat_cmp) (new : DeskState) → Run m d steps last new → Runs setup (client ∷ []) d → Sound d → desk_runs.Good m d → Below m d → ReadBelow m (published steps)
  walk m d [] last new run runs sound good h = tt
  walk m d (step ∷ steps) last new run runs sound good h =
      let mid = run.0 in
      let next = causes.good_step (λ ws t why. IsOwnWhy why) OnlyLast setup (client ∷ []) (λ d. Unit {0}) (alone_tale setup client) d step.0 step.1 mid run.1 run.2 runs (λ x k e. tt) sound in
      let fed = desk_runs.good_step m d step.0 step.1 mid run.1 run.2 run.3 good in
      let known : Known (map_next m d step.0) mid = record { only = λ none. (next.running none).more; each = replays_from_reads _ mid.running.order.works fed.running.reads } in
      shows m d step.0 step.1 mid run.2 h good (published steps)
      (walk (map_next m d step.0) mid steps last new run.4 (runs_step setup (client ∷ []) d step.0 step.1 mid run.1 run.2 runs) next fed (below_step m d step.0 step.1 mid run.1 run.2 known h))

pub lone_reads_below : LoneReadsBelow
lone_reads_below setup epoch left client m last steps d may run =
    walk setup client m (new_desk setup epoch left (client ∷ [])) steps last d run (runs_new setup epoch left (client ∷ []))
    (causes.good_new (λ ws t why. IsOwnWhy why) OnlyLast setup (client ∷ []) (λ d. Unit {0}) (alone_tale setup client) epoch left)
    (desk_runs.good_new m setup epoch left (client ∷ []))
    (record { running = λ none. reads_none _; closed = λ c is. absurd (none-some c is) })
