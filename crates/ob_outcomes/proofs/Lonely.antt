-- What is kept between a lone client's calls, and what it shows of those of its transactions that were turned away.
use Rattle.std.proofs.Common.{◌≡◌, ℕ, zero, suc, ◌+◌, ◌*◌, ◌<◌, ◌≤◌, Bool, true, false, if◌then◌else◌, List, [], ◌∷◌, ◌++◌, length, All, Contains, Option, None, Some, option_map, unwrap_or, slice_get, refl, sym, ap, ◌∙◌, subst, inl, inr, ⊎_elim, arith, eqb-true}
use Rattle.std.proofs.Math.Nat.{mul-suc}
use Rattle.std.specs.Option.{option_or, option_and_then, is_some}
use Rattle.std.specs.Prelude.{nat_lt, ◌==◌}
use Rattle.std.proofs.lemmas.Bool.{false≢true}
use Rattle.std.proofs.lemmas.Option.{none-some, same_Some}
use Rattle.ob_base.specs.declared.op.Op.{Op}
use Rattle.ob_base.specs.declared.params.Params.{Params}
use Rattle.ob_base.specs.declared.fault.Fault.{Fault}
use Rattle.ob_serial.specs.declared.records.Why.{Why}
use Rattle.ob_serial.specs.declared.records.Why.TheVariants.{Conflict, Depends, ReadsFull, WritesFull, ShareReads, ShareWrites, EpochEnd, Asked, Stopped}
use Rattle.ob_serial.specs.declared.records.Outcome.TheVariants.{Committed, Aborted as AbortedBy}
use Rattle.ob_order.specs.Works.{Work, at_ticket, goes_on}
use Rattle.ob_order.specs.Order.{OrderState, fresh, covered_mark, other_keys, read_reply, write_reply}
use Rattle.ob_order.specs.declared.answers.Read.TheVariants.{Full as ReadsAreFull}
use Rattle.ob_order.specs.declared.answers.Wrote.TheVariants.{Yes, Conflict as Conflicts, Full as WritesAreFull}
use Rattle.ob_order.proofs.Falls.{ops_at}
use Rattle.ob_order.proofs.Steps.{goes_on_range}
use Rattle.ob_desk.specs.declared.calls.Txn.{Txn}
use Rattle.ob_desk.specs.Desk.{Part, DeskState, Setup, Call, Begin, GetKey, Poll, Write, Commit, Abort, Settled, Looks, SignOff, Stop, Unsure, IsStopped, TakeBatch, Deliver, Close, Publish}
use Rattle.ob_desk.specs.Desk.{Reply, Begun, Refused, Value, Waits, Aborted, Done, IsSettled, Seen, StoppedBy, Batch, Writes, Published, DeskStep, MayCall, IsLast, IsFree, IsLive}
use Rattle.ob_desk.specs.declared.clients.Holder.{Holder}
use Rattle.ob_shares.specs.Shares.{Uses}
use Rattle.ob_desk.specs.Desk.{end_of, outcome_at, waiting_at, why_of, why_refused, record_of, is_memory, stop_part, stop_closed, stopped_by, setup_of}
use Rattle.ob_outcomes.specs.Lone.{gets_in, writes_in, HasUsedPlaces}
use Rattle.ob_outcomes.proofs.Rooms.{HasRoom, one_if, made_by, made_in, made_append, its_work, made_got, made_wrote, made_waits, made_aborted, queued_one, asked_left, room_kept, room_queued, room_taken, gets_append, writes_append}
use Rattle.ob_outcomes.proofs.Writes.{others_few}
use Rattle.ob_outcomes.proofs.Alone.{OnlyLast, the_one, item, none_goes, last_begun}
use Rattle.ob_outcomes.proofs.Callers.{contains_found}
use Rattle.ob_outcomes.proofs.Desks.{Runs, never_none}
use Rattle.ob_outcomes.proofs.Grows.{Grows}
use Rattle.ob_outcomes.proofs.Held.{none_in_new, open_outcome}
use Rattle.ob_outcomes.proofs.Noted.{full_queue}
use Rattle.ob_outcomes.proofs.Causes.{IsTale, Sound}
use Rattle.ob_outcomes.proofs.Records.{made, record_all, why_told}

-- ---- a free transaction of a lone client waits for nothing

lone_open : (setup : Setup) (c : ℕ) (d : DeskState) (x : Txn) → Runs setup (c ∷ []) d → IsLast d x → IsLive d x → is_some (outcome_at d x) ≡ false
lone_open setup c d x runs last live = at x.ticket refl live.goes
  where
    at : (t : ℕ) → x.ticket ≡ t → goes_on d.running.order.works t ≡ true → is_some (outcome_at d x) ≡ false
    at zero e going = absurd (none_in_new zero going)
    at (suc n) e going =
        let range = goes_on_range d.running.order.works (suc n) going in
        let even = runs.kept.even in
        let h = item d.running.holders n (omega (arith, range.1, even)) in
        let o = runs.kept.held.at_each (suc n) h.0 h.1 going in
        let its : h.0.client ≡ c = the_one c h.0.client (subst (λ (ns : List ℕ). Contains ns h.0.client) runs.numbers (contains_found d.clients h.0.client o.client o.found)) in
        let mine : x.client ≡ c = the_one c x.client (subst (λ (ns : List ℕ). Contains ns x.client) runs.numbers (contains_found d.clients x.client last.client last.found)) in
        let same : x ≡ record { client = h.0.client; epoch = d.running.epoch; ticket = suc n } =
        ap (λ q. let y : Txn = record { client = q; epoch = x.epoch; ticket = x.ticket } in y) (mine ∙ sym its)
        ∙ ap (λ q. let y : Txn = record { client = h.0.client; epoch = q; ticket = x.ticket } in y) live.runs
        ∙ ap (λ q. let y : Txn = record { client = h.0.client; epoch = d.running.epoch; ticket = q } in y) e in
        subst (λ (q : Txn). is_some (outcome_at d q) ≡ false) (sym same) (open_outcome d (suc n) h.0 going o)

pub lone_free : (setup : Setup) (c : ℕ) (d : DeskState) (x : Txn) → Runs setup (c ∷ []) d → IsLast d x → IsFree d x → IsLive d x → waiting_at d.running x.ticket ≡ None
lone_free setup c d x runs last free live = ⊎_elim (λ gone. absurd (false≢true (sym (lone_open setup c d x runs last live) ∙ ap is_some gone.1))) (λ f. f.2) free

-- ---- the room, call by call

-- unless the desk is stopped
pub record IsRoomy (batches : ℕ) (d : DeskState) : Type 0 where
  pub room : d.stop ≡ None → HasRoom batches d.running.order

-- a batch is taken only where a key is queued
abbrev pub TakesKey : DeskState → Call → Type 0
TakesKey d call = call ≡ TakeBatch → 0 < length d.running.order.queue

le_same : (n : ℕ) → n ≤ n
le_same n = omega arith

le_of : (m n : ℕ) → m ≡ n → n ≤ m
le_of m n e = omega (arith, e)

module _ (batches : ℕ) where
  same : (d new : DeskState) → new ≡ d → IsRoomy batches d → IsRoomy batches new
  same d new e h = subst (IsRoomy batches) (sym e) h

  in_running : (d new : DeskState) (part : Part) → new ≡ record d { running = part } → (HasRoom batches d.running.order → HasRoom batches part.order) → IsRoomy batches d → IsRoomy batches new
  in_running d new part e f h = subst (IsRoomy batches) (sym e) (record { room = λ none. f (h.room none) })

  ended : {u : Uses} (d new : DeskState) (t : ℕ) (why : Why ℕ) → new ≡ record d { running = record (end_of d.running t why) { uses = u } } → IsRoomy batches d → IsRoomy batches new
  ended d new t why e h = in_running d new _ e (room_kept batches d.running.order _ (le_same _) refl (le_of _ _ (made_aborted d.running.order.works t))) h

  pub stopped : (d : DeskState) (f : Fault) → IsRoomy batches (stopped_by f d)
  stopped d f = step (is_memory f)
    where
      step : (b : Bool) → IsRoomy batches (if b then record d { stop = option_or d.stop (Some f); running = stop_part f d.running } else stop_closed f (record d { stop = option_or d.stop (Some f); running = stop_part f d.running }))
      step true = record { room = λ none. absurd (never_none d.stop f none) }
      step false = record { room = λ none. absurd (never_none d.stop f none) }

  pub roomy_step : (setup : Setup) (c : ℕ) (d : DeskState) (call : Call) (reply : Reply) (new : DeskState) → batches ≤ setup.params.batches → MayCall d call → DeskStep d call reply new → Runs setup (c ∷ []) d → TakesKey d call → IsRoomy batches d → IsRoomy batches new
  roomy_step setup c d (Begin client) (Begun x) new low may step runs due h = subst (IsRoomy batches) (sym step.state) (record {
    room = λ none. room_kept batches d.running.order _ (le_same _) refl (let is = made_append d.running.order.works (fresh ∷ []) in omega (arith, is)) (h.room none);
  })
  roomy_step setup c d (Begin client) (Refused f) new low may step runs due h = same d new step.same h
  roomy_step setup c d (GetKey x k) (Value value) new low may step runs due h = in_running d new _ step.state
      (room_kept batches d.running.order _ (le_same _) refl (made_got d.running.order.works x.ticket k step.source value step.live.goes)) h
  roomy_step setup c d (GetKey x k) Waits new low may step runs due h = in_running d new _ step.state
      (room_queued batches d.running.order _ (queued_one d.running.order k) (asked_left d.running.order k) (made_waits d.running.order.works x.ticket k step.live.goes (lone_free setup c d x runs may.0 may.1 step.live))) h
  roomy_step setup c d (GetKey x k) (Aborted why) new low may (inl step) runs due h = same d new step.same h
  roomy_step setup c d (GetKey x k) (Aborted why) new low may (inr (inl step)) runs due h = ended d new x.ticket why step.state h
  roomy_step setup c d (GetKey x k) (Aborted why) new low may (inr (inr step)) runs due h = ended d new x.ticket why step.state h
  roomy_step setup c d (Poll x) (Value value) new low may step runs due h = in_running d new _ step.state
      (room_kept batches d.running.order _ (le_same _) refl (made_got d.running.order.works x.ticket step.key step.source value step.live.goes)) h
  roomy_step setup c d (Poll x) Waits new low may step runs due h = same d new step.same h
  roomy_step setup c d (Poll x) (Aborted why) new low may step runs due h = same d new step.same h
  roomy_step setup c d (Write x k value) Done new low may step runs due h = in_running d new _ step.state
      (room_kept batches d.running.order _ (le_same _) refl (made_wrote d.running.order.works x.ticket k value step.live.goes (lone_free setup c d x runs may.0 may.1 step.live))) h
  roomy_step setup c d (Write x k value) (Aborted why) new low may (inl step) runs due h = same d new step.same h
  roomy_step setup c d (Write x k value) (Aborted why) new low may (inr (inl step)) runs due h = ended d new x.ticket why step.state h
  roomy_step setup c d (Write x k value) (Aborted why) new low may (inr (inr step)) runs due h = ended d new x.ticket why step.state h
  roomy_step setup c d (Commit x) Done new low may step runs due h = in_running d new _ step.state (λ r. r) h
  roomy_step setup c d (Commit x) (Aborted why) new low may step runs due h = same d new step.same h
  roomy_step setup c d (Abort x) (Aborted why) new low may (inl step) runs due h = same d new step.same h
  roomy_step setup c d (Abort x) (Aborted why) new low may (inr step) runs due h = ended d new x.ticket Asked step.state h
  roomy_step setup c d (Settled x) (IsSettled outcome) new low may step runs due h = same d new step.1 h
  roomy_step setup c d Looks (Seen look) new low may step runs due h = same d new step.1 h
  roomy_step setup c d (SignOff client) Done new low may step runs due h = subst (IsRoomy batches) (sym step.state) (record { room = h.room })
  roomy_step setup c d (Stop f) Done new low may step runs due h = subst (IsRoomy batches) (sym step.state) (stopped d f)
  roomy_step setup c d (Unsure f) Done new low may step runs due h = subst (IsRoomy batches) (sym step.state) (record { room = λ none. absurd (never_none d.stop f none) })
  roomy_step setup c d IsStopped (StoppedBy fault) new low may step runs due h = same d new step.1 h
  roomy_step setup c d TakeBatch (Batch keys) new low may step runs due h = in_running d new _ step.state (room_taken batches d.setup.params d.running.order (due refl) may.1) h
  roomy_step setup c d (Deliver keys values) Done new low may step runs due h = in_running d new _ step.state (λ r. record { fits = r.fits }) h
  roomy_step setup c d Close (Writes writes) new low may step runs due h = subst (IsRoomy batches) (sym step.state) (record {
    room = λ none. record { fits = let is : d.setup.params.batches ≡ setup.params.batches = ap (λ (q : Setup). q.params.batches) runs.same_setup in omega (arith, is, low) };
  })
  roomy_step setup c d (Publish epoch left) (Published told) new low may step runs due h = subst (IsRoomy batches) (sym step.state) (record { room = h.room })
  roomy_step setup c d _ _ new low may step runs due h = absurd step

-- ---- what the works show of who was turned away

-- it has made so many of these operations
pub record HasMade (count : List (Op ℕ) → ℕ) (many : ℕ) (ws : List Work) (t : ℕ) : Type 0 where
  pub ops : List (Op ℕ)
  pub are : ops_at ws t ≡ Some ops
  pub many_are : many ≤ count ops

abbrev pub UsedPlaces : ℕ → Setup → List Work → ℕ → Why ℕ → Type 0
UsedPlaces batches setup ws t (Conflict key reader) = Unit {0}
UsedPlaces batches setup ws t (Depends on) = Unit {0}
UsedPlaces batches setup ws t (ReadsFull queued left) = t ≡ 1 → HasMade gets_in batches ws t
UsedPlaces batches setup ws t (WritesFull keys) = HasMade writes_in setup.params.writes ws t
UsedPlaces batches setup ws t (ShareReads keys) = setup.shares.reads ≡ Some keys
UsedPlaces batches setup ws t (ShareWrites keys) = setup.shares.writes ≡ Some keys
UsedPlaces batches setup ws t EpochEnd = Unit {0}
UsedPlaces batches setup ws t Asked = Unit {0}
UsedPlaces batches setup ws t (Stopped fault) = Unit {0}

made_longer : (count : List (Op ℕ) → ℕ) → ((xs ys : List (Op ℕ)) → count (xs ++ ys) ≡ count xs + count ys) → (many : ℕ) (ws vs : List Work) (t : ℕ) → Grows ws vs → HasMade count many ws t → HasMade count many vs t
made_longer count adds many ws vs t g h =
    let more = g.longer t h.ops h.are in
    let is = adds h.ops more.0 in
    let before = h.many_are in
    record { ops = h.ops ++ more.0; are = more.1; many_are = omega (arith, is, before) }

used_lasts : (batches : ℕ) (setup : Setup) (ws vs : List Work) (t : ℕ) (why : Why ℕ) → Grows ws vs → UsedPlaces batches setup ws t why → UsedPlaces batches setup vs t why
used_lasts batches setup ws vs t (Conflict key reader) g h = tt
used_lasts batches setup ws vs t (Depends on) g h = tt
used_lasts batches setup ws vs t (ReadsFull queued left) g h = λ one. made_longer gets_in gets_append batches ws vs t g (h one)
used_lasts batches setup ws vs t (WritesFull keys) g h = made_longer writes_in writes_append setup.params.writes ws vs t g h
used_lasts batches setup ws vs t (ShareReads keys) g h = h
used_lasts batches setup ws vs t (ShareWrites keys) g h = h
used_lasts batches setup ws vs t EpochEnd g h = tt
used_lasts batches setup ws vs t Asked g h = tt
used_lasts batches setup ws vs t (Stopped fault) g h = tt

le_times : (p n : ℕ) → 1 ≤ p → n ≤ p * n
le_times p zero some = omega arith
le_times p (suc n) some = let rest = le_times p n some in let is = mul-suc p n in omega (arith, rest, is, some)

one_work : (ws : List Work) (w : Work) → length ws ≡ 1 → at_ticket ws 1 ≡ Some w → made_in ws ≡ made_by w
one_work [] w e there = absurd (none-some w there)
one_work (v ∷ []) w e there = let is : made_by v ≡ made_by w = ap made_by (same_Some v w there) in omega (arith, is)
one_work (v ∷ u ∷ ws) w e there = absurd (omega (arith, e))

used_full : (setup : Setup) (c batches : ℕ) (d : DeskState) (x : Txn) (k queued left : ℕ) → IsRoomy batches d → d.stop ≡ None → Runs setup (c ∷ []) d → MayCall d (GetKey x k) → IsLive d x → OnlyLast d.running.order.works
    → read_reply setup.params d.running.order x.ticket k ≡ ReadsAreFull queued left → x.ticket ≡ 1 → HasMade gets_in batches d.running.order.works x.ticket
used_full setup c batches d x k queued left known none runs may live only e one =
    let last = only.at_each x.ticket live.goes in
    let w = its_work d.running.order.works x.ticket live.goes in
    let free = ap one_if (sym (ap (option_and_then (λ (y : Work). y.waiting)) w.1) ∙ lone_free setup c d x runs may.0 may.1 live) in
    let alone = one_work d.running.order.works w.0 (sym last ∙ one) (subst (λ t. at_ticket d.running.order.works t ≡ Some w.0) one w.1) in
    let room = (known.room none).fits in
    let full = full_queue setup.params d.running.order x.ticket k queued left e in
    let wide = le_times setup.params.places d.running.order.left setup.params.in_range.some_places in
    record { ops = w.0.ops; are = ap (option_map (λ (y : Work). y.ops)) w.1; many_are = omega (arith, free, alone, room, full, wide) }

used_refused : (setup : Setup) (batches : ℕ) (o : OrderState) (t k : ℕ) (why : Why ℕ) → OnlyLast o.works → goes_on o.works t ≡ true → why_refused (write_reply setup.params o t k) ≡ Some why → UsedPlaces batches setup o.works t why
used_refused setup batches o t k why only going e = step (nat_lt t (covered_mark o t k)) (other_keys setup.params o k == setup.params.writes) refl e
  where
    step : (a b : Bool) → (other_keys setup.params o k == setup.params.writes) ≡ b → why_refused (if a then Conflicts k (covered_mark o t k) else (if b then WritesAreFull setup.params.writes else Yes)) ≡ Some why → UsedPlaces batches setup o.works t why
    step true b is f = subst (UsedPlaces batches setup o.works t) (same_Some (Conflict k (covered_mark o t k)) why f) tt
    step false true is f =
        let w = its_work o.works t going in
        let few = others_few setup.params o t k w.0 only going w.1 in
        let all = eqb-true (other_keys setup.params o k) setup.params.writes is in
        subst (UsedPlaces batches setup o.works t) (same_Some (WritesFull setup.params.writes) why f)
        (record { ops = w.0.ops; are = ap (option_map (λ (y : Work). y.ops)) w.1; many_are = omega (arith, few, all) })
    step false false is f = absurd (none-some why f)

pub used_tale : (setup : Setup) (c batches : ℕ) → IsTale setup (c ∷ []) (UsedPlaces batches setup) OnlyLast (IsRoomy batches)
used_tale setup c batches = record {
  lasts = used_lasts batches setup;
  asks = λ ws t. tt;
  ends = λ ws t. tt;
  falls = λ ws s t on q going going_too other lost. tt;
  full = used_full setup c batches;
  refused = used_refused setup batches;
  past_reads = λ ws t keys given. given;
  past_writes = λ ws t keys given. given;
  empty = record { at_each = λ t e. absurd (none_in_new t e) };
  fewer = λ ws vs len went only. record { at_each = λ t e. only.at_each t (went t e) ∙ sym len };
  begins = λ d client runs may only. last_begun d.running.order.works (none_goes setup c d client runs may);
}

-- ---- and so the record

pub record_used : (batches : ℕ) (p : Params) (part : Part) → Sound (UsedPlaces batches (setup_of p)) OnlyLast part → All (λ t. HasUsedPlaces batches p t t.outcome) (record_of part).txns
record_used batches p part sound = record_all (λ t. HasUsedPlaces batches p t t.outcome) part
    (λ n w h at_work at_holder. by_why n w h at_work (why_of w.fate h.cause) (λ why e. sound.told.at_each (suc n) why (why_told part n w h at_work at_holder ∙ e)))
  where
    its : (count : List (Op ℕ) → ℕ) (many n : ℕ) (w : Work) → slice_get part.order.works n ≡ Some w → HasMade count many part.order.works (suc n) → many ≤ count w.ops
    its count many n w at h =
        let same : h.ops ≡ w.ops = same_Some h.ops w.ops (sym h.are ∙ ap (option_map (λ (y : Work). y.ops)) at) in
        subst (λ (os : List (Op ℕ)). many ≤ count os) same h.many_are

    shown : (n : ℕ) (w : Work) (h : Holder) → slice_get part.order.works n ≡ Some w → (why : Why ℕ) → UsedPlaces batches (setup_of p) part.order.works (suc n) why → HasUsedPlaces batches p (made part.epoch (suc n) w h) (AbortedBy why)
    shown n w h at (Conflict key reader) used = tt
    shown n w h at (Depends on) used = tt
    shown n w h at (ReadsFull queued left) used = λ one. its gets_in batches n w at (used one)
    shown n w h at (WritesFull keys) used = its writes_in p.writes n w at used
    shown n w h at (ShareReads keys) used = none-some keys used
    shown n w h at (ShareWrites keys) used = none-some keys used
    shown n w h at EpochEnd used = tt
    shown n w h at Asked used = tt
    shown n w h at (Stopped fault) used = tt

    by_why : (n : ℕ) (w : Work) (h : Holder) → slice_get part.order.works n ≡ Some w → (o : Option (Why ℕ)) → ((why : Why ℕ) → o ≡ Some why → UsedPlaces batches (setup_of p) part.order.works (suc n) why)
        → HasUsedPlaces batches p (made part.epoch (suc n) w h) (unwrap_or (option_map AbortedBy o) Committed)
    by_why n w h at None told = tt
    by_why n w h at (Some why) told = shown n w h at why (told why refl)
