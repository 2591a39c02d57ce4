-- What holds between the desk and the vault where the driver is, and how a call of the desk keeps it.
use Rattle.std.proofs.Common.{◌≡◌, ℕ, zero, suc, ◌+◌, ◌-◌, ◌<◌, ◌≤◌, Bool, true, false, List, [], ◌∷◌, ◌++◌, map, take, length, replicate, min, length-take, Option, None, Some, option_map, unwrap_or, slice_get, refl, sym, ap, ◌∙◌, subst, inl, inr, ◌⊎◌, ⊎_elim, arith, nat_cmp, if◌then◌else◌}
use Rattle.std.specs.Prelude.{not, ◌&&◌}
use Rattle.std.specs.Option.{is_some, option_or}
use Rattle.std.specs.FinMap as finite
use Rattle.std.proofs.lemmas.Option.{same_Some}
use Rattle.std.proofs.lemmas.Bool.{false≢true}
use Rattle.ob_base.specs.Repeats.{Has}
use Rattle.ob_serial.specs.Serial.{Map, OneByOne, committed_of, EpochRecord}
use Rattle.ob_serial.specs.Vaults.{with_writes, VaultState}
use Rattle.ob_order.specs.Works.{last_writes, goes_on}
use Rattle.ob_order.specs.Order.{asked, is_asked_for, OrderState}
use Rattle.ob_desk.specs.Desk.{Setup, Fault, EpochEnd, is_memory, stop_part, stop_closed, Part, DeskState, TakeStep, CloseStep, PublishStep, Call, Begin, GetKey, Poll, Write, Commit, Abort, Settled, Looks, SignOff, Stop, Unsure, IsStopped, TakeBatch, Deliver, Close}
use Rattle.ob_desk.specs.Desk.{Publish, Reply, Begun, Refused, Value, Waits, Aborted, Done, IsSettled, Seen, StoppedBy, Batch, Writes, Published, DeskStep, MayCall, IsFed, base_map, map_next, record_of, closing, close_to, end_of, asked_at, records_told}
use Rattle.ob_desk.proofs.Runs.{Good, good_step, serial_step}
use Rattle.ob_world.specs.Drivers.{DriverAt, AtRest, HasTaken, HasFetched, HasClosed, HasEnded, HasDoubt, HasTold, HasFailed, IsDown, MovesDriver, NoneIsDue}
use Rattle.ob_world.specs.Worlds.{records_up_to}

-- no part is closed; so many batches are taken and not yet fetched
pub record Running (taken : ℕ) (m : Map nat_cmp) (d : DeskState) (v : VaultState) : Type 0 where
  pub same : m ≡ v.content
  pub none_closed : d.closed ≡ None
  pub epoch : d.running.epoch ≡ suc v.epoch
  pub left : v.left ≡ taken + d.running.order.left
  pub sure : v.doubt ≡ None
  pub unspent : v.spent ≡ false

-- no batch is under way
pub record Resting (m : Map nat_cmp) (d : DeskState) (v : VaultState) : Type 0 where
  pub running : Running 0 m d v
  pub none_flies : d.running.order.flying ≡ []

-- a batch was taken, and is fetched, or not yet
pub record Flying (taken : ℕ) (m : Map nat_cmp) (d : DeskState) (v : VaultState) (keys : List (Option ℕ)) : Type 0 where
  pub running : Running taken m d v
  pub flies : keys ≡ map Some d.running.order.flying ++ replicate (d.setup.params.places - length d.running.order.flying) None

pub record Fed (m : Map nat_cmp) (keys : List (Option ℕ)) (values : List (Option (List ℕ))) : Type 0 where
  pub whole : length values ≡ length keys
  pub at_each : (i k : ℕ) → slice_get keys i ≡ Some (Some k) → slice_get values i ≡ Some (finite.get m k)

-- the epoch is closed and its end is due
pub record Closing (m : Map nat_cmp) (d : DeskState) (v : VaultState) (writes : List (ℕ × Option (List ℕ))) : Type 0 where
  pub same : m ≡ v.content
  pub part : Part
  pub is_closed : d.closed ≡ Some part
  pub batch : writes ≡ last_writes d.setup.params.keys part.order.works
  pub epoch : part.epoch ≡ suc v.epoch
  pub next : d.running.epoch ≡ suc (suc v.epoch)
  pub left : d.running.order.left ≡ d.setup.params.batches
  pub none_flies : d.running.order.flying ≡ []
  pub empty : v.left ≡ 0
  pub sure : v.doubt ≡ None
  pub unspent : v.spent ≡ false

-- its end answered Ok, and its publish is due
pub record Settling (m : Map nat_cmp) (d : DeskState) (v : VaultState) (ended : List (EpochRecord ℕ)) : Type 0 where
  pub part : Part
  pub is_closed : d.closed ≡ Some part
  pub made : base_map m d ≡ v.content
  pub epoch : part.epoch ≡ v.epoch
  pub next : d.running.epoch ≡ suc v.epoch
  pub left : v.left ≡ d.running.order.left
  pub filled : d.running.order.left ≡ d.setup.params.batches
  pub none_flies : d.running.order.flying ≡ []
  pub sure : v.doubt ≡ None
  pub unspent : v.spent ≡ false
  pub among : Has (records_up_to v.epoch ended) (record_of part)

-- its end answered Unsure, and unsure is due
pub record Doubting (d : DeskState) : Type 0 where
  pub is_closed : is_some d.closed ≡ true

pub record Telling (m : Map nat_cmp) (d : DeskState) (v : VaultState) (told : EpochRecord ℕ) : Type 0 where
  pub resting : Resting m d v
  pub epoch : told.epoch ≤ v.epoch

abbrev pub AtDriver : Map nat_cmp → DeskState → VaultState → List (EpochRecord ℕ) → DriverAt → Type 0
AtDriver m d v ended AtRest = Resting m d v
AtDriver m d v ended (HasTaken keys) = Flying 1 m d v keys
AtDriver m d v ended (HasFetched keys values) = Flying 0 m d v keys × Fed m keys values
AtDriver m d v ended (HasClosed writes) = Closing m d v writes
AtDriver m d v ended HasEnded = Settling m d v ended
AtDriver m d v ended (HasDoubt f) = Doubting d
AtDriver m d v ended (HasTold told) = Telling m d v told
AtDriver m d v ended (HasFailed f) = Unit {0}
AtDriver m d v ended IsDown = Unit {0}

-- ---- calls that leave the parts' frame as it is

abbrev pub LeavesDriver : Call → Type 0
LeavesDriver TakeBatch = ⊥
LeavesDriver (Deliver keys values) = ⊥
LeavesDriver Close = ⊥
LeavesDriver (Publish epoch left) = ⊥
LeavesDriver (Unsure fault) = ⊥
LeavesDriver (Stop fault) = ⊥
LeavesDriver _ = Unit {0}

pub record Framed (d new : DeskState) : Type 0 where
  pub closed : new.closed ≡ d.closed
  pub epoch : new.running.epoch ≡ d.running.epoch
  pub left : new.running.order.left ≡ d.running.order.left
  pub flying : new.running.order.flying ≡ d.running.order.flying
  pub setup : new.setup ≡ d.setup

base_framed : (m : Map nat_cmp) (d new : DeskState) → Framed d new → base_map m new ≡ base_map m d
base_framed m d new f = λ i. unwrap_or (option_map (λ c. with_writes m (last_writes (f.setup i).params.keys c.order.works)) (f.closed i)) m

running_framed : (taken : ℕ) (m : Map nat_cmp) (d new : DeskState) (v : VaultState) → Framed d new → Running taken m d v → Running taken m new v
running_framed taken m d new v f h = record { same = h.same; none_closed = f.closed ∙ h.none_closed; epoch = f.epoch ∙ h.epoch; left = h.left ∙ ap (λ (n : ℕ). taken + n) (sym f.left); sure = h.sure; unspent = h.unspent }

resting_framed : (m : Map nat_cmp) (d new : DeskState) (v : VaultState) → Framed d new → Resting m d v → Resting m new v
resting_framed m d new v f h = record { running = running_framed 0 m d new v f h.running; none_flies = f.flying ∙ h.none_flies }

flying_framed : (taken : ℕ) (m : Map nat_cmp) (d new : DeskState) (v : VaultState) (keys : List (Option ℕ)) → Framed d new → Flying taken m d v keys → Flying taken m new v keys
flying_framed taken m d new v keys f h = record { running = running_framed taken m d new v f h.running; flies = h.flies ∙ (λ i. map Some (sym f.flying i) ++ replicate ((sym f.setup i).params.places - length (sym f.flying i)) None) }

pub at_framed : (m : Map nat_cmp) (d new : DeskState) (v : VaultState) (ended : List (EpochRecord ℕ)) (stage : DriverAt) → Framed d new → AtDriver m d v ended stage → AtDriver m new v ended stage
at_framed m d new v ended AtRest f h = resting_framed m d new v f h
at_framed m d new v ended (HasTaken keys) f h = flying_framed 1 m d new v keys f h
at_framed m d new v ended (HasFetched keys values) f h = (flying_framed 0 m d new v keys f h.0, h.1)
at_framed m d new v ended (HasClosed writes) f h = record {
  same = h.same;
  part = h.part;
  is_closed = f.closed ∙ h.is_closed;
  batch = h.batch ∙ ap (λ (s : Setup). last_writes s.params.keys h.part.order.works) (sym f.setup);
  epoch = h.epoch;
  next = f.epoch ∙ h.next;
  left = f.left ∙ (h.left ∙ ap (λ (s : Setup). s.params.batches) (sym f.setup));
  none_flies = f.flying ∙ h.none_flies;
  empty = h.empty;
  sure = h.sure;
  unspent = h.unspent;
}
at_framed m d new v ended HasEnded f h = record {
  part = h.part;
  is_closed = f.closed ∙ h.is_closed;
  made = base_framed m d new f ∙ h.made;
  epoch = h.epoch;
  next = f.epoch ∙ h.next;
  left = h.left ∙ sym f.left;
  filled = f.left ∙ (h.filled ∙ ap (λ (s : Setup). s.params.batches) (sym f.setup));
  none_flies = f.flying ∙ h.none_flies;
  sure = h.sure;
  unspent = h.unspent;
  among = h.among;
}
at_framed m d new v ended (HasDoubt g) f h = record { is_closed = ap (λ c. is_some c) f.closed ∙ h.is_closed }
at_framed m d new v ended (HasTold told) f h = record { resting = resting_framed m d new v f h.resting; epoch = h.epoch }
at_framed m d new v ended (HasFailed g) f h = h
at_framed m d new v ended IsDown f h = h

moved : (d want new : DeskState) → new ≡ want → Framed d want → Framed d new
moved d want new e f = subst (Framed d) (sym e) f

stays : (d : DeskState) → Framed d d
stays d = record { closed = refl; epoch = refl; left = refl; flying = refl; setup = refl }

asked_left : (o : OrderState) (key : ℕ) → ((asked o key).left ≡ o.left) × ((asked o key).flying ≡ o.flying)
asked_left o key = step (is_asked_for o key)
  where
    step : (b : Bool) → ((if b then o else record o { queue = o.queue ++ key ∷ [] }).left ≡ o.left) × ((if b then o else record o { queue = o.queue ++ key ∷ [] }).flying ≡ o.flying)
    step true = (refl, refl)
    step false = (refl, refl)

pub framed : (d : DeskState) (call : Call) (reply : Reply) (new : DeskState) → LeavesDriver call → DeskStep d call reply new → Framed d new
framed d (Begin client) (Begun x) new c step = moved d _ new step.state (record { closed = refl; epoch = refl; left = refl; flying = refl; setup = refl })
framed d (Begin client) (Refused f) new c step = moved d _ new step.same (stays d)
framed d (GetKey x k) (Value value) new c step = moved d _ new step.state (record { closed = refl; epoch = refl; left = refl; flying = refl; setup = refl })
framed d (GetKey x k) Waits new c step = moved d _ new step.state (record { closed = refl; epoch = refl; left = (asked_left d.running.order k).0; flying = (asked_left d.running.order k).1; setup = refl })
framed d (GetKey x k) (Aborted why) new c (inl step) = moved d _ new step.same (stays d)
framed d (GetKey x k) (Aborted why) new c (inr (inl step)) = moved d _ new step.state (record { closed = refl; epoch = refl; left = refl; flying = refl; setup = refl })
framed d (GetKey x k) (Aborted why) new c (inr (inr step)) = moved d _ new step.state (record { closed = refl; epoch = refl; left = refl; flying = refl; setup = refl })
framed d (Poll x) (Value value) new c step = moved d _ new step.state (record { closed = refl; epoch = refl; left = refl; flying = refl; setup = refl })
framed d (Poll x) Waits new c step = moved d _ new step.same (stays d)
framed d (Poll x) (Aborted why) new c step = moved d _ new step.same (stays d)
framed d (Write x k value) Done new c step = moved d _ new step.state (record { closed = refl; epoch = refl; left = refl; flying = refl; setup = refl })
framed d (Write x k value) (Aborted why) new c (inl step) = moved d _ new step.same (stays d)
framed d (Write x k value) (Aborted why) new c (inr (inl step)) = moved d _ new step.state (record { closed = refl; epoch = refl; left = refl; flying = refl; setup = refl })
framed d (Write x k value) (Aborted why) new c (inr (inr step)) = moved d _ new step.state (record { closed = refl; epoch = refl; left = refl; flying = refl; setup = refl })
framed d (Commit x) Done new c step = moved d _ new step.state (record { closed = refl; epoch = refl; left = refl; flying = refl; setup = refl })
framed d (Commit x) (Aborted why) new c step = moved d _ new step.same (stays d)
framed d (Abort x) (Aborted why) new c (inl step) = moved d _ new step.same (stays d)
framed d (Abort x) (Aborted why) new c (inr step) = moved d _ new step.state (record { closed = refl; epoch = refl; left = refl; flying = refl; setup = refl })
framed d (Settled x) (IsSettled outcome) new c step = moved d _ new step.1 (stays d)
framed d Looks (Seen look) new c step = moved d _ new step.1 (stays d)
framed d (SignOff client) Done new c step = moved d _ new step.state (record { closed = refl; epoch = refl; left = refl; flying = refl; setup = refl })
framed d (Stop f) _ new c step = absurd c
framed d IsStopped (StoppedBy fault) new c step = moved d _ new step.1 (stays d)
framed d TakeBatch _ new c step = absurd c
framed d (Deliver keys values) _ new c step = absurd c
framed d Close _ new c step = absurd c
framed d (Publish epoch left) _ new c step = absurd c
framed d (Unsure f) _ new c step = absurd c
framed d _ _ new c step = absurd step

-- ---- a desk call at a stage

pub record Stepped (m : Map nat_cmp) (d new : DeskState) (v : VaultState) (ended : List (EpochRecord ℕ)) (reply : Reply) (next : DriverAt) : Type 0 where
  pub below : Map nat_cmp
  pub good : Good below new
  pub at_place : AtDriver below new v ended next
  pub serial : OneByOne nat_cmp m (committed_of (records_told reply)) below
  pub setup : new.setup ≡ d.setup
  pub among : (r : EpochRecord ℕ) → Has (records_told reply) r → Has (records_up_to v.epoch ended) r

abbrev pub IsNoPublish : Call → Type 0
IsNoPublish (Publish epoch left) = ⊥
IsNoPublish _ = Unit {0}

pub no_records : (d : DeskState) (call : Call) (reply : Reply) (new : DeskState) → IsNoPublish call → DeskStep d call reply new → records_told reply ≡ []
no_records d (Publish epoch left) _ new c step = absurd c
no_records d _ (Published told) new c step = absurd step
no_records d _ _ new c step = refl

none_among : (d : DeskState) (call : Call) (reply : Reply) (new : DeskState) (rs : List (EpochRecord ℕ)) → IsNoPublish call → DeskStep d call reply new → (r : EpochRecord ℕ) → Has (records_told reply) r → Has rs r
none_among d call reply new rs c step r has = absurd (subst (λ (xs : List (EpochRecord ℕ)). Has xs r) (no_records d call reply new c step) has)

no_publish : (call : Call) → LeavesDriver call → IsNoPublish call
no_publish (Publish epoch left) c = absurd c
no_publish _ c = tt

-- a client's call
client : (m : Map nat_cmp) (d : DeskState) (v : VaultState) (ended : List (EpochRecord ℕ)) (stage : DriverAt) (call : Call) (reply : Reply) (new : DeskState) (next : DriverAt)
    → LeavesDriver call → IsFed m call → map_next m d call ≡ m → MayCall d call → DeskStep d call reply new → next ≡ stage → Good m d → AtDriver m d v ended stage → Stepped m d new v ended reply next
client m d v ended stage call reply new next c fed same may step turn h stands = record {
  below = m;
  good = subst (λ (x : Map nat_cmp). Good x new) same (good_step m d call reply new may step fed h);
  at_place = subst (AtDriver m new v ended) (sym turn) (at_framed m d new v ended stage (framed d call reply new c step) stands);
  serial = subst (OneByOne nat_cmp m (committed_of (records_told reply))) same (serial_step m d call reply new step h);
  setup = (framed d call reply new c step).setup;
  among = none_among d call reply new (records_up_to v.epoch ended) (no_publish call c) step;
}

pads_left : (n : ℕ) (queue : List ℕ) → n - length (take n queue) ≡ n - length queue
pads_left n queue = (let len : length (take n queue) ≡ min n (length queue) = length-take n queue in omega (arith, len))

taken : (m : Map nat_cmp) (d new : DeskState) (v : VaultState) (keys : List (Option ℕ)) → TakeStep d keys new → 0 < d.running.order.left → Resting m d v → Flying 1 m new v keys
taken m d new v keys step some h = subst (λ (x : DeskState). Flying 1 m x v keys) (sym step.state) (record {
  running = record { same = h.running.same; none_closed = h.running.none_closed; epoch = h.running.epoch; left = omega (arith, some, h.running.left); sure = h.running.sure; unspent = h.running.unspent };
  flies = step.taken ∙ ap (λ (n : ℕ). map Some (take d.setup.params.places d.running.order.queue) ++ replicate n None) (sym (pads_left d.setup.params.places d.running.order.queue));
})

closing_epoch : (part : Part) (n : ℕ) → (close_to part n).epoch ≡ part.epoch
closing_epoch part zero = refl
closing_epoch part (suc n) = step (close_to part n) (goes_on (close_to part n).order.works (suc n) && not (asked_at (close_to part n) (suc n))) (closing_epoch part n)
  where
    step : (p : Part) (b : Bool) → p.epoch ≡ part.epoch → (if b then end_of p (suc n) EpochEnd else p).epoch ≡ part.epoch
    step p true e = e
    step p false e = e

close_stage : (m : Map nat_cmp) (d new : DeskState) (v : VaultState) (writes : List (ℕ × Option (List ℕ))) → CloseStep d writes new → d.running.order.left ≡ 0 → Resting m d v → Closing m new v writes
close_stage m d new v writes step none h = subst (λ (x : DeskState). Closing m x v writes) (sym step.state) (record {
  same = h.running.same;
  part = closing d.running;
  is_closed = refl;
  batch = step.batch;
  epoch = closing_epoch d.running (length d.running.order.works) ∙ h.running.epoch;
  next = ap suc h.running.epoch;
  left = refl;
  none_flies = refl;
  empty = omega (arith, none, h.running.left);
  sure = h.running.sure;
  unspent = h.running.unspent;
})

publish_stage : (m : Map nat_cmp) (d new : DeskState) (v : VaultState) (ended : List (EpochRecord ℕ)) (told : EpochRecord ℕ) → PublishStep d told new → Settling m d v ended → Telling (base_map m d) new v told
publish_stage m d new v ended told step h = record {
  resting = subst (λ (x : DeskState). Resting (base_map m d) x v) (sym step.state) (record {
    running = record { same = h.made; none_closed = refl; epoch = h.next; left = (let e : v.left ≡ d.running.order.left = h.left in omega (arith, e)); sure = h.sure; unspent = h.unspent };
    none_flies = h.none_flies;
  });
  epoch =
      let same : told.epoch ≡ step.part.epoch = ap (λ r. r.epoch) step.record_is in
      let part : step.part ≡ h.part = same_Some step.part h.part (sym step.is_closed ∙ h.is_closed) in
      let one : step.part.epoch ≡ h.part.epoch = ap (λ p. p.epoch) part in
      omega (arith, same, one, h.epoch);
}

publish_among : (m : Map nat_cmp) (d new : DeskState) (v : VaultState) (ended : List (EpochRecord ℕ)) (told : EpochRecord ℕ) (reply : Reply) → reply ≡ Published told → PublishStep d told new
    → Settling m d v ended → (r : EpochRecord ℕ) → Has (records_told reply) r → Has (records_up_to v.epoch ended) r
publish_among m d new v ended told reply is step h r has =
    let one : Has (told ∷ []) r = subst (λ (x : Reply). Has (records_told x) r) is has in
    let part : step.part ≡ h.part = same_Some step.part h.part (sym step.is_closed ∙ h.is_closed) in
    let same : record_of h.part ≡ told = sym (step.record_is ∙ ap (λ p. record_of p) part) in
    ⊎_elim (λ (e : told ≡ r). subst (Has (records_up_to v.epoch ended)) (same ∙ e) h.among) (λ none. absurd none) one

-- ---- a stop

abbrev halted : Fault → DeskState → DeskState
halted f d = record d { stop = option_or d.stop (Some f); running = stop_part f d.running }

-- for want of memory, or another fault
abbrev stopped_as : Fault → Bool → DeskState → DeskState
stopped_as f b d = if b then halted f d else stop_closed f (halted f d)

stopped_epoch : (f : Fault) (b : Bool) (d : DeskState) → (stopped_as f b d).running.epoch ≡ d.running.epoch
stopped_epoch f true d = refl
stopped_epoch f false d = refl

stopped_setup : (f : Fault) (b : Bool) (d : DeskState) → (stopped_as f b d).setup ≡ d.setup
stopped_setup f true d = refl
stopped_setup f false d = refl

running_stopped : (taken : ℕ) (m : Map nat_cmp) (d : DeskState) (v : VaultState) (f : Fault) → Running taken m d v → Running taken m (stop_closed f (halted f d)) v
running_stopped taken m d v f h = record { same = h.same; none_closed = refl; epoch = h.epoch; left = h.left; sure = h.sure; unspent = h.unspent }

halted_frame : (f : Fault) (d : DeskState) → Framed d (halted f d)
halted_frame f d = record { closed = refl; epoch = refl; left = refl; flying = refl; setup = refl }

fault_stops : (m : Map nat_cmp) (d : DeskState) (v : VaultState) (ended : List (EpochRecord ℕ)) (f : Fault) (at : DriverAt) → NoneIsDue at → AtDriver m d v ended at → AtDriver m (stop_closed f (halted f d)) v ended at
fault_stops m d v ended f AtRest may h = record { running = running_stopped 0 m d v f h.running; none_flies = h.none_flies }
fault_stops m d v ended f (HasTaken keys) may h = record { running = running_stopped 1 m d v f h.running; flies = h.flies }
fault_stops m d v ended f (HasFetched keys values) may h = (record { running = running_stopped 0 m d v f h.0.running; flies = h.0.flies }, h.1)
fault_stops m d v ended f (HasClosed writes) may h = absurd may
fault_stops m d v ended f HasEnded may h = absurd may
fault_stops m d v ended f (HasDoubt g) may h = absurd may
fault_stops m d v ended f (HasTold told) may h = record { resting = record { running = running_stopped 0 m d v f h.resting.running; none_flies = h.resting.none_flies }; epoch = h.epoch }
fault_stops m d v ended f (HasFailed g) may h = h
fault_stops m d v ended f IsDown may h = h

stop_at : (m : Map nat_cmp) (d : DeskState) (v : VaultState) (ended : List (EpochRecord ℕ)) (f : Fault) (at : DriverAt) (b : Bool) → is_memory f ≡ b → (is_memory f ≡ true) ⊎ NoneIsDue at → AtDriver m d v ended at → AtDriver m (stopped_as f b d) v ended at
stop_at m d v ended f at true is may h = at_framed m d (halted f d) v ended at (halted_frame f d) h
stop_at m d v ended f at false is (inl memory) h = absurd (false≢true (sym is ∙ memory))
stop_at m d v ended f at false is (inr none) h = fault_stops m d v ended f at none h

pub desk_at : (m : Map nat_cmp) (d : DeskState) (v : VaultState) (ended : List (EpochRecord ℕ)) (stage : DriverAt) (call : Call) (reply : Reply) (new : DeskState) (next : DriverAt)
    → MayCall d call → DeskStep d call reply new → MovesDriver stage call reply next → Good m d → AtDriver m d v ended stage → Stepped m d new v ended reply next
desk_at m d v ended stage (Begin c) reply new next may step turn h stands = client m d v ended stage (Begin c) reply new next tt tt refl may step turn h stands
desk_at m d v ended stage (GetKey x k) reply new next may step turn h stands = client m d v ended stage (GetKey x k) reply new next tt tt refl may step turn h stands
desk_at m d v ended stage (Poll x) reply new next may step turn h stands = client m d v ended stage (Poll x) reply new next tt tt refl may step turn h stands
desk_at m d v ended stage (Write x k value) reply new next may step turn h stands = client m d v ended stage (Write x k value) reply new next tt tt refl may step turn h stands
desk_at m d v ended stage (Commit x) reply new next may step turn h stands = client m d v ended stage (Commit x) reply new next tt tt refl may step turn h stands
desk_at m d v ended stage (Abort x) reply new next may step turn h stands = client m d v ended stage (Abort x) reply new next tt tt refl may step turn h stands
desk_at m d v ended stage (Settled x) reply new next may step turn h stands = client m d v ended stage (Settled x) reply new next tt tt refl may step turn h stands
desk_at m d v ended stage Looks reply new next may step turn h stands = client m d v ended stage Looks reply new next tt tt refl may step turn h stands
desk_at m d v ended stage (SignOff c) reply new next may step turn h stands = client m d v ended stage (SignOff c) reply new next tt tt refl may step turn h stands
desk_at m d v ended stage IsStopped reply new next may step turn h stands = client m d v ended stage IsStopped reply new next tt tt refl may step turn h stands
desk_at m d v ended stage (Stop f) Done new next may step turn h stands = record {
  below = m;
  good = good_step m d (Stop f) Done new may step tt h;
  at_place = subst (AtDriver m new v ended) (sym turn.now) (subst (λ (x : DeskState). AtDriver m x v ended stage) (sym step.state) (stop_at m d v ended f stage (is_memory f) refl turn.may stands));
  serial = serial_step m d (Stop f) Done new step h;
  setup = ap (λ (x : DeskState). x.setup) step.state ∙ stopped_setup f (is_memory f) d;
  among = none_among d (Stop f) Done new (records_up_to v.epoch ended) tt step;
}
desk_at m d v ended stage (Stop f) _ new next may step turn h stands = absurd step
desk_at m d v ended stage (Unsure f) Done new next may step turn h stands = record {
  below = m;
  good = good_step m d (Unsure f) Done new may step tt h;
  at_place = subst (AtDriver m new v ended) (sym turn.now) tt;
  serial = serial_step m d (Unsure f) Done new step h;
  setup = ap (λ (x : DeskState). x.setup) step.state;
  among = none_among d (Unsure f) Done new (records_up_to v.epoch ended) tt step;
}
desk_at m d v ended stage (Unsure f) _ new next may step turn h stands = absurd step
desk_at m d v ended stage (Deliver keys values) Done new next may step turn h stands =
    let was : Flying 0 m d v keys × Fed m keys values = subst (AtDriver m d v ended) turn.was stands in
    record {
      below = m;
      good = good_step m d (Deliver keys values) Done new may step was.1.at_each h;
      at_place = subst (AtDriver m new v ended) (sym turn.now) (subst (λ (x : DeskState). Resting m x v) (sym step.state) (record {
        running = record { same = was.0.running.same; none_closed = was.0.running.none_closed; epoch = was.0.running.epoch; left = was.0.running.left; sure = was.0.running.sure; unspent = was.0.running.unspent };
        none_flies = refl;
      }));
      serial = serial_step m d (Deliver keys values) Done new step h;
      setup = ap (λ (x : DeskState). x.setup) step.state;
      among = none_among d (Deliver keys values) Done new (records_up_to v.epoch ended) tt step;
    }
desk_at m d v ended stage (Deliver keys values) _ new next may step turn h stands = absurd step
desk_at m d v ended stage TakeBatch reply new next may step turn h stands =
    let one : TakeStep d turn.keys new = subst (λ (r : Reply). DeskStep d TakeBatch r new) turn.told step in
    record {
      below = m;
      good = good_step m d TakeBatch reply new may step tt h;
      at_place = subst (AtDriver m new v ended) (sym turn.now) (taken m d new v turn.keys one may.1 (subst (AtDriver m d v ended) turn.was stands));
      serial = serial_step m d TakeBatch reply new step h;
      setup = ap (λ (x : DeskState). x.setup) one.state;
      among = none_among d TakeBatch reply new (records_up_to v.epoch ended) tt step;
    }
desk_at m d v ended stage Close reply new next may step turn h stands =
    let one : CloseStep d turn.writes new = subst (λ (r : Reply). DeskStep d Close r new) turn.told step in
    record {
      below = m;
      good = good_step m d Close reply new may step tt h;
      at_place = subst (AtDriver m new v ended) (sym turn.now) (close_stage m d new v turn.writes one may.1 (subst (AtDriver m d v ended) turn.was stands));
      serial = serial_step m d Close reply new step h;
      setup = ap (λ (x : DeskState). x.setup) one.state;
      among = none_among d Close reply new (records_up_to v.epoch ended) tt step;
    }
desk_at m d v ended stage (Publish epoch left) reply new next may step turn h stands =
    let one : PublishStep d turn.published new = subst (λ (r : Reply). DeskStep d (Publish epoch left) r new) turn.told step in
    record {
      below = base_map m d;
      good = good_step m d (Publish epoch left) reply new may step tt h;
      at_place = subst (AtDriver (base_map m d) new v ended) (sym turn.now) (publish_stage m d new v ended turn.published one (subst (AtDriver m d v ended) turn.was stands));
      serial = serial_step m d (Publish epoch left) reply new step h;
      setup = ap (λ (x : DeskState). x.setup) one.state;
      among = publish_among m d new v ended turn.published reply turn.told one (subst (AtDriver m d v ended) turn.was stands);
    }

-- no call makes the running epoch less
grows_to : (d want new : DeskState) → new ≡ want → d.running.epoch ≤ want.running.epoch → d.running.epoch ≤ new.running.epoch
grows_to d want new e h = subst (λ (x : DeskState). d.running.epoch ≤ x.running.epoch) (sym e) h

grows_framed : (d : DeskState) (call : Call) (reply : Reply) (new : DeskState) → LeavesDriver call → DeskStep d call reply new → d.running.epoch ≤ new.running.epoch
grows_framed d call reply new c step = (let e : new.running.epoch ≡ d.running.epoch = (framed d call reply new c step).epoch in omega (arith, e))

pub epoch_grows : (d : DeskState) (call : Call) (reply : Reply) (new : DeskState) → DeskStep d call reply new → d.running.epoch ≤ new.running.epoch
epoch_grows d TakeBatch (Batch keys) new step = grows_to d _ new step.state (omega arith)
epoch_grows d (Deliver keys values) Done new step = grows_to d _ new step.state (omega arith)
epoch_grows d Close (Writes writes) new step = grows_to d _ new step.state (omega arith)
epoch_grows d (Publish epoch left) (Published told) new step = grows_to d _ new step.state (omega arith)
epoch_grows d (Unsure f) Done new step = grows_to d _ new step.state (omega arith)
epoch_grows d (Stop f) Done new step = grows_to d (stopped_as f (is_memory f) d) new step.state (omega (arith, stopped_epoch f (is_memory f) d))
epoch_grows d (Begin c) reply new step = grows_framed d (Begin c) reply new tt step
epoch_grows d (GetKey x k) reply new step = grows_framed d (GetKey x k) reply new tt step
epoch_grows d (Poll x) reply new step = grows_framed d (Poll x) reply new tt step
epoch_grows d (Write x k value) reply new step = grows_framed d (Write x k value) reply new tt step
epoch_grows d (Commit x) reply new step = grows_framed d (Commit x) reply new tt step
epoch_grows d (Abort x) reply new step = grows_framed d (Abort x) reply new tt step
epoch_grows d (Settled x) reply new step = grows_framed d (Settled x) reply new tt step
epoch_grows d Looks reply new step = grows_framed d Looks reply new tt step
epoch_grows d (SignOff c) reply new step = grows_framed d (SignOff c) reply new tt step
epoch_grows d IsStopped reply new step = grows_framed d IsStopped reply new tt step
epoch_grows d _ _ new step = absurd step
