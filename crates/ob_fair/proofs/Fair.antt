-- Over every run of a new desk, client shares leave the refusals for want of a place that they should.
use Rattle.std.proofs.Common.{◌≡◌, ℕ, zero, suc, ◌*◌, Bool, true, false, cond, not, ◌&&◌, ◌||◌, ◌==◌, if◌then◌else◌, List, [], ◌∷◌, ◌++◌, map}
use Rattle.std.proofs.Common.{length, Option, None, Some, option_map, option_and_then, unwrap_or, is_some, slice_get, refl, sym, ap, ◌∙◌, subst, inl, inr, arith, eqb-true, eq-eqb, nat_cmp}
use Rattle.std.specs.Prelude.{All}
use Rattle.std.specs.Option.{option_or}
use Rattle.std.specs.List.{list_any, find}
use Rattle.std.proofs.lemmas.Bool.{false≢true}
use Rattle.std.proofs.lemmas.Option.{none-some, same_Some}
use Rattle.ob_base.specs.declared.fault.Fault.{Fault}
use Rattle.ob_serial.specs.Serial.{Map, TxnRecord}
use Rattle.ob_serial.specs.declared.records.Why.{Why}
use Rattle.ob_serial.specs.declared.records.Why.TheVariants.{ReadsFull, EpochEnd, Asked, Stopped}
use Rattle.ob_serial.specs.declared.records.Outcome.{Outcome}
use Rattle.ob_serial.specs.declared.records.Outcome.TheVariants.{Committed, Aborted as AbortedBy, Unsure as UnsureOf}
use Rattle.ob_base.specs.declared.op.Op.TheVariants.{Get}
use Rattle.ob_order.specs.Works.{Work, version, edit, fate_at, goes_on, wait_for, with_op, aborted, stop_work}
use Rattle.ob_order.specs.Order.{after_begin, asked, is_asked_for, write_reply, write_op}
use Rattle.ob_order.specs.declared.fate.Fate.{Fate}
use Rattle.ob_order.specs.declared.fate.Fate.TheVariants.{Going, Ended, Fell}
use Rattle.ob_order.specs.declared.answers.Wrote.{Wrote}
use Rattle.ob_order.specs.declared.answers.Wrote.TheVariants.{Yes, Conflict as Conflicts, Full as WritesAreFull}
use Rattle.ob_order.proofs.Falls.{fallen_waits, fallen_aborted, thinned_from_fallen}
use Rattle.ob_order.proofs.Counts.{none_stopped}
use Rattle.ob_shares.specs.declared.shares.Shares.{Shares}
use Rattle.ob_shares.specs.declared.named.Named.{Named}
use Rattle.ob_shares.specs.Shares.{past, with_name, AreFitting}
use Rattle.ob_desk.specs.declared.clients.Client.{Client}
use Rattle.ob_desk.specs.declared.clients.Holder.{Holder}
use Rattle.ob_desk.specs.declared.calls.Txn.{Txn}
use Rattle.ob_desk.specs.Desk.{Part, DeskState, Setup, Call, Begin, GetKey, Poll, Write, Commit, Abort, Settled, Looks, SignOff, Stop, Unsure, IsStopped, TakeBatch, Deliver, Close, Publish}
use Rattle.ob_desk.specs.Desk.{Reply, Begun, Refused, Value, Waits, Aborted, Done, IsSettled, Seen, StoppedBy, Batch, Writes, Published, DeskStep, MayCall, MayOpen, IsLast, Run, map_next, new_desk, new_client, new_holder}
use Rattle.ob_desk.specs.Desk.{why_of, cause_at, why_at, part_at, client_at, outcome_at, why_refused, end_of, note_cause, note_asked, close_to, closing, asked_at, stop_holder}
use Rattle.ob_desk.specs.Desk.{stop_part, stop_closed, stopped_by, is_memory, on_client, begin_client, sign_off_client, outcome_in, settle_client, settle, txns_from, reading, writing, read_past, write_past}
use Rattle.ob_fair.specs.Fair.{IsFairWhy, IsFairOutcome, IsFairReply, PlacesAreShared}
use Rattle.ob_fair.proofs.Lists.{Each, each_map, each_push, each_edit, each_at, each_found, has, or_false, has_drop, has_push, once_drop, once_push}
use Rattle.ob_fair.proofs.Names.{has_key, known_more, few_more, key_kept, key_here, or_left}
use Rattle.ob_fair.proofs.Places.{ReadsKept, reads_room, last_batch, read_full, WritesKept, Unwritten, unwritten_op, unwritten_thinned, unwritten_begun, unwritten_named, unwritten_put, writes_room, write_full}

-- ---- causes

abbrev IsFairCause : Shares → Option (Why ℕ) → Type 0
IsFairCause shares None = Unit {0}
IsFairCause shares (Some why) = IsFairWhy shares why

abbrev AreFair : Shares → List Holder → Type 0
AreFair shares holders = Each (λ (h : Holder). IsFairCause shares h.cause) holders

abbrev HaveFair : Shares → List Client → Type 0
HaveFair shares clients = Each (λ (c : Client). IsFairOutcome shares c.outcome) clients

cause_fair : (shares : Shares) (hs : List Holder) (t : ℕ) → AreFair shares hs → IsFairCause shares (cause_at hs t)
cause_fair shares hs zero all = tt
cause_fair shares hs (suc n) all = step (slice_get hs n) (λ h e. each_at (λ (h : Holder). IsFairCause shares h.cause) hs n h all e)
  where
    step : (o : Option Holder) → ((h : Holder) → o ≡ Some h → IsFairCause shares h.cause) → IsFairCause shares (option_and_then (λ h. h.cause) o)
    step None fair = tt
    step (Some h) fair = fair h refl

fate_fair : (shares : Shares) (cause : Option (Why ℕ)) → IsFairCause shares cause → (f : Fate) → IsFairCause shares (why_of f cause)
fate_fair shares cause fair Going = tt
fate_fair shares None fair Ended = tt
fate_fair shares (Some why) fair Ended = fair
fate_fair shares cause fair (Fell on) = tt

why_fair : (part : Part) (shares : Shares) (t : ℕ) → AreFair shares part.holders → IsFairCause shares (why_at part t)
why_fair part shares t all = step (fate_at part.order.works t)
  where
    step : (f : Option Fate) → IsFairCause shares (option_and_then (λ f. why_of f (cause_at part.holders t)) f)
    step None = tt
    step (Some f) = fate_fair shares (cause_at part.holders t) (cause_fair shares part.holders t all) f

aborted_fair : (shares : Shares) (o : Option (Why ℕ)) → IsFairCause shares o → IsFairOutcome shares (option_map AbortedBy o)
aborted_fair shares None fair = tt
aborted_fair shares (Some why) fair = fair

or_fair : (shares : Shares) (a b : Option (Outcome ℕ)) → IsFairOutcome shares a → IsFairOutcome shares b → IsFairOutcome shares (option_or a b)
or_fair shares None b at_a at_b = at_b
or_fair shares (Some a) b at_a at_b = at_a

-- how one fared whose cause is fair, or else so
fared_fair : (shares : Shares) (o : Option (Why ℕ)) (otherwise : Outcome ℕ) → IsFairCause shares o → IsFairOutcome shares (Some otherwise) → IsFairOutcome shares (Some (unwrap_or (option_map AbortedBy o) otherwise))
fared_fair shares None otherwise fair other = other
fared_fair shares (Some why) otherwise fair other = fair

-- ---- what is kept

pub record Fair (setup : Setup) (clients : List ℕ) (d : DeskState) : Type 0 where
  pub setup_is : d.setup ≡ setup
  pub fit : AreFitting d.setup.shares (length clients) d.setup.params.places d.setup.params.writes
  pub numbers : map (λ (c : Client). c.number) d.clients ≡ clients
  pub outcomes : HaveFair d.setup.shares d.clients
  pub holders : AreFair d.setup.shares d.running.holders
  pub closed : (part : Part) → d.closed ≡ Some part → AreFair d.setup.shares part.holders
  pub reads : (most : ℕ) → d.setup.shares.reads ≡ Some most → ReadsKept most clients d.running.uses.reads d.running.order.queue
  pub writes : (most : ℕ) → d.setup.shares.writes ≡ Some most → WritesKept most clients d.running.uses.writes d.running.order.works

-- ---- replies

outcome_fair : (setup : Setup) (clients : List ℕ) (d : DeskState) (x : Txn) → Fair setup clients d → IsFairOutcome d.setup.shares (outcome_at d x)
outcome_fair setup clients d x h = or_fair d.setup.shares _ _
    (told (part_at d x.epoch) (of_part (d.running.epoch == x.epoch) d.closed h.closed)) (last (client_at d x.client) (λ c e. each_found (λ (c : Client). IsFairOutcome d.setup.shares c.outcome) (λ c. c.number == x.client) d.clients c h.outcomes e))
  where
    told : (o : Option Part) → ((part : Part) → o ≡ Some part → AreFair d.setup.shares part.holders) → IsFairOutcome d.setup.shares (option_and_then (λ part. option_map AbortedBy (why_at part x.ticket)) o)
    told None all = tt
    told (Some part) all = aborted_fair d.setup.shares (why_at part x.ticket) (why_fair part d.setup.shares x.ticket (all part refl))

    in_closed : (c : Part) (b : Bool) (part : Part) → AreFair d.setup.shares c.holders → (if b then Some c else None) ≡ Some part → AreFair d.setup.shares part.holders
    in_closed c true part all e = subst (λ (p : Part). AreFair d.setup.shares p.holders) (same_Some c part e) all
    in_closed c false part all e = absurd (none-some part e)

    of_part : (b : Bool) (closed : Option Part) → ((part : Part) → closed ≡ Some part → AreFair d.setup.shares part.holders) → (part : Part)
        → (if b then Some d.running else option_and_then (λ c. if c.epoch == x.epoch then Some c else None) closed) ≡ Some part → AreFair d.setup.shares part.holders
    of_part true closed all part e = subst (λ (p : Part). AreFair d.setup.shares p.holders) (same_Some d.running part e) h.holders
    of_part false None all part e = absurd (none-some part e)
    of_part false (Some c) all part e = in_closed c (c.epoch == x.epoch) part (all c refl) e

    last : (o : Option Client) → ((c : Client) → o ≡ Some c → IsFairOutcome d.setup.shares c.outcome) → IsFairOutcome d.setup.shares (option_and_then (λ c. c.outcome) o)
    last None all = tt
    last (Some c) all = all c refl

-- the client of a call is one of the desk's
known : (setup : Setup) (clients : List ℕ) (d : DeskState) (x : Txn) → Fair setup clients d → IsLast d x → list_any (λ j. x.client == j) clients ≡ true
known setup clients d x h last = subst (λ cs. list_any (λ j. x.client == j) cs ≡ true) h.numbers (among d.clients last.found)
  where
    among : (cs : List Client) → find (λ c. c.number == x.client) cs ≡ Some last.client → list_any (λ j. x.client == j) (map (λ (c : Client). c.number) cs) ≡ true
    among [] e = absurd (none-some last.client e)
    among (c ∷ cs) e = step (c.number == x.client) refl (among cs) e
      where
        step : (b : Bool) → (c.number == x.client) ≡ b → (find (λ c. c.number == x.client) cs ≡ Some last.client → list_any (λ j. x.client == j) (map (λ (c : Client). c.number) cs) ≡ true) → cond b (Some c) (find (λ c. c.number == x.client) cs) ≡ Some last.client
            → ((x.client == c.number) || list_any (λ j. x.client == j) (map (λ (c : Client). c.number) cs)) ≡ true
        step true same rest q = or_left (x.client == c.number) _ (eq-eqb x.client c.number (sym (eqb-true c.number x.client same)))
        step false other rest q = right (x.client == c.number) _ (rest q)
          where
            right : (a b : Bool) → b ≡ true → (a || b) ≡ true
            right true b e = refl
            right false b e = e

-- the share of an option that has one
with_share : {A : Type 0} (o : Option ℕ) → is_some o ≡ true → ((most : ℕ) → o ≡ Some most → A) → A
with_share None e f = absurd (false≢true e)
with_share (Some most) e f = f most refl

-- a get that finds no place
full_fair : (setup : Setup) (clients : List ℕ) (d : DeskState) (x : Txn) (k queued left : ℕ) → Fair setup clients d → IsLast d x → read_past d x k ≡ None
    → (has k d.running.order.queue ≡ false) × (length d.running.order.queue ≡ d.setup.params.places * d.running.order.left) × (length d.running.order.queue ≡ queued) × (d.running.order.left ≡ left)
    → IsFairWhy d.setup.shares (ReadsFull queued left)
full_fair setup clients d x k queued left h last within told share = with_share d.setup.shares.reads share (λ most is.
    let room = reads_room most x.client k d.setup.params.places clients d.running.uses.reads d.running.order.queue (h.reads most is) (known setup clients d x h last) (subst (λ s. past s d.running.uses.reads x.client k ≡ None) is within) (h.fit.reads most is) told.0 in
    let none = last_batch (length d.running.order.queue) d.setup.params.places d.running.order.left told.1 room in
    (sym told.2 ∙ none.0, sym told.3 ∙ none.1))

-- a write that is refused
refused_fair : (setup : Setup) (clients : List ℕ) (d : DeskState) (x : Txn) (k : ℕ) (why : Why ℕ) → Fair setup clients d → IsLast d x → write_past d x k ≡ None
    → (w : Wrote) → write_reply d.setup.params d.running.order x.ticket k ≡ w → why_refused w ≡ Some why → IsFairWhy d.setup.shares why
refused_fair setup clients d x k why h last within Yes is e = absurd (none-some why e)
refused_fair setup clients d x k why h last within (Conflicts key reader) is e = subst (IsFairWhy d.setup.shares) (same_Some _ why e) tt
refused_fair setup clients d x k why h last within (WritesAreFull keys) is e = subst (IsFairWhy d.setup.shares) (same_Some _ why e) (λ share. with_share d.setup.shares.writes share (λ most at.
    let room = writes_room most x.client k d.setup.params.keys d.setup.params.writes clients d.running.uses.writes d.running.order.works (h.writes most at) (known setup clients d x h last) (subst (λ s. past s d.running.uses.writes x.client k ≡ None) at within) (h.fit.writes most at) in
    let full = write_full d.setup.params d.running.order x.ticket k keys is in
    absurd (omega (arith, room, full))))

-- what is told of a part
txns_fair : (shares : Shares) (epoch t : ℕ) (ws : List Work) (hs : List Holder) → AreFair shares hs → Each (λ (x : TxnRecord ℕ). IsFairOutcome shares (Some x.outcome)) (txns_from epoch t ws hs)
txns_fair shares epoch t [] hs all = tt
txns_fair shares epoch t (w ∷ ws) [] all = tt
txns_fair shares epoch t (w ∷ ws) (x ∷ hs) all = (fared_fair shares (why_of w.fate x.cause) Committed (fate_fair shares x.cause all.0 w.fate) tt, txns_fair shares epoch (suc t) ws hs all.1)

all_of : {A : Type 0} (P : A → Type 0) (xs : List A) → Each P xs → All P xs
all_of P [] all k d l = absurd (omega (arith, l))
all_of P (x ∷ xs) all zero d l = all.0
all_of P (x ∷ xs) all (suc k) d l = all_of P xs all.1 k d (omega (arith, l))

was_fair : (setup : Setup) (clients : List ℕ) (d : DeskState) (x : Txn) (why : Why ℕ) → Fair setup clients d → outcome_at d x ≡ Some (AbortedBy why) → IsFairWhy d.setup.shares why
was_fair setup clients d x why h e = subst (IsFairOutcome d.setup.shares) e (outcome_fair setup clients d x h)

reply_fair : (setup : Setup) (clients : List ℕ) (d : DeskState) (call : Call) (reply : Reply) (new : DeskState) → Fair setup clients d → MayCall d call → DeskStep d call reply new → IsFairReply d.setup.shares reply
reply_fair setup clients d (Begin client) (Begun x) new h may step = tt
reply_fair setup clients d (Begin client) (Refused f) new h may step = tt
reply_fair setup clients d (GetKey x k) (Value value) new h may step = tt
reply_fair setup clients d (GetKey x k) Waits new h may step = tt
reply_fair setup clients d (GetKey x k) (Aborted why) new h may (inl step) = was_fair setup clients d x why h step.earlier
reply_fair setup clients d (GetKey x k) (Aborted why) new h may (inr (inl step)) = subst (IsFairWhy d.setup.shares) (sym step.cause) (full_fair setup clients d x k step.queued step.left h may.0 step.within (read_full d.setup.params d.running.order x.ticket k step.queued step.left step.reply))
reply_fair setup clients d (GetKey x k) (Aborted why) new h may (inr (inr step)) = subst (IsFairWhy d.setup.shares) (sym step.cause) tt
reply_fair setup clients d (Poll x) (Value value) new h may step = tt
reply_fair setup clients d (Poll x) Waits new h may step = tt
reply_fair setup clients d (Poll x) (Aborted why) new h may step = was_fair setup clients d x why h step.earlier
reply_fair setup clients d (Write x k value) Done new h may step = tt
reply_fair setup clients d (Write x k value) (Aborted why) new h may (inl step) = was_fair setup clients d x why h step.earlier
reply_fair setup clients d (Write x k value) (Aborted why) new h may (inr (inl step)) = refused_fair setup clients d x k why h may.0 step.within (write_reply d.setup.params d.running.order x.ticket k) refl step.cause
reply_fair setup clients d (Write x k value) (Aborted why) new h may (inr (inr step)) = subst (IsFairWhy d.setup.shares) (sym step.cause) tt
reply_fair setup clients d (Commit x) Done new h may step = tt
reply_fair setup clients d (Commit x) (Aborted why) new h may step = was_fair setup clients d x why h step.earlier
reply_fair setup clients d (Abort x) (Aborted why) new h may (inl step) = was_fair setup clients d x why h step.earlier
reply_fair setup clients d (Abort x) (Aborted why) new h may (inr step) = subst (IsFairWhy d.setup.shares) (sym step.cause) tt
reply_fair setup clients d (Settled x) (IsSettled outcome) new h may step = subst (IsFairOutcome d.setup.shares) (sym step.0) (outcome_fair setup clients d x h)
reply_fair setup clients d Looks (Seen look) new h may step = tt
reply_fair setup clients d (SignOff client) Done new h may step = tt
reply_fair setup clients d (Stop f) Done new h may step = tt
reply_fair setup clients d (Unsure f) Done new h may step = tt
reply_fair setup clients d IsStopped (StoppedBy fault) new h may step = tt
reply_fair setup clients d TakeBatch (Batch keys) new h may step = tt
reply_fair setup clients d (Deliver keys values) Done new h may step = tt
reply_fair setup clients d Close (Writes writes) new h may step = tt
reply_fair setup clients d (Publish epoch left) (Published told) new h may step =
    subst (λ (ts : List (TxnRecord ℕ)). All (λ (t : TxnRecord ℕ). IsFairOutcome d.setup.shares (Some t.outcome)) ts) (ap (λ r. r.txns) (sym step.record_is))
    (all_of (λ (t : TxnRecord ℕ). IsFairOutcome d.setup.shares (Some t.outcome)) _ (txns_fair d.setup.shares step.part.epoch 1 step.part.order.works step.part.holders (h.closed step.part step.is_closed)))
reply_fair setup clients d _ _ new h may step = absurd step

-- ---- what stays

fair_new : (setup : Setup) (epoch left : ℕ) (clients : List ℕ) → MayOpen setup epoch left clients → Fair setup clients (new_desk setup epoch left clients)
fair_new setup epoch left clients may = record {
  setup_is = refl;
  fit = may.fit;
  numbers = same_numbers clients;
  outcomes = none_yet clients;
  holders = tt;
  closed = λ part is. absurd (none-some part is);
  reads = λ most is. record { known = tt; few = λ c. omega arith; once = tt; named = λ k e. absurd (false≢true e) };
  writes = λ most is. record { known = tt; few = λ c. omega arith; unwritten = λ u k e. no_version u k };
}
  where
    same_numbers : (cs : List ℕ) → map (λ (c : Client). c.number) (map new_client cs) ≡ cs
    same_numbers [] = refl
    same_numbers (c ∷ cs) = ap (λ ns. c ∷ ns) (same_numbers cs)

    none_yet : (cs : List ℕ) → HaveFair setup.shares (map new_client cs)
    none_yet [] = tt
    none_yet (c ∷ cs) = (tt, none_yet cs)

    no_version : (u k : ℕ) → version [] u k ≡ None
    no_version zero k = refl
    no_version (suc u) k = refl

stays : (setup : Setup) (clients : List ℕ) (d new : DeskState) → new ≡ d → Fair setup clients d → Fair setup clients new
stays setup clients d new e h = subst (Fair setup clients) (sym e) h

-- only the running part changed
in_running : (setup : Setup) (clients : List ℕ) (d new : DeskState) (part : Part) → new ≡ record d { running = part } → AreFair d.setup.shares part.holders
    → ((most : ℕ) → d.setup.shares.reads ≡ Some most → ReadsKept most clients part.uses.reads part.order.queue)
    → ((most : ℕ) → d.setup.shares.writes ≡ Some most → WritesKept most clients part.uses.writes part.order.works) → Fair setup clients d → Fair setup clients new
in_running setup clients d new part e holders reads writes h = subst (Fair setup clients) (sym e) (record {
  setup_is = h.setup_is;
  fit = h.fit;
  numbers = h.numbers;
  outcomes = h.outcomes;
  holders = holders;
  closed = h.closed;
  reads = reads;
  writes = writes;
})

-- works with no version more
thinned : (most : ℕ) (clients : List ℕ) (names : List Named) (ws vs : List Work) → WritesKept most clients names ws → ((names : List Named) → Unwritten names ws → Unwritten names vs) → WritesKept most clients names vs
thinned most clients names ws vs h f = record { known = h.known; few = h.few; unwritten = f names h.unwritten }

-- one is aborted
fair_end : (setup : Setup) (clients : List ℕ) (d new : DeskState) (t : ℕ) (why : Why ℕ) → new ≡ record d { running = end_of d.running t why } → IsFairWhy d.setup.shares why → Fair setup clients d → Fair setup clients new
fair_end setup clients d new t why e fair h = in_running setup clients d new (end_of d.running t why) e
    (each_edit (λ (x : Holder). IsFairCause d.setup.shares x.cause) (note_cause why) (λ x p. fair) d.running.holders t h.holders)
    h.reads
    (λ most is. thinned most clients d.running.uses.writes d.running.order.works (aborted d.running.order.works t) (h.writes most is)
    (λ names un. unwritten_thinned names d.running.order.works (aborted d.running.order.works t) un (thinned_from_fallen d.running.order.works (aborted d.running.order.works t) (fallen_aborted d.running.order.works t))))
    h

-- a get named its key
fair_reading : (setup : Setup) (clients : List ℕ) (d : DeskState) (x : Txn) (k : ℕ) → IsLast d x → read_past d x k ≡ None → Fair setup clients d → Fair setup clients (reading d x k)
fair_reading setup clients d x k last within h = in_running setup clients d (reading d x k) (reading d x k).running refl h.holders
    (λ most is. subst (λ s. ReadsKept most clients (with_name s d.running.uses.reads x.client k) d.running.order.queue) (sym is)
    (let kept = h.reads most is in let passes = subst (λ s. past s d.running.uses.reads x.client k ≡ None) is within in record {
      known = known_more clients most x.client k d.running.uses.reads (known setup clients d x h last) kept.known;
      few = few_more most x.client k d.running.uses.reads passes kept.few;
      once = kept.once;
      named = λ j e. key_kept most x.client k j d.running.uses.reads (kept.named j e);
    }))
    h.writes h

-- a put or del named its key
fair_writing : (setup : Setup) (clients : List ℕ) (d : DeskState) (x : Txn) (k : ℕ) → IsLast d x → write_past d x k ≡ None → Fair setup clients d → Fair setup clients (writing d x k)
fair_writing setup clients d x k last within h = in_running setup clients d (writing d x k) (writing d x k).running refl h.holders h.reads
    (λ most is. subst (λ s. WritesKept most clients (with_name s d.running.uses.writes x.client k) d.running.order.works) (sym is)
    (let kept = h.writes most is in let passes = subst (λ s. past s d.running.uses.writes x.client k ≡ None) is within in record {
      known = known_more clients most x.client k d.running.uses.writes (known setup clients d x h last) kept.known;
      few = few_more most x.client k d.running.uses.writes passes kept.few;
      unwritten = unwritten_named most x.client k d.running.uses.writes d.running.order.works kept.unwritten;
    }))
    h

-- a get is answered
answered : (setup : Setup) (clients : List ℕ) (d : DeskState) (t k : ℕ) (value : Option (List ℕ)) (source : ℕ) → Fair setup clients d
    → (most : ℕ) → d.setup.shares.writes ≡ Some most → WritesKept most clients d.running.uses.writes (with_op d.running.order.works t (Get k value source))
answered setup clients d t k value source h most is = thinned most clients d.running.uses.writes d.running.order.works (with_op d.running.order.works t (Get k value source)) (h.writes most is)
    (λ names un. unwritten_op names d.running.order.works t (Get k value source) un (λ j e. refl))

-- a get waits: its key, which it named, is queued
queued : (setup : Setup) (clients : List ℕ) (d : DeskState) (x : Txn) (k : ℕ) → Fair setup clients (reading d x k) → (most : ℕ) → d.setup.shares.reads ≡ Some most → ReadsKept most clients (reading d x k).running.uses.reads (asked d.running.order k).queue
queued setup clients d x k h most is = step (is_asked_for d.running.order k) refl
  where
    kept : ReadsKept most clients (reading d x k).running.uses.reads d.running.order.queue
    kept = h.reads most is

    here : has_key (reading d x k).running.uses.reads k ≡ true
    here = subst (λ s. has_key (with_name s d.running.uses.reads x.client k) k ≡ true) (sym is) (key_here most x.client k d.running.uses.reads)

    member : (j : ℕ) (a b : Bool) → has j d.running.order.queue ≡ a → (k == j) ≡ b → (a || b) ≡ true → has_key (reading d x k).running.uses.reads j ≡ true
    member j true b at_queue at_key e = kept.named j at_queue
    member j false true at_queue at_key e = subst (λ q. has_key (reading d x k).running.uses.reads q ≡ true) (eqb-true k j at_key) here
    member j false false at_queue at_key e = absurd (false≢true e)

    step : (b : Bool) → is_asked_for d.running.order k ≡ b → ReadsKept most clients (reading d x k).running.uses.reads (if b then d.running.order else record d.running.order { queue = d.running.order.queue ++ k ∷ [] }).queue
    step true asked_for = kept
    step false new = record {
      known = kept.known;
      few = kept.few;
      once = once_push k d.running.order.queue (or_false (has k d.running.order.queue) _ new).0 kept.once;
      named = λ j e. member j (has j d.running.order.queue) (k == j) refl refl (sym (has_push j k d.running.order.queue) ∙ e);
    }

-- the clients, where their outcomes and numbers are kept
on_clients : (setup : Setup) (clients : List ℕ) (d new : DeskState) (f : Client → Client) → new ≡ record d { clients = map f d.clients } → ((c : Client) → (f c).number ≡ c.number) → ((c : Client) → IsFairOutcome d.setup.shares c.outcome → IsFairOutcome d.setup.shares (f c).outcome)
    → Fair setup clients d → Fair setup clients new
on_clients setup clients d new f e same fair h = subst (Fair setup clients) (sym e) (record {
  setup_is = h.setup_is;
  fit = h.fit;
  numbers = numbered d.clients ∙ h.numbers;
  outcomes = each_map (λ (c : Client). IsFairOutcome d.setup.shares c.outcome) (λ (c : Client). IsFairOutcome d.setup.shares c.outcome) f fair d.clients h.outcomes;
  holders = h.holders;
  closed = h.closed;
  reads = h.reads;
  writes = h.writes;
})
  where
    numbered : (cs : List Client) → map (λ (c : Client). c.number) (map f cs) ≡ map (λ (c : Client). c.number) cs
    numbered [] = refl
    numbered (c ∷ cs) = ap (λ ns. (f c).number ∷ ns) (numbered cs) ∙ ap (λ n. n ∷ map (λ (c : Client). c.number) cs) (same c)

-- one client changed
one_client : (setup : Setup) (clients : List ℕ) (d new : DeskState) (f : Client → Client) (number : ℕ) → new ≡ record d { clients = on_client f d.clients number }
    → ((c : Client) → (f c).number ≡ c.number) → ((c : Client) → IsFairOutcome d.setup.shares c.outcome → IsFairOutcome d.setup.shares (f c).outcome)
    → Fair setup clients d → Fair setup clients new
one_client setup clients d new f number e same fair h = on_clients setup clients d new (λ c. if c.number == number then f c else c) e (λ c. numbered c (c.number == number)) (λ c p. left c (c.number == number) p) h
  where
    numbered : (c : Client) (b : Bool) → (if b then f c else c).number ≡ c.number
    numbered c true = same c
    numbered c false = refl

    left : (c : Client) (b : Bool) → IsFairOutcome d.setup.shares c.outcome → IsFairOutcome d.setup.shares (if b then f c else c).outcome
    left c true p = fair c p
    left c false p = p

-- a part ends
settled : (setup : Setup) (clients : List ℕ) (d : DeskState) (part : Part) (otherwise : Outcome ℕ) → AreFair d.setup.shares part.holders → IsFairOutcome d.setup.shares (Some otherwise) → Fair setup clients d
    → Fair setup clients (record d { clients = settle part otherwise d.clients })
settled setup clients d part otherwise all fair h = on_clients setup clients d (record d { clients = settle part otherwise d.clients }) (settle_client part otherwise) refl (λ c. refl)
    (λ c p. or_fair d.setup.shares _ c.outcome (ended c.last) p) h
  where
    of_part : (b : Bool) (x : Txn) → IsFairOutcome d.setup.shares (if b then Some (outcome_in part otherwise x.ticket) else None)
    of_part true x = fared_fair d.setup.shares (why_at part x.ticket) otherwise (why_fair part d.setup.shares x.ticket all) fair
    of_part false x = tt

    ended : (o : Option Txn) → IsFairOutcome d.setup.shares (option_and_then (λ x. if x.epoch == part.epoch then Some (outcome_in part otherwise x.ticket) else None) o)
    ended None = tt
    ended (Some x) = of_part (x.epoch == part.epoch) x

-- no part is closed any more
opened : (setup : Setup) (clients : List ℕ) (d : DeskState) → Fair setup clients d → Fair setup clients (record d { closed = None })
opened setup clients d h = record {
  setup_is = h.setup_is;
  fit = h.fit;
  numbers = h.numbers;
  outcomes = h.outcomes;
  holders = h.holders;
  closed = λ part is. absurd (none-some part is);
  reads = h.reads;
  writes = h.writes;
}

-- all that go on are stopped
halted : (setup : Setup) (clients : List ℕ) (d : DeskState) (f : Fault) → Fair setup clients d → Fair setup clients (record d { stop = option_or d.stop (Some f); running = stop_part f d.running })
halted setup clients d f h = record {
  setup_is = h.setup_is;
  fit = h.fit;
  numbers = h.numbers;
  outcomes = h.outcomes;
  holders = each_map (λ (x : Holder). IsFairCause d.setup.shares x.cause) (λ (x : Holder). IsFairCause d.setup.shares x.cause) (stop_holder f) (λ x p. noted x.cause p) d.running.holders h.holders;
  closed = h.closed;
  reads = h.reads;
  writes = λ most is. thinned most clients d.running.uses.writes d.running.order.works (map stop_work d.running.order.works) (h.writes most is) (λ names un u k e. none_stopped d.running.order.works u k);
}
  where
    noted : (o : Option (Why ℕ)) → IsFairCause d.setup.shares o → IsFairCause d.setup.shares (option_or o (Some (Stopped f)))
    noted None p = tt
    noted (Some why) p = p

stopped : (setup : Setup) (clients : List ℕ) (d : DeskState) (f : Fault) → Fair setup clients d → Fair setup clients (stopped_by f d)
stopped setup clients d f h = step (is_memory f) d.closed refl
  where
    now : DeskState
    now = record d { stop = option_or d.stop (Some f); running = stop_part f d.running }

    step : (b : Bool) (o : Option Part) → d.closed ≡ o → Fair setup clients (if b then record d { stop = option_or d.stop (Some f); running = stop_part f d.running } else stop_closed f (record d { stop = option_or d.stop (Some f); running = stop_part f d.running }))
    step true o is = halted setup clients d f h
    step false None is = subst (λ (q : Option Part). Fair setup clients (record d { stop = option_or d.stop (Some f); running = stop_part f d.running; closed = None; clients = unwrap_or (option_map (λ c. settle c (AbortedBy (Stopped f)) d.clients) q) d.clients })) (sym is)
        (opened setup clients _ (halted setup clients d f h))
    step false (Some part) is = subst (λ (q : Option Part). Fair setup clients (record d { stop = option_or d.stop (Some f); running = stop_part f d.running; closed = None; clients = unwrap_or (option_map (λ c. settle c (AbortedBy (Stopped f)) d.clients) q) d.clients })) (sym is)
        (opened setup clients _ (settled setup clients (record d { stop = option_or d.stop (Some f); running = stop_part f d.running }) part (AbortedBy (Stopped f)) (h.closed part is) tt (halted setup clients d f h)))

closed_fair : (shares : Shares) (part : Part) (n : ℕ) → AreFair shares part.holders → AreFair shares (close_to part n).holders
closed_fair shares part zero all = all
closed_fair shares part (suc n) all = step (goes_on (close_to part n).order.works (suc n) && not (asked_at (close_to part n) (suc n))) (closed_fair shares part n all)
  where
    step : (b : Bool) → AreFair shares (close_to part n).holders → AreFair shares (if b then end_of (close_to part n) (suc n) EpochEnd else close_to part n).holders
    step true rest = each_edit (λ (x : Holder). IsFairCause shares x.cause) (note_cause EpochEnd) (λ x p. tt) (close_to part n).holders (suc n) rest
    step false rest = rest

fair_step : (setup : Setup) (clients : List ℕ) (d : DeskState) (call : Call) (reply : Reply) (new : DeskState) → MayCall d call → DeskStep d call reply new → Fair setup clients d → Fair setup clients new
fair_step setup clients d (Begin client) (Begun x) new may step h = subst (Fair setup clients) (sym step.state)
    (one_client setup clients _ _ (begin_client x) client refl (λ c. refl) (λ c p. tt)
    (in_running setup clients d (record d { running = record d.running { order = after_begin d.running.order; holders = d.running.holders ++ new_holder client ∷ [] } }) _ refl
    (each_push (λ (x : Holder). IsFairCause d.setup.shares x.cause) d.running.holders (new_holder client) h.holders tt) h.reads
    (λ most is. thinned most clients d.running.uses.writes d.running.order.works _ (h.writes most is) (λ names un. unwritten_begun names d.running.order.works un)) h))
fair_step setup clients d (Begin client) (Refused f) new may step h = stays setup clients d new step.same h
fair_step setup clients d (GetKey x k) (Value value) new may step h =
    let r = fair_reading setup clients d x k may.0 step.within h in
    in_running setup clients (reading d x k) new _ step.state r.holders r.reads (answered setup clients (reading d x k) x.ticket k value step.source r) r
fair_step setup clients d (GetKey x k) Waits new may step h =
    let r = fair_reading setup clients d x k may.0 step.within h in
    let ws = d.running.order.works in
    in_running setup clients (reading d x k) new _ step.state r.holders (queued setup clients d x k r)
    (λ most is. thinned most clients d.running.uses.writes ws (edit (wait_for k) ws x.ticket) (h.writes most is) (λ names un. unwritten_thinned names ws (edit (wait_for k) ws x.ticket) un (thinned_from_fallen ws (edit (wait_for k) ws x.ticket) (fallen_waits ws x.ticket k)))) r
fair_step setup clients d (GetKey x k) (Aborted why) new may (inl step) h = stays setup clients d new step.same h
fair_step setup clients d (GetKey x k) (Aborted why) new may (inr (inl step)) h = fair_end setup clients (reading d x k) new x.ticket why step.state (reply_fair setup clients d (GetKey x k) (Aborted why) new h may (inr (inl step))) (fair_reading setup clients d x k may.0 step.within h)
fair_step setup clients d (GetKey x k) (Aborted why) new may (inr (inr step)) h = fair_end setup clients d new x.ticket why step.state (reply_fair setup clients d (GetKey x k) (Aborted why) new h may (inr (inr step))) h
fair_step setup clients d (Poll x) (Value value) new may step h = in_running setup clients d new _ step.state h.holders h.reads (answered setup clients d x.ticket step.key value step.source h) h
fair_step setup clients d (Poll x) Waits new may step h = stays setup clients d new step.same h
fair_step setup clients d (Poll x) (Aborted why) new may step h = stays setup clients d new step.same h
fair_step setup clients d (Write x k value) Done new may step h =
    in_running setup clients (writing d x k) new _ step.state h.holders h.reads
    (λ most is. subst (λ s. WritesKept most clients (with_name s d.running.uses.writes x.client k) (with_op d.running.order.works x.ticket (write_op k value))) (sym is)
    (let kept = h.writes most is in let passes = subst (λ s. past s d.running.uses.writes x.client k ≡ None) is step.within in record {
      known = known_more clients most x.client k d.running.uses.writes (known setup clients d x h may.0) kept.known;
      few = few_more most x.client k d.running.uses.writes passes kept.few;
      unwritten = unwritten_put most x.client k x.ticket value d.running.uses.writes d.running.order.works kept.unwritten;
    }))
    (fair_writing setup clients d x k may.0 step.within h)
fair_step setup clients d (Write x k value) (Aborted why) new may (inl step) h = stays setup clients d new step.same h
fair_step setup clients d (Write x k value) (Aborted why) new may (inr (inl step)) h = fair_end setup clients (writing d x k) new x.ticket why step.state (reply_fair setup clients d (Write x k value) (Aborted why) new h may (inr (inl step))) (fair_writing setup clients d x k may.0 step.within h)
fair_step setup clients d (Write x k value) (Aborted why) new may (inr (inr step)) h = fair_end setup clients d new x.ticket why step.state (reply_fair setup clients d (Write x k value) (Aborted why) new h may (inr (inr step))) h
fair_step setup clients d (Commit x) Done new may step h = in_running setup clients d new _ step.state (each_edit (λ (x : Holder). IsFairCause d.setup.shares x.cause) note_asked (λ x p. p) d.running.holders x.ticket h.holders) h.reads h.writes h
fair_step setup clients d (Commit x) (Aborted why) new may step h = stays setup clients d new step.same h
fair_step setup clients d (Abort x) (Aborted why) new may (inl step) h = stays setup clients d new step.same h
fair_step setup clients d (Abort x) (Aborted why) new may (inr step) h = fair_end setup clients d new x.ticket Asked step.state tt h
fair_step setup clients d (Settled x) (IsSettled outcome) new may step h = stays setup clients d new step.1 h
fair_step setup clients d Looks (Seen look) new may step h = stays setup clients d new step.1 h
fair_step setup clients d (SignOff client) Done new may step h = one_client setup clients d new sign_off_client client step.state (λ c. refl) (λ c p. p) h
fair_step setup clients d (Stop f) Done new may step h = subst (Fair setup clients) (sym step.state) (stopped setup clients d f h)
fair_step setup clients d (Unsure f) Done new may step h = subst (Fair setup clients) (sym step.state)
    (opened setup clients _ (settled setup clients (record d { stop = option_or d.stop (Some f); running = stop_part f d.running }) step.part (UnsureOf step.part.epoch) (h.closed step.part step.is_closed) tt (halted setup clients d f h)))
fair_step setup clients d IsStopped (StoppedBy fault) new may step h = stays setup clients d new step.1 h
fair_step setup clients d TakeBatch (Batch keys) new may step h = in_running setup clients d new _ step.state h.holders
    (λ most is. let kept = h.reads most is in record {
      known = kept.known;
      few = kept.few;
      once = once_drop d.setup.params.places d.running.order.queue kept.once;
      named = λ k e. kept.named k (has_drop k d.setup.params.places d.running.order.queue e);
    }) h.writes h
fair_step setup clients d (Deliver keys values) Done new may step h = in_running setup clients d new _ step.state h.holders h.reads h.writes h
fair_step setup clients d Close (Writes writes) new may step h = subst (Fair setup clients) (sym step.state) (record {
  setup_is = h.setup_is;
  fit = h.fit;
  numbers = h.numbers;
  outcomes = h.outcomes;
  holders = tt;
  closed = λ part is. subst (λ (p : Part). AreFair d.setup.shares p.holders) (same_Some (closing d.running) part is) (closed_fair d.setup.shares d.running (length d.running.order.works) h.holders);
  reads = λ most is. record { known = tt; few = λ c. omega arith; once = tt; named = λ k e. absurd (false≢true e) };
  writes = λ most is. record { known = tt; few = λ c. omega arith; unwritten = λ u k e. no_version u k };
})
  where
    no_version : (u k : ℕ) → version [] u k ≡ None
    no_version zero k = refl
    no_version (suc u) k = refl
fair_step setup clients d (Publish epoch left) (Published told) new may step h = subst (Fair setup clients) (sym step.state) (opened setup clients _ (settled setup clients d step.part Committed (h.closed step.part step.is_closed) tt h))
fair_step setup clients d _ _ new may step h = absurd step

fair_run : (setup : Setup) (clients : List ℕ) (m : Map nat_cmp) (d : DeskState) (steps : List (Call × Reply)) (last : Map nat_cmp) (new : DeskState) → Run m d steps last new → Fair setup clients d → Fair setup clients new
fair_run setup clients m d [] last new run h = subst (Fair setup clients) (sym run.1) h
fair_run setup clients m d (step ∷ steps) last new run h = fair_run setup clients (map_next m d step.0) run.0 steps last new run.4 (fair_step setup clients d step.0 step.1 run.0 run.1 run.2 h)

pub places_are_shared : PlacesAreShared
places_are_shared setup epoch left clients m last steps d may run call reply new can step =
    let h = fair_run setup clients m (new_desk setup epoch left clients) steps last d run (fair_new setup epoch left clients may) in
    subst (λ (s : Setup). IsFairReply s.shares reply) h.setup_is (reply_fair setup clients d call reply new h can step)
