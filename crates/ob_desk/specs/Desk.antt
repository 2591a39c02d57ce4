-- The desk: what each of its calls may answer, and what it leaves.
use Rattle.std.specs.Prelude.{◌≤◌, ◌^◌, All, ℕ, zero, suc, ◌≡◌, ◌-◌, ◌<◌, Bool, true, false, not, ◌&&◌, ◌||◌, if◌then◌else◌, ◌==◌, ◌⊎◌, List, [], ◌∷◌, ◌++◌, length, map, replicate, slice_get}
use Rattle.std.specs.Option.{option_or, option_map, option_and_then, unwrap_or, is_some, is_none}
use Rattle.std.specs.List.{count_by, range_with_len, find}
use Rattle.std.specs.declared.option.Option.{Option}
use Rattle.std.specs.declared.option.Option.TheVariants.{None, Some}
use Rattle.std.specs.Ordering.{nat_cmp}
use Rattle.std.specs.List.Sorted.{IsStrictlyIncreasing}
use Rattle.std.specs.FinMap as finite
use Rattle.ob_serial.specs.Serial.{TxnRecord, EpochRecord, Map, OneByOne, committed_of}
use Rattle.ob_serial.specs.Vaults.{with_writes}
use Rattle.ob_order.specs.Works.{Work, at_ticket, edit, fate_at, waiting_at as waits_in, goes_on, last_writes}
use Rattle.ob_desk.specs.Replay.{EachReplays}
use Rattle.ob_order.specs.Order.{OrderState, new_order, after_begin, answer, read_reply, after_read, again_reply, after_again, write_reply, after_write, after_abort, after_stop, batch_of, after_take, after_deliver}
use Rattle.ob_order.specs.declared.fate.Fate.{Fate}
use Rattle.ob_order.specs.declared.fate.Fate.TheVariants.{Going, Ended, Fell}
use Rattle.ob_base.specs.Clients.{IsClientNumber}
use Rattle.ob_base.specs.declared.params.Params.{Params}
use Rattle.ob_order.specs.declared.answers.Read.TheVariants.{Value as Found, Queued, Full as ReadsAreFull}
use Rattle.ob_order.specs.declared.answers.Wrote.{Wrote}
use Rattle.ob_order.specs.declared.answers.Wrote.TheVariants.{Yes, Conflict as Conflicts, Full as WritesAreFull}
use Rattle.ob_shares.specs.declared.shares.Shares.{Shares}
use Rattle.ob_shares.specs.Shares.{no_shares, Uses, none_used, past, with_name, AreFitting}
pub use Rattle.ob_base.specs.declared.fault.Fault.{Fault}
pub use Rattle.ob_base.specs.declared.fault.Fault.TheVariants.{Memory}
pub use Rattle.ob_serial.specs.declared.records.Why.{Why}
pub use Rattle.ob_serial.specs.declared.records.Why.TheVariants.{Conflict, Depends, ReadsFull, WritesFull, ShareReads, ShareWrites, EpochEnd, Asked, Stopped}
pub use Rattle.ob_serial.specs.declared.records.Outcome.{Outcome}
pub use Rattle.ob_serial.specs.declared.records.Outcome.TheVariants.{Committed, Aborted as AbortedBy, Unsure as UnsureOf}
pub use Rattle.ob_desk.specs.declared.calls.Txn.{Txn}
pub use Rattle.ob_desk.specs.declared.calls.Look.{Look}
pub use Rattle.ob_desk.specs.declared.clients.Holder.{Holder}
pub use Rattle.ob_desk.specs.declared.clients.Client.{Client}

-- one epoch: by ticket, works (in order) and holders; and what clients' calls named
pub record Part : Type 0 where
  pub epoch : ℕ
  pub order : OrderState
  pub holders : List Holder
  pub uses : Uses

-- what a desk keeps for life
pub record Setup : Type 0 where
  pub params : Params
  pub shares : Shares

-- a desk's with these parameters and client shares
abbrev pub setup_with : Params → Shares → Setup
setup_with params shares = record { params = params; shares = shares }

-- a desk's with these parameters and no shares
abbrev pub setup_of : Params → Setup
setup_of params = setup_with params no_shares

-- The running epoch, and beside it a closed one until it is published, stopped or in doubt.
pub record DeskState : Type 0 where
  pub setup : Setup
  pub clients : List Client
  pub stop : Option Fault
  pub running : Part
  pub closed : Option Part

-- an epoch that begins
abbrev pub new_part : ℕ → ℕ → Part
new_part epoch left = record { epoch = epoch; order = new_order left; holders = []; uses = none_used }

-- a client that has begun nothing
abbrev pub new_client : ℕ → Client
new_client number = record { number = number; last = None; outcome = None; signed_off = false }

-- a desk with its first epoch and the batches that it has left, and its clients' numbers
abbrev pub new_desk : Setup → ℕ → ℕ → List ℕ → DeskState
new_desk setup epoch left numbers = record { setup = setup; clients = map new_client numbers; stop = None; running = new_part epoch left; closed = None }

-- why one was aborted: because of a source, or for the cause that was noted
abbrev pub why_of : Fate → Option (Why ℕ) → Option (Why ℕ)
why_of Going cause = None
why_of Ended cause = Some (unwrap_or cause Asked)
why_of (Fell on) cause = Some (Depends on)

-- the cause that was noted for ticket t
abbrev pub cause_at : List Holder → ℕ → Option (Why ℕ)
cause_at hs t = option_and_then (λ h. h.cause) (at_ticket hs t)

-- why ticket t of these was aborted, if it was
abbrev pub why_in : List Work → List Holder → ℕ → Option (Why ℕ)
why_in ws hs t = option_and_then (λ f. why_of f (cause_at hs t)) (fate_at ws t)

-- why ticket t was aborted, if it was
abbrev pub why_at : Part → ℕ → Option (Why ℕ)
why_at part t = why_in part.order.works part.holders t

-- the part of this epoch, where it is running or closed
abbrev pub part_at : DeskState → ℕ → Option Part
part_at d epoch = if d.running.epoch == epoch then Some d.running else option_and_then (λ c. if c.epoch == epoch then Some c else None) d.closed

-- the client of this number
abbrev pub client_in : List Client → ℕ → Option Client
client_in clients number = find (λ c. c.number == number) clients

-- the desk's client of this number
abbrev pub client_at : DeskState → ℕ → Option Client
client_at d number = client_in d.clients number

-- how a client's last transaction ended, if it has
abbrev pub outcome_at : DeskState → Txn → Option (Outcome ℕ)
outcome_at d x = option_or
    (option_and_then (λ part. option_map AbortedBy (why_at part x.ticket)) (part_at d x.epoch))
    (option_and_then (λ c. c.outcome) (client_at d x.client))

-- why it was aborted, where that is the outcome
abbrev pub aborted_why : Option (Outcome ℕ) → Option (Why ℕ)
aborted_why None = None
aborted_why (Some Committed) = None
aborted_why (Some (AbortedBy why)) = Some why
aborted_why (Some (UnsureOf epoch)) = None

-- whether ticket t asked to commit
abbrev pub asked_at : Part → ℕ → Bool
asked_at part t = unwrap_or (option_map (λ h. h.asked) (at_ticket part.holders t)) false

-- the key of ticket t's unanswered get
abbrev pub waiting_at : Part → ℕ → Option ℕ
waiting_at part t = waits_in part.order.works t

-- it goes on, and either asked to commit or has an unanswered get that can't be answered now
abbrev pub waits : Part → ℕ → Bool
waits part t = goes_on part.order.works t && (asked_at part t || unwrap_or (option_map (λ k. is_none (answer part.order t k)) (waiting_at part t)) false)

-- what the driver of epochs sees
abbrev pub look_at : DeskState → Look
look_at d =
    let tickets = range_with_len 1 (length d.running.order.works) in
    record {
      waiting = count_by (waits d.running) tickets;
      live = count_by (goes_on d.running.order.works) tickets;
      queued = length d.running.order.queue;
      left = d.running.order.left;
      txns = length d.running.order.works;
      clients = count_by (λ c. not c.signed_off) d.clients;
    }

-- a part with its order changed
abbrev pub with_order : Part → OrderState → Part
with_order part o = record part { order = o }

-- a part with the holder of ticket t changed
abbrev pub with_holder : (Holder → Holder) → Part → ℕ → Part
with_holder f part t = record part { holders = edit f part.holders t }

-- what is kept of a transaction that begins
abbrev pub new_holder : ℕ → Holder
new_holder client = record { client = client; asked = false; cause = None }

-- it asked to commit
abbrev pub note_asked : Holder → Holder
note_asked h = record h { asked = true }

-- it was aborted for this cause
abbrev pub note_cause : Why ℕ → Holder → Holder
note_cause why h = record h { cause = Some why }

-- ticket t is aborted for this cause, and those fall that depend on it, directly or not
abbrev pub end_of : Part → ℕ → Why ℕ → Part
end_of part t why = record part { order = after_abort part.order t; holders = edit (note_cause why) part.holders t }

-- at the close, ticket t where it goes on and hasn't asked to commit
abbrev pub end_unasked : Part → ℕ → Part
end_unasked part t = if goes_on part.order.works t && not (asked_at part t) then end_of part t EpochEnd else part

-- at the close, tickets 1 to n
abbrev pub close_to : Part → ℕ → Part
close_to part zero = part
close_to part (suc n) = end_unasked (close_to part n) (suc n)

-- in rising tickets, each with those that depend on it
abbrev pub closing : Part → Part
closing part = close_to part (length part.order.works)

-- stopped for this fault, if it had no earlier cause
abbrev pub stop_holder : Fault → Holder → Holder
stop_holder f h = record h { cause = option_or h.cause (Some (Stopped f)) }

-- all that go on are stopped at once, none because of another
abbrev pub stop_part : Fault → Part → Part
stop_part f part = record part { order = after_stop part.order; holders = map (stop_holder f) part.holders }

-- the clients with the one of this number changed
abbrev pub on_client : (Client → Client) → List Client → ℕ → List Client
on_client f clients number = map (λ c. if c.number == number then f c else c) clients

-- its last transaction is this one, which hasn't ended
abbrev pub begin_client : Txn → Client → Client
begin_client x c = record c { last = Some x; outcome = None }

-- it has signed off
abbrev pub sign_off_client : Client → Client
sign_off_client c = record c { signed_off = true }

-- how ticket t of a part that ends fared: aborted, or else this
abbrev pub outcome_in : Part → Outcome ℕ → ℕ → Outcome ℕ
outcome_in part otherwise t = unwrap_or (option_map AbortedBy (why_at part t)) otherwise

-- where its last transaction is of this part, how that one fared
abbrev pub settle_client : Part → Outcome ℕ → Client → Client
settle_client part otherwise c = record c { outcome = option_or (option_and_then (λ x. if x.epoch == part.epoch then Some (outcome_in part otherwise x.ticket) else None) c.last) c.outcome }

-- a part ends: each client whose last transaction is of it gets that one's outcome
abbrev pub settle : Part → Outcome ℕ → List Client → List Client
settle part otherwise clients = map (settle_client part otherwise) clients

-- the records of these works and their holders, from ticket t on
abbrev pub txns_from : ℕ → ℕ → List Work → List Holder → List (TxnRecord ℕ)
txns_from epoch t [] hs = []
txns_from epoch t (w ∷ ws) [] = []
txns_from epoch t (w ∷ ws) (h ∷ hs) = record { epoch = epoch; ticket = t; client = h.client; ops = w.ops; outcome = unwrap_or (option_map AbortedBy (why_of w.fate h.cause)) Committed } ∷ txns_from epoch (suc t) ws hs

-- what is told of a part that is published
abbrev pub record_of : Part → EpochRecord ℕ
record_of part = record { epoch = part.epoch; txns = txns_from part.epoch 1 part.order.works part.holders }

-- a call of the desk
pub data Call : Type 0 where
  Begin : (client : ℕ) → Call
  GetKey : (txn : Txn) (key : ℕ) → Call
  Poll : (txn : Txn) → Call
  Write : (txn : Txn) (key : ℕ) (value : Option (List ℕ)) → Call
  Commit : (txn : Txn) → Call
  Abort : (txn : Txn) → Call
  Settled : (txn : Txn) → Call
  Looks : Call
  SignOff : (client : ℕ) → Call
  Stop : (fault : Fault) → Call
  Unsure : (fault : Fault) → Call
  IsStopped : Call
  TakeBatch : Call
  Deliver : (keys : List (Option ℕ)) (values : List (Option (List ℕ))) → Call
  Close : Call
  Publish : (epoch left : ℕ) → Call

-- what it is answered
pub data Reply : Type 0 where
  Begun : (txn : Txn) → Reply
  Refused : (fault : Fault) → Reply
  Value : (value : Option (List ℕ)) → Reply
  Waits : Reply
  Aborted : (why : Why ℕ) → Reply
  Done : Reply
  IsSettled : (outcome : Option (Outcome ℕ)) → Reply
  Seen : (look : Look) → Reply
  StoppedBy : (fault : Option Fault) → Reply
  Batch : (keys : List (Option ℕ)) → Reply
  Writes : (writes : List (ℕ × Option (List ℕ))) → Reply
  Published : (epoch_record : EpochRecord ℕ) → Reply

-- a transaction of the running part that goes on
pub record IsLive (d : DeskState) (x : Txn) : Type 0 where
  pub runs : x.epoch ≡ d.running.epoch
  pub goes : goes_on d.running.order.works x.ticket ≡ true

-- the share that a get of this key would go past, where it would
abbrev pub read_past : DeskState → Txn → ℕ → Option ℕ
read_past d x k = past d.setup.shares.reads d.running.uses.reads x.client k

-- the share that a put or del of this key would go past, where it would
abbrev pub write_past : DeskState → Txn → ℕ → Option ℕ
write_past d x k = past d.setup.shares.writes d.running.uses.writes x.client k

-- a get of the transaction's client named the key
abbrev pub reading : DeskState → Txn → ℕ → DeskState
reading d x k = record d { running = record d.running { uses = record d.running.uses { reads = with_name d.setup.shares.reads d.running.uses.reads x.client k } } }

-- a put or del of the transaction's client named the key
abbrev pub writing : DeskState → Txn → ℕ → DeskState
writing d x k = record d { running = record d.running { uses = record d.running.uses { writes = with_name d.setup.shares.writes d.running.uses.writes x.client k } } }

-- nothing happens
pub record Stays (d new : DeskState) : Type 0 where
  pub same : new ≡ d

-- it was aborted already, and nothing happens
pub record WasAborted (d : DeskState) (x : Txn) (why : Why ℕ) (new : DeskState) : Type 0 where
  pub earlier : outcome_at d x ≡ Some (AbortedBy why)
  pub same : new ≡ d

-- the next ticket is drawn
pub record BeginStep (d : DeskState) (client : ℕ) (x : Txn) (new : DeskState) : Type 0 where
  pub not_stopped : d.stop ≡ None
  pub next : x ≡ record { client = client; epoch = d.running.epoch; ticket = suc (length d.running.order.works) }
  pub state : new ≡ record d {
    running = record d.running { order = after_begin d.running.order; holders = d.running.holders ++ new_holder client ∷ [] };
    clients = on_client (begin_client x) d.clients client;
  }

-- the desk was stopped, and nothing happens
pub record RefusedStep (d : DeskState) (f : Fault) (new : DeskState) : Type 0 where
  pub stopped : d.stop ≡ Some f
  pub same : new ≡ d

-- the get goes past its client's share, and the transaction is aborted: nothing is named
pub record ShareReadStep (d : DeskState) (x : Txn) (k : ℕ) (why : Why ℕ) (new : DeskState) : Type 0 where
  pub live : IsLive d x
  pub keys : ℕ
  pub passes : read_past d x k ≡ Some keys
  pub cause : why ≡ ShareReads keys
  pub state : new ≡ record d { running = end_of d.running x.ticket why }

-- a get is answered with a value
pub record GetStep (d : DeskState) (x : Txn) (k : ℕ) (value : Option (List ℕ)) (new : DeskState) : Type 0 where
  pub live : IsLive d x
  pub within : read_past d x k ≡ None
  pub source : ℕ
  pub reply : read_reply d.setup.params d.running.order x.ticket k ≡ Found value source
  pub state : new ≡ record d { running = with_order (reading d x k).running (after_read d.running.order x.ticket k (Found value source)) }

-- a get has to wait for its key
pub record QueuedStep (d : DeskState) (x : Txn) (k : ℕ) (new : DeskState) : Type 0 where
  pub live : IsLive d x
  pub within : read_past d x k ≡ None
  pub reply : read_reply d.setup.params d.running.order x.ticket k ≡ Queued
  pub state : new ≡ record d { running = with_order (reading d x k).running (after_read d.running.order x.ticket k Queued) }

-- the batches that are left have no place for the key, and the transaction is aborted
pub record ReadsFullStep (d : DeskState) (x : Txn) (k : ℕ) (why : Why ℕ) (new : DeskState) : Type 0 where
  pub live : IsLive d x
  pub within : read_past d x k ≡ None
  pub queued : ℕ
  pub left : ℕ
  pub reply : read_reply d.setup.params d.running.order x.ticket k ≡ ReadsAreFull queued left
  pub cause : why ≡ ReadsFull queued left
  pub state : new ≡ record d { running = end_of (reading d x k).running x.ticket why }

-- the get is answered now
pub record PollStep (d : DeskState) (x : Txn) (value : Option (List ℕ)) (new : DeskState) : Type 0 where
  pub live : IsLive d x
  pub key : ℕ
  pub waited : waiting_at d.running x.ticket ≡ Some key
  pub source : ℕ
  pub reply : again_reply d.running.order x.ticket key ≡ Found value source
  pub state : new ≡ record d { running = with_order d.running (after_again d.running.order x.ticket key (Found value source)) }

-- the get can't be answered yet
pub record StillQueuedStep (d : DeskState) (x : Txn) (new : DeskState) : Type 0 where
  pub live : IsLive d x
  pub key : ℕ
  pub waited : waiting_at d.running x.ticket ≡ Some key
  pub reply : again_reply d.running.order x.ticket key ≡ Queued
  pub same : new ≡ d

-- the put or del goes past its client's share, and the transaction is aborted: nothing is named
pub record ShareWriteStep (d : DeskState) (x : Txn) (k : ℕ) (why : Why ℕ) (new : DeskState) : Type 0 where
  pub live : IsLive d x
  pub keys : ℕ
  pub passes : write_past d x k ≡ Some keys
  pub cause : why ≡ ShareWrites keys
  pub state : new ≡ record d { running = end_of d.running x.ticket why }

-- the key has the version
pub record WriteStep (d : DeskState) (x : Txn) (k : ℕ) (value : Option (List ℕ)) (new : DeskState) : Type 0 where
  pub live : IsLive d x
  pub within : write_past d x k ≡ None
  pub reply : write_reply d.setup.params d.running.order x.ticket k ≡ Yes
  pub state : new ≡ record d { running = with_order (writing d x k).running (after_write d.running.order x.ticket k value Yes) }

-- why a write aborts its transaction
abbrev pub why_refused : Wrote → Option (Why ℕ)
why_refused Yes = None
why_refused (Conflicts key reader) = Some (Conflict key reader)
why_refused (WritesAreFull keys) = Some (WritesFull keys)

-- the write covers what a later ticket has read, or has no place, and the transaction is aborted
pub record WriteRefusedStep (d : DeskState) (x : Txn) (k : ℕ) (why : Why ℕ) (new : DeskState) : Type 0 where
  pub live : IsLive d x
  pub within : write_past d x k ≡ None
  pub cause : why_refused (write_reply d.setup.params d.running.order x.ticket k) ≡ Some why
  pub state : new ≡ record d { running = end_of (writing d x k).running x.ticket why }

-- it has asked to commit
pub record CommitStep (d : DeskState) (x : Txn) (new : DeskState) : Type 0 where
  pub live : IsLive d x
  pub state : new ≡ record d { running = with_holder note_asked d.running x.ticket }

-- its client aborts it
pub record AbortStep (d : DeskState) (x : Txn) (why : Why ℕ) (new : DeskState) : Type 0 where
  pub live : IsLive d x
  pub cause : why ≡ Asked
  pub state : new ≡ record d { running = end_of d.running x.ticket Asked }

-- the client signs off
pub record SignOffStep (d : DeskState) (client : ℕ) (new : DeskState) : Type 0 where
  pub state : new ≡ record d { clients = on_client sign_off_client d.clients client }

-- whether a fault is want of memory
abbrev pub is_memory : Fault → Bool
is_memory Memory = true
is_memory _ = false

-- a closed part is stopped too: it won't be durable
abbrev pub stop_closed : Fault → DeskState → DeskState
stop_closed f d = record d {
  closed = None;
  clients = unwrap_or (option_map (λ c. settle c (AbortedBy (Stopped f)) d.clients) d.closed) d.clients;
}

-- All that go on are stopped, and the first fault stays. Want of memory leaves a closed part be.
abbrev pub stopped_by : Fault → DeskState → DeskState
stopped_by f d =
    let halted : DeskState = record d { stop = option_or d.stop (Some f); running = stop_part f d.running } in
    if is_memory f then halted else stop_closed f halted

-- the desk is stopped
pub record StopStep (d : DeskState) (f : Fault) (new : DeskState) : Type 0 where
  pub state : new ≡ stopped_by f d

-- whether the closed epoch is durable isn't known: those that asked to commit are unsure, and all that go on are stopped
pub record UnsureStep (d : DeskState) (f : Fault) (new : DeskState) : Type 0 where
  pub part : Part
  pub is_closed : d.closed ≡ Some part
  pub state : new ≡ record d { stop = option_or d.stop (Some f); running = stop_part f d.running; closed = None; clients = settle part (UnsureOf part.epoch) d.clients }

-- the first queued keys are taken
pub record TakeStep (d : DeskState) (keys : List (Option ℕ)) (new : DeskState) : Type 0 where
  pub taken : keys ≡ batch_of d.setup.params d.running.order
  pub state : new ≡ record d { running = with_order d.running (after_take d.setup.params d.running.order) }

-- values are delivered
pub record DeliverStep (d : DeskState) (keys : List (Option ℕ)) (values : List (Option (List ℕ))) (new : DeskState) : Type 0 where
  pub state : new ≡ record d { running = with_order d.running (after_deliver d.running.order keys values) }

-- The epoch is closed: those that haven't asked to commit are aborted, the last versions are its writes, and the next epoch runs.
pub record CloseStep (d : DeskState) (writes : List (ℕ × Option (List ℕ))) (new : DeskState) : Type 0 where
  pub batch : writes ≡ last_writes d.setup.params.keys (closing d.running).order.works
  pub state : new ≡ record d { running = new_part (suc d.running.epoch) d.setup.params.batches; closed = Some (closing d.running) }

-- the closed epoch is durable, and its transactions that aren't aborted are committed
pub record PublishStep (d : DeskState) (told : EpochRecord ℕ) (new : DeskState) : Type 0 where
  pub part : Part
  pub is_closed : d.closed ≡ Some part
  pub record_is : told ≡ record_of part
  pub state : new ≡ record d { closed = None; clients = settle part Committed d.clients }

-- from d, the call may answer this and leave the new state
abbrev pub DeskStep : DeskState → Call → Reply → DeskState → Type 0
DeskStep d (Begin client) (Begun x) new = BeginStep d client x new
DeskStep d (Begin client) (Refused f) new = RefusedStep d f new
DeskStep d (GetKey x k) (Value value) new = GetStep d x k value new
DeskStep d (GetKey x k) Waits new = QueuedStep d x k new
DeskStep d (GetKey x k) (Aborted why) new = WasAborted d x why new ⊎ (ReadsFullStep d x k why new ⊎ ShareReadStep d x k why new)
DeskStep d (Poll x) (Value value) new = PollStep d x value new
DeskStep d (Poll x) Waits new = StillQueuedStep d x new
DeskStep d (Poll x) (Aborted why) new = WasAborted d x why new
DeskStep d (Write x k value) Done new = WriteStep d x k value new
DeskStep d (Write x k value) (Aborted why) new = WasAborted d x why new ⊎ (WriteRefusedStep d x k why new ⊎ ShareWriteStep d x k why new)
DeskStep d (Commit x) Done new = CommitStep d x new
DeskStep d (Commit x) (Aborted why) new = WasAborted d x why new
DeskStep d (Abort x) (Aborted why) new = WasAborted d x why new ⊎ AbortStep d x why new
DeskStep d (Settled x) (IsSettled outcome) new = (outcome ≡ outcome_at d x) × (new ≡ d)
DeskStep d Looks (Seen look) new = (look ≡ look_at d) × (new ≡ d)
DeskStep d (SignOff client) Done new = SignOffStep d client new
DeskStep d (Stop f) Done new = StopStep d f new
DeskStep d (Unsure f) Done new = UnsureStep d f new
DeskStep d IsStopped (StoppedBy fault) new = (fault ≡ d.stop) × (new ≡ d)
DeskStep d TakeBatch (Batch keys) new = TakeStep d keys new
DeskStep d (Deliver keys values) Done new = DeliverStep d keys values new
DeskStep d Close (Writes writes) new = CloseStep d writes new
DeskStep d (Publish epoch left) (Published told) new = PublishStep d told new
DeskStep d _ _ new = ⊥

-- What a desk may be made with: no more batches left than an epoch has, an epoch with room to count on, rising clients' numbers from 1 to 64, and shares with places for all of them.
pub record MayOpen (setup : Setup) (epoch left : ℕ) (clients : List ℕ) : Type 0 where
  pub few_left : left ≤ setup.params.batches
  pub low_epoch : epoch ≤ 2 ^ 62
  pub named : All IsClientNumber clients
  pub rising : IsStrictlyIncreasing clients
  pub fit : AreFitting setup.shares (length clients) setup.params.places setup.params.writes

-- the client is one of the desk's and hasn't signed off
pub record IsHere (d : DeskState) (number : ℕ) : Type 0 where
  pub client : Client
  pub found : client_at d number ≡ Some client
  pub not_signed_off : client.signed_off ≡ false

-- it's its client's last one
pub record IsLast (d : DeskState) (x : Txn) : Type 0 where
  pub client : Client
  pub found : client_at d x.client ≡ Some client
  pub last : client.last ≡ Some x

-- it is aborted, or hasn't asked to commit
abbrev pub HasNotAsked : DeskState → Txn → Type 0
HasNotAsked d x = ((why : Why ℕ) × (outcome_at d x ≡ Some (AbortedBy why))) ⊎ (IsLive d x × (asked_at d.running x.ticket ≡ false))

-- it is aborted, or has no unanswered get
abbrev pub IsFree : DeskState → Txn → Type 0
IsFree d x = ((why : Why ℕ) × (outcome_at d x ≡ Some (AbortedBy why))) ⊎ (IsLive d x × (asked_at d.running x.ticket ≡ false) × (waiting_at d.running x.ticket ≡ None))

-- the condition of each call
abbrev pub MayCall : DeskState → Call → Type 0
MayCall d (Begin client) = IsHere d client × ((c : Client) (x : Txn) → client_at d client ≡ Some c → c.last ≡ Some x → is_some (outcome_at d x) ≡ true)
MayCall d (GetKey x k) = IsLast d x × IsFree d x × (k < d.setup.params.keys)
MayCall d (Poll x) = IsLast d x × (((why : Why ℕ) × (outcome_at d x ≡ Some (AbortedBy why))) ⊎ (IsLive d x × (is_some (waiting_at d.running x.ticket) ≡ true)))
MayCall d (Write x k value) = IsLast d x × IsFree d x × (k < d.setup.params.keys)
MayCall d (Commit x) = IsLast d x × IsFree d x
MayCall d (Abort x) = IsLast d x × HasNotAsked d x
MayCall d (Settled x) = IsLast d x
MayCall d Looks = d.closed ≡ None
MayCall d (SignOff client) = IsHere d client × ((c : Client) (x : Txn) → client_at d client ≡ Some c → c.last ≡ Some x → IsLive d x → asked_at d.running x.ticket ≡ true)
MayCall d (Stop f) = Unit {0}
MayCall d (Unsure f) = is_some d.closed ≡ true
MayCall d IsStopped = Unit {0}
MayCall d TakeBatch = (d.closed ≡ None) × (0 < d.running.order.left) × (d.running.order.flying ≡ [])
MayCall d (Deliver keys values) = (d.closed ≡ None) × (keys ≡ map Some d.running.order.flying ++ replicate (d.setup.params.places - length d.running.order.flying) None) × (length values ≡ length keys)
MayCall d Close = (d.closed ≡ None) × (d.running.order.left ≡ 0) × (d.running.order.flying ≡ []) × (d.stop ≡ None)
MayCall d (Publish epoch left) = (epoch ≡ d.running.epoch) × (epoch ≤ 2 ^ 62) × (left ≡ d.setup.params.batches) × (is_some d.closed ≡ true)

-- the values delivered are the map's
abbrev pub IsFed : Map nat_cmp → Call → Type 0
IsFed m (Deliver keys values) = (i k : ℕ) → slice_get keys i ≡ Some (Some k) → slice_get values i ≡ Some (finite.get m k)
IsFed m _ = Unit {0}

-- the map below the running part: the vault's, and beside a closed part the one that this part's writes will give
abbrev pub base_map : Map nat_cmp → DeskState → Map nat_cmp
base_map m d = unwrap_or (option_map (λ c. with_writes m (last_writes d.setup.params.keys c.order.works)) d.closed) m

-- the vault's map after a call: a publish follows the end that wrote the closed part
abbrev pub map_next : Map nat_cmp → DeskState → Call → Map nat_cmp
map_next m d (Publish epoch left) = base_map m d
map_next m d _ = m

-- calls with their replies lead from a map and a desk to a map and a desk
abbrev pub Run : Map nat_cmp → DeskState → List (Call × Reply) → Map nat_cmp → DeskState → Type 0
Run m d [] last new = (last ≡ m) × (new ≡ d)
Run m d (step ∷ steps) last new = (mid : DeskState) × MayCall d step.0 × DeskStep d step.0 step.1 mid × IsFed m step.0 × Run (map_next m d step.0) mid steps last new

-- the record that a reply tells
abbrev pub records_told : Reply → List (EpochRecord ℕ)
records_told (Published epoch_record) = epoch_record ∷ []
records_told _ = []

-- the records published, in order
abbrev pub published : List (Call × Reply) → List (EpochRecord ℕ)
published [] = []
published (step ∷ steps) = records_told step.1 ++ published steps

-- each transaction that isn't aborted replays on the map of its part with the writes of the earlier ones that aren't
pub record AlwaysReplays (m : Map nat_cmp) (d : DeskState) : Type 0 where
  pub running : EachReplays (base_map m d) d.running.order.works
  pub closed : (part : Part) → d.closed ≡ Some part → EachReplays m part.order.works

-- over every run of a new desk
abbrev pub DeskReplays : Type 0
DeskReplays = (setup : Setup) (epoch left : ℕ) (clients : List ℕ) (m last : Map nat_cmp) (steps : List (Call × Reply)) (d : DeskState)
    → Run m (new_desk setup epoch left clients) steps last d → AlwaysReplays last d

-- the published records, one by one, lead from the first map to the last, which the write batches made
abbrev pub DeskIsSerial : Type 0
DeskIsSerial = (setup : Setup) (epoch left : ℕ) (clients : List ℕ) (m last : Map nat_cmp) (steps : List (Call × Reply)) (d : DeskState)
    → Run m (new_desk setup epoch left clients) steps last d → OneByOne nat_cmp m (committed_of (published steps)) last
