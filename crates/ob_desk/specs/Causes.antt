-- What each answer comes from: on a transaction that isn't aborted a call is answered just as these functions say.
use Rattle.std.specs.Prelude.{ℕ, ◌≡◌, ◌⊎◌, true, false}
use Rattle.std.specs.Option.{option_map, unwrap_or}
use Rattle.std.specs.declared.option.Option.{Option}
use Rattle.std.specs.declared.option.Option.TheVariants.{None, Some}
use Rattle.ob_order.specs.Works.{goes_on}
use Rattle.ob_order.specs.Order.{read_reply, again_reply, write_reply}
use Rattle.ob_order.specs.declared.answers.Read.{Read}
use Rattle.ob_order.specs.declared.answers.Read.TheVariants.{Value as Found, Queued, Full as ReadsAreFull}
use Rattle.ob_order.specs.declared.answers.Wrote.{Wrote}
use Rattle.ob_order.specs.declared.answers.Wrote.TheVariants.{Yes, Conflict as Conflicts, Full as WritesAreFull}
use Rattle.ob_desk.specs.Desk.{DeskState, Part, Txn, Call, GetKey, Poll, Write, Commit, Abort, Reply, Value, Waits, Aborted, Done, Conflict, ReadsFull, WritesFull, ShareReads, ShareWrites, Depends, EpochEnd, Asked, Why, AbortedBy, DeskStep, outcome_at, aborted_why, waiting_at, asked_at, why_at, closing, read_past, write_past}

-- a get's reply: a value, or the key waits, or no batch has a place for it
abbrev pub read_as : Read → Reply
read_as (Found value source) = Value value
read_as Queued = Waits
read_as (ReadsAreFull queued left) = Aborted (ReadsFull queued left)

-- a put's or delete's: done, or a later reader is in conflict, or the write batch has no place for it
abbrev pub written_as : Wrote → Reply
written_as Yes = Done
written_as (Conflicts key reader) = Aborted (Conflict key reader)
written_as (WritesAreFull keys) = Aborted (WritesFull keys)

-- the transaction that a call is on
abbrev pub called_txn : Call → Option Txn
called_txn (GetKey x k) = Some x
called_txn (Poll x) = Some x
called_txn (Write x k value) = Some x
called_txn (Commit x) = Some x
called_txn (Abort x) = Some x
called_txn _ = None

-- the reply to a call on a transaction that isn't aborted
abbrev pub reply_to : DeskState → Call → Reply
reply_to d (GetKey x k) = unwrap_or (option_map (λ keys. Aborted (ShareReads keys)) (read_past d x k)) (read_as (read_reply d.setup.params d.running.order x.ticket k))
reply_to d (Poll x) = unwrap_or (option_map (λ k. read_as (again_reply d.running.order x.ticket k)) (waiting_at d.running x.ticket)) Waits
reply_to d (Write x k value) = unwrap_or (option_map (λ keys. Aborted (ShareWrites keys)) (write_past d x k)) (written_as (write_reply d.setup.params d.running.order x.ticket k))
reply_to d (Commit x) = Done
reply_to d (Abort x) = Aborted Asked
reply_to d _ = Done

-- Conflict, ReadsFull, WritesFull, ShareReads, ShareWrites, Asked and Queued come exactly where the function says
abbrev pub RepliesAreExact : Type 0
RepliesAreExact = (d : DeskState) (call : Call) (x : Txn) (reply : Reply) (new : DeskState) → called_txn call ≡ Some x → aborted_why (outcome_at d x) ≡ None → DeskStep d call reply new → reply ≡ reply_to d call

-- one that doesn't go on is answered why it was aborted, and nothing happens
abbrev pub AbortedAreTold : Type 0
AbortedAreTold = (d : DeskState) (call : Call) (x : Txn) (reply : Reply) (new : DeskState) → called_txn call ≡ Some x → goes_on d.running.order.works x.ticket ≡ false → DeskStep d call reply new
    → (why : Why ℕ) × (reply ≡ Aborted why) × (outcome_at d x ≡ Some (AbortedBy why)) × (new ≡ d)

-- at a close only those end for the epoch's end that haven't asked to commit
abbrev pub EndsUnasked : Type 0
EndsUnasked = (part : Part) (t : ℕ) → goes_on part.order.works t ≡ true → why_at (closing part) t ≡ Some EpochEnd → asked_at part t ≡ false

-- who hasn't asked doesn't outlast the close
abbrev pub UnaskedEnd : Type 0
UnaskedEnd = (part : Part) (t : ℕ) → goes_on part.order.works t ≡ true → asked_at part t ≡ false → goes_on (closing part).order.works t ≡ false

-- who asked is aborted by a close because of a source alone
abbrev pub AskedStay : Type 0
AskedStay = (part : Part) (t : ℕ) → goes_on part.order.works t ≡ true → asked_at part t ≡ true
    → (why_at (closing part) t ≡ None) ⊎ ((on : ℕ) × (why_at (closing part) t ≡ Some (Depends on)))
