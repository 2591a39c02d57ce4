-- What client shares promise over every run of a desk.
use Rattle.std.specs.Prelude.{ℕ, ◌≡◌, Bool, true, false, is_some, All, List, [], ◌∷◌, ◌==◌, if◌then◌else◌}
use Rattle.std.specs.List.{cons_option}
use Rattle.std.specs.Ordering.{nat_cmp}
use Rattle.std.specs.declared.option.Option.{Option}
use Rattle.std.specs.declared.option.Option.TheVariants.{None, Some}
use Rattle.ob_serial.specs.Serial.{Map, TxnRecord}
use Rattle.ob_serial.specs.declared.records.Why.{Why}
use Rattle.ob_serial.specs.declared.records.Why.TheVariants.{ReadsFull, WritesFull, ShareReads, ShareWrites}
use Rattle.ob_serial.specs.declared.records.Outcome.{Outcome}
use Rattle.ob_serial.specs.declared.records.Outcome.TheVariants.{Aborted as AbortedBy}
use Rattle.ob_shares.specs.declared.shares.Shares.{Shares}
use Rattle.ob_shares.specs.Shares.{no_shares}
use Rattle.ob_desk.specs.declared.calls.Txn.{Txn}
use Rattle.ob_desk.specs.Causes.{called_txn}
use Rattle.ob_desk.specs.Desk.{DeskState, Setup, Call, GetKey, Write, Close, Reply, Aborted, IsSettled, Published, MayOpen, MayCall, DeskStep, Run, map_next, new_desk, outcome_at, aborted_why, read_past, write_past, reading, writing}

-- a cause that these shares leave: places for gets are wanting once no batch is left, and none are queued then; places for writes never
abbrev pub IsFairWhy : Shares → Why ℕ → Type 0
IsFairWhy shares (ReadsFull queued left) = is_some shares.reads ≡ true → (queued ≡ 0) × (left ≡ 0)
IsFairWhy shares (WritesFull keys) = is_some shares.writes ≡ true → ⊥
IsFairWhy shares _ = Unit {0}

-- an outcome whose cause, where it has one, these shares leave
abbrev pub IsFairOutcome : Shares → Option (Outcome ℕ) → Type 0
IsFairOutcome shares (Some (AbortedBy why)) = IsFairWhy shares why
IsFairOutcome shares _ = Unit {0}

-- a reply whose cause, or whose outcomes' causes, these shares leave
abbrev pub IsFairReply : Shares → Reply → Type 0
IsFairReply shares (Aborted why) = IsFairWhy shares why
IsFairReply shares (IsSettled outcome) = IsFairOutcome shares outcome
IsFairReply shares (Published told) = All (λ (t : TxnRecord ℕ). IsFairOutcome shares (Some t.outcome)) told.txns
IsFairReply shares _ = Unit {0}

-- every reply that follows a run of a new desk
abbrev pub PlacesAreShared : Type 0
PlacesAreShared = (setup : Setup) (epoch left : ℕ) (clients : List ℕ) (m last : Map nat_cmp) (steps : List (Call × Reply)) (d : DeskState)
    → MayOpen setup epoch left clients → Run m (new_desk setup epoch left clients) steps last d
    → (call : Call) (reply : Reply) (new : DeskState) → MayCall d call → DeskStep d call reply new → IsFairReply setup.shares reply

-- what a get names, and what a put or del does
pub data Access : Type 0 where
  Reads : (key : ℕ) → Access
  Changes : (key : ℕ) → Access

-- what a call of this client names, where it names a key
abbrev pub access_in : ℕ → Call → Option Access
access_in client (GetKey x k) = if x.client == client then Some (Reads k) else None
access_in client (Write x k value) = if x.client == client then Some (Changes k) else None
access_in client _ = None

-- what the client's calls of the running epoch named, the last first, behind a call: a close begins the next epoch
abbrev pub accesses_after : ℕ → List Access → Call → List Access
accesses_after client before Close = []
accesses_after client before call = cons_option (access_in client call) before

-- the same behind these calls
abbrev pub accesses : ℕ → List Access → List (Call × Reply) → List Access
accesses client before [] = before
accesses client before (step ∷ steps) = accesses client (accesses_after client before step.0) steps

-- the transaction that a call is on isn't aborted
abbrev pub IsOnLive : DeskState → Call → Type 0
IsOnLive d call = (x : Txn) → called_txn call ≡ Some x → aborted_why (outcome_at d x) ≡ None

-- in the epoch of this number each call of the client that names a key is on a transaction that isn't aborted
abbrev pub AreOnLive : (client epoch : ℕ) (m : Map nat_cmp) (d : DeskState) (steps : List (Call × Reply)) (last : Map nat_cmp) (new : DeskState) → Run m d steps last new → Type 0
AreOnLive client epoch m d [] last new run = Unit {0}
AreOnLive client epoch m d (step ∷ steps) last new run = ((a : Access) → access_in client step.0 ≡ Some a → d.running.epoch ≡ epoch → IsOnLive d step.0) × AreOnLive client epoch (map_next m d step.0) run.0 steps last new run.4

-- A run of a new desk with these shares that leads to d, in whose running epoch the client's calls named this, on transactions that weren't aborted. A call that wants for memory is none of its steps.
pub record History (shares : Shares) (client : ℕ) (named : List Access) (d : DeskState) : Type 0 where
  pub setup : Setup
  pub shares_are : setup.shares ≡ shares
  pub epoch : ℕ
  pub left : ℕ
  pub clients : List ℕ
  pub first : Map nat_cmp
  pub last : Map nat_cmp
  pub steps : List (Call × Reply)
  pub run : Run first (new_desk setup epoch left clients) steps last d
  pub live : AreOnLive client d.running.epoch first (new_desk setup epoch left clients) steps last d run
  pub names : accesses client [] steps ≡ named

-- whether a call is refused by share
abbrev pub is_past : Reply → Bool
is_past (Aborted (ShareReads keys)) = true
is_past (Aborted (ShareWrites keys)) = true
is_past _ = false

-- Whatever others do: behind two histories in which the client named the same, the same call of it is refused by share in both or in neither.
abbrev pub SharesAreOwn : Type 0
SharesAreOwn = (shares : Shares) (client : ℕ) (named : List Access) (d e : DeskState) → History shares client named d → History shares client named e
    → (a : Access) (call other : Call) (reply answer : Reply) (new after : DeskState) → access_in client call ≡ Some a → access_in client other ≡ Some a
    → IsOnLive d call → IsOnLive e other → DeskStep d call reply new → DeskStep e other answer after → is_past reply ≡ is_past answer

-- without shares none refuses a call, and no names are kept
abbrev pub NoneIsKept : Type 0
NoneIsKept = (d : DeskState) (x : Txn) (k : ℕ) → d.setup.shares ≡ no_shares
    → (read_past d x k ≡ None) × (write_past d x k ≡ None) × (reading d x k ≡ d) × (writing d x k ≡ d)
