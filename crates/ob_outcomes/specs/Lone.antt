-- What keeps the transactions of a lone client from being turned away for want of places, and that each of its epochs has one committed transaction.
use Rattle.std.specs.Prelude.{ℕ, suc, ◌+◌, ◌≡◌, ◌≤◌, ◌<◌, All, List, [], ◌∷◌, length}
use Rattle.ob_base.specs.declared.params.Params.{Params}
use Rattle.ob_base.specs.declared.op.Op.{Op}
use Rattle.ob_base.specs.declared.op.Op.TheVariants.{Get, Put, Del}
use Rattle.ob_serial.specs.Serial.{TxnRecord, EpochRecord}
use Rattle.ob_serial.specs.declared.records.Why.TheVariants.{ReadsFull, WritesFull, ShareReads, ShareWrites}
use Rattle.ob_serial.specs.declared.records.Outcome.{Outcome}
use Rattle.ob_serial.specs.declared.records.Outcome.TheVariants.{Committed, Aborted}
use Rattle.ob_desk.specs.Desk.{DeskState, Setup, Call, Reply, MayOpen, new_desk, published, setup_of}
use Rattle.ob_desk.specs.Beats.{BeatKind}
use Rattle.ob_session.specs.Steps.{Leads}
use Rattle.ob_script.specs.declared.line.Ask.{Ask}
use Rattle.ob_script.specs.declared.line.Ask.TheVariants as ask
use Rattle.ob_script.specs.Script.{ScriptTxn, Scripts}
use Rattle.ob_conduct.specs.Acts.{Act, history, records, IsAllowed}
use Rattle.ob_outcomes.specs.Served.{ClientsServed}

-- how many of these operations are gets
abbrev pub gets_in : List (Op ℕ) → ℕ
gets_in [] = 0
gets_in (Get key reply source ∷ ops) = suc (gets_in ops)
gets_in (Put key value ∷ ops) = gets_in ops
gets_in (Del key ∷ ops) = gets_in ops

-- how many of them are puts or deletes
abbrev pub writes_in : List (Op ℕ) → ℕ
writes_in [] = 0
writes_in (Get key reply source ∷ ops) = writes_in ops
writes_in (Put key value ∷ ops) = suc (writes_in ops)
writes_in (Del key ∷ ops) = suc (writes_in ops)

-- Who was turned away had used its places: an epoch's first transaction made as many gets as the epoch had batches, and one that was
-- turned away at a write made as many writes as the write batch has places. None is turned away for a share, where there is none.
abbrev pub HasUsedPlaces : ℕ → Params → TxnRecord ℕ → Outcome ℕ → Type 0
HasUsedPlaces batches p t (Aborted (ReadsFull queued left)) = t.ticket ≡ 1 → batches ≤ gets_in t.ops
HasUsedPlaces batches p t (Aborted (WritesFull keys)) = p.writes ≤ writes_in t.ops
HasUsedPlaces batches p t (Aborted (ShareReads keys)) = ⊥
HasUsedPlaces batches p t (Aborted (ShareWrites keys)) = ⊥
HasUsedPlaces batches p t _ = Unit {0}

-- Over whatever acts of one client and the driver, from a desk with at least so many batches left on.
abbrev pub LoneUsesPlaces : Type 0
LoneUsesPlaces = (beat : BeatKind) (p : Params) (epoch left client : ℕ) (acts : List Act) (d : DeskState) (batches : ℕ)
    → MayOpen (setup_of p) epoch left (client ∷ []) → All (IsAllowed beat) acts → Leads (new_desk (setup_of p) epoch left (client ∷ [])) (history acts) d
    → batches ≤ left → All (λ r. All (λ t. HasUsedPlaces batches p t t.outcome) r.txns) (records acts)

-- The committed transaction of a record is its last one.
abbrev pub CommittedIsLast : EpochRecord ℕ → Type 0
CommittedIsLast r = All (λ t. t.outcome ≡ Committed → t.ticket ≡ length r.txns) r.txns

-- whatever calls one client made of a new desk
abbrev pub LoneCommitsLast : Type 0
LoneCommitsLast = (setup : Setup) (epoch left client : ℕ) (steps : List (Call × Reply)) (d : DeskState)
    → MayOpen setup epoch left (client ∷ []) → Leads (new_desk setup epoch left (client ∷ [])) steps d → All CommittedIsLast (published steps)

-- how many gets and how many writes an ask makes: an add makes one of each
abbrev pub gets_of : Ask → ℕ
gets_of (ask.Get key) = 1
gets_of (ask.Put key value) = 0
gets_of (ask.Del key) = 0
gets_of (ask.Add key amount) = 1

abbrev pub writes_of : Ask → ℕ
writes_of (ask.Get key) = 0
writes_of (ask.Put key value) = 1
writes_of (ask.Del key) = 1
writes_of (ask.Add key amount) = 1

abbrev pub gets_asked : List Ask → ℕ
gets_asked [] = 0
gets_asked (a ∷ asks) = gets_of a + gets_asked asks

abbrev pub writes_asked : List Ask → ℕ
writes_asked [] = 0
writes_asked (a ∷ asks) = writes_of a + writes_asked asks

-- it asks for fewer gets than there are batches, and for fewer writes than places of the write batch
pub record AsksFew (batches : ℕ) (p : Params) (asked : ScriptTxn) : Type 0 where
  pub gets : gets_asked asked.asks < batches
  pub writes : writes_asked asked.asks < p.writes

-- it was turned away for want of a place, or of one of its client's share
abbrev pub IsTurnedAway : Outcome ℕ → Type 0
IsTurnedAway (Aborted (ReadsFull queued left)) = Unit {0}
IsTurnedAway (Aborted (WritesFull keys)) = Unit {0}
IsTurnedAway (Aborted (ShareReads keys)) = Unit {0}
IsTurnedAway (Aborted (ShareWrites keys)) = Unit {0}
IsTurnedAway _ = ⊥

-- The first transaction of the epoch has its places; and later ones have theirs for writes.
pub record AreLetIn (r : EpochRecord ℕ) : Type 0 where
  pub first : All (λ t. t.ticket ≡ 1 → IsTurnedAway t.outcome → ⊥) r.txns
  pub writes : All (λ t. (keys : ℕ) → t.outcome ≡ Aborted (WritesFull keys) → ⊥) r.txns

-- A lone client isn't turned away, where each transaction of its script asks for few gets and writes.
abbrev pub LoneIsLetIn : Type 0
LoneIsLetIn = (beat : BeatKind) (p : Params) (epoch left client : ℕ) (script : Scripts) (acts : List Act) (d : DeskState)
    → MayOpen (setup_of p) epoch left (client ∷ []) → All (AsksFew left p) script.txns
    → All (IsAllowed beat) acts → Leads (new_desk (setup_of p) epoch left (client ∷ [])) (history acts) d
    → ClientsServed script (records acts) → All AreLetIn (records acts)

-- The record has one transaction, which is committed.
pub record HasOneCommitted (r : EpochRecord ℕ) : Type 0 where
  pub one : length r.txns ≡ 1
  pub committed : All (λ t. t.outcome ≡ Committed) r.txns

-- So where every transaction of a lone client is committed, each epoch has one, and there are as many epochs as transactions.
abbrev pub OneAnEpoch : Type 0
OneAnEpoch = (setup : Setup) (epoch left client : ℕ) (steps : List (Call × Reply)) (d : DeskState)
    → MayOpen setup epoch left (client ∷ []) → Leads (new_desk setup epoch left (client ∷ [])) steps d
    → All (λ r. 0 < length r.txns) (published steps) → All (λ r. All (λ t. t.outcome ≡ Committed) r.txns) (published steps) → All HasOneCommitted (published steps)
