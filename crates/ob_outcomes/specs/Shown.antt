-- What a published record shows of how each of its transactions ended.
use Rattle.std.specs.Prelude.{ℕ, ◌≡◌, ◌<◌, ◌≤◌, ◌*◌, ◌⊎◌, true, false, All, Contains, List, map, length}
use Rattle.std.specs.List.{range_with_len}
use Rattle.std.specs.declared.option.Option.{Option}
use Rattle.std.specs.declared.option.Option.TheVariants.{Some}
use Rattle.ob_base.specs.declared.op.Op.TheVariants.{Get}
use Rattle.ob_serial.specs.declared.records.Why.{Why}
use Rattle.ob_serial.specs.declared.records.Why.TheVariants.{Conflict, Depends, ReadsFull, WritesFull, ShareReads, ShareWrites, EpochEnd, Asked, Stopped}
use Rattle.ob_serial.specs.declared.records.Outcome.{Outcome}
use Rattle.ob_serial.specs.declared.records.Outcome.TheVariants.{Committed, Aborted, Unsure}
use Rattle.ob_serial.specs.Serial.{TxnRecord, EpochRecord, AreInOrder, is_committed}
use Rattle.ob_desk.specs.Desk.{DeskState, Setup, Call, Reply, MayOpen, new_desk, published}
use Rattle.ob_session.specs.Steps.{Leads}

-- it has a Get of the key that was answered from this source
abbrev pub HasGot : TxnRecord ℕ → ℕ → ℕ → Type 0
HasGot t key source = (reply : Option (List ℕ)) × Contains t.ops (Get key reply source)

-- a later transaction of the record has read what a write of the key by t would have hidden from it
pub record ReaderIsThere (r : EpochRecord ℕ) (t : TxnRecord ℕ) (key reader : ℕ) : Type 0 where
  pub later : t.ticket < reader
  pub txn : TxnRecord ℕ
  pub there : Contains r.txns txn
  pub named : txn.ticket ≡ reader
  pub source : ℕ
  pub at_or_below : source ≤ t.ticket
  pub got : HasGot txn key source

-- t has read from an earlier transaction of the record, which isn't committed
pub record SourceIsGone (r : EpochRecord ℕ) (t : TxnRecord ℕ) (on : ℕ) : Type 0 where
  pub earlier : on < t.ticket
  pub key : ℕ
  pub got : HasGot t key on
  pub txn : TxnRecord ℕ
  pub there : Contains r.txns txn
  pub named : txn.ticket ≡ on
  pub not_committed : is_committed txn ≡ false

-- a committed transaction of the record
pub record IsCommittedIn (r : EpochRecord ℕ) (ticket : ℕ) : Type 0 where
  pub txn : TxnRecord ℕ
  pub there : Contains r.txns txn
  pub named : txn.ticket ≡ ticket
  pub committed : is_committed txn ≡ true

-- what t has read was the map's below the epoch, or is of a committed transaction at or below t
abbrev pub SourcesStand : EpochRecord ℕ → TxnRecord ℕ → Type 0
SourcesStand r t = (key source : ℕ) → HasGot t key source → (source ≡ 0) ⊎ ((source ≤ t.ticket) × IsCommittedIn r source)

-- why t was aborted, shown by the record
abbrev pub IsWhy : Setup → EpochRecord ℕ → TxnRecord ℕ → Why ℕ → Type 0
IsWhy setup r t (Conflict key reader) = ReaderIsThere r t key reader
IsWhy setup r t (Depends on) = SourceIsGone r t on
IsWhy setup r t (ReadsFull queued left) = queued ≡ setup.params.places * left
IsWhy setup r t (WritesFull keys) = keys ≡ setup.params.writes
IsWhy setup r t (ShareReads keys) = setup.shares.reads ≡ Some keys
IsWhy setup r t (ShareWrites keys) = setup.shares.writes ≡ Some keys
IsWhy setup r t EpochEnd = Unit {0}
IsWhy setup r t Asked = Unit {0}
IsWhy setup r t (Stopped fault) = ⊥

-- how t ended, shown by the record: none was stopped, and of none it is unknown
abbrev pub IsOutcome : Setup → EpochRecord ℕ → TxnRecord ℕ → Outcome ℕ → Type 0
IsOutcome setup r t Committed = SourcesStand r t
IsOutcome setup r t (Aborted why) = IsWhy setup r t why
IsOutcome setup r t (Unsure epoch) = ⊥

-- whatever calls were made of a new desk, of each published transaction
abbrev pub OutcomesAreShown : Type 0
OutcomesAreShown = (setup : Setup) (epoch left : ℕ) (clients : List ℕ) (steps : List (Call × Reply)) (d : DeskState)
    → MayOpen setup epoch left clients → Leads (new_desk setup epoch left clients) steps d → All (λ r. All (λ t. IsOutcome setup r t t.outcome) r.txns) (published steps)

-- Epochs count on by one from the first, and an epoch's tickets from 1.
pub record AreNumbered (epoch : ℕ) (records : List (EpochRecord ℕ)) : Type 0 where
  pub epochs : map (λ r. r.epoch) records ≡ range_with_len epoch (length records)
  pub tickets : All (λ r. map (λ t. t.ticket) r.txns ≡ range_with_len 1 (length r.txns)) records
  pub in_order : AreInOrder records

-- and of the published records
abbrev pub RecordsAreNumbered : Type 0
RecordsAreNumbered = (setup : Setup) (epoch left : ℕ) (clients : List ℕ) (steps : List (Call × Reply)) (d : DeskState)
    → MayOpen setup epoch left clients → Leads (new_desk setup epoch left clients) steps d → AreNumbered epoch (published steps)
