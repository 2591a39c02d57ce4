-- What the published records tell of a client, beside what it was told.
use Rattle.std.specs.Prelude.{ℕ, ◌≡◌, ◌==◌, true, List, [], ◌∷◌, ◌++◌, filter, flat_map, Some, None}
use Rattle.ob_base.specs.declared.op.Op.{Op}
use Rattle.ob_base.specs.declared.op.Op.TheVariants.{Get, Put, Del}
use Rattle.ob_serial.specs.Serial.{TxnRecord, EpochRecord}
use Rattle.ob_desk.specs.Desk.{DeskState, Setup, Call, Reply, Part, MayOpen, new_desk, published, record_of}
use Rattle.ob_serial.specs.declared.records.Why.TheVariants.{Asked}
use Rattle.ob_serial.specs.declared.records.Outcome.{Outcome}
use Rattle.ob_serial.specs.declared.records.Outcome.TheVariants.{Committed, Aborted as AbortedBy, Unsure as UnsureOf}
use Rattle.ob_session.specs.Steps.{Leads}
use Rattle.ob_session.specs.Clients.{Told, told_of, said_by}

-- the transactions of one client, in order
abbrev pub txns_by : ℕ → List (EpochRecord ℕ) → List (TxnRecord ℕ)
txns_by number records = filter (λ t. t.client == number) (flat_map (λ r. r.txns) records)

-- an operation without its source
abbrev pub unsourced : Op ℕ → Op ℕ
unsourced (Get key reply source) = Get key reply 0
unsourced (Put key value) = Put key value
unsourced (Del key) = Del key

abbrev pub all_unsourced : List (Op ℕ) → List (Op ℕ)
all_unsourced [] = []
all_unsourced (op ∷ ops) = unsourced op ∷ all_unsourced ops

-- Who is committed asked to; and who is aborted because its client asked for that was told so.
abbrev pub IsToldEnd : Outcome ℕ → Told → Type 0
IsToldEnd Committed told = told.asked ≡ true
IsToldEnd (AbortedBy Asked) told = told.ended ≡ Some (AbortedBy Asked)
IsToldEnd (AbortedBy why) told = Unit {0}
IsToldEnd (UnsureOf epoch) told = ⊥

-- The record tells of the transaction that the client was told of.
pub record IsTold (number : ℕ) (t : TxnRecord ℕ) (told : Told) : Type 0 where
  pub client : t.client ≡ number
  pub named : told.txn.client ≡ number
  pub epoch : t.epoch ≡ told.txn.epoch
  pub ticket : t.ticket ≡ told.txn.ticket
  pub ops : all_unsourced t.ops ≡ told.ops
  pub ends : IsToldEnd t.outcome told
  -- it ended as the client was told, where it was
  pub as_told : (outcome : Outcome ℕ) → told.ended ≡ Some outcome → t.outcome ≡ outcome

-- They tell of the first ones.
abbrev pub TellFirst : ℕ → List (TxnRecord ℕ) → List Told → Type 0
TellFirst number [] told = Unit {0}
TellFirst number (t ∷ txns) [] = ⊥
TellFirst number (t ∷ txns) (one ∷ told) = IsTold number t one × TellFirst number txns told

-- They tell of all.
abbrev pub TellAll : ℕ → List (TxnRecord ℕ) → List Told → Type 0
TellAll number [] [] = Unit {0}
TellAll number (t ∷ txns) (one ∷ told) = IsTold number t one × TellAll number txns told
TellAll number _ _ = ⊥

-- no transaction runs or waits for the end of its epoch, and none was given up
pub record IsAtRest (d : DeskState) : Type 0 where
  pub none_runs : d.running.order.works ≡ []
  pub none_closed : d.closed ≡ None
  pub not_stopped : d.stop ≡ None

-- whatever calls were made of a new desk, for every client
pub record RecordsTell : Type 0 where
  pub first : (setup : Setup) (epoch left : ℕ) (clients : List ℕ) (steps : List (Call × Reply)) (d : DeskState) (number : ℕ)
      → MayOpen setup epoch left clients → Leads (new_desk setup epoch left clients) steps d → TellFirst number (txns_by number (published steps)) (told_of (said_by number steps))
  pub all : (setup : Setup) (epoch left : ℕ) (clients : List ℕ) (steps : List (Call × Reply)) (d : DeskState) (number : ℕ)
      → MayOpen setup epoch left clients → Leads (new_desk setup epoch left clients) steps d → IsAtRest d → TellAll number (txns_by number (published steps)) (told_of (said_by number steps))
  -- the record that a publish of the closed epoch would tell, behind those that are published
  pub closed : (setup : Setup) (epoch left : ℕ) (clients : List ℕ) (steps : List (Call × Reply)) (d : DeskState) (part : Part) (number : ℕ)
      → MayOpen setup epoch left clients → Leads (new_desk setup epoch left clients) steps d → d.closed ≡ Some part
      → TellFirst number (txns_by number (published steps ++ record_of part ∷ [])) (told_of (said_by number steps))
