-- What it means that transactions ran one by one. Keys are of any kind K, in the order cmp.
use Rattle.std.specs.Prelude.{ℕ, ◌≡◌, Bool, true, false, All, List, [], ◌∷◌, map, filter, flat_map}
use Rattle.std.specs.declared.cmp.Ordering.{Ordering}
use Rattle.std.specs.List.Sorted.{IsStrictlyIncreasing}
use Rattle.std.specs.FinMap.{FinMap, get, insert, remove}
use Rattle.ob_base.specs.declared.op.Op.{Op}
use Rattle.ob_base.specs.declared.op.Op.TheVariants.{Get, Put, Del}
use Rattle.ob_serial.specs.declared.records.Outcome.{Outcome}
use Rattle.ob_serial.specs.declared.records.Outcome.TheVariants.{Committed, Aborted, Unsure}

-- A transaction: its timestamp (epoch, then ticket), its client, its operations as they were answered, and how it ended.
pub record TxnRecord (K : Type 0) : Type 0 where
  pub epoch : ℕ
  pub ticket : ℕ
  pub client : ℕ
  pub ops : List (Op K)
  pub outcome : Outcome K

-- An epoch with its transactions.
pub record EpochRecord (K : Type 0) : Type 0 where
  pub epoch : ℕ
  pub txns : List (TxnRecord K)

-- The records are in the order of timestamps.
pub record AreInOrder {K : Type 0} (records : List (EpochRecord K)) : Type 0 where
  pub epochs : IsStrictlyIncreasing (map (λ r. r.epoch) records)
  pub tickets : All (λ r. IsStrictlyIncreasing (map (λ t. t.ticket) r.txns)) records
  pub named : All (λ r. All (λ t. t.epoch ≡ r.epoch) r.txns) records

abbrev pub is_committed : {K : Type 0} → TxnRecord K → Bool
is_committed {K} t = committed t.outcome where
  committed : Outcome K → Bool
  committed Committed = true
  committed (Aborted why) = false
  committed (Unsure epoch) = false

-- the committed transactions of records, in order
abbrev pub committed_of : {K : Type 0} → List (EpochRecord K) → List (TxnRecord K)
committed_of records = filter (λ t. is_committed t) (flat_map (λ r. r.txns) records)

module _ {K : Type 0} (cmp : K → K → Ordering) where
  -- the committed values
  abbrev pub Map : Type 0
  Map = FinMap cmp (List ℕ)

  -- the map with an operation's write
  abbrev pub after_op : Map → Op K → Map
  after_op m (Get key reply source) = m
  after_op m (Put key value) = insert m key value
  after_op m (Del key) = remove m key

  -- the map with a transaction's writes, in order
  abbrev pub after_ops : Map → List (Op K) → Map
  after_ops m [] = m
  after_ops m (op ∷ ops) = after_ops (after_op m op) ops

  -- a get finds its reply in the map
  abbrev pub OpReplays : Map → Op K → Type 0
  OpReplays m (Get key reply source) = get m key ≡ reply
  OpReplays m (Put key value) = Unit {0}
  OpReplays m (Del key) = Unit {0}

  -- Each get finds its reply in the map as the transaction's own earlier writes leave it.
  abbrev pub Replays : Map → List (Op K) → Type 0
  Replays m [] = Unit {0}
  Replays m (op ∷ ops) = OpReplays m op × Replays (after_op m op) ops

  -- From the first map the transactions run one by one, each on the map that those before it left, and leave the last map.
  abbrev pub OneByOne : Map → List (TxnRecord K) → Map → Type 0
  OneByOne first [] last = first ≡ last
  OneByOne first (t ∷ ts) last = Replays first t.ops × OneByOne (after_ops first t.ops) ts last
