-- The laws of one-by-one runs, for keys that are numbers in any order.
use Rattle.std.specs.Prelude.{ℕ, ◌≡◌, ◌↔◌, Option, Some, List, ◌∷◌, ◌++◌, take, slice_get, false}
use Rattle.std.specs.declared.cmp.Ordering.{Ordering}
use Rattle.std.specs.FinMap.{get}
use Rattle.ob_base.specs.declared.op.Op.{Op}
use Rattle.ob_base.specs.declared.op.Op.TheVariants.{Get}
use Rattle.ob_serial.specs.Serial.{TxnRecord, EpochRecord, Map, OneByOne, Replays, after_ops, is_committed, committed_of}

-- a run leaves one map
abbrev pub HasOneResult : Type 0
HasOneResult = (cmp : ℕ → ℕ → Ordering) (first : Map cmp) (ts : List (TxnRecord ℕ)) (a b : Map cmp) → OneByOne cmp first ts a → OneByOne cmp first ts b → a ≡ b

-- a run of two lists is a run of the first and then one of the second
abbrev pub RunsAppend : Type 0
RunsAppend = (cmp : ℕ → ℕ → Ordering) (first : Map cmp) (ts us : List (TxnRecord ℕ)) (last : Map cmp) →
    OneByOne cmp first (ts ++ us) last ↔ ((middle : Map cmp) × OneByOne cmp first ts middle × OneByOne cmp middle us last)

-- the committed transactions are the same without one that isn't committed
abbrev pub IgnoresUncommitted : Type 0
IgnoresUncommitted = (epoch : ℕ) (before behind : List (TxnRecord ℕ)) (t : TxnRecord ℕ) (more : List (EpochRecord ℕ)) → is_committed t ≡ false →
    committed_of (record { epoch = epoch; txns = before ++ t ∷ behind } ∷ more) ≡ committed_of (record { epoch = epoch; txns = before ++ behind } ∷ more)

-- each get finds its reply in the map as the operations before it leave it
abbrev pub FindEach : (cmp : ℕ → ℕ → Ordering) → Map cmp → List (Op ℕ) → Type 0
FindEach cmp m ops = (i key : ℕ) (reply : Option (List ℕ)) (source : ℕ) → slice_get ops i ≡ Some (Get key reply source) → get (after_ops cmp m (take i ops)) key ≡ reply

abbrev pub ReplaysByPlace : Type 0
ReplaysByPlace = (cmp : ℕ → ℕ → Ordering) (m : Map cmp) (ops : List (Op ℕ)) → Replays cmp m ops ↔ FindEach cmp m ops
