-- What a client's script means: which operations its transactions have, on whatever replies, and how they end.
use Rattle.std.specs.Prelude.{ℕ, ◌≡◌, ◌⊎◌, true, List, [], ◌∷◌, ◌++◌, Option, Some, None, option_and_then, if◌then◌else◌, ℤ, pos, ◌+ℤ◌}
use Rattle.std.specs.Fmt.{signed_decimal}
use Rattle.ob_base.specs.declared.op.Op.{Op}
use Rattle.ob_base.specs.declared.op.Op.TheVariants as op
use Rattle.ob_serial.specs.declared.records.Why.TheVariants.{Asked}
use Rattle.ob_serial.specs.declared.records.Outcome.TheVariants.{Aborted as AbortedBy}
use Rattle.ob_session.specs.Clients.{Told}
use Rattle.ob_script.specs.declared.line.Ask.{Ask}
use Rattle.ob_script.specs.declared.line.Ask.TheVariants.{Get, Put, Del, Add}
use Rattle.ob_script.specs.declared.line.Ending.TheVariants.{Commit, Abort}
use Rattle.ob_script.specs.Integers.{integer_of, is_i64}
use Rattle.ob_script.specs.Script.{ScriptTxn}

-- the integer that a value counts as: 0 where it is absent
abbrev pub counted : Option (List ℕ) → Option ℤ
counted None = Some (pos 0)
counted (Some bytes) = integer_of bytes

-- what spells an integer, where it is in the range
abbrev pub spelled : ℤ → Option (List ℕ)
spelled z = if is_i64 z then Some (signed_decimal z) else None

-- The value with this amount added: none where it isn't a canonical integer, or the sum is out of range.
abbrev pub sum_of : Option (List ℕ) → ℤ → Option (List ℕ)
sum_of value amount = option_and_then (λ z. spelled (z +ℤ amount)) (counted value)

-- These are the operations of one ask, whatever was replied and from whatever source. An add is a get and then a put of the sum.
abbrev pub IsOpsOf : Ask → List (Op ℕ) → Type 0
IsOpsOf (Get key) ops = (reply : Option (List ℕ)) × (source : ℕ) × (ops ≡ op.Get key reply source ∷ [])
IsOpsOf (Put key value) ops = ops ≡ op.Put key value ∷ []
IsOpsOf (Del key) ops = ops ≡ op.Del key ∷ []
IsOpsOf (Add key amount) ops = (reply : Option (List ℕ)) × (source : ℕ) × (new : List ℕ) × (sum_of reply amount ≡ Some new) × (ops ≡ op.Get key reply source ∷ op.Put key new ∷ [])

-- The operations are those that were asked for, all of them, in order.
abbrev pub Meets : List Ask → List (Op ℕ) → Type 0
Meets [] ops = ops ≡ []
Meets (ask ∷ asks) ops = (these : List (Op ℕ)) × (more : List (Op ℕ)) × (ops ≡ these ++ more) × IsOpsOf ask these × Meets asks more

-- The get of an add that comes first.
pub record IsAddsGet (asks : List Ask) (ops : List (Op ℕ)) : Type 0 where
  pub key : ℕ
  pub amount : ℤ
  pub behind : List Ask
  pub reply : Option (List ℕ)
  pub source : ℕ
  pub asks_are : asks ≡ Add key amount ∷ behind
  pub ops_are : ops ≡ op.Get key reply source ∷ []

-- They are a front of those that were asked for: all of the first asks, and perhaps the get of an add behind them.
pub record MeetsFront (asks : List Ask) (ops : List (Op ℕ)) : Type 0 where
  pub met : List Ask
  pub left : List Ask
  pub these : List (Op ℕ)
  pub more : List (Op ℕ)
  pub asks_are : asks ≡ met ++ left
  pub ops_are : ops ≡ these ++ more
  pub meets : Meets met these
  pub begun : (more ≡ []) ⊎ IsAddsGet left more

-- They end with the get of an add whose sum there is none of, and all asks before it are met.
pub record MeetsNoSum (asks : List Ask) (ops : List (Op ℕ)) : Type 0 where
  pub met : List Ask
  pub left : List Ask
  pub these : List (Op ℕ)
  pub more : List (Op ℕ)
  pub asks_are : asks ≡ met ++ left
  pub ops_are : ops ≡ these ++ more
  pub meets : Meets met these
  pub begun : IsAddsGet left more
  pub no_sum : sum_of begun.reply begun.amount ≡ None

-- What the client was told of its transaction is what its script says. Its operations are a front of those asked for.
-- Where it asked to commit they are all, and the script says so. And where its client aborted it the script says so behind all, or a sum was wanting.
pub record IsMeant (ask : ScriptTxn) (told : Told) : Type 0 where
  pub front : MeetsFront ask.asks told.ops
  pub committed : told.asked ≡ true → Meets ask.asks told.ops × (ask.ending ≡ Commit)
  pub asked : told.ended ≡ Some (AbortedBy Asked) → (Meets ask.asks told.ops × (ask.ending ≡ Abort)) ⊎ MeetsNoSum ask.asks told.ops

-- They are the script's first transactions, in order, each once.
abbrev pub MeantFirst : List ScriptTxn → List Told → Type 0
MeantFirst txns [] = Unit {0}
MeantFirst [] (one ∷ told) = ⊥
MeantFirst (ask ∷ txns) (one ∷ told) = IsMeant ask one × MeantFirst txns told

-- They are all of them.
abbrev pub MeantAll : List ScriptTxn → List Told → Type 0
MeantAll [] [] = Unit {0}
MeantAll (ask ∷ txns) (one ∷ told) = IsMeant ask one × MeantAll txns told
MeantAll _ _ = ⊥
