-- The script of a self-test: transactions of one client on keys that a generator of numbers gives.
use Rattle.std.specs.Prelude.{ℕ, ◌+◌, ◌*◌, ◌/◌, ◌%◌, ◌^◌, ◌==◌, [], ◌∷◌, map, pos}
use Rattle.std.proofs.Common.{zero, suc}
use Rattle.std.specs.List.{count_by}
use Rattle.ob_base.specs.Tree.{below}
use Rattle.ob_script.specs.declared.line.Ask.TheVariants.{Get, Add}
use Rattle.ob_script.specs.declared.line.Ending.TheVariants.{Commit}
use Rattle.ob_script.specs.Script.{ScriptTxn, Scripts}

-- the number behind another one: a linear congruence, modulo 2^64
abbrev pub number_behind : ℕ → ℕ
number_behind x = (x * 6364136223846793005 + 1442695040888963407) % 2 ^ 64

-- the number behind so many steps from 1
abbrev pub number_after : ℕ → ℕ
number_after zero = 1
number_after (suc n) = number_behind (number_after n)

-- the key that a number gives
abbrev pub key_given : ℕ → ℕ
key_given x = x / 2 ^ 32 % 256

-- The i-th transaction reads the key of one number, and adds 1 to that of the next.
abbrev pub key_read : ℕ → ℕ
key_read i = key_given (number_after (2 * i + 1))

abbrev pub key_added : ℕ → ℕ
key_added i = key_given (number_after (2 * i + 2))

abbrev pub drill_txn : ℕ → ℕ → ScriptTxn
drill_txn read added = record { client = 1; asks = Get read ∷ Add added (pos 1) ∷ []; ending = Commit }

abbrev pub drill_script : ℕ → Scripts
drill_script n = record { keys = 256; clients = 1 ∷ []; txns = map (λ i. drill_txn (key_read i) (key_added i)) (below n) }

-- how many of the first n transactions add to a key
abbrev pub counter : ℕ → ℕ → ℕ
counter n key = count_by (λ i. key_added i == key) (below n)
