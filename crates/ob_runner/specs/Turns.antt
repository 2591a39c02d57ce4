-- What a script's client calls next, by what it was told.
use Rattle.std.specs.Prelude.{ℕ, ◌≡◌, ◌⊎◌, if◌then◌else◌, List, [], ◌∷◌, Option, Some, None, is_some}
use Rattle.ob_base.specs.declared.op.Op.{Op}
use Rattle.ob_base.specs.declared.op.Op.TheVariants as op
use Rattle.ob_base.specs.declared.fault.Fault.TheVariants.{Memory}
use Rattle.ob_desk.specs.Desk as desk
use Rattle.ob_desk.specs.Desk.{Call, Reply}
use Rattle.ob_desk.specs.declared.calls.Txn.{Txn}
use Rattle.ob_session.specs.Clients.{Told, told_of, has_signed_off, was_refused}
use Rattle.ob_script.specs.declared.line.Ask.{Ask}
use Rattle.ob_script.specs.declared.line.Ask.TheVariants.{Get, Put, Del, Add}
use Rattle.ob_script.specs.declared.line.Ending.{Ending}
use Rattle.ob_script.specs.declared.line.Ending.TheVariants.{Commit, Abort}
use Rattle.ob_script.specs.Script.{ScriptTxn}
use Rattle.ob_runner.specs.Meaning.{sum_of}

-- the first call for an ask: an add begins with a get
abbrev pub ask_call : Txn → Ask → Call
ask_call x (Get key) = desk.GetKey x key
ask_call x (Put key value) = desk.Write x key (Some value)
ask_call x (Del key) = desk.Write x key None
ask_call x (Add key amount) = desk.GetKey x key

-- the second call for an add: a put of the sum, or an abort where there is none
abbrev pub sum_call : Txn → ℕ → Option (List ℕ) → Call
sum_call x key (Some new) = desk.Write x key (Some new)
sum_call x key None = desk.Abort x

abbrev pub end_call : Txn → Ending → Call
end_call x Commit = desk.Commit x
end_call x Abort = desk.Abort x

-- The call behind these operations: an add takes two of them, each other ask one.
abbrev pub work_call : Txn → Ending → List Ask → List (Op ℕ) → Call
work_call x end [] ops = end_call x end
work_call x end (a ∷ asks) [] = ask_call x a
work_call x end (Add key amount ∷ asks) (op.Get k value source ∷ []) = sum_call x key (sum_of value amount)
work_call x end (Add key amount ∷ asks) (one ∷ two ∷ ops) = work_call x end asks ops
work_call x end (a ∷ asks) (one ∷ ops) = work_call x end asks ops

-- a get that waits is polled
abbrev pub poll_or : Txn → Option ℕ → Call → Call
poll_or x (Some key) call = desk.Poll x
poll_or x None call = call

-- in a transaction: it is asked how it ended, where it asked to commit
abbrev pub txn_call : ScriptTxn → Told → Call
txn_call s t = if t.asked then desk.Settled t.txn else poll_or t.txn t.waiting (work_call t.txn s.ending s.asks t.ops)

-- in the first transaction that isn't known to be over; or the next one begins; or the client signs off
abbrev pub script_call : ℕ → List ScriptTxn → List Told → Call
script_call client [] told = desk.SignOff client
script_call client (s ∷ script) [] = desk.Begin client
script_call client (s ∷ script) (t ∷ told) = if is_some t.ended then script_call client script told else txn_call s t

-- The next call; None behind the sign-off. Who was told that no more transactions begin signs off.
abbrev pub script_next : ℕ → List ScriptTxn → List (Call × Reply) → Option Call
script_next client script said = if has_signed_off said then None else Some (if was_refused said then desk.SignOff client else script_call client script (told_of said))

-- it may find no memory
abbrev pub TakesMemory : Call → Type 0
TakesMemory (desk.Begin client) = Unit {0}
TakesMemory (desk.GetKey x key) = Unit {0}
TakesMemory (desk.Write x key value) = Unit {0}
TakesMemory _ = ⊥

-- This call with its answer, or `stop` for want of memory in its place; none, where none is next.
abbrev pub MakesCall : Option Call → List (Call × Reply) → Type 0
MakesCall None steps = steps ≡ []
MakesCall (Some call) steps = ((reply : Reply) × (steps ≡ (call, reply) ∷ [])) ⊎ (TakesMemory call × (steps ≡ (desk.Stop Memory, desk.Done) ∷ []))

-- a turn of this client: behind what it said it makes its next call
abbrev pub IsScriptTurn : List ScriptTxn → ℕ → List (Call × Reply) → List (Call × Reply) → Type 0
IsScriptTurn script client said steps = MakesCall (script_next client script said) steps
