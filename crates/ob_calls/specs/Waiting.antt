-- What a get and a commit call, which may have to wait.
use Rattle.std.specs.Prelude.{◌≡◌, ◌⊎◌, ℕ, false, All, List, [], ◌∷◌, ◌++◌, Option, Some, None, Result, Ok, Err}
use Rattle.ob_desk.specs.Desk as desk
use Rattle.ob_desk.specs.Desk.{Reply}
use Rattle.ob_desk.specs.Calls.{got_reply}
use Rattle.ob_desk.specs.declared.calls.Got.{Got}
use Rattle.ob_desk.specs.declared.calls.Got.TheVariants as got
use Rattle.ob_desk.specs.declared.calls.Txn.{Txn}
use Rattle.ob_base.specs.declared.fault.Memory.{Memory}
use Rattle.ob_serial.specs.declared.records.Why.{Why}
use Rattle.ob_serial.specs.declared.records.Outcome.{Outcome}
use Rattle.ob_serial.specs.declared.records.Outcome.TheVariants.{Aborted as AbortedBy}
use Rattle.ob_session.specs.Clients.{Told}
use Rattle.ob_calls.specs.declared.calls.Refused.{Refused}
use Rattle.ob_calls.specs.declared.calls.Refused.TheVariants as refused
use Rattle.ob_hall.specs.Passes.{Steps, Pass, last_of_pass}
use Rattle.ob_hall.specs.Calling.{IsBetween, IsIn, IsLastTold, HasNotSignedOff}

abbrev pub HasBegun : Pass → Txn → Type 0
HasBegun pass x = (told : Told) × IsLastTold pass x told

-- It hasn't asked to commit, wasn't told how it ended, and its get of a key isn't answered yet.
pub record IsWaiting (pass : Pass) (x : Txn) : Type 0 where
  pub told : Told
  pub is : IsLastTold pass x told
  pub key : ℕ
  pub waits : told.waiting ≡ Some key
  pub unasked : told.asked ≡ false
  pub going : told.ended ≡ None
  pub kept : last_of_pass pass ≡ Some x

-- what the first turn of a get calls, where it is answered so
abbrev pub AskSays : Txn → ℕ → Result Got Memory → Steps → Type 0
AskSays x key (Ok reply) calls = calls ≡ (desk.GetKey x key, got_reply reply) ∷ []
AskSays x key (Err memory) calls = calls ≡ []

-- The get is answered so; or it is told to wait, and asks again until that is answered so.
abbrev pub Gets : Txn → ℕ → Reply → Steps → Type 0
Gets x key reply calls = (calls ≡ (desk.GetKey x key, reply) ∷ [])
    ⊎ ((waits : Steps) × All (λ s. s ≡ (desk.Poll x, desk.Waits)) waits × (calls ≡ (desk.GetKey x key, desk.Waits) ∷ (waits ++ (desk.Poll x, reply) ∷ [])))

-- what a get calls, where it is answered so
abbrev pub GetSays : Txn → ℕ → Result (Option (List ℕ)) Refused → Steps → Type 0
GetSays x key (Ok value) calls = Gets x key (desk.Value value) calls
GetSays x key (Err (refused.Aborted why)) calls = Gets x key (desk.Aborted why) calls
GetSays x key (Err refused.Memory) calls = calls ≡ []

-- The transaction was aborted for this cause when it asked to commit; or it then asks how it ended, until it is told.
abbrev pub CommitSays : Txn → Outcome ℕ → Steps → Type 0
CommitSays x outcome calls = ((why : Why ℕ) × (outcome ≡ AbortedBy why) × (calls ≡ (desk.Commit x, desk.Aborted why) ∷ []))
    ⊎ ((waits : Steps) × All (λ s. s ≡ (desk.Settled x, desk.IsSettled None)) waits
    × (calls ≡ (desk.Commit x, desk.Done) ∷ (waits ++ (desk.Settled x, desk.IsSettled (Some outcome)) ∷ [])))

-- behind a get's turn that is answered so
abbrev pub GotStands : Got → Pass → Txn → Type 0
GotStands (got.Value value) pass x = IsIn pass x
GotStands (got.Aborted why) pass x = IsIn pass x × (HasNotSignedOff pass → IsBetween pass)
GotStands got.Queued pass x = IsWaiting pass x

abbrev pub AskStands : Result Got Memory → Pass → Txn → Type 0
AskStands (Ok reply) pass x = GotStands reply pass x
AskStands (Err memory) pass x = IsIn pass x

-- how a get ended that was answered so, if it did
abbrev pub IsGetAnswer : Got → Option (Result (Option (List ℕ)) Refused) → Type 0
IsGetAnswer (got.Value value) answer = answer ≡ Some (Ok value)
IsGetAnswer (got.Aborted why) answer = answer ≡ Some (Err (refused.Aborted why))
IsGetAnswer got.Queued answer = answer ≡ None
