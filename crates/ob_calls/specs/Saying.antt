-- What a client's call at the hall answers, and where the client then stands.
use Rattle.std.specs.Prelude.{◌≡◌, ℕ, List, [], ◌∷◌, Option, Some, Result, Ok, Err}
use Rattle.ob_desk.specs.Desk as desk
use Rattle.ob_desk.specs.Calls.{begun_reply}
use Rattle.ob_desk.specs.declared.calls.Begun.{Begun as CodeBegun}
use Rattle.ob_desk.specs.declared.calls.Begun.TheVariants as begun
use Rattle.ob_desk.specs.declared.calls.Txn.{Txn}
use Rattle.ob_base.specs.declared.fault.Memory.{Memory}
use Rattle.ob_hall.specs.Passes.{Steps, Pass}
use Rattle.ob_hall.specs.Calling.{IsBetween, IsIn, HasNotSignedOff}
use Rattle.ob_calls.specs.declared.calls.Refused.{Refused}
use Rattle.ob_calls.specs.declared.calls.Refused.TheVariants as refused

-- what a begin calls, where it is answered so
abbrev pub BeginSays : ℕ → Result CodeBegun Memory → Steps → Type 0
BeginSays client (Ok reply) calls = calls ≡ (desk.Begin client, begun_reply reply) ∷ []
BeginSays client (Err memory) calls = calls ≡ []

-- the last transaction behind a begin that was answered so
abbrev pub last_begun : Option Txn → Result CodeBegun Memory → Option Txn
last_begun last (Ok (begun.Txn x)) = Some x
last_begun last _ = last

-- the transaction that began is the client's
abbrev pub IsNamed : ℕ → Result CodeBegun Memory → Type 0
IsNamed client (Ok (begun.Txn x)) = x.client ≡ client
IsNamed client _ = Unit {0}

-- what a put or a delete calls, where it is answered so
abbrev pub WriteSays : Txn → ℕ → Option (List ℕ) → Result (Unit {0}) Refused → Steps → Type 0
WriteSays x key value (Ok done) calls = calls ≡ (desk.Write x key value, desk.Done) ∷ []
WriteSays x key value (Err (refused.Aborted why)) calls = calls ≡ (desk.Write x key value, desk.Aborted why) ∷ []
WriteSays x key value (Err refused.Memory) calls = calls ≡ []

-- behind a begin that is answered so
abbrev pub BeginStands : Result CodeBegun Memory → Pass → Type 0
BeginStands (Ok (begun.Txn x)) after = IsIn after x × HasNotSignedOff after
BeginStands (Ok (begun.Stopped fault)) after = IsBetween after
BeginStands (Err memory) after = IsBetween after

-- where it was aborted
abbrev pub IfAborted : {A : Type 0} → Result A Refused → Type 0 → Type 0
IfAborted (Err (refused.Aborted why)) P = P
IfAborted _ P = Unit {0}

-- Behind a get, a put or a delete that is answered so it still is in its transaction; where that was aborted, it is over.
abbrev pub StaysIn : {A : Type 0} → Result A Refused → Pass → Pass → Txn → Type 0
StaysIn result before after x = IsIn after x × (HasNotSignedOff before → HasNotSignedOff after) × IfAborted result (HasNotSignedOff before → IsBetween after)
