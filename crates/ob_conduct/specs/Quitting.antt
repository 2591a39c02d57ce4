-- For tests: a client that begins a transaction and gives it up: what it knows of what it was told.
use Rattle.std.specs.Prelude.{ℕ, ◌≡◌, ◌⊎◌, Bool, true, false, if◌then◌else◌, All, List, ◌++◌, Option, None, Some}
use Rattle.ob_serial.specs.declared.records.Outcome.{Outcome}
use Rattle.ob_desk.specs.Desk.{DeskState, Call, Reply}
use Rattle.ob_desk.specs.declared.calls.Txn.{Txn}
use Rattle.ob_session.specs.Steps.{Leads, IsOwn}
use Rattle.ob_session.specs.Clients.{Told, begun, told_of, last_of, said_by, has_signed_off, stands_after, IsOneCall}
use Rattle.ob_session.specs.declared.runner.Step.{Step}
use Rattle.ob_session.specs.declared.runner.Step.TheVariants as stands

-- what it was told of its last transaction: of none, of one that it may abort, or that it is over
abbrev pub IsToldOfLast : Option Txn → Bool → Option Told → Type 0
IsToldOfLast None false last = last ≡ None
IsToldOfLast (Some x) false last = last ≡ Some (begun x)
IsToldOfLast txn true last = (last ≡ None) ⊎ ((t : Told) × (outcome : Outcome ℕ) × (last ≡ Some t) × (t.ended ≡ Some outcome))

pub record Quits (client : ℕ) (txn : Option Txn) (over_now gone : Bool) (said : List (Call × Reply)) : Type 0 where
  pub at : IsToldOfLast txn over_now (last_of (told_of said))
  pub named : (x : Txn) → txn ≡ Some x → x.client ≡ client
  pub signed_off : has_signed_off said ≡ gone
  pub stands : stands_after said ≡ (if gone then stands.Done else stands.Ran)

-- a step of it
pub record QuitterStep (client : ℕ) (txn : Option Txn) (over_now gone : Bool) (txn_new : Option Txn) (over_new gone_new : Bool) (old new : DeskState) (steps : List (Call × Reply)) (stand : Step) : Type 0 where
  pub made : Leads old steps new
  pub own : All (IsOwn client) steps
  pub one : (said : List (Call × Reply)) → Quits client txn over_now gone said → IsOneCall said steps
  pub fits : (said : List (Call × Reply)) → Quits client txn over_now gone said → Quits client txn_new over_new gone_new (said ++ said_by client steps)
  pub stands : (said : List (Call × Reply)) → Quits client txn over_now gone said → stand ≡ stands_after (said ++ said_by client steps)
