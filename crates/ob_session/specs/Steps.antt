-- Calls of the desk, made one behind the other.
use Rattle.std.specs.Prelude.{ℕ, ◌≡◌, List, [], ◌∷◌, ◌++◌, Option, Some, None}
use Rattle.ob_base.specs.declared.fault.Fault.TheVariants.{Memory}
use Rattle.ob_desk.specs.Desk as desk
use Rattle.ob_desk.specs.Calls.{begun_reply, got_reply, done_reply}
use Rattle.ob_session.specs.declared.made.Said.{Said}
use Rattle.ob_session.specs.declared.made.Said.TheVariants as said
use Rattle.ob_session.specs.declared.made.Made.{Made}

-- a call that was made, with its reply
abbrev pub step_of : Said → desk.Call × desk.Reply
step_of (said.Begin client reply) = (desk.Begin client, begun_reply reply)
step_of (said.Get txn key reply) = (desk.GetKey txn key, got_reply reply)
step_of (said.Poll txn reply) = (desk.Poll txn, got_reply reply)
step_of (said.Write txn key value reply) = (desk.Write txn key value, done_reply reply)
step_of (said.Commit txn reply) = (desk.Commit txn, done_reply reply)
step_of (said.Abort txn why) = (desk.Abort txn, desk.Aborted why)
step_of (said.Settled txn outcome) = (desk.Settled txn, desk.IsSettled outcome)
step_of (said.SignOff client) = (desk.SignOff client, desk.Done)
step_of (said.Stop fault) = (desk.Stop fault, desk.Done)

abbrev pub steps_in : Option Said → List (desk.Call × desk.Reply)
steps_in None = []
steps_in (Some one) = step_of one ∷ []

-- the calls of a step, in order
abbrev pub steps_of : Made → List (desk.Call × desk.Reply)
steps_of made = steps_in made.first ++ steps_in made.second ++ steps_in made.third

-- Each of these calls may be made where the one before it left the desk, and is answered so: from one state of the desk to another.
abbrev pub Leads : desk.DeskState → List (desk.Call × desk.Reply) → desk.DeskState → Type 0
Leads d [] new = new ≡ d
Leads d (step ∷ steps) new = (mid : desk.DeskState) × desk.MayCall d step.0 × desk.DeskStep d step.0 step.1 mid × Leads mid steps new

-- It is a call of this client; or `stop` for want of memory.
abbrev pub IsOwn : ℕ → desk.Call × desk.Reply → Type 0
IsOwn client (desk.Begin number, reply) = number ≡ client
IsOwn client (desk.GetKey txn key, reply) = txn.client ≡ client
IsOwn client (desk.Poll txn, reply) = txn.client ≡ client
IsOwn client (desk.Write txn key value, reply) = txn.client ≡ client
IsOwn client (desk.Commit txn, reply) = txn.client ≡ client
IsOwn client (desk.Abort txn, reply) = txn.client ≡ client
IsOwn client (desk.Settled txn, reply) = txn.client ≡ client
IsOwn client (desk.SignOff number, reply) = number ≡ client
IsOwn client (desk.Stop fault, reply) = fault ≡ Memory
IsOwn client _ = ⊥
