-- What one client's calls say of its transactions, by how they were answered.
use Rattle.std.specs.Prelude.{ℕ, ◌≡◌, ◌⊎◌, ◌==◌, Bool, true, false, List, [], ◌∷◌, ◌++◌, filter, length, Option, Some, None}
use Rattle.std.specs.Option.{option_map, unwrap_or}
use Rattle.std.specs.List.{list_any}
use Rattle.ob_base.specs.declared.op.Op.{Op}
use Rattle.ob_base.specs.declared.op.Op.TheVariants.{Get}
use Rattle.ob_order.specs.Order.{write_op}
use Rattle.ob_desk.specs.Desk as desk
use Rattle.ob_desk.specs.Desk.{Call, Reply}
use Rattle.ob_desk.specs.declared.calls.Txn.{Txn}
use Rattle.ob_serial.specs.declared.records.Outcome.{Outcome}
use Rattle.ob_serial.specs.declared.records.Outcome.TheVariants.{Aborted as AbortedBy}
use Rattle.ob_session.specs.declared.runner.Step.{Step}
use Rattle.ob_session.specs.declared.runner.Step.TheVariants as stands

-- the client whose call it is, where it is a client's
abbrev pub client_of : Call → Option ℕ
client_of (desk.Begin client) = Some client
client_of (desk.GetKey x k) = Some x.client
client_of (desk.Poll x) = Some x.client
client_of (desk.Write x k value) = Some x.client
client_of (desk.Commit x) = Some x.client
client_of (desk.Abort x) = Some x.client
client_of (desk.Settled x) = Some x.client
client_of (desk.SignOff client) = Some client
client_of _ = None

abbrev pub is_of : ℕ → Call → Bool
is_of number call = unwrap_or (option_map (λ c. c == number) (client_of call)) false

-- the calls of one client, in order
abbrev pub said_by : ℕ → List (Call × Reply) → List (Call × Reply)
said_by number steps = filter (λ s. is_of number s.0) steps

-- A transaction as its client was told of it: the operations that were answered, in order, with 0 for each source; the key of a get that
-- isn't answered yet; whether it asked to commit; and how it ended, where that was told.
pub record Told : Type 0 where
  pub txn : Txn
  pub ops : List (Op ℕ)
  pub waiting : Option ℕ
  pub asked : Bool
  pub ended : Option (Outcome ℕ)

abbrev pub begun : Txn → Told
begun x = record { txn = x; ops = []; waiting = None; asked = false; ended = None }

-- one answered operation more
abbrev pub answered : Op ℕ → Told → Told
answered op t = record t { ops = t.ops ++ op ∷ []; waiting = None }

-- it was told how it ended
abbrev pub over : Outcome ℕ → Told → Told
over outcome t = record t { ended = Some outcome }

-- a get, or a poll for its key, was answered
abbrev pub got : ℕ → Reply → Told → Told
got k (desk.Value value) t = answered (Get k value 0) t
got k desk.Waits t = record t { waiting = Some k }
got k (desk.Aborted why) t = over (AbortedBy why) t
got k _ t = t

-- a put or a delete was
abbrev pub written : ℕ → Option (List ℕ) → Reply → Told → Told
written k value desk.Done t = answered (write_op k value) t
written k value (desk.Aborted why) t = over (AbortedBy why) t
written k value _ t = t

-- a commit was
abbrev pub asks : Reply → Told → Told
asks desk.Done t = record t { asked = true }
asks (desk.Aborted why) t = over (AbortedBy why) t
asks _ t = t

-- what was asked for, how it ended, was told
abbrev pub ends : Reply → Told → Told
ends (desk.Aborted why) t = over (AbortedBy why) t
ends (desk.IsSettled (Some outcome)) t = over outcome t
ends _ t = t

-- what an answer says of the client's last transaction
abbrev pub told_next : Call → Reply → Told → Told
told_next (desk.GetKey x k) reply t = got k reply t
told_next (desk.Poll x) reply t = got (unwrap_or t.waiting 0) reply t
told_next (desk.Write x k value) reply t = written k value reply t
told_next (desk.Commit x) reply t = asks reply t
told_next (desk.Abort x) reply t = ends reply t
told_next (desk.Settled x) reply t = ends reply t
told_next _ reply t = t

-- the list with its last item changed
abbrev pub on_last : {A : Type 0} → (A → A) → List A → List A
on_last f [] = []
on_last f (x ∷ []) = f x ∷ []
on_last f (x ∷ y ∷ more) = x ∷ on_last f (y ∷ more)

-- what was told, behind one call more
abbrev pub told_after : List Told → Call × Reply → List Told
told_after told (desk.Begin client, desk.Begun x) = told ++ begun x ∷ []
told_after told step = on_last (told_next step.0 step.1) told

abbrev pub told_from : List Told → List (Call × Reply) → List Told
told_from told [] = told
told_from told (step ∷ steps) = told_from (told_after told step) steps

-- the transactions that a client's calls tell of, in order
abbrev pub told_of : List (Call × Reply) → List Told
told_of said = told_from [] said

abbrev pub last_of : {A : Type 0} → List A → Option A
last_of [] = None
last_of (x ∷ []) = Some x
last_of (x ∷ y ∷ more) = last_of (y ∷ more)

abbrev pub is_sign_off : Call × Reply → Bool
is_sign_off (desk.SignOff client, reply) = true
is_sign_off _ = false

abbrev pub has_signed_off : List (Call × Reply) → Bool
has_signed_off said = list_any is_sign_off said

-- a step makes one call, or none behind a sign-off
abbrev pub IsOneCall : List (Call × Reply) → List (Call × Reply) → Type 0
IsOneCall said steps = (length steps ≡ 1) ⊎ ((steps ≡ []) × (has_signed_off said ≡ true))

-- it was told that no more transactions begin
abbrev pub is_refusal : Call × Reply → Bool
is_refusal (desk.Begin client, desk.Refused fault) = true
is_refusal _ = false

abbrev pub was_refused : List (Call × Reply) → Bool
was_refused said = list_any is_refusal said

-- how a client stands behind its last call
abbrev pub stands_behind : Option (Call × Reply) → Step
stands_behind (Some (desk.GetKey x k, desk.Waits)) = stands.Waits
stands_behind (Some (desk.Poll x, desk.Waits)) = stands.Waits
stands_behind (Some (desk.Settled x, desk.IsSettled None)) = stands.Waits
stands_behind (Some (desk.SignOff client, reply)) = stands.Done
stands_behind _ = stands.Ran

abbrev pub stands_after : List (Call × Reply) → Step
stands_after said = stands_behind (last_of said)
