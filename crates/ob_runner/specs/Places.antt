-- Where a runner stands in its script, and whether that fits what its calls were answered.
use Rattle.std.specs.Prelude.{ℕ, ◌≡◌, ◌<◌, ◌≤◌, ◌+◌, ◌⊎◌, Bool, true, false, List, [], ◌∷◌, ◌++◌, length, take, Option, Some, None, option_map, option_and_then, unwrap_or, is_some, slice_get, ℤ}
use Rattle.ob_base.specs.declared.op.Op.{Op}
use Rattle.ob_base.specs.declared.op.Op.TheVariants as op
use Rattle.ob_base.specs.declared.fault.Fault.TheVariants.{Memory}
use Rattle.ob_serial.specs.declared.records.Outcome.{Outcome}
use Rattle.ob_desk.specs.Desk as desk
use Rattle.ob_desk.specs.Desk.{Call, Reply, DeskState}
use Rattle.ob_desk.specs.declared.calls.Txn.{Txn}
use Rattle.ob_session.specs.declared.runner.Step.{Step}
use Rattle.ob_session.specs.declared.runner.Step.TheVariants as stands
use Rattle.ob_session.specs.Steps.{Leads, IsOwn}
use Rattle.ob_session.specs.Clients.{Told, told_of, said_by, has_signed_off, was_refused, stands_after}
use Rattle.ob_session.specs.Agreeing.{Agrees}
use Rattle.std.specs.List.{All}
use Rattle.ob_script.specs.declared.line.Ask.{Ask}
use Rattle.ob_script.specs.declared.line.Ask.TheVariants as ask
use Rattle.ob_script.specs.declared.line.Ending.{Ending}
use Rattle.ob_script.specs.declared.line.Ending.TheVariants as ending
use Rattle.ob_runner.specs.declared.place.Place.{Place}
use Rattle.ob_runner.specs.declared.place.Place.TheVariants as place
use Rattle.ob_runner.specs.declared.place.Read.{Read}
use Rattle.ob_runner.specs.declared.place.Wanted.{Wanted}
use Rattle.ob_runner.specs.declared.place.Wanted.TheVariants as wanted
use Rattle.ob_script.specs.Script.{ScriptTxn, AreOpsBelow}
use Rattle.ob_runner.specs.Turns.{IsScriptTurn}
use Rattle.ob_runner.specs.Meaning.{sum_of, IsMeant, MeantFirst, MeantAll, Meets, MeetsNoSum}

-- A runner: its client, a bound on its keys, its transactions, the index of the current or next one, and where it stands there.
pub record RunnerState : Type 0 where
  pub client : ℕ
  pub keys : ℕ
  pub script : List ScriptTxn
  pub at : ℕ
  pub place : Place

-- one that has made no call
abbrev pub new_runner : ℕ → ℕ → List ScriptTxn → RunnerState
new_runner client keys script = record { client = client; keys = keys; script = script; at = 0; place = place.Between }

abbrev pub at_place : Place → RunnerState → RunnerState
at_place p r = record r { place = p }

-- the runner behind a begin that was answered so
abbrev pub after_begun : Reply → RunnerState → RunnerState
after_begun (desk.Begun txn) r = at_place (place.Next txn 0) r
after_begun _ r = at_place place.Stopped r

-- its transaction is over
abbrev pub finished : RunnerState → RunnerState
finished r = record r { at = r.at + 1; place = place.Between }

-- what its script wants at this index of a transaction
abbrev pub wanted_of : ScriptTxn → ℕ → Wanted
wanted_of txn i = unwrap_or (option_map (λ a. wanted.Ask a (i + 1)) (slice_get txn.asks i)) (wanted.End txn.ending)

-- the ask whose get this is
abbrev pub ask_with : ℕ → Option ℤ → Ask
ask_with key None = ask.Get key
ask_with key (Some amount) = ask.Add key amount

abbrev pub ask_of : Read → Ask
ask_of read = ask_with read.key read.amount

-- the place behind a get that was answered with this value
abbrev pub place_behind : Txn → ℕ → ℕ → Option ℤ → Option (List ℕ) → Place
place_behind txn key next None value = place.Next txn next
place_behind txn key next (Some amount) value = place.Adding txn key (sum_of value amount) next

-- the runner behind a get or a poll for it that was answered so
abbrev pub after_got : Txn → Read → Reply → RunnerState → RunnerState
after_got txn read (desk.Value value) r = at_place (place_behind txn read.key read.next read.amount value) r
after_got txn read desk.Waits r = at_place (place.Waiting txn read) r
after_got txn read _ r = finished r

-- how it stands then
abbrev pub stand_of : Reply → Step
stand_of desk.Waits = stands.Waits
stand_of _ = stands.Ran

-- and behind a put, a delete or a commit, with the place that follows it where it was done
abbrev pub after_done : Place → Reply → RunnerState → RunnerState
after_done p desk.Done r = at_place p r
after_done p _ r = finished r

-- it waits for this key alone, it asked to commit or not, and it isn't told how it ended
pub record IsCurrent (txn : Txn) (waiting : Option ℕ) (asked : Bool) (told : Told) : Type 0 where
  pub txn_is : told.txn ≡ txn
  pub waiting_is : told.waiting ≡ waiting
  pub asked_is : told.asked ≡ asked
  pub not_ended : told.ended ≡ None

-- All asks are met before the one whose get this is.
pub record IsReading (txn : Txn) (waiting : Option ℕ) (read : Read) (s : ScriptTxn) (told : Told) : Type 0 where
  pub index : ℕ
  pub current : IsCurrent txn waiting false told
  pub meets : Meets (take index s.asks) told.ops
  pub ask_is : slice_get s.asks index ≡ Some (ask_of read)
  pub next_is : read.next ≡ index + 1

-- All asks are met before an add, and its get was answered with a value that gives this sum.
pub record HasRead (asks : List Ask) (key : ℕ) (sum : Option (List ℕ)) (next : ℕ) (ops : List (Op ℕ)) : Type 0 where
  pub index : ℕ
  pub amount : ℤ
  pub found : Option (List ℕ)
  pub these : List (Op ℕ)
  pub ask_is : slice_get asks index ≡ Some (ask.Add key amount)
  pub next_is : next ≡ index + 1
  pub sum_is : sum_of found amount ≡ sum
  pub ops_are : ops ≡ these ++ op.Get key found 0 ∷ []
  pub meets : Meets (take index asks) these

-- The place in this transaction fits what was told of it.
abbrev pub IsPlacedIn : Place → ScriptTxn → Told → Type 0
IsPlacedIn (place.Next txn i) s t = IsCurrent txn None false t × Meets (take i s.asks) t.ops
IsPlacedIn (place.Waiting txn read) s t = IsReading txn (Some read.key) read s t
IsPlacedIn (place.Adding txn key sum next) s t = IsCurrent txn None false t × HasRead s.asks key sum next t.ops
IsPlacedIn (place.Asked txn) s t = IsCurrent txn None true t × Meets s.asks t.ops × (s.ending ≡ ending.Commit)
IsPlacedIn _ s t = ⊥

-- what the runner's transaction is, whatever was told of it
abbrev pub InTxn : RunnerState → (ScriptTxn → Told → Type 0) → Type 0
InTxn r P = (s : ScriptTxn) (t : Told) → slice_get r.script r.at ≡ Some s → IsPlacedIn r.place s t → P s t

-- this operation meets the asks up to the next one
abbrev pub MeetsAsks : Op ℕ → ℕ → ScriptTxn → Told → Type 0
MeetsAsks one next s t = Meets (take next s.asks) (t.ops ++ one ∷ [])

-- all asks are met, and this is to be the end
abbrev pub IsAtTxnEnd : Ending → ScriptTxn → Told → Type 0
IsAtTxnEnd end s t = Meets s.asks t.ops × (s.ending ≡ end)

-- the script is to abort, or there is no sum
abbrev pub IsToAbort : ScriptTxn → Told → Type 0
IsToAbort s t = IsAtTxnEnd ending.Abort s t ⊎ MeetsNoSum s.asks t.ops

-- this ask is at the index, and all before it are met
abbrev pub IsAskAt : Ask → ℕ → ℕ → ScriptTxn → Told → Type 0
IsAskAt a i next s t = (slice_get s.asks i ≡ Some a) × (next ≡ i + 1) × Meets (take i s.asks) t.ops

-- its current or next transaction is one of its script
abbrev pub IsInScript : RunnerState → Type 0
IsInScript r = r.at < length r.script

-- it is to sign off
abbrev pub IsDone : RunnerState → Type 0
IsDone r = ((r.place ≡ place.Between) × (length r.script ≤ r.at)) ⊎ (r.place ≡ place.Stopped)

-- it is in this transaction, and can make its next call
abbrev pub IsAtWork : Txn → Place → Type 0
IsAtWork txn (place.Next x i) = x ≡ txn
IsAtWork txn (place.Adding x key sum next) = x ≡ txn
IsAtWork txn _ = ⊥

-- the current transaction of the script is the last one that was told of, and the place is in it
pub record IsWithin (p : Place) (current : Option ScriptTxn) (told : List Told) : Type 0 where
  pub txn : ScriptTxn
  pub one : Told
  pub txn_is : current ≡ Some txn
  pub told_is : told ≡ one ∷ []
  pub placed : IsPlacedIn p txn one

-- between transactions nothing more was told of
abbrev pub IsPlaced : Place → Option ScriptTxn → List Told → Type 0
IsPlaced place.Between current told = told ≡ []
IsPlaced place.Stopped current told = told ≡ []
IsPlaced place.Over current told = told ≡ []
IsPlaced p current told = IsWithin p current told

-- it was told how it ended
abbrev pub HasEnded : Told → Type 0
HasEnded told = (outcome : Outcome ℕ) × (told.ended ≡ Some outcome)

-- these transactions of the script are over, and are what was told
abbrev pub ArePast : List ScriptTxn → List Told → Type 0
ArePast [] [] = Unit {0}
ArePast (ask ∷ txns) (one ∷ told) = IsMeant ask one × HasEnded one × ArePast txns told
ArePast _ _ = ⊥

-- the client of the transaction that it is in
abbrev pub IsClientOfPlace : ℕ → Place → Type 0
IsClientOfPlace client (place.Next txn i) = txn.client ≡ client
IsClientOfPlace client (place.Waiting txn read) = txn.client ≡ client
IsClientOfPlace client (place.Adding txn key sum next) = txn.client ≡ client
IsClientOfPlace client (place.Asked txn) = txn.client ≡ client
IsClientOfPlace client _ = Unit {0}

-- how it stands behind its last call
abbrev pub IsStanding : Place → Step → Type 0
IsStanding (place.Waiting txn read) stand = stand ≡ stands.Waits
IsStanding (place.Asked txn) stand = Unit {0}
IsStanding place.Over stand = stand ≡ stands.Done
IsStanding _ stand = stand ≡ stands.Ran

abbrev pub is_over : Place → Bool
is_over place.Over = true
is_over _ = false

abbrev pub is_stopped : Place → Bool
is_stopped place.Stopped = true
is_stopped _ = false

-- These may be all the calls that the runner has made for its client: its script's first transactions are what was told, and it stands where they end.
pub record Fits (r : RunnerState) (said : List (Call × Reply)) : Type 0 where
  pub before : List Told
  pub now : List Told
  pub below : AreOpsBelow r.keys r.script
  pub told_is : told_of said ≡ before ++ now
  pub past : ArePast (take r.at r.script) before
  pub placed : IsPlaced r.place (slice_get r.script r.at) now
  pub named : IsClientOfPlace r.client r.place
  pub standing : IsStanding r.place (stands_after said)
  pub signed_off : has_signed_off said ≡ is_over r.place
  pub refused : is_over r.place ≡ false → was_refused said ≡ is_stopped r.place
  pub whole : is_over r.place ≡ true → was_refused said ≡ false → length r.script ≤ r.at

-- a step may be made: the desk has the keys, and agrees with what the runner was told
pub record MayStep (r : RunnerState) (d : DeskState) : Type 0 where
  pub bound : r.keys ≤ d.setup.params.keys
  pub said : List (Call × Reply)
  pub fits : Fits r said
  pub agrees : Agrees d r.client said

-- memory was wanting, and the desk was stopped
pub record Halts (d : DeskState) (stand : Step) (made : List (Call × Reply)) (new : DeskState) : Type 0 where
  pub stand_is : stand ≡ stands.Ran
  pub made_is : made ≡ (desk.Stop Memory, desk.Done) ∷ []
  pub stopped : desk.StopStep d Memory new

-- how many calls a step makes
abbrev pub calls_at : Place → ℕ
calls_at place.Over = 0
calls_at _ = 1

-- whether the call that is next takes memory: a begin, or a get, a put or a delete
abbrev pub takes_memory : Place → Option ScriptTxn → Bool
takes_memory place.Between current = is_some current
takes_memory (place.Next txn i) current = is_some (option_and_then (λ s. slice_get s.asks i) current)
takes_memory (place.Adding txn key sum next) current = is_some sum
takes_memory _ current = false

-- A step: its calls lead from one state of the desk to the other, are the client's own, and fit where the runner stands then.
pub record StepsTo (r : RunnerState) (d : DeskState) (stand : Step) (made : List (Call × Reply)) (next : RunnerState) (new : DeskState) : Type 0 where
  pub client : next.client ≡ r.client
  pub keys : next.keys ≡ r.keys
  pub script : next.script ≡ r.script
  -- it makes one call, and none behind its sign-off
  pub one : length made ≡ calls_at r.place
  -- that is its script's next one
  pub turn : (said : List (Call × Reply)) → Fits r said → IsScriptTurn r.script r.client said made
  pub made_of : Leads d made new
  pub own : All (IsOwn r.client) made
  pub fits : (said : List (Call × Reply)) → Fits r said → Fits next (said ++ said_by r.client made)
  pub standing : (said : List (Call × Reply)) → Fits r said → stand ≡ stands_after (said ++ said_by r.client made)

-- what a runner was told of is a front of its script, and all of it once it has signed off, unless it was told that no more begin
abbrev pub RunnerIsItsScript : Type 0
RunnerIsItsScript = (r : RunnerState) (said : List (Call × Reply)) → Fits r said
    → MeantFirst r.script (told_of said) × (has_signed_off said ≡ true → was_refused said ≡ false → MeantAll r.script (told_of said))
