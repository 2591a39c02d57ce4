-- What the driver of epochs knows of a desk from its own calls.
use Rattle.std.specs.Prelude.{◌≡◌, ℕ, suc, ◌-◌, Bool, true, false, if◌then◌else◌, List, [], ◌∷◌, ◌++◌, Option, None, Some}
use Rattle.std.specs.Option.{is_some, option_map}
use Rattle.ob_order.specs.Works.{last_writes}
use Rattle.ob_desk.specs.Desk as desk
use Rattle.ob_desk.specs.Desk.{DeskState, Part, closing, is_memory}
use Rattle.ob_session.specs.Steps.{Leads}
use Rattle.ob_turn.specs.declared.turn.Entry.{Entry}
use Rattle.ob_turn.specs.History.{entries_of, LeadsByTurns}
use Rattle.ob_hall.specs.Turns.{IsTurn}
use Rattle.ob_hall.specs.Passes.{Steps, IsNew, calls_in}

-- an epoch that was closed, and the writes that its close told
pub record ClosedEpoch : Type 0 where
  pub epoch : ℕ
  pub writes : List (ℕ × Option (List ℕ))

-- the running epoch, whether another one is closed, and which one with which writes; and of the running one the batches left and the keys in flight
pub record Rounds : Type 0 where
  pub epoch : ℕ
  pub has_closed : Bool
  pub due : Option ClosedEpoch
  pub left : ℕ
  pub flying : List ℕ

-- a part that was closed, at a desk of so many keys
abbrev pub closed_as : ℕ → Part → ClosedEpoch
closed_as keys part = record { epoch = part.epoch; writes = last_writes keys part.order.works }

abbrev pub rounds_of : DeskState → Rounds
rounds_of d = record { epoch = d.running.epoch; has_closed = is_some d.closed; due = option_map (closed_as d.setup.params.keys) d.closed; left = d.running.order.left; flying = d.running.order.flying }

-- the keys of a batch, without its pads
abbrev pub keys_in : List (Option ℕ) → List ℕ
keys_in [] = []
keys_in (None ∷ places) = keys_in places
keys_in (Some key ∷ places) = key ∷ keys_in places

abbrev pub keys_told : desk.Reply → List ℕ
keys_told (desk.Batch places) = keys_in places
keys_told _ = []

abbrev pub writes_told : desk.Reply → List (ℕ × Option (List ℕ))
writes_told (desk.Writes writes) = writes
writes_told _ = []

-- behind a call that was answered so, where each epoch has so many batches
abbrev pub rounds_after : ℕ → Rounds → desk.Call → desk.Reply → Rounds
rounds_after batches r desk.TakeBatch reply = record r { left = r.left - 1; flying = keys_told reply }
rounds_after batches r (desk.Deliver keys values) reply = record r { flying = [] }
rounds_after batches r desk.Close reply = record { epoch = suc r.epoch; has_closed = true; due = Some (record { epoch = r.epoch; writes = writes_told reply }); left = batches; flying = [] }
rounds_after batches r (desk.Publish epoch left) reply = record r { has_closed = false; due = None }
rounds_after batches r (desk.Unsure fault) reply = record r { has_closed = false; due = None }
rounds_after batches r (desk.Stop fault) reply = if is_memory fault then r else record r { has_closed = false; due = None }
rounds_after batches r _ reply = r

abbrev pub rounds_behind : ℕ → Rounds → Steps → Rounds
rounds_behind batches r [] = r
rounds_behind batches r (s ∷ steps) = rounds_behind batches (rounds_after batches r s.0 s.1) steps

-- what the driver knows from its own entries is so, whatever the clients called between
abbrev pub AreDriversRounds : Type 0
AreDriversRounds = (opened d : DeskState) (history : List (Entry Steps)) → IsNew opened → LeadsByTurns IsTurn opened history d
    → rounds_of d ≡ rounds_behind opened.setup.params.batches (rounds_of opened) (calls_in (entries_of 0 history))

-- A front of these calls leads to a desk at which the epoch was closed, and its writes told; and what was closed there is what is closed behind them all.
pub record StaysClosed (opened : DeskState) (steps : Steps) (due : ClosedEpoch) (d : DeskState) : Type 0 where
  pub front : Steps
  pub behind : Steps
  pub steps_are : steps ≡ front ++ (desk.Close, desk.Writes due.writes) ∷ behind
  pub at : DeskState
  pub led : Leads opened front at
  pub rest : Leads at ((desk.Close, desk.Writes due.writes) ∷ behind) d
  pub epoch_is : at.running.epoch ≡ due.epoch
  pub stays : d.closed ≡ Some (closing at.running)

-- Where by the driver's own entries an epoch is due, it is the one that its last close shut, whatever the clients called since.
abbrev pub ClosedStays : Type 0
ClosedStays = (opened d : DeskState) (history : List (Entry Steps)) (due : ClosedEpoch) → IsNew opened → LeadsByTurns IsTurn opened history d
    → (rounds_behind opened.setup.params.batches (rounds_of opened) (calls_in (entries_of 0 history))).due ≡ Some due → StaysClosed opened (calls_in history) due d
