-- Whom the end of an epoch aborts.
use Rattle.std.specs.Prelude.{ℕ, ◌≡◌, ◌≤◌, ◌*◌, ◌⊎◌, true, All, List, [], ◌∷◌, length}
use Rattle.std.specs.declared.option.Option.TheVariants.{Some}
use Rattle.ob_serial.specs.declared.records.Why.TheVariants.{EpochEnd}
use Rattle.ob_serial.specs.declared.records.Outcome.TheVariants.{Aborted}
use Rattle.ob_order.specs.Works.{goes_on}
use Rattle.ob_order.specs.Order.{OrderState}
use Rattle.ob_desk.specs.Desk.{DeskState, Part, Setup, Call, Reply, TakeBatch, Deliver, Close, MayOpen, new_desk, look_at, asked_at, why_at, closing, record_of, with_order, published}
use Rattle.ob_session.specs.Steps.{Leads}

-- It holds of a desk, whatever calls were made of it since it was new.
abbrev pub Always : (DeskState → Type 0) → Type 0
Always p = (setup : Setup) (epoch left : ℕ) (clients : List ℕ) (steps : List (Call × Reply)) (d : DeskState)
    → MayOpen setup epoch left clients → Leads (new_desk setup epoch left clients) steps d → p d

-- each transaction that goes on has asked to commit
abbrev pub AllAsked : Part → Type 0
AllAsked part = (t : ℕ) → goes_on part.order.works t ≡ true → asked_at part t ≡ true

-- No batch is in flight, and there is no queued key or no batch left.
pub record NeedsNoBatch (o : OrderState) : Type 0 where
  pub none_flies : o.flying ≡ []
  pub none_due : (o.queue ≡ []) ⊎ (o.left ≡ 0)

-- the batches that are left have a place for each queued key
abbrev pub QueueFits : Type 0
QueueFits = Always (λ d. length d.running.order.queue ≤ d.setup.params.places * d.running.order.left)

-- Where no batch is needed, and all that go on wait, they wait for the end of the epoch.
abbrev pub WaitingHaveAsked : Type 0
WaitingHaveAsked = Always (λ d. NeedsNoBatch d.running.order → (look_at d).waiting ≡ (look_at d).live → AllAsked d.running)

-- where each client has signed off, all that go on have asked
abbrev pub SignedOffHaveAsked : Type 0
SignedOffHaveAsked = Always (λ d. (look_at d).clients ≡ 0 → AllAsked d.running)

-- where all have asked a close aborts none
abbrev pub AskedOutlastClose : Type 0
AskedOutlastClose = (part : Part) → AllAsked part → closing part ≡ part

-- a batch is taken or delivered
abbrev pub IsOfBatch : Call × Reply → Type 0
IsOfBatch (TakeBatch, reply) = Unit {0}
IsOfBatch (Deliver keys values, reply) = Unit {0}
IsOfBatch _ = ⊥

-- Batches that are taken and delivered where none is needed change how many are left, and nothing else.
abbrev pub PadsChangeNothing : Type 0
PadsChangeNothing = Always (λ d. (batches : List (Call × Reply)) (new : DeskState) → NeedsNoBatch d.running.order → All IsOfBatch batches → Leads d batches new
    → new ≡ record d { running = with_order d.running (record d.running.order { left = new.running.order.left }) })

-- so behind them too a close aborts none where all have asked
abbrev pub AskedOutlastPads : Type 0
AskedOutlastPads = Always (λ d. (batches : List (Call × Reply)) (new : DeskState) → NeedsNoBatch d.running.order → All IsOfBatch batches → Leads d batches new
    → AllAsked d.running → closing new.running ≡ new.running)

-- who waits goes on
abbrev pub WaitingAreLive : Type 0
WaitingAreLive = Always (λ d. (look_at d).waiting ≤ (look_at d).live)

-- before a close nobody is aborted for the epoch's end
abbrev pub NoneEndedYet : Type 0
NoneEndedYet = Always (λ d. (t : ℕ) → why_at d.running t ≡ Some EpochEnd → ⊥)

-- each transaction has a holder
abbrev pub EachHasHolder : Type 0
EachHasHolder = Always (λ d. length d.running.holders ≡ length d.running.order.works)

-- A close loses none, and where each has a holder the record has each.
pub record LosesNone (part : Part) : Type 0 where
  pub works : length (closing part).order.works ≡ length part.order.works
  pub holders : length (closing part).holders ≡ length part.holders
  pub told : length part.holders ≡ length part.order.works → length (record_of (closing part)).txns ≡ length part.order.works

abbrev pub CloseLosesNone : Type 0
CloseLosesNone = (part : Part) → LosesNone part

-- at a close all that go on have asked
abbrev pub CloseIsDue : DeskState → Call → Type 0
CloseIsDue d Close = AllAsked d.running
CloseIsDue d _ = Unit {0}

-- and so at each close of these calls
abbrev pub ClosesAreDue : (d : DeskState) (steps : List (Call × Reply)) (new : DeskState) → Leads d steps new → Type 0
ClosesAreDue d [] new run = Unit {0}
ClosesAreDue d (step ∷ steps) new run = CloseIsDue d step.0 × ClosesAreDue run.0 steps new run.3

-- Then no published transaction was aborted for the epoch's end.
abbrev pub DueClosesEndNone : Type 0
DueClosesEndNone = (setup : Setup) (epoch left : ℕ) (clients : List ℕ) (steps : List (Call × Reply)) (d : DeskState) (run : Leads (new_desk setup epoch left clients) steps d)
    → MayOpen setup epoch left clients → ClosesAreDue (new_desk setup epoch left clients) steps d run → All (λ r. All (λ t. t.outcome ≡ Aborted EpochEnd → ⊥) r.txns) (published steps)
