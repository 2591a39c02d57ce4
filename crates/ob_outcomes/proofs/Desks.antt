-- What no call changes: the parameters, and which clients there are. With it what every call keeps.
use Rattle.std.proofs.Common.{◌≡◌, ℕ, Bool, true, false, ◌==◌, if◌then◌else◌, List, [], ◌∷◌, map, Option, None, Some, option_map, unwrap_or, refl, sym, ap, ◌∙◌, subst, inl, inr}
use Rattle.std.specs.Option.{option_or}
use Rattle.std.proofs.lemmas.Option.{none-some}
use Rattle.ob_base.specs.declared.fault.Fault.{Fault}
use Rattle.ob_serial.specs.declared.records.Outcome.{Outcome}
use Rattle.ob_serial.specs.declared.records.Outcome.TheVariants.{Committed, Aborted as AbortedBy, Unsure as UnsureOf}
use Rattle.ob_serial.specs.declared.records.Why.TheVariants.{Stopped}
use Rattle.ob_desk.specs.declared.clients.Client.{Client}
use Rattle.ob_desk.specs.Desk.{Part, DeskState, Setup, new_desk, new_client, is_memory, stop_closed, stopped_by, stop_part, settle_client, settle, on_client, begin_client, sign_off_client, Call, Begin}
use Rattle.ob_desk.specs.Desk.{GetKey, Poll, Write, Commit, Abort, Settled, Looks, SignOff, Stop, Unsure, IsStopped, TakeBatch, Deliver, Close, Publish, Reply, Begun, Refused, Value, Waits, Aborted}
use Rattle.ob_desk.specs.Desk.{Done, IsSettled, Seen, StoppedBy, Batch, Writes, Published, DeskStep, MayCall}
use Rattle.ob_outcomes.proofs.Reached.{Kept, kept_new, kept_step}

pub record Runs (setup : Setup) (clients : List ℕ) (d : DeskState) : Type 0 where
  pub kept : Kept d
  pub same_setup : d.setup ≡ setup
  pub numbers : map (λ c. c.number) d.clients ≡ clients

-- a change of every client that keeps its number
numbers_mapped : (f : Client → Client) → ((c : Client) → (f c).number ≡ c.number) → (cs : List Client) → map (λ c. c.number) (map f cs) ≡ map (λ c. c.number) cs
numbers_mapped f keeps [] = refl
numbers_mapped f keeps (c ∷ cs) = ap (λ n. n ∷ map (λ x. x.number) (map f cs)) (keeps c) ∙ ap (λ ns. c.number ∷ ns) (numbers_mapped f keeps cs)

numbers_new : (numbers : List ℕ) → map (λ c. c.number) (map new_client numbers) ≡ numbers
numbers_new [] = refl
numbers_new (n ∷ ns) = ap (λ ms. n ∷ ms) (numbers_new ns)

numbers_on : (f : Client → Client) → ((c : Client) → (f c).number ≡ c.number) → (cs : List Client) (number : ℕ) → map (λ c. c.number) (on_client f cs number) ≡ map (λ c. c.number) cs
numbers_on f keeps cs number = numbers_mapped (λ c. if c.number == number then f c else c) (λ c. step c (c.number == number)) cs
  where
    step : (c : Client) (b : Bool) → (if b then f c else c).number ≡ c.number
    step c true = keeps c
    step c false = refl

-- what was stopped stays so
pub never_none : (o : Option Fault) (f : Fault) → option_or o (Some f) ≡ None → ⊥
never_none None f e = none-some f (sym e)
never_none (Some g) f e = none-some g (sym e)

-- the same parameters and clients
pub record SameSetup (d new : DeskState) : Type 0 where
  pub setup : new.setup ≡ d.setup
  pub numbers : map (λ c. c.number) new.clients ≡ map (λ c. c.number) d.clients

-- the clients are the same
alike : (d new made : DeskState) → new ≡ made → made.setup ≡ d.setup → made.clients ≡ d.clients → SameSetup d new
alike d new made e setup clients = record { setup = ap (λ (n : DeskState). n.setup) e ∙ setup; numbers = ap (λ (n : DeskState). map (λ c. c.number) n.clients) e ∙ ap (map (λ c. c.number)) clients }

numbers_settled : (part : Part) (otherwise : Outcome ℕ) (cs : List Client) → map (λ c. c.number) (settle part otherwise cs) ≡ map (λ c. c.number) cs
numbers_settled part otherwise cs = numbers_mapped (settle_client part otherwise) (λ c. refl) cs

stopped_alike : (d : DeskState) (f : Fault) → SameSetup d (stopped_by f d)
stopped_alike d f = step (is_memory f)
  where
    closed : (o : Option Part) → map (λ c. c.number) (unwrap_or (option_map (λ c. settle c (AbortedBy (Stopped f)) d.clients) o) d.clients) ≡ map (λ c. c.number) d.clients
    closed None = refl
    closed (Some part) = numbers_settled part (AbortedBy (Stopped f)) d.clients

    step : (b : Bool) → SameSetup d (if b then record d { stop = option_or d.stop (Some f); running = stop_part f d.running } else stop_closed f (record d { stop = option_or d.stop (Some f); running = stop_part f d.running }))
    step true = record { setup = refl; numbers = refl }
    step false = record { setup = refl; numbers = closed d.closed }

pub setup_step : (d : DeskState) (call : Call) (reply : Reply) (new : DeskState) → DeskStep d call reply new → SameSetup d new
setup_step d (Begin client) (Begun x) new step = subst (SameSetup d) (sym step.state) (record { setup = refl; numbers = numbers_on (begin_client x) (λ c. refl) d.clients client })
setup_step d (Begin client) (Refused f) new step = alike d new d step.same refl refl
setup_step d (GetKey x k) (Value value) new step = alike d new _ step.state refl refl
setup_step d (GetKey x k) Waits new step = alike d new _ step.state refl refl
setup_step d (GetKey x k) (Aborted why) new (inl step) = alike d new d step.same refl refl
setup_step d (GetKey x k) (Aborted why) new (inr (inl step)) = alike d new _ step.state refl refl
setup_step d (GetKey x k) (Aborted why) new (inr (inr step)) = alike d new _ step.state refl refl
setup_step d (Poll x) (Value value) new step = alike d new _ step.state refl refl
setup_step d (Poll x) Waits new step = alike d new d step.same refl refl
setup_step d (Poll x) (Aborted why) new step = alike d new d step.same refl refl
setup_step d (Write x k value) Done new step = alike d new _ step.state refl refl
setup_step d (Write x k value) (Aborted why) new (inl step) = alike d new d step.same refl refl
setup_step d (Write x k value) (Aborted why) new (inr (inl step)) = alike d new _ step.state refl refl
setup_step d (Write x k value) (Aborted why) new (inr (inr step)) = alike d new _ step.state refl refl
setup_step d (Commit x) Done new step = alike d new _ step.state refl refl
setup_step d (Commit x) (Aborted why) new step = alike d new d step.same refl refl
setup_step d (Abort x) (Aborted why) new (inl step) = alike d new d step.same refl refl
setup_step d (Abort x) (Aborted why) new (inr step) = alike d new _ step.state refl refl
setup_step d (Settled x) (IsSettled outcome) new step = alike d new d step.1 refl refl
setup_step d Looks (Seen look) new step = alike d new d step.1 refl refl
setup_step d (SignOff client) Done new step = subst (SameSetup d) (sym step.state) (record { setup = refl; numbers = numbers_on sign_off_client (λ c. refl) d.clients client })
setup_step d (Stop f) Done new step = subst (SameSetup d) (sym step.state) (stopped_alike d f)
setup_step d (Unsure f) Done new step = subst (SameSetup d) (sym step.state) (record { setup = refl; numbers = numbers_settled step.part (UnsureOf step.part.epoch) d.clients })
setup_step d IsStopped (StoppedBy fault) new step = alike d new d step.1 refl refl
setup_step d TakeBatch (Batch keys) new step = alike d new _ step.state refl refl
setup_step d (Deliver keys values) Done new step = alike d new _ step.state refl refl
setup_step d Close (Writes writes) new step = alike d new _ step.state refl refl
setup_step d (Publish epoch left) (Published told) new step = subst (SameSetup d) (sym step.state) (record { setup = refl; numbers = numbers_settled step.part Committed d.clients })
setup_step d _ _ new step = absurd step

pub runs_new : (setup : Setup) (epoch left : ℕ) (clients : List ℕ) → Runs setup clients (new_desk setup epoch left clients)
runs_new setup epoch left clients = record { kept = kept_new setup epoch left clients; same_setup = refl; numbers = numbers_new clients }

pub runs_step : (setup : Setup) (clients : List ℕ) (d : DeskState) (call : Call) (reply : Reply) (new : DeskState) → MayCall d call → DeskStep d call reply new → Runs setup clients d → Runs setup clients new
runs_step setup clients d call reply new may step h =
    let kept_too = setup_step d call reply new step in
    record { kept = kept_step d call reply new may step h.kept; same_setup = kept_too.setup ∙ h.same_setup; numbers = kept_too.numbers ∙ h.numbers }
