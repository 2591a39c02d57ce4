-- A client that was told Committed is told of an epoch that has ended.
use Rattle.std.proofs.Common.{◌≡◌, ℕ, ◌≤◌, Bool, true, false, ◌==◌, if◌then◌else◌, List, [], ◌∷◌, map, Option, None, Some, option_map, option_and_then, unwrap_or, refl, sym, ap, ◌∙◌, subst, inl, inr, ◌⊎◌, ⊎_elim, arith}
use Rattle.std.specs.Option.{option_or}
use Rattle.std.proofs.lemmas.Option.{none-some, same_Some}
use Rattle.std.proofs.lemmas.Bool.{eqb-true}
use Rattle.ob_desk.specs.Desk.{Fault, Why, Outcome, Committed, AbortedBy, UnsureOf, Stopped, is_memory, stop_closed, stop_part, new_client, Part, DeskState, client_in, client_at, on_client, outcome_in, outcome_at, settle, settle_client, why_at, part_at, Call, Begin, GetKey, Poll, Write}
use Rattle.ob_desk.specs.Desk.{Commit, Abort, Settled, Looks, SignOff, Stop, Unsure, IsStopped, TakeBatch, Deliver, Close, Publish, Reply, Begun, Refused, Value, Waits, Aborted, Done, IsSettled, Seen, StoppedBy, Batch, Writes, Published, DeskStep, MayCall}
use Rattle.ob_desk.specs.declared.calls.Txn.{Txn}
use Rattle.ob_desk.specs.declared.clients.Client.{Client}
use Rattle.ob_world.specs.Headlines.{AreUpTo, told_committed}

-- where a client's last transaction was committed, its epoch is at most e
pub record IsEnded (e : ℕ) (c : Client) : Type 0 where
  pub at_last : c.outcome ≡ Some Committed → (x : Txn) → c.last ≡ Some x → x.epoch ≤ e

abbrev pub AreEnded : ℕ → List Client → Type 0
AreEnded e [] = Unit {0}
AreEnded e (c ∷ cs) = IsEnded e c × AreEnded e cs

pub ended_later : (e f : ℕ) → e ≤ f → (cs : List Client) → AreEnded e cs → AreEnded f cs
ended_later e f le [] h = tt
ended_later e f le (c ∷ cs) h = (record { at_last = λ o x l. (let small : x.epoch ≤ e = h.0.at_last o x l in omega (arith, small, le)) }, ended_later e f le cs h.1)

ended_map : (e : ℕ) (f : Client → Client) → ((c : Client) → IsEnded e c → IsEnded e (f c)) → (cs : List Client) → AreEnded e cs → AreEnded e (map f cs)
ended_map e f keeps [] h = tt
ended_map e f keeps (c ∷ cs) h = (keeps c h.0, ended_map e f keeps cs h.1)

ended_at : (e : ℕ) (cs : List Client) (number : ℕ) (c : Client) → AreEnded e cs → client_in cs number ≡ Some c → IsEnded e c
ended_at e [] number c h is = absurd (none-some c is)
ended_at e (x ∷ xs) number c h is = step (x.number == number) is (ended_at e xs number c h.1)
  where
    step : (b : Bool) → (if b then Some x else client_in xs number) ≡ Some c → (client_in xs number ≡ Some c → IsEnded e c) → IsEnded e c
    step true is rest = subst (IsEnded e) (same_Some x c is) h.0
    step false is rest = rest is

ended_on : (e : ℕ) (f : Client → Client) (number : ℕ) → ((c : Client) → IsEnded e c → IsEnded e (f c)) → (cs : List Client) → AreEnded e cs → AreEnded e (on_client f cs number)
ended_on e f number keeps cs h = ended_map e _ (λ c was. choose c (c.number == number) was) cs h
  where
    choose : (c : Client) (b : Bool) → IsEnded e c → IsEnded e (if b then f c else c)
    choose c true was = keeps c was
    choose c false was = was

-- how a client's last transaction is settled: newly, or as before
settled_by : (part : Part) (otherwise : Outcome ℕ) (x : Txn) (old : Option (Outcome ℕ)) → option_or (if x.epoch == part.epoch then Some (outcome_in part otherwise x.ticket) else None) old ≡ Some Committed
    → ((x.epoch ≡ part.epoch) × (outcome_in part otherwise x.ticket ≡ Committed)) ⊎ (old ≡ Some Committed)
settled_by part otherwise x old is = step (x.epoch == part.epoch) refl is
  where
    step : (b : Bool) → (x.epoch == part.epoch) ≡ b → option_or (if b then Some (outcome_in part otherwise x.ticket) else None) old ≡ Some Committed → ((x.epoch ≡ part.epoch) × (outcome_in part otherwise x.ticket ≡ Committed)) ⊎ (old ≡ Some Committed)
    step true same is = inl (eqb-true x.epoch part.epoch same, same_Some (outcome_in part otherwise x.ticket) Committed is)
    step false same is = inr is

ended_settle : (e : ℕ) (part : Part) (otherwise : Outcome ℕ) → ((t : ℕ) → outcome_in part otherwise t ≡ Committed → part.epoch ≤ e) → (cs : List Client) → AreEnded e cs → AreEnded e (settle part otherwise cs)
ended_settle e part otherwise new cs h = ended_map e (settle_client part otherwise) keeps cs h
  where
    keeps : (c : Client) → IsEnded e c → IsEnded e (settle_client part otherwise c)
    keeps c was = record {
      at_last = λ is x last.
          ⊎_elim (λ s. (let small : part.epoch ≤ e = new x.ticket s.1 in let same : x.epoch ≡ part.epoch = s.0 in omega (arith, small, same)))
          (λ old. was.at_last old x last)
          (settled_by part otherwise x c.outcome (ap (λ (l : Option Txn). option_or (option_and_then (λ y. if y.epoch == part.epoch then Some (outcome_in part otherwise y.ticket) else None) l) c.outcome) (sym last) ∙ is));
    }

-- an outcome that isn't Committed settles none as committed
not_aborted : (part : Part) (why : Why ℕ) (t : ℕ) → outcome_in part (AbortedBy why) t ≡ Committed → ⊥
not_aborted part why t is = step (why_at part t) is
  where
    step : (o : Option (Why ℕ)) → unwrap_or (option_map AbortedBy o) (AbortedBy why) ≡ Committed → ⊥
    step None is = cc
    step (Some w) is = cc

not_unsure : (part : Part) (epoch t : ℕ) → outcome_in part (UnsureOf epoch) t ≡ Committed → ⊥
not_unsure part epoch t is = step (why_at part t) is
  where
    step : (o : Option (Why ℕ)) → unwrap_or (option_map AbortedBy o) (UnsureOf epoch) ≡ Committed → ⊥
    step None is = cc
    step (Some w) is = cc

none_committed : ◌≡◌ {A = Option (Outcome ℕ)} None (Some Committed) → ⊥
none_committed is = absurd (none-some Committed is)

moved : (e : ℕ) (want new : DeskState) → new ≡ want → AreEnded e want.clients → AreEnded e new.clients
moved e want new is h = subst (λ (d : DeskState). AreEnded e d.clients) (sym is) h

stop_all : (e : ℕ) (f : Fault) (o : Option Part) (cs : List Client) → AreEnded e cs → AreEnded e (unwrap_or (option_map (λ c. settle c (AbortedBy (Stopped f)) cs) o) cs)
stop_all e f None cs h = h
stop_all e f (Some part) cs h = ended_settle e part (AbortedBy (Stopped f)) (λ t is. absurd (not_aborted part (Stopped f) t is)) cs h

abbrev halted : Fault → DeskState → DeskState
halted f d = record d { stop = option_or d.stop (Some f); running = stop_part f d.running }

abbrev stopped_as : Fault → Bool → DeskState → DeskState
stopped_as f b d = if b then halted f d else stop_closed f (halted f d)

stopped_ended : (e : ℕ) (f : Fault) (b : Bool) (d : DeskState) → AreEnded e d.clients → AreEnded e (stopped_as f b d).clients
stopped_ended e f true d h = h
stopped_ended e f false d h = stop_all e f d.closed d.clients h

pub ended_step : (e : ℕ) (d : DeskState) (call : Call) (reply : Reply) (new : DeskState) → DeskStep d call reply new → ((epoch left : ℕ) → call ≡ Publish epoch left → (part : Part) → d.closed ≡ Some part → part.epoch ≤ e) → AreEnded e d.clients → AreEnded e new.clients
ended_step e d (Begin client) (Begun x) new step p h = moved e _ new step.state (ended_on e _ client (λ c was. record { at_last = λ is. absurd (none_committed is) }) d.clients h)
ended_step e d (Begin client) (Refused f) new step p h = moved e d new step.same h
ended_step e d (GetKey x k) (Value value) new step p h = moved e _ new step.state h
ended_step e d (GetKey x k) Waits new step p h = moved e _ new step.state h
ended_step e d (GetKey x k) (Aborted why) new (inl step) p h = moved e _ new step.same h
ended_step e d (GetKey x k) (Aborted why) new (inr (inl step)) p h = moved e _ new step.state h
ended_step e d (GetKey x k) (Aborted why) new (inr (inr step)) p h = moved e _ new step.state h
ended_step e d (Poll x) (Value value) new step p h = moved e _ new step.state h
ended_step e d (Poll x) Waits new step p h = moved e _ new step.same h
ended_step e d (Poll x) (Aborted why) new step p h = moved e _ new step.same h
ended_step e d (Write x k value) Done new step p h = moved e _ new step.state h
ended_step e d (Write x k value) (Aborted why) new (inl step) p h = moved e _ new step.same h
ended_step e d (Write x k value) (Aborted why) new (inr (inl step)) p h = moved e _ new step.state h
ended_step e d (Write x k value) (Aborted why) new (inr (inr step)) p h = moved e _ new step.state h
ended_step e d (Commit x) Done new step p h = moved e _ new step.state h
ended_step e d (Commit x) (Aborted why) new step p h = moved e _ new step.same h
ended_step e d (Abort x) (Aborted why) new (inl step) p h = moved e _ new step.same h
ended_step e d (Abort x) (Aborted why) new (inr step) p h = moved e _ new step.state h
ended_step e d (Settled x) (IsSettled outcome) new step p h = moved e _ new step.1 h
ended_step e d Looks (Seen look) new step p h = moved e _ new step.1 h
ended_step e d (SignOff client) Done new step p h = moved e _ new step.state (ended_on e _ client (λ c was. record { at_last = λ is x last. was.at_last is x last }) d.clients h)
ended_step e d (Stop f) Done new step p h = moved e (stopped_as f (is_memory f) d) new step.state (stopped_ended e f (is_memory f) d h)
ended_step e d (Unsure f) Done new step p h = moved e _ new step.state (ended_settle e step.part (UnsureOf step.part.epoch) (λ t is. absurd (not_unsure step.part step.part.epoch t is)) d.clients h)
ended_step e d IsStopped (StoppedBy fault) new step p h = moved e _ new step.1 h
ended_step e d TakeBatch (Batch keys) new step p h = moved e _ new step.state h
ended_step e d (Deliver keys values) Done new step p h = moved e _ new step.state h
ended_step e d Close (Writes writes) new step p h = moved e _ new step.state h
ended_step e d (Publish epoch left) (Published told) new step p h = moved e _ new step.state (ended_settle e step.part Committed (λ t is. p epoch left refl step.part step.is_closed) d.clients h)
ended_step e d _ _ new step p h = absurd step

pub ended_new : (e : ℕ) (numbers : List ℕ) → AreEnded e (map new_client numbers)
ended_new e [] = tt
ended_new e (n ∷ ns) = (record { at_last = λ is. absurd (none_committed is) }, ended_new e ns)

-- a Committed is the client's outcome
from_client : (d : DeskState) (x : Txn) (c : Client) → client_at d x.client ≡ Some c → Some Committed ≡ outcome_at d x → c.outcome ≡ Some Committed
from_client d x c there is = step (part_at d x.epoch) is
  where
    last : (o : Option (Why ℕ)) → Some Committed ≡ option_or (option_map AbortedBy o) (option_and_then (λ c. c.outcome) (client_at d x.client)) → c.outcome ≡ Some Committed
    last None is = sym (ap (λ (o : Option Client). option_and_then (λ c. c.outcome) o) there) ∙ sym is
    last (Some w) is = absurd (let same : Committed ≡ AbortedBy w = same_Some Committed (AbortedBy w) is in cc)

    step : (o : Option Part) → Some Committed ≡ option_or (option_and_then (λ part. option_map AbortedBy (why_at part x.ticket)) o) (option_and_then (λ c. c.outcome) (client_at d x.client)) → c.outcome ≡ Some Committed
    step None is = last None is
    step (Some part) is = last (why_at part x.ticket) is

pub told_held : (e : ℕ) (d : DeskState) (call : Call) (reply : Reply) (new : DeskState) → MayCall d call → DeskStep d call reply new → AreEnded e d.clients → AreUpTo e (told_committed call reply)
told_held e d (Settled x) (IsSettled (Some Committed)) new may step h = ((ended_at e d.clients x.client may.client h may.found).at_last (from_client d x may.client may.found step.0) x may.last, tt)
told_held e d _ _ new may step h = tt
