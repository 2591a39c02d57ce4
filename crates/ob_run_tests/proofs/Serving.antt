-- A desk and a runner that go together, call by call.
use Rattle.std.proofs.Common.{◌≡◌, ◌≤◌, ℕ, Bool, true, false, List, [], ◌∷◌, ◌++◌, length, Option, None, refl, sym, ap, subst, ◌∙◌, append-nil, cond, inl, inr, ◌<◌, eqb, arith}
use Rattle.std.specs.Prelude.{All, Contains}
use Rattle.std.specs.List.{IsAnyAnswer}
use Rattle.std.specs.List.Sorted.{IsStrictlyIncreasing}
use Rattle.std.proofs.lemmas.Bool.Decides.{Decides-eqb}
use Rattle.std.proofs.lemmas.List.Elements.{All-head, All-tail, contains_decides, Decides-contains}
use Rattle.ob_base.specs.declared.params.Params.{Params}
use Rattle.ob_base.specs.declared.fault.Fault.{Fault}
use Rattle.ob_base.specs.declared.fault.Fault.TheVariants.{Memory}
use Rattle.ob_order.specs.Order.{OrderState, asked, is_asked_for, batch_in_flight}
use Rattle.ob_order.proofs.Batches.{taken_in_flight}
use Rattle.ob_desk.specs.Desk as desk
use Rattle.ob_desk.specs.Desk.{DeskState, Setup, Call, Reply, MayCall, DeskStep, MayOpen, new_desk, setup_of}
use Rattle.ob_shares.proofs.Fitting.{none_fit}
use Rattle.ob_session.specs.Steps.{Leads, IsOwn}
use Rattle.ob_session.specs.Clients.{said_by}
use Rattle.ob_session.specs.Agreeing.{Agrees}
use Rattle.ob_session.proofs.Runs.{calls_agree}
use Rattle.ob_session.proofs.Saying.{leads_join, said_append}
use Rattle.ob_script.specs.Script.{Scripts, AreSound}
use Rattle.ob_runner.specs.Places.{RunnerState, Fits}
use Rattle.ob_run_tests.specs.Served.{IsRunnerServed}

-- what a client's calls leave of the desk
record Keeps (d new : DeskState) : Type 0 where
  setup : new.setup ≡ d.setup
  closed : d.closed ≡ None → new.closed ≡ None
  flying : new.running.order.flying ≡ d.running.order.flying

kept_by : (d new e : DeskState) → new ≡ e → Keeps d e → Keeps d new
kept_by d new e is keeps = subst (Keeps d) (sym is) keeps

all_kept : (d new : DeskState) → new ≡ d → Keeps d new
all_kept d new is = kept_by d new d is (record { setup = refl; closed = λ none. none; flying = refl })

asked_flying : (o : OrderState) (k : ℕ) → (asked o k).flying ≡ o.flying
asked_flying o k = elim (is_asked_for o k) as (λ (b : Bool). (cond b o (record o { queue = o.queue ++ k ∷ [] })).flying ≡ o.flying) [ true ↦ refl | false ↦ refl ]

step_kept : (client : ℕ) (d : DeskState) (call : Call) (reply : Reply) (new : DeskState) → IsOwn client (call, reply) → DeskStep d call reply new → Keeps d new
step_kept client d (desk.Begin c) (desk.Begun x) new own step = kept_by d new _ step.state (record { setup = refl; closed = λ none. none; flying = refl })
step_kept client d (desk.Begin c) (desk.Refused f) new own step = all_kept d new step.same
step_kept client d (desk.GetKey x k) (desk.Value value) new own step = kept_by d new _ step.state (record { setup = refl; closed = λ none. none; flying = refl })
step_kept client d (desk.GetKey x k) desk.Waits new own step = kept_by d new _ step.state (record { setup = refl; closed = λ none. none; flying = asked_flying d.running.order k })
step_kept client d (desk.GetKey x k) (desk.Aborted why) new own (inl step) = all_kept d new step.same
step_kept client d (desk.GetKey x k) (desk.Aborted why) new own (inr (inl step)) = kept_by d new _ step.state (record { setup = refl; closed = λ none. none; flying = refl })
step_kept client d (desk.GetKey x k) (desk.Aborted why) new own (inr (inr step)) = kept_by d new _ step.state (record { setup = refl; closed = λ none. none; flying = refl })
step_kept client d (desk.Poll x) (desk.Value value) new own step = kept_by d new _ step.state (record { setup = refl; closed = λ none. none; flying = refl })
step_kept client d (desk.Poll x) desk.Waits new own step = all_kept d new step.same
step_kept client d (desk.Poll x) (desk.Aborted why) new own step = all_kept d new step.same
step_kept client d (desk.Write x k value) desk.Done new own step = kept_by d new _ step.state (record { setup = refl; closed = λ none. none; flying = refl })
step_kept client d (desk.Write x k value) (desk.Aborted why) new own (inl step) = all_kept d new step.same
step_kept client d (desk.Write x k value) (desk.Aborted why) new own (inr (inl step)) = kept_by d new _ step.state (record { setup = refl; closed = λ none. none; flying = refl })
step_kept client d (desk.Write x k value) (desk.Aborted why) new own (inr (inr step)) = kept_by d new _ step.state (record { setup = refl; closed = λ none. none; flying = refl })
step_kept client d (desk.Commit x) desk.Done new own step = kept_by d new _ step.state (record { setup = refl; closed = λ none. none; flying = refl })
step_kept client d (desk.Commit x) (desk.Aborted why) new own step = all_kept d new step.same
step_kept client d (desk.Abort x) (desk.Aborted why) new own (inl step) = all_kept d new step.same
step_kept client d (desk.Abort x) (desk.Aborted why) new own (inr step) = kept_by d new _ step.state (record { setup = refl; closed = λ none. none; flying = refl })
step_kept client d (desk.Settled x) (desk.IsSettled outcome) new own step = all_kept d new step.1
step_kept client d (desk.SignOff c) desk.Done new own step = kept_by d new _ step.state (record { setup = refl; closed = λ none. none; flying = refl })
step_kept client d (desk.Stop f) desk.Done new own step = kept_by d new _ (step.state ∙ ap (λ (g : Fault). desk.stopped_by g d) own) (record { setup = refl; closed = λ none. none; flying = refl })
step_kept client d desk.IsStopped (desk.StoppedBy fault) new own step = all_kept d new step.1
step_kept client d desk.Looks reply new own step = absurd own
step_kept client d (desk.Unsure f) reply new own step = absurd own
step_kept client d desk.TakeBatch reply new own step = absurd own
step_kept client d (desk.Deliver keys values) reply new own step = absurd own
step_kept client d desk.Close reply new own step = absurd own
step_kept client d (desk.Publish epoch left) reply new own step = absurd own
step_kept client d _ _ new own step = absurd step

run_kept : (client : ℕ) (d : DeskState) (steps : List (Call × Reply)) (new : DeskState) → All (IsOwn client) steps → Leads d steps new → Keeps d new
run_kept client d [] new own leads = all_kept d new leads
run_kept client d (step ∷ steps) new own (mid, may, does, rest) =
    let first = step_kept client d step.0 step.1 mid (All-head (IsOwn client) step steps own) does in
    let last = run_kept client mid steps new (All-tail (IsOwn client) step steps own) rest in
    record { setup = last.setup ∙ first.setup; closed = λ none. last.closed (first.closed none); flying = last.flying ∙ first.flying }

-- the runner's next step may be made
pub served_agrees : (r : RunnerState) (d : DeskState) → IsRunnerServed r d → (said : List (Call × Reply)) × Fits r said × Agrees d r.client said
served_agrees r d s = (said_by r.client s.steps, s.fits, calls_agree s.setup s.epoch s.left s.clients s.steps d r.client s.may s.leads s.has)

-- and they go together behind it
pub served_step : (r next : RunnerState) (d new : DeskState) (made : List (Call × Reply)) → IsRunnerServed r d → next.client ≡ r.client → next.keys ≡ r.keys → Leads d made new → All (IsOwn r.client) made
    → ((said : List (Call × Reply)) → Fits r said → Fits next (said ++ said_by r.client made)) → IsRunnerServed next new
served_step r next d new made s client keys leads own fits =
    let kept = run_kept r.client d made new own leads in
    record {
      setup = s.setup;
      epoch = s.epoch;
      left = s.left;
      clients = s.clients;
      steps = s.steps ++ made;
      may = s.may;
      leads = leads_join (new_desk s.setup s.epoch s.left s.clients) s.steps d made new s.leads leads;
      has = subst (λ (c : ℕ). Contains s.clients c) (sym client) s.has;
      fits = subst (λ (c : ℕ). Fits next (said_by c (s.steps ++ made))) (sym client)
          (subst (λ (said : List (Call × Reply)). Fits next said) (sym (said_append r.client s.steps made)) (fits (said_by r.client s.steps) s.fits));
      bound = subst (λ (q : Setup). next.keys ≤ q.params.keys) (sym kept.setup) (subst (λ (k : ℕ). k ≤ d.setup.params.keys) (sym keys) s.bound);
      not_closed = kept.closed s.not_closed;
      none_flying = kept.flying ∙ s.none_flying;
    }

-- a call that is no client's
pub served_call : (r : RunnerState) (d new : DeskState) (made : List (Call × Reply)) → IsRunnerServed r d → Leads d made new → said_by r.client made ≡ [] → new.setup ≡ d.setup → new.closed ≡ None → new.running.order.flying ≡ []
    → IsRunnerServed r new
served_call r d new made s leads none setup closed flying = record {
  setup = s.setup;
  epoch = s.epoch;
  left = s.left;
  clients = s.clients;
  steps = s.steps ++ made;
  may = s.may;
  leads = leads_join (new_desk s.setup s.epoch s.left s.clients) s.steps d made new s.leads leads;
  has = s.has;
  fits = subst (λ (said : List (Call × Reply)). Fits r said) (sym (said_append r.client s.steps made ∙ ap (λ (t : List (Call × Reply)). said_by r.client s.steps ++ t) none ∙ append-nil (said_by r.client s.steps))) s.fits;
  bound = subst (λ (q : Setup). r.keys ≤ q.params.keys) (sym setup) s.bound;
  not_closed = closed;
  none_flying = flying;
}

-- the desk is stopped for want of memory
pub served_stop : (r : RunnerState) (d new : DeskState) → IsRunnerServed r d → DeskStep d (desk.Stop Memory) desk.Done new → IsRunnerServed r new
served_stop r d new s step = let kept = step_kept r.client d (desk.Stop Memory) desk.Done new refl step in
    served_call r d new ((desk.Stop Memory, desk.Done) ∷ []) s (new, tt, step, refl) refl kept.setup (kept.closed s.not_closed) (kept.flying ∙ s.none_flying)

-- a batch that was taken may be delivered
may_deliver : (d mid : DeskState) (keys : List (Option ℕ)) (values : List (Option (List ℕ))) → d.closed ≡ None → DeskStep d desk.TakeBatch (desk.Batch keys) mid → length values ≡ length keys → MayCall mid (desk.Deliver keys values)
may_deliver d mid keys values closed take lengths = (
  ap (λ (q : DeskState). q.closed) take.state ∙ closed,
  take.taken ∙ taken_in_flight d.setup.params d.running.order ∙ sym (ap (λ (q : DeskState). batch_in_flight q.setup.params q.running.order) take.state),
  lengths,
)

-- a batch is taken and delivered
pub served_round : (r : RunnerState) (d mid new : DeskState) (keys : List (Option ℕ)) (values : List (Option (List ℕ))) → IsRunnerServed r d → 0 < d.running.order.left → DeskStep d desk.TakeBatch (desk.Batch keys) mid
    → length values ≡ length keys → DeskStep mid (desk.Deliver keys values) desk.Done new → IsRunnerServed r new
served_round r d mid new keys values s some take lengths deliver =
    served_call r d new ((desk.TakeBatch, desk.Batch keys) ∷ (desk.Deliver keys values, desk.Done) ∷ []) s
    (mid, (s.not_closed, some, s.none_flying), take, (new, may_deliver d mid keys values s.not_closed take lengths, deliver, refl)) refl
    (ap (λ (q : DeskState). q.setup) deliver.state ∙ ap (λ (q : DeskState). q.setup) take.state)
    (ap (λ (q : DeskState). q.closed) deliver.state ∙ ap (λ (q : DeskState). q.closed) take.state ∙ s.not_closed)
    (ap (λ (q : DeskState). q.running.order.flying) deliver.state)

-- whether an item was found
pub found_in : (xs : List ℕ) (x : ℕ) (r : Bool) → IsAnyAnswer (λ y t. eqb y x ≡ t) xs r → r ≡ true → Contains xs x
found_in xs x r answer e = (Decides-contains xs x r (contains_decides eqb Decides-eqb xs x r answer)).0 e

-- a script's clients may open a desk
pub may_open : (params : Params) (scripts : Scripts) (clients : List ℕ) → AreSound scripts → clients ≡ scripts.clients → params.batches ≡ 2 → MayOpen (setup_of params) 1 2 clients
may_open params scripts clients sound same batches = record {
  few_left = omega (arith, batches);
  low_epoch = omega arith;
  named = subst (λ (cs : List ℕ). All (λ c. (1 ≤ c) × (c ≤ 64)) cs) (sym same) sound.named;
  rising = subst (λ (cs : List ℕ). IsStrictlyIncreasing cs) (sym same) sound.rising;
  fit = none_fit (length clients) params.places params.writes;
}

-- a new one of each go together
pub served_new : (r : RunnerState) (d : DeskState) (setup : Setup) (epoch left : ℕ) (clients : List ℕ) → MayOpen setup epoch left clients → Contains clients r.client → Fits r [] → r.keys ≤ setup.params.keys
    → d ≡ new_desk setup epoch left clients → IsRunnerServed r d
served_new r d setup epoch left clients may has fits bound is = subst (IsRunnerServed r) (sym is) (record {
  setup = setup;
  epoch = epoch;
  left = left;
  clients = clients;
  steps = [];
  may = may;
  leads = refl;
  has = has;
  fits = fits;
  bound = bound;
  not_closed = refl;
  none_flying = refl;
})
