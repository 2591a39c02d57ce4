-- The driver of epochs knows from its own calls how far the epochs are.
use Rattle.std.proofs.Common.{◌≡◌, ℕ, zero, suc, ◌-◌, ◌==◌, Bool, true, false, if◌then◌else◌, List, [], ◌∷◌, ◌++◌, map, replicate, take, None, Some, Option, refl, sym, ap, ap₂, ◌∙◌, inl, inr, eq-eqb, eqb-true}
use Rattle.std.specs.Option.{is_some, option_map}
use Rattle.std.proofs.lemmas.Bool.{false≢true}
use Rattle.std.proofs.lemmas.Option.{none-some}
use Rattle.std.specs.List.{All}
use Rattle.std.proofs.lemmas.List.Elements.{All-head, All-tail}
use Rattle.ob_base.specs.declared.fault.Fault.{Fault}
use Rattle.ob_order.specs.Order.{is_asked_for}
use Rattle.ob_desk.specs.Desk as desk
use Rattle.ob_desk.specs.Desk.{DeskState, Call, Reply, DeskStep, is_memory, stop_closed}
use Rattle.ob_desk.proofs.Ends.{closing-epoch}
use Rattle.ob_session.specs.Steps.{Leads, IsOwn}
use Rattle.ob_session.specs.Clients.{client_of}
use Rattle.ob_session.proofs.Epochs.{halted}
use Rattle.ob_turn.specs.declared.turn.Entry.{Entry}
use Rattle.ob_turn.specs.History as turns
use Rattle.ob_turn.specs.History.{Calls, entries_of}
use Rattle.ob_hall.specs.Turns.{IsTurn}
use Rattle.ob_hall.specs.Passes.{Steps, calls_in}
use Rattle.ob_hall.specs.Rounds.{Rounds, closed_as, rounds_of, keys_in, rounds_after, rounds_behind}
use Rattle.ob_hall.proofs.Numbers.{setup_run}
use Rattle.ob_hall.proofs.Histories.{noted_calls, calls_lead, IsNoClients}

same : (d new : DeskState) → new ≡ d → rounds_of new ≡ rounds_of d
same d new e = ap rounds_of e

-- ---- a client's call

queued_rounds : (d : DeskState) (queue : List ℕ) (b : Bool)
    → record { epoch = d.running.epoch; has_closed = is_some d.closed; due = option_map (closed_as d.setup.params.keys) d.closed; left = (if b then d.running.order else record d.running.order { queue = queue }).left; flying = (if b then d.running.order else record d.running.order { queue = queue }).flying } ≡ rounds_of d
queued_rounds d queue true = refl
queued_rounds d queue false = refl

memory_stays : (d : DeskState) (f : Fault) (b : Bool) → b ≡ true → rounds_of (if b then halted f d else stop_closed f (halted f d)) ≡ rounds_of d
memory_stays d f true is = refl
memory_stays d f false is = absurd (cc is)

stay : (number : ℕ) (d : DeskState) (call : Call) (reply : Reply) (new : DeskState) → DeskStep d call reply new → IsOwn number (call, reply) → rounds_of new ≡ rounds_of d
stay number d (desk.Begin client) (desk.Begun x) new step own = ap rounds_of step.state
stay number d (desk.Begin client) (desk.Refused f) new step own = same d new step.same
stay number d (desk.GetKey x k) (desk.Value value) new step own = ap rounds_of step.state
stay number d (desk.GetKey x k) desk.Waits new step own = ap rounds_of step.state ∙ queued_rounds d (d.running.order.queue ++ k ∷ []) (is_asked_for d.running.order k)
stay number d (desk.GetKey x k) (desk.Aborted why) new (inl step) own = same d new step.same
stay number d (desk.GetKey x k) (desk.Aborted why) new (inr (inl step)) own = ap rounds_of step.state
stay number d (desk.GetKey x k) (desk.Aborted why) new (inr (inr step)) own = ap rounds_of step.state
stay number d (desk.Poll x) (desk.Value value) new step own = ap rounds_of step.state
stay number d (desk.Poll x) desk.Waits new step own = same d new step.same
stay number d (desk.Poll x) (desk.Aborted why) new step own = same d new step.same
stay number d (desk.Write x k value) desk.Done new step own = ap rounds_of step.state
stay number d (desk.Write x k value) (desk.Aborted why) new (inl step) own = same d new step.same
stay number d (desk.Write x k value) (desk.Aborted why) new (inr (inl step)) own = ap rounds_of step.state
stay number d (desk.Write x k value) (desk.Aborted why) new (inr (inr step)) own = ap rounds_of step.state
stay number d (desk.Commit x) desk.Done new step own = ap rounds_of step.state
stay number d (desk.Commit x) (desk.Aborted why) new step own = same d new step.same
stay number d (desk.Abort x) (desk.Aborted why) new (inl step) own = same d new step.same
stay number d (desk.Abort x) (desk.Aborted why) new (inr step) own = ap rounds_of step.state
stay number d (desk.Settled x) (desk.IsSettled outcome) new step own = same d new step.1
stay number d (desk.SignOff client) desk.Done new step own = ap rounds_of step.state
stay number d (desk.Stop f) desk.Done new step own = ap rounds_of step.state ∙ memory_stays d f (is_memory f) (ap is_memory own)
stay number d desk.IsStopped (desk.StoppedBy fault) new step own = same d new step.1
stay number d desk.Looks (desk.Seen look) new step own = absurd own
stay number d (desk.Unsure f) desk.Done new step own = absurd own
stay number d desk.TakeBatch (desk.Batch keys) new step own = absurd own
stay number d (desk.Deliver keys values) desk.Done new step own = absurd own
stay number d desk.Close (desk.Writes writes) new step own = absurd own
stay number d (desk.Publish epoch left) (desk.Published told) new step own = absurd own
stay number d _ _ new step own = absurd step

-- ---- a call of the driver's

keys_of_batch : (keys : List ℕ) (pads : ℕ) → keys_in (map Some keys ++ replicate pads None) ≡ keys
keys_of_batch [] zero = refl
keys_of_batch [] (suc pads) = keys_of_batch [] pads
keys_of_batch (k ∷ keys) pads = ap (λ (l : List ℕ). k ∷ l) (keys_of_batch keys pads)

stopped_rounds : (d : DeskState) (f : Fault) (b : Bool) → rounds_of (if b then halted f d else stop_closed f (halted f d)) ≡ (if b then rounds_of d else record (rounds_of d) { has_closed = false; due = None })
stopped_rounds d f true = refl
stopped_rounds d f false = refl

moved : (d : DeskState) (call : Call) (reply : Reply) (new : DeskState) → DeskStep d call reply new → client_of call ≡ None → rounds_of new ≡ rounds_after d.setup.params.batches (rounds_of d) call reply
moved d desk.Looks (desk.Seen look) new step none = same d new step.1
moved d (desk.Stop f) desk.Done new step none = ap rounds_of step.state ∙ stopped_rounds d f (is_memory f)
moved d (desk.Unsure f) desk.Done new step none = ap rounds_of step.state
moved d desk.IsStopped (desk.StoppedBy fault) new step none = same d new step.1
moved d desk.TakeBatch (desk.Batch keys) new step none =
    ap rounds_of step.state
    ∙ ap (λ (flying : List ℕ). record { epoch = d.running.epoch; has_closed = is_some d.closed; due = option_map (closed_as d.setup.params.keys) d.closed; left = d.running.order.left - 1; flying = flying }) (sym (ap keys_in step.taken ∙ keys_of_batch (take d.setup.params.places d.running.order.queue) _))
moved d (desk.Deliver keys values) desk.Done new step none = ap rounds_of step.state
moved d desk.Close (desk.Writes writes) new step none =
    ap rounds_of step.state
    ∙ ap₂ (λ (n : ℕ) (ws : List (ℕ × Option (List ℕ))). record { epoch = suc d.running.epoch; has_closed = true; due = Some (record { epoch = n; writes = ws }); left = d.setup.params.batches; flying = [] }) (closing-epoch d.running) (sym step.batch)
moved d (desk.Publish epoch left) (desk.Published told) new step none = ap rounds_of step.state
moved d (desk.Begin client) _ new step none = absurd (none-some client (sym none))
moved d (desk.GetKey x k) _ new step none = absurd (none-some x.client (sym none))
moved d (desk.Poll x) _ new step none = absurd (none-some x.client (sym none))
moved d (desk.Write x k value) _ new step none = absurd (none-some x.client (sym none))
moved d (desk.Commit x) _ new step none = absurd (none-some x.client (sym none))
moved d (desk.Abort x) _ new step none = absurd (none-some x.client (sym none))
moved d (desk.Settled x) _ new step none = absurd (none-some x.client (sym none))
moved d (desk.SignOff client) _ new step none = absurd (none-some client (sym none))
moved d _ _ new step none = absurd step

-- ---- calls, turns and histories

run_stays : (number : ℕ) (d : DeskState) (steps : Steps) (new : DeskState) → Leads d steps new → All (IsOwn number) steps → rounds_of new ≡ rounds_of d
run_stays number d [] new leads own = same d new leads
run_stays number d (s ∷ steps) new (mid, may, step, leads) own =
    run_stays number mid steps new leads (All-tail (IsOwn number) s steps own) ∙ stay number d s.0 s.1 mid step (All-head (IsOwn number) s steps own)

run_moves : (batches : ℕ) (d : DeskState) (steps : Steps) (new : DeskState) → d.setup.params.batches ≡ batches → Leads d steps new → All IsNoClients steps → rounds_of new ≡ rounds_behind batches (rounds_of d) steps
run_moves batches d [] new is leads none = same d new leads
run_moves batches d (s ∷ steps) new is (mid, may, step, leads) none =
    let kept : mid.setup ≡ d.setup = setup_run d (s ∷ []) mid (mid, may, step, refl) in
    run_moves batches mid steps new (ap (λ p. p.params.batches) kept ∙ is) leads (All-tail IsNoClients s steps none)
    ∙ ap (λ (r : Rounds). rounds_behind batches r steps) (moved d s.0 s.1 mid step (All-head IsNoClients s steps none) ∙ ap (λ (n : ℕ). rounds_after n (rounds_of d) s.0 s.1) is)

behind_append : (batches : ℕ) (r : Rounds) (xs ys : Steps) → rounds_behind batches r (xs ++ ys) ≡ rounds_behind batches (rounds_behind batches r xs) ys
behind_append batches r [] ys = refl
behind_append batches r (x ∷ xs) ys = behind_append batches (rounds_after batches r x.0 x.1) xs ys

turn_stays : (i : ℕ) (x : DeskState) (cs : List Steps) (y : DeskState) → Calls IsTurn (suc i) x cs y → rounds_of y ≡ rounds_of x
turn_stays i x [] y is = same x y (sym is)
turn_stays i x (c ∷ cs) y (z, (led, by), rest) = turn_stays i z cs y rest ∙ run_stays by.0 x c z led by.2

turn_moves : (batches : ℕ) (x : DeskState) (cs : List Steps) (y : DeskState) → x.setup.params.batches ≡ batches → Calls IsTurn zero x cs y → rounds_of y ≡ rounds_behind batches (rounds_of x) (noted_calls cs)
turn_moves batches x [] y is calls = same x y (sym calls)
turn_moves batches x (c ∷ cs) y is (z, (led, by), rest) =
    turn_moves batches z cs y (ap (λ p. p.params.batches) (setup_run x c z led) ∙ is) rest
    ∙ (ap (λ (r : Rounds). rounds_behind batches r (noted_calls cs)) (run_moves batches x c z is led by) ∙ sym (behind_append batches (rounds_of x) c (noted_calls cs)))

-- an entry of any caller's
entry_moves : (batches by : ℕ) (x : DeskState) (cs : List Steps) (y : DeskState) (rest : List (Entry Steps)) (e : Entry Steps) (b : Bool) → (0 == by) ≡ b → e.calls ≡ cs → x.setup.params.batches ≡ batches → Calls IsTurn by x cs y
    → rounds_behind batches (rounds_of y) (calls_in rest) ≡ rounds_behind batches (rounds_of x) (calls_in (if b then e ∷ rest else rest))
entry_moves batches zero x cs y rest e true by_is calls_are is calls =
    ap (λ (r : Rounds). rounds_behind batches r (calls_in rest)) (turn_moves batches x cs y is calls)
    ∙ (sym (behind_append batches (rounds_of x) (noted_calls cs) (calls_in rest)) ∙ ap (λ (l : List Steps). rounds_behind batches (rounds_of x) (noted_calls l ++ calls_in rest)) (sym calls_are))
entry_moves batches zero x cs y rest e false by_is calls_are is calls = absurd (false≢true (sym by_is ∙ eq-eqb 0 0 refl))
entry_moves batches (suc i) x cs y rest e true by_is calls_are is calls = absurd (cc (eqb-true 0 (suc i) by_is))
entry_moves batches (suc i) x cs y rest e false by_is calls_are is calls = ap (λ (r : Rounds). rounds_behind batches r (calls_in rest)) (turn_stays i x cs y calls)

pub history_moves : (batches : ℕ) (x : DeskState) (es : List (Entry Steps)) (y : DeskState) → x.setup.params.batches ≡ batches → turns.LeadsByTurns IsTurn x es y → rounds_of y ≡ rounds_behind batches (rounds_of x) (calls_in (entries_of 0 es))
history_moves batches x [] y is leads = same x y (sym leads)
history_moves batches x (e ∷ es) y is (z, calls, rest) =
    let kept : z.setup ≡ x.setup = setup_run x (noted_calls e.calls) z (calls_lead e.by x e.calls z calls) in
    history_moves batches z es y (ap (λ p. p.params.batches) kept ∙ is) rest
    ∙ entry_moves batches e.by x e.calls z (entries_of 0 es) e (0 == e.by) refl refl is calls
