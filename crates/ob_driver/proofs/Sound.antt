-- What always holds of the desk of a hall whose driver stops it for want of memory at most.
use Rattle.std.proofs.Common.{◌≡◌, ◌∙◌, ◌⊎◌, ◌<◌, ℕ, zero, suc, ◌==◌, Bool, true, false, if◌then◌else◌, All, List, [], ◌∷◌, ◌++◌, Option, None, Some, refl, sym, ap, subst, inl, inr, eq-eqb}
use Rattle.std.proofs.lemmas.Bool.{false≢true}
use Rattle.std.specs.Option.{option_or}
use Rattle.std.proofs.lemmas.List.Elements.{All-nil, All-cons, All-head, All-tail, All-append, All-weaker}
use Rattle.ob_base.specs.declared.fault.Fault.{Fault}
use Rattle.ob_base.specs.declared.fault.Fault.TheVariants.{Memory}
use Rattle.ob_base.specs.declared.params.Params.{Params}
use Rattle.ob_serial.specs.declared.records.Why.TheVariants.{Asked}
use Rattle.ob_order.specs.Order.{write_reply, after_write}
use Rattle.ob_order.specs.declared.answers.Wrote.TheVariants.{Yes}
use Rattle.ob_desk.specs.Desk as desk
use Rattle.ob_desk.specs.Desk.{DeskState, Part, Call, Reply, DeskStep, MayCall, with_order, reading, writing, stopped_by, stop_part, stop_closed, is_memory}
use Rattle.ob_desk.proofs.Fine.{read_found, again_found}
use Rattle.ob_session.specs.Steps.{Leads, IsOwn}
use Rattle.ob_turn.specs.declared.turn.Entry.{Entry}
use Rattle.ob_turn.specs.History.{Calls, LeadsByTurns, entries_of}
use Rattle.ob_hall.specs.Turns.{IsTurn}
use Rattle.ob_hall.specs.Passes.{Steps, IsNew, calls_in}
use Rattle.ob_hall.proofs.Histories.{noted_calls, history_leads}
use Rattle.ob_conduct.specs.Ready.{IsFit}
use Rattle.ob_conduct.proofs.Fit.{fit_new, fit_begun, fit_got, fit_waits, fit_wrote, fit_end, fit_holder, fit_stopped, fit_taken, fit_delivered, fit_used}
use Rattle.ob_desk.specs.declared.calls.Look.{Look}
use Rattle.ob_conduct.specs.Acts.{look_calls}
use Rattle.ob_driver.specs.Resting.{IsMild}

-- its parameters are these, its running part is fit, and it isn't stopped but for want of memory
pub record IsSound (p : Params) (d : DeskState) : Type 0 where
  pub params : d.setup.params ≡ p
  pub stop : (d.stop ≡ None) ⊎ (d.stop ≡ Some Memory)
  pub fit : IsFit p d.running

same : (p : Params) (d new : DeskState) → new ≡ d → IsSound p d → IsSound p new
same p d new e s = subst (IsSound p) (sym e) s

in_running : (p : Params) (d new : DeskState) (part : Part) → new ≡ record d { running = part } → IsFit p part → IsSound p d → IsSound p new
in_running p d new part e fit s = subst (IsSound p) (sym e) (record { params = s.params; stop = s.stop; fit = fit })

in_range : (p : Params) (d : DeskState) (k : ℕ) → IsSound p d → k < d.setup.params.keys → k < p.keys
in_range p d k s lt = subst (λ (q : Params). k < q.keys) s.params lt

wrote : (p q : Params) (part : Part) (t k : ℕ) (value : Option (List ℕ)) → q ≡ p → IsFit p part → write_reply q part.order t k ≡ Yes → k < q.keys → IsFit p (with_order part (after_write part.order t k value Yes))
wrote p q part t k value is fit was lt = fit_wrote p part t k value fit (subst (λ (s : Params). write_reply s part.order t k ≡ Yes) is was) (subst (λ (s : Params). k < s.keys) is lt)

still : (a : Option Fault) → (a ≡ None) ⊎ (a ≡ Some Memory) → option_or a (Some Memory) ≡ Some Memory
still a (inl none) = ap (λ (o : Option Fault). option_or o (Some Memory)) none
still a (inr some) = ap (λ (o : Option Fault). option_or o (Some Memory)) some

stopped : (p : Params) (d new : DeskState) (f : Fault) → f ≡ Memory → new ≡ stopped_by f d → IsSound p d → IsSound p new
stopped p d new f is e s = subst (IsSound p) (sym (e ∙ ap (λ (g : Fault). stopped_by g d) is)) (record { params = s.params; stop = inr (still d.stop s.stop); fit = fit_stopped p Memory d.running s.fit })

-- a call that the desk allows
step_sound : (p : Params) (d : DeskState) (call : Call) (reply : Reply) (new : DeskState) → IsSound p d → IsMild (call, reply) → MayCall d call → DeskStep d call reply new → IsSound p new
step_sound p d (desk.Begin number) (desk.Begun x) new s mild may step = subst (IsSound p) (sym step.state) (record { params = s.params; stop = s.stop; fit = fit_begun p d.running _ s.fit })
step_sound p d (desk.Begin number) (desk.Refused f) new s mild may step = same p d new step.same s
step_sound p d (desk.GetKey x k) (desk.Value value) new s mild may step = in_running p d new _ step.state (fit_got p (reading d x k).running x.ticket k (record { source = step.source; value = value }) (fit_used p d.running _ s.fit) (read_found d.setup.params d.running.order x.ticket k value step.source step.reply)) s
step_sound p d (desk.GetKey x k) desk.Waits new s mild may step = in_running p d new _ step.state (fit_waits p (reading d x k).running x.ticket k (in_range p d k s may.2) (fit_used p d.running _ s.fit)) s
step_sound p d (desk.GetKey x k) (desk.Aborted why) new s mild may (inl step) = same p d new step.same s
step_sound p d (desk.GetKey x k) (desk.Aborted why) new s mild may (inr (inl step)) = in_running p d new _ step.state (fit_end p (reading d x k).running x.ticket why (fit_used p d.running _ s.fit)) s
step_sound p d (desk.GetKey x k) (desk.Aborted why) new s mild may (inr (inr step)) = in_running p d new _ step.state (fit_end p d.running x.ticket why s.fit) s
step_sound p d (desk.Poll x) (desk.Value value) new s mild may step = in_running p d new _ step.state (fit_got p d.running x.ticket step.key (record { source = step.source; value = value }) s.fit (again_found d.running.order x.ticket step.key value step.source step.reply)) s
step_sound p d (desk.Poll x) desk.Waits new s mild may step = same p d new step.same s
step_sound p d (desk.Poll x) (desk.Aborted why) new s mild may step = same p d new step.same s
step_sound p d (desk.Write x k value) desk.Done new s mild may step = in_running p d new _ step.state (wrote p d.setup.params (writing d x k).running x.ticket k value s.params (fit_used p d.running _ s.fit) step.reply may.2) s
step_sound p d (desk.Write x k value) (desk.Aborted why) new s mild may (inl step) = same p d new step.same s
step_sound p d (desk.Write x k value) (desk.Aborted why) new s mild may (inr (inl step)) = in_running p d new _ step.state (fit_end p (writing d x k).running x.ticket why (fit_used p d.running _ s.fit)) s
step_sound p d (desk.Write x k value) (desk.Aborted why) new s mild may (inr (inr step)) = in_running p d new _ step.state (fit_end p d.running x.ticket why s.fit) s
step_sound p d (desk.Commit x) desk.Done new s mild may step = in_running p d new _ step.state (fit_holder p _ d.running x.ticket s.fit) s
step_sound p d (desk.Commit x) (desk.Aborted why) new s mild may step = same p d new step.same s
step_sound p d (desk.Abort x) (desk.Aborted why) new s mild may (inl step) = same p d new step.same s
step_sound p d (desk.Abort x) (desk.Aborted why) new s mild may (inr step) = in_running p d new _ step.state (fit_end p d.running x.ticket Asked s.fit) s
step_sound p d (desk.Settled x) (desk.IsSettled outcome) new s mild may step = same p d new step.1 s
step_sound p d (desk.SignOff number) desk.Done new s mild may step = subst (IsSound p) (sym step.state) (record { params = s.params; stop = s.stop; fit = s.fit })
step_sound p d (desk.Stop f) desk.Done new s mild may step = stopped p d new f mild step.state s
step_sound p d desk.IsStopped (desk.StoppedBy fault) new s mild may step = same p d new step.1 s
step_sound p d desk.Looks (desk.Seen look) new s mild may step = same p d new step.1 s
step_sound p d (desk.Unsure f) reply new s mild may step = absurd mild
step_sound p d desk.TakeBatch (desk.Batch keys) new s mild may step = in_running p d new _ step.state (fit_taken p d.setup.params d.running s.fit) s
step_sound p d (desk.Deliver keys values) desk.Done new s mild may step = in_running p d new _ step.state (fit_delivered p d.running keys values s.fit) s
step_sound p d desk.Close (desk.Writes writes) new s mild may step = subst (IsSound p) (sym step.state) (record { params = s.params; stop = s.stop; fit = fit_new p (suc d.running.epoch) d.setup.params.batches })
step_sound p d (desk.Publish epoch left) (desk.Published told) new s mild may step = subst (IsSound p) (sym step.state) (record { params = s.params; stop = s.stop; fit = s.fit })
step_sound p d _ _ new s mild may step = absurd step

run_sound : (p : Params) (d : DeskState) (steps : Steps) (new : DeskState) → IsSound p d → All IsMild steps → Leads d steps new → IsSound p new
run_sound p d [] new s mild is = same p d new is s
run_sound p d (step ∷ steps) new s mild (mid, may, one, rest) = run_sound p mid steps new (step_sound p d step.0 step.1 mid s (All-head IsMild step steps mild) may one) (All-tail IsMild step steps mild) rest

-- ---- mild calls

pub mild_one : (call : Call) (reply : Reply) → IsMild (call, reply) → All IsMild ((call, reply) ∷ [])
mild_one call reply mild = All-cons IsMild (call, reply) [] mild (All-nil IsMild)

pub mild_more : (call : Call) (reply : Reply) (more : Steps) → IsMild (call, reply) → All IsMild more → All IsMild ((call, reply) ∷ more)
mild_more call reply more one mild = All-cons IsMild (call, reply) more one mild

pub mild_look : (look : Look) (more : Steps) → All IsMild more → All IsMild (look_calls look ++ more)
mild_look look more mild = mild_more desk.IsStopped (desk.StoppedBy None) ((desk.Looks, desk.Seen look) ∷ more) tt (mild_more desk.Looks (desk.Seen look) more tt mild)

-- ---- whose calls they are

own_mild : (number : ℕ) (call : Call) (reply : Reply) → IsOwn number (call, reply) → IsMild (call, reply)
own_mild number (desk.Stop f) reply own = own
own_mild number (desk.Unsure f) reply own = absurd own
own_mild number (desk.Begin n) reply own = tt
own_mild number (desk.GetKey x k) reply own = tt
own_mild number (desk.Poll x) reply own = tt
own_mild number (desk.Write x k value) reply own = tt
own_mild number (desk.Commit x) reply own = tt
own_mild number (desk.Abort x) reply own = tt
own_mild number (desk.Settled x) reply own = tt
own_mild number desk.Looks reply own = tt
own_mild number (desk.SignOff n) reply own = tt
own_mild number desk.IsStopped reply own = tt
own_mild number desk.TakeBatch reply own = tt
own_mild number (desk.Deliver keys values) reply own = tt
own_mild number desk.Close reply own = tt
own_mild number (desk.Publish epoch left) reply own = tt

clients_mild : (i : ℕ) (x : DeskState) (cs : List Steps) (y : DeskState) → Calls IsTurn (suc i) x cs y → All IsMild (noted_calls cs)
clients_mild i x [] y is = All-nil IsMild
clients_mild i x (c ∷ cs) y (z, (led, by), rest) = All-append IsMild c (noted_calls cs) (All-weaker (IsOwn by.0) IsMild (λ s own. own_mild by.0 s.0 s.1 own) c by.2) (clients_mild i z cs y rest)

pub front_mild : (xs ys : Steps) → All IsMild (xs ++ ys) → All IsMild xs
front_mild [] ys mild = All-nil IsMild
front_mild (x ∷ xs) ys mild = All-cons IsMild x xs (All-head IsMild x (xs ++ ys) mild) (front_mild xs ys (All-tail IsMild x (xs ++ ys) mild))

pub back_mild : (xs ys : Steps) → All IsMild (xs ++ ys) → All IsMild ys
back_mild [] ys mild = mild
back_mild (x ∷ xs) ys mild = back_mild xs ys (All-tail IsMild x (xs ++ ys) mild)

-- Where the driver's calls are mild all are.
pub history_mild : (x : DeskState) (es : List (Entry Steps)) (y : DeskState) → LeadsByTurns IsTurn x es y → All IsMild (calls_in (entries_of 0 es)) → All IsMild (calls_in es)
history_mild x [] y leads mild = All-nil IsMild
history_mild x (e ∷ es) y (z, calls, rest) mild = by_caller e.by refl (0 == e.by) refl mild (λ later. history_mild z es y rest later)
  where
    by_caller : (by : ℕ) → e.by ≡ by → (b : Bool) → (0 == e.by) ≡ b → All IsMild (calls_in (if b then e ∷ entries_of 0 es else entries_of 0 es)) → (All IsMild (calls_in (entries_of 0 es)) → All IsMild (calls_in es)) → All IsMild (calls_in (e ∷ es))
    by_caller by is true same these on = All-append IsMild (noted_calls e.calls) (calls_in es) (front_mild (noted_calls e.calls) (calls_in (entries_of 0 es)) these) (on (back_mild (noted_calls e.calls) (calls_in (entries_of 0 es)) these))
    by_caller zero is false same these on = absurd (false≢true (sym same ∙ eq-eqb 0 e.by (sym is)))
    by_caller (suc i) is false same these on = All-append IsMild (noted_calls e.calls) (calls_in es) (clients_mild i x e.calls z (subst (λ (n : ℕ). Calls IsTurn n x e.calls z) is calls)) (on these)

-- So the desk is sound, behind mild calls
pub chain_sound : (p : Params) (opened : DeskState) (steps : Steps) (d : DeskState) → opened.setup.params ≡ p → IsNew opened → Leads opened steps d → All IsMild steps → IsSound p d
chain_sound p opened steps d params new leads mild = run_sound p opened steps d begins mild leads
  where
    begins : IsSound p opened
    begins = record { params = params; stop = inl (ap (λ (x : DeskState). x.stop) new.is); fit = subst (λ (x : DeskState). IsFit p x.running) (sym new.is) (fit_new p new.epoch new.left) }

-- and behind a history.
pub history_sound : (p : Params) (opened : DeskState) (es : List (Entry Steps)) (d : DeskState) → opened.setup.params ≡ p → IsNew opened → LeadsByTurns IsTurn opened es d → All IsMild (calls_in (entries_of 0 es)) → IsSound p d
history_sound p opened es d params new leads mild = chain_sound p opened (calls_in es) d params new (history_leads opened es d leads) (history_mild opened es d leads mild)
