-- What a client's calls leave as it is.
use Rattle.std.proofs.Common.{◌≡◌, ◌∙◌, ◌⊎◌, ◌<◌, ℕ, Bool, true, false, if◌then◌else◌, All, List, [], ◌∷◌, ◌++◌, Option, None, Some, refl, sym, ap, subst, inl, inr, nat_cmp}
use Rattle.std.specs.Option.{option_or}
use Rattle.std.proofs.lemmas.List.Elements.{All-head, All-tail}
use Rattle.ob_base.specs.declared.fault.Fault.{Fault}
use Rattle.ob_base.specs.declared.fault.Fault.TheVariants.{Memory}
use Rattle.ob_base.specs.declared.params.Params.{Params}
use Rattle.ob_serial.specs.Serial.{Map}
use Rattle.ob_serial.specs.Vaults.{VaultCounts}
use Rattle.ob_serial.specs.declared.records.Why.TheVariants.{Asked}
use Rattle.ob_order.specs.Order.{OrderState, asked, is_asked_for, write_reply, after_write}
use Rattle.ob_order.specs.declared.answers.Wrote.TheVariants.{Yes}
use Rattle.ob_desk.specs.Desk.{DeskState, Part, with_order, reading, writing, stopped_by, Call, Begin, GetKey, Poll, Write, Commit, Abort, Settled, Looks, SignOff, Stop, Unsure, IsStopped, TakeBatch, Deliver, Close}
use Rattle.ob_desk.specs.Desk.{Publish, Reply, Begun, Refused, Value, Waits, Aborted, Done, IsSettled, StoppedBy, DeskStep, MayCall, IsFed, map_next, Run}
use Rattle.ob_desk.proofs.Fine.{read_found, again_found}
use Rattle.ob_session.specs.Steps.{Leads, IsOwn}
use Rattle.ob_conduct.specs.Ready.{IsFit, IsBetweenActs}
use Rattle.ob_conduct.proofs.Fit.{fit_begun, fit_got, fit_waits, fit_wrote, fit_end, fit_holder, fit_stopped, fit_used}

same : (p : Params) (c : VaultCounts) (d new : DeskState) → new ≡ d → IsBetweenActs p d c → IsBetweenActs p new c
same p c d new e r = subst (λ (x : DeskState). IsBetweenActs p x c) (sym e) r

-- only the running part changed
in_running : (p : Params) (c : VaultCounts) (d new : DeskState) (part : Part) → new ≡ record d { running = part } → part.epoch ≡ d.running.epoch → part.order.left ≡ d.running.order.left → part.order.flying ≡ d.running.order.flying
    → IsFit p part → IsBetweenActs p d c → IsBetweenActs p new c
in_running p c d new part e epoch left flying fit r = subst (λ (x : DeskState). IsBetweenActs p x c) (sym e) (record {
  params = r.params;
  none_closed = r.none_closed;
  landed = flying ∙ r.landed;
  epoch = epoch ∙ r.epoch;
  left = left ∙ r.left;
  serves = r.serves;
  stop = r.stop;
  fit = fit;
})

asked_left : (o : OrderState) (k : ℕ) → (asked o k).left ≡ o.left
asked_left o k = step (is_asked_for o k)
  where
    step : (b : Bool) → (if b then o else record o { queue = o.queue ++ k ∷ [] }).left ≡ o.left
    step true = refl
    step false = refl

asked_flying : (o : OrderState) (k : ℕ) → (asked o k).flying ≡ o.flying
asked_flying o k = step (is_asked_for o k)
  where
    step : (b : Bool) → (if b then o else record o { queue = o.queue ++ k ∷ [] }).flying ≡ o.flying
    step true = refl
    step false = refl

-- a key in the desk's range is in the parameters'
in_range : (p : Params) (c : VaultCounts) (d : DeskState) (k : ℕ) → IsBetweenActs p d c → k < d.setup.params.keys → k < p.keys
in_range p c d k r lt = subst (λ (q : Params). k < q.keys) r.params lt

still : (a : Option Fault) (f : Fault) → f ≡ Memory → (a ≡ None) ⊎ (a ≡ Some Memory) → option_or a (Some f) ≡ Some Memory
still a f is (inl none) = ap (λ (o : Option Fault). option_or o (Some f)) none ∙ ap Some is
still a f is (inr some) = ap (λ (o : Option Fault). option_or o (Some f)) some

stopped : (p : Params) (c : VaultCounts) (d new : DeskState) (f : Fault) → f ≡ Memory → new ≡ stopped_by f d → IsBetweenActs p d c → IsBetweenActs p new c
stopped p c d new f is e r = subst (λ (x : DeskState). IsBetweenActs p x c) (sym (e ∙ ap (λ (g : Fault). stopped_by g d) is)) (record {
  params = r.params;
  none_closed = r.none_closed;
  landed = r.landed;
  epoch = r.epoch;
  left = r.left;
  serves = r.serves;
  stop = inr (still d.stop Memory refl r.stop);
  fit = fit_stopped p Memory d.running r.fit;
})

wrote : (p q : Params) (part : Part) (t k : ℕ) (value : Option (List ℕ)) → q ≡ p → IsFit p part → write_reply q part.order t k ≡ Yes → k < q.keys → IsFit p (with_order part (after_write part.order t k value Yes))
wrote p q part t k value is fit was lt = fit_wrote p part t k value fit (subst (λ (s : Params). write_reply s part.order t k ≡ Yes) is was) (subst (λ (s : Params). k < s.keys) is lt)

own_ready : (p : Params) (c : VaultCounts) (client : ℕ) (d : DeskState) (call : Call) (reply : Reply) (new : DeskState) → IsBetweenActs p d c → IsOwn client (call, reply) → MayCall d call → DeskStep d call reply new → IsBetweenActs p new c
own_ready p c client d (Begin number) (Begun x) new r own may step = subst (λ (y : DeskState). IsBetweenActs p y c) (sym step.state) (record {
  params = r.params;
  none_closed = r.none_closed;
  landed = r.landed;
  epoch = r.epoch;
  left = r.left;
  serves = r.serves;
  stop = r.stop;
  fit = fit_begun p d.running _ r.fit;
})
own_ready p c client d (Begin number) (Refused f) new r own may step = same p c d new step.same r
own_ready p c client d (GetKey x k) (Value value) new r own may step = in_running p c d new _ step.state refl refl refl (fit_got p (reading d x k).running x.ticket k (record { source = step.source; value = value }) (fit_used p d.running _ r.fit) (read_found d.setup.params d.running.order x.ticket k value step.source step.reply)) r
own_ready p c client d (GetKey x k) Waits new r own may step = in_running p c d new _ step.state refl (asked_left d.running.order k) (asked_flying d.running.order k) (fit_waits p (reading d x k).running x.ticket k (in_range p c d k r may.2) (fit_used p d.running _ r.fit)) r
own_ready p c client d (GetKey x k) (Aborted why) new r own may (inl step) = same p c d new step.same r
own_ready p c client d (GetKey x k) (Aborted why) new r own may (inr (inl step)) = in_running p c d new _ step.state refl refl refl (fit_end p (reading d x k).running x.ticket why (fit_used p d.running _ r.fit)) r
own_ready p c client d (GetKey x k) (Aborted why) new r own may (inr (inr step)) = in_running p c d new _ step.state refl refl refl (fit_end p d.running x.ticket why r.fit) r
own_ready p c client d (Poll x) (Value value) new r own may step = in_running p c d new _ step.state refl refl refl (fit_got p d.running x.ticket step.key (record { source = step.source; value = value }) r.fit (again_found d.running.order x.ticket step.key value step.source step.reply)) r
own_ready p c client d (Poll x) Waits new r own may step = same p c d new step.same r
own_ready p c client d (Poll x) (Aborted why) new r own may step = same p c d new step.same r
own_ready p c client d (Write x k value) Done new r own may step = in_running p c d new _ step.state refl refl refl (wrote p d.setup.params (writing d x k).running x.ticket k value r.params (fit_used p d.running _ r.fit) step.reply may.2) r
own_ready p c client d (Write x k value) (Aborted why) new r own may (inl step) = same p c d new step.same r
own_ready p c client d (Write x k value) (Aborted why) new r own may (inr (inl step)) = in_running p c d new _ step.state refl refl refl (fit_end p (writing d x k).running x.ticket why (fit_used p d.running _ r.fit)) r
own_ready p c client d (Write x k value) (Aborted why) new r own may (inr (inr step)) = in_running p c d new _ step.state refl refl refl (fit_end p d.running x.ticket why r.fit) r
own_ready p c client d (Commit x) Done new r own may step = in_running p c d new _ step.state refl refl refl (fit_holder p _ d.running x.ticket r.fit) r
own_ready p c client d (Commit x) (Aborted why) new r own may step = same p c d new step.same r
own_ready p c client d (Abort x) (Aborted why) new r own may (inl step) = same p c d new step.same r
own_ready p c client d (Abort x) (Aborted why) new r own may (inr step) = in_running p c d new _ step.state refl refl refl (fit_end p d.running x.ticket Asked r.fit) r
own_ready p c client d (Settled x) (IsSettled outcome) new r own may step = same p c d new step.1 r
own_ready p c client d (SignOff number) Done new r own may step = subst (λ (y : DeskState). IsBetweenActs p y c) (sym step.state) (record {
  params = r.params;
  none_closed = r.none_closed;
  landed = r.landed;
  epoch = r.epoch;
  left = r.left;
  serves = r.serves;
  stop = r.stop;
  fit = r.fit;
})
own_ready p c client d (Stop f) Done new r own may step = stopped p c d new f own step.state r
own_ready p c client d IsStopped (StoppedBy fault) new r own may step = same p c d new step.1 r
own_ready p c client d Looks reply new r own may step = absurd own
own_ready p c client d (Unsure f) reply new r own may step = absurd own
own_ready p c client d TakeBatch reply new r own may step = absurd own
own_ready p c client d (Deliver keys values) reply new r own may step = absurd own
own_ready p c client d Close reply new r own may step = absurd own
own_ready p c client d (Publish epoch left) reply new r own may step = absurd own
own_ready p c client d _ _ new r own may step = absurd step

-- its calls leave the run ready
pub all_ready : (p : Params) (c : VaultCounts) (client : ℕ) (d : DeskState) (steps : List (Call × Reply)) (new : DeskState) → IsBetweenActs p d c → All (IsOwn client) steps → Leads d steps new → IsBetweenActs p new c
all_ready p c client d [] new r own is = same p c d new is r
all_ready p c client d (step ∷ steps) new r own (mid, may, one, rest) =
    all_ready p c client mid steps new (own_ready p c client d step.0 step.1 mid r (All-head (IsOwn client) step steps own) may one) (All-tail (IsOwn client) step steps own) rest

-- and don't touch the vault's map
own_fed : (m : Map nat_cmp) (d : DeskState) (client : ℕ) (call : Call) (reply : Reply) → IsOwn client (call, reply) → IsFed m call × (map_next m d call ≡ m)
own_fed m d client (Begin number) reply own = (tt, refl)
own_fed m d client (GetKey x k) reply own = (tt, refl)
own_fed m d client (Poll x) reply own = (tt, refl)
own_fed m d client (Write x k value) reply own = (tt, refl)
own_fed m d client (Commit x) reply own = (tt, refl)
own_fed m d client (Abort x) reply own = (tt, refl)
own_fed m d client (Settled x) reply own = (tt, refl)
own_fed m d client (SignOff number) reply own = (tt, refl)
own_fed m d client (Stop f) reply own = (tt, refl)
own_fed m d client IsStopped reply own = (tt, refl)
own_fed m d client Looks reply own = absurd own
own_fed m d client (Unsure f) reply own = absurd own
own_fed m d client TakeBatch reply own = absurd own
own_fed m d client (Deliver keys values) reply own = absurd own
own_fed m d client Close reply own = absurd own
own_fed m d client (Publish epoch left) reply own = absurd own

pub own_run : (m : Map nat_cmp) (client : ℕ) (d : DeskState) (steps : List (Call × Reply)) (new : DeskState) → All (IsOwn client) steps → Leads d steps new → Run m d steps m new
own_run m client d [] new own is = (refl, is)
own_run m client d (step ∷ steps) new own (mid, may, one, rest) =
    let fed = own_fed m d client step.0 step.1 (All-head (IsOwn client) step steps own) in
    (mid, may, one, fed.0, subst (λ (n : Map nat_cmp). Run n mid steps m new) (sym fed.1) (own_run m client mid steps new (All-tail (IsOwn client) step steps own) rest))
