-- With what a desk is stopped, and how far its epochs are, by the calls that were made.
use Rattle.std.proofs.Common.{◌≡◌, ◌∙◌, ◌⊎◌, ◌+◌, ℕ, suc, Bool, true, false, if◌then◌else◌, All, Contains, List, [], ◌∷◌, length, Option, None, Some, refl, sym, ap, ap₂, subst, inl, inr, arith, unwrap_or, option_map}
use Rattle.std.specs.Option.{option_or}
use Rattle.std.proofs.lemmas.List.{length-append}
use Rattle.std.proofs.lemmas.List.Elements.{All-nil, All-cons, All-head, All-tail}
use Rattle.std.proofs.lemmas.Option.{none-some}
use Rattle.ob_base.specs.declared.fault.Fault.{Fault}
use Rattle.ob_base.specs.declared.fault.Fault.TheVariants.{Memory}
use Rattle.ob_serial.specs.Serial.{EpochRecord}
use Rattle.ob_desk.specs.Desk as desk
use Rattle.ob_desk.specs.Desk.{DeskState, Part, Call, Reply, MayCall, DeskStep, stop_part, stop_closed, stopped_by, is_memory, published, records_told}
use Rattle.ob_session.specs.Steps.{Leads, IsOwn}
use Rattle.ob_hall.specs.Passes.{Steps}
use Rattle.ob_driver.specs.Resting.{IsMild}

-- ---- with what it is stopped

abbrev pub stop_next : Option Fault → Call → Option Fault
stop_next s (desk.Begin n) = s
stop_next s (desk.GetKey x k) = s
stop_next s (desk.Poll x) = s
stop_next s (desk.Write x k value) = s
stop_next s (desk.Commit x) = s
stop_next s (desk.Abort x) = s
stop_next s (desk.Settled x) = s
stop_next s desk.Looks = s
stop_next s (desk.SignOff n) = s
stop_next s (desk.Stop f) = option_or s (Some f)
stop_next s (desk.Unsure f) = option_or s (Some f)
stop_next s desk.IsStopped = s
stop_next s desk.TakeBatch = s
stop_next s (desk.Deliver keys values) = s
stop_next s desk.Close = s
stop_next s (desk.Publish epoch left) = s

abbrev halted : Fault → DeskState → DeskState
halted f d = record d { stop = option_or d.stop (Some f); running = stop_part f d.running }

halted_stop : (d : DeskState) (f : Fault) → (stopped_by f d).stop ≡ option_or d.stop (Some f)
halted_stop d f = by (is_memory f)
  where
    by : (b : Bool) → (if b then halted f d else stop_closed f (halted f d)).stop ≡ option_or d.stop (Some f)
    by true = refl
    by false = refl

stop_step : (d : DeskState) (call : Call) (reply : Reply) (new : DeskState) → DeskStep d call reply new → new.stop ≡ stop_next d.stop call
stop_step d (desk.Begin n) (desk.Begun x) new step = ap (λ (x : DeskState). x.stop) step.state
stop_step d (desk.Begin n) (desk.Refused f) new step = ap (λ (x : DeskState). x.stop) step.same
stop_step d (desk.GetKey x k) (desk.Value value) new step = ap (λ (x : DeskState). x.stop) step.state
stop_step d (desk.GetKey x k) desk.Waits new step = ap (λ (x : DeskState). x.stop) step.state
stop_step d (desk.GetKey x k) (desk.Aborted why) new (inl step) = ap (λ (x : DeskState). x.stop) step.same
stop_step d (desk.GetKey x k) (desk.Aborted why) new (inr (inl step)) = ap (λ (x : DeskState). x.stop) step.state
stop_step d (desk.GetKey x k) (desk.Aborted why) new (inr (inr step)) = ap (λ (x : DeskState). x.stop) step.state
stop_step d (desk.Poll x) (desk.Value value) new step = ap (λ (x : DeskState). x.stop) step.state
stop_step d (desk.Poll x) desk.Waits new step = ap (λ (x : DeskState). x.stop) step.same
stop_step d (desk.Poll x) (desk.Aborted why) new step = ap (λ (x : DeskState). x.stop) step.same
stop_step d (desk.Write x k value) desk.Done new step = ap (λ (x : DeskState). x.stop) step.state
stop_step d (desk.Write x k value) (desk.Aborted why) new (inl step) = ap (λ (x : DeskState). x.stop) step.same
stop_step d (desk.Write x k value) (desk.Aborted why) new (inr (inl step)) = ap (λ (x : DeskState). x.stop) step.state
stop_step d (desk.Write x k value) (desk.Aborted why) new (inr (inr step)) = ap (λ (x : DeskState). x.stop) step.state
stop_step d (desk.Commit x) desk.Done new step = ap (λ (x : DeskState). x.stop) step.state
stop_step d (desk.Commit x) (desk.Aborted why) new step = ap (λ (x : DeskState). x.stop) step.same
stop_step d (desk.Abort x) (desk.Aborted why) new (inl step) = ap (λ (x : DeskState). x.stop) step.same
stop_step d (desk.Abort x) (desk.Aborted why) new (inr step) = ap (λ (x : DeskState). x.stop) step.state
stop_step d (desk.Settled x) (desk.IsSettled outcome) new step = ap (λ (x : DeskState). x.stop) step.1
stop_step d desk.Looks (desk.Seen look) new step = ap (λ (x : DeskState). x.stop) step.1
stop_step d (desk.SignOff n) desk.Done new step = ap (λ (x : DeskState). x.stop) step.state
stop_step d (desk.Stop f) desk.Done new step = ap (λ (x : DeskState). x.stop) step.state ∙ halted_stop d f
stop_step d (desk.Unsure f) desk.Done new step = ap (λ (x : DeskState). x.stop) step.state
stop_step d desk.IsStopped (desk.StoppedBy fault) new step = ap (λ (x : DeskState). x.stop) step.1
stop_step d desk.TakeBatch (desk.Batch keys) new step = ap (λ (x : DeskState). x.stop) step.state
stop_step d (desk.Deliver keys values) desk.Done new step = ap (λ (x : DeskState). x.stop) step.state
stop_step d desk.Close (desk.Writes writes) new step = ap (λ (x : DeskState). x.stop) step.state
stop_step d (desk.Publish epoch left) (desk.Published told) new step = ap (λ (x : DeskState). x.stop) step.state
stop_step d _ _ new step = absurd step

-- behind calls
abbrev pub stop_behind : Option Fault → Steps → Option Fault
stop_behind s [] = s
stop_behind s (step ∷ steps) = stop_behind (stop_next s step.0) steps

pub stop_run : (d : DeskState) (steps : Steps) (new : DeskState) → Leads d steps new → new.stop ≡ stop_behind d.stop steps
stop_run d [] new is = ap (λ (x : DeskState). x.stop) is
stop_run d (step ∷ steps) new (mid, may, one, rest) = stop_run mid steps new rest ∙ ap (λ (s : Option Fault). stop_behind s steps) (stop_step d step.0 step.1 mid one)

-- once it is stopped it stays so
next_stays : (f : Fault) (call : Call) → stop_next (Some f) call ≡ Some f
next_stays f (desk.Begin n) = refl
next_stays f (desk.GetKey x k) = refl
next_stays f (desk.Poll x) = refl
next_stays f (desk.Write x k value) = refl
next_stays f (desk.Commit x) = refl
next_stays f (desk.Abort x) = refl
next_stays f (desk.Settled x) = refl
next_stays f desk.Looks = refl
next_stays f (desk.SignOff n) = refl
next_stays f (desk.Stop g) = refl
next_stays f (desk.Unsure g) = refl
next_stays f desk.IsStopped = refl
next_stays f desk.TakeBatch = refl
next_stays f (desk.Deliver keys values) = refl
next_stays f desk.Close = refl
next_stays f (desk.Publish epoch left) = refl

pub stays_stopped : (f : Fault) (d : DeskState) (steps : Steps) (new : DeskState) → Leads d steps new → d.stop ≡ Some f → new.stop ≡ Some f
stays_stopped f d [] new is stop = ap (λ (x : DeskState). x.stop) is ∙ stop
stays_stopped f d (step ∷ steps) new (mid, may, one, rest) stop = stays_stopped f mid steps new rest (stop_step d step.0 step.1 mid one ∙ (ap (λ (s : Option Fault). stop_next s step.0) stop ∙ next_stays f step.0))

-- a desk that isn't stopped never was
never_none : (s : Option Fault) (f : Fault) → option_or s (Some f) ≡ None → ⊥
never_none None f is = none-some f (sym is)
never_none (Some g) f is = none-some g (sym is)

next_none : (s : Option Fault) (call : Call) (reply : Reply) → stop_next s call ≡ None → (s ≡ None) × IsMild (call, reply)
next_none s (desk.Begin n) reply none = (none, tt)
next_none s (desk.GetKey x k) reply none = (none, tt)
next_none s (desk.Poll x) reply none = (none, tt)
next_none s (desk.Write x k value) reply none = (none, tt)
next_none s (desk.Commit x) reply none = (none, tt)
next_none s (desk.Abort x) reply none = (none, tt)
next_none s (desk.Settled x) reply none = (none, tt)
next_none s desk.Looks reply none = (none, tt)
next_none s (desk.SignOff n) reply none = (none, tt)
next_none s (desk.Stop f) reply none = absurd (never_none s f none)
next_none s (desk.Unsure f) reply none = absurd (never_none s f none)
next_none s desk.IsStopped reply none = (none, tt)
next_none s desk.TakeBatch reply none = (none, tt)
next_none s (desk.Deliver keys values) reply none = (none, tt)
next_none s desk.Close reply none = (none, tt)
next_none s (desk.Publish epoch left) reply none = (none, tt)

pub was_calm : (d : DeskState) (steps : Steps) (new : DeskState) → Leads d steps new → new.stop ≡ None → (d.stop ≡ None) × All IsMild steps
was_calm d [] new is none = (sym (ap (λ (x : DeskState). x.stop) is) ∙ none, All-nil IsMild)
was_calm d (step ∷ steps) new (mid, may, one, rest) none =
    let (here, mild) = was_calm mid steps new rest none in
    let (before, its) = next_none d.stop step.0 step.1 (sym (stop_step d step.0 step.1 mid one) ∙ here) in
    (before, All-cons IsMild step steps its mild)

-- ---- a client's calls

-- it isn't stopped, or was for want of memory by the last call
abbrev StopsBy : DeskState → Call × Reply → Type 0
StopsBy new step = (new.stop ≡ None) ⊎ ((new.stop ≡ Some Memory) × (step ≡ (desk.Stop Memory, desk.Done)))

own_next : (client : ℕ) (d : DeskState) (call : Call) (reply : Reply) (new : DeskState) → IsOwn client (call, reply) → DeskStep d call reply new → d.stop ≡ None → StopsBy new (call, reply)
own_next client d (desk.Stop f) desk.Done new own step none =
    inr (stop_step d (desk.Stop f) desk.Done new step ∙ (ap (λ (s : Option Fault). option_or s (Some f)) none ∙ ap (λ (g : Fault). Some g) own), ap (λ (g : Fault). (desk.Stop g, desk.Done)) own)
own_next client d (desk.Stop f) _ new own step none = absurd step
own_next client d (desk.Begin n) reply new own step none = inl (stop_step d (desk.Begin n) reply new step ∙ none)
own_next client d (desk.GetKey x k) reply new own step none = inl (stop_step d (desk.GetKey x k) reply new step ∙ none)
own_next client d (desk.Poll x) reply new own step none = inl (stop_step d (desk.Poll x) reply new step ∙ none)
own_next client d (desk.Write x k value) reply new own step none = inl (stop_step d (desk.Write x k value) reply new step ∙ none)
own_next client d (desk.Commit x) reply new own step none = inl (stop_step d (desk.Commit x) reply new step ∙ none)
own_next client d (desk.Abort x) reply new own step none = inl (stop_step d (desk.Abort x) reply new step ∙ none)
own_next client d (desk.Settled x) reply new own step none = inl (stop_step d (desk.Settled x) reply new step ∙ none)
own_next client d desk.Looks reply new own step none = absurd own
own_next client d (desk.SignOff n) reply new own step none = inl (stop_step d (desk.SignOff n) reply new step ∙ none)
own_next client d (desk.Unsure f) reply new own step none = absurd own
own_next client d desk.IsStopped reply new own step none = absurd own
own_next client d desk.TakeBatch reply new own step none = absurd own
own_next client d (desk.Deliver keys values) reply new own step none = absurd own
own_next client d desk.Close reply new own step none = absurd own
own_next client d (desk.Publish epoch left) reply new own step none = absurd own

contains_head : {A : Type 0} (x : A) (xs : List A) → Contains (x ∷ xs) x
contains_head x xs = (0, omega arith, refl)

contains_tail : {A : Type 0} (y x : A) (xs : List A) → Contains xs x → Contains (y ∷ xs) x
contains_tail y x xs (at, below, is) = (suc at, omega (arith, below), is)

-- it isn't stopped, or was for want of memory by one of these calls
abbrev pub EndsBy : DeskState → Steps → Type 0
EndsBy new steps = (new.stop ≡ None) ⊎ ((new.stop ≡ Some Memory) × Contains steps (desk.Stop Memory, desk.Done))

pub own_stops : (client : ℕ) (d : DeskState) (steps : Steps) (new : DeskState) → All (IsOwn client) steps → Leads d steps new → d.stop ≡ None → EndsBy new steps
own_stops client d [] new own is none = inl (ap (λ (x : DeskState). x.stop) is ∙ none)
own_stops client d (step ∷ steps) new own (mid, may, one, rest) none = by (own_next client d step.0 step.1 mid (All-head (IsOwn client) step steps own) one none) (λ still. own_stops client mid steps new (All-tail (IsOwn client) step steps own) rest still)
  where
    later : EndsBy new steps → EndsBy new (step ∷ steps)
    later (inl still) = inl still
    later (inr (stop, has)) = inr (stop, contains_tail step (desk.Stop Memory, desk.Done) steps has)

    by : StopsBy mid step → (mid.stop ≡ None → EndsBy new steps) → EndsBy new (step ∷ steps)
    by (inl still) on = later (on still)
    by (inr (stop, is)) on = inr (stays_stopped Memory mid steps new rest stop, subst (λ (s : Call × Reply). Contains (step ∷ steps) s) is (contains_head step steps))

-- ---- how far its epochs are

-- one where an epoch is closed
abbrev shut : DeskState → ℕ
shut d = unwrap_or (option_map (λ (p : Part). 1) d.closed) 0

-- a call told so many records
abbrev Counts : DeskState → List (EpochRecord ℕ) → DeskState → Type 0
Counts d told new = new.running.epoch + shut d ≡ d.running.epoch + length told + shut new

quietly : (d new made : DeskState) → new ≡ made → made.closed ≡ d.closed → made.running.epoch ≡ d.running.epoch → Counts d [] new
quietly d new made e closed epoch = subst (Counts d []) (sym e) (ap₂ (λ (n : ℕ) (o : Option Part). n + unwrap_or (option_map (λ (p : Part). 1) o) 0) epoch (sym closed) ∙ plus_none d.running.epoch (shut made))
  where
    plus_none : (n m : ℕ) → n + m ≡ n + length {A = EpochRecord ℕ} [] + m
    plus_none n m = omega arith

count_step : (d : DeskState) (call : Call) (reply : Reply) (new : DeskState) → IsMild (call, reply) → MayCall d call → DeskStep d call reply new → Counts d (records_told reply) new
count_step d (desk.Begin n) (desk.Begun x) new mild may step = quietly d new _ step.state refl refl
count_step d (desk.Begin n) (desk.Refused f) new mild may step = quietly d new d step.same refl refl
count_step d (desk.GetKey x k) (desk.Value value) new mild may step = quietly d new _ step.state refl refl
count_step d (desk.GetKey x k) desk.Waits new mild may step = quietly d new _ step.state refl refl
count_step d (desk.GetKey x k) (desk.Aborted why) new mild may (inl step) = quietly d new d step.same refl refl
count_step d (desk.GetKey x k) (desk.Aborted why) new mild may (inr (inl step)) = quietly d new _ step.state refl refl
count_step d (desk.GetKey x k) (desk.Aborted why) new mild may (inr (inr step)) = quietly d new _ step.state refl refl
count_step d (desk.Poll x) (desk.Value value) new mild may step = quietly d new _ step.state refl refl
count_step d (desk.Poll x) desk.Waits new mild may step = quietly d new d step.same refl refl
count_step d (desk.Poll x) (desk.Aborted why) new mild may step = quietly d new d step.same refl refl
count_step d (desk.Write x k value) desk.Done new mild may step = quietly d new _ step.state refl refl
count_step d (desk.Write x k value) (desk.Aborted why) new mild may (inl step) = quietly d new d step.same refl refl
count_step d (desk.Write x k value) (desk.Aborted why) new mild may (inr (inl step)) = quietly d new _ step.state refl refl
count_step d (desk.Write x k value) (desk.Aborted why) new mild may (inr (inr step)) = quietly d new _ step.state refl refl
count_step d (desk.Commit x) desk.Done new mild may step = quietly d new _ step.state refl refl
count_step d (desk.Commit x) (desk.Aborted why) new mild may step = quietly d new d step.same refl refl
count_step d (desk.Abort x) (desk.Aborted why) new mild may (inl step) = quietly d new d step.same refl refl
count_step d (desk.Abort x) (desk.Aborted why) new mild may (inr step) = quietly d new _ step.state refl refl
count_step d (desk.Settled x) (desk.IsSettled outcome) new mild may step = quietly d new d step.1 refl refl
count_step d desk.Looks (desk.Seen look) new mild may step = quietly d new d step.1 refl refl
count_step d (desk.SignOff n) desk.Done new mild may step = quietly d new _ step.state refl refl
count_step d (desk.Stop f) desk.Done new mild may step = quietly d new (stopped_by Memory d) (step.state ∙ ap (λ (g : Fault). stopped_by g d) mild) refl refl
count_step d (desk.Unsure f) desk.Done new mild may step = absurd mild
count_step d desk.IsStopped (desk.StoppedBy fault) new mild may step = quietly d new d step.1 refl refl
count_step d desk.TakeBatch (desk.Batch keys) new mild may step = quietly d new _ step.state refl refl
count_step d (desk.Deliver keys values) desk.Done new mild may step = quietly d new _ step.state refl refl
count_step d desk.Close (desk.Writes writes) new mild may step =
    subst (Counts d []) (sym step.state) (let none : shut d ≡ 0 = ap (λ (o : Option Part). unwrap_or (option_map (λ (p : Part). 1) o) 0) may.0 in omega (arith, none))
count_step d (desk.Publish epoch left) (desk.Published told) new mild may step =
    subst (Counts d (told ∷ [])) (sym step.state) (let one : shut d ≡ 1 = ap (λ (o : Option Part). unwrap_or (option_map (λ (p : Part). 1) o) 0) step.is_closed in omega (arith, one))
count_step d _ _ new mild may step = absurd step

-- each epoch that was closed was told, but for one that is closed now
pub epochs_run : (d : DeskState) (steps : Steps) (new : DeskState) → Leads d steps new → All IsMild steps → Counts d (published steps) new
epochs_run d [] new is mild = subst (Counts d []) (sym is) (quietly d d d refl refl refl)
epochs_run d (step ∷ steps) new (mid, may, one, rest) mild =
    let first = count_step d step.0 step.1 mid (All-head IsMild step steps mild) may one in
    let later = epochs_run mid steps new rest (All-tail IsMild step steps mild) in
    let long = length-append (records_told step.1) (published steps) in
    omega (arith, first, later, long)

pub told_so_far : (d : DeskState) (steps : Steps) (new : DeskState) → Leads d steps new → All IsMild steps → d.closed ≡ None → new.closed ≡ None → new.running.epoch ≡ d.running.epoch + length (published steps)
told_so_far d steps new leads mild before after =
    let counts = epochs_run d steps new leads mild in
    let was : shut d ≡ 0 = ap (λ (o : Option Part). unwrap_or (option_map (λ (p : Part). 1) o) 0) before in
    let is : shut new ≡ 0 = ap (λ (o : Option Part). unwrap_or (option_map (λ (p : Part). 1) o) 0) after in
    omega (arith, counts, was, is)
