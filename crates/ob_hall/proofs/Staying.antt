-- What was closed stays closed until the driver tells what came of it, whatever clients call.
use Rattle.std.proofs.Common.{◌≡◌, ◌⊎◌, ℕ, Bool, true, false, if◌then◌else◌, List, [], ◌∷◌, ◌++◌, Option, None, Some, refl, sym, ap, ap₂, subst, ◌∙◌, inl, inr}
use Rattle.std.specs.Option.{option_map}
use Rattle.std.specs.List.{All}
use Rattle.std.proofs.lemmas.List.Elements.{All-head, All-tail}
use Rattle.std.proofs.lemmas.Option.{none-some, same_Some}
use Rattle.ob_base.specs.declared.fault.Fault.{Fault}
use Rattle.ob_order.specs.Works.{last_writes}
use Rattle.ob_desk.specs.Desk as desk
use Rattle.ob_desk.specs.Desk.{DeskState, Part, Setup, Call, Reply, MayCall, DeskStep, CloseStep, closing, is_memory, stop_closed}
use Rattle.ob_desk.proofs.Ends.{closing-epoch}
use Rattle.ob_session.specs.Steps.{Leads, IsOwn}
use Rattle.ob_session.proofs.Epochs.{halted}
use Rattle.ob_turn.specs.declared.turn.Entry.{Entry}
use Rattle.ob_turn.specs.History.{entries_of, LeadsByTurns}
use Rattle.ob_hall.specs.Turns.{IsTurn}
use Rattle.ob_hall.specs.Passes.{Steps, IsNew, calls_in}
use Rattle.ob_hall.specs.Rounds.{Rounds, ClosedEpoch, closed_as, rounds_of, rounds_behind, StaysClosed}
use Rattle.ob_hall.proofs.Numbers.{setup_run}
use Rattle.ob_hall.proofs.Histories.{history_leads}
use Rattle.ob_hall.proofs.Rounds.{history_moves}

-- ---- one call

-- it shut this part
abbrev IsItsClose : DeskState → Call × Reply → DeskState → Part → Type 0
IsItsClose d s new part = (writes : List (ℕ × Option (List ℕ))) × (s ≡ (desk.Close, desk.Writes writes)) × CloseStep d writes new × (part ≡ closing d.running)

module _ (d new : DeskState) (part : Part) (is : new.closed ≡ Some part) where
  stays : (call : Call) (reply : Reply) (made : DeskState) → new ≡ made → made.closed ≡ d.closed → (d.closed ≡ Some part) ⊎ IsItsClose d (call, reply) new part
  stays call reply made e same = inl (sym same ∙ (sym (ap (λ (x : DeskState). x.closed) e) ∙ is))

  gone : (call : Call) (reply : Reply) (made : DeskState) → new ≡ made → made.closed ≡ None → (d.closed ≡ Some part) ⊎ IsItsClose d (call, reply) new part
  gone call reply made e none = absurd (none-some part (sym none ∙ (sym (ap (λ (x : DeskState). x.closed) e) ∙ is)))

  stopped : (f : Fault) (b : Bool) → new ≡ (if b then halted f d else stop_closed f (halted f d)) → (d.closed ≡ Some part) ⊎ IsItsClose d (desk.Stop f, desk.Done) new part
  stopped f true e = stays (desk.Stop f) desk.Done (halted f d) e refl
  stopped f false e = gone (desk.Stop f) desk.Done (stop_closed f (halted f d)) e refl

  closed_next : (call : Call) (reply : Reply) → DeskStep d call reply new → (d.closed ≡ Some part) ⊎ IsItsClose d (call, reply) new part
  closed_next (desk.Begin n) (desk.Begun x) step = stays (desk.Begin n) (desk.Begun x) _ step.state refl
  closed_next (desk.Begin n) (desk.Refused f) step = stays (desk.Begin n) (desk.Refused f) d step.same refl
  closed_next (desk.GetKey x k) (desk.Value value) step = stays (desk.GetKey x k) (desk.Value value) _ step.state refl
  closed_next (desk.GetKey x k) desk.Waits step = stays (desk.GetKey x k) desk.Waits _ step.state refl
  closed_next (desk.GetKey x k) (desk.Aborted why) (inl step) = stays (desk.GetKey x k) (desk.Aborted why) d step.same refl
  closed_next (desk.GetKey x k) (desk.Aborted why) (inr (inl step)) = stays (desk.GetKey x k) (desk.Aborted why) _ step.state refl
  closed_next (desk.GetKey x k) (desk.Aborted why) (inr (inr step)) = stays (desk.GetKey x k) (desk.Aborted why) _ step.state refl
  closed_next (desk.Poll x) (desk.Value value) step = stays (desk.Poll x) (desk.Value value) _ step.state refl
  closed_next (desk.Poll x) desk.Waits step = stays (desk.Poll x) desk.Waits d step.same refl
  closed_next (desk.Poll x) (desk.Aborted why) step = stays (desk.Poll x) (desk.Aborted why) d step.same refl
  closed_next (desk.Write x k value) desk.Done step = stays (desk.Write x k value) desk.Done _ step.state refl
  closed_next (desk.Write x k value) (desk.Aborted why) (inl step) = stays (desk.Write x k value) (desk.Aborted why) d step.same refl
  closed_next (desk.Write x k value) (desk.Aborted why) (inr (inl step)) = stays (desk.Write x k value) (desk.Aborted why) _ step.state refl
  closed_next (desk.Write x k value) (desk.Aborted why) (inr (inr step)) = stays (desk.Write x k value) (desk.Aborted why) _ step.state refl
  closed_next (desk.Commit x) desk.Done step = stays (desk.Commit x) desk.Done _ step.state refl
  closed_next (desk.Commit x) (desk.Aborted why) step = stays (desk.Commit x) (desk.Aborted why) d step.same refl
  closed_next (desk.Abort x) (desk.Aborted why) (inl step) = stays (desk.Abort x) (desk.Aborted why) d step.same refl
  closed_next (desk.Abort x) (desk.Aborted why) (inr step) = stays (desk.Abort x) (desk.Aborted why) _ step.state refl
  closed_next (desk.Settled x) (desk.IsSettled outcome) step = stays (desk.Settled x) (desk.IsSettled outcome) d step.1 refl
  closed_next desk.Looks (desk.Seen look) step = stays desk.Looks (desk.Seen look) d step.1 refl
  closed_next (desk.SignOff n) desk.Done step = stays (desk.SignOff n) desk.Done _ step.state refl
  closed_next (desk.Stop f) desk.Done step = stopped f (is_memory f) step.state
  closed_next (desk.Unsure f) desk.Done step = gone (desk.Unsure f) desk.Done _ step.state refl
  closed_next desk.IsStopped (desk.StoppedBy fault) step = stays desk.IsStopped (desk.StoppedBy fault) d step.1 refl
  closed_next desk.TakeBatch (desk.Batch keys) step = stays desk.TakeBatch (desk.Batch keys) _ step.state refl
  closed_next (desk.Deliver keys values) desk.Done step = stays (desk.Deliver keys values) desk.Done _ step.state refl
  closed_next desk.Close (desk.Writes writes) step = inr (writes, refl, step, same_Some part (closing d.running) (sym is ∙ ap (λ (x : DeskState). x.closed) step.state))
  closed_next (desk.Publish epoch left) (desk.Published told) step = gone (desk.Publish epoch left) (desk.Published told) _ step.state refl
  closed_next _ _ step = absurd step

-- ---- calls

-- Among these calls there is the close that shut this part.
record Shuts (d : DeskState) (steps : Steps) (part : Part) (new : DeskState) : Type 0 where
  front : Steps
  behind : Steps
  writes : List (ℕ × Option (List ℕ))
  steps_are : steps ≡ front ++ (desk.Close, desk.Writes writes) ∷ behind
  at : DeskState
  led : Leads d front at
  rest : Leads at ((desk.Close, desk.Writes writes) ∷ behind) new
  part_is : part ≡ closing at.running

closed_from : (d : DeskState) (steps : Steps) (new : DeskState) → Leads d steps new → (part : Part) → new.closed ≡ Some part → (d.closed ≡ Some part) ⊎ Shuts d steps part new
closed_from d [] new leads part is = inl (sym (ap (λ (x : DeskState). x.closed) leads) ∙ is)
closed_from d (s ∷ steps) new (mid, may, step, rest) part is = later (closed_from mid steps new rest part is)
  where
    first : (d.closed ≡ Some part) ⊎ IsItsClose d s mid part → (d.closed ≡ Some part) ⊎ Shuts d (s ∷ steps) part new
    first (inl still) = inl still
    first (inr (writes, same, close, part_is)) = inr (record {
      front = [];
      behind = steps;
      writes = writes;
      steps_are = ap (λ (x : Call × Reply). x ∷ steps) same;
      at = d;
      led = refl;
      rest = (mid, subst (λ (x : Call × Reply). MayCall d x.0) same may, close, rest);
      part_is = part_is;
    })

    later : (mid.closed ≡ Some part) ⊎ Shuts mid steps part new → (d.closed ≡ Some part) ⊎ Shuts d (s ∷ steps) part new
    later (inl was) = first (closed_next d mid part was s.0 s.1 step)
    later (inr w) = inr (record {
      front = s ∷ w.front;
      behind = w.behind;
      writes = w.writes;
      steps_are = ap (λ (xs : Steps). s ∷ xs) w.steps_are;
      at = w.at;
      led = (mid, may, step, w.led);
      rest = w.rest;
      part_is = w.part_is;
    })

-- ---- histories

made_closed : (opened : DeskState) → IsNew opened → opened.closed ≡ None
made_closed opened fresh = ap (λ (x : DeskState). x.closed) fresh.is

pub closed_stays : (opened d : DeskState) (history : List (Entry Steps)) (due : ClosedEpoch) → IsNew opened → LeadsByTurns IsTurn opened history d
    → (rounds_behind opened.setup.params.batches (rounds_of opened) (calls_in (entries_of 0 history))).due ≡ Some due → StaysClosed opened (calls_in history) due d
closed_stays opened d history due fresh led is = by d.closed refl
  where
    now : option_map (closed_as d.setup.params.keys) d.closed ≡ Some due
    now = ap (λ (r : Rounds). r.due) (history_moves opened.setup.params.batches opened history d refl led) ∙ is

    leads : Leads opened (calls_in history) d
    leads = history_leads opened history d led

    found : (part : Part) → closed_as d.setup.params.keys part ≡ due → d.closed ≡ Some part → (opened.closed ≡ Some part) ⊎ Shuts opened (calls_in history) part d → StaysClosed opened (calls_in history) due d
    found part shown closed (inl was) = absurd (none-some part (sym (made_closed opened fresh) ∙ was))
    found part shown closed (inr w) =
        let setup : w.at.setup ≡ d.setup = setup_run opened w.front w.at w.led ∙ sym (setup_run opened (calls_in history) d leads) in
        let epoch : w.at.running.epoch ≡ part.epoch = sym (closing-epoch w.at.running) ∙ ap (λ (p : Part). p.epoch) (sym w.part_is) in
        let writes : w.writes ≡ last_writes d.setup.params.keys part.order.works = w.rest.2.batch ∙ ap₂ (λ (s : Setup) (p : Part). last_writes s.params.keys p.order.works) setup (sym w.part_is) in
        subst (λ (c : ClosedEpoch). StaysClosed opened (calls_in history) c d) (ap₂ (λ (n : ℕ) (ws : List (ℕ × Option (List ℕ))). record { epoch = n; writes = ws }) epoch writes ∙ shown) (record {
          front = w.front;
          behind = w.behind;
          steps_are = w.steps_are;
          at = w.at;
          led = w.led;
          rest = w.rest;
          epoch_is = refl;
          stays = closed ∙ ap (λ (p : Part). Some p) w.part_is;
        })

    by : (closed : Option Part) → d.closed ≡ closed → StaysClosed opened (calls_in history) due d
    by None none = absurd (none-some due (sym (ap (λ (o : Option Part). option_map (closed_as d.setup.params.keys) o) none) ∙ now))
    by (Some part) some =
        found part (same_Some (closed_as d.setup.params.keys part) due (sym (ap (λ (o : Option Part). option_map (closed_as d.setup.params.keys) o) some) ∙ now)) some (closed_from opened (calls_in history) d leads part some)

-- ---- clients' calls

own_next : (number : ℕ) (d new : DeskState) (call : Call) (reply : Reply) → DeskStep d call reply new → IsOwn number (call, reply) → new.closed ≡ d.closed
own_next number d new (desk.Begin client) (desk.Begun x) step own = ap (λ (q : DeskState). q.closed) step.state
own_next number d new (desk.Begin client) (desk.Refused f) step own = ap (λ (q : DeskState). q.closed) step.same
own_next number d new (desk.GetKey x k) (desk.Value value) step own = ap (λ (q : DeskState). q.closed) step.state
own_next number d new (desk.GetKey x k) desk.Waits step own = ap (λ (q : DeskState). q.closed) step.state
own_next number d new (desk.GetKey x k) (desk.Aborted why) (inl step) own = ap (λ (q : DeskState). q.closed) step.same
own_next number d new (desk.GetKey x k) (desk.Aborted why) (inr (inl step)) own = ap (λ (q : DeskState). q.closed) step.state
own_next number d new (desk.GetKey x k) (desk.Aborted why) (inr (inr step)) own = ap (λ (q : DeskState). q.closed) step.state
own_next number d new (desk.Poll x) (desk.Value value) step own = ap (λ (q : DeskState). q.closed) step.state
own_next number d new (desk.Poll x) desk.Waits step own = ap (λ (q : DeskState). q.closed) step.same
own_next number d new (desk.Poll x) (desk.Aborted why) step own = ap (λ (q : DeskState). q.closed) step.same
own_next number d new (desk.Write x k value) desk.Done step own = ap (λ (q : DeskState). q.closed) step.state
own_next number d new (desk.Write x k value) (desk.Aborted why) (inl step) own = ap (λ (q : DeskState). q.closed) step.same
own_next number d new (desk.Write x k value) (desk.Aborted why) (inr (inl step)) own = ap (λ (q : DeskState). q.closed) step.state
own_next number d new (desk.Write x k value) (desk.Aborted why) (inr (inr step)) own = ap (λ (q : DeskState). q.closed) step.state
own_next number d new (desk.Commit x) desk.Done step own = ap (λ (q : DeskState). q.closed) step.state
own_next number d new (desk.Commit x) (desk.Aborted why) step own = ap (λ (q : DeskState). q.closed) step.same
own_next number d new (desk.Abort x) (desk.Aborted why) (inl step) own = ap (λ (q : DeskState). q.closed) step.same
own_next number d new (desk.Abort x) (desk.Aborted why) (inr step) own = ap (λ (q : DeskState). q.closed) step.state
own_next number d new (desk.Settled x) (desk.IsSettled outcome) step own = ap (λ (q : DeskState). q.closed) step.1
own_next number d new (desk.SignOff client) desk.Done step own = ap (λ (q : DeskState). q.closed) step.state
own_next number d new (desk.Stop f) desk.Done step own = ap (λ (q : DeskState). q.closed) step.state ∙ memory (is_memory f) (ap is_memory own)
  where
    memory : (b : Bool) → b ≡ true → (if b then halted f d else stop_closed f (halted f d)).closed ≡ d.closed
    memory true is = refl
    memory false is = absurd (cc is)
own_next number d new desk.IsStopped (desk.StoppedBy fault) step own = absurd own
own_next number d new desk.Looks (desk.Seen look) step own = absurd own
own_next number d new (desk.Unsure f) desk.Done step own = absurd own
own_next number d new desk.TakeBatch (desk.Batch keys) step own = absurd own
own_next number d new (desk.Deliver keys values) desk.Done step own = absurd own
own_next number d new desk.Close (desk.Writes writes) step own = absurd own
own_next number d new (desk.Publish epoch left) (desk.Published told) step own = absurd own
own_next number d new _ _ step own = absurd step

-- No call of a client changes what is closed.
pub own_closed : (number : ℕ) (d : DeskState) (steps : Steps) (new : DeskState) → Leads d steps new → All (IsOwn number) steps → new.closed ≡ d.closed
own_closed number d [] new leads own = ap (λ (q : DeskState). q.closed) leads
own_closed number d (s ∷ steps) new (mid, may, step, leads) own =
    own_closed number mid steps new leads (All-tail (IsOwn number) s steps own) ∙ own_next number d mid s.0 s.1 step (All-head (IsOwn number) s steps own)
