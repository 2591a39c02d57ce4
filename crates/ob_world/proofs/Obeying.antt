-- The acts of a run ask the vault and report in the driver's order.
use Rattle.std.proofs.Common.{◌≡◌, ℕ, zero, suc, ◌-◌, ◌≤◌, Bool, true, false, List, [], ◌∷◌, ◌++◌, map, Option, None, Some, refl, sym, ap, ◌∙◌, subst, inr, arith, append_assoc}
use Rattle.std.specs.Prelude.{All, flat_map, Err}
use Rattle.std.specs.Option.{option_or}
use Rattle.std.proofs.lemmas.Option.{none-some}
use Rattle.std.proofs.lemmas.Bool.{false≢true}
use Rattle.std.proofs.lemmas.List.Elements.{All-head, All-tail}
use Rattle.ob_base.specs.declared.fault.Fault.TheVariants.{SinkFault}
use Rattle.ob_serial.specs.Vaults.{VaultCall, Fetch, End, VaultAnswer, Ended, RefusedBy}
use Rattle.ob_serial.specs.VaultViews.{end_answer}
use Rattle.ob_serial.specs.declared.vault.EndErr.{EndErr}
use Rattle.ob_serial.specs.declared.vault.EndErr.TheVariants.{Before, Unsure}
use Rattle.ob_desk.specs.Desk as desk
use Rattle.ob_desk.specs.Desk.{DeskState, Call, Reply, Fault}
use Rattle.ob_session.specs.Steps.{Leads}
use Rattle.ob_conduct.specs.Acts.{Act, Says, Halts, Rests, Takes, Delivers, DeliverFails, FetchFails, RestUnwatched, Closes, Publishes, Refuses, Unprinted, Unwatched, Batch, desk_calls, history, calls, rest_calls, rest_fetches, close_calls, stop_calls}
use Rattle.ob_conduct.specs.Rounds.{IsOneThing}
use Rattle.ob_conduct.proofs.Behind.{leads_split}
use Rattle.ob_run.specs.Threaded.{driven}
use Rattle.ob_run.proofs.Stops.{stop_run, stays_stopped}
use Rattle.ob_world.specs.Drivers.{DriverAt, AtRest, HasTaken, HasFetched, HasClosed, HasEnded, HasDoubt, HasTold, HasFailed, IsUp, MovesDriver, before_call, behind_call}
use Rattle.ob_world.specs.Laws.{IsEndPlace}
use Rattle.ob_world.specs.Weaves.{MadeCall, call_by, calls_made, Due, NothingIsDue, CallIsDue, ReportIsDue, due_behind, asked_left, reports_left, publishes_in, unprinted_in, reports_of}

-- what stands right behind a call of the desk leads from one place of the driver to another
abbrev pub Follows : Due → List (VaultCall × VaultAnswer) → ℕ → DriverAt → DriverAt → Type 0
Follows NothingIsDue asked n at next = next ≡ at
Follows CallIsDue [] n at next = next ≡ at
Follows CallIsDue (step ∷ asked) n at next = (at ≡ before_call step.0) × (next ≡ behind_call step.0 step.1)
Follows (ReportIsDue told) asked zero at next = next ≡ at
Follows (ReportIsDue told) asked (suc n) at next = (at ≡ HasTold told) × (next ≡ AtRest)

-- these calls of the desk, and of the vault, and so many reports lead from one place of the driver to another
abbrev pub Obeys : DriverAt → List MadeCall → List (VaultCall × VaultAnswer) → ℕ → DriverAt → Type 0
Obeys at [] asked n last = IsUp at × (asked ≡ []) × (n ≡ 0) × (last ≡ at)
Obeys at (one ∷ made) asked n last = (mid : DriverAt) × (next : DriverAt) × IsUp at × MovesDriver at one.call one.reply mid × Follows (due_behind one.call one.reply) asked n mid next
    × Obeys next made (asked_left (due_behind one.call one.reply) asked) (reports_left (due_behind one.call one.reply) n) last

-- ---- a desk that is stopped stays so

abbrev IsStoppedDesk : DeskState → Type 0
IsStoppedDesk d = (fault : Fault) × (d.stop ≡ Some fault)

-- The driver looks at a desk that isn't stopped.
abbrev pub Stays : Bool → List Act → Type 0
Stays s [] = Unit {0}
Stays s (Says client steps ∷ acts) = Stays s acts
Stays s (Halts fault ∷ acts) = Stays s acts
Stays s (Rests look ∷ acts) = (s ≡ false) × Stays s acts
Stays s (Takes look keys ∷ acts) = (s ≡ false) × Stays s acts
Stays s (Delivers batch ∷ acts) = Stays s acts
Stays s (DeliverFails keys fault ∷ acts) = Stays true acts
Stays s (FetchFails look batches keys fault ∷ acts) = (s ≡ false) × Stays true acts
Stays s (RestUnwatched look batches ∷ acts) = (s ≡ false) × Stays true acts
Stays s (Closes look batches writes ∷ acts) = (s ≡ false) × Stays s acts
Stays s (Publishes writes left told ∷ acts) = Stays s acts
Stays s (Refuses writes refused ∷ acts) = Stays true acts
Stays s (Unprinted ∷ acts) = Stays true acts
Stays s (Unwatched ∷ acts) = Stays true acts

unstopped : (s : Bool) (d : DeskState) → (s ≡ true → IsStoppedDesk d) → None ≡ d.stop → s ≡ false
unstopped false d stopped none = refl
unstopped true d stopped none = let (fault, is) = stopped refl in absurd (none-some fault (none ∙ is))

some_or : (o : Option Fault) (fault : Fault) → (g : Fault) × (option_or o (Some fault) ≡ Some g)
some_or None fault = (fault, refl)
some_or (Some g) fault = (g, refl)

stopped_now : (d : DeskState) (fault : Fault) (new : DeskState) → Leads d ((desk.Stop fault, desk.Done) ∷ []) new → IsStoppedDesk new
stopped_now d fault new led = let (g, is) = some_or d.stop fault in (g, stop_run d ((desk.Stop fault, desk.Done) ∷ []) new led ∙ is)

doubted_now : (d : DeskState) (fault : Fault) (new : DeskState) → Leads d ((desk.Unsure fault, desk.Done) ∷ []) new → IsStoppedDesk new
doubted_now d fault new led = let (g, is) = some_or d.stop fault in (g, stop_run d ((desk.Unsure fault, desk.Done) ∷ []) new led ∙ is)

goes_on : (s : Bool) (d : DeskState) (steps : List (Call × Reply)) (new : DeskState) → Leads d steps new → (s ≡ true → IsStoppedDesk d) → s ≡ true → IsStoppedDesk new
goes_on s d steps new led stopped is = let (fault, was) = stopped is in (fault, stays_stopped fault d steps new led was)

fetch_stops : (d : DeskState) (batches : List Batch) (keys : List (Option ℕ)) (fault : Fault) (new : DeskState) → Leads d (rest_calls batches ++ (desk.TakeBatch, desk.Batch keys) ∷ (desk.Stop fault, desk.Done) ∷ []) new → IsStoppedDesk new
fetch_stops d batches keys fault new led =
    let (mid, first, (last, may, step, rest)) = leads_split d (rest_calls batches) ((desk.TakeBatch, desk.Batch keys) ∷ (desk.Stop fault, desk.Done) ∷ []) new led in
    stopped_now last fault new rest

rest_stops : (d : DeskState) (batches : List Batch) (new : DeskState) → Leads d (rest_calls batches ++ stop_calls SinkFault) new → IsStoppedDesk new
rest_stops d batches new led =
    let (mid, first, rest) = leads_split d (rest_calls batches) (stop_calls SinkFault) new led in
    stopped_now mid SinkFault new rest

pub stays : (acts : List Act) (s : Bool) (d new : DeskState) → Leads d (history acts) new → (s ≡ true → IsStoppedDesk d) → Stays s (driven acts)
stays [] s d new led stopped = tt
stays (Says client steps ∷ acts) s d new led stopped =
    let (mid, first, rest) = leads_split d steps (history acts) new led in stays acts s mid new rest (goes_on s d steps mid first stopped)
stays (Halts fault ∷ acts) s d new led stopped =
    let (mid, first, rest) = leads_split d (desk_calls (Halts fault)) (history acts) new led in stays acts s mid new rest (goes_on s d (desk_calls (Halts fault)) mid first stopped)
stays (Rests look ∷ acts) s d new led stopped =
    let (mid, first, rest) = leads_split d (desk_calls (Rests look)) (history acts) new led in
    (unstopped s d stopped first.2.0, stays acts s mid new rest (goes_on s d (desk_calls (Rests look)) mid first stopped))
stays (Takes look keys ∷ acts) s d new led stopped =
    let (mid, first, rest) = leads_split d (desk_calls (Takes look keys)) (history acts) new led in
    (unstopped s d stopped first.2.0, stays acts s mid new rest (goes_on s d (desk_calls (Takes look keys)) mid first stopped))
stays (Delivers batch ∷ acts) s d new led stopped =
    let (mid, first, rest) = leads_split d (desk_calls (Delivers batch)) (history acts) new led in stays acts s mid new rest (goes_on s d (desk_calls (Delivers batch)) mid first stopped)
stays (DeliverFails keys fault ∷ acts) s d new led stopped =
    let (mid, first, rest) = leads_split d (desk_calls (DeliverFails keys fault)) (history acts) new led in stays acts true mid new rest (λ is. stopped_now d fault mid first)
stays (FetchFails look batches keys fault ∷ acts) s d new led stopped =
    let (mid, first, rest) = leads_split d (desk_calls (FetchFails look batches keys fault)) (history acts) new led in
    (unstopped s d stopped first.2.0, stays acts true mid new rest (λ is. fetch_stops first.3.0 batches keys fault mid first.3.3))
stays (RestUnwatched look batches ∷ acts) s d new led stopped =
    let (mid, first, rest) = leads_split d (desk_calls (RestUnwatched look batches)) (history acts) new led in
    (unstopped s d stopped first.2.0, stays acts true mid new rest (λ is. rest_stops first.3.0 batches mid first.3.3))
stays (Closes look batches writes ∷ acts) s d new led stopped =
    let (mid, first, rest) = leads_split d (desk_calls (Closes look batches writes)) (history acts) new led in
    (unstopped s d stopped first.2.0, stays acts s mid new rest (goes_on s d (desk_calls (Closes look batches writes)) mid first stopped))
stays (Publishes writes left told ∷ acts) s d new led stopped =
    let (mid, first, rest) = leads_split d (desk_calls (Publishes writes left told)) (history acts) new led in stays acts s mid new rest (goes_on s d (desk_calls (Publishes writes left told)) mid first stopped)
stays (Refuses writes (Before fault) ∷ acts) s d new led stopped =
    let (mid, first, rest) = leads_split d (desk_calls (Refuses writes (Before fault))) (history acts) new led in stays acts true mid new rest (λ is. stopped_now d fault mid first)
stays (Refuses writes (Unsure fault) ∷ acts) s d new led stopped =
    let (mid, first, rest) = leads_split d (desk_calls (Refuses writes (Unsure fault))) (history acts) new led in stays acts true mid new rest (λ is. doubted_now d fault mid first)
stays (Unprinted ∷ acts) s d new led stopped =
    let (mid, first, rest) = leads_split d (desk_calls Unprinted) (history acts) new led in stays acts true mid new rest (λ is. stopped_now d SinkFault mid first)
stays (Unwatched ∷ acts) s d new led stopped =
    let (mid, first, rest) = leads_split d (desk_calls Unwatched) (history acts) new led in stays acts true mid new rest (λ is. stopped_now d SinkFault mid first)

-- no act stops the desk
abbrev pub AreCalm : List Act → Type 0
AreCalm [] = Unit {0}
AreCalm (DeliverFails keys fault ∷ acts) = ⊥
AreCalm (FetchFails look batches keys fault ∷ acts) = ⊥
AreCalm (RestUnwatched look batches ∷ acts) = ⊥
AreCalm (Refuses writes refused ∷ acts) = ⊥
AreCalm (Unprinted ∷ acts) = ⊥
AreCalm (Unwatched ∷ acts) = ⊥
AreCalm (_ ∷ acts) = AreCalm acts

goes_stopped : (d : DeskState) (steps : List (Call × Reply)) (new : DeskState) → Leads d steps new → new.stop ≡ None → IsStoppedDesk d → ⊥
goes_stopped d steps new led none (fault, is) = none-some fault (sym none ∙ stays_stopped fault d steps new led is)

pub calm : (acts : List Act) (d new : DeskState) → Leads d (history acts) new → new.stop ≡ None → AreCalm (driven acts)
calm [] d new led none = tt
calm (Says client steps ∷ acts) d new led none = let (mid, first, rest) = leads_split d steps (history acts) new led in calm acts mid new rest none
calm (Halts fault ∷ acts) d new led none = let (mid, first, rest) = leads_split d (desk_calls (Halts fault)) (history acts) new led in calm acts mid new rest none
calm (Rests look ∷ acts) d new led none = let (mid, first, rest) = leads_split d (desk_calls (Rests look)) (history acts) new led in calm acts mid new rest none
calm (Takes look keys ∷ acts) d new led none = let (mid, first, rest) = leads_split d (desk_calls (Takes look keys)) (history acts) new led in calm acts mid new rest none
calm (Delivers batch ∷ acts) d new led none = let (mid, first, rest) = leads_split d (desk_calls (Delivers batch)) (history acts) new led in calm acts mid new rest none
calm (DeliverFails keys fault ∷ acts) d new led none =
    let (mid, first, rest) = leads_split d (desk_calls (DeliverFails keys fault)) (history acts) new led in goes_stopped mid (history acts) new rest none (stopped_now d fault mid first)
calm (FetchFails look batches keys fault ∷ acts) d new led none =
    let (mid, first, rest) = leads_split d (desk_calls (FetchFails look batches keys fault)) (history acts) new led in
    goes_stopped mid (history acts) new rest none (fetch_stops first.3.0 batches keys fault mid first.3.3)
calm (RestUnwatched look batches ∷ acts) d new led none =
    let (mid, first, rest) = leads_split d (desk_calls (RestUnwatched look batches)) (history acts) new led in
    goes_stopped mid (history acts) new rest none (rest_stops first.3.0 batches mid first.3.3)
calm (Closes look batches writes ∷ acts) d new led none = let (mid, first, rest) = leads_split d (desk_calls (Closes look batches writes)) (history acts) new led in calm acts mid new rest none
calm (Publishes writes left told ∷ acts) d new led none = let (mid, first, rest) = leads_split d (desk_calls (Publishes writes left told)) (history acts) new led in calm acts mid new rest none
calm (Refuses writes (Before fault) ∷ acts) d new led none =
    let (mid, first, rest) = leads_split d (desk_calls (Refuses writes (Before fault))) (history acts) new led in goes_stopped mid (history acts) new rest none (stopped_now d fault mid first)
calm (Refuses writes (Unsure fault) ∷ acts) d new led none =
    let (mid, first, rest) = leads_split d (desk_calls (Refuses writes (Unsure fault))) (history acts) new led in goes_stopped mid (history acts) new rest none (doubted_now d fault mid first)
calm (Unprinted ∷ acts) d new led none =
    let (mid, first, rest) = leads_split d (desk_calls Unprinted) (history acts) new led in goes_stopped mid (history acts) new rest none (stopped_now d SinkFault mid first)
calm (Unwatched ∷ acts) d new led none =
    let (mid, first, rest) = leads_split d (desk_calls Unwatched) (history acts) new led in goes_stopped mid (history acts) new rest none (stopped_now d SinkFault mid first)

-- ---- things of the driver

abbrev pub flat : List (List Act) → List Act
flat things = flat_map (λ (thing : List Act). thing) things

-- behind a stop nothing is done
record Halted (acts : List Act) : Type 0 where
  pub published : publishes_in acts ≡ 0
  pub unprinted : unprinted_in acts ≡ 0
  pub obeys : (at : DriverAt) → IsUp at → Obeys at (calls_made acts) (calls acts) 0 at

halt_thing : (thing acts : List Act) → IsOneThing thing → Stays true (thing ++ acts) → (Stays true acts → Halted acts) → Halted (thing ++ acts)
halt_thing (Halts fault ∷ []) acts one stays more =
    let rest : Halted acts = more stays in
    record { published = rest.published; unprinted = rest.unprinted; obeys = λ at up. (at, at, up, refl, refl, rest.obeys at up) }
halt_thing (Rests look ∷ []) acts one stays more = absurd (false≢true (sym stays.0))
halt_thing (Takes look keys ∷ Delivers batch ∷ []) acts one stays more = absurd (false≢true (sym stays.0))
halt_thing (Takes look keys ∷ Delivers batch ∷ Unwatched ∷ []) acts one stays more = absurd (false≢true (sym stays.0))
halt_thing (Takes look keys ∷ DeliverFails asked fault ∷ []) acts one stays more = absurd (false≢true (sym stays.0))
halt_thing (FetchFails look batches keys fault ∷ []) acts one stays more = absurd (false≢true (sym stays.0))
halt_thing (RestUnwatched look batches ∷ []) acts one stays more = absurd (false≢true (sym stays.0))
halt_thing (Closes look batches writes ∷ Publishes ended left told ∷ []) acts one stays more = absurd (false≢true (sym stays.0))
halt_thing (Closes look batches writes ∷ Publishes ended left told ∷ Unprinted ∷ []) acts one stays more = absurd (false≢true (sym stays.0))
halt_thing (Closes look batches writes ∷ Publishes ended left told ∷ Unwatched ∷ []) acts one stays more = absurd (false≢true (sym stays.0))
halt_thing (Closes look batches writes ∷ Refuses asked refused ∷ []) acts one stays more = absurd (false≢true (sym stays.0))
halt_thing _ acts one stays more = absurd one

halts : (things : List (List Act)) → All IsOneThing things → Stays true (flat things) → Halted (flat things)
halts [] each stays = record { published = refl; unprinted = refl; obeys = λ at up. (up, refl, refl, refl) }
halts (thing ∷ things) each stays = halt_thing thing (flat things) (All-head IsOneThing thing things each) stays (halts things (All-tail IsOneThing thing things each))

pub record EndsSomewhere (acts : List Act) : Type 0 where
  pub last : DriverAt
  pub counts : unprinted_in acts ≤ publishes_in acts
  pub obeys : Obeys AtRest (calls_made acts) (calls acts) (reports_of acts) last
  pub ends : IsEndPlace last
  pub rests : AreCalm acts → last ≡ AtRest

batches_obey : (batches : List Batch) (tail : List (Call × Reply)) (made : List MadeCall) (asked : List (VaultCall × VaultAnswer)) (n : ℕ) (last : DriverAt)
    → Obeys AtRest (map (call_by 0) tail ++ made) asked n last → Obeys AtRest (map (call_by 0) (rest_calls batches ++ tail) ++ made) (rest_fetches batches ++ asked) n last
batches_obey [] tail made asked n last h = h
batches_obey (batch ∷ batches) tail made asked n last h = (
  HasTaken batch.keys,
  HasFetched batch.keys batch.values,
  tt,
  record { keys = batch.keys; was = refl; told = refl; now = refl },
  (refl, refl),
  (AtRest, AtRest, tt, record { was = refl; now = refl }, refl, batches_obey batches tail made asked n last h),
)

none_left : (acts : List Act) → Halted acts → reports_of acts ≡ 0
none_left acts h = let p : publishes_in acts ≡ 0 = h.published in omega (arith, p)

halted_obeys : (acts : List Act) (h : Halted acts) (at : DriverAt) → IsUp at → Obeys at (calls_made acts) (calls acts) (reports_of acts) at
halted_obeys acts h at up = subst (λ (n : ℕ). Obeys at (calls_made acts) (calls acts) n at) (sym (none_left acts h)) (h.obeys at up)

halted_counts : (acts : List Act) → Halted acts → unprinted_in acts ≤ publishes_in acts
halted_counts acts h = let u : unprinted_in acts ≡ 0 = h.unprinted in omega (arith, u)

-- the desk is stopped where the driver rests
stops_at_rest : (acts : List Act) → Halted acts → Obeys AtRest (map (call_by 0) (stop_calls SinkFault) ++ calls_made acts) (calls acts) (reports_of acts) AtRest
stops_at_rest acts h = (AtRest, AtRest, tt, record { may = inr tt; now = refl }, refl, halted_obeys acts h AtRest tt)

-- an end that was refused, or left in doubt
refuses : (writes asked : List (ℕ × Option (List ℕ))) (refused : EndErr) (acts : List Act) → asked ≡ writes → Halted acts
    → (last : DriverAt) × Obeys AtRest (map (call_by 0) (close_calls writes) ++ calls_made (Refuses asked refused ∷ acts)) ((End asked, end_answer (Err refused)) ∷ calls acts) (reports_of acts) last × IsEndPlace last
refuses writes asked (Before fault) acts one h = (
  HasFailed fault,
  (
    HasClosed writes,
    HasFailed fault,
    tt,
    record { writes = writes; was = refl; told = refl; now = refl },
    (ap HasClosed (sym one), refl),
    (HasFailed fault, HasFailed fault, tt, record { may = inr tt; now = refl }, refl, halted_obeys acts h (HasFailed fault) tt),
  ),
  tt,
)
refuses writes asked (Unsure fault) acts one h = (
  HasFailed fault,
  (
    HasClosed writes,
    HasDoubt fault,
    tt,
    record { writes = writes; was = refl; told = refl; now = refl },
    (ap HasClosed (sym one), refl),
    (HasFailed fault, HasFailed fault, tt, record { was = refl; now = refl }, refl, halted_obeys acts h (HasFailed fault) tt),
  ),
  tt,
)

thing_obeys : (thing acts : List Act) → IsOneThing thing → Stays false (thing ++ acts) → (Stays false acts → EndsSomewhere acts) → (Stays true acts → Halted acts) → EndsSomewhere (thing ++ acts)
thing_obeys (Halts fault ∷ []) acts one stays more halt =
    let rest : EndsSomewhere acts = more stays in record { last = rest.last; ends = rest.ends; rests = rest.rests; counts = rest.counts; obeys = (AtRest, AtRest, tt, refl, refl, rest.obeys) }
thing_obeys (Rests look ∷ []) acts one stays more halt =
    let rest : EndsSomewhere acts = more stays.1 in record { last = rest.last; ends = rest.ends; rests = rest.rests; counts = rest.counts; obeys = (AtRest, AtRest, tt, refl, refl, (AtRest, AtRest, tt, refl, refl, rest.obeys)) }
thing_obeys (Takes look keys ∷ Delivers batch ∷ []) acts one stays more halt =
    let rest : EndsSomewhere acts = more stays.1 in
    record {
      last = rest.last;
      ends = rest.ends;
      rests = rest.rests;
      counts = rest.counts;
      obeys = (
        AtRest,
        AtRest,
        tt,
        refl,
        refl,
        (
          AtRest,
          AtRest,
          tt,
          refl,
          refl,
          (
            HasTaken keys,
            HasFetched batch.keys batch.values,
            tt,
            record { keys = keys; was = refl; told = refl; now = refl },
            (ap HasTaken (sym one), refl),
            (AtRest, AtRest, tt, record { was = refl; now = refl }, refl, rest.obeys),
          ),
        ),
      );
    }
thing_obeys (Takes look keys ∷ DeliverFails asked fault ∷ []) acts one stays more halt =
    let h : Halted acts = halt stays.1 in
    record {
      last = HasFailed fault;
      ends = tt;
      rests = λ calm. absurd calm;
      counts = halted_counts acts h;
      obeys = (
        AtRest,
        AtRest,
        tt,
        refl,
        refl,
        (
          AtRest,
          AtRest,
          tt,
          refl,
          refl,
          (
            HasTaken keys,
            HasFailed fault,
            tt,
            record { keys = keys; was = refl; told = refl; now = refl },
            (ap HasTaken (sym one), refl),
            (HasFailed fault, HasFailed fault, tt, record { may = inr tt; now = refl }, refl, halted_obeys acts h (HasFailed fault) tt),
          ),
        ),
      );
    }
thing_obeys (FetchFails look batches keys fault ∷ []) acts one stays more halt =
    let h : Halted acts = halt stays.1 in
    record {
      last = HasFailed fault;
      ends = tt;
      rests = λ calm. absurd calm;
      counts = halted_counts acts h;
      obeys = (
        AtRest,
        AtRest,
        tt,
        refl,
        refl,
        (
          AtRest,
          AtRest,
          tt,
          refl,
          refl,
          subst (λ (asked : List (VaultCall × VaultAnswer)). Obeys AtRest (map (call_by 0) (rest_calls batches ++ (desk.TakeBatch, desk.Batch keys) ∷ (desk.Stop fault, desk.Done) ∷ []) ++ calls_made acts) asked (reports_of acts) (HasFailed fault))
              (sym (append_assoc (rest_fetches batches) ((Fetch keys, RefusedBy fault) ∷ []) (calls acts)))
              (batches_obey batches ((desk.TakeBatch, desk.Batch keys) ∷ (desk.Stop fault, desk.Done) ∷ []) (calls_made acts) ((Fetch keys, RefusedBy fault) ∷ calls acts) (reports_of acts) (HasFailed fault) (
                HasTaken keys,
                HasFailed fault,
                tt,
                record { keys = keys; was = refl; told = refl; now = refl },
                (refl, refl),
                (HasFailed fault, HasFailed fault, tt, record { may = inr tt; now = refl }, refl, halted_obeys acts h (HasFailed fault) tt),
              )),
        ),
      );
    }
thing_obeys (Takes look keys ∷ Delivers batch ∷ Unwatched ∷ []) acts one stays more halt =
    let h : Halted acts = halt stays.1 in
    record {
      last = AtRest;
      ends = tt;
      rests = λ calm. refl;
      counts = halted_counts acts h;
      obeys = (
        AtRest,
        AtRest,
        tt,
        refl,
        refl,
        (
          AtRest,
          AtRest,
          tt,
          refl,
          refl,
          (
            HasTaken keys,
            HasFetched batch.keys batch.values,
            tt,
            record { keys = keys; was = refl; told = refl; now = refl },
            (ap HasTaken (sym one), refl),
            (AtRest, AtRest, tt, record { was = refl; now = refl }, refl, stops_at_rest acts h),
          ),
        ),
      );
    }
thing_obeys (RestUnwatched look batches ∷ []) acts one stays more halt =
    let h : Halted acts = halt stays.1 in
    record {
      last = AtRest;
      ends = tt;
      rests = λ calm. refl;
      counts = halted_counts acts h;
      obeys = (
        AtRest,
        AtRest,
        tt,
        refl,
        refl,
        (
          AtRest,
          AtRest,
          tt,
          refl,
          refl,
          batches_obey batches (stop_calls SinkFault) (calls_made acts) (calls acts) (reports_of acts) AtRest (stops_at_rest acts h),
        ),
      );
    }
thing_obeys (Closes look batches writes ∷ Publishes ended left told ∷ Unwatched ∷ []) acts one stays more halt =
    let h : Halted acts = halt stays.1 in
    let few : unprinted_in acts ≤ publishes_in acts = halted_counts acts h in
    record {
      last = AtRest;
      ends = tt;
      rests = λ calm. refl;
      counts = omega (arith, few);
      obeys = (
        AtRest,
        AtRest,
        tt,
        refl,
        refl,
        (
          AtRest,
          AtRest,
          tt,
          refl,
          refl,
          batches_obey batches (close_calls writes) (calls_made (Publishes ended left told ∷ Unwatched ∷ acts)) ((End ended, Ended) ∷ calls acts) (reports_of (Publishes ended left told ∷ Unwatched ∷ acts)) AtRest
              (subst (λ (n : ℕ). Obeys AtRest (map (call_by 0) (close_calls writes) ++ calls_made (Publishes ended left told ∷ Unwatched ∷ acts)) ((End ended, Ended) ∷ calls acts) n AtRest)
              (let e : suc (publishes_in acts - unprinted_in acts) ≡ suc (publishes_in acts) - unprinted_in acts = omega (arith, few) in e) (
                HasClosed writes,
                HasEnded,
                tt,
                record { writes = writes; was = refl; told = refl; now = refl },
                (ap HasClosed (sym one), refl),
                (HasTold told, AtRest, tt, record { published = told; was = refl; told = refl; now = refl }, (refl, refl), stops_at_rest acts h),
              )),
        ),
      );
    }
thing_obeys (Closes look batches writes ∷ Publishes ended left told ∷ []) acts one stays more halt =
    let rest : EndsSomewhere acts = more stays.1 in
    let few : unprinted_in acts ≤ publishes_in acts = rest.counts in
    record {
      last = rest.last;
      ends = rest.ends;
      rests = rest.rests;
      counts = omega (arith, few);
      obeys = (
        AtRest,
        AtRest,
        tt,
        refl,
        refl,
        (
          AtRest,
          AtRest,
          tt,
          refl,
          refl,
          batches_obey batches (close_calls writes) (calls_made (Publishes ended left told ∷ acts)) ((End ended, Ended) ∷ calls acts) (reports_of (Publishes ended left told ∷ acts)) rest.last
              (subst (λ (n : ℕ). Obeys AtRest (map (call_by 0) (close_calls writes) ++ calls_made (Publishes ended left told ∷ acts)) ((End ended, Ended) ∷ calls acts) n rest.last)
              (let e : suc (publishes_in acts - unprinted_in acts) ≡ suc (publishes_in acts) - unprinted_in acts = omega (arith, few) in e) (
                HasClosed writes,
                HasEnded,
                tt,
                record { writes = writes; was = refl; told = refl; now = refl },
                (ap HasClosed (sym one), refl),
                (HasTold told, AtRest, tt, record { published = told; was = refl; told = refl; now = refl }, (refl, refl), rest.obeys),
              )),
        ),
      );
    }
thing_obeys (Closes look batches writes ∷ Publishes ended left told ∷ Unprinted ∷ []) acts one stays more halt =
    let h : Halted acts = halt stays.1 in
    let p : publishes_in acts ≡ 0 = h.published in
    let u : unprinted_in acts ≡ 0 = h.unprinted in
    record {
      last = HasTold told;
      ends = tt;
      rests = λ calm. absurd calm;
      counts = omega (arith, p, u);
      obeys = (
        AtRest,
        AtRest,
        tt,
        refl,
        refl,
        (
          AtRest,
          AtRest,
          tt,
          refl,
          refl,
          batches_obey batches (close_calls writes) (calls_made (Publishes ended left told ∷ Unprinted ∷ acts)) ((End ended, Ended) ∷ calls acts) (reports_of (Publishes ended left told ∷ Unprinted ∷ acts)) (HasTold told)
              (subst (λ (n : ℕ). Obeys AtRest (map (call_by 0) (close_calls writes) ++ calls_made (Publishes ended left told ∷ Unprinted ∷ acts)) ((End ended, Ended) ∷ calls acts) n (HasTold told))
              (let e : 0 ≡ suc (publishes_in acts) - suc (unprinted_in acts) = omega (arith, p, u) in e) (
                HasClosed writes,
                HasEnded,
                tt,
                record { writes = writes; was = refl; told = refl; now = refl },
                (ap HasClosed (sym one), refl),
                (
                  HasTold told,
                  HasTold told,
                  tt,
                  record { published = told; was = refl; told = refl; now = refl },
                  refl,
                  (HasTold told, HasTold told, tt, record { may = inr tt; now = refl }, refl, h.obeys (HasTold told) tt),
                ),
              )),
        ),
      );
    }
thing_obeys (Closes look batches writes ∷ Refuses asked refused ∷ []) acts one stays more halt =
    let h : Halted acts = halt stays.1 in
    let ended = refuses writes asked refused acts one h in
    record {
      last = ended.0;
      ends = ended.2;
      rests = λ calm. absurd calm;
      counts = halted_counts acts h;
      obeys = (
        AtRest,
        AtRest,
        tt,
        refl,
        refl,
        (
          AtRest,
          AtRest,
          tt,
          refl,
          refl,
          batches_obey batches (close_calls writes) (calls_made (Refuses asked refused ∷ acts)) ((End asked, end_answer (Err refused)) ∷ calls acts) (reports_of acts) ended.0 ended.1,
        ),
      );
    }
thing_obeys _ acts one stays more halt = absurd one

pub things_obey : (things : List (List Act)) → All IsOneThing things → Stays false (flat things) → EndsSomewhere (flat things)
things_obey [] each stays = record { last = AtRest; ends = tt; rests = λ calm. refl; counts = omega arith; obeys = (tt, refl, refl, refl) }
things_obey (thing ∷ things) each stays =
    thing_obeys thing (flat things) (All-head IsOneThing thing things each) stays (things_obey things (All-tail IsOneThing thing things each)) (halts things (All-tail IsOneThing thing things each))
