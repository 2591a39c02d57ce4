-- The events of a run's acts are a world.
use Rattle.std.proofs.Common.{◌≡◌, ℕ, zero, suc, ◌-◌, false, List, [], ◌∷◌, ◌++◌, map, None, Some, refl, sym, ap, ◌∙◌, subst, inl, inr}
use Rattle.std.specs.Prelude.{All}
use Rattle.std.proofs.lemmas.Bool.{false≢true}
use Rattle.std.proofs.lemmas.List.Elements.{All-head, All-tail}
use Rattle.ob_base.specs.declared.fault.Fault.TheVariants.{SinkFault}
use Rattle.ob_serial.specs.Vaults.{VaultCall, Fetch, End, VaultAnswer, Values, Ended, RefusedBy, DoubtBy, VaultState, vault_next, standing_now}
use Rattle.ob_serial.specs.VaultKinds.{Kind, AllCalled, after_calls}
use Rattle.ob_serial.specs.declared.vault.EndErr.TheVariants as refused
use Rattle.ob_desk.specs.Desk as desk
use Rattle.ob_desk.specs.Desk.{DeskState, new_desk, Call, Reply, DeskStep, MayCall, is_memory}
use Rattle.ob_desk.specs.Beats.{BeatKind}
use Rattle.ob_session.specs.Steps.{Leads, IsOwn}
use Rattle.ob_conduct.specs.Acts.{Act, Says, Halts, Rests, Takes, Delivers, DeliverFails, FetchFails, RestUnwatched, Closes, Publishes, Refuses, Unprinted, Unwatched, Batch, IsAllowed, desk_calls, vault_calls, history, calls, rest_calls, close_calls}
use Rattle.ob_conduct.proofs.Behind.{leads_split}
use Rattle.ob_driver.specs.Drives.{AreThings}
use Rattle.ob_run.specs.Threaded.{driven}
use Rattle.ob_world.specs.Courses.{course_of}
use Rattle.ob_world.specs.Drivers.{DriverAt, AtRest, HasDoubt, HasFailed, IsDown, IsUp, MovesDriver, IsDriverCall, IsCallOf, before_call, behind_call}
use Rattle.ob_world.specs.Worlds.{World, IsWorld, first_world, ended_with}
use Rattle.ob_world.specs.Weaves.{MadeCall, call_by, caller_of, calls_made, Due, NothingIsDue, CallIsDue, ReportIsDue, due_behind, events_due, asked_left, reports_left, woven_from, publishes_in, unprinted_in, reports_of}
use Rattle.ob_world.specs.Laws.{IsEndPlace, ActsAreAWorld}
use Rattle.ob_world.proofs.Holding.{world_append}
use Rattle.ob_world.proofs.Obeying.{Follows, Obeys, Stays, stays, flat, EndsSomewhere, things_obey, AreCalm, calm}

-- ---- clients' calls between

pub own_step : (client : ℕ) (call : Call) (reply : Reply) (at : DriverAt) → IsOwn client (call, reply) → MovesDriver at call reply at × (due_behind call reply ≡ NothingIsDue)
own_step client (desk.Begin number) reply at own = (refl, refl)
own_step client (desk.GetKey txn key) reply at own = (refl, refl)
own_step client (desk.Poll txn) reply at own = (refl, refl)
own_step client (desk.Write txn key value) reply at own = (refl, refl)
own_step client (desk.Commit txn) reply at own = (refl, refl)
own_step client (desk.Abort txn) reply at own = (refl, refl)
own_step client (desk.Settled txn) reply at own = (refl, refl)
own_step client (desk.SignOff number) reply at own = (refl, refl)
own_step client (desk.Stop fault) reply at own = (record { may = inl (ap is_memory own); now = refl }, refl)
own_step client _ reply at own = absurd own

obeys_up : (at : DriverAt) (made : List MadeCall) (asked : List (VaultCall × VaultAnswer)) (n : ℕ) (last : DriverAt) → Obeys at made asked n last → IsUp at
obeys_up at [] asked n last h = h.0
obeys_up at (one ∷ made) asked n last h = h.2

said_obeys : (client : ℕ) (steps : List (Call × Reply)) (made : List MadeCall) → All (IsOwn client) steps → (at : DriverAt) (asked : List (VaultCall × VaultAnswer)) (n : ℕ) (last : DriverAt)
    → Obeys at made asked n last → Obeys at (map (call_by client) steps ++ made) asked n last
said_obeys client [] made own at asked n last h = h
said_obeys client (step ∷ steps) made own at asked n last h =
    let one = own_step client step.0 step.1 at (All-head (IsOwn client) step steps own) in
    let rest : Obeys at (map (call_by client) steps ++ made) asked n last = said_obeys client steps made (All-tail (IsOwn client) step steps own) at asked n last h in (
      at,
      at,
      obeys_up at (map (call_by client) steps ++ made) asked n last rest,
      one.0,
      subst (λ (d : Due). Follows d asked n at at) (sym one.1) refl,
      subst (λ (d : Due). Obeys at (map (call_by client) steps ++ made) (asked_left d asked) (reports_left d n) last) (sym one.1) rest,
    )

front_obeys : (front made whole : List MadeCall) (last : DriverAt) → ((at : DriverAt) (asked : List (VaultCall × VaultAnswer)) (n : ℕ) → Obeys at made asked n last → Obeys at whole asked n last)
    → (at : DriverAt) (asked : List (VaultCall × VaultAnswer)) (n : ℕ) → Obeys at (front ++ made) asked n last → Obeys at (front ++ whole) asked n last
front_obeys [] made whole last more at asked n h = more at asked n h
front_obeys (one ∷ front) made whole last more at asked n (mid, next, up, moves, follows, rest) =
    (mid, next, up, moves, follows, front_obeys front made whole last more next (asked_left (due_behind one.call one.reply) asked) (reports_left (due_behind one.call one.reply) n) rest)

whole_obeys : (beat : BeatKind) (acts : List Act) → All (IsAllowed beat) acts → (last at : DriverAt) (asked : List (VaultCall × VaultAnswer)) (n : ℕ) → Obeys at (calls_made (driven acts)) asked n last → Obeys at (calls_made acts) asked n last
whole_obeys beat [] allowed last at asked n h = h
whole_obeys beat (Says client steps ∷ acts) allowed last at asked n h =
    said_obeys client steps (calls_made acts) (All-head (IsAllowed beat) (Says client steps) acts allowed) at asked n last
    (whole_obeys beat acts (All-tail (IsAllowed beat) (Says client steps) acts allowed) last at asked n h)
whole_obeys beat (Halts fault ∷ acts) allowed last at asked n h =
    front_obeys (map (call_by 0) (desk_calls (Halts fault))) (calls_made (driven acts)) (calls_made acts) last (whole_obeys beat acts (All-tail (IsAllowed beat) (Halts fault) acts allowed) last) at asked n h
whole_obeys beat (Rests look ∷ acts) allowed last at asked n h =
    front_obeys (map (call_by 0) (desk_calls (Rests look))) (calls_made (driven acts)) (calls_made acts) last (whole_obeys beat acts (All-tail (IsAllowed beat) (Rests look) acts allowed) last) at asked n h
whole_obeys beat (Takes look keys ∷ acts) allowed last at asked n h =
    front_obeys (map (call_by 0) (desk_calls (Takes look keys))) (calls_made (driven acts)) (calls_made acts) last (whole_obeys beat acts (All-tail (IsAllowed beat) (Takes look keys) acts allowed) last) at asked n h
whole_obeys beat (Delivers batch ∷ acts) allowed last at asked n h =
    front_obeys (map (call_by 0) (desk_calls (Delivers batch))) (calls_made (driven acts)) (calls_made acts) last (whole_obeys beat acts (All-tail (IsAllowed beat) (Delivers batch) acts allowed) last) at asked n h
whole_obeys beat (DeliverFails keys fault ∷ acts) allowed last at asked n h =
    front_obeys (map (call_by 0) (desk_calls (DeliverFails keys fault))) (calls_made (driven acts)) (calls_made acts) last (whole_obeys beat acts (All-tail (IsAllowed beat) (DeliverFails keys fault) acts allowed) last) at asked n h
whole_obeys beat (FetchFails look batches keys fault ∷ acts) allowed last at asked n h =
    front_obeys (map (call_by 0) (desk_calls (FetchFails look batches keys fault))) (calls_made (driven acts)) (calls_made acts) last (whole_obeys beat acts (All-tail (IsAllowed beat) (FetchFails look batches keys fault) acts allowed) last) at asked n h
whole_obeys beat (RestUnwatched look batches ∷ acts) allowed last at asked n h =
    front_obeys (map (call_by 0) (desk_calls (RestUnwatched look batches))) (calls_made (driven acts)) (calls_made acts) last (whole_obeys beat acts (All-tail (IsAllowed beat) (RestUnwatched look batches) acts allowed) last) at asked n h
whole_obeys beat (Closes look batches writes ∷ acts) allowed last at asked n h =
    front_obeys (map (call_by 0) (desk_calls (Closes look batches writes))) (calls_made (driven acts)) (calls_made acts) last (whole_obeys beat acts (All-tail (IsAllowed beat) (Closes look batches writes) acts allowed) last) at asked n h
whole_obeys beat (Publishes writes left told ∷ acts) allowed last at asked n h =
    front_obeys (map (call_by 0) (desk_calls (Publishes writes left told))) (calls_made (driven acts)) (calls_made acts) last (whole_obeys beat acts (All-tail (IsAllowed beat) (Publishes writes left told) acts allowed) last) at asked n h
whole_obeys beat (Refuses writes refused ∷ acts) allowed last at asked n h =
    front_obeys (map (call_by 0) (desk_calls (Refuses writes refused))) (calls_made (driven acts)) (calls_made acts) last (whole_obeys beat acts (All-tail (IsAllowed beat) (Refuses writes refused) acts allowed) last) at asked n h
whole_obeys beat (Unprinted ∷ acts) allowed last at asked n h =
    front_obeys (map (call_by 0) (desk_calls Unprinted)) (calls_made (driven acts)) (calls_made acts) last (whole_obeys beat acts (All-tail (IsAllowed beat) Unprinted acts allowed) last) at asked n h
whole_obeys beat (Unwatched ∷ acts) allowed last at asked n h =
    front_obeys (map (call_by 0) (desk_calls Unwatched)) (calls_made (driven acts)) (calls_made acts) last (whole_obeys beat acts (All-tail (IsAllowed beat) Unwatched acts allowed) last) at asked n h

-- the driver's acts ask for the same, and publish as much
alike : (acts : List Act) → (calls (driven acts) ≡ calls acts) × (publishes_in (driven acts) ≡ publishes_in acts) × (unprinted_in (driven acts) ≡ unprinted_in acts)
alike [] = (refl, refl, refl)
alike (Says client steps ∷ acts) = alike acts
alike (Halts fault ∷ acts) = (ap (λ (l : List (VaultCall × VaultAnswer)). vault_calls (Halts fault) ++ l) (alike acts).0, (alike acts).1, (alike acts).2)
alike (Rests look ∷ acts) = (ap (λ (l : List (VaultCall × VaultAnswer)). vault_calls (Rests look) ++ l) (alike acts).0, (alike acts).1, (alike acts).2)
alike (Takes look keys ∷ acts) = (ap (λ (l : List (VaultCall × VaultAnswer)). vault_calls (Takes look keys) ++ l) (alike acts).0, (alike acts).1, (alike acts).2)
alike (Delivers batch ∷ acts) = (ap (λ (l : List (VaultCall × VaultAnswer)). vault_calls (Delivers batch) ++ l) (alike acts).0, (alike acts).1, (alike acts).2)
alike (DeliverFails keys fault ∷ acts) = (ap (λ (l : List (VaultCall × VaultAnswer)). vault_calls (DeliverFails keys fault) ++ l) (alike acts).0, (alike acts).1, (alike acts).2)
alike (FetchFails look batches keys fault ∷ acts) = (ap (λ (l : List (VaultCall × VaultAnswer)). vault_calls (FetchFails look batches keys fault) ++ l) (alike acts).0, (alike acts).1, (alike acts).2)
alike (RestUnwatched look batches ∷ acts) = (ap (λ (l : List (VaultCall × VaultAnswer)). vault_calls (RestUnwatched look batches) ++ l) (alike acts).0, (alike acts).1, (alike acts).2)
alike (Closes look batches writes ∷ acts) = (ap (λ (l : List (VaultCall × VaultAnswer)). vault_calls (Closes look batches writes) ++ l) (alike acts).0, (alike acts).1, (alike acts).2)
alike (Publishes writes left told ∷ acts) = (ap (λ (l : List (VaultCall × VaultAnswer)). vault_calls (Publishes writes left told) ++ l) (alike acts).0, ap suc (alike acts).1, (alike acts).2)
alike (Refuses writes refused ∷ acts) = (ap (λ (l : List (VaultCall × VaultAnswer)). vault_calls (Refuses writes refused) ++ l) (alike acts).0, (alike acts).1, (alike acts).2)
alike (Unwatched ∷ acts) = (ap (λ (l : List (VaultCall × VaultAnswer)). vault_calls Unwatched ++ l) (alike acts).0, (alike acts).1, (alike acts).2)
alike (Unprinted ∷ acts) = (ap (λ (l : List (VaultCall × VaultAnswer)). vault_calls Unprinted ++ l) (alike acts).0, (alike acts).1, ap suc (alike acts).2)

-- ---- whose calls they are

abbrev AreCallsOf : List MadeCall → Type 0
AreCallsOf [] = Unit {0}
AreCallsOf (one ∷ made) = IsCallOf one.caller one.call one.reply × AreCallsOf made

abbrev AreDriver : List (Call × Reply) → Type 0
AreDriver [] = Unit {0}
AreDriver (step ∷ steps) = IsDriverCall step.0 × AreDriver steps

said_own : (client : ℕ) (steps : List (Call × Reply)) (made : List MadeCall) → All (IsOwn client) steps → AreCallsOf made → AreCallsOf (map (call_by client) steps ++ made)
said_own client [] made own h = h
said_own client (step ∷ steps) made own h = (inr (All-head (IsOwn client) step steps own), said_own client steps made (All-tail (IsOwn client) step steps own) h)

driver_own : (steps : List (Call × Reply)) (made : List MadeCall) → AreDriver steps → AreCallsOf made → AreCallsOf (map (call_by 0) steps ++ made)
driver_own [] made own h = h
driver_own (step ∷ steps) made own h = (inl (refl, own.0), driver_own steps made own.1 h)

batches_driver : (batches : List Batch) (tail : List (Call × Reply)) → AreDriver tail → AreDriver (rest_calls batches ++ tail)
batches_driver [] tail h = h
batches_driver (batch ∷ batches) tail h = (tt, (tt, batches_driver batches tail h))

calls_own : (beat : BeatKind) (acts : List Act) → All (IsAllowed beat) acts → AreCallsOf (calls_made acts)
calls_own beat [] allowed = tt
calls_own beat (Says client steps ∷ acts) allowed = said_own client steps (calls_made acts) (All-head (IsAllowed beat) (Says client steps) acts allowed) (calls_own beat acts (All-tail (IsAllowed beat) (Says client steps) acts allowed))
calls_own beat (Halts fault ∷ acts) allowed = driver_own (desk_calls (Halts fault)) (calls_made acts) (tt, tt) (calls_own beat acts (All-tail (IsAllowed beat) (Halts fault) acts allowed))
calls_own beat (Rests look ∷ acts) allowed = driver_own (desk_calls (Rests look)) (calls_made acts) (tt, (tt, tt)) (calls_own beat acts (All-tail (IsAllowed beat) (Rests look) acts allowed))
calls_own beat (Takes look keys ∷ acts) allowed = driver_own (desk_calls (Takes look keys)) (calls_made acts) (tt, (tt, (tt, tt))) (calls_own beat acts (All-tail (IsAllowed beat) (Takes look keys) acts allowed))
calls_own beat (Delivers batch ∷ acts) allowed = driver_own (desk_calls (Delivers batch)) (calls_made acts) (tt, tt) (calls_own beat acts (All-tail (IsAllowed beat) (Delivers batch) acts allowed))
calls_own beat (DeliverFails keys fault ∷ acts) allowed = driver_own (desk_calls (DeliverFails keys fault)) (calls_made acts) (tt, tt) (calls_own beat acts (All-tail (IsAllowed beat) (DeliverFails keys fault) acts allowed))
calls_own beat (FetchFails look batches keys fault ∷ acts) allowed = driver_own (desk_calls (FetchFails look batches keys fault)) (calls_made acts)
    (tt, (tt, batches_driver batches ((desk.TakeBatch, desk.Batch keys) ∷ (desk.Stop fault, desk.Done) ∷ []) (tt, (tt, tt)))) (calls_own beat acts (All-tail (IsAllowed beat) (FetchFails look batches keys fault) acts allowed))
calls_own beat (RestUnwatched look batches ∷ acts) allowed = driver_own (desk_calls (RestUnwatched look batches)) (calls_made acts) (tt, (tt, batches_driver batches ((desk.Stop SinkFault, desk.Done) ∷ []) (tt, tt)))
    (calls_own beat acts (All-tail (IsAllowed beat) (RestUnwatched look batches) acts allowed))
calls_own beat (Closes look batches writes ∷ acts) allowed = driver_own (desk_calls (Closes look batches writes)) (calls_made acts) (tt, (tt, batches_driver batches (close_calls writes) (tt, tt))) (calls_own beat acts (All-tail (IsAllowed beat) (Closes look batches writes) acts allowed))
calls_own beat (Publishes writes left told ∷ acts) allowed = driver_own (desk_calls (Publishes writes left told)) (calls_made acts) (tt, tt) (calls_own beat acts (All-tail (IsAllowed beat) (Publishes writes left told) acts allowed))
calls_own beat (Refuses writes (refused.Before fault) ∷ acts) allowed = driver_own (desk_calls (Refuses writes (refused.Before fault))) (calls_made acts) (tt, tt) (calls_own beat acts (All-tail (IsAllowed beat) (Refuses writes (refused.Before fault)) acts allowed))
calls_own beat (Refuses writes (refused.Unsure fault) ∷ acts) allowed = driver_own (desk_calls (Refuses writes (refused.Unsure fault))) (calls_made acts) (tt, tt) (calls_own beat acts (All-tail (IsAllowed beat) (Refuses writes (refused.Unsure fault)) acts allowed))
calls_own beat (Unprinted ∷ acts) allowed = driver_own (desk_calls Unprinted) (calls_made acts) (tt, tt) (calls_own beat acts (All-tail (IsAllowed beat) Unprinted acts allowed))
calls_own beat (Unwatched ∷ acts) allowed = driver_own (desk_calls Unwatched) (calls_made acts) (tt, tt) (calls_own beat acts (All-tail (IsAllowed beat) Unwatched acts allowed))

-- ---- call by call

abbrev IsLegalFrom : DeskState → List MadeCall → DeskState → Type 0
IsLegalFrom d [] new = new ≡ d
IsLegalFrom d (one ∷ made) new = (mid : DeskState) × MayCall d one.call × DeskStep d one.call one.reply mid × IsLegalFrom mid made new

legal_front : (caller : ℕ) (d : DeskState) (steps : List (Call × Reply)) (mid : DeskState) (made : List MadeCall) (new : DeskState) → Leads d steps mid → IsLegalFrom mid made new → IsLegalFrom d (map (call_by caller) steps ++ made) new
legal_front caller d [] mid made new led rest = subst (λ (x : DeskState). IsLegalFrom x made new) led rest
legal_front caller d (step ∷ steps) mid made new (next, may, one, led) rest = (next, may, one, legal_front caller next steps mid made new led rest)

legal_made : (acts : List Act) (d new : DeskState) → Leads d (history acts) new → IsLegalFrom d (calls_made acts) new
legal_made [] d new led = led
legal_made (act ∷ acts) d new led =
    let (mid, first, rest) = leads_split d (desk_calls act) (history acts) new led in
    legal_front (caller_of act) d (desk_calls act) mid (calls_made acts) new first (legal_made acts mid new rest)

-- ---- the vault serves where the driver may call it

abbrev Serves : DriverAt → VaultState → Type 0
Serves (HasFailed fault) v = Unit {0}
Serves (HasDoubt fault) v = Unit {0}
Serves IsDown v = Unit {0}
Serves _ v = v.spent ≡ false

serves_moved : (v : VaultState) (at : DriverAt) (call : Call) (reply : Reply) (mid : DriverAt) → MovesDriver at call reply mid → Serves at v → Serves mid v
serves_moved v at desk.TakeBatch reply mid moves h = subst (λ (a : DriverAt). Serves a v) (sym moves.now) (subst (λ (a : DriverAt). Serves a v) moves.was h)
serves_moved v at (desk.Deliver keys values) reply mid moves h = subst (λ (a : DriverAt). Serves a v) (sym moves.now) (subst (λ (a : DriverAt). Serves a v) moves.was h)
serves_moved v at desk.Close reply mid moves h = subst (λ (a : DriverAt). Serves a v) (sym moves.now) (subst (λ (a : DriverAt). Serves a v) moves.was h)
serves_moved v at (desk.Publish epoch left) reply mid moves h = subst (λ (a : DriverAt). Serves a v) (sym moves.now) (subst (λ (a : DriverAt). Serves a v) moves.was h)
serves_moved v at (desk.Unsure fault) reply mid moves h = subst (λ (a : DriverAt). Serves a v) (sym moves.now) tt
serves_moved v at (desk.Stop fault) reply mid moves h = subst (λ (a : DriverAt). Serves a v) (sym moves.now) h
serves_moved v at _ reply mid moves h = subst (λ (a : DriverAt). Serves a v) (sym moves) h

serves_before : (call : VaultCall) (v : VaultState) → Serves (before_call call) v → v.spent ≡ false
serves_before (Fetch keys) v h = h
serves_before (End writes) v h = h

serves_behind : (call : VaultCall) (answer : VaultAnswer) (v : VaultState) → v.spent ≡ false → Serves (behind_call call answer) (vault_next v call answer)
serves_behind (Fetch keys) (Values values) v h = h
serves_behind (Fetch keys) Ended v h = tt
serves_behind (Fetch keys) (RefusedBy fault) v h = tt
serves_behind (Fetch keys) (DoubtBy fault) v h = tt
serves_behind (End writes) (Values values) v h = tt
serves_behind (End writes) Ended v h = h
serves_behind (End writes) (RefusedBy fault) v h = tt
serves_behind (End writes) (DoubtBy fault) v h = tt

-- ---- the weave

module _ {V : Type 0} (k : Kind V) where
  -- what stands right behind a call of the desk is a world
  record Followed (w : World V) (d : Due) (asked : List (VaultCall × VaultAnswer)) (n : ℕ) (next : DriverAt) (new : V) : Type 0 where
    pub mid : World V
    pub leads : IsWorld (course_of k) w (events_due d asked n) mid
    pub desk_is : mid.desk ≡ w.desk
    pub driver_is : mid.driver ≡ next
    pub vault_is : after_calls mid.vault (asked_left d asked) ≡ after_calls w.vault asked
    pub chain : AllCalled k mid.past (asked_left d asked) new
    pub holds : k.holds mid.past mid.vault
    pub serves : Serves mid.driver mid.vault

  followed : (w : World V) (d : Due) (asked : List (VaultCall × VaultAnswer)) (n : ℕ) (next : DriverAt) (new : V) → Follows d asked n w.driver next → AllCalled k w.past asked new → k.holds w.past w.vault → Serves w.driver w.vault → Followed w d asked n next new
  followed w NothingIsDue asked n next new f chain holds serves = record { mid = w; leads = refl; desk_is = refl; driver_is = sym f; vault_is = refl; chain = chain; holds = holds; serves = serves }
  followed w CallIsDue [] n next new f chain holds serves = record { mid = w; leads = refl; desk_is = refl; driver_is = sym f; vault_is = refl; chain = chain; holds = holds; serves = serves }
  followed w CallIsDue (step ∷ asked) n next new f (past, one, rest) holds serves =
      let unspent : w.vault.spent ≡ false = serves_before step.0 w.vault (subst (λ (a : DriverAt). Serves a w.vault) f.0 serves) in
      let mid : World V = record w { vault = vault_next w.vault step.0 step.1; past = past; driver = behind_call step.0 step.1; ended = ended_with (Some step.0) w.desk w.vault w.ended } in
      record {
        mid = mid;
        leads = (mid, record { vault = mid.vault; past = past; law = record { serves = unspent; answered = one.answered w.vault holds; state = refl }; called = one; was = f.0; state = refl }, refl);
        desk_is = refl;
        driver_is = sym f.1;
        vault_is = refl;
        chain = rest;
        holds = one.holds w.vault holds;
        serves = serves_behind step.0 step.1 w.vault unspent;
      }
  followed w (ReportIsDue told) asked zero next new f chain holds serves = record { mid = w; leads = refl; desk_is = refl; driver_is = sym f; vault_is = refl; chain = chain; holds = holds; serves = serves }
  followed w (ReportIsDue told) asked (suc n) next new f chain holds serves =
      let mid : World V = record w { driver = AtRest } in
      record { mid = mid; leads = (mid, record { was = f.0; state = refl }, refl); desk_is = refl; driver_is = sym f.1; vault_is = refl; chain = chain; holds = holds; serves = subst (λ (a : DriverAt). Serves a w.vault) f.0 serves }

  pub record WovenTo (w : World V) (made : List MadeCall) (asked : List (VaultCall × VaultAnswer)) (n : ℕ) (d : DeskState) (new : V) (at : DriverAt) : Type 0 where
    pub last : World V
    pub leads : IsWorld (course_of k) w (woven_from made asked n) last
    pub desk_is : last.desk ≡ d
    pub vault_is : last.vault ≡ after_calls w.vault asked
    pub past_is : last.past ≡ new
    pub driver_is : last.driver ≡ at

  pub weaves : (made : List MadeCall) (w : World V) (asked : List (VaultCall × VaultAnswer)) (n : ℕ) (d : DeskState) (new : V) (at : DriverAt) → AreCallsOf made → IsLegalFrom w.desk made d → Obeys w.driver made asked n at
      → AllCalled k w.past asked new → k.holds w.past w.vault → Serves w.driver w.vault → WovenTo w made asked n d new at
  weaves [] w asked n d new at own legal obeys chain holds serves =
      let last : new ≡ w.past = subst (λ (cs : List (VaultCall × VaultAnswer)). AllCalled k w.past cs new) obeys.1 chain in
      record { last = w; leads = refl; desk_is = sym legal; vault_is = ap (λ (cs : List (VaultCall × VaultAnswer)). after_calls w.vault cs) (sym obeys.1); past_is = sym last; driver_is = sym obeys.3 }
  weaves (made ∷ more) w asked n d new at own (next, may, step, legal) (mid, behind, up, moves, follows, obeys) chain holds serves =
      let due : Due = due_behind made.call made.reply in
      let one : World V = record w { desk = next; driver = mid } in
      let f : Followed one due asked n behind new = followed one due asked n behind new follows chain holds (serves_moved w.vault w.driver made.call made.reply mid moves serves) in
      let rest : WovenTo f.mid more (asked_left due asked) (reports_left due n) d new at =
      weaves more f.mid (asked_left due asked) (reports_left due n) d new at own.1
      (subst (λ (x : DeskState). IsLegalFrom x more d) (sym f.desk_is) legal)
      (subst (λ (a : DriverAt). Obeys a more (asked_left due asked) (reports_left due n) at) (sym f.driver_is) obeys)
      f.chain f.holds f.serves in
      record {
        last = rest.last;
        leads = (
          one,
          record { up = up; own = own.0; desk = next; driver = mid; may = may; step = step; moves = moves; state = refl },
          world_append (course_of k) one (events_due due asked n) (woven_from more (asked_left due asked) (reports_left due n)) f.mid rest.last f.leads rest.leads,
        );
        desk_is = rest.desk_is;
        vault_is = rest.vault_is ∙ f.vault_is;
        past_is = rest.past_is;
        driver_is = rest.driver_is;
      }

pub acts_obey : (beat : BeatKind) (acts : List Act) (d new : DeskState) → All (IsAllowed beat) acts → Leads d (history acts) new → AreThings (driven acts) → (last : DriverAt) × Obeys AtRest (calls_made acts) (calls acts) (reports_of acts) last × IsEndPlace last × (new.stop ≡ None → last ≡ AtRest)
acts_obey beat acts d new allowed led things =
    let fresh : Stays false (driven acts) = stays acts false d new led (λ is. absurd (false≢true is)) in
    let ends : EndsSomewhere (flat things.things) = things_obey things.things things.each (subst (Stays false) things.acts_are fresh) in
    let same = alike acts in
    let counts : reports_of (driven acts) ≡ reports_of acts = (λ i. same.1 i - same.2 i) in
    let own : Obeys AtRest (calls_made (driven acts)) (calls (driven acts)) (reports_of (driven acts)) ends.last =
    subst (λ (l : List Act). Obeys AtRest (calls_made l) (calls l) (reports_of l) ends.last) (sym things.acts_are) ends.obeys in
    let mine : Obeys AtRest (calls_made (driven acts)) (calls acts) (reports_of acts) ends.last = subst (λ (n : ℕ). Obeys AtRest (calls_made (driven acts)) (calls acts) n ends.last) counts
    (subst (λ (cs : List (VaultCall × VaultAnswer)). Obeys AtRest (calls_made (driven acts)) cs (reports_of (driven acts)) ends.last) same.0 own) in
    (ends.last, whole_obeys beat acts allowed ends.last AtRest (calls acts) (reports_of acts) mine, ends.ends, λ none. ends.rests (subst AreCalm things.acts_are (calm acts d new led none)))

pub acts_are_a_world : {V : Type 0} (k : Kind V) → ActsAreAWorld k
acts_are_a_world k setup clients v old new acts d run things =
    let (at, obeys, ends, rests) = acts_obey run.beat acts (new_desk setup (suc v.epoch) v.left clients) d run.allowed run.leads things in
    let first = first_world setup clients (standing_now v) v.left old in
    let r : WovenTo k first (calls_made acts) (calls acts) (reports_of acts) d new at = weaves k (calls_made acts) first (calls acts) (reports_of acts) d new at
    (calls_own run.beat acts run.allowed) (legal_made acts (new_desk setup (suc v.epoch) v.left clients) d run.leads) obeys run.chain (subst (k.holds old) run.fresh run.holds) refl in
    record { last = r.last; leads = r.leads; desk_is = r.desk_is; vault_is = r.vault_is ∙ ap (λ x. after_calls x (calls acts)) (sym run.fresh); past_is = r.past_is; ends = subst IsEndPlace (sym r.driver_is) ends; rests = λ none. r.driver_is ∙ rests none }
