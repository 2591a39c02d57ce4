-- Over whatever acts of one client and the driver: who was turned away had used its places.
use Rattle.std.proofs.Common.{◌≡◌, ◌∙◌, ◌++◌, ◌<◌, ◌≤◌, ℕ, suc, List, [], ◌∷◌, length, Option, Some, None, sym, subst, ap, arith}
use Rattle.std.specs.List.{All}
use Rattle.std.proofs.lemmas.List.{append-nil}
use Rattle.std.proofs.lemmas.List.Elements.{All-head, All-tail, All-cons, All-nil, All-append}
use Rattle.ob_base.specs.declared.fault.Fault.{Fault}
use Rattle.ob_base.specs.declared.fault.Fault.TheVariants.{SinkFault}
use Rattle.ob_base.specs.declared.params.Params.{Params}
use Rattle.ob_serial.specs.declared.vault.EndErr.{EndErr}
use Rattle.ob_serial.specs.declared.vault.EndErr.TheVariants as ended
use Rattle.ob_serial.specs.Serial.{EpochRecord}
use Rattle.ob_desk.specs.Desk as desk
use Rattle.ob_desk.specs.Desk.{DeskState, DeskStep, MayCall, MayOpen, Setup, Call, Reply, new_desk, look_at, published, records_told, stopped_by, setup_of}
use Rattle.ob_desk.specs.declared.calls.Look.{Look}
use Rattle.ob_desk.specs.declared.calls.Txn.{Txn}
use Rattle.ob_desk.specs.Beats.{BeatKind}
use Rattle.ob_session.specs.Steps.{Leads, IsOwn}
use Rattle.ob_conduct.specs.Acts.{Act, Says, Halts, Rests, Takes, Delivers, DeliverFails, FetchFails, RestUnwatched, Closes, Publishes, Refuses, Unprinted, Unwatched, Batch, desk_calls, look_calls, rest_calls, close_calls, stop_for, history, records, IsAllowed}
use Rattle.ob_conduct.proofs.Going.{published_append}
use Rattle.ob_outcomes.specs.Lone.{HasUsedPlaces, LoneUsesPlaces}
use Rattle.ob_outcomes.proofs.Alone.{OnlyLast}
use Rattle.ob_outcomes.proofs.Causes.{Good, good_new, good_step, told_step}
use Rattle.ob_outcomes.proofs.Desks.{Runs, runs_new, runs_step}
use Rattle.ob_outcomes.proofs.Lonely.{IsRoomy, roomy_step, stopped, UsedPlaces, used_tale, record_used}
use Rattle.ob_outcomes.proofs.Walk.{leads_split, looked}

-- ---- which calls an act makes

-- it takes no batch
abbrev NotTake : Call × Reply → Type 0
NotTake (desk.TakeBatch, reply) = ⊥
NotTake _ = Unit {0}

-- it is no get
abbrev NotGet : Call × Reply → Type 0
NotGet (desk.GetKey x k, reply) = ⊥
NotGet _ = Unit {0}

own_takes : (client : ℕ) (call : Call) (reply : Reply) → IsOwn client (call, reply) → NotTake (call, reply)
own_takes c desk.TakeBatch reply own = absurd own
own_takes c (desk.Begin number) reply own = tt
own_takes c (desk.GetKey x k) reply own = tt
own_takes c (desk.Poll x) reply own = tt
own_takes c (desk.Write x k value) reply own = tt
own_takes c (desk.Commit x) reply own = tt
own_takes c (desk.Abort x) reply own = tt
own_takes c (desk.Settled x) reply own = tt
own_takes c (desk.SignOff number) reply own = tt
own_takes c (desk.Stop f) reply own = tt
own_takes c desk.IsStopped reply own = tt
own_takes c desk.Looks reply own = tt
own_takes c (desk.Unsure f) reply own = tt
own_takes c desk.Close reply own = tt
own_takes c (desk.Deliver keys values) reply own = tt
own_takes c (desk.Publish epoch left) reply own = tt

own_take_none : (client : ℕ) (steps : List (Call × Reply)) → All (IsOwn client) steps → All NotTake steps
own_take_none c [] own = All-nil NotTake
own_take_none c (step ∷ steps) own = All-cons NotTake step steps (own_takes c step.0 step.1 (All-head (IsOwn c) step steps own)) (own_take_none c steps (All-tail (IsOwn c) step steps own))

one_takes_none : (step : Call × Reply) → NotTake step → All NotTake (step ∷ [])
one_takes_none step one = All-cons NotTake step [] one (All-nil NotTake)

look_takes_none : (look : Look) → All NotTake (look_calls look)
look_takes_none look = All-cons NotTake (desk.IsStopped, desk.StoppedBy None) ((desk.Looks, desk.Seen look) ∷ []) tt (one_takes_none (desk.Looks, desk.Seen look) tt)

stop_takes_none : (refused : EndErr) → All NotTake ((stop_for refused, desk.Done) ∷ [])
stop_takes_none (ended.Before fault) = one_takes_none (desk.Stop fault, desk.Done) tt
stop_takes_none (ended.Unsure fault) = one_takes_none (desk.Unsure fault, desk.Done) tt

look_gets_none : (look : Look) (more : List (Call × Reply)) → All NotGet more → All NotGet (look_calls look ++ more)
look_gets_none look more none = All-cons NotGet (desk.IsStopped, desk.StoppedBy None) ((desk.Looks, desk.Seen look) ∷ more) tt (All-cons NotGet (desk.Looks, desk.Seen look) more tt none)

batches_get_none : (batches : List Batch) (more : List (Call × Reply)) → All NotGet more → All NotGet (rest_calls batches ++ more)
batches_get_none [] more none = none
batches_get_none (batch ∷ batches) more none = All-cons NotGet (desk.TakeBatch, desk.Batch batch.keys) ((desk.Deliver batch.keys batch.values, desk.Done) ∷ (rest_calls batches ++ more)) tt
    (All-cons NotGet (desk.Deliver batch.keys batch.values, desk.Done) (rest_calls batches ++ more) tt (batches_get_none batches more none))

one_gets_none : (step : Call × Reply) (more : List (Call × Reply)) → NotGet step → All NotGet more → All NotGet (step ∷ more)
one_gets_none step more one none = All-cons NotGet step more one none

no_take : (call : Call) (reply : Reply) → NotTake (call, reply) → (n : ℕ) → call ≡ desk.TakeBatch → 0 < n
no_take call reply other n e = absurd (subst (λ (q : Call). NotTake (q, reply)) e other)

no_get : (call : Call) (reply : Reply) → NotGet (call, reply) → (x : Txn) (k : ℕ) → call ≡ desk.GetKey x k → ⊥
no_get call reply other x k e = subst (λ (q : Call). NotGet (q, reply)) e other

-- ---- what is kept

module _ (p : Params) (client batches : ℕ) (low : batches ≤ p.batches) where
  abbrev its : Setup
  its = setup_of p

  abbrev Fine : DeskState → Type 0
  Fine d = Good (UsedPlaces batches its) OnlyLast d

  abbrev Shown : EpochRecord ℕ → Type 0
  Shown r = All (λ t. HasUsedPlaces batches p t t.outcome) r.txns

  record Stands (d : DeskState) : Type 0 where
    pub runs : Runs its (client ∷ []) d
    pub fine : Fine d

  told : (d : DeskState) (call : Call) (reply : Reply) (new : DeskState) → DeskStep d call reply new → Fine d → All Shown (records_told reply)
  told d call reply new step fine = told_step (UsedPlaces batches its) OnlyLast its (client ∷ []) (IsRoomy batches) (used_tale its client batches) Shown (record_used batches p) d call reply new step fine

  fine_on : (d : DeskState) (call : Call) (reply : Reply) (new : DeskState) → MayCall d call → DeskStep d call reply new → ((x : Txn) (k : ℕ) → call ≡ desk.GetKey x k → IsRoomy batches d) → Stands d → Stands new
  fine_on d call reply new may step known h = record {
    runs = runs_step its (client ∷ []) d call reply new may step h.runs;
    fine = good_step (UsedPlaces batches its) OnlyLast its (client ∷ []) (IsRoomy batches) (used_tale its client batches) d call reply new may step h.runs known h.fine;
  }

  -- where the room is kept, and where it isn't but nothing is got
  record Went (steps : List (Call × Reply)) (new : DeskState) : Type 0 where
    pub shown : All Shown (published steps)
    pub stands : Stands new
    pub roomy : IsRoomy batches new

  record WentOn (steps : List (Call × Reply)) (new : DeskState) : Type 0 where
    pub shown : All Shown (published steps)
    pub stands : Stands new

  goes : (d : DeskState) (steps : List (Call × Reply)) (new : DeskState) → All NotTake steps → Leads d steps new → Stands d → IsRoomy batches d → Went steps new
  goes d [] new other run h roomy = record { shown = All-nil Shown; stands = subst Stands (sym run) h; roomy = subst (IsRoomy batches) (sym run) roomy }
  goes d (step ∷ steps) new other run h roomy =
      let mid = run.0 in
      let rest = goes mid steps new (All-tail NotTake step steps other) run.3 (fine_on d step.0 step.1 mid run.1 run.2 (λ x k e. roomy) h)
      (roomy_step batches its client d step.0 step.1 mid low run.1 run.2 h.runs (no_take step.0 step.1 (All-head NotTake step steps other) (length d.running.order.queue)) roomy) in
      record {
        shown = All-append Shown (records_told step.1) (published steps) (told d step.0 step.1 mid run.2 h.fine) rest.shown;
        stands = rest.stands;
        roomy = rest.roomy;
      }

  goes_on : (d : DeskState) (steps : List (Call × Reply)) (new : DeskState) → All NotGet steps → Leads d steps new → Stands d → WentOn steps new
  goes_on d [] new other run h = record { shown = All-nil Shown; stands = subst Stands (sym run) h }
  goes_on d (step ∷ steps) new other run h =
      let mid = run.0 in
      let rest = goes_on mid steps new (All-tail NotGet step steps other) run.3 (fine_on d step.0 step.1 mid run.1 run.2 (λ x k e. absurd (no_get step.0 step.1 (All-head NotGet step steps other) x k e)) h) in
      record { shown = All-append Shown (records_told step.1) (published steps) (told d step.0 step.1 mid run.2 h.fine) rest.shown; stands = rest.stands }

  -- ---- act by act

  takes : (d : DeskState) (look : Look) (keys : List (Option ℕ)) (new : DeskState) → 0 < look.queued → Leads d (desk_calls (Takes look keys)) new → Stands d → IsRoomy batches d → Went (desk_calls (Takes look keys)) new
  takes d look keys new some run h roomy =
      let (a, looks, (last, may, took, is)) = leads_split d (look_calls look) ((desk.TakeBatch, desk.Batch keys) ∷ []) new run in
      let k = looked d look a looks in
      let begun = goes d (look_calls look) a (look_takes_none look) looks h roomy in
      let queued : 0 < length a.running.order.queue = subst (λ (q : DeskState). 0 < length q.running.order.queue) (sym k.same) (subst (λ (q : Look). 0 < q.queued) k.look_is some) in
      let next = fine_on a desk.TakeBatch (desk.Batch keys) last may took (λ x k e. begun.roomy) begun.stands in
      let room = roomy_step batches its client a desk.TakeBatch (desk.Batch keys) last low may took begun.stands.runs (λ e. queued) begun.roomy in
      record { shown = begun.shown; stands = subst Stands (sym is) next; roomy = subst (IsRoomy batches) (sym is) room }

  closes : (d : DeskState) (look : Look) (reads : List Batch) (writes : List (ℕ × Option (List ℕ))) (new : DeskState) → Leads d (desk_calls (Closes look reads writes)) new → Stands d → Went (desk_calls (Closes look reads writes)) new
  closes d look reads writes new run h =
      let went = goes_on d (desk_calls (Closes look reads writes)) new (look_gets_none look (rest_calls reads ++ close_calls writes) (batches_get_none reads (close_calls writes) (one_gets_none (desk.Close, desk.Writes writes) [] tt (All-nil NotGet)))) run h in
      let (a, looks, rest) = leads_split d (look_calls look) (rest_calls reads ++ close_calls writes) new run in
      let (b, fetched, (last, may, closed, is)) = leads_split a (rest_calls reads) (close_calls writes) new rest in
      let params : b.setup.params.batches ≡ p.batches = setup_there d b look reads writes a looks fetched h in
      record {
        shown = went.shown;
        stands = went.stands;
        roomy = subst (IsRoomy batches) (sym (is ∙ closed.state)) (record { room = λ none. record { fits = let l = low in omega (arith, params, l) } });
      }
    where
      setup_there : (d b : DeskState) (look : Look) (reads : List Batch) (writes : List (ℕ × Option (List ℕ))) (a : DeskState) → Leads d (look_calls look) a → Leads a (rest_calls reads) b → Stands d → b.setup.params.batches ≡ p.batches
      setup_there d b look reads writes a looks fetched h =
          let first = goes_on d (look_calls look) a (look_gets_none look [] (All-nil NotGet)) looks h in
          let second = goes_on a (rest_calls reads) b (subst (All NotGet) (append-nil (rest_calls reads)) (batches_get_none reads [] (All-nil NotGet))) fetched first.stands in
          ap (λ (q : Setup). q.params.batches) second.stands.runs.same_setup

  fails : (d : DeskState) (look : Look) (reads : List Batch) (keys : List (Option ℕ)) (fault : Fault) (new : DeskState) → Leads d (desk_calls (FetchFails look reads keys fault)) new → Stands d → Went (desk_calls (FetchFails look reads keys fault)) new
  fails d look reads keys fault new run h =
      let end : List (Call × Reply) = (desk.TakeBatch, desk.Batch keys) ∷ (desk.Stop fault, desk.Done) ∷ [] in
      let went = goes_on d (desk_calls (FetchFails look reads keys fault)) new
      (look_gets_none look (rest_calls reads ++ end) (batches_get_none reads end (one_gets_none (desk.TakeBatch, desk.Batch keys) ((desk.Stop fault, desk.Done) ∷ []) tt (one_gets_none (desk.Stop fault, desk.Done) [] tt (All-nil NotGet))))) run h in
      let (a, looks, rest) = leads_split d (look_calls look) (rest_calls reads ++ end) new run in
      let (b, fetched, (c, may, took, (last, may_stop, halted, is))) = leads_split a (rest_calls reads) end new rest in
      record {
        shown = went.shown;
        stands = went.stands;
        roomy = subst (IsRoomy batches) (sym (is ∙ halted.state)) (stopped batches c fault);
      }

  breaks : (d : DeskState) (look : Look) (reads : List Batch) (new : DeskState) → Leads d (desk_calls (RestUnwatched look reads)) new → Stands d → Went (desk_calls (RestUnwatched look reads)) new
  breaks d look reads new run h =
      let end : List (Call × Reply) = (desk.Stop SinkFault, desk.Done) ∷ [] in
      let went = goes_on d (desk_calls (RestUnwatched look reads)) new (look_gets_none look (rest_calls reads ++ end) (batches_get_none reads end (one_gets_none (desk.Stop SinkFault, desk.Done) [] tt (All-nil NotGet)))) run h in
      let (a, looks, rest) = leads_split d (look_calls look) (rest_calls reads ++ end) new run in
      let (b, fetched, (last, may_stop, halted, is)) = leads_split a (rest_calls reads) end new rest in
      record {
        shown = went.shown;
        stands = went.stands;
        roomy = subst (IsRoomy batches) (sym (is ∙ halted.state)) (stopped batches b SinkFault);
      }

  act_goes : (beat : BeatKind) (act : Act) (d new : DeskState) → IsAllowed beat act → Leads d (desk_calls act) new → Stands d → IsRoomy batches d → Went (desk_calls act) new
  act_goes beat (Says number steps) d new allowed run h roomy = goes d steps new (own_take_none number steps allowed) run h roomy
  act_goes beat (Halts fault) d new allowed run h roomy = goes d (desk_calls (Halts fault)) new (one_takes_none (desk.IsStopped, desk.StoppedBy (Some fault)) tt) run h roomy
  act_goes beat (Rests look) d new allowed run h roomy = goes d (look_calls look) new (look_takes_none look) run h roomy
  act_goes beat (Takes look keys) d new allowed run h roomy = takes d look keys new allowed.1.0 run h roomy
  act_goes beat (Delivers batch) d new allowed run h roomy = goes d (desk_calls (Delivers batch)) new (one_takes_none (desk.Deliver batch.keys batch.values, desk.Done) tt) run h roomy
  act_goes beat (DeliverFails keys fault) d new allowed run h roomy = goes d (desk_calls (DeliverFails keys fault)) new (one_takes_none (desk.Stop fault, desk.Done) tt) run h roomy
  act_goes beat (FetchFails look reads keys fault) d new allowed run h roomy = fails d look reads keys fault new run h
  act_goes beat (RestUnwatched look reads) d new allowed run h roomy = breaks d look reads new run h
  act_goes beat (Closes look reads writes) d new allowed run h roomy = closes d look reads writes new run h
  act_goes beat (Publishes writes left one) d new allowed run h roomy = goes d (desk_calls (Publishes writes left one)) new (one_takes_none (desk.Publish (suc one.epoch) left, desk.Published one) tt) run h roomy
  act_goes beat (Refuses writes refused) d new allowed run h roomy = goes d (desk_calls (Refuses writes refused)) new (stop_takes_none refused) run h roomy
  act_goes beat Unprinted d new allowed run h roomy = goes d (desk_calls Unprinted) new (one_takes_none (desk.Stop SinkFault, desk.Done) tt) run h roomy
  act_goes beat Unwatched d new allowed run h roomy = goes d (desk_calls Unwatched) new (one_takes_none (desk.Stop SinkFault, desk.Done) tt) run h roomy

  acts_show : (beat : BeatKind) (acts : List Act) (d new : DeskState) → All (IsAllowed beat) acts → Leads d (history acts) new → Stands d → IsRoomy batches d → All Shown (records acts)
  acts_show beat [] d new allowed run h roomy = All-nil Shown
  acts_show beat (act ∷ acts) d new allowed run h roomy =
      let (mid, first, rest) = leads_split d (desk_calls act) (history acts) new run in
      let went = act_goes beat act d mid (All-head (IsAllowed beat) act acts allowed) first h roomy in
      subst (All Shown) (sym (published_append (desk_calls act) (history acts)))
      (All-append Shown (published (desk_calls act)) (records acts) went.shown (acts_show beat acts mid new (All-tail (IsAllowed beat) act acts allowed) rest went.stands went.roomy))

pub lone_uses_places : LoneUsesPlaces
lone_uses_places beat p epoch left client acts d batches may allowed run low =
    let few = may.few_left in
    acts_show p client batches (omega (arith, few, low)) beat acts (new_desk (setup_of p) epoch left (client ∷ [])) d allowed run
    (record { runs = runs_new (setup_of p) epoch left (client ∷ []); fine = good_new (UsedPlaces batches (setup_of p)) OnlyLast (setup_of p) (client ∷ []) (IsRoomy batches) (used_tale (setup_of p) client batches) epoch left })
    (record { room = λ none. record { fits = omega (arith, low) } })
