-- A run of the runners of a script serves the script.
use Rattle.std.proofs.Common.{◌≡◌, ◌∙◌, ◌⊎◌, inl, inr, ◌<◌, ◌++◌, ◌==◌, ℕ, suc, Bool, true, false, if◌then◌else◌, List, [], ◌∷◌, length, map, Option, Some, None, Result, sym, subst, refl, ap, arith}
use Rattle.std.specs.List.{All, Contains}
use Rattle.std.proofs.lemmas.Bool.Decides.{Decides-eqb}
use Rattle.std.proofs.lemmas.List.{append-nil, append_assoc}
use Rattle.std.proofs.lemmas.List.Elements.{All-head, All-tail, All-map}
use Rattle.std.proofs.lemmas.Grind.{flat_map-append}
use Rattle.ob_io.specs.Streams.{Flow}
use Rattle.ob_store.specs.Lines.{Trace}
use Rattle.ob_serial.specs.VaultKinds.{Kind}
use Rattle.ob_serial.specs.Serial.{EpochRecord, Map}
use Rattle.std.specs.Ordering.{nat_cmp}
use Rattle.ob_serial.specs.declared.records.Outcome.{Outcome}
use Rattle.ob_serial.specs.declared.records.Outcome.TheVariants.{Committed, Aborted, Unsure}
use Rattle.ob_serial.specs.declared.records.Why.TheVariants.{Conflict, Depends, ReadsFull, WritesFull, ShareReads, ShareWrites, EpochEnd, Asked, Stopped}
use Rattle.ob_serial.specs.declared.vault.EndErr.{EndErr}
use Rattle.ob_serial.specs.declared.vault.EndErr.TheVariants as refused
use Rattle.ob_desk.specs.Desk as desk
use Rattle.ob_desk.specs.Desk.{DeskState, MayOpen, Call, Reply, Run, Setup, new_desk, published, record_of}
use Rattle.ob_desk.specs.declared.calls.Look.{Look}
use Rattle.ob_desk.specs.Beats.{BeatKind}
use Rattle.ob_session.specs.Steps.{Leads}
use Rattle.ob_session.specs.Clients.{told_of, said_by, has_signed_off, was_refused}
use Rattle.ob_session.specs.Records.{txns_by, TellFirst}
use Rattle.ob_session.proofs.Runs.{calls_agree, records_tell}
use Rattle.ob_session.proofs.Saying.{said_append}
use Rattle.ob_outcomes.specs.Alone.{IsOwnOutcome}
use Rattle.ob_outcomes.proofs.Noted.{outcomes_are_shown}
use Rattle.ob_outcomes.proofs.Numbered.{records_are_numbered}
use Rattle.ob_outcomes.proofs.Callers.{only_clients_call}
use Rattle.ob_outcomes.proofs.Due.{all_signed_off}
use Rattle.ob_outcomes.proofs.Alone.{one_client}
use Rattle.ob_script.specs.Script.{ScriptTxn, Scripts, AreSound, asks_by}
use Rattle.ob_runner.specs.Meaning.{MeantFirst, MeantAll}
use Rattle.ob_runner.specs.Turns.{IsScriptTurn}
use Rattle.ob_conduct.specs.Rounds.{KeepRule, plan_rule}
use Rattle.ob_conduct.specs.declared.run_err.RunErr.{RunErr}
use Rattle.ob_conduct.specs.Acts.{Act, Says, Halts, Rests, Takes, Delivers, DeliverFails, FetchFails, RestUnwatched, Closes, Publishes, Refuses, Unprinted, Unwatched, desk_calls, stop_for, history, records}
use Rattle.ob_conduct.specs.Scenes.{scene, RunState, run_state, RunnerKind, seat_of}
use Rattle.ob_conduct.specs.Records.{IsOver, contents}
use Rattle.ob_conduct.specs.Moves.{IsSaid, IsUnended}
use Rattle.ob_conduct.specs.Conducted.{Conducted}
use Rattle.ob_conduct.proofs.Turning.{keeps_weaker}
use Rattle.ob_conduct.proofs.Behind.{tells_before}
use Rattle.ob_outcomes.specs.Served.{IsServed, script_rule, AreDue, IsPatient, IsLonely, ClientsServed, ClientsServedAll}
use Rattle.ob_outcomes.proofs.Clients.{IsRunner, NoneIs, none_is, is_among, still as runners_still, meant, clients_first, clients_all}
use Rattle.ob_outcomes.proofs.Stops.{not_refused}
use Rattle.ob_outcomes.proofs.Walk.{leads_split}
use Rattle.ob_outcomes.proofs.Later.{IsStill, AreToldOn, refused_still, anyones, told_on, served_later}
use Rattle.ob_outcomes.proofs.EndsWell.{EndsWell, AreWell}
use Rattle.ob_outcomes.proofs.AllWell.{all_well}
use Rattle.ob_outcomes.proofs.Told.{records_tell_all}

-- ---- lists

-- a client that isn't named asks for nothing
named_none : (clients : List ℕ) (txns : List ScriptTxn) (c : ℕ) → All (λ t. Contains clients t.client) txns → (Contains clients c → ⊥) → asks_by c txns ≡ []
named_none clients [] c owned other = refl
named_none clients (t ∷ txns) c owned other = by (t.client == c) refl (named_none clients txns c (All-tail (λ (t : ScriptTxn). Contains clients t.client) t txns owned) other)
  where
    by : (b : Bool) → (t.client == c) ≡ b → asks_by c txns ≡ [] → (if b then t ∷ asks_by c txns else asks_by c txns) ≡ []
    by true is rest = absurd (other (subst (Contains clients) ((Decides-eqb t.client c).0 is) (All-head (λ (t : ScriptTxn). Contains clients t.client) t txns owned)))
    by false is rest = rest

-- ---- one client

own_lonely : (o : Outcome ℕ) → IsOwnOutcome o → (o ≡ Aborted EpochEnd → ⊥) → IsLonely o
own_lonely Committed own not_ended = tt
own_lonely (Aborted (Conflict key reader)) own not_ended = absurd own
own_lonely (Aborted (Depends on)) own not_ended = absurd own
own_lonely (Aborted (ReadsFull queued left)) own not_ended = tt
own_lonely (Aborted (WritesFull keys)) own not_ended = tt
own_lonely (Aborted (ShareReads keys)) own not_ended = tt
own_lonely (Aborted (ShareWrites keys)) own not_ended = tt
own_lonely (Aborted EpochEnd) own not_ended = absurd (not_ended refl)
own_lonely (Aborted Asked) own not_ended = tt
own_lonely (Aborted (Stopped fault)) own not_ended = absurd own
own_lonely (Unsure epoch) own not_ended = absurd own

abbrev NotEndedIn : EpochRecord ℕ → Type 0
NotEndedIn r = All (λ t. t.outcome ≡ Aborted EpochEnd → ⊥) r.txns

patient_told : (beat : BeatKind) → IsPatient beat → (look : Look) (told : EpochRecord ℕ) → EndsWell beat look told → NotEndedIn told
patient_told beat patient look told well k t low e =
    let (passed, fewer) = well.due k t low e in
    let same = patient look.waiting look.live look.queued look.left passed in
    omega (arith, same, fewer)

both_lonely : (told : List (EpochRecord ℕ)) → All (λ r. All (λ t. IsOwnOutcome t.outcome) r.txns) told → All NotEndedIn told → All (λ r. All (λ t. IsLonely t.outcome) r.txns) told
both_lonely told own not_ended k r low j t lower = own_lonely _ (own k r low j t lower) (not_ended k r low j t lower)

due_of : (beat : BeatKind) (closed : Option Look) (acts : List Act) → AreWell beat closed acts → AreDue beat closed acts
due_of beat closed [] well = tt
due_of beat closed (Closes look batches writes ∷ acts) well = due_of beat (Some look) acts well
due_of beat closed (Publishes writes left told ∷ acts) (look, at, ends, well) = (look, at, ends.due, due_of beat None acts well)
due_of beat closed (Says client steps ∷ acts) well = due_of beat closed acts well
due_of beat closed (Halts fault ∷ acts) well = due_of beat closed acts well
due_of beat closed (Rests look ∷ acts) well = due_of beat closed acts well
due_of beat closed (Takes look keys ∷ acts) well = due_of beat closed acts well
due_of beat closed (Delivers batch ∷ acts) well = due_of beat closed acts well
due_of beat closed (DeliverFails keys fault ∷ acts) well = due_of beat closed acts well
due_of beat closed (FetchFails look batches keys fault ∷ acts) well = due_of beat closed acts well
due_of beat closed (RestUnwatched look batches ∷ acts) well = due_of beat closed acts well
due_of beat closed (Refuses writes refused ∷ acts) well = due_of beat closed acts well
due_of beat closed (Unprinted ∷ acts) well = due_of beat closed acts well
due_of beat closed (Unwatched ∷ acts) well = due_of beat closed acts well

-- ---- the end of an epoch that was refused

stop_said : (c : ℕ) (e : EndErr) → said_by c ((stop_for e, desk.Done) ∷ []) ≡ []
stop_said c (refused.Before fault) = refl
stop_said c (refused.Unsure fault) = refl

stop_told : (e : EndErr) → published ((stop_for e, desk.Done) ∷ []) ≡ []
stop_told (refused.Before fault) = refl
stop_told (refused.Unsure fault) = refl

in_front : (front : List Act) (writes : List (ℕ × Option (List ℕ))) (e : EndErr) (behind : List Act) → history (front ++ Refuses writes e ∷ behind) ≡ history front ++ ((stop_for e, desk.Done) ∷ [] ++ history behind)
in_front front writes e behind = flat_map-append desk_calls front (Refuses writes e ∷ behind)

-- ---- a run

-- Runners of scripts: what they were told is what their scripts mean, and their turns are their scripts' next calls.
pub record RunsScripts {U : Type 0} (kind : RunnerKind U (List ScriptTxn)) : Type 0 where
  pub means : (u : U) (said : List (Call × Reply)) → kind.fits u said → MeantFirst (kind.plan u) (told_of said) × (has_signed_off said ≡ true → was_refused said ≡ false → MeantAll (kind.plan u) (told_of said))
  pub turns : (script : List ScriptTxn) (client : ℕ) (said steps : List (Call × Reply)) → kind.turn script client said steps → IsScriptTurn script client said steps

-- the client at a seat has its transactions of the script
planned_at : {U : Type 0} (kind : RunnerKind U (List ScriptTxn)) (txns : List ScriptTxn) (us : List U) (client : ℕ) (script : List ScriptTxn) → All (λ u. kind.plan u ≡ asks_by (kind.client u) txns) us → Contains (map (seat_of kind) us) (client, script) → script ≡ asks_by client txns
planned_at kind txns us client script planned (i, lt, at) = subst (λ (s : ℕ × List ScriptTxn). s.1 ≡ asks_by s.0 txns) at (All-map (λ (s : ℕ × List ScriptTxn). s.1 ≡ asks_by s.0 txns) (seat_of kind) us planned i (client, script) lt)

keeps_script : {U : Type 0} (kind : RunnerKind U (List ScriptTxn)) (runs : RunsScripts kind) (script : Scripts) (us : List U) (acts : List Act) → All (λ u. kind.plan u ≡ asks_by (kind.client u) script.txns) us → KeepRule
    (plan_rule kind.turn (map (seat_of kind) us)) [] acts → KeepRule (script_rule script) [] acts
keeps_script kind runs script us acts planned keeps = keeps_weaker (plan_rule kind.turn (map (seat_of kind) us)) (script_rule script)
    (λ client said steps (plan, at, turn). subst (λ (own : List ScriptTxn). IsScriptTurn own client said steps) (planned_at kind script.txns us client plan planned at) (runs.turns plan client said steps turn))
    [] acts keeps

module _ {V U : Type 0} (k : Kind V) (beat : BeatKind) (kind : RunnerKind U (List ScriptTxn))
    (means : RunsScripts kind)
    (setup : Setup) (epoch left : ℕ) (script : Scripts) (sound : AreSound script) (may : MayOpen setup (suc epoch) left script.clients) where
  abbrev base : DeskState
  base = new_desk setup (suc epoch) left script.clients

  module _ (first : V) (trace : Trace) (before_runners : List U) (before : Flow) (end : RunState V U) (acts : List Act) (result : Result (Unit {0}) RunErr)
      (named : map kind.client before_runners ≡ script.clients) (planned : All (λ u. kind.plan u ≡ asks_by (kind.client u) script.txns) before_runners)
      (d : Conducted k kind beat (run_state (scene base first trace) before_runners before) end acts result) where
    abbrev new : DeskState
    new = end.scene.desk

    abbrev after_runners : List U
    after_runners = end.runners

    runners : All (IsRunner kind.client kind.fits kind.plan script.txns (history acts)) after_runners
    runners = runners_still kind.client kind.fits kind.plan script.txns (history acts) after_runners before_runners d.clients d.plans planned d.fitting

    clients_are : map kind.client after_runners ≡ script.clients
    clients_are = d.clients ∙ named

    only : (c : ℕ) → (Contains (map kind.client after_runners) c → ⊥) → said_by c (history acts) ≡ []
    only c other = only_clients_call setup (suc epoch) left script.clients (history acts) new c d.leads (subst (λ l. Contains l c → ⊥) clients_are other)

    first_served : ClientsServed script (records acts)
    first_served c = clients_first kind.client kind.fits kind.plan means.means script.txns (history acts) after_runners runners only c (records acts)
        (records_tell.first setup (suc epoch) left script.clients (history acts) new c may d.leads)

    well : AreWell beat None acts
    well = all_well setup (suc epoch) left script.clients may beat acts d.allowed new d.leads

    pub is_served : (Shape : List Act → Type 0) (IsMap : Map nat_cmp → Type 0) → Shape acts → ((m : Map nat_cmp) → IsMap m → Run m base (history acts) (contents m (records acts)) new) → IsServed Shape IsMap beat setup epoch left script (records acts)
    is_served Shape IsMap rounds fed = record {
      evidence = record {
        acts = acts;
        allowed = d.allowed;
        turns = keeps_script kind means script before_runners acts planned d.keeps;
        rounds = rounds;
        desk = new;
        leads = d.leads;
        fed = fed;
      };
      told_are = refl;
      first = first_served;
      shown = outcomes_are_shown setup (suc epoch) left script.clients (history acts) new may d.leads;
      due = due_of beat None acts well;
      numbered = records_are_numbered setup (suc epoch) left script.clients (history acts) new may d.leads;
      some = records_tell_all beat (λ (r : EpochRecord ℕ). 0 < length r.txns) (λ look told w. w.some) None base acts new d.allowed well d.leads;
      alone = λ c one patient. both_lonely (records acts)
          (one_client setup (suc epoch) left c (history acts) new (subst (MayOpen setup (suc epoch) left) one may)
          (subst (λ l. Leads (new_desk setup (suc epoch) left l) (history acts) new) one d.leads))
          (records_tell_all beat NotEndedIn (patient_told beat patient) None base acts new d.allowed well d.leads);
    }

    -- the acts are those of the run
    pub its_acts : (Shape : List Act → Type 0) (IsMap : Map nat_cmp → Type 0) (rounds : Shape acts) (fed : (m : Map nat_cmp) → IsMap m → Run m base (history acts) (contents m (records acts)) new) → (is_served Shape IsMap rounds fed).evidence.acts ≡ acts
    unfolding is_served
    its_acts Shape IsMap rounds fed = refl

    -- and the desk is the run's
    pub its_desk : (Shape : List Act → Type 0) (IsMap : Map nat_cmp → Type 0) (rounds : Shape acts) (fed : (m : Map nat_cmp) → IsMap m → Run m base (history acts) (contents m (records acts)) new) → (is_served Shape IsMap rounds fed).evidence.desk ≡ new
    unfolding is_served
    its_desk Shape IsMap rounds fed = refl

    -- where each client has signed off, all of it
    pub all_served : IsOver new → ClientsServedAll script (records acts)
    all_served over c = clients_all kind.client kind.fits kind.plan means.means script.txns (history acts) after_runners runners only signed_off
        (λ n. not_refused n base (history acts) new d.leads over.at_rest.not_stopped)
        (λ n other. named_none script.clients script.txns n sound.owned (subst (λ l. Contains l n → ⊥) clients_are other))
        c (records acts)
        (records_tell.all setup (suc epoch) left script.clients (history acts) new c may d.leads over.at_rest)
      where
        signed_off : (n : ℕ) → Contains (map kind.client after_runners) n → has_signed_off (said_by n (history acts)) ≡ true
        signed_off n among =
            let a = calls_agree setup (suc epoch) left script.clients (history acts) new n may d.leads (subst (λ l. Contains l n) clients_are among) in
            sym a.signed_off ∙ all_signed_off new.clients n a.client over.signed_off a.found

    -- where an epoch's end was refused, or left in doubt, also with the record of that epoch
    module _ (front : List Act) (writes : List (ℕ × Option (List ℕ))) (refusal : EndErr) (behind : List Act) (is : acts ≡ front ++ Refuses writes refusal ∷ behind) (says : All IsSaid behind) (r : IsUnended k (scene base first trace) front writes refusal) where
      abbrev halt : List (Call × Reply)
      halt = (stop_for refusal, desk.Done) ∷ []

      history_is : history acts ≡ history front ++ (halt ++ history behind)
      history_is = ap history is ∙ in_front front writes refusal behind

      -- what it was told before the end was refused
      said_same : (c : ℕ) → said_by c (history front ++ halt) ≡ said_by c (history front)
      said_same c = said_append c (history front) halt ∙ ap (λ l. said_by c (history front) ++ l) (stop_said c refusal) ∙ append-nil (said_by c (history front))

      told_same : records acts ≡ records front
      told_same = tells_before acts front (Refuses writes refusal) behind is says base new d.leads ∙ (ap (λ l. records front ++ l) (stop_told refusal) ∙ append-nil (records front))

      still : (c : ℕ) → Contains script.clients c → AreToldOn (told_of (said_by c (history front))) (told_of (said_by c (history acts)))
      still c among =
          let (halted, led, after) = leads_split base (history front ++ halt) (history behind) new (subst (λ l. Leads base l new) (history_is ∙ sym (append_assoc (history front) halt (history behind))) d.leads) in
          let (closed, before, (mid, may_call, made, is_mid)) = leads_split base (history front) halt halted led in
          subst (λ l. AreToldOn (told_of l) (told_of (said_by c (history acts)))) (said_same c)
          (subst (λ l. AreToldOn (told_of (said_by c (history front ++ halt))) (told_of (said_by c l))) (append_assoc (history front) halt (history behind) ∙ sym history_is)
          (told_on setup (suc epoch) left script.clients may c among (history front ++ halt) (history behind) halted new led after (anyones behind says) (subst IsStill (sym is_mid) (refused_still refusal closed mid made))))

      on : (c : ℕ) → AreToldOn (told_of (said_by c (history front))) (told_of (said_by c (history acts)))
      on c = by (is_among script.clients c)
        where
          by : Contains script.clients c ⊎ NoneIs c script.clients → AreToldOn (told_of (said_by c (history front))) (told_of (said_by c (history acts)))
          by (inl among) = still c among
          by (inr none) = subst (λ l. AreToldOn (told_of l) (told_of (said_by c (history acts))))
              (sym (only_clients_call setup (suc epoch) left script.clients (history front) r.mid.desk c r.moves.leads (none_is c script.clients none))) tt

      pub next_served : ClientsServed script (records acts ++ record_of r.closed ∷ [])
      next_served c = served_later c (asks_by c script.txns) (txns_by c (records acts ++ record_of r.closed ∷ [])) (told_of (said_by c (history front))) (told_of (said_by c (history acts)))
          (subst (λ l. TellFirst c (txns_by c (l ++ record_of r.closed ∷ [])) (told_of (said_by c (history front)))) (sym told_same)
          (records_tell.closed setup (suc epoch) left script.clients (history front) r.mid.desk r.closed c may r.moves.leads r.is_closed))
          (on c) (meant kind.client kind.fits kind.plan means.means script.txns (history acts) after_runners runners only c)
