-- A run goes on by a round, and ends.
use Rattle.std.proofs.Common.{◌≡◌, ◌∙◌, ◌≤◌, ◌+◌, ℕ, suc, false, All, List, [], ◌∷◌, ◌++◌, length, map, filter, Option, Ok, Err, Result, refl, sym, ap, subst, inl, inr, arith, nat_cmp, decimal}
use Rattle.std.proofs.lemmas.List.{append-nil, append_assoc, length-append}
use Rattle.std.proofs.lemmas.List.Elements.{All-nil, All-cons, All-map, All-append, All-weaker, All-head, All-tail}
use Rattle.ob_base.specs.declared.fault.Fault.{Fault}
use Rattle.ob_base.specs.declared.fault.Fault.TheVariants.{Memory}
use Rattle.ob_base.specs.declared.params.Params.{Params}
use Rattle.ob_io.specs.Streams.{Flow}
use Rattle.ob_report.specs.Printed.{IsPrinted}
use Rattle.ob_report.specs.Report.{report}
use Rattle.ob_store.specs.Lines.{Trace}
use Rattle.ob_store.proofs.Showing.{shows_none}
use Rattle.ob_store.proofs.Serving.{rose_later}
use Rattle.ob_serial.specs.Serial.{Map, EpochRecord, TxnRecord, AreInOrder, OneByOne, is_committed, committed_of}
use Rattle.ob_serial.specs.Vaults.{VaultCall, VaultAnswer, VaultCounts}
use Rattle.ob_serial.specs.VaultViews.{IsEndFault}
use Rattle.ob_serial.specs.VaultKinds.{Kind, ended_of}
use Rattle.ob_serial.proofs.Runs.{goes_on}
use Rattle.ob_serial.specs.declared.vault.EndErr.{EndErr}
use Rattle.ob_shares.specs.declared.shares.Shares.{Shares}
use Rattle.ob_desk.specs.Desk.{DeskState, Setup, Call, Reply, Run, MayOpen, new_desk, published, record_of, setup_with}
use Rattle.ob_desk.specs.Replay.{map_after}
use Rattle.ob_desk.specs.Beats.{BeatKind}
use Rattle.ob_desk.proofs.Runs.{desk_is_serial, committed_append, good_run, good_new}
use Rattle.ob_desk.proofs.Sees.{replays_from_reads}
use Rattle.ob_desk.proofs.Published.{one_by_one_from}
use Rattle.ob_session.specs.Steps.{Leads}
use Rattle.ob_session.specs.Clients.{said_by}
use Rattle.ob_conduct.specs.declared.run_err.RunErr.{RunErr}
use Rattle.ob_conduct.specs.declared.run_err.RunErr.TheVariants as failed
use Rattle.ob_conduct.specs.Acts.{Act, Says, Halts, Rests, Takes, Delivers, DeliverFails, FetchFails, RestUnwatched, Closes, Publishes, Refuses, Unprinted, Unwatched, history, calls, records, fault_of, IsAllowed}
use Rattle.ob_conduct.specs.Rounds.{TurnRule, plan_rule, KeepRule, AreTurns, InRounds, InTurns}
use Rattle.ob_conduct.specs.Scenes.{Scene, scene, RunState, run_state, RunnerKind, seat_of, AllNoted}
use Rattle.ob_conduct.specs.Records.{contents, HoldsMap, AreAnswered, IsOver, IsWritten}
use Rattle.ob_conduct.specs.Ready.{IsBetweenActs, TellsEpochs, IsDueRecord}
use Rattle.ob_conduct.specs.Moves.{Moves, Acted, ActFails, IsUnended, IsReason, AreLines, IsForestalled, IsStoppedFor, Failure, IsSaid, Stepped, Heard}
use Rattle.ob_conduct.specs.Conducted.{RunEnds, Conducted, ByHand}
use Rattle.ob_conduct.proofs.Fit.{fit_new}
use Rattle.ob_conduct.proofs.Writes.{left_by}
use Rattle.ob_conduct.proofs.Moving.{later, moves_none, moves_join}
use Rattle.ob_conduct.proofs.Acting.{tells_none, tells_one, written_none, printed_whole}
use Rattle.ob_conduct.proofs.Turning.{in_rounds_none, in_turns, round_ends, keeps_append, keeps_driven}
use Rattle.ob_conduct.proofs.Stepping.{same_seats}
use Rattle.ob_session.proofs.Saying.{said_append}
use Rattle.ob_conduct.proofs.Behind.{said_run, empty_map, tells_before}
use Rattle.ob_conduct.proofs.Going.{history_append, calls_append, records_append, ended_append, answered_join, tells_join, in_order, written_then, printed_then, cut_then}

-- ---- steps of clients

said_allowed : (beat : BeatKind) (act : Act) → IsSaid act → IsAllowed beat act
said_allowed beat (Says client steps) said = said
said_allowed beat (Halts fault) said = absurd said
said_allowed beat (Rests look) said = absurd said
said_allowed beat (Takes look keys) said = absurd said
said_allowed beat (Delivers batch) said = absurd said
said_allowed beat (DeliverFails keys fault) said = absurd said
said_allowed beat (FetchFails look batches keys fault) said = absurd said
said_allowed beat (RestUnwatched look batches) said = absurd said
said_allowed beat (Closes look batches writes) said = absurd said
said_allowed beat (Publishes writes left told) said = absurd said
said_allowed beat (Refuses writes refused) said = absurd said
said_allowed beat Unprinted said = absurd said
said_allowed beat Unwatched said = absurd said

module _ {V : Type 0} (k : Kind V) where
  said_moves : (acts : List Act) (d new : DeskState) (v : V) (t : Trace) → All IsSaid acts → Leads d (history acts) new → Moves k (scene d v t) (history acts) (calls acts) (scene new v t)
  said_moves acts d new v t said leads = record {
    leads = leads;
    notes = [];
    chain = subst (λ (asked : List (VaultCall × VaultAnswer)). AllNoted k v t asked [] v t) (sym (said_run empty_map acts d new said leads).1) (refl, refl, refl);
    shown = shows_none t;
    run = λ m held. (m, (said_run m acts d new said leads).0, held);
  }

  -- acts, and then others
  acts_join : (a b c : Scene V) (acts more : List Act) → Moves k a (history acts) (calls acts) b → Moves k b (history more) (calls more) c → Moves k a (history (acts ++ more)) (calls (acts ++ more)) c
  acts_join a b c acts more so then = subst (λ (h : List (Call × Reply)). Moves k a h (calls (acts ++ more)) c) (sym (history_append acts more))
      (subst (λ (asked : List (VaultCall × VaultAnswer)). Moves k a (history acts ++ history more) asked c) (sym (calls_append acts more))
      (moves_join k a b c (history acts) (history more) (calls acts) (calls more) so then))

answered_on : (acts more : List Act) → AreAnswered (calls acts) → AreAnswered (calls more) → AreAnswered (calls (acts ++ more))
answered_on acts more so then = subst AreAnswered (sym (calls_append acts more)) (answered_join (calls acts) (calls more) so then)

tells_on : (from mid next : ℕ) (acts more : List Act) → TellsEpochs from mid (ended_of (calls acts)) (records acts) → TellsEpochs mid next (ended_of (calls more)) (records more) → TellsEpochs from next (ended_of (calls (acts ++ more))) (records (acts ++ more))
tells_on from mid next acts more so then = subst (λ (ws : List (List (ℕ × Option (List ℕ)))). TellsEpochs from next ws (records (acts ++ more))) (sym (ap ended_of (calls_append acts more) ∙ ended_append (calls acts) (calls more)))
    (subst (λ (rs : List (EpochRecord ℕ)). TellsEpochs from next (ended_of (calls acts) ++ ended_of (calls more)) rs) (sym (records_append acts more))
    (tells_join from mid next (ended_of (calls acts)) (ended_of (calls more)) (records acts) (records more) so then))

-- ---- a new desk

pub ready_new : (p : Params) (shares : Shares) (d : DeskState) (c : VaultCounts) (clients : List ℕ) → d ≡ new_desk (setup_with p shares) (suc c.epoch) c.left clients → c.spent ≡ false → IsBetweenActs p d c
ready_new p shares d c clients is serves = subst (λ (x : DeskState). IsBetweenActs p x c) (sym is) (record {
  params = refl;
  none_closed = refl;
  landed = refl;
  epoch = refl;
  left = refl;
  serves = serves;
  stop = inl refl;
  fit = fit_new p (suc c.epoch) c.left;
})

-- a new desk's shares are those that it was made with
pub own_shares : (p : Params) (shares : Shares) (epoch left : ℕ) (clients : List ℕ) (d : DeskState) → d ≡ new_desk (setup_with p shares) epoch left clients → d ≡ new_desk (setup_with p d.setup.shares) epoch left clients
own_shares p shares epoch left clients d is = is ∙ ap (λ (s : Shares). new_desk (setup_with p s) epoch left clients) (sym (ap (λ (x : DeskState). x.setup.shares) is))

-- and so it may be opened with them
pub own_opens : (p : Params) (shares : Shares) (epoch left : ℕ) (clients : List ℕ) (d : DeskState) → d ≡ new_desk (setup_with p shares) epoch left clients → MayOpen (setup_with p shares) epoch left clients
    → MayOpen (setup_with p d.setup.shares) epoch left clients
own_opens p shares epoch left clients d is opens = subst (λ (s : Shares). MayOpen (setup_with p s) epoch left clients) (sym (ap (λ (x : DeskState). x.setup.shares) is)) opens

-- ---- a run

module _ {V U Plan : Type 0} (k : Kind V) (kind : RunnerKind U Plan) (p : Params) (beat : BeatKind) (old : RunState V U) where
  abbrev numbers : List ℕ
  numbers = map kind.client old.runners

  -- what a turn of each of its clients may be
  abbrev rule : TurnRule
  rule = plan_rule kind.turn (map (seat_of kind) old.runners)

  abbrev begun : ℕ
  begun = old.scene.desk.running.epoch

  -- what was done so far, none of it refused
  pub record Going (Shape : List Act → Type 0) (now : RunState V U) (c : VaultCounts) : Type 0 where
    pub acts : List Act
    pub allowed : All (IsAllowed beat) acts
    pub shape : Shape acts
    pub moves : Moves k old.scene (history acts) (calls acts) now.scene
    pub ready : IsBetweenActs p now.scene.desk c
    pub answered : AreAnswered (calls acts)
    pub told : TellsEpochs old.scene.desk.running.epoch now.scene.desk.running.epoch (ended_of (calls acts)) (records acts)
    pub written : IsWritten (report decimal (records acts)) old.output now.output
    pub whole : now.scene.trace.broken ≡ false
    pub fitting : All (λ u. kind.fits u (said_by (kind.client u) (history acts))) now.runners
    pub keeps : KeepRule rule [] acts
    pub clients : map kind.client now.runners ≡ map kind.client old.runners
    pub bounds : map kind.bound now.runners ≡ map kind.bound old.runners
    pub plans : map kind.plan now.runners ≡ map kind.plan old.runners

  -- whole rounds
  abbrev pub Whole : RunState V U → VaultCounts → Type 0
  Whole = Going (InRounds (map kind.client old.runners))

  -- and the clients' turns of one more
  abbrev pub Turned : RunState V U → VaultCounts → Type 0
  Turned = Going (InTurns (map kind.client old.runners))

  pub going_none : (c : VaultCounts) → IsBetweenActs p old.scene.desk c → All (λ u. kind.fits u []) old.runners → old.scene.trace.broken ≡ false → Whole old c
  going_none c r fit whole = record {
    acts = [];
    allowed = All-nil _;
    shape = in_rounds_none numbers;
    moves = moves_none k old.scene;
    ready = r;
    answered = tt;
    told = tells_none begun begun refl;
    written = written_none old.output;
    whole = whole;
    fitting = fit;
    keeps = tt;
    clients = refl;
    bounds = refl;
    plans = refl;
  }

  -- the runners made their steps
  pub going_stepped : (now : RunState V U) (new : DeskState) (c : VaultCounts) (next : List U) → Whole now c → Stepped kind (map kind.client now.runners) now.scene.desk now.runners new next → IsBetweenActs p new c
      → Turned (run_state (scene new now.scene.vault now.scene.trace) next now.output) c
  going_stepped now new c next g s r = record {
    acts = g.acts ++ s.acts;
    allowed = All-append (IsAllowed beat) g.acts s.acts g.allowed (All-weaker IsSaid (IsAllowed beat) (said_allowed beat) s.acts s.says);
    shape = in_turns numbers g.acts s.acts g.shape (subst (λ ns. AreTurns ns s.acts) g.clients s.turns);
    moves = acts_join k old.scene now.scene (scene new now.scene.vault now.scene.trace) g.acts s.acts g.moves (said_moves k s.acts now.scene.desk new now.scene.vault now.scene.trace s.says s.leads);
    ready = r;
    answered = subst AreAnswered (sym same_calls) g.answered;
    told = subst (λ (ws : List (List (ℕ × Option (List ℕ)))). TellsEpochs begun new.running.epoch ws (records (g.acts ++ s.acts))) (sym (ap ended_of same_calls))
        (subst (λ (rs : List (EpochRecord ℕ)). TellsEpochs begun new.running.epoch (ended_of (calls g.acts)) rs) (sym same_records)
        (subst (λ n. TellsEpochs begun n (ended_of (calls g.acts)) (records g.acts)) (g.ready.epoch ∙ sym r.epoch) g.told));
    written = subst (λ (rs : List (EpochRecord ℕ)). IsWritten (report decimal rs) old.output now.output) (sym same_records) g.written;
    whole = g.whole;
    fitting = subst (λ (h : List (Call × Reply)). All (λ u. kind.fits u (said_by (kind.client u) h)) next) (sym (history_append g.acts s.acts)) (s.fitting (history g.acts) g.fitting);
    keeps = keeps_append rule [] g.acts s.acts g.keeps
        (subst (λ seats. KeepRule (plan_rule kind.turn seats) (history g.acts) s.acts) (same_seats kind now.runners old.runners g.clients g.plans) (s.keeps (history g.acts) g.fitting));
    clients = s.clients ∙ g.clients;
    bounds = s.bounds ∙ g.bounds;
    plans = s.plans ∙ g.plans;
  }
    where
      same_calls : calls (g.acts ++ s.acts) ≡ calls g.acts
      same_calls = calls_append g.acts s.acts ∙ ap (λ (x : List (VaultCall × VaultAnswer)). calls g.acts ++ x) (said_run empty_map s.acts now.scene.desk new s.says s.leads).1 ∙ append-nil (calls g.acts)

      same_records : records (g.acts ++ s.acts) ≡ records g.acts
      same_records = records_append g.acts s.acts ∙ ap (λ (x : List (EpochRecord ℕ)). records g.acts ++ x) (said_run empty_map s.acts now.scene.desk new s.says s.leads).2 ∙ append-nil (records g.acts)

  -- no runner names a key past the parameters'
  pub going_below : (now : RunState V U) (c : VaultCounts) → Whole now c → All (λ u. kind.bound u ≤ p.keys) old.runners → All (λ u. kind.bound u ≤ now.scene.desk.setup.params.keys) now.runners
  going_below now c g below = subst (λ (q : Params). All (λ u. kind.bound u ≤ q.keys) now.runners) (sym g.ready.params) (unmapped now.runners (subst (λ bs. All (λ b. b ≤ p.keys) bs) (sym g.bounds) (All-map (λ b. b ≤ p.keys) kind.bound old.runners below)))
    where
      unmapped : (us : List U) → All (λ b. b ≤ p.keys) (map kind.bound us) → All (λ u. kind.bound u ≤ p.keys) us
      unmapped [] all = All-nil _
      unmapped (u ∷ us) all = All-cons (λ w. kind.bound w ≤ p.keys) u us (All-head (λ b. b ≤ p.keys) (kind.bound u) (map kind.bound us) all) (unmapped us (All-tail (λ b. b ≤ p.keys) (kind.bound u) (map kind.bound us) all))

  -- what the runners need to make their next ones
  pub going_heard : (now : RunState V U) (c : VaultCounts) (setup : Setup) (epoch left : ℕ) → Whole now c → old.scene.desk ≡ new_desk setup epoch left (map kind.client old.runners) → MayOpen setup epoch left (map kind.client old.runners)
      → Heard kind.client kind.fits now.scene.desk now.runners
  going_heard now c setup epoch left g fresh opens = record {
    setup = setup;
    epoch = epoch;
    left = left;
    calls = history g.acts;
    opened = subst (MayOpen setup epoch left) (sym g.clients) opens;
    leads = subst (λ (x : DeskState). Leads x (history g.acts) now.scene.desk) (fresh ∙ ap (new_desk setup epoch left) (sym g.clients)) g.moves.leads;
    fitting = g.fitting;
  }

  -- the driver's calls are no client's
  fit_on : (acts more : List Act) (are : List U) → ((c : ℕ) → said_by c (history more) ≡ []) → All (λ u. kind.fits u (said_by (kind.client u) (history acts))) are → All (λ u. kind.fits u (said_by (kind.client u) (history (acts ++ more)))) are
  fit_on acts more are quiet all = All-weaker (λ u. kind.fits u (said_by (kind.client u) (history acts))) (λ u. kind.fits u (said_by (kind.client u) (history (acts ++ more))))
      (λ u fit. subst (kind.fits u) (sym (ap (said_by (kind.client u)) (history_append acts more) ∙ said_append (kind.client u) (history acts) (history more) ∙ ap (λ (x : List (Call × Reply)). said_by (kind.client u) (history acts) ++ x) (quiet (kind.client u))
      ∙ append-nil (said_by (kind.client u) (history acts)))) fit)
      are all

  -- the driver did something
  pub going_acted : (now : RunState V U) (new : Scene V) (c next : VaultCounts) (after : Flow) → Turned now c → Acted k p beat now.scene now.output new next after → Whole (run_state new now.runners after) next
  going_acted now new c next after g a = record {
    acts = g.acts ++ a.thing;
    allowed = All-append (IsAllowed beat) g.acts a.thing g.allowed a.allowed;
    shape = round_ends numbers g.acts a.thing g.shape a.one;
    moves = acts_join k old.scene now.scene new g.acts a.thing g.moves a.moves;
    ready = a.ready;
    answered = answered_on g.acts a.thing g.answered a.answered;
    told = tells_on begun now.scene.desk.running.epoch new.desk.running.epoch g.acts a.thing g.told a.told;
    written = subst (λ (rs : List (EpochRecord ℕ)). IsWritten (report decimal rs) old.output after) (sym (records_append g.acts a.thing)) (written_then (records g.acts) (records a.thing) old.output now.output after g.written a.written);
    whole = a.whole;
    fitting = fit_on g.acts a.thing now.runners a.quiet g.fitting;
    keeps = keeps_append rule [] g.acts a.thing g.keeps (keeps_driven rule (history g.acts) a.thing a.driven);
    clients = g.clients;
    bounds = g.bounds;
    plans = g.plans;
  }

  -- ---- a failure, behind what was done so far

  module _ (now : RunState V U) (c : VaultCounts) (g : Turned now c) where
    far : (front : List Act) → now.scene.desk.running.epoch + length (records front) ≡ begun + length (records (g.acts ++ front))
    far front =
        let counted = g.told.counted in
        let all : length (records (g.acts ++ front)) ≡ length (records g.acts) + length (records front) = ap (λ (rs : List (EpochRecord ℕ)). length rs) (records_append g.acts front) ∙ length-append (records g.acts) (records front) in
        omega (arith, counted, all)

    unended_on : (front : List Act) (writes : List (ℕ × Option (List ℕ))) (refused : EndErr) → IsUnended k now.scene front writes refused → IsUnended k old.scene (g.acts ++ front) writes refused
    unended_on front writes refused u = record {
      mid = u.mid;
      moves = acts_join k old.scene now.scene u.mid g.acts front g.moves u.moves;
      closed = u.closed;
      is_closed = u.is_closed;
      due = subst (λ n. IsDueRecord n writes (record_of u.closed)) (far front) u.due;
      is_fault = subst (λ n. IsEndFault n refused) (far front) u.is_fault;
    }

    reason_on : (after : Trace) (front : List Act) (act : Act) → IsReason k now.scene front act after → IsReason k old.scene (g.acts ++ front) act after
    reason_on after front (Halts fault) reason = reason
    reason_on after front (DeliverFails keys fault) reason = reason
    reason_on after front (FetchFails look batches keys fault) reason = reason
    reason_on after front (RestUnwatched look batches) reason = reason
    reason_on after front (Refuses writes refused) reason = unended_on front writes refused reason
    reason_on after front Unprinted reason = reason
    reason_on after front Unwatched reason = reason
    reason_on after front (Says client steps) reason = absurd reason
    reason_on after front (Rests look) reason = absurd reason
    reason_on after front (Takes look keys) reason = absurd reason
    reason_on after front (Delivers batch) reason = absurd reason
    reason_on after front (Closes look batches writes) reason = absurd reason
    reason_on after front (Publishes writes left told) reason = absurd reason

    lines_on : (after : Flow) (act : Act) (told : List (EpochRecord ℕ)) → AreLines act told now.output after → AreLines act (records g.acts ++ told) old.output after
    lines_on after Unprinted told lines = cut_then (records g.acts) told old.output now.output after g.written lines
    lines_on after Unwatched told lines = written_then (records g.acts) told old.output now.output after g.written lines
    lines_on after (Halts fault) told lines = written_then (records g.acts) told old.output now.output after g.written lines
    lines_on after (DeliverFails keys fault) told lines = written_then (records g.acts) told old.output now.output after g.written lines
    lines_on after (FetchFails look batches keys fault) told lines = written_then (records g.acts) told old.output now.output after g.written lines
    lines_on after (RestUnwatched look batches) told lines = written_then (records g.acts) told old.output now.output after g.written lines
    lines_on after (Refuses writes refused) told lines = written_then (records g.acts) told old.output now.output after g.written lines
    lines_on after (Says client steps) told lines = written_then (records g.acts) told old.output now.output after g.written lines
    lines_on after (Rests look) told lines = written_then (records g.acts) told old.output now.output after g.written lines
    lines_on after (Takes look keys) told lines = written_then (records g.acts) told old.output now.output after g.written lines
    lines_on after (Delivers batch) told lines = written_then (records g.acts) told old.output now.output after g.written lines
    lines_on after (Closes look batches writes) told lines = written_then (records g.acts) told old.output now.output after g.written lines
    lines_on after (Publishes writes left published) told lines = written_then (records g.acts) told old.output now.output after g.written lines

    forestalled_on : (act : Act) (front : List Act) → IsForestalled act front → IsForestalled act (g.acts ++ front)
    forestalled_on act front by = record {
      before = g.acts ++ by.before;
      client = by.client;
      steps = by.steps;
      behind = by.behind;
      front_is = ap (λ (x : List Act). g.acts ++ x) by.front_is ∙ sym (append_assoc g.acts by.before (Says by.client by.steps ∷ by.behind));
      stops = by.stops;
      says = by.says;
    }

    stopped_on : (stop : Option Fault) (fault : Fault) (act : Act) (front : List Act) → IsStoppedFor stop fault act front → IsStoppedFor stop fault act (g.acts ++ front)
    stopped_on stop fault act front (inl is) = inl is
    stopped_on stop fault act front (inr (is, by)) = inr (is, forestalled_on act front by)

    failure_on : (new : Scene V) (thing : List Act) (after : Flow) (err : RunErr) → Failure k now.scene new thing now.output after err → Failure k old.scene new (g.acts ++ thing) old.output after err
    failure_on new thing after err f = record {
      front = g.acts ++ f.front;
      act = f.act;
      behind = f.behind;
      acts_are = ap (λ (x : List Act). g.acts ++ x) f.acts_are ∙ sym (append_assoc g.acts f.front (f.act ∷ f.behind));
      says = f.says;
      answered = answered_on g.acts f.front g.answered f.answered;
      told = f.told;
      reason = reason_on new.trace f.front f.act f.reason;
      cause = λ store. rose_later (k.disk old.scene.vault).faults (k.disk now.scene.vault).faults (k.disk new.vault).faults (later k old.scene now.scene (history g.acts) (calls g.acts) g.moves) (f.cause store);
      stopped = stopped_on new.desk.stop (fault_of err) f.act f.front f.stopped;
      lines = subst (λ (rs : List (EpochRecord ℕ)). AreLines f.act rs old.output after) (sym (records_append g.acts thing)) (lines_on after f.act (records thing) f.lines);
    }

  -- ---- the end of a run

  module _ (setup : Setup) (epoch left : ℕ) (clients : List ℕ) (fresh : old.scene.desk ≡ new_desk setup epoch left clients) where
    ran : (m : Map nat_cmp) (steps : List (Call × Reply)) (last : Map nat_cmp) (d : DeskState) → Run m old.scene.desk steps last d → OneByOne nat_cmp m (committed_of (published steps)) last
    ran m steps last d run = desk_is_serial setup epoch left clients m last steps d (subst (λ (x : DeskState). Run m x steps last d) fresh run)

    -- so the last map is that behind the records
    ran_to : (m : Map nat_cmp) (steps : List (Call × Reply)) (last : Map nat_cmp) (d : DeskState) → Run m old.scene.desk steps last d → last ≡ contents m (published steps)
    ran_to m steps last d run = left_by m (committed_of (published steps)) last (ran m steps last d run)

    -- acts that are allowed and lead to the end, with what is told of them, are a run
    pub finish : (acts : List Act) (new : RunState V U) (next : ℕ) (result : Result (Unit {0}) RunErr) → All (IsAllowed beat) acts → Moves k old.scene (history acts) (calls acts) new.scene
        → TellsEpochs begun next (ended_of (calls acts)) (records acts) → IsPrinted old.output new.output (report decimal (records acts)) → All (λ u. kind.fits u (said_by (kind.client u) (history acts))) new.runners → KeepRule rule [] acts
        → map kind.client new.runners ≡ map kind.client old.runners → map kind.bound new.runners ≡ map kind.bound old.runners → map kind.plan new.runners ≡ map kind.plan old.runners → RunEnds k old new acts result
        → Conducted k kind beat old new acts result
    finish acts new next result allowed moves told printed fitting keeps numbered bounds plans ends = record {
      allowed = allowed;
      leads = moves.leads;
      notes = moves.notes;
      chain = moves.chain;
      shown = moves.shown;
      serial = λ m held.
          let (n, run, holds) = moves.run m held in
          let is : n ≡ contents m (records acts) = ran_to m (history acts) n new.scene.desk run in
          (subst (λ (x : Map nat_cmp). Run m old.scene.desk (history acts) x new.scene.desk) is run, subst (λ (x : Map nat_cmp). HoldsMap k new.scene.vault x) is holds);
      one_by_one = λ m held.
          let (n, run, holds) = moves.run m held in
          subst (OneByOne nat_cmp m (committed_of (records acts))) (ran_to m (history acts) n new.scene.desk run) (ran m (history acts) n new.scene.desk run);
      in_order = in_order begun next (ended_of (calls acts)) (records acts) told;
      epochs = told.numbered;
      wrote = told.written;
      printed = printed;
      fitting = fitting;
      keeps = keeps;
      clients = numbered;
      bounds = bounds;
      plans = plans;
      ends = ends;
    }

    -- nothing was done, for want of memory
    pub done_short : All (λ u. kind.fits u []) old.runners → ByHand k kind beat old old (Err (failed.Fault Memory))
    done_short fit = (
      [],
      finish [] old begun (Err (failed.Fault Memory)) (All-nil _) (moves_none k old.scene) (tells_none begun begun refl) (printed_whole [] old.output old.output (written_none old.output)) fit tt refl refl refl
          (inl (record { fault_is = refl; none = refl; silent = refl })),
      in_rounds_none numbers,
    )

    -- each client has signed off
    pub done_over : (now : RunState V U) (c : VaultCounts) (done : Unit {0}) → Whole now c → IsOver now.scene.desk → ByHand k kind beat old now (Ok done)
    done_over now c done g over = (
      g.acts,
      finish g.acts now now.scene.desk.running.epoch (Ok done) g.allowed g.moves g.told (printed_whole (report decimal (records g.acts)) old.output now.output g.written) g.fitting g.keeps g.clients g.bounds g.plans (g.answered, over, g.written, g.whole),
      g.shape,
    )

    -- something failed
    pub done_failed : (now : RunState V U) (new : Scene V) (c : VaultCounts) (after : Flow) (err : RunErr) → Turned now c → ActFails k beat now.scene now.output err new after → ByHand k kind beat old (run_state new now.runners after) (Err err)
    done_failed now new c after err g l = (
      g.acts ++ l.thing,
      finish (g.acts ++ l.thing) (run_state new now.runners after) l.next (Err err) (All-append (IsAllowed beat) g.acts l.thing g.allowed l.allowed) (acts_join k old.scene now.scene new g.acts l.thing g.moves l.moves)
          (tells_on begun now.scene.desk.running.epoch l.next g.acts l.thing g.told l.told)
          (subst (λ (rs : List (EpochRecord ℕ)). IsPrinted old.output after (report decimal rs)) (sym (records_append g.acts l.thing)) (printed_then (records g.acts) (records l.thing) old.output now.output after g.written l.printed))
          (fit_on g.acts l.thing now.runners l.quiet g.fitting) (keeps_append rule [] g.acts l.thing g.keeps (keeps_driven rule (history g.acts) l.thing l.driven)) g.clients g.bounds g.plans (inr (failure_on now c g new l.thing after err l.failure)),
      round_ends numbers g.acts l.thing g.shape l.one,
    )

    -- ---- the epoch whose end was refused, or left in doubt, behind the others

    module _ (acts : List Act) (new : RunState V U) (result : Result (Unit {0}) RunErr) (d : Conducted k kind beat old new acts result) (front : List Act) (writes : List (ℕ × Option (List ℕ))) (refused : EndErr) (behind : List Act)
        (is : acts ≡ front ++ Refuses writes refused ∷ behind) (says : All IsSaid behind) (u : IsUnended k old.scene front writes refused) where
      abbrev due : EpochRecord ℕ
      due = record_of u.closed

      pub same_records : records acts ≡ records front
      same_records = tells_before acts front (Refuses writes refused) behind is says old.scene.desk new.scene.desk d.leads ∙ append-nil (records front)

      pub due_epoch : due.epoch ≡ begun + length (records acts)
      due_epoch = u.due.epoch_is ∙ ap (λ (rs : List (EpochRecord ℕ)). begun + length rs) (sym same_records)

      -- what is told of the others
      others : TellsEpochs begun (begun + length (records acts)) (ended_of (calls acts)) (records acts)
      others = record { counted = refl; numbered = d.epochs; ordered = λ i r lt. record { tickets = d.in_order.tickets i r lt; named = d.in_order.named i r lt }; written = d.wrote }

      pub due_in_order : AreInOrder (records acts ++ due ∷ [])
      due_in_order = in_order begun (suc (begun + length (records acts))) (ended_of (calls acts) ++ writes ∷ []) (records acts ++ due ∷ [])
          (tells_join begun (begun + length (records acts)) (suc (begun + length (records acts))) (ended_of (calls acts)) (writes ∷ []) (records acts) (due ∷ []) others
          (tells_one (begun + length (records acts)) (suc (begun + length (records acts))) writes due (subst (λ (rs : List (EpochRecord ℕ)). IsDueRecord (begun + length rs) writes due) (sym same_records) u.due) refl))

      last_one : (m : Map nat_cmp) → HoldsMap k old.scene.vault m → OneByOne nat_cmp m (committed_of (records front ++ due ∷ [])) (contents m (records front ++ due ∷ []))
      last_one m held =
          let (n, run, holds) = u.moves.run m held in
          let from_new : Run m (new_desk setup epoch left clients) (history front) n u.mid.desk = subst (λ (x : DeskState). Run m x (history front) n u.mid.desk) fresh run in
          let fine = (good_run m (new_desk setup epoch left clients) (history front) n u.mid.desk from_new (good_new m setup epoch left clients)).closed u.closed u.is_closed in
          let last : Map nat_cmp = map_after n u.closed.order.works (length u.closed.order.works) in
          let it : OneByOne nat_cmp n (committed_of (due ∷ [])) last = subst (λ (ts : List (TxnRecord ℕ)). OneByOne nat_cmp n (filter (λ (t : TxnRecord ℕ). is_committed t) ts) last) (sym (append-nil due.txns))
          (one_by_one_from n u.closed.epoch 1 u.closed.order.works u.closed.holders fine.even (replays_from_reads n u.closed.order.works fine.reads)) in
          let both : OneByOne nat_cmp m (committed_of (records front ++ due ∷ [])) last = subst (λ (ts : List (TxnRecord ℕ)). OneByOne nat_cmp m ts last) (sym (committed_append (records front) (due ∷ [])))
          (goes_on nat_cmp m (committed_of (records front)) (committed_of (due ∷ [])) n last (ran m (history front) n u.mid.desk run) it) in
          subst (OneByOne nat_cmp m (committed_of (records front ++ due ∷ []))) (left_by m (committed_of (records front ++ due ∷ [])) last both) both

      -- its committed transactions too run one by one
      pub due_one_by_one : (m : Map nat_cmp) → HoldsMap k old.scene.vault m → OneByOne nat_cmp m (committed_of (records acts ++ due ∷ [])) (contents m (records acts ++ due ∷ []))
      due_one_by_one m held = subst (λ (rs : List (EpochRecord ℕ)). OneByOne nat_cmp m (committed_of (rs ++ due ∷ [])) (contents m (rs ++ due ∷ []))) (sym same_records) (last_one m held)
