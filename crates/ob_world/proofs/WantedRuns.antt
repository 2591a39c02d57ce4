-- What is said of runs, without one of its premises: for each a case that keeps all the others, and of which it isn't so.
use Rattle.std.specs.Prelude.{Bool, Err, ℕ, ◌≡◌, true, false, List, [], ◌∷◌, Option, None, Some, Ok}
use Rattle.std.proofs.Common.{refl, sym, ap, subst, ◌∙◌, inl, inr, arith}
use Rattle.std.proofs.lemmas.Option.{none-some, same_Some}
use Rattle.std.specs.Ordering.{nat_cmp}
use Rattle.std.proofs.lemmas.Bool.{false≢true}
use Rattle.std.proofs.lemmas.List.Elements.{All-nil, All-cons}
use Rattle.ob_base.specs.declared.params.Params.{Params}
use Rattle.ob_io.specs.Streams.{Flow}
use Rattle.ob_store.specs.Disk.{silent}
use Rattle.ob_store.specs.Lines.{Trace}
use Rattle.ob_serial.specs.Serial.{Map}
use Rattle.ob_serial.specs.Vaults.{VaultCall, Fetch, End, VaultAnswer, Values, Ended, RefusedBy, DoubtBy, VaultState, IsAnswer, standing_now, vault_next}
use Rattle.ob_serial.specs.VaultKinds.{Kind, Called, after_calls}
use Rattle.ob_desk.specs.Desk.{Setup, DeskState, Begin, Begun, new_desk, setup_of}
use Rattle.ob_conduct.proofs.Going.{in_order}
use Rattle.ob_conduct.specs.Acts.{Act, Says, RestUnwatched, IsAllowed, calls}
use Rattle.ob_conduct.specs.declared.run_err.RunErr.TheVariants.{Unwatched}
use Rattle.ob_conduct.specs.Conducted.{Conducted}
use Rattle.ob_conduct.specs.Moves.{IsSaid}
use Rattle.ob_conduct.specs.Ready.{IsOrdered}
use Rattle.ob_conduct.specs.Scenes.{RunState, RunnerKind}
use Rattle.ob_run.specs.Threaded.{RunsBy}
use Rattle.ob_world.specs.Courses.{course_of}
use Rattle.ob_world.specs.Laws.{IsWovenWorld}
use Rattle.ob_world.specs.Weaves.{woven, reports_of}
use Rattle.ob_world.specs.Worlds.{WorldEvent, Desk, Vault, Report, Crash, Open, World, IsWorld, first_world, opened_vault}
use Rattle.ob_world.proofs.Holding.{inv_first}
use Rattle.ob_world.proofs.Keeping.{Ran, ran}
use Rattle.ob_world.proofs.Rows.{at_zero, d0, keys, setup, small, x}
use Rattle.ob_world.proofs.WantedActs.{d_stopped, eager, odd, plain, seen, stopped, stopped_allowed, stopped_leads, v0}

-- ---- from another desk, or over another vault

batches_stay : (v : VaultState) (steps : List (VaultCall × VaultAnswer)) → (after_calls v steps).batches ≡ v.batches
batches_stay v [] = refl
batches_stay v ((call, answer) ∷ steps) = batches_stay (vault_next v call answer) steps ∙ one call answer
  where
    one : (call : VaultCall) (answer : VaultAnswer) → (vault_next v call answer).batches ≡ v.batches
    one (Fetch asks) (Values out) = refl
    one (Fetch asks) Ended = refl
    one (Fetch asks) (RefusedBy fault) = refl
    one (Fetch asks) (DoubtBy fault) = refl
    one (End ws) (Values out) = refl
    one (End ws) Ended = refl
    one (End ws) (RefusedBy fault) = refl
    one (End ws) (DoubtBy fault) = refl

-- in a world the desk's batches are the vault's
same_batches : {V : Type 0} (k : Kind V) (s : Setup) (clients : List ℕ) (v : VaultState) (old new : V) (acts : List Act) (d : DeskState) → IsWovenWorld k s clients v old new acts d → v.batches ≡ d.setup.params.batches
same_batches {V} k s clients v old new acts d w =
    let first : World V = first_world s clients (standing_now v) v.left old in
    let all : Ran (course_of k) (v.content) [] [] first (woven acts (reports_of acts)) w.last = ran (course_of k) v.content [] [] first (woven acts (reports_of acts)) w.last (inv_first s clients (standing_now v) v.left old) w.leads in
    sym (ap (λ (u : VaultState). u.batches) w.vault_is ∙ batches_stay v (calls acts)) ∙ all.inv.alike ∙ ap (λ (e : DeskState). e.setup.params.batches) w.desk_is

abbrev pub nobody : RunnerKind (Unit {0}) (Unit {0})
nobody = record { client = λ u. 1; bound = λ u. 0; plan = λ u. tt; fits = λ u said. Unit {0}; turn = λ plan client said steps. Unit {0} }

abbrev pub quiet : Trace
quiet = record { written = None; broken = false; faults = 0; anchors = [] }

abbrev pub output : Flow
output = record { bytes = None; faults = 0 }

-- a run of nobody over this desk and this vault
abbrev pub idle : DeskState → VaultState → RunState VaultState (Unit {0})
idle d v = record { scene = record { desk = d; vault = v; trace = quiet }; runners = []; output = output }

-- of two batches an epoch
abbrev pub wide : Params
wide = record {
  keys = small.keys;
  levels = small.levels;
  real = small.real;
  dummies = small.dummies;
  batches = 2;
  places = small.places;
  writes = small.writes;
  evictions = small.evictions;
  room = small.room;
  in_range = record {
    some_keys = omega arith;
    few_keys = omega arith;
    some_levels = omega arith;
    few_levels = omega arith;
    some_real = omega arith;
    few_real = omega arith;
    some_dummies = omega arith;
    few_dummies = omega arith;
    some_batches = omega arith;
    few_batches = omega arith;
    some_places = omega arith;
    few_places = omega arith;
    some_writes = omega arith;
    few_writes = omega arith;
    some_evictions = omega arith;
    few_evictions = omega arith;
    some_room = omega arith;
    few_room = omega arith;
    keys_fit = omega arith;
  };
}

abbrev pub other_setup : Setup
other_setup = setup_of wide

conducted : (s : Setup) (v : VaultState) → Conducted plain nobody eager (idle (new_desk s 1 1 []) v) (idle (new_desk s 1 1 []) v) [] (Ok tt)
conducted s v = record {
  allowed = All-nil (IsAllowed eager);
  leads = refl;
  notes = [];
  chain = (refl, refl, refl);
  shown = record { anchors = refl; faults = omega arith; breaks = tt; lines = tt };
  serial = λ m h. ((refl, refl), h);
  one_by_one = λ m h. refl;
  in_order = in_order 1 1 [] [] (record { counted = refl; numbered = refl; ordered = All-nil IsOrdered; written = tt });
  epochs = refl;
  wrote = tt;
  printed = record { count = 0; within = omega arith; written = refl; whole = inl refl };
  fitting = All-nil (λ u. Unit {0});
  keeps = tt;
  clients = refl;
  bounds = refl;
  plans = refl;
  ends = (tt, record { at_rest = record { none_runs = refl; none_closed = refl; not_stopped = refl }; signed_off = refl }, record { bytes = refl; later = omega arith }, refl);
}

by_hand : (s : Setup) (v : VaultState) → RunsBy false plain nobody eager (idle (new_desk s 1 1 []) v) (idle (new_desk s 1 1 []) v) (Ok tt)
by_hand s v = ([], conducted s v, record { rounds = []; acts_are = refl; each = tt })

abbrev pub IsRunWorld : DeskState → VaultState → Type 0
IsRunWorld d v = (acts : List Act) × Conducted plain nobody eager (idle d v) (idle d v) acts (Ok tt) × IsWovenWorld plain setup [] v v v acts d

-- from a desk that isn't new for the vault
pub new_desk_is_wanted : RunsBy false plain nobody eager (idle (new_desk other_setup 1 1 []) v0) (idle (new_desk other_setup 1 1 []) v0) (Ok tt) × plain.holds v0 v0 × (v0 ≡ opened_vault 1 (standing_now v0) v0.left)
    × (IsRunWorld (new_desk other_setup 1 1 []) v0 → ⊥)
new_desk_is_wanted = (
  by_hand other_setup v0,
  refl,
  refl,
  λ run. (let e : 1 ≡ 2 = same_batches plain setup [] v0 v0 v0 run.0 (new_desk other_setup 1 1 []) run.2 in omega (arith, e)),
)

-- over a vault that isn't as an opening leaves it
abbrev pub v_other : VaultState
v_other = record v0 { batches = 2 }

pub opened_vault_is_wanted : RunsBy false plain nobody eager (idle (new_desk setup 1 1 []) v_other) (idle (new_desk setup 1 1 []) v_other) (Ok tt) × plain.holds v_other v_other × (IsRunWorld (new_desk setup 1 1 []) v_other → ⊥)
opened_vault_is_wanted = (
  by_hand setup v_other,
  refl,
  λ run. (let e : 2 ≡ 1 = same_batches plain setup [] v_other v_other v_other run.0 (new_desk setup 1 1 []) run.2 in omega (arith, e)),
)

-- ---- over a vault that doesn't hold what it is taken to hold

-- one that holds nothing, and whose only call gives a pad a value
abbrev pub astray : Kind Bool
astray = record {
  holds = λ v u. ⊥;
  sound = λ v u. Unit {0};
  stands = λ v image at. Unit {0};
  disk = λ v. silent 0;
  called = λ old call answer notes new. (call ≡ Fetch keys) × (answer ≡ Values odd) × (new ≡ true);
}

astray_called : Called astray false (Fetch keys) (Values odd) true
astray_called = record {
  notes = [];
  called = (refl, refl, refl);
  answered = λ v none. absurd none;
  holds = λ v none. none;
  sound = λ v is. tt;
  images = λ v is. record { later = λ part. omega arith; each = λ c none. absurd none; before = λ t c le left. inl left; told = λ none. absurd none };
  alike = λ image at. (λ is. is, λ is. is);
  goes = record { anchors = refl; faults = omega arith; later = λ part. omega arith; kept = λ t c le left. left; told = λ t. t; leaves = (λ t. t, λ t. t); seen = tt };
}

-- no vault answers so
no_answer : (m : Map nat_cmp) (call : VaultCall) (answer : VaultAnswer) → call ≡ Fetch keys → answer ≡ Values odd → IsAnswer m call answer → ⊥
no_answer m call answer asked_so told_so is =
    let all : IsAnswer m (Fetch keys) (Values odd) = subst (λ (a : VaultAnswer). IsAnswer m (Fetch keys) a) told_so (subst (λ (c : VaultCall). IsAnswer m c answer) asked_so is) in
    let wrong : ◌≡◌ {A = Option (Option (List ℕ))} (Some (Some (9 ∷ []))) (Some None) = all.pads 0 refl in
    none-some (9 ∷ []) (sym (same_Some (Some (9 ∷ [])) None wrong))

-- so a world over it never leaves its first vault
stays : (w : World Bool) (events : List WorldEvent) (last : World Bool) → IsWorld (course_of astray) w events last → last.past ≡ w.past
stays w [] last run = ap (λ (m : World Bool). m.past) (sym run)
stays w (Desk caller call reply ∷ events) last (mid, s, run) = stays mid events last run ∙ ap (λ (m : World Bool). m.past) s.state
stays w (Vault call answer ∷ events) last (mid, s, run) = absurd (no_answer w.vault.content call answer s.called.called.0 s.called.called.1 s.law.answered)
stays w (Report r ∷ events) last (mid, s, run) = stays mid events last run ∙ ap (λ (m : World Bool). m.past) s.state
stays w (Crash inside image ∷ events) last (mid, s, run) = stays mid events last run ∙ ap (λ (m : World Bool). m.past) s.state ∙ s.cut
stays w (Open clients ∷ events) last (mid, s, run) = absurd s.opened.1

-- A client's run over it, in which the watch breaks.
abbrev pub one : RunnerKind (Unit {0}) (Unit {0})
one = nobody

abbrev pub broken : Trace
broken = record { written = None; broken = true; faults = 1; anchors = [] }

abbrev pub begins : RunState Bool (Unit {0})
begins = record { scene = record { desk = d0; vault = false; trace = quiet }; runners = tt ∷ []; output = output }

abbrev pub stops : RunState Bool (Unit {0})
stops = record { scene = record { desk = d_stopped odd; vault = true; trace = broken }; runners = tt ∷ []; output = output }

abbrev pub front : Act
front = Says 1 ((Begin 1, Begun x) ∷ [])

abbrev pub last_act : Act
last_act = RestUnwatched seen (record { keys = keys; values = odd } ∷ [])

one_conducted : Conducted astray one eager begins stops (stopped odd) (Err Unwatched)
unfolding astray_called
one_conducted = record {
  allowed = stopped_allowed odd;
  leads = stopped_leads (Some (9 ∷ [])) None;
  notes = [];
  chain = (true, broken, record { one = astray_called; whole = refl; shown = record { anchors = refl; faults = omega arith; breaks = omega arith; lines = tt } }, [], refl, (refl, refl, refl));
  shown = record { anchors = refl; faults = omega arith; breaks = omega arith; lines = tt };
  serial = λ m h. absurd h.1;
  one_by_one = λ m h. absurd h.1;
  in_order = in_order 1 1 [] [] (record { counted = refl; numbered = refl; ordered = All-nil IsOrdered; written = tt });
  epochs = refl;
  wrote = tt;
  printed = record { count = 0; within = omega arith; written = refl; whole = inl refl };
  fitting = All-cons (λ u. Unit {0}) tt [] tt (All-nil (λ u. Unit {0}));
  keeps = ((tt, (0, omega arith, refl), tt), (tt, tt));
  clients = refl;
  bounds = refl;
  plans = refl;
  ends = inr (record {
    front = front ∷ [];
    act = last_act;
    behind = [];
    acts_are = refl;
    says = All-nil IsSaid;
    answered = tt;
    told = refl;
    reason = refl;
    cause = λ none. absurd none;
    stopped = inl refl;
    lines = record { bytes = refl; later = omega arith };
  });
}

pub holding_is_wanted_of_runs : RunsBy false astray one eager begins stops (Err Unwatched) × (v0 ≡ opened_vault 1 (standing_now v0) v0.left)
    × ((acts : List Act) × Conducted astray one eager begins stops acts (Err Unwatched) × IsWovenWorld astray setup (1 ∷ []) v0 false true acts (d_stopped odd) → ⊥)
holding_is_wanted_of_runs = (
  (stopped odd, one_conducted, record { rounds = record { turns = front ∷ []; thing = last_act ∷ [] } ∷ []; acts_are = refl; each = ((refl, tt), tt, tt) }),
  refl,
  λ run. (let w = run.2 in false≢true (sym (stays (first_world setup (1 ∷ []) at_zero 1 false) (woven run.0 (reports_of run.0)) w.last w.leads) ∙ w.past_is)),
)
