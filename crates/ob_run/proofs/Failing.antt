-- A whole history whose driver failed.
use Rattle.std.proofs.Common.{◌≡◌, ◌∙◌, ◌+◌, ℕ, suc, All, List, [], ◌∷◌, ◌++◌, flat_map, length, Option, None, Some, refl, sym, ap, ap₂, subst, inl, inr, append-nil, append_assoc}
use Rattle.std.specs.Option.{option_or}
use Rattle.std.proofs.lemmas.List.Elements.{All-nil, All-cons, All-append}
use Rattle.std.proofs.lemmas.Option.{none-some}
use Rattle.ob_base.specs.declared.fault.Fault.{Fault}
use Rattle.ob_base.specs.declared.fault.Fault.TheVariants.{Memory, SinkFault}
use Rattle.ob_store.specs.Lines.{Trace}
use Rattle.ob_serial.specs.Serial.{EpochRecord}
use Rattle.ob_serial.specs.Vaults.{VaultCall, VaultAnswer, VaultCounts}
use Rattle.ob_serial.specs.VaultViews.{IsEndFault}
use Rattle.ob_serial.specs.VaultKinds.{Kind}
use Rattle.ob_serial.specs.declared.vault.EndErr.{EndErr}
use Rattle.ob_serial.specs.declared.vault.EndErr.TheVariants.{Before, Unsure}
use Rattle.ob_desk.specs.Desk as desk
use Rattle.ob_desk.specs.Desk.{DeskState, published}
use Rattle.ob_desk.specs.Beats.{BeatKind}
use Rattle.ob_session.specs.Steps.{Leads}
use Rattle.ob_turn.specs.declared.turn.Entry.{Entry}
use Rattle.ob_turn.specs.History.{LeadsByTurns}
use Rattle.ob_hall.specs.Turns.{client_numbers, IsTurn}
use Rattle.ob_hall.specs.Passes.{Steps, Hall, IsNew}
use Rattle.ob_conduct.specs.declared.run_err.RunErr.{RunErr}
use Rattle.ob_conduct.specs.declared.run_err.RunErr.TheVariants as failed
use Rattle.ob_conduct.specs.Acts.{Act, Says, Batch, Halts, Rests, Takes, Delivers, DeliverFails, FetchFails, RestUnwatched, Closes, Publishes, Refuses, Unprinted, Unwatched, history, calls, records, desk_calls, stop_for, stop_calls, fault_in, fault_of, fault_told, IsAllowed}
use Rattle.ob_conduct.specs.Scenes.{Scene, scene, AllNoted}
use Rattle.ob_conduct.specs.Records.{AreAnswered}
use Rattle.ob_conduct.specs.Rounds.{IsOneThing}
use Rattle.ob_conduct.specs.Moves.{IsSaid, MayComeBefore, IsForestalled, IsStoppedFor, IsUnended, IsReason, AreLines, Failure}
use Rattle.ob_conduct.proofs.Behind.{tells_before}
use Rattle.ob_conduct.proofs.Going.{calls_append}
use Rattle.ob_driver.specs.Turning.{IsOneTurn}
use Rattle.ob_driver.specs.Driven.{Side, Fails, IsCause}
use Rattle.ob_driver.specs.Drives.{AreThings}
use Rattle.ob_run.specs.Woven.{AreWoven, Woven}
use Rattle.ob_run.proofs.Stops.{stop_next, stop_run, stays_stopped}
use Rattle.ob_run.proofs.Cutting.{not_snoc, snoc_same, front_all, behind_all, woven_calls, all_said, LastTurn, last_turn}
use Rattle.ob_run.proofs.Forestalling.{Desks, desks, Held, held_later, said_held, all_before, IsCalm, EndsWith, calm_turn, rest_stop, IsSecond, EndsCalm, IsCarried, CarriedTurn, carried_turn, EndsCarried, StandsBefore, before_second}
use Rattle.ob_run.proofs.MapServing.{due_behind, AreEnded, ended_split}
use Rattle.ob_run.proofs.Entries.{driven_ended}
use Rattle.ob_run.proofs.Unended.{EndsClosed, closed_before, closes_turn, unended}

-- ---- the desk before an act that stands behind another

module _ (beat : BeatKind) (clients : List ℕ) (act : Act) (entries : List (Entry Steps)) (earlier front : List Act) (opened x : DeskState) (woven : AreWoven clients entries earlier front) (legal : LeadsByTurns IsTurn opened entries x) (allowed : All (IsAllowed beat) front) where
  module _ (l : LastTurn clients entries earlier front) where
    clients_behind : All IsSaid l.behind
    clients_behind = all_said beat clients l.after [] l.behind l.rest refl (behind_all (IsAllowed beat) l.these l.behind (behind_all (IsAllowed beat) l.front (l.these ++ l.behind) (subst (All (IsAllowed beat)) l.acts_are allowed)))

    -- nobody had stopped the desk when that turn ended
    still_held : (ds : Desks clients entries earlier front opened x l) → ds.y.stop ≡ None → Held act x front
    still_held ds none = subst (Held act x) (sym l.acts_are) (held_later act x l.front (l.these ++ l.behind) (held_later act x l.these l.behind (said_held act l.behind ds.y x clients_behind ds.rest none)))

  held_before : EndsCalm earlier → Held act x front
  held_before e =
      let l : LastTurn clients entries earlier front = last_turn clients entries earlier front woven (λ none. not_snoc e.init e.last (sym none ∙ e.are)) in
      let ds : Desks clients entries earlier front opened x l = desks clients entries earlier front opened x l legal in
      let calm : EndsWith IsCalm l.these = λ zs z is. subst IsCalm (sym (snoc_same (l.earlier ++ zs) e.init z e.last (append_assoc l.earlier zs (z ∷ []) ∙ (ap (λ (ys : List Act). l.earlier ++ ys) (sym is) ∙ (sym l.driven_is ∙ e.are)))).1) e.calm in
      still_held l ds (calm_turn l.these ds.x ds.y l.one calm ds.its)

-- ---- and before an act that stands behind a batch that was taken, and delivered in another turn, or behind an epoch that was closed, and published

module _ (beat : BeatKind) (clients : List ℕ) (act : Act) (entries : List (Entry Steps)) (earlier front : List Act) (opened x : DeskState) (woven : AreWoven clients entries earlier front) (legal : LeadsByTurns IsTurn opened entries x) (allowed : All (IsAllowed beat) front) (e : EndsCarried act earlier) where
  module _ (l : LastTurn clients entries earlier front) (ds : Desks clients entries earlier front opened x l) where
    -- that turn ends with what was carried
    carried_is : (zs : List Act) (z : Act) → l.these ≡ zs ++ z ∷ [] → (l.earlier ++ zs ≡ e.init ++ e.begun ∷ []) × (z ≡ e.carried)
    carried_is zs z is = snoc_same (l.earlier ++ zs) (e.init ++ e.begun ∷ []) z e.carried (append_assoc l.earlier zs (z ∷ []) ∙ (ap (λ (ys : List Act). l.earlier ++ ys) (sym is) ∙ (sym l.driven_is ∙ e.are)))

    turn_is : CarriedTurn l.these ds.x ds.y
    turn_is = carried_turn l.these ds.x ds.y l.one (λ zs z is. subst IsCarried (sym (carried_is zs z is).1) e.is_carried) ds.its

    held_alone : (z : Act) → l.these ≡ z ∷ [] → ds.y.stop ≡ ds.x.stop → Held act ds.x l.front → Held act x front
    held_alone z alone same_stop (inl none) = still_held beat clients act entries earlier front opened x woven legal allowed l ds (same_stop ∙ none)
    held_alone z alone same_stop (inr (stop, fore)) = inr (
      stays_stopped Memory ds.y (history l.behind) x ds.rest (same_stop ∙ stop),
      record {
        before = fore.before;
        client = fore.client;
        steps = fore.steps;
        behind = fore.behind ++ (l.these ++ l.behind);
        front_is = l.acts_are ∙ (ap (λ (ys : List Act). ys ++ (l.these ++ l.behind)) fore.front_is ∙ append_assoc fore.before (Says fore.client fore.steps ∷ fore.behind) (l.these ++ l.behind));
        stops = fore.stops;
        says = All-append (λ (one : Act). MayComeBefore one act) fore.behind (l.these ++ l.behind) fore.says
            (All-append (λ (one : Act). MayComeBefore one act) l.these l.behind
            (subst (All (λ (one : Act). MayComeBefore one act)) (sym alone)
            (All-cons (λ (one : Act). MayComeBefore one act) z [] (subst (λ (one : Act). MayComeBefore one act) (sym (carried_is [] z alone).1) e.may) (All-nil _)))
            (all_before act l.behind (clients_behind beat clients act entries earlier front opened x woven legal allowed l)));
      },
    )

    held_behind : CarriedTurn l.these ds.x ds.y → Held act x front
    held_behind (z, alone, same_stop) =
        held_alone z alone same_stop
        (held_before beat clients act l.before l.earlier l.front opened ds.x l.woven ds.legal (front_all (IsAllowed beat) l.front (l.these ++ l.behind) (subst (All (IsAllowed beat)) l.acts_are allowed))
        (record { init = e.init; last = e.begun; are = sym (append-nil l.earlier) ∙ (carried_is [] z alone).0; calm = e.calm }))

  held_carried : Held act x front
  held_carried =
      let l : LastTurn clients entries earlier front = last_turn clients entries earlier front woven (λ none. not_snoc (e.init ++ e.begun ∷ []) e.carried (sym none ∙ e.are)) in
      let ds : Desks clients entries earlier front opened x l = desks clients entries earlier front opened x l legal in
      held_behind l ds (turn_is l ds)

held_so : (beat : BeatKind) (clients : List ℕ) (act : Act) (entries : List (Entry Steps)) (earlier front : List Act) (opened x : DeskState) → AreWoven clients entries earlier front → LeadsByTurns IsTurn opened entries x → All (IsAllowed beat) front → StandsBefore act earlier → Held act x front
held_so beat clients act entries earlier front opened x woven legal allowed (inl calm) = held_before beat clients act entries earlier front opened x woven legal allowed calm
held_so beat clients act entries earlier front opened x woven legal allowed (inr e) = held_carried beat clients act entries earlier front opened x woven legal allowed e

before_it : (things : List (List Act)) (xs : List Act) (y : Act) → All IsOneThing things → flat_map (λ (t : List Act). t) things ≡ xs ++ y ∷ [] → IsSecond y → StandsBefore y xs
before_it [] xs y each is second = absurd (not_snoc xs y is)
before_it (thing ∷ things) xs y each is second = before_second thing things [] xs y each is second

-- ---- the act that tells of the fault

pub record Tells {V : Type 0} (k : Kind V) (old : Scene V) (d : DeskState) (after : Trace) (err : RunErr) (front these : List Act) : Type 0 where
  pub begun : List Act
  pub act : Act
  pub are : these ≡ begun ++ act ∷ []
  pub told : fault_told act ≡ Some err
  pub reason : IsReason k old (front ++ begun) act after
  pub stopped : IsStoppedFor d.stop (fault_of err) act (front ++ begun)

-- what the driver knows of it
abbrev Knows : ℕ → RunErr → Trace → Act → Type 0
Knows next err after act = (fault_told act ≡ Some err) × IsCause next act after

-- with what the desk is stopped for it
abbrev stop_of : Option RunErr → Option Fault
stop_of None = None
stop_of (Some err) = Some (fault_of err)

refused_stop : (s : Option Fault) (refused : EndErr) → stop_next s (stop_for refused) ≡ option_or s (Some (fault_in refused))
refused_stop s (Before fault) = refl
refused_stop s (Unsure fault) = refl

module _ {V : Type 0} (k : Kind V) (old : Scene V) (d x y : DeskState) (next : ℕ) (after : Trace) (err : RunErr) (front behind : List Act) (rest : Leads y (history behind) d) where
  stopped_so : (act : Act) (begun : List Act) → y.stop ≡ Some (fault_of err) → IsStoppedFor d.stop (fault_of err) act (front ++ begun)
  stopped_so act begun stop = inl (stays_stopped (fault_of err) y (history behind) d rest stop)

  second_so : (act : Act) → Held act x front → y.stop ≡ option_or x.stop (Some (fault_of err)) → IsStoppedFor d.stop (fault_of err) act (front ++ [])
  second_so act (inl none) is = stopped_so act [] (is ∙ ap (λ (s : Option Fault). option_or s (Some (fault_of err))) none)
  second_so act (inr (stop, fore)) is = inr (stays_stopped Memory y (history behind) d rest (is ∙ ap (λ (s : Option Fault). option_or s (Some (fault_of err))) stop), subst (IsForestalled act) (sym (append-nil front)) fore)

  -- it tells of no fault
  untold : (act : Act) → fault_told act ≡ None → Knows next err after act → ⊥
  untold act none know = none-some err (sym none ∙ know.0)

  tells : (these : List Act) → IsOneTurn these → EndsWith (Knows next err after) these → Leads x (history these) y → ((z : Act) → these ≡ z ∷ [] → IsSecond z → Held z x front)
      → ((asked : List (ℕ × Option (List ℕ))) (refused : EndErr) → these ≡ Refuses asked refused ∷ [] → IsEndFault next refused → IsUnended k old front asked refused)
      → Tells k old d after err front these
  tells (Halts g ∷ []) one know leads held ends = record {
    begun = [];
    act = Halts g;
    are = refl;
    told = (know [] (Halts g) refl).0;
    reason = (know [] (Halts g) refl).1;
    stopped = stopped_so (Halts g) [] (ap (λ (s : DeskState). s.stop) (leads.3 ∙ leads.2.1) ∙ (sym leads.2.0 ∙ (ap stop_of (know [] (Halts g) refl).0)));
  }
  tells (DeliverFails keys g ∷ []) one know leads held ends = record {
    begun = [];
    act = DeliverFails keys g;
    are = refl;
    told = (know [] (DeliverFails keys g) refl).0;
    reason = (know [] (DeliverFails keys g) refl).1;
    stopped = second_so (DeliverFails keys g) (held (DeliverFails keys g) refl tt) (stop_run x (history (DeliverFails keys g ∷ [])) y leads ∙ ap (λ (o : Option Fault). option_or x.stop o) (ap stop_of (know [] (DeliverFails keys g) refl).0));
  }
  tells (FetchFails look batches keys g ∷ []) one know leads held ends = record {
    begun = [];
    act = FetchFails look batches keys g;
    are = refl;
    told = (know [] (FetchFails look batches keys g) refl).0;
    reason = (know [] (FetchFails look batches keys g) refl).1;
    stopped = stopped_so (FetchFails look batches keys g) []
        (stop_run x (history (FetchFails look batches keys g ∷ [])) y leads
        ∙ (rest_stop x.stop batches ((desk.TakeBatch, desk.Batch keys) ∷ (desk.Stop g, desk.Done) ∷ []) [] ∙ (ap (λ (s : Option Fault). option_or s (Some g)) (sym leads.2.0) ∙ (ap stop_of (know [] (FetchFails look batches keys g) refl).0))));
  }
  tells (Refuses asked refused ∷ []) one know leads held ends = record {
    begun = [];
    act = Refuses asked refused;
    are = refl;
    told = (know [] (Refuses asked refused) refl).0;
    reason = subst (λ (xs : List Act). IsUnended k old xs asked refused) (sym (append-nil front)) (ends asked refused refl (know [] (Refuses asked refused) refl).1.0);
    stopped = second_so (Refuses asked refused) (held (Refuses asked refused) refl tt)
        (stop_run x (history (Refuses asked refused ∷ [])) y leads ∙ (refused_stop x.stop refused ∙ ap (λ (o : Option Fault). option_or x.stop o) (ap stop_of (know [] (Refuses asked refused) refl).0)));
  }
  tells (Unprinted ∷ []) one know leads held ends = record {
    begun = [];
    act = Unprinted;
    are = refl;
    told = (know [] Unprinted refl).0;
    reason = tt;
    stopped = second_so Unprinted (held Unprinted refl tt) (stop_run x (history (Unprinted ∷ [])) y leads ∙ ap (λ (o : Option Fault). option_or x.stop o) (ap stop_of (know [] Unprinted refl).0));
  }
  tells (Unwatched ∷ []) one know leads held ends = record {
    begun = [];
    act = Unwatched;
    are = refl;
    told = (know [] Unwatched refl).0;
    reason = (know [] Unwatched refl).1;
    stopped = second_so Unwatched (held Unwatched refl tt) (stop_run x (history (Unwatched ∷ [])) y leads ∙ ap (λ (o : Option Fault). option_or x.stop o) (ap stop_of (know [] Unwatched refl).0));
  }
  tells (RestUnwatched look batches ∷ []) one know leads held ends = record {
    begun = [];
    act = RestUnwatched look batches;
    are = refl;
    told = (know [] (RestUnwatched look batches) refl).0;
    reason = (know [] (RestUnwatched look batches) refl).1;
    stopped = stopped_so (RestUnwatched look batches) []
        (stop_run x (history (RestUnwatched look batches ∷ [])) y leads
        ∙ (rest_stop x.stop batches (stop_calls SinkFault) [] ∙ (ap (λ (s : Option Fault). option_or s (Some SinkFault)) (sym leads.2.0) ∙ ap stop_of (know [] (RestUnwatched look batches) refl).0)));
  }
  tells (Rests look ∷ []) one know leads held ends = absurd (untold (Rests look) refl (know [] (Rests look) refl))
  tells (Takes look keys ∷ []) one know leads held ends = absurd (untold (Takes look keys) refl (know [] (Takes look keys) refl))
  tells (Delivers batch ∷ []) one know leads held ends = absurd (untold (Delivers batch) refl (know [] (Delivers batch) refl))
  tells (Closes look batches writes ∷ []) one know leads held ends = absurd (untold (Closes look batches writes) refl (know [] (Closes look batches writes) refl))
  tells (Publishes ended left told ∷ []) one know leads held ends = absurd (untold (Publishes ended left told) refl (know [] (Publishes ended left told) refl))
  tells _ one know leads held ends = absurd one

-- ---- the whole

module _ {V : Type 0} (k : Kind V) (beat : BeatKind) (hall : Hall) (a b : Side V) (c : VaultCounts) (err : RunErr) (driven : List Act) (f : Fails k beat hall a c b driven err) (things : AreThings driven) (opened d : DeskState) (log : List (Entry Steps)) (fresh : IsNew opened)
    (first : opened.running.epoch ≡ suc c.epoch) (legal : LeadsByTurns IsTurn opened log d) (w : Woven k beat opened d log a.vault b.vault driven) where
  module _ (l : LastTurn (client_numbers opened) log driven w.acts) (ds : Desks (client_numbers opened) log driven w.acts opened d l) where
    said : All IsSaid l.behind
    said = all_said beat (client_numbers opened) l.after [] l.behind l.rest refl (behind_all (IsAllowed beat) l.these l.behind (behind_all (IsAllowed beat) l.front (l.these ++ l.behind) (subst (All (IsAllowed beat)) l.acts_are w.allowed)))

    last_is : (zs : List Act) (z : Act) → l.these ≡ zs ++ z ∷ [] → (l.earlier ++ zs ≡ f.front) × (z ≡ f.last)
    last_is zs z is = snoc_same (l.earlier ++ zs) f.front z f.last (append_assoc l.earlier zs (z ∷ []) ∙ (ap (λ (ys : List Act). l.earlier ++ ys) (sym is) ∙ (sym l.driven_is ∙ f.ends)))

    know : EndsWith (Knows f.next err b.trace) l.these
    know zs z is = let (front, same) = last_is zs z is in (subst (λ (y : Act). fault_told y ≡ Some err) (sym same) f.fault_is, subst (λ (y : Act). IsCause f.next y b.trace) (sym same) f.reason)

    held : (z : Act) → l.these ≡ z ∷ [] → IsSecond z → Held z ds.x l.front
    held z is second =
        held_so beat (client_numbers opened) z l.before l.earlier l.front opened ds.x l.woven ds.legal (front_all (IsAllowed beat) l.front (l.these ++ l.behind) (subst (All (IsAllowed beat)) l.acts_are w.allowed))
        (before_it things.things l.earlier z things.each (sym things.acts_are ∙ (l.driven_is ∙ ap (λ (ys : List Act). l.earlier ++ ys) is)) second)

    ends_driven : AreEnded None (l.earlier ++ l.these)
    ends_driven = subst (AreEnded None) l.driven_is (driven_ended driven things)

    -- the end of an epoch that was closed in a turn before
    ends : (asked : List (ℕ × Option (List ℕ))) (refused : EndErr) → l.these ≡ Refuses asked refused ∷ [] → IsEndFault f.next refused → IsUnended k (scene opened a.vault a.trace) l.front asked refused
    ends asked refused is is_fault =
        let (early, late) = ended_split None l.earlier l.these ends_driven in
        let due : due_behind None l.earlier ≡ Some asked = (subst (AreEnded (due_behind None l.earlier)) is late).0 in
        let e : EndsClosed l.earlier asked = closed_before l.earlier asked due in
        let some : l.earlier ≡ [] → ⊥ = λ none. not_snoc e.init (Closes e.look e.batches asked) (sym none ∙ e.are) in
        let allowed : All (IsAllowed beat) l.front = front_all (IsAllowed beat) l.front (l.these ++ l.behind) (subst (All (IsAllowed beat)) l.acts_are w.allowed) in
        let c : LastTurn (client_numbers opened) l.before l.earlier l.front = last_turn (client_numbers opened) l.before l.earlier l.front l.woven some in
        let shut : c.these ≡ Closes e.look e.batches asked ∷ [] = closes_turn c.these e.look e.batches asked c.one
        (λ zs z at. (snoc_same (c.earlier ++ zs) e.init z (Closes e.look e.batches asked) (append_assoc c.earlier zs (z ∷ []) ∙ (ap (λ (ys : List Act). c.earlier ++ ys) (sym at) ∙ (sym c.driven_is ∙ e.are)))).1) in
        let others : All IsSaid c.behind = clients_behind beat (client_numbers opened) (Refuses asked refused) l.before l.earlier l.front opened ds.x l.woven ds.legal allowed c in
        let acts_are : w.acts ≡ l.front ++ Refuses asked refused ∷ l.behind = l.acts_are ∙ ap (λ (ys : List Act). l.front ++ (ys ++ l.behind)) is in
        let told : records w.acts ≡ records l.front ++ published (desk_calls (Refuses asked refused)) = tells_before w.acts l.front (Refuses asked refused) l.behind acts_are said opened d w.leads in
        let count : length (records driven) ≡ length (records l.front) = ap length (sym w.records_are ∙ (told ∙ append-nil (records l.front))) in
        unended k opened ds.x l.before l.earlier l.front a.vault b.vault a.trace b.trace f.acts_are.notes asked refused fresh ds.legal l.woven early ds.front
        (subst (λ (ys : List Act). AllNoted k a.vault a.trace (calls ys) f.acts_are.notes b.vault b.trace) (l.driven_is ∙ ap (λ (ys : List Act). l.earlier ++ ys) is) f.acts_are.chain) (woven_calls (client_numbers opened) l.before l.earlier l.front l.woven)
        (record { first = c.front; look = e.look; batches = e.batches; behind = c.behind; front_is = c.acts_are ∙ ap (λ (ys : List Act). c.front ++ (ys ++ c.behind)) shut; said = others })
        f.next (f.told.counted ∙ ap₂ (λ (n m : ℕ). n + m) (sym first) count) is_fault

    told_by : Tells k (scene opened a.vault a.trace) d b.trace err l.front l.these
    told_by = tells k (scene opened a.vault a.trace) d ds.x ds.y f.next b.trace err l.front l.behind ds.rest l.these l.one know ds.its held ends

    asked_before : (begun : List Act) → l.earlier ++ begun ≡ f.front → calls (l.front ++ begun) ≡ calls f.front
    asked_before begun is =
        calls_append l.front begun ∙ (ap (λ (xs : List (VaultCall × VaultAnswer)). xs ++ calls begun) (woven_calls (client_numbers opened) l.before l.earlier l.front l.woven) ∙ (sym (calls_append l.earlier begun) ∙ ap calls is))

    whole : Tells k (scene opened a.vault a.trace) d b.trace err l.front l.these → Failure k (scene opened a.vault a.trace) (scene d b.vault b.trace) w.acts a.output b.output err
    whole t = record {
      front = l.front ++ t.begun;
      act = t.act;
      behind = l.behind;
      acts_are = l.acts_are
          ∙ (ap (λ (ys : List Act). l.front ++ (ys ++ l.behind)) t.are ∙ (ap (λ (ys : List Act). l.front ++ ys) (append_assoc t.begun (t.act ∷ []) l.behind) ∙ sym (append_assoc l.front t.begun (t.act ∷ l.behind))));
      says = said;
      answered = subst AreAnswered (sym (asked_before t.begun (last_is t.begun t.act t.are).0)) f.answered;
      told = t.told;
      reason = t.reason;
      cause = f.cause;
      stopped = t.stopped;
      lines = subst (λ (z : Act). AreLines z (records w.acts) a.output b.output) (sym (last_is t.begun t.act t.are).1) (subst (λ (rs : List (EpochRecord ℕ)). AreLines f.last rs a.output b.output) (sym w.records_are) f.lines);
    }

  pub failure : Failure k (scene opened a.vault a.trace) (scene d b.vault b.trace) w.acts a.output b.output err
  failure =
      let l : LastTurn (client_numbers opened) log driven w.acts = last_turn (client_numbers opened) log driven w.acts w.are (λ none. not_snoc f.front f.last (sym none ∙ f.ends)) in
      let ds : Desks (client_numbers opened) log driven w.acts opened d l = desks (client_numbers opened) log driven w.acts opened d l legal in
      whole l ds (told_by l ds)
