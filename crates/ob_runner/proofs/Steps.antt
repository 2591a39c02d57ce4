-- Each step of a runner, by its call and the answer.
use Rattle.std.proofs.Common.{◌≡◌, ◌<◌, ◌+◌, ℕ, Bool, true, false, ◌==◌, List, [], ◌∷◌, ◌++◌, length, take, Option, Some, None, refl, sym, ap, subst, ◌∙◌, append-nil, inl, inr, arith, eq-eqb, ℤ}
use Rattle.std.specs.Prelude.{slice_get, is_some}
use Rattle.std.specs.Option.{unwrap_or}
use Rattle.std.proofs.lemmas.Bool.{false≢true}
use Rattle.std.proofs.lemmas.List.{nil_from_length}
use Rattle.std.proofs.lemmas.List.Elements.{All-cons, All-nil}
use Rattle.ob_base.specs.declared.op.Op.{Op}
use Rattle.ob_base.specs.declared.op.Op.TheVariants as op
use Rattle.ob_base.specs.declared.fault.Fault.TheVariants.{Memory}
use Rattle.ob_serial.specs.declared.records.Why.{Why}
use Rattle.ob_serial.specs.declared.records.Why.TheVariants.{Asked}
use Rattle.ob_serial.specs.declared.records.Outcome.{Outcome}
use Rattle.ob_serial.specs.declared.records.Outcome.TheVariants.{Aborted as AbortedBy}
use Rattle.ob_order.specs.Order.{write_op}
use Rattle.ob_desk.specs.Desk as desk
use Rattle.ob_desk.specs.Desk.{Call, Reply, DeskState, MayCall, DeskStep, outcome_at}
use Rattle.ob_desk.specs.Calls.{got_reply, done_reply}
use Rattle.ob_desk.specs.declared.calls.Txn.{Txn}
use Rattle.ob_desk.specs.declared.calls.Got.{Got}
use Rattle.ob_desk.specs.declared.calls.Got.TheVariants as got_as
use Rattle.ob_desk.specs.declared.calls.Done.{Done}
use Rattle.ob_desk.specs.declared.calls.Done.TheVariants as done_as
use Rattle.ob_session.specs.declared.runner.Step.{Step}
use Rattle.ob_session.specs.declared.runner.Step.TheVariants as stands
use Rattle.ob_session.specs.Steps.{IsOwn}
use Rattle.ob_session.specs.Clients.{Told, told_next, answered, over, said_by, is_of, has_signed_off, stands_behind, stands_after, IsOneCall}
use Rattle.ob_script.specs.declared.line.Ask.{Ask}
use Rattle.ob_script.specs.declared.line.Ask.TheVariants as ask
use Rattle.ob_script.specs.declared.line.Ending.TheVariants as ending
use Rattle.ob_script.specs.Script.{ScriptTxn, key_of}
use Rattle.ob_runner.specs.declared.place.Place.{Place}
use Rattle.ob_runner.specs.declared.place.Place.TheVariants as place
use Rattle.ob_runner.specs.declared.place.Read.{Read}
use Rattle.ob_runner.specs.Meaning.{sum_of, Meets, IsMeant}
use Rattle.ob_runner.specs.Places.{RunnerState, at_place, finished, after_got, after_done, stand_of, ask_with, place_behind, IsCurrent, IsReading, HasRead, IsPlacedIn, IsWithin, InTxn, IsAskAt}
use Rattle.ob_runner.specs.Places.{MeetsAsks, IsAtTxnEnd, IsToAbort, IsInScript, IsAtWork, Fits, is_over, MayStep, Halts, calls_at, takes_memory, StepsTo}
use Rattle.ob_runner.specs.Turns.{script_next}
use Rattle.ob_runner.proofs.Tellings.{last_more}
use Rattle.ob_runner.proofs.Meetings.{meets_next, meets_sum, no_sum_read}
use Rattle.ob_runner.proofs.Works.{Works, works, works_waiting, works_asked, in_script, ran, key_below, IsCommitted}
use Rattle.ob_runner.proofs.Nexts.{get_next, poll_next, write_next, commit_next, abort_next, settled_next, makes_it, makes_stop, heavy}
use Rattle.ob_runner.proofs.Moves.{Tells, goes, finishes, ended_meant}
use Rattle.ob_runner.proofs.Allowed.{IsKnownAt, known_at, may_get, may_write, may_commit, may_abort, may_poll, may_settle, get_not_asked, poll_not_asked, write_not_asked, commit_not_asked}

-- ---- one call

said_one : (client : ℕ) (step : Call × Reply) → is_of client step.0 ≡ true → said_by client (step ∷ []) ≡ step ∷ []
said_one client step h = rw h refl

own_call : (client : ℕ) (x : Txn) → x.client ≡ client → (x.client == client) ≡ true
own_call client x named = eq-eqb x.client client named

module _ (r next : RunnerState) (d new : DeskState) (stand : Step) (step : Call × Reply) where
  pub made_one : calls_at r.place ≡ 1 → ((said : List (Call × Reply)) → Fits r said → script_next r.client r.script said ≡ Some step.0) → next.client ≡ r.client → next.keys ≡ r.keys → next.script ≡ r.script → MayCall d step.0 → DeskStep d step.0 step.1 new →
      IsOwn r.client step → is_of r.client step.0 ≡ true
      → ((said : List (Call × Reply)) → Fits r said → Fits next (said ++ step ∷ [])) → stand ≡ stands_behind (Some step) → StepsTo r d stand (step ∷ []) next new
  made_one one its_next client keys script may does own of_it fits standing = record {
    one = sym one;
    turn = λ said f. makes_it (script_next r.client r.script said) step.0 step.1 (its_next said f);
    client = client;
    keys = keys;
    script = script;
    made_of = (new, may, does, refl);
    own = All-cons (IsOwn r.client) step [] own (All-nil (IsOwn r.client));
    fits = λ said f. subst (λ (m : List (Call × Reply)). Fits next (said ++ m)) (sym (said_one r.client step of_it)) (fits said f);
    standing = λ said f. subst (λ (m : List (Call × Reply)). stand ≡ stands_after (said ++ m)) (sym (said_one r.client step of_it))
        (standing ∙ ap (λ (o : Option (Call × Reply)). stands_behind o) (sym (last_more said step)));
  }

pub steps_as : (r : RunnerState) (d new : DeskState) (stand a : Step) (made m : List (Call × Reply)) (next n : RunnerState) → stand ≡ a → made ≡ m → next ≡ n → StepsTo r d a m n new → StepsTo r d stand made next new
steps_as r d new stand a made m next n s e f h = subst (λ (q : Step). StepsTo r d q made next new) (sym s)
    (subst (λ (q : List (Call × Reply)). StepsTo r d a q next new) (sym e) (subst (λ (q : RunnerState). StepsTo r d a m q new) (sym f) h))

stopped_now : (r : RunnerState) (d new : DeskState) → calls_at r.place ≡ 1 → takes_memory r.place (slice_get r.script r.at) ≡ true → ((said : List (Call × Reply)) → Fits r said → stands_after said ≡ stands.Ran) → desk.StopStep d Memory new
    → StepsTo r d stands.Ran ((desk.Stop Memory, desk.Done) ∷ []) r new
stopped_now r d new one takes standing stopped = record {
  one = sym one;
  turn = λ said f. makes_stop (script_next r.client r.script said) (heavy r said takes f);
  client = refl;
  keys = refl;
  script = refl;
  made_of = (new, tt, stopped, refl);
  own = All-cons (IsOwn r.client) (desk.Stop Memory, desk.Done) [] refl (All-nil (IsOwn r.client));
  fits = λ said f. subst (λ (s : List (Call × Reply)). Fits r s) (sym (append-nil said)) f;
  standing = λ said f. sym (ap (λ (s : List (Call × Reply)). stands_after s) (append-nil said) ∙ standing said f);
}

-- memory was wanting, and the call left all as it was
pub halts : (r : RunnerState) (d mid new : DeskState) (stand : Step) (made : List (Call × Reply)) → calls_at r.place ≡ 1 → takes_memory r.place (slice_get r.script r.at) ≡ true → ((said : List (Call × Reply)) → Fits r said → stands_after said ≡ stands.Ran) → mid ≡ d → Halts mid stand made new
    → StepsTo r d stand made r new
halts r d mid new stand made one takes standing same halt = steps_as r d new stand stands.Ran made ((desk.Stop Memory, desk.Done) ∷ []) r r halt.stand_is halt.made_is refl
    (stopped_now r d new one takes standing (subst (λ (q : DeskState). desk.StopStep q Memory new) same halt.stopped))

-- it makes one call, or none behind its sign-off
pub one_call : (p : Place) (said made : List (Call × Reply)) → length made ≡ calls_at p → has_signed_off said ≡ is_over p → IsOneCall said made
one_call place.Between said made count signed = inl count
one_call (place.Next x i) said made count signed = inl count
one_call (place.Waiting x read) said made count signed = inl count
one_call (place.Adding x key sum next) said made count signed = inl count
one_call (place.Asked x) said made count signed = inl count
one_call place.Stopped said made count signed = inl count
one_call place.Over said made count signed = inr (nil_from_length made count, signed)

one_by : (p : Place) (x : Txn) → IsAtWork x p → calls_at p ≡ 1
one_by (place.Next y i) x at = refl
one_by (place.Adding y key sum next) x at = refl
one_by place.Between x at = absurd at
one_by (place.Waiting y read) x at = absurd at
one_by (place.Asked y) x at = absurd at
one_by place.Stopped x at = absurd at
one_by place.Over x at = absurd at

pub one_as : (p q : Place) → p ≡ q → calls_at q ≡ 1 → calls_at p ≡ 1
one_as p q is one = ap (λ (o : Place). calls_at o) is ∙ one

pub halts_at_work : (r : RunnerState) (d mid new : DeskState) (stand : Step) (made : List (Call × Reply)) (x : Txn) → IsAtWork x r.place → takes_memory r.place (slice_get r.script r.at) ≡ true → mid ≡ d → Halts mid stand made new → StepsTo r d stand made r new
halts_at_work r d mid new stand made x at takes same halt = halts r d mid new stand made (one_by r.place x at) takes (λ said f. ran r said x f at) same halt

-- ---- what was answered in a transaction

pub within : (p : Place) (current : Option ScriptTxn) (s : ScriptTxn) (t u : Told) → current ≡ Some s → t ≡ u → IsPlacedIn p s u → IsWithin p current (t ∷ [])
within p current s t u is same placed = record { txn = s; one = t; txn_is = is; told_is = refl; placed = subst (λ (q : Told). IsPlacedIn p s q) (sym same) placed }

-- a call that is no begin and no sign-off tells of the last transaction alone
get_tells : (x : Txn) (key : ℕ) (reply : Reply) → Tells (desk.GetKey x key, reply)
get_tells x key reply = record { is = λ told. refl; no_sign_off = refl; no_refusal = refl }

poll_tells : (x : Txn) (reply : Reply) → Tells (desk.Poll x, reply)
poll_tells x reply = record { is = λ told. refl; no_sign_off = refl; no_refusal = refl }

write_tells : (x : Txn) (key : ℕ) (value : Option (List ℕ)) (reply : Reply) → Tells (desk.Write x key value, reply)
write_tells x key value reply = record { is = λ told. refl; no_sign_off = refl; no_refusal = refl }

commit_tells : (x : Txn) (reply : Reply) → Tells (desk.Commit x, reply)
commit_tells x reply = record { is = λ told. refl; no_sign_off = refl; no_refusal = refl }

abort_tells : (x : Txn) (reply : Reply) → Tells (desk.Abort x, reply)
abort_tells x reply = record { is = λ told. refl; no_sign_off = refl; no_refusal = refl }

settled_tells : (x : Txn) (reply : Reply) → Tells (desk.Settled x, reply)
settled_tells x reply = record { is = λ told. refl; no_sign_off = refl; no_refusal = refl }

same_why : (why w : Why ℕ) → ◌≡◌ {A = Outcome ℕ} (AbortedBy why) (AbortedBy w) → why ≡ w
same_why why w e = cc e

module _ (r : RunnerState) (said : List (Call × Reply)) (x : Txn) (waiting : Option ℕ) (P : ScriptTxn → Told → Type 0) (fits : Fits r said) (w : Works r said x waiting false P) (step : Call × Reply) (tells : Tells step) where
  -- it was aborted
  aborted_fits : (why : Why ℕ) → told_next step.0 step.1 w.t ≡ over (AbortedBy why) w.t → stands_behind (Some step) ≡ stands.Ran → (why ≡ Asked → IsToAbort w.s w.t) → Fits (finished r) (said ++ step ∷ [])
  aborted_fits why told_as standing asked = finishes r said x waiting false P fits w step tells
      (subst (λ (q : Told). IsMeant w.s q) (sym told_as) (ended_meant w.s w.t (AbortedBy why) w.front (λ e. absurd (false≢true (sym w.current.asked_is ∙ e))) (λ e. asked (same_why why Asked e))))
      (AbortedBy why, ap (λ (q : Told). q.ended) told_as) standing

  answered_current : (one : Op ℕ) → IsCurrent x None false (answered one w.t)
  answered_current one = record { txn_is = w.current.txn_is; waiting_is = refl; asked_is = w.current.asked_is; not_ended = w.current.not_ended }

  -- its get was answered with a value
  value_fits : (key next : ℕ) (amount : Option ℤ) (value : Option (List ℕ)) (i : ℕ) → told_next step.0 step.1 w.t ≡ answered (op.Get key value 0) w.t → stands_behind (Some step) ≡ stands.Ran
      → Meets (take i w.s.asks) w.t.ops → slice_get w.s.asks i ≡ Some (ask_with key amount) → next ≡ i + 1 → Fits (at_place (place_behind x key next amount value) r) (said ++ step ∷ [])
  value_fits key next None value i told_as standing meets ask_is next_is = goes r said x waiting false P fits w step tells (place.Next x next)
      (within (place.Next x next) (slice_get r.script r.at) w.s (told_next step.0 step.1 w.t) (answered (op.Get key value 0) w.t) w.txn_is told_as
      (answered_current (op.Get key value 0), meets_next w.s.asks i (ask.Get key) next w.t.ops (op.Get key value 0 ∷ []) ask_is next_is (value, 0, refl) meets))
      w.named standing refl refl
  value_fits key next (Some amount) value i told_as standing meets ask_is next_is = goes r said x waiting false P fits w step tells (place.Adding x key (sum_of value amount) next)
      (within (place.Adding x key (sum_of value amount) next) (slice_get r.script r.at) w.s (told_next step.0 step.1 w.t) (answered (op.Get key value 0) w.t) w.txn_is told_as
      (answered_current (op.Get key value 0), record { index = i; amount = amount; found = value; these = w.t.ops; ask_is = ask_is; next_is = next_is; sum_is = refl; ops_are = refl; meets = meets }))
      w.named standing refl refl

  -- and it wasn't answered yet
  waits_fits : (read : Read) → told_next step.0 step.1 w.t ≡ record w.t { waiting = Some read.key } → stands_behind (Some step) ≡ stands.Waits
      → IsReading x waiting read w.s w.t → Fits (at_place (place.Waiting x read) r) (said ++ step ∷ [])
  waits_fits read told_as standing reading = goes r said x waiting false P fits w step tells (place.Waiting x read)
      (within (place.Waiting x read) (slice_get r.script r.at) w.s (told_next step.0 step.1 w.t) (record w.t { waiting = Some read.key }) w.txn_is told_as
      (record {
        index = reading.index;
        current = record { txn_is = w.current.txn_is; waiting_is = refl; asked_is = w.current.asked_is; not_ended = w.current.not_ended };
        meets = reading.meets;
        ask_is = reading.ask_is;
        next_is = reading.next_is;
      }))
      w.named standing refl refl

  -- its write was done
  done_fits : (one : Op ℕ) (next : ℕ) → told_next step.0 step.1 w.t ≡ answered one w.t → stands_behind (Some step) ≡ stands.Ran → MeetsAsks one next w.s w.t → Fits (at_place (place.Next x next) r) (said ++ step ∷ [])
  done_fits one next told_as standing meets = goes r said x waiting false P fits w step tells (place.Next x next)
      (within (place.Next x next) (slice_get r.script r.at) w.s (told_next step.0 step.1 w.t) (answered one w.t) w.txn_is told_as (answered_current one, meets))
      w.named standing refl refl

-- ---- the steps

module _ (r : RunnerState) (d new : DeskState) (x : Txn) (may : MayStep r d) where
  known : {waiting : Option ℕ} {asked : Bool} {P : ScriptTxn → Told → Type 0} → Works r may.said x waiting asked P → IsKnownAt d x waiting asked
  known {waiting} {asked} w = known_at r d may.said x waiting asked may.agrees w

  -- a get
  read_below : {waiting : Option ℕ} (read : Read) → Works r may.said x waiting false (IsReading x waiting read) → read.key < d.setup.params.keys
  read_below read w = omega (arith, may.bound, with_key read.key read.amount w.holds.ask_is)
    where
      with_key : (key : ℕ) (amount : Option ℤ) → slice_get w.s.asks w.holds.index ≡ Some (ask_with key amount) → key < r.keys
      with_key key None is = key_below r.keys r.script r.at w.s w.holds.index (ask.Get key) may.fits.below w.txn_is is
      with_key key (Some amount) is = key_below r.keys r.script r.at w.s w.holds.index (ask.Add key amount) may.fits.below w.txn_is is

  module _ (read : Read) (at : IsAtWork x r.place) (reading : InTxn r (IsReading x None read)) where
    get_works : (said : List (Call × Reply)) → Fits r said → Works r said x None false (IsReading x None read)
    get_works said fits = works r said x (IsReading x None read) fits at reading

    pub may_get_it : MayCall d (desk.GetKey x read.key)
    may_get_it = let w = get_works may.said may.fits in may_get d x read.key (known w) (read_below read w)

    pub get_in : IsInScript r
    get_in = in_script r may.said (get_works may.said may.fits)

    got_get : (reply : Got) → DeskStep d (desk.GetKey x read.key) (got_reply reply) new → StepsTo r d (stand_of (got_reply reply)) ((desk.GetKey x read.key, got_reply reply) ∷ []) (after_got x read (got_reply reply) r) new
    got_get (got_as.Value value) does = let w = get_works may.said may.fits in
        made_one r (at_place (place_behind x read.key read.next read.amount value) r) d new stands.Ran (desk.GetKey x read.key, desk.Value value) (one_by r.place x at) (λ said f. get_next x read (get_works said f)) refl refl refl may_get_it does w.named (own_call r.client x w.named)
        (λ said fits. let u = get_works said fits in value_fits r said x None (IsReading x None read) fits u (desk.GetKey x read.key, desk.Value value) (get_tells x read.key (desk.Value value)) read.key read.next read.amount value u.holds.index refl refl u.holds.meets u.holds.ask_is u.holds.next_is)
        refl
    got_get got_as.Queued does = let w = get_works may.said may.fits in
        made_one r (at_place (place.Waiting x read) r) d new stands.Waits (desk.GetKey x read.key, desk.Waits) (one_by r.place x at) (λ said f. get_next x read (get_works said f)) refl refl refl may_get_it does w.named (own_call r.client x w.named)
        (λ said fits. let u = get_works said fits in waits_fits r said x None (IsReading x None read) fits u (desk.GetKey x read.key, desk.Waits) (get_tells x read.key desk.Waits) read refl refl u.holds)
        refl
    got_get (got_as.Aborted why) does = let w = get_works may.said may.fits in
        made_one r (finished r) d new stands.Ran (desk.GetKey x read.key, desk.Aborted why) (one_by r.place x at) (λ said f. get_next x read (get_works said f)) refl refl refl may_get_it does w.named (own_call r.client x w.named)
        (λ said fits. let u = get_works said fits in aborted_fits r said x None (IsReading x None read) fits u (desk.GetKey x read.key, desk.Aborted why) (get_tells x read.key (desk.Aborted why)) why refl refl
        (λ e. absurd (get_not_asked d new x read.key why (known w).known.0 does e)))
        refl

    pub get_steps : (reply : Got) (stand : Step) (made : List (Call × Reply)) (next : RunnerState) → DeskStep d (desk.GetKey x read.key) (got_reply reply) new → stand ≡ stand_of (got_reply reply)
        → made ≡ (desk.GetKey x read.key, got_reply reply) ∷ [] → next ≡ after_got x read (got_reply reply) r → StepsTo r d stand made next new
    get_steps reply stand made next does s e f = steps_as r d new stand _ made _ next _ s e f (got_get reply does)

  -- a poll
  module _ (read : Read) (at : r.place ≡ place.Waiting x read) where
    poll_works : (said : List (Call × Reply)) → Fits r said → Works r said x (Some read.key) false (IsReading x (Some read.key) read)
    poll_works said fits = works_waiting r said x read fits at

    pub may_poll_it : MayCall d (desk.Poll x)
    may_poll_it = may_poll d x read.key (known (poll_works may.said may.fits))

    pub poll_in : IsInScript r
    poll_in = in_script r may.said (poll_works may.said may.fits)

    -- the key that it waits for
    waited : {said : List (Call × Reply)} (u : Works r said x (Some read.key) false (IsReading x (Some read.key) read)) → unwrap_or u.t.waiting 0 ≡ read.key
    waited u = ap (λ (o : Option ℕ). unwrap_or o 0) u.current.waiting_is

    got_poll : (reply : Got) → DeskStep d (desk.Poll x) (got_reply reply) new → StepsTo r d (stand_of (got_reply reply)) ((desk.Poll x, got_reply reply) ∷ []) (after_got x read (got_reply reply) r) new
    got_poll (got_as.Value value) does = let w = poll_works may.said may.fits in
        made_one r (at_place (place_behind x read.key read.next read.amount value) r) d new stands.Ran (desk.Poll x, desk.Value value) (one_as r.place (place.Waiting x read) at refl) (λ said f. poll_next (poll_works said f) read.key refl refl) refl refl refl
        may_poll_it does w.named (own_call r.client x w.named)
        (λ said fits. let u = poll_works said fits in value_fits r said x (Some read.key) (IsReading x (Some read.key) read) fits u (desk.Poll x, desk.Value value) (poll_tells x (desk.Value value)) read.key read.next read.amount value u.holds.index
        (ap (λ (k : ℕ). answered (op.Get k value 0) u.t) (waited u)) refl u.holds.meets u.holds.ask_is u.holds.next_is)
        refl
    got_poll got_as.Queued does = let w = poll_works may.said may.fits in
        made_one r (at_place (place.Waiting x read) r) d new stands.Waits (desk.Poll x, desk.Waits) (one_as r.place (place.Waiting x read) at refl) (λ said f. poll_next (poll_works said f) read.key refl refl) refl refl refl may_poll_it does w.named (own_call r.client x w.named)
        (λ said fits. let u = poll_works said fits in waits_fits r said x (Some read.key) (IsReading x (Some read.key) read) fits u (desk.Poll x, desk.Waits) (poll_tells x desk.Waits) read
        (ap (λ (k : ℕ). let q : Told = record u.t { waiting = Some k } in q) (waited u)) refl u.holds)
        refl
    got_poll (got_as.Aborted why) does = let w = poll_works may.said may.fits in
        made_one r (finished r) d new stands.Ran (desk.Poll x, desk.Aborted why) (one_as r.place (place.Waiting x read) at refl) (λ said f. poll_next (poll_works said f) read.key refl refl) refl refl refl may_poll_it does w.named (own_call r.client x w.named)
        (λ said fits. let u = poll_works said fits in aborted_fits r said x (Some read.key) (IsReading x (Some read.key) read) fits u (desk.Poll x, desk.Aborted why) (poll_tells x (desk.Aborted why)) why refl refl
        (λ e. absurd (poll_not_asked d new x why (known w).known.0 does e)))
        refl

    pub poll_steps : (reply : Got) (stand : Step) (made : List (Call × Reply)) (next : RunnerState) → DeskStep d (desk.Poll x) (got_reply reply) new → stand ≡ stand_of (got_reply reply)
        → made ≡ (desk.Poll x, got_reply reply) ∷ [] → next ≡ after_got x read (got_reply reply) r → StepsTo r d stand made next new
    poll_steps reply stand made next does s e f = steps_as r d new stand _ made _ next _ s e f (got_poll reply does)

  -- a put or a delete
  module _ (key : ℕ) (value : Option (List ℕ)) (behind : ℕ) (at : IsAtWork x r.place) (below : key < r.keys) (completes : InTxn r (MeetsAsks (write_op key value) behind)) where
    write_works : (said : List (Call × Reply)) → Fits r said → Works r said x None false (MeetsAsks (write_op key value) behind)
    write_works said fits = works r said x (MeetsAsks (write_op key value) behind) fits at completes

    pub may_write_it : MayCall d (desk.Write x key value)
    may_write_it = may_write d x key value (known (write_works may.said may.fits)) (omega (arith, may.bound, below))

    pub write_in : IsInScript r
    write_in = in_script r may.said (write_works may.said may.fits)

    wrote : (reply : Done) → DeskStep d (desk.Write x key value) (done_reply reply) new → StepsTo r d stands.Ran ((desk.Write x key value, done_reply reply) ∷ []) (after_done (place.Next x behind) (done_reply reply) r) new
    wrote done_as.Yes does = let w = write_works may.said may.fits in
        made_one r (at_place (place.Next x behind) r) d new stands.Ran (desk.Write x key value, desk.Done) (one_by r.place x at) (λ said f. write_next x key value behind (write_works said f)) refl refl refl may_write_it does w.named (own_call r.client x w.named)
        (λ said fits. let u = write_works said fits in done_fits r said x None (MeetsAsks (write_op key value) behind) fits u (desk.Write x key value, desk.Done) (write_tells x key value desk.Done) (write_op key value) behind refl refl u.holds)
        refl
    wrote (done_as.Aborted why) does = let w = write_works may.said may.fits in
        made_one r (finished r) d new stands.Ran (desk.Write x key value, desk.Aborted why) (one_by r.place x at) (λ said f. write_next x key value behind (write_works said f)) refl refl refl may_write_it does w.named (own_call r.client x w.named)
        (λ said fits. let u = write_works said fits in aborted_fits r said x None (MeetsAsks (write_op key value) behind) fits u (desk.Write x key value, desk.Aborted why) (write_tells x key value (desk.Aborted why)) why refl refl
        (λ e. absurd (write_not_asked d new x key value why (known w).known.0 does e)))
        refl

    pub write_steps : (reply : Done) (made : List (Call × Reply)) (next : RunnerState) → DeskStep d (desk.Write x key value) (done_reply reply) new
        → made ≡ (desk.Write x key value, done_reply reply) ∷ [] → next ≡ after_done (place.Next x behind) (done_reply reply) r → StepsTo r d stands.Ran made next new
    write_steps reply made next does e f = steps_as r d new stands.Ran stands.Ran made _ next _ refl e f (wrote reply does)

  -- a commit
  module _ (at : IsAtWork x r.place) (end : InTxn r (IsAtTxnEnd ending.Commit)) where
    commit_works : (said : List (Call × Reply)) → Fits r said → Works r said x None false (IsAtTxnEnd ending.Commit)
    commit_works said fits = works r said x (IsAtTxnEnd ending.Commit) fits at end

    pub may_commit_it : MayCall d (desk.Commit x)
    may_commit_it = may_commit d x (known (commit_works may.said may.fits))

    pub commit_in : IsInScript r
    commit_in = in_script r may.said (commit_works may.said may.fits)

    asked_fits : (said : List (Call × Reply)) → Fits r said → Fits (at_place (place.Asked x) r) (said ++ (desk.Commit x, desk.Done) ∷ [])
    asked_fits said fits = let u = commit_works said fits in
        goes r said x None false (IsAtTxnEnd ending.Commit) fits u (desk.Commit x, desk.Done) (commit_tells x desk.Done) (place.Asked x)
        (within (place.Asked x) (slice_get r.script r.at) u.s (record u.t { asked = true }) (record u.t { asked = true }) u.txn_is refl
        (record { txn_is = u.current.txn_is; waiting_is = u.current.waiting_is; asked_is = refl; not_ended = u.current.not_ended }, u.holds.0, u.holds.1))
        u.named tt refl refl

    commits : (reply : Done) → DeskStep d (desk.Commit x) (done_reply reply) new → StepsTo r d stands.Ran ((desk.Commit x, done_reply reply) ∷ []) (after_done (place.Asked x) (done_reply reply) r) new
    commits done_as.Yes does = let w = commit_works may.said may.fits in
        made_one r (at_place (place.Asked x) r) d new stands.Ran (desk.Commit x, desk.Done) (one_by r.place x at) (λ said f. commit_next x (commit_works said f)) refl refl refl may_commit_it does w.named (own_call r.client x w.named) asked_fits refl
    commits (done_as.Aborted why) does = let w = commit_works may.said may.fits in
        made_one r (finished r) d new stands.Ran (desk.Commit x, desk.Aborted why) (one_by r.place x at) (λ said f. commit_next x (commit_works said f)) refl refl refl may_commit_it does w.named (own_call r.client x w.named)
        (λ said fits. let u = commit_works said fits in aborted_fits r said x None (IsAtTxnEnd ending.Commit) fits u (desk.Commit x, desk.Aborted why) (commit_tells x (desk.Aborted why)) why refl refl
        (λ e. absurd (commit_not_asked d new x why (known w).known.0 does e)))
        refl

    pub commit_steps : (reply : Done) (made : List (Call × Reply)) (next : RunnerState) → DeskStep d (desk.Commit x) (done_reply reply) new
        → made ≡ (desk.Commit x, done_reply reply) ∷ [] → next ≡ after_done (place.Asked x) (done_reply reply) r → StepsTo r d stands.Ran made next new
    commit_steps reply made next does e f = steps_as r d new stands.Ran stands.Ran made _ next _ refl e f (commits reply does)

  -- an abort
  module _ (at : IsAtWork x r.place) (end : InTxn r IsToAbort) where
    abort_works : (said : List (Call × Reply)) → Fits r said → Works r said x None false IsToAbort
    abort_works said fits = works r said x IsToAbort fits at end

    pub may_abort_it : MayCall d (desk.Abort x)
    may_abort_it = may_abort d x (known (abort_works may.said may.fits))

    pub abort_in : IsInScript r
    abort_in = in_script r may.said (abort_works may.said may.fits)

    pub abort_steps : (why : Why ℕ) (made : List (Call × Reply)) (next : RunnerState) → DeskStep d (desk.Abort x) (desk.Aborted why) new
        → made ≡ (desk.Abort x, desk.Aborted why) ∷ [] → next ≡ finished r → StepsTo r d stands.Ran made next new
    abort_steps why made next does e f = let w = abort_works may.said may.fits in steps_as r d new stands.Ran stands.Ran made _ next _ refl e f
        (made_one r (finished r) d new stands.Ran (desk.Abort x, desk.Aborted why) (one_by r.place x at) (λ said f. abort_next x (abort_works said f)) refl refl refl may_abort_it does w.named (own_call r.client x w.named)
        (λ said fits. let u = abort_works said fits in aborted_fits r said x None IsToAbort fits u (desk.Abort x, desk.Aborted why) (abort_tells x (desk.Aborted why)) why refl refl (λ e. u.holds))
        refl)

  -- how it ended
  module _ (at : r.place ≡ place.Asked x) where
    asked_works : (said : List (Call × Reply)) → Fits r said → Works r said x None true IsCommitted
    asked_works said fits = works_asked r said x fits at

    pub may_settle_it : MayCall d (desk.Settled x)
    may_settle_it = may_settle d x (known (asked_works may.said may.fits))

    pub settle_in : IsInScript r
    settle_in = in_script r may.said (asked_works may.said may.fits)

    waits_on : (said : List (Call × Reply)) → Fits r said → Fits r (said ++ (desk.Settled x, desk.IsSettled None) ∷ [])
    waits_on said fits = let u = asked_works said fits in
        subst (λ (p : Place). Fits (at_place p r) (said ++ (desk.Settled x, desk.IsSettled None) ∷ [])) (sym at)
        (goes r said x None true IsCommitted fits u (desk.Settled x, desk.IsSettled None) (settled_tells x (desk.IsSettled None)) (place.Asked x)
        (within (place.Asked x) (slice_get r.script r.at) u.s u.t u.t u.txn_is refl (u.current, u.holds.0, u.holds.1))
        u.named tt refl refl)

    settled_fits : (outcome : Outcome ℕ) → Some outcome ≡ outcome_at d x → (said : List (Call × Reply)) → Fits r said → Fits (finished r) (said ++ (desk.Settled x, desk.IsSettled (Some outcome)) ∷ [])
    settled_fits outcome is said fits = let u = asked_works said fits in
        finishes r said x None true IsCommitted fits u (desk.Settled x, desk.IsSettled (Some outcome)) (settled_tells x (desk.IsSettled (Some outcome)))
        (ended_meant u.s u.t outcome u.front (λ e. u.holds) (λ e. absurd ((known (asked_works may.said may.fits)).known (sym is ∙ ap (λ (o : Outcome ℕ). Some o) e))))
        (outcome, refl) refl

    pub wait_steps : (outcome : Option (Outcome ℕ)) (made : List (Call × Reply)) → DeskStep d (desk.Settled x) (desk.IsSettled outcome) new → is_some outcome ≡ false → made ≡ (desk.Settled x, desk.IsSettled outcome) ∷ [] → StepsTo r d stands.Waits made r new
    wait_steps None made does none e = let w = asked_works may.said may.fits in steps_as r d new stands.Waits stands.Waits made _ r r refl e refl
        (made_one r r d new stands.Waits (desk.Settled x, desk.IsSettled None) (one_as r.place (place.Asked x) at refl) (λ said f. settled_next (asked_works said f) refl) refl refl refl may_settle_it does w.named (own_call r.client x w.named) waits_on refl)
    wait_steps (Some outcome) made does none e = absurd (false≢true (sym none))

    pub settle_steps : (outcome : Option (Outcome ℕ)) (made : List (Call × Reply)) (next : RunnerState) → DeskStep d (desk.Settled x) (desk.IsSettled outcome) new → is_some outcome ≡ true → made ≡ (desk.Settled x, desk.IsSettled outcome) ∷ [] → next ≡ finished
        r → StepsTo r d stands.Ran made next new
    settle_steps None made next does some e f = absurd (false≢true some)
    settle_steps (Some outcome) made next does some e f = let w = asked_works may.said may.fits in steps_as r d new stands.Ran stands.Ran made _ next _ refl e f
        (made_one r (finished r) d new stands.Ran (desk.Settled x, desk.IsSettled (Some outcome)) (one_as r.place (place.Asked x) at refl) (λ said f. settled_next (asked_works said f) refl) refl refl refl may_settle_it does w.named (own_call r.client x w.named) (settled_fits outcome does.0) refl)

-- ---- what the script wants next

-- an ask's key is below the bound
pub ask_key : (r : RunnerState) (d : DeskState) (x : Txn) (a : Ask) (i next : ℕ) → MayStep r d → r.place ≡ place.Next x i → InTxn r (IsAskAt a i next) → key_of a < r.keys
ask_key r d x a i next may at asked =
    let w = works r may.said x (IsAskAt a i next) may.fits (subst (λ (p : Place). IsAtWork x p) (sym at) refl) asked in
    key_below r.keys r.script r.at w.s i a may.fits.below w.txn_is w.holds.0

-- and the call for it takes memory
pub ask_takes : (r : RunnerState) (d : DeskState) (x : Txn) (a : Ask) (i next : ℕ) → MayStep r d → r.place ≡ place.Next x i → InTxn r (IsAskAt a i next) → takes_memory r.place (slice_get r.script r.at) ≡ true
ask_takes r d x a i next may at asked =
    let w = works r may.said x (IsAskAt a i next) may.fits (subst (λ (p : Place). IsAtWork x p) (sym at) refl) asked in
    ap (λ (p : Place). takes_memory p (slice_get r.script r.at)) at ∙ ap (λ (o : Option ScriptTxn). takes_memory (place.Next x i) o) w.txn_is ∙ ap (λ (o : Option Ask). is_some o) w.holds.0

pub sum_takes : (r : RunnerState) (x : Txn) (key : ℕ) (sum : Option (List ℕ)) (new : List ℕ) (next : ℕ) → r.place ≡ place.Adding x key sum next → sum ≡ Some new → takes_memory r.place (slice_get r.script r.at) ≡ true
sum_takes r x key sum new next at is = ap (λ (p : Place). takes_memory p (slice_get r.script r.at)) at ∙ ap (λ (o : Option (List ℕ)). is_some o) is

pub put_completes : (r : RunnerState) (a : Ask) (i next key : ℕ) (value : List ℕ) → a ≡ ask.Put key value → InTxn r (IsAskAt a i next) → InTxn r (MeetsAsks (op.Put key value) next)
put_completes r a i next key value is asked s t txn_is placed = let one = asked s t txn_is placed in
    meets_next s.asks i (ask.Put key value) next t.ops (op.Put key value ∷ []) (one.0 ∙ ap (λ (b : Ask). Some b) is) one.1 refl one.2

pub del_completes : (r : RunnerState) (a : Ask) (i next key : ℕ) → a ≡ ask.Del key → InTxn r (IsAskAt a i next) → InTxn r (MeetsAsks (op.Del key) next)
del_completes r a i next key is asked s t txn_is placed = let one = asked s t txn_is placed in
    meets_next s.asks i (ask.Del key) next t.ops (op.Del key ∷ []) (one.0 ∙ ap (λ (b : Ask). Some b) is) one.1 refl one.2

adding : (r : RunnerState) (x : Txn) (key : ℕ) (sum o : Option (List ℕ)) (next : ℕ) (s : ScriptTxn) (t : Told) → r.place ≡ place.Adding x key sum next → sum ≡ o → IsPlacedIn r.place s t → HasRead s.asks key o next t.ops
adding r x key sum o next s t at is placed = subst (λ (q : Option (List ℕ)). HasRead s.asks key q next t.ops) is (subst (λ (p : Place). IsPlacedIn p s t) at placed).1

-- the put of a sum, and the abort where there is none
pub sum_completes : (r : RunnerState) (x : Txn) (key : ℕ) (sum : Option (List ℕ)) (new : List ℕ) (next : ℕ) → r.place ≡ place.Adding x key sum next → sum ≡ Some new → InTxn r (MeetsAsks (op.Put key new) next)
sum_completes r x key sum new next at is s t txn_is placed = meets_sum s.asks key new next t.ops (adding r x key sum (Some new) next s t at is placed)

pub no_sum_aborts : (r : RunnerState) (x : Txn) (key : ℕ) (sum : Option (List ℕ)) (next : ℕ) → r.place ≡ place.Adding x key sum next → sum ≡ None → InTxn r IsToAbort
no_sum_aborts r x key sum next at is s t txn_is placed = inr (no_sum_read s.asks key next t.ops (adding r x key sum None next s t at is placed))
