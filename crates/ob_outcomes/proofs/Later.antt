-- What a client was told of its transactions stays, once the desk is stopped.
use Rattle.std.proofs.Common.{◌≡◌, ◌∙◌, ◌⊎◌, ◌==◌, ℕ, Bool, true, false, if◌then◌else◌, List, [], ◌∷◌, ◌++◌, map, Option, Some, None, sym, refl, ap, subst, inl, inr}
use Rattle.std.specs.List.{All, Contains}
use Rattle.std.specs.Option.{option_or, option_map, unwrap_or}
use Rattle.std.proofs.lemmas.Bool.{false≢true}
use Rattle.std.proofs.lemmas.Bool.Decides.{Decides-eqb}
use Rattle.std.proofs.lemmas.Option.{none-some, same_Some}
use Rattle.std.proofs.lemmas.List.{append-nil, append_assoc}
use Rattle.std.proofs.lemmas.List.Elements.{All-head, All-tail, All-nil, All-cons, All-append, All-weaker}
use Rattle.ob_base.specs.declared.fault.Fault.{Fault}
use Rattle.ob_base.specs.declared.op.Op.{Op}
use Rattle.ob_base.specs.declared.op.Op.TheVariants.{Get}
use Rattle.ob_order.specs.Works.{goes_on}
use Rattle.ob_order.specs.Order.{write_op}
use Rattle.ob_serial.specs.Serial.{TxnRecord}
use Rattle.ob_serial.specs.declared.records.Outcome.{Outcome}
use Rattle.ob_serial.specs.declared.records.Outcome.TheVariants.{Committed, Aborted as AbortedBy, Unsure as UnsureOf}
use Rattle.ob_serial.specs.declared.records.Why.TheVariants.{Conflict, Depends, ReadsFull, WritesFull, ShareReads, ShareWrites, EpochEnd, Asked, Stopped}
use Rattle.ob_serial.specs.declared.vault.EndErr.{EndErr}
use Rattle.ob_serial.specs.declared.vault.EndErr.TheVariants as refused
use Rattle.ob_desk.specs.declared.calls.Txn.{Txn}
use Rattle.ob_desk.specs.Desk as desk
use Rattle.ob_desk.specs.Desk.{DeskState, DeskStep, Setup, MayOpen, MayCall, Call, Reply, IsLive, IsLast, new_desk, outcome_at, is_memory, stop_part, stop_closed, stopped_by}
use Rattle.ob_session.specs.Steps.{Leads, IsOwn}
use Rattle.ob_session.specs.Clients.{Told, client_of, is_of, said_by, told_of, told_after, told_next, on_last, last_of, answered, over}
use Rattle.ob_session.specs.Agreeing.{IsTxnKnown, IsLastKnown, Agrees}
use Rattle.ob_session.specs.Records.{IsToldEnd, TellFirst}
use Rattle.ob_session.proofs.Runs.{calls_agree}
use Rattle.ob_session.proofs.Saying.{said_append, told_push}
use Rattle.ob_outcomes.proofs.Held.{none_goes_on}
use Rattle.ob_script.specs.Script.{ScriptTxn}
use Rattle.ob_runner.specs.Meaning.{MeantFirst}
use Rattle.ob_conduct.specs.Acts.{Act, Says, Halts, Rests, Takes, Delivers, DeliverFails, FetchFails, RestUnwatched, Closes, Publishes, Refuses, Unprinted, Unwatched, stop_for, desk_calls, history}
use Rattle.ob_conduct.specs.Moves.{IsSaid}
use Rattle.ob_outcomes.specs.Served.{ServedFirst}
use Rattle.ob_outcomes.proofs.Meeting.{ends_as}
use Rattle.ob_outcomes.proofs.Walk.{leads_on}

-- ---- a desk that is stopped

-- no transaction goes on
pub record IsStill (d : DeskState) : Type 0 where
  pub fault : Fault
  pub stopped : d.stop ≡ Some fault
  pub none : (t : ℕ) → goes_on d.running.order.works t ≡ true → ⊥

still_same : (d new : DeskState) → new ≡ d → IsStill d → IsStill new
still_same d new same s = subst IsStill (sym same) s

not_live : (d : DeskState) → IsStill d → (x : Txn) → IsLive d x → ⊥
not_live d s x live = s.none x.ticket live.goes

first_fault : (a : Option Fault) (f : Fault) → (g : Fault) × (option_or a (Some f) ≡ Some g)
first_fault None f = (f, refl)
first_fault (Some g) f = (g, refl)

halted : (f : Fault) (d new : DeskState) → new.stop ≡ option_or d.stop (Some f) → new.running ≡ stop_part f d.running → IsStill new
halted f d new stop running = record {
  fault = (first_fault d.stop f).0;
  stopped = stop ∙ (first_fault d.stop f).1;
  none = λ t going. none_goes_on d.running.order.works t (subst (λ (p : desk.Part). goes_on p.order.works t ≡ true) running going);
}

stopped_still : (f : Fault) (d new : DeskState) → new ≡ stopped_by f d → IsStill new
stopped_still f d new is = subst IsStill (sym is) (by (is_memory f))
  where
    by : (b : Bool) → IsStill (if b then record d { stop = option_or d.stop (Some f); running = stop_part f d.running } else stop_closed f (record d { stop = option_or d.stop (Some f); running = stop_part f d.running }))
    by true = halted f d (record d { stop = option_or d.stop (Some f); running = stop_part f d.running }) refl refl
    by false = halted f d (stop_closed f (record d { stop = option_or d.stop (Some f); running = stop_part f d.running })) refl refl

-- behind an end that was refused, or left in doubt
pub refused_still : (e : EndErr) (d new : DeskState) → DeskStep d (stop_for e) desk.Done new → IsStill new
refused_still (refused.Before fault) d new step = stopped_still fault d new step.state
refused_still (refused.Unsure fault) d new step = halted fault d new (ap (λ (s : DeskState). s.stop) step.state) (ap (λ (s : DeskState). s.running) step.state)

-- a client's call leaves it so
own_still : (c : ℕ) (d : DeskState) (call : Call) (reply : Reply) (new : DeskState) → IsOwn c (call, reply) → DeskStep d call reply new → IsStill d → IsStill new
own_still c d (desk.Begin client) (desk.Begun x) new own step s = absurd (none-some s.fault (sym step.not_stopped ∙ s.stopped))
own_still c d (desk.Begin client) (desk.Refused f) new own step s = still_same d new step.same s
own_still c d (desk.GetKey x k) (desk.Value value) new own step s = absurd (not_live d s x step.live)
own_still c d (desk.GetKey x k) desk.Waits new own step s = absurd (not_live d s x step.live)
own_still c d (desk.GetKey x k) (desk.Aborted why) new own (inl step) s = still_same d new step.same s
own_still c d (desk.GetKey x k) (desk.Aborted why) new own (inr (inl step)) s = absurd (not_live d s x step.live)
own_still c d (desk.GetKey x k) (desk.Aborted why) new own (inr (inr step)) s = absurd (not_live d s x step.live)
own_still c d (desk.Poll x) (desk.Value value) new own step s = absurd (not_live d s x step.live)
own_still c d (desk.Poll x) desk.Waits new own step s = still_same d new step.same s
own_still c d (desk.Poll x) (desk.Aborted why) new own step s = still_same d new step.same s
own_still c d (desk.Write x k value) desk.Done new own step s = absurd (not_live d s x step.live)
own_still c d (desk.Write x k value) (desk.Aborted why) new own (inl step) s = still_same d new step.same s
own_still c d (desk.Write x k value) (desk.Aborted why) new own (inr (inl step)) s = absurd (not_live d s x step.live)
own_still c d (desk.Write x k value) (desk.Aborted why) new own (inr (inr step)) s = absurd (not_live d s x step.live)
own_still c d (desk.Commit x) desk.Done new own step s = absurd (not_live d s x step.live)
own_still c d (desk.Commit x) (desk.Aborted why) new own step s = still_same d new step.same s
own_still c d (desk.Abort x) (desk.Aborted why) new own (inl step) s = still_same d new step.same s
own_still c d (desk.Abort x) (desk.Aborted why) new own (inr step) s = absurd (not_live d s x step.live)
own_still c d (desk.Settled x) (desk.IsSettled outcome) new own step s = still_same d new step.1 s
own_still c d (desk.SignOff client) desk.Done new own step s = subst IsStill (sym step.state) (record { fault = s.fault; stopped = s.stopped; none = s.none })
own_still c d (desk.Stop f) desk.Done new own step s = stopped_still f d new step.state
own_still c d desk.IsStopped reply new own step s = absurd own
own_still c d desk.Looks reply new own step s = absurd own
own_still c d (desk.Unsure f) reply new own step s = absurd own
own_still c d desk.TakeBatch reply new own step s = absurd own
own_still c d (desk.Deliver keys values) reply new own step s = absurd own
own_still c d desk.Close reply new own step s = absurd own
own_still c d (desk.Publish epoch left) reply new own step s = absurd own
own_still c d _ _ new own step s = absurd step

-- ---- what was told of a transaction

-- It is told of later with the same operations; it had asked to commit still; and where it was told to be over it is so still.
pub record IsToldOn (one more : Told) : Type 0 where
  pub ops : more.ops ≡ one.ops
  pub asked : one.asked ≡ true → more.asked ≡ true
  pub ended : (o : Outcome ℕ) → one.ended ≡ Some o → more.ended ≡ Some o

abbrev pub AreToldOn : List Told → List Told → Type 0
AreToldOn [] more = Unit {0}
AreToldOn (one ∷ told) [] = ⊥
AreToldOn (one ∷ told) (x ∷ more) = IsToldOn one x × AreToldOn told more

told_same : (t : Told) → IsToldOn t t
told_same t = record { ops = refl; asked = λ e. e; ended = λ o e. e }

told_all : (told : List Told) → AreToldOn told told
told_all [] = tt
told_all (t ∷ told) = (told_same t, told_all told)

told_then : (xs ys zs : List Told) → AreToldOn xs ys → AreToldOn ys zs → AreToldOn xs zs
told_then [] ys zs first rest = tt
told_then (x ∷ xs) [] zs first rest = absurd first
told_then (x ∷ xs) (y ∷ ys) [] first rest = absurd rest
told_then (x ∷ xs) (y ∷ ys) (z ∷ zs) (a, first) (b, rest) = (record { ops = b.ops ∙ a.ops; asked = λ e. b.asked (a.asked e); ended = λ o e. b.ended o (a.ended o e) }, told_then xs ys zs first rest)

on_last_on : (f : Told → Told) (told : List Told) → ((t : Told) → last_of told ≡ Some t → IsToldOn t (f t)) → AreToldOn told (on_last f told)
on_last_on f [] one = tt
on_last_on f (t ∷ []) one = (one t refl, tt)
on_last_on f (t ∷ u ∷ told) one = (told_same t, on_last_on f (u ∷ told) one)

-- ---- a call at a stopped desk

module _ (d : DeskState) (number : ℕ) (t : Told) (s : IsStill d) (last : (x : Txn) → IsLast d x → x.client ≡ number → x ≡ t.txn) (known : IsTxnKnown d t.txn t.waiting t.asked t.ended) where
  outcome_is : (w : Option ℕ) (a : Bool) (e : Option (Outcome ℕ)) (o : Outcome ℕ) → IsTxnKnown d t.txn w a e → e ≡ Some o → outcome_at d t.txn ≡ Some o
  outcome_is w a (Some p) o k is = k.0 ∙ is
  outcome_is w a None o k is = absurd (none-some o is)

  -- it is told how it ended
  told_over : (x : Txn) (o : Outcome ℕ) → IsLast d x → x.client ≡ number → outcome_at d x ≡ Some o → IsToldOn t (over o t)
  told_over x o is own at = record {
    ops = refl;
    asked = λ e. e;
    ended = λ p e. sym at ∙ (ap (outcome_at d) (last x is own) ∙ outcome_is t.waiting t.asked t.ended p known e);
  }

  step_on : (call : Call) (reply : Reply) (new : DeskState) → client_of call ≡ Some number → MayCall d call → DeskStep d call reply new → IsToldOn t (told_next call reply t)
  step_on (desk.Begin client) (desk.Begun x) new own may step = absurd (none-some s.fault (sym step.not_stopped ∙ s.stopped))
  step_on (desk.Begin client) (desk.Refused f) new own may step = told_same t
  step_on (desk.GetKey x k) (desk.Value value) new own may step = absurd (not_live d s x step.live)
  step_on (desk.GetKey x k) desk.Waits new own may step = absurd (not_live d s x step.live)
  step_on (desk.GetKey x k) (desk.Aborted why) new own may (inl step) = told_over x (AbortedBy why) may.0 (same_Some x.client number own) step.earlier
  step_on (desk.GetKey x k) (desk.Aborted why) new own may (inr (inl step)) = absurd (not_live d s x step.live)
  step_on (desk.GetKey x k) (desk.Aborted why) new own may (inr (inr step)) = absurd (not_live d s x step.live)
  step_on (desk.Poll x) (desk.Value value) new own may step = absurd (not_live d s x step.live)
  step_on (desk.Poll x) desk.Waits new own may step = absurd (not_live d s x step.live)
  step_on (desk.Poll x) (desk.Aborted why) new own may step = told_over x (AbortedBy why) may.0 (same_Some x.client number own) step.earlier
  step_on (desk.Write x k value) desk.Done new own may step = absurd (not_live d s x step.live)
  step_on (desk.Write x k value) (desk.Aborted why) new own may (inl step) = told_over x (AbortedBy why) may.0 (same_Some x.client number own) step.earlier
  step_on (desk.Write x k value) (desk.Aborted why) new own may (inr (inl step)) = absurd (not_live d s x step.live)
  step_on (desk.Write x k value) (desk.Aborted why) new own may (inr (inr step)) = absurd (not_live d s x step.live)
  step_on (desk.Commit x) desk.Done new own may step = absurd (not_live d s x step.live)
  step_on (desk.Commit x) (desk.Aborted why) new own may step = told_over x (AbortedBy why) may.0 (same_Some x.client number own) step.earlier
  step_on (desk.Abort x) (desk.Aborted why) new own may (inl step) = told_over x (AbortedBy why) may.0 (same_Some x.client number own) step.earlier
  step_on (desk.Abort x) (desk.Aborted why) new own may (inr step) = absurd (not_live d s x step.live)
  step_on (desk.Settled x) (desk.IsSettled None) new own may step = told_same t
  step_on (desk.Settled x) (desk.IsSettled (Some o)) new own may step = told_over x o may (same_Some x.client number own) (sym step.0)
  step_on (desk.SignOff client) desk.Done new own may step = told_same t
  step_on (desk.Stop f) reply new own may step = told_same t
  step_on desk.IsStopped reply new own may step = told_same t
  step_on desk.Looks reply new own may step = told_same t
  step_on (desk.Unsure f) reply new own may step = told_same t
  step_on desk.TakeBatch reply new own may step = told_same t
  step_on (desk.Deliver keys values) reply new own may step = told_same t
  step_on desk.Close reply new own may step = told_same t
  step_on (desk.Publish epoch left) reply new own may step = told_same t
  step_on _ _ new own may step = absurd step

after_on : (d : DeskState) (told : List Told) (call : Call) (reply : Reply) (new : DeskState) → IsStill d → DeskStep d call reply new → ((t : Told) → last_of told ≡ Some t → IsToldOn t (told_next call reply t)) → AreToldOn told (told_after told (call, reply))
after_on d told (desk.Begin client) (desk.Begun x) new s step one = absurd (none-some s.fault (sym step.not_stopped ∙ s.stopped))
after_on d told (desk.Begin client) (desk.Refused f) new s step one = on_last_on _ told one
after_on d told (desk.GetKey x k) reply new s step one = on_last_on _ told one
after_on d told (desk.Poll x) reply new s step one = on_last_on _ told one
after_on d told (desk.Write x k value) reply new s step one = on_last_on _ told one
after_on d told (desk.Commit x) reply new s step one = on_last_on _ told one
after_on d told (desk.Abort x) reply new s step one = on_last_on _ told one
after_on d told (desk.Settled x) reply new s step one = on_last_on _ told one
after_on d told (desk.SignOff client) reply new s step one = on_last_on _ told one
after_on d told (desk.Stop f) reply new s step one = on_last_on _ told one
after_on d told desk.IsStopped reply new s step one = on_last_on _ told one
after_on d told desk.Looks reply new s step one = on_last_on _ told one
after_on d told (desk.Unsure f) reply new s step one = on_last_on _ told one
after_on d told desk.TakeBatch reply new s step one = on_last_on _ told one
after_on d told (desk.Deliver keys values) reply new s step one = on_last_on _ told one
after_on d told desk.Close reply new s step one = on_last_on _ told one
after_on d told (desk.Publish epoch left) reply new s step one = on_last_on _ told one
after_on d told (desk.Begin client) _ new s step one = absurd step

-- a call whose client is this one
of_client : (number : ℕ) (c : Option ℕ) → unwrap_or (option_map (λ n. n == number) c) false ≡ true → c ≡ Some number
of_client number None is = absurd (false≢true is)
of_client number (Some n) is = ap Some ((Decides-eqb n number).0 is)

-- ---- clients' turns at a stopped desk

-- a call that some client may make
abbrev pub IsAnyones : Call × Reply → Type 0
IsAnyones step = (client : ℕ) × IsOwn client step

pub anyones : (acts : List Act) → All IsSaid acts → All IsAnyones (history acts)
anyones [] said = All-nil IsAnyones
anyones (act ∷ acts) said = All-append IsAnyones (desk_calls act) (history acts) (of_act act (All-head IsSaid act acts said)) (anyones acts (All-tail IsSaid act acts said))
  where
    of_act : (act : Act) → IsSaid act → All IsAnyones (desk_calls act)
    of_act (Says client steps) said = All-weaker (IsOwn client) IsAnyones (λ step own. (client, own)) steps said
    of_act (Halts fault) said = absurd said
    of_act (Rests look) said = absurd said
    of_act (Takes look keys) said = absurd said
    of_act (Delivers batch) said = absurd said
    of_act (DeliverFails keys fault) said = absurd said
    of_act (FetchFails look batches keys fault) said = absurd said
    of_act (RestUnwatched look batches) said = absurd said
    of_act (Closes look batches writes) said = absurd said
    of_act (Publishes writes left told) said = absurd said
    of_act (Refuses writes refused) said = absurd said
    of_act Unprinted said = absurd said
    of_act Unwatched said = absurd said

module _ (setup : Setup) (epoch left : ℕ) (clients : List ℕ) (may : MayOpen setup epoch left clients) (number : ℕ) (among : Contains clients number) where
  abbrev base : DeskState
  base = new_desk setup epoch left clients

  said_on : (xs : List (Call × Reply)) (step : Call × Reply) (d new : DeskState) → Leads base xs d → MayCall d step.0 → DeskStep d step.0 step.1 new → IsStill d → AreToldOn (told_of (said_by number xs)) (told_of (said_by number (xs ++ step ∷ [])))
  said_on xs step d new led may_call made s = subst (λ (l : List (Call × Reply)). AreToldOn (told_of (said_by number xs)) (told_of l)) (sym (said_append number xs (step ∷ []))) (by (is_of number step.0) refl)
    where
      agrees : Agrees d number (said_by number xs)
      agrees = calls_agree setup epoch left clients xs d number may led among

      last_is : (t : Told) → last_of (told_of (said_by number xs)) ≡ Some t → (x : Txn) → IsLast d x → x.client ≡ number → x ≡ t.txn
      last_is t is x l own =
          let same = same_Some l.client agrees.client (sym l.found ∙ (ap (desk.client_at d) own ∙ agrees.found)) in
          same_Some x t.txn (sym l.last ∙ (ap (λ c. c.last) same ∙ (agrees.last ∙ ap (option_map (λ u. u.txn)) is)))

      by : (b : Bool) → is_of number step.0 ≡ b → AreToldOn (told_of (said_by number xs)) (told_of (said_by number xs ++ (if b then step ∷ [] else [])))
      by true is = subst (λ (l : List Told). AreToldOn (told_of (said_by number xs)) l) (sym (told_push (said_by number xs) step))
          (after_on d (told_of (said_by number xs)) step.0 step.1 new s made
          (λ t at. step_on d number t s (last_is t at) (subst (λ o. IsLastKnown d o) at agrees.known) step.0 step.1 new (of_client number (client_of step.0) is) may_call made))
      by false is = subst (λ (l : List (Call × Reply)). AreToldOn (told_of (said_by number xs)) (told_of l)) (sym (append-nil (said_by number xs))) (told_all (told_of (said_by number xs)))

  pub told_on : (xs ys : List (Call × Reply)) (d new : DeskState) → Leads base xs d → Leads d ys new → All IsAnyones ys → IsStill d → AreToldOn (told_of (said_by number xs)) (told_of (said_by number (xs ++ ys)))
  told_on xs [] d new led is own s = subst (λ (l : List (Call × Reply)). AreToldOn (told_of (said_by number xs)) (told_of (said_by number l))) (sym (append-nil xs)) (told_all (told_of (said_by number xs)))
  told_on xs (step ∷ ys) d new led (mid, may_call, made, rest) own s =
      let mine = All-head IsAnyones step ys own in
      let more = told_on (xs ++ step ∷ []) ys mid new (leads_on base xs (step ∷ []) d mid led (mid, may_call, made, refl)) rest (All-tail IsAnyones step ys own) (own_still mine.0 d step.0 step.1 mid mine.1 made s) in
      told_then (told_of (said_by number xs)) (told_of (said_by number (xs ++ step ∷ []))) (told_of (said_by number (xs ++ step ∷ ys))) (said_on xs step d mid led may_call made s)
      (subst (λ (l : List (Call × Reply)). AreToldOn (told_of (said_by number (xs ++ step ∷ []))) (told_of (said_by number l))) (append_assoc xs (step ∷ []) ys) more)

-- ---- the records, beside what was told later

end_on : (outcome : Outcome ℕ) (one more : Told) → IsToldOn one more → IsToldEnd outcome one → IsToldEnd outcome more
end_on Committed one more on is = on.asked is
end_on (AbortedBy Asked) one more on is = on.ended (AbortedBy Asked) is
end_on (AbortedBy (Conflict key reader)) one more on is = tt
end_on (AbortedBy (Depends t)) one more on is = tt
end_on (AbortedBy (ReadsFull queued left)) one more on is = tt
end_on (AbortedBy (WritesFull keys)) one more on is = tt
end_on (AbortedBy (ShareReads keys)) one more on is = tt
end_on (AbortedBy (ShareWrites keys)) one more on is = tt
end_on (AbortedBy EpochEnd) one more on is = tt
end_on (AbortedBy (Stopped fault)) one more on is = tt
end_on (UnsureOf epoch) one more on is = absurd is

pub served_later : (number : ℕ) (asks : List ScriptTxn) (txns : List (TxnRecord ℕ)) (told more : List Told) → TellFirst number txns told → AreToldOn told more → MeantFirst asks more → ServedFirst asks txns
served_later number asks [] told more tells on means = tt
served_later number asks (t ∷ txns) [] more tells on means = absurd tells
served_later number asks (t ∷ txns) (one ∷ told) [] tells on means = absurd on
served_later number [] (t ∷ txns) (one ∷ told) (x ∷ more) tells on means = absurd means
served_later number (ask ∷ asks) (t ∷ txns) (one ∷ told) (x ∷ more) (is, tells) (o, on) (m, means) =
    (ends_as ask t.ops t.outcome x (is.ops ∙ sym o.ops) (end_on t.outcome one x o is.ends) m, served_later number asks txns told more tells on means)
