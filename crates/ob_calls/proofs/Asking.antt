-- Calls that may have to wait: what they may rest on, and what their client then knows.
use Rattle.std.proofs.Common.{◌≡◌, ℕ, Bool, true, false, List, [], ◌∷◌, ◌++◌, Option, Some, None, unwrap_or, Result, Ok, Err, refl, sym, ap, ap₂, subst, ◌∙◌, inl, inr}
use Rattle.std.specs.Prelude.{is_some, ◌⊎◌}
use Rattle.std.specs.List.{All}
use Rattle.std.proofs.lemmas.List.Elements.{All-nil, All-cons, All-append}
use Rattle.std.proofs.lemmas.Option.{none-some, same_Some}
use Rattle.ob_serial.specs.declared.records.Outcome.{Outcome}
use Rattle.ob_serial.specs.declared.records.Outcome.TheVariants.{Aborted as AbortedBy}
use Rattle.ob_serial.specs.declared.records.Why.{Why}
use Rattle.ob_desk.specs.Desk as desk
use Rattle.ob_desk.specs.Desk.{Call, Reply, DeskState, MayCall, DeskStep, IsLive, outcome_at, waiting_at}
use Rattle.ob_desk.specs.Calls.{got_reply}
use Rattle.ob_desk.specs.declared.calls.Got.{Got}
use Rattle.ob_desk.specs.declared.calls.Got.TheVariants as got
use Rattle.ob_desk.specs.declared.calls.Txn.{Txn}
use Rattle.ob_base.specs.declared.op.Op.TheVariants.{Get}
use Rattle.ob_base.specs.declared.fault.Memory.{Memory}
use Rattle.ob_session.specs.Clients.{Told, told_next, has_signed_off}
use Rattle.ob_session.specs.Agreeing.{Agrees, IsTxnKnown, IsLastKnown}
use Rattle.ob_calls.specs.declared.calls.Refused.{Refused}
use Rattle.ob_calls.specs.declared.calls.Refused.TheVariants as refused
use Rattle.ob_hall.specs.Passes.{Steps, Hall, Pass, said_of, EntersTurn}
use Rattle.ob_hall.specs.Calling.{IsReady, IsBetween, IsIn, IsStillOpen, MakesCalls, TellsCalls, HasNotSignedOff}
use Rattle.ob_calls.specs.Saying.{StaysIn}
use Rattle.ob_calls.specs.Waiting.{HasBegun, IsWaiting, AskSays, GotStands, Gets, GetSays, IsGetAnswer, CommitSays}
use Rattle.ob_hall.proofs.Allowed.{last_is}
use Rattle.ob_hall.proofs.Chaining.{makes_join, next_told}
use Rattle.ob_hall.proofs.Turning.{desk_agrees}
use Rattle.ob_calls.proofs.Afterwards.{here_next, same_said, between_over, is_last, in_next, in_same, on_answered, IsAborted, in_aborted, between_aborted}

-- ---- what the desk takes

known_waiting : (d : DeskState) (t : Told) (key : ℕ) → IsLastKnown d (Some t) → t.waiting ≡ Some key → t.asked ≡ false → t.ended ≡ None
    → ((why : Why ℕ) × (outcome_at d t.txn ≡ Some (AbortedBy why))) ⊎ (IsLive d t.txn × (is_some (waiting_at d.running t.txn.ticket) ≡ true))
known_waiting d t key known waits unasked none =
    let k = subst (λ (e : Option (Outcome ℕ)). IsTxnKnown d t.txn t.waiting t.asked e) none known in
    let h = subst (λ (b : Bool). IsTxnKnown d t.txn t.waiting b None) unasked k in
    by_open (subst (λ (w : Option ℕ). IsTxnKnown d t.txn w false None) waits h).1
  where
    by_open : ((why : Why ℕ) × (outcome_at d t.txn ≡ Some (AbortedBy why))) ⊎ (IsLive d t.txn × (desk.asked_at d.running t.txn.ticket ≡ false) × (waiting_at d.running t.txn.ticket ≡ Some key))
        → ((why : Why ℕ) × (outcome_at d t.txn ≡ Some (AbortedBy why))) ⊎ (IsLive d t.txn × (is_some (waiting_at d.running t.txn.ticket) ≡ true))
    by_open (inl aborted) = inl aborted
    by_open (inr (live, none_asked, waited)) = inr (live, ap (λ (o : Option ℕ). is_some o) waited)

not_live : (d : DeskState) (t : Told) (o : Outcome ℕ) → IsLastKnown d (Some t) → t.ended ≡ Some o → IsLive d t.txn → ⊥
not_live d t o known over = (subst (λ (e : Option (Outcome ℕ)). IsTxnKnown d t.txn t.waiting t.asked e) over known).1

goes_on : (d : DeskState) (t : Told) → IsLastKnown d (Some t) → IsLive d t.txn → IsStillOpen t → (t.ended ≡ None) × (t.asked ≡ false)
goes_on d t known live (inl (why, is)) = absurd (not_live d t (AbortedBy why) known is live)
goes_on d t known live (inr (none, unasked, free)) = (none, unasked)

module _ (hall : Hall) (before mid : Pass) (d : DeskState) (ready : IsReady hall before) (entered : EntersTurn hall before mid d) where
  agreeing : Agrees d before.client (said_of before)
  agreeing = desk_agrees hall before mid d ready entered

  pub poll_allowed : (x : Txn) → IsWaiting before x → MayCall d (desk.Poll x)
  poll_allowed x w = (
    last_is d before.client (said_of before) x w.told agreeing w.is.last w.is.named w.is.client,
    subst (λ (y : Txn). ((why : Why ℕ) × (outcome_at d y ≡ Some (AbortedBy why))) ⊎ (IsLive d y × (is_some (waiting_at d.running y.ticket) ≡ true))) w.is.named
        (known_waiting d w.told w.key (subst (IsLastKnown d) w.is.last agreeing.known) w.waits w.unasked w.going),
  )

  pub settled_allowed : (x : Txn) → HasBegun before x → MayCall d (desk.Settled x)
  settled_allowed x b = last_is d before.client (said_of before) x b.0 agreeing b.1.last b.1.named b.1.client

  -- Where the client stands behind the first turn of a get.
  pub ask_stands : (after : Pass) (x : Txn) (key : ℕ) (reply : Got) (new : DeskState) → IsIn before x → DeskStep d (desk.GetKey x key) (got_reply reply) new → TellsCalls hall before after (AskSays x key (Ok reply)) → after.last ≡ before.last → GotStands reply after x
  ask_stands after x key (got.Value value) new i step t last =
      let m : MakesCalls hall before after ((desk.GetKey x key, desk.Value value) ∷ []) = subst (MakesCalls hall before after) t.says t.made in
      in_next before after x (told_next (desk.GetKey x key) (desk.Value value) i.told) i (next_told hall before after x i.told (desk.GetKey x key) (desk.Value value) m (is_last before x i) refl (λ ts. refl) refl) last
      (on_answered i.told (Get key value 0) i.open_is)
  ask_stands after x key (got.Aborted why) new i step t last =
      let m : MakesCalls hall before after ((desk.GetKey x key, desk.Aborted why) ∷ []) = subst (MakesCalls hall before after) t.says t.made in
      let s : IsAborted after x = record {
        told = told_next (desk.GetKey x key) (desk.Aborted why) i.told;
        is = next_told hall before after x i.told (desk.GetKey x key) (desk.Aborted why) m (is_last before x i) refl (λ ts. refl) refl;
        why = why;
        ended = refl;
      } in
      (in_aborted after x (last ∙ i.kept) s, between_aborted after x s)
  ask_stands after x key got.Queued new i step t last =
      let m : MakesCalls hall before after ((desk.GetKey x key, desk.Waits) ∷ []) = subst (MakesCalls hall before after) t.says t.made in
      let on = goes_on d i.told (subst (IsLastKnown d) i.last agreeing.known) (subst (IsLive d) (sym i.named) step.live) i.open_is in
      record {
        told = told_next (desk.GetKey x key) desk.Waits i.told;
        is = next_told hall before after x i.told (desk.GetKey x key) desk.Waits m (is_last before x i) refl (λ ts. refl) refl;
        key = key;
        waits = refl;
        unasked = on.1;
        going = on.0;
        kept = last ∙ i.kept;
      }

-- Memory was wanting, and it is in its transaction as before.
pub ask_failed : (hall : Hall) (before after : Pass) (x : Txn) (key : ℕ) (memory : Memory) → IsIn before x → TellsCalls hall before after (AskSays x key (Err memory)) → after.last ≡ before.last → IsIn after x
ask_failed hall before after x key memory i t last =
    let m : MakesCalls hall before after [] = subst (MakesCalls hall before after) t.says t.made in
    in_same before after x i (same_said hall before after m) m.client last

-- Where it stands behind one of the next turns.
poll_stands : (hall : Hall) (before after : Pass) (x : Txn) (reply : Got) → IsWaiting before x → TellsCalls hall before after (λ calls. calls ≡ (desk.Poll x, got_reply reply) ∷ []) → after.last ≡ before.last → GotStands reply after x
poll_stands hall before after x (got.Value value) w t last =
    let m : MakesCalls hall before after ((desk.Poll x, desk.Value value) ∷ []) = subst (MakesCalls hall before after) t.says t.made in
    let is = next_told hall before after x w.told (desk.Poll x) (desk.Value value) m w.is refl (λ ts. refl) refl in
    record { told = told_next (desk.Poll x) (desk.Value value) w.told; last = is.last; named = is.named; client = is.client; kept = last ∙ w.kept; open_is = inr (w.going, w.unasked, refl) }
poll_stands hall before after x (got.Aborted why) w t last =
    let m : MakesCalls hall before after ((desk.Poll x, desk.Aborted why) ∷ []) = subst (MakesCalls hall before after) t.says t.made in
    let s : IsAborted after x = record {
      told = told_next (desk.Poll x) (desk.Aborted why) w.told;
      is = next_told hall before after x w.told (desk.Poll x) (desk.Aborted why) m w.is refl (λ ts. refl) refl;
      why = why;
      ended = refl;
    } in
    (in_aborted after x (last ∙ w.kept) s, between_aborted after x s)
poll_stands hall before after x got.Queued w t last =
    let m : MakesCalls hall before after ((desk.Poll x, desk.Waits) ∷ []) = subst (MakesCalls hall before after) t.says t.made in
    record {
      told = told_next (desk.Poll x) desk.Waits w.told;
      is = next_told hall before after x w.told (desk.Poll x) desk.Waits m w.is refl (λ ts. refl) refl;
      key = w.key;
      waits = ap (λ (o : Option ℕ). Some (unwrap_or o 0)) w.waits;
      unasked = w.unasked;
      going = w.going;
      kept = last ∙ w.kept;
    }

poll_here : (hall : Hall) (before after : Pass) (x : Txn) (reply : Reply) → IsWaiting before x → TellsCalls hall before after (λ calls. calls ≡ (desk.Poll x, reply) ∷ []) → has_signed_off (said_of after) ≡ has_signed_off (said_of before)
poll_here hall before after x reply w t = here_next hall before after x.client (desk.Poll x) reply (subst (MakesCalls hall before after) t.says t.made) refl w.is.client refl

-- ---- a get so far

-- These own calls so far, the last of which was answered so.
pub record IsAsking (hall : Hall) (before now : Pass) (x : Txn) (key : ℕ) (reply : Got) : Type 0 where
  pub tells : TellsCalls hall before now (Gets x key (got_reply reply))
  pub stands : GotStands reply now x
  pub here : has_signed_off (said_of now) ≡ has_signed_off (said_of before)
  pub last : now.last ≡ before.last
  pub ready : IsReady hall now

pub begins_asking : (hall : Hall) (before now : Pass) (x : Txn) (key : ℕ) (reply : Got) → IsIn before x → TellsCalls hall before now (AskSays x key (Ok reply)) → GotStands reply now x → now.last ≡ before.last → IsReady hall now → IsAsking hall before now x key reply
begins_asking hall before now x key reply i t s last ready = record {
  tells = record { calls = t.calls; says = inl t.says; made = t.made };
  stands = s;
  here = here_next hall before now x.client (desk.GetKey x key) (got_reply reply) (subst (MakesCalls hall before now) t.says t.made) refl i.client refl;
  last = last;
  ready = ready;
}

gets_again : (x : Txn) (key : ℕ) (reply : Reply) (calls : Steps) → Gets x key desk.Waits calls → Gets x key reply (calls ++ (desk.Poll x, reply) ∷ [])
gets_again x key reply calls (inl is) = inr ([], All-nil (λ s. s ≡ (desk.Poll x, desk.Waits)), ap (λ (l : Steps). l ++ (desk.Poll x, reply) ∷ []) is)
gets_again x key reply calls (inr (waits, all, is)) = inr (
  waits ++ (desk.Poll x, desk.Waits) ∷ [],
  All-append (λ s. s ≡ (desk.Poll x, desk.Waits)) waits ((desk.Poll x, desk.Waits) ∷ []) all (All-cons (λ s. s ≡ (desk.Poll x, desk.Waits)) (desk.Poll x, desk.Waits) [] refl (All-nil (λ s. s ≡ (desk.Poll x, desk.Waits)))),
  ap (λ (l : Steps). l ++ (desk.Poll x, reply) ∷ []) is,
)

pub is_queued : (reply : Got) → IsGetAnswer reply None → reply ≡ got.Queued
is_queued (got.Value value) is = absurd (none-some (Ok value) is)
is_queued (got.Aborted why) is = absurd (none-some (Err (refused.Aborted why)) is)
is_queued got.Queued is = refl

pub still_waits : (hall : Hall) (before now : Pass) (x : Txn) (key : ℕ) (reply : Got) → IsAsking hall before now x key reply → IsGetAnswer reply None → IsWaiting now x
still_waits hall before now x key reply a is = subst (λ (r : Got). GotStands r now x) (is_queued reply is) a.stands

-- It is told to wait, and asks again.
pub asks_on : (hall : Hall) (before now after : Pass) (x : Txn) (key : ℕ) (was reply : Got) → IsGetAnswer was None → IsAsking hall before now x key was → TellsCalls hall now after (λ calls. calls ≡ (desk.Poll x, got_reply reply) ∷ []) → after.last ≡ now.last → IsReady hall after
    → IsAsking hall before after x key reply
asks_on hall before now after x key was reply is a t last ready =
    let w = still_waits hall before now x key was a is in
    let so_far : Gets x key desk.Waits a.tells.calls = subst (λ (r : Got). Gets x key (got_reply r) a.tells.calls) (is_queued was is) a.tells.says in record {
      tells = record {
        calls = a.tells.calls ++ t.calls;
        says = subst (λ (l : Steps). Gets x key (got_reply reply) (a.tells.calls ++ l)) (sym t.says) (gets_again x key (got_reply reply) a.tells.calls so_far);
        made = makes_join hall before now after a.tells.calls t.calls a.tells.made t.made;
      };
      stands = poll_stands hall now after x reply w t last;
      here = poll_here hall now after x (got_reply reply) w t ∙ a.here;
      last = last ∙ a.last;
      ready = ready;
    }

-- ---- its end

get_says : (x : Txn) (key : ℕ) (reply : Got) (answer : Result (Option (List ℕ)) Refused) (calls : Steps) → IsGetAnswer reply (Some answer) → Gets x key (got_reply reply) calls → GetSays x key answer calls
get_says x key (got.Value value) answer calls is gets = subst (λ (a : Result (Option (List ℕ)) Refused). GetSays x key a calls) (sym (same_Some answer (Ok value) is)) gets
get_says x key (got.Aborted why) answer calls is gets = subst (λ (a : Result (Option (List ℕ)) Refused). GetSays x key a calls) (sym (same_Some answer (Err (refused.Aborted why)) is)) gets
get_says x key got.Queued answer calls is gets = absurd (none-some answer (sym is))

pub ends_asking : (hall : Hall) (before now : Pass) (x : Txn) (key : ℕ) (reply : Got) (answer : Result (Option (List ℕ)) Refused) → IsAsking hall before now x key reply → IsGetAnswer reply (Some answer) → TellsCalls hall before now (GetSays x key answer)
ends_asking hall before now x key reply answer a is = record { calls = a.tells.calls; says = get_says x key reply answer a.tells.calls is a.tells.says; made = a.tells.made }

stays : (before now : Pass) (x : Txn) (reply : Got) (answer : Result (Option (List ℕ)) Refused) → IsGetAnswer reply (Some answer) → GotStands reply now x → (HasNotSignedOff before → HasNotSignedOff now) → StaysIn answer before now x
stays before now x (got.Value value) answer is s here = subst (λ (a : Result (Option (List ℕ)) Refused). StaysIn a before now x) (sym (same_Some answer (Ok value) is)) (s, here, tt)
stays before now x (got.Aborted why) answer is s here = subst (λ (a : Result (Option (List ℕ)) Refused). StaysIn a before now x) (sym (same_Some answer (Err (refused.Aborted why)) is)) (s.0, here, λ h. s.1 (here h))
stays before now x got.Queued answer is s here = absurd (none-some answer (sym is))

pub get_stands : (hall : Hall) (before now : Pass) (x : Txn) (key : ℕ) (reply : Got) (answer : Result (Option (List ℕ)) Refused) → IsAsking hall before now x key reply → IsGetAnswer reply (Some answer) → StaysIn answer before now x
get_stands hall before now x key reply answer a is = stays before now x reply answer is a.stands (λ h. a.here ∙ h)

pub get_failed : (hall : Hall) (before now : Pass) (x : Txn) (key : ℕ) (memory : Memory) → IsIn before x → TellsCalls hall before now (AskSays x key (Err memory)) → now.last ≡ before.last → StaysIn {A = Option (List ℕ)} (Err refused.Memory) before now x
get_failed hall before now x key memory i t last =
    let m : MakesCalls hall before now [] = subst (MakesCalls hall before now) t.says t.made in
    (ask_failed hall before now x key memory i t last, λ h. ap has_signed_off (same_said hall before now m) ∙ h, tt)

pub gets_none : (hall : Hall) (before now : Pass) (x : Txn) (key : ℕ) (memory : Memory) → TellsCalls hall before now (AskSays x key (Err memory)) → TellsCalls hall before now (GetSays x key (Err refused.Memory))
gets_none hall before now x key memory t = record { calls = t.calls; says = t.says; made = t.made }

-- ---- a commit so far

-- It asked to commit, and wasn't told yet how it ended.
abbrev pub AsksForEnd : Txn → Steps → Type 0
AsksForEnd x calls = (waits : Steps) × All (λ s. s ≡ (desk.Settled x, desk.IsSettled None)) waits × (calls ≡ (desk.Commit x, desk.Done) ∷ waits)

pub record IsEnding (hall : Hall) (before now : Pass) (x : Txn) : Type 0 where
  pub tells : TellsCalls hall before now (AsksForEnd x)
  pub begun : HasBegun now x
  pub here : has_signed_off (said_of now) ≡ has_signed_off (said_of before)
  pub last : now.last ≡ before.last
  pub ready : IsReady hall now

pub begins_ending : (hall : Hall) (before now : Pass) (x : Txn) → IsIn before x → TellsCalls hall before now (λ calls. calls ≡ (desk.Commit x, desk.Done) ∷ []) → now.last ≡ before.last → IsReady hall now → IsEnding hall before now x
begins_ending hall before now x i t last ready =
    let m : MakesCalls hall before now ((desk.Commit x, desk.Done) ∷ []) = subst (MakesCalls hall before now) t.says t.made in record {
      tells = record { calls = t.calls; says = ([], All-nil (λ s. s ≡ (desk.Settled x, desk.IsSettled None)), t.says); made = t.made };
      begun = (told_next (desk.Commit x) desk.Done i.told, next_told hall before now x i.told (desk.Commit x) desk.Done m (is_last before x i) refl (λ ts. refl) refl);
      here = here_next hall before now x.client (desk.Commit x) desk.Done m refl i.client refl;
      last = last;
      ready = ready;
    }

pub ends_on : (hall : Hall) (before now after : Pass) (x : Txn) → IsEnding hall before now x → TellsCalls hall now after (λ calls. calls ≡ (desk.Settled x, desk.IsSettled None) ∷ []) → after.last ≡ now.last → IsReady hall after → IsEnding hall before after x
ends_on hall before now after x e t last ready =
    let m : MakesCalls hall now after ((desk.Settled x, desk.IsSettled None) ∷ []) = subst (MakesCalls hall now after) t.says t.made in
    let all = e.tells.says in record {
      tells = record {
        calls = e.tells.calls ++ t.calls;
        says = (
          all.0 ++ (desk.Settled x, desk.IsSettled None) ∷ [],
          All-append (λ s. s ≡ (desk.Settled x, desk.IsSettled None)) all.0 ((desk.Settled x, desk.IsSettled None) ∷ []) all.1
              (All-cons (λ s. s ≡ (desk.Settled x, desk.IsSettled None)) (desk.Settled x, desk.IsSettled None) [] refl (All-nil (λ s. s ≡ (desk.Settled x, desk.IsSettled None)))),
          ap₂ (λ (l r : Steps). l ++ r) all.2 t.says,
        );
        made = makes_join hall before now after e.tells.calls t.calls e.tells.made t.made;
      };
      begun = (e.begun.0, next_told hall now after x e.begun.0 (desk.Settled x) (desk.IsSettled None) m e.begun.1 refl (λ ts. refl) refl);
      here = here_next hall now after x.client (desk.Settled x) (desk.IsSettled None) m refl e.begun.1.client refl ∙ e.here;
      last = last ∙ e.last;
      ready = ready;
    }

pub has_ended : (hall : Hall) (before now after : Pass) (x : Txn) (outcome : Outcome ℕ) → IsEnding hall before now x → TellsCalls hall now after (λ calls. calls ≡ (desk.Settled x, desk.IsSettled (Some outcome)) ∷ []) → TellsCalls hall before after (CommitSays x outcome)
has_ended hall before now after x outcome e t = record {
  calls = e.tells.calls ++ t.calls;
  says = inr (e.tells.says.0, e.tells.says.1, ap₂ (λ (l r : Steps). l ++ r) e.tells.says.2 t.says);
  made = makes_join hall before now after e.tells.calls t.calls e.tells.made t.made;
}

pub ended_between : (hall : Hall) (before now after : Pass) (x : Txn) (outcome : Outcome ℕ) → IsEnding hall before now x → TellsCalls hall now after (λ calls. calls ≡ (desk.Settled x, desk.IsSettled (Some outcome)) ∷ []) → HasNotSignedOff before → IsBetween after
ended_between hall before now after x outcome e t h =
    let m : MakesCalls hall now after ((desk.Settled x, desk.IsSettled (Some outcome)) ∷ []) = subst (MakesCalls hall now after) t.says t.made in
    between_over after x (told_next (desk.Settled x) (desk.IsSettled (Some outcome)) e.begun.0) outcome
    (next_told hall now after x e.begun.0 (desk.Settled x) (desk.IsSettled (Some outcome)) m e.begun.1 refl (λ ts. refl) refl) refl
    (here_next hall now after x.client (desk.Settled x) (desk.IsSettled (Some outcome)) m refl e.begun.1.client refl ∙ (e.here ∙ h))

pub was_aborted : (hall : Hall) (before now : Pass) (x : Txn) (why : Why ℕ) → TellsCalls hall before now (λ calls. calls ≡ (desk.Commit x, desk.Aborted why) ∷ []) → TellsCalls hall before now (CommitSays x (AbortedBy why))
was_aborted hall before now x why t = record { calls = t.calls; says = inl (why, refl, t.says); made = t.made }

pub aborted_between : (hall : Hall) (before now : Pass) (x : Txn) (why : Why ℕ) → IsIn before x → TellsCalls hall before now (λ calls. calls ≡ (desk.Commit x, desk.Aborted why) ∷ []) → HasNotSignedOff before → IsBetween now
aborted_between hall before now x why i t h =
    let m : MakesCalls hall before now ((desk.Commit x, desk.Aborted why) ∷ []) = subst (MakesCalls hall before now) t.says t.made in
    between_over now x (told_next (desk.Commit x) (desk.Aborted why) i.told) (AbortedBy why) (next_told hall before now x i.told (desk.Commit x) (desk.Aborted why) m (is_last before x i) refl (λ ts. refl) refl) refl
    (here_next hall before now x.client (desk.Commit x) (desk.Aborted why) m refl i.client refl ∙ h)
