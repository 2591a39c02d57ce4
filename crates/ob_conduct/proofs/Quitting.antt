-- The client of the tests: its calls may be made, and its steps keep what it knows.
use Rattle.std.proofs.Common.{◌≡◌, ◌∙◌, ◌⊎◌, ◌<◌, ◌≤◌, ◌^◌, ℕ, Bool, true, false, cond, ◌||◌, ◌==◌, All, List, [], ◌∷◌, ◌++◌, Option, None, Some, refl, sym, ap, subst, inl, inr, arith}
use Rattle.std.specs.Option.{option_map}
use Rattle.std.proofs.lemmas.Option.{none-some, same_Some}
use Rattle.std.proofs.lemmas.List.{append-nil}
use Rattle.std.proofs.lemmas.List.Elements.{All-nil, All-cons}
use Rattle.std.proofs.lemmas.List.Folds.{list_any-append}
use Rattle.ob_base.specs.declared.fault.Fault.{Fault}
use Rattle.ob_base.specs.declared.fault.Fault.TheVariants.{Memory}
use Rattle.ob_serial.specs.declared.records.Why.{Why}
use Rattle.ob_serial.specs.declared.records.Outcome.{Outcome}
use Rattle.ob_serial.specs.declared.records.Outcome.TheVariants.{Aborted as AbortedBy}
use Rattle.ob_shares.specs.Shares.{AreFitting}
use Rattle.ob_desk.specs.Desk as desk
use Rattle.ob_desk.specs.Desk.{DeskState, Call, Reply, MayCall, DeskStep, IsLive, IsLast, HasNotAsked, Setup, MayOpen, client_at, outcome_at, asked_at}
use Rattle.ob_desk.specs.declared.calls.Txn.{Txn}
use Rattle.ob_desk.specs.declared.clients.Client.{Client}
use Rattle.ob_session.specs.Steps.{IsOwn}
use Rattle.ob_session.specs.Clients.{Told, begun, over, told_of, last_of, said_by, is_of, is_sign_off, has_signed_off, stands_behind, stands_after}
use Rattle.ob_session.specs.Agreeing.{Agrees, IsLastKnown, IsTxnKnown, IsOpenTxn}
use Rattle.ob_session.specs.declared.runner.Step.{Step}
use Rattle.ob_session.specs.declared.runner.Step.TheVariants as stands
use Rattle.ob_session.proofs.Lasts.{last_of-append, last_of-on_last, on_last-same}
use Rattle.ob_session.proofs.Saying.{told_push}
use Rattle.std.specs.List.Sorted.{IsStrictlyIncreasing}
use Rattle.ob_conduct.proofs.Writes.{rises_cons}
use Rattle.ob_conduct.specs.Quitting.{IsToldOfLast, Quits, QuitterStep}

pub quits_new : (client : ℕ) → Quits client None false false []
quits_new client = record { at = refl; named = λ x is. absurd (none-some x is); signed_off = refl; stands = refl }

-- ---- one call more

stands_push : (said : List (Call × Reply)) (s : Call × Reply) (stand : Step) → stands_after (s ∷ []) ≡ stand → stands_after (said ++ s ∷ []) ≡ stand
stands_push said s stand is = ap stands_behind (last_of-append said (s ∷ []) s refl) ∙ is

or_false : (b : Bool) → (b || false) ≡ b
or_false true = refl
or_false false = refl

or_true : (b : Bool) → (b || true) ≡ true
or_true true = refl
or_true false = refl

signed_push : (said : List (Call × Reply)) (s : Call × Reply) → is_sign_off s ≡ false → has_signed_off (said ++ s ∷ []) ≡ has_signed_off said
signed_push said s other = list_any-append is_sign_off said (s ∷ []) ∙ ap (λ b. has_signed_off said || (b || false)) other ∙ or_false (has_signed_off said)

eq_same : (k : ℕ) → (k == k) ≡ true
eq_same k = grind arith

own_call : (c : ℕ) (s : Call × Reply) → is_of c s.0 ≡ true → said_by c (s ∷ []) ≡ s ∷ []
own_call c s is = ap (λ b. cond b (s ∷ []) []) is

with_own : (c : ℕ) (txn : Option Txn) (over_now gone : Bool) (said : List (Call × Reply)) (s : Call × Reply) → is_of c s.0 ≡ true → Quits c txn over_now gone (said ++ s ∷ []) → Quits c txn over_now gone (said ++ said_by c (s ∷ []))
with_own c txn over_now gone said s is q = subst (λ (x : List (Call × Reply)). Quits c txn over_now gone (said ++ x)) (sym (own_call c s is)) q

stand_own : (c : ℕ) (said : List (Call × Reply)) (s : Call × Reply) (stand : Step) → is_of c s.0 ≡ true → stands_after (s ∷ []) ≡ stand → stand ≡ stands_after (said ++ said_by c (s ∷ []))
stand_own c said s stand is here = sym (ap (λ (x : List (Call × Reply)). stands_after (said ++ x)) (own_call c s is) ∙ stands_push said s stand here)

-- ---- what it may call

no_last : (d : DeskState) (c : ℕ) (said : List (Call × Reply)) (a : Agrees d c said) (client : Client) (x : Txn) → last_of (told_of said) ≡ None → client_at d c ≡ Some client → client.last ≡ Some x → ⊥
no_last d c said a client x none at last =
    let same : a.client ≡ client = same_Some a.client client (sym a.found ∙ at) in
    none-some x (sym (a.last ∙ ap (option_map (λ (t : Told). t.txn)) none) ∙ ap (λ (k : Client). k.last) same ∙ last)

its_last : (d : DeskState) (c : ℕ) (said : List (Call × Reply)) (a : Agrees d c said) (client : Client) (x : Txn) (t : Told) → last_of (told_of said) ≡ Some t → client_at d c ≡ Some client → client.last ≡ Some x → t.txn ≡ x
its_last d c said a client x t some at last =
    let same : a.client ≡ client = same_Some a.client client (sym a.found ∙ at) in
    same_Some t.txn x (sym (a.last ∙ ap (option_map (λ (u : Told). u.txn)) some) ∙ ap (λ (k : Client). k.last) same ∙ last)

pub may_begin : (d : DeskState) (c : ℕ) (said : List (Call × Reply)) → Quits c None false false said → Agrees d c said → MayCall d (desk.Begin c)
may_begin d c said q a = (record { client = a.client; found = a.found; not_signed_off = a.signed_off ∙ q.signed_off }, λ client x at last. absurd (no_last d c said a client x q.at at last))

pub may_leave : (d : DeskState) (c : ℕ) (txn : Option Txn) (said : List (Call × Reply)) → Quits c txn true false said → Agrees d c said → MayCall d (desk.SignOff c)
may_leave d c txn said q a = (record { client = a.client; found = a.found; not_signed_off = a.signed_off ∙ q.signed_off }, λ client x at last live. ended client x at last live (is_over txn q.at))
  where
    is_over : (o : Option Txn) → IsToldOfLast o true (last_of (told_of said)) → (last_of (told_of said) ≡ None) ⊎ ((t : Told) × (outcome : Outcome ℕ) × (last_of (told_of said) ≡ Some t) × (t.ended ≡ Some outcome))
    is_over None at = at
    is_over (Some y) at = at

    dead : (t : Told) (outcome : Outcome ℕ) → last_of (told_of said) ≡ Some t → t.ended ≡ Some outcome → IsLive d t.txn → ⊥
    dead t outcome some end live = (subst (λ (o : Option (Outcome ℕ)). IsTxnKnown d t.txn t.waiting t.asked o) end (subst (IsLastKnown d) some a.known)).1 live

    ended : (client : Client) (x : Txn) → client_at d c ≡ Some client → client.last ≡ Some x → IsLive d x → (last_of (told_of said) ≡ None) ⊎ ((t : Told) × (outcome : Outcome ℕ) × (last_of (told_of said) ≡ Some t) × (t.ended ≡ Some outcome)) → asked_at d.running x.ticket ≡ true
    ended client x at last live (inl none) = absurd (no_last d c said a client x none at last)
    ended client x at last live (inr (t, outcome, some, end)) = absurd (dead t outcome some end (subst (IsLive d) (sym (its_last d c said a client x t some at last)) live))

pub may_give_up : (d : DeskState) (c : ℕ) (x : Txn) (said : List (Call × Reply)) → Quits c (Some x) false false said → Agrees d c said → MayCall d (desk.Abort x)
may_give_up d c x said q a = (record { client = a.client; found = ap (client_at d) (q.named x refl) ∙ a.found; last = a.last ∙ ap (option_map (λ (t : Told). t.txn)) q.at }, not_asked (subst (IsLastKnown d) q.at a.known).1)
  where
    not_asked : IsOpenTxn d x None → HasNotAsked d x
    not_asked (inl aborted) = inl aborted
    not_asked (inr (live, asked, waiting)) = inr (live, asked)

-- ---- its steps

pub begun_step : (c : ℕ) (old new : DeskState) (x : Txn) → MayCall old (desk.Begin c) → DeskStep old (desk.Begin c) (desk.Begun x) new → QuitterStep c None false false (Some x) false false old new ((desk.Begin c, desk.Begun x) ∷ []) stands.Ran
begun_step c old new x may step = let s : Call × Reply = (desk.Begin c, desk.Begun x) in record {
  made = (new, may, step, refl);
  own = All-cons (IsOwn c) s [] refl (All-nil _);
  one = λ said q. inl refl;
  fits = λ said q. with_own c (Some x) false false said s (eq_same c) (record {
    at = ap last_of (told_push said s) ∙ last_of-append (told_of said) (begun x ∷ []) (begun x) refl;
    named = λ y is. ap (λ (z : Txn). z.client) (sym (same_Some x y is) ∙ step.next);
    signed_off = signed_push said s refl ∙ q.signed_off;
    stands = stands_push said s stands.Ran refl;
  });
  stands = λ said q. stand_own c said s stands.Ran (eq_same c) refl;
}

pub refused_step : (c : ℕ) (old new : DeskState) (fault : Fault) → MayCall old (desk.Begin c) → DeskStep old (desk.Begin c) (desk.Refused fault) new → QuitterStep c None false false None true false old new ((desk.Begin c, desk.Refused fault) ∷ []) stands.Ran
refused_step c old new fault may step = let s : Call × Reply = (desk.Begin c, desk.Refused fault) in record {
  made = (new, may, step, refl);
  own = All-cons (IsOwn c) s [] refl (All-nil _);
  one = λ said q. inl refl;
  fits = λ said q. with_own c None true false said s (eq_same c) (record {
    at = inl (ap last_of (told_push said s ∙ on_last-same (λ t. t) (told_of said) (λ t. refl)) ∙ q.at);
    named = q.named;
    signed_off = signed_push said s refl ∙ q.signed_off;
    stands = stands_push said s stands.Ran refl;
  });
  stands = λ said q. stand_own c said s stands.Ran (eq_same c) refl;
}

pub stop_step : (c : ℕ) (txn : Option Txn) (over_now : Bool) (old new : DeskState) → DeskStep old (desk.Stop Memory) desk.Done new → QuitterStep c txn over_now false txn over_now false old new ((desk.Stop Memory, desk.Done) ∷ []) stands.Ran
stop_step c txn over_now old new step = record {
  made = (new, tt, step, refl);
  own = All-cons (IsOwn c) (desk.Stop Memory, desk.Done) [] refl (All-nil _);
  one = λ said q. inl refl;
  fits = λ said q. subst (Quits c txn over_now false) (sym (append-nil said)) q;
  stands = λ said q. sym (ap stands_after (append-nil said) ∙ q.stands);
}

pub abort_step : (c : ℕ) (old new : DeskState) (x : Txn) (why : Why ℕ) → x.client ≡ c → MayCall old (desk.Abort x) → DeskStep old (desk.Abort x) (desk.Aborted why) new → QuitterStep c (Some x) false false (Some x) true false old new ((desk.Abort x, desk.Aborted why) ∷ []) stands.Ran
abort_step c old new x why named may step = let s : Call × Reply = (desk.Abort x, desk.Aborted why) in record {
  made = (new, may, step, refl);
  own = All-cons (IsOwn c) s [] named (All-nil _);
  one = λ said q. inl refl;
  fits = λ said q. with_own c (Some x) true false said s (mine named) (record {
    at = inr (over (AbortedBy why) (begun x), AbortedBy why, ap last_of (told_push said s) ∙ last_of-on_last (over (AbortedBy why)) (told_of said) (begun x) q.at, refl);
    named = q.named;
    signed_off = signed_push said s refl ∙ q.signed_off;
    stands = stands_push said s stands.Ran refl;
  });
  stands = λ said q. stand_own c said s stands.Ran (mine named) refl;
}
  where
    mine : x.client ≡ c → (x.client == c) ≡ true
    mine is = ap (λ k. k == c) is ∙ eq_same c

pub sign_step : (c : ℕ) (txn : Option Txn) (old new : DeskState) → MayCall old (desk.SignOff c) → DeskStep old (desk.SignOff c) desk.Done new → QuitterStep c txn true false txn true true old new ((desk.SignOff c, desk.Done) ∷ []) stands.Done
sign_step c txn old new may step = let s : Call × Reply = (desk.SignOff c, desk.Done) in record {
  made = (new, may, step, refl);
  own = All-cons (IsOwn c) s [] refl (All-nil _);
  one = λ said q. inl refl;
  fits = λ said q. with_own c txn true true said s (eq_same c) (record {
    at = subst (λ (told : List Told). IsToldOfLast txn true (last_of told)) (sym (told_push said s ∙ on_last-same (λ t. t) (told_of said) (λ t. refl))) q.at;
    named = q.named;
    signed_off = list_any-append is_sign_off said (s ∷ []) ∙ or_true (has_signed_off said);
    stands = stands_push said s stands.Done refl;
  });
  stands = λ said q. stand_own c said s stands.Done (eq_same c) refl;
}

pub gone_step : (c : ℕ) (txn : Option Txn) (over_now : Bool) (d : DeskState) → QuitterStep c txn over_now true txn over_now true d d [] stands.Done
gone_step c txn over_now d = record {
  made = refl;
  own = All-nil _;
  one = λ said q. inr (refl, q.signed_off);
  fits = λ said q. subst (Quits c txn over_now true) (sym (append-nil said)) q;
  stands = λ said q. sym (ap stands_after (append-nil said) ∙ q.stands);
}

-- ---- two of them

pub both : {X : Type 0} (P : X → Type 0) (x y : X) → P x → P y → All P (x ∷ y ∷ [])
both P x y px py = All-cons P x (y ∷ []) px (All-cons P y [] py (All-nil P))

one_two : IsStrictlyIncreasing (1 ∷ 2 ∷ [])
one_two = rises_cons 1 (2 ∷ []) (All-cons (λ k. 1 < k) 2 [] (omega arith) (All-nil _)) (rises_cons 2 [] (All-nil _) (λ k within. absurd (omega (arith, within))))

pub two_open : (setup : Setup) (epoch left a b : ℕ) → left ≤ setup.params.batches → epoch ≤ 2 ^ 62 → a ≡ 1 → b ≡ 2 → AreFitting setup.shares 2 setup.params.places setup.params.writes → MayOpen setup epoch left (a ∷ b ∷ [])
two_open setup epoch left a b few low first second fit = subst (λ x. MayOpen setup epoch left (x ∷ b ∷ [])) (sym first) (subst (λ x. MayOpen setup epoch left (1 ∷ x ∷ [])) (sym second) (record {
  few_left = few;
  low_epoch = low;
  named = both (λ c. (1 ≤ c) × (c ≤ 64)) 1 2 (omega arith, omega arith) (omega arith, omega arith);
  rising = one_two;
  fit = fit;
}))
