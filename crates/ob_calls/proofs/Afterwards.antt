-- Where a client stands behind its calls.
use Rattle.std.proofs.Common.{◌≡◌, ℕ, Bool, true, false, ◌||◌, List, [], ◌∷◌, ◌++◌, Option, Some, Result, Ok, Err, refl, sym, ap, subst, ◌∙◌, append-nil, inl, inr}
use Rattle.std.proofs.lemmas.List.Folds.{list_any-append}
use Rattle.std.proofs.lemmas.Option.{same_Some}
use Rattle.ob_base.specs.declared.fault.Memory.{Memory}
use Rattle.ob_serial.specs.declared.records.Outcome.{Outcome}
use Rattle.ob_serial.specs.declared.records.Outcome.TheVariants.{Aborted as AbortedBy}
use Rattle.ob_serial.specs.declared.records.Why.{Why}
use Rattle.ob_base.specs.declared.op.Op.{Op}
use Rattle.ob_order.specs.Order.{write_op}
use Rattle.ob_desk.specs.Desk as desk
use Rattle.ob_desk.specs.Desk.{Call, Reply, DeskState, DeskStep}
use Rattle.ob_desk.specs.Calls.{begun_reply}
use Rattle.ob_desk.specs.declared.calls.Begun.{Begun as CodeBegun}
use Rattle.ob_desk.specs.declared.calls.Begun.TheVariants as begun
use Rattle.ob_desk.specs.declared.calls.Txn.{Txn}
use Rattle.ob_session.specs.Clients.{Told, told_of, told_next, told_after, on_last, last_of, client_of, is_sign_off, has_signed_off}
use Rattle.ob_session.specs.Clients as clients
use Rattle.ob_session.proofs.Lasts.{last_of-append, on_last-same}
use Rattle.ob_calls.specs.declared.calls.Refused.{Refused}
use Rattle.ob_calls.specs.declared.calls.Refused.TheVariants as refused
use Rattle.ob_hall.specs.Passes.{Steps, Hall, Pass, said_of}
use Rattle.ob_hall.specs.Calling.{IsBetween, IsIn, IsStillOpen, MakesCalls, TellsCalls, IsLastTold, HasNotSignedOff}
use Rattle.ob_calls.specs.Saying.{BeginSays, IsNamed, last_begun, WriteSays, BeginStands, StaysIn}
use Rattle.ob_session.proofs.Saying.{told_push}
use Rattle.ob_hall.proofs.Chaining.{said_more, said_one, next_told}

or_none : (b : Bool) → (b || false) ≡ b
or_none true = refl
or_none false = refl

-- ---- it hasn't signed off

pub here_next : (hall : Hall) (a b : Pass) (client : ℕ) (call : Call) (reply : Reply) → MakesCalls hall a b ((call, reply) ∷ []) → client_of call ≡ Some client → client ≡ a.client → is_sign_off (call, reply) ≡ false
    → has_signed_off (said_of b) ≡ has_signed_off (said_of a)
here_next hall a b client call reply m of is other =
    ap has_signed_off (said_one hall a b client call reply m of is)
    ∙ (list_any-append is_sign_off (said_of a) ((call, reply) ∷ []) ∙ (ap (λ (s : Bool). has_signed_off (said_of a) || (s || false)) other ∙ or_none (has_signed_off (said_of a))))

pub same_said : (hall : Hall) (a b : Pass) → MakesCalls hall a b [] → said_of b ≡ said_of a
same_said hall a b m = said_more hall a b [] m ∙ append-nil (said_of a)

-- ---- between transactions

pub between_over : (pass : Pass) (x : Txn) (told : Told) (outcome : Outcome ℕ) → IsLastTold pass x told → told.ended ≡ Some outcome → HasNotSignedOff pass → IsBetween pass
between_over pass x told outcome last ended here = record {
  here = here;
  over = λ t is. let same : told ≡ t = same_Some told t (sym last.last ∙ is) in (outcome, sym (ap (λ (u : Told). u.ended) same) ∙ ended);
}

between_same : (a b : Pass) → said_of b ≡ said_of a → IsBetween a → IsBetween b
between_same a b same i = record { here = ap has_signed_off same ∙ i.here; over = λ t is. i.over t (sym (ap (λ (said : Steps). last_of (told_of said)) same) ∙ is) }

-- A transaction that began is its client's.
pub is_named : (d : DeskState) (client : ℕ) (reply : CodeBegun) (new : DeskState) → DeskStep d (desk.Begin client) (begun_reply reply) new → IsNamed client (Ok reply)
is_named d client (begun.Txn x) new step = ap (λ (y : Txn). y.client) step.next
is_named d client (begun.Stopped f) new step = tt

pub begin_stands : (hall : Hall) (a b : Pass) (result : Result CodeBegun Memory) → IsBetween a → TellsCalls hall a b (BeginSays a.client result) → b.last ≡ last_begun a.last result → IsNamed a.client result → BeginStands result b
begin_stands hall a b (Ok (begun.Txn x)) i t kept named =
    let m : MakesCalls hall a b ((desk.Begin a.client, desk.Begun x) ∷ []) = subst (MakesCalls hall a b) t.says t.made in
    let said : said_of b ≡ said_of a ++ (desk.Begin a.client, desk.Begun x) ∷ [] = said_one hall a b a.client (desk.Begin a.client) (desk.Begun x) m refl refl in (
      record {
        told = clients.begun x;
        last = ap (λ (s : Steps). last_of (told_of s)) said ∙ (ap (λ (ts : List Told). last_of ts) (told_push (said_of a) (desk.Begin a.client, desk.Begun x)) ∙ last_of-append (told_of (said_of a)) (clients.begun x ∷ []) (clients.begun x) refl);
        named = refl;
        client = named ∙ sym m.client;
        kept = kept;
        open_is = inr (refl, refl, refl);
      },
      here_next hall a b a.client (desk.Begin a.client) (desk.Begun x) m refl refl refl ∙ i.here,
    )
begin_stands hall a b (Ok (begun.Stopped f)) i t kept named =
    let m : MakesCalls hall a b ((desk.Begin a.client, desk.Refused f) ∷ []) = subst (MakesCalls hall a b) t.says t.made in
    let said : said_of b ≡ said_of a ++ (desk.Begin a.client, desk.Refused f) ∷ [] = said_one hall a b a.client (desk.Begin a.client) (desk.Refused f) m refl refl in
    let told : told_of (said_of b) ≡ told_of (said_of a) = ap told_of said ∙ (told_push (said_of a) (desk.Begin a.client, desk.Refused f) ∙ on_last-same (told_next (desk.Begin a.client) (desk.Refused f)) (told_of (said_of a)) (λ u. refl)) in record {
      here = here_next hall a b a.client (desk.Begin a.client) (desk.Refused f) m refl refl refl ∙ i.here;
      over = λ u is. i.over u (sym (ap (λ (ts : List Told). last_of ts) told) ∙ is);
    }
begin_stands hall a b (Err memory) i t kept named = between_same a b (same_said hall a b (subst (MakesCalls hall a b) t.says t.made)) i

-- ---- in a transaction

pub is_last : (pass : Pass) (x : Txn) (i : IsIn pass x) → IsLastTold pass x i.told
is_last pass x i = record { last = i.last; named = i.named; client = i.client }

pub in_next : (a b : Pass) (x : Txn) (told : Told) → IsIn a x → IsLastTold b x told → b.last ≡ a.last → IsStillOpen told → IsIn b x
in_next a b x told i is last on = record { told = told; last = is.last; named = is.named; client = is.client; kept = last ∙ i.kept; open_is = on }

pub in_same : (a b : Pass) (x : Txn) → IsIn a x → said_of b ≡ said_of a → b.client ≡ a.client → b.last ≡ a.last → IsIn b x
in_same a b x i same client last = record {
  told = i.told;
  last = ap (λ (said : Steps). last_of (told_of said)) same ∙ i.last;
  named = i.named;
  client = i.client ∙ sym client;
  kept = last ∙ i.kept;
  open_is = i.open_is;
}

-- answered once more, it may go on where it might
pub on_answered : (t : Told) (op : Op ℕ) → IsStillOpen t → IsStillOpen (clients.answered op t)
on_answered t op (inl aborted) = inl aborted
on_answered t op (inr (none, unasked, free)) = inr (none, unasked, refl)

-- told to be aborted
pub record IsAborted (pass : Pass) (x : Txn) : Type 0 where
  pub told : Told
  pub is : IsLastTold pass x told
  pub why : Why ℕ
  pub ended : told.ended ≡ Some (AbortedBy why)

pub in_aborted : (b : Pass) (x : Txn) → b.last ≡ Some x → IsAborted b x → IsIn b x
in_aborted b x kept s = record { told = s.told; last = s.is.last; named = s.is.named; client = s.is.client; kept = kept; open_is = inl (s.why, s.ended) }

pub between_aborted : (b : Pass) (x : Txn) → IsAborted b x → HasNotSignedOff b → IsBetween b
between_aborted b x s here = between_over b x s.told (AbortedBy s.why) s.is s.ended here

pub write_stands : (hall : Hall) (a b : Pass) (x : Txn) (key : ℕ) (value : Option (List ℕ)) (result : Result (Unit {0}) Refused) → IsIn a x → TellsCalls hall a b (WriteSays x key value result) → b.last ≡ a.last → StaysIn result a b x
write_stands hall a b x key value (Ok done) i t last =
    let m : MakesCalls hall a b ((desk.Write x key value, desk.Done) ∷ []) = subst (MakesCalls hall a b) t.says t.made in
    let is = next_told hall a b x i.told (desk.Write x key value) desk.Done m (is_last a x i) refl (λ ts. refl) refl in (
      in_next a b x (told_next (desk.Write x key value) desk.Done i.told) i is last (on_answered i.told (write_op key value) i.open_is),
      λ h. here_next hall a b x.client (desk.Write x key value) desk.Done m refl i.client refl ∙ h,
      tt,
    )
write_stands hall a b x key value (Err (refused.Aborted why)) i t last =
    let m : MakesCalls hall a b ((desk.Write x key value, desk.Aborted why) ∷ []) = subst (MakesCalls hall a b) t.says t.made in
    let is = next_told hall a b x i.told (desk.Write x key value) (desk.Aborted why) m (is_last a x i) refl (λ ts. refl) refl in
    let s : IsAborted b x = record { told = told_next (desk.Write x key value) (desk.Aborted why) i.told; is = is; why = why; ended = refl } in
    let here : has_signed_off (said_of b) ≡ has_signed_off (said_of a) = here_next hall a b x.client (desk.Write x key value) (desk.Aborted why) m refl i.client refl in (
      in_aborted b x (last ∙ i.kept) s,
      λ h. here ∙ h,
      λ h. between_aborted b x s (here ∙ h),
    )
write_stands hall a b x key value (Err refused.Memory) i t last =
    let m : MakesCalls hall a b [] = subst (MakesCalls hall a b) t.says t.made in (in_same a b x i (same_said hall a b m) m.client last, λ h. ap has_signed_off (same_said hall a b m) ∙ h, tt)

pub abort_stands : (hall : Hall) (a b : Pass) (x : Txn) (why : Why ℕ) → IsIn a x → TellsCalls hall a b (λ calls. calls ≡ (desk.Abort x, desk.Aborted why) ∷ []) → HasNotSignedOff a → IsBetween b
abort_stands hall a b x why i t here =
    let m : MakesCalls hall a b ((desk.Abort x, desk.Aborted why) ∷ []) = subst (MakesCalls hall a b) t.says t.made in
    let is = next_told hall a b x i.told (desk.Abort x) (desk.Aborted why) m (is_last a x i) refl (λ ts. refl) refl in
    between_over b x (told_next (desk.Abort x) (desk.Aborted why) i.told) (AbortedBy why) is refl (here_next hall a b x.client (desk.Abort x) (desk.Aborted why) m refl i.client refl ∙ here)
