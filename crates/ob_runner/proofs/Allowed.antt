-- Which calls the desk takes of a runner, and what it can't be answered.
use Rattle.std.proofs.Common.{◌≡◌, ◌<◌, ℕ, Bool, true, false, List, [], ◌∷◌, Option, Some, None, sym, ap, subst, ◌∙◌, inl, inr}
use Rattle.std.specs.Prelude.{◌⊎◌, is_some}
use Rattle.std.specs.Option.{option_map}
use Rattle.std.proofs.lemmas.Option.{none-some, same_Some}
use Rattle.ob_serial.specs.declared.records.Why.{Why}
use Rattle.ob_serial.specs.declared.records.Why.TheVariants.{Asked, Conflict, ReadsFull, ShareReads, ShareWrites, WritesFull}
use Rattle.ob_serial.specs.declared.records.Outcome.{Outcome}
use Rattle.ob_serial.specs.declared.records.Outcome.TheVariants.{Aborted as AbortedBy}
use Rattle.ob_order.specs.declared.answers.Wrote.{Wrote}
use Rattle.ob_order.specs.declared.answers.Wrote.TheVariants.{Yes, Conflict as Conflicts, Full as WritesAreFull}
use Rattle.ob_order.specs.Order.{write_reply}
use Rattle.ob_desk.specs.Desk as desk
use Rattle.ob_desk.specs.Desk.{Call, Reply, DeskState, MayCall, DeskStep, IsLast, IsLive, IsFree, HasNotAsked, client_at, outcome_at, asked_at, waiting_at, why_refused}
use Rattle.ob_desk.specs.declared.calls.Txn.{Txn}
use Rattle.ob_session.specs.Clients.{Told, told_of, last_of, has_signed_off}
use Rattle.ob_session.specs.Agreeing.{Agrees, IsTxnKnown, IsLastKnown, IsOpenTxn, IsNotGivenUp}
use Rattle.ob_session.proofs.Between as between
use Rattle.ob_script.specs.Script.{ScriptTxn}
use Rattle.ob_runner.specs.Places.{RunnerState, ArePast, HasEnded, IsCurrent}
use Rattle.ob_runner.proofs.Tellings.{last_more}
use Rattle.ob_runner.proofs.Works.{Works}

-- what the desk has of its client's last transaction
pub record IsKnownAt (d : DeskState) (x : Txn) (waiting : Option ℕ) (asked : Bool) : Type 0 where
  pub last : IsLast d x
  pub known : IsTxnKnown d x waiting asked None

known_as : (d : DeskState) (x : Txn) (waiting : Option ℕ) (asked : Bool) (t : Told) → IsCurrent x waiting asked t → IsLastKnown d (Some t) → IsTxnKnown d x waiting asked None
known_as d x waiting asked t current known =
    subst (λ (e : Option (Outcome ℕ)). IsTxnKnown d x waiting asked e) current.not_ended
    (subst (λ (b : Bool). IsTxnKnown d x waiting b t.ended) current.asked_is
    (subst (λ (w : Option ℕ). IsTxnKnown d x w t.asked t.ended) current.waiting_is
    (subst (λ (y : Txn). IsTxnKnown d y t.waiting t.asked t.ended) current.txn_is known)))

pub known_at : {P : ScriptTxn → Told → Type 0} (r : RunnerState) (d : DeskState) (said : List (Call × Reply)) (x : Txn) (waiting : Option ℕ) (asked : Bool) → Agrees d r.client said → Works r said x waiting asked P → IsKnownAt d x waiting asked
known_at r d said x waiting asked agrees w =
    let last : last_of (told_of said) ≡ Some w.t = ap (λ (ts : List Told). last_of ts) w.told_is ∙ last_more w.before w.t in
    record {
      last = record {
        client = agrees.client;
        found = ap (client_at d) w.named ∙ agrees.found;
        last = agrees.last ∙ ap (λ (o : Option Told). option_map (λ t. t.txn) o) last ∙ ap (λ (y : Txn). Some y) w.current.txn_is;
      };
      known = known_as d x waiting asked w.t w.current (subst (IsLastKnown d) last agrees.known);
    }

pub may_get : (d : DeskState) (x : Txn) (key : ℕ) → IsKnownAt d x None false → key < d.setup.params.keys → MayCall d (desk.GetKey x key)
may_get d x key known below = (known.last, known.known.1, below)

pub may_write : (d : DeskState) (x : Txn) (key : ℕ) (value : Option (List ℕ)) → IsKnownAt d x None false → key < d.setup.params.keys → MayCall d (desk.Write x key value)
may_write d x key value known below = (known.last, known.known.1, below)

pub may_commit : (d : DeskState) (x : Txn) → IsKnownAt d x None false → MayCall d (desk.Commit x)
may_commit d x known = (known.last, known.known.1)

not_asked : (d : DeskState) (x : Txn) → IsOpenTxn d x None → HasNotAsked d x
not_asked d x (inl aborted) = inl aborted
not_asked d x (inr open_is) = inr (open_is.0, open_is.1)

pub may_abort : (d : DeskState) (x : Txn) → IsKnownAt d x None false → MayCall d (desk.Abort x)
may_abort d x known = (known.last, not_asked d x known.known.1)

may_wait : (d : DeskState) (x : Txn) (key : ℕ) → IsOpenTxn d x (Some key) → ((why : Why ℕ) × (outcome_at d x ≡ Some (AbortedBy why))) ⊎ (IsLive d x × (is_some (waiting_at d.running x.ticket) ≡ true))
may_wait d x key (inl aborted) = inl aborted
may_wait d x key (inr open_is) = inr (open_is.0, ap (λ (o : Option ℕ). is_some o) open_is.2)

pub may_poll : (d : DeskState) (x : Txn) (key : ℕ) → IsKnownAt d x (Some key) false → MayCall d (desk.Poll x)
may_poll d x key known = (known.last, may_wait d x key known.known.1)

pub may_settle : (d : DeskState) (x : Txn) → IsKnownAt d x None true → MayCall d (desk.Settled x)
may_settle d x known = known.last

-- ---- between transactions

last_ended : (txns : List ScriptTxn) (told : List Told) (t : Told) → ArePast txns told → last_of told ≡ Some t → HasEnded t
last_ended [] [] t past is = absurd (none-some t is)
last_ended [] (u ∷ told) t past is = absurd past
last_ended (q ∷ txns) [] t past is = absurd past
last_ended (q ∷ txns) (u ∷ []) t (meant, ended, past) is = subst HasEnded (same_Some u t is) ended
last_ended (q ∷ txns) (u ∷ v ∷ told) t (meant, ended, past) is = last_ended txns (v ∷ told) t past is

pub may_begin : (r : RunnerState) (d : DeskState) (said : List (Call × Reply)) (txns : List ScriptTxn) → Agrees d r.client said → has_signed_off said ≡ false → ArePast txns (told_of said) → MayCall d (desk.Begin r.client)
may_begin r d said txns agrees none past = between.may_begin d r.client said agrees none (λ t is. last_ended txns (told_of said) t past is)

pub may_sign_off : (r : RunnerState) (d : DeskState) (said : List (Call × Reply)) (txns : List ScriptTxn) → Agrees d r.client said → has_signed_off said ≡ false → ArePast txns (told_of said) → MayCall d (desk.SignOff r.client)
may_sign_off r d said txns agrees none past = between.may_sign_off d r.client said agrees none (λ t is. last_ended txns (told_of said) t past is)

-- ---- that its client aborted it isn't answered to another call

earlier_not : (d : DeskState) (x : Txn) (why : Why ℕ) → IsNotGivenUp d x → outcome_at d x ≡ Some (AbortedBy why) → why ≡ Asked → ⊥
earlier_not d x why known is e = known (is ∙ ap (λ (w : Why ℕ). Some (AbortedBy w)) e)

refused_not : (reply : Wrote) (why : Why ℕ) → why_refused reply ≡ Some why → why ≡ Asked → ⊥
refused_not Yes why is e = none-some why is
refused_not (Conflicts key reader) why is e = let same : Conflict key reader ≡ Asked = same_Some _ why is ∙ e in cc same
refused_not (WritesAreFull keys) why is e = let same : WritesFull keys ≡ Asked = same_Some _ why is ∙ e in cc same

pub get_not_asked : (d new : DeskState) (x : Txn) (key : ℕ) (why : Why ℕ) → IsNotGivenUp d x → DeskStep d (desk.GetKey x key) (desk.Aborted why) new → why ≡ Asked → ⊥
get_not_asked d new x key why known (inl was) e = earlier_not d x why known was.earlier e
get_not_asked d new x key why known (inr (inl full)) e = let same : ReadsFull full.queued full.left ≡ Asked = sym full.cause ∙ e in cc same
get_not_asked d new x key why known (inr (inr past)) e = let same : ShareReads past.keys ≡ Asked = sym past.cause ∙ e in cc same

pub poll_not_asked : (d new : DeskState) (x : Txn) (why : Why ℕ) → IsNotGivenUp d x → DeskStep d (desk.Poll x) (desk.Aborted why) new → why ≡ Asked → ⊥
poll_not_asked d new x why known was e = earlier_not d x why known was.earlier e

pub write_not_asked : (d new : DeskState) (x : Txn) (key : ℕ) (value : Option (List ℕ)) (why : Why ℕ) → IsNotGivenUp d x → DeskStep d (desk.Write x key value) (desk.Aborted why) new → why ≡ Asked → ⊥
write_not_asked d new x key value why known (inl was) e = earlier_not d x why known was.earlier e
write_not_asked d new x key value why known (inr (inl refused)) e = refused_not (write_reply d.setup.params d.running.order x.ticket key) why refused.cause e
write_not_asked d new x key value why known (inr (inr past)) e = let same : ShareWrites past.keys ≡ Asked = sym past.cause ∙ e in cc same

pub commit_not_asked : (d new : DeskState) (x : Txn) (why : Why ℕ) → IsNotGivenUp d x → DeskStep d (desk.Commit x) (desk.Aborted why) new → why ≡ Asked → ⊥
commit_not_asked d new x why known was e = earlier_not d x why known was.earlier e
