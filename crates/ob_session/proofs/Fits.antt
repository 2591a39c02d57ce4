-- How one transaction stands, beside what its client was told of it.
use Rattle.std.proofs.Common.{◌≡◌, ℕ, true, if◌then◌else◌, List, [], ◌∷◌, ◌++◌, Option, None, Some, is_some, option_map, refl, sym, ap, ◌∙◌}
use Rattle.std.specs.Option.{option_or}
use Rattle.std.proofs.lemmas.Bool.{false≢true}
use Rattle.std.proofs.lemmas.Option.{none-some, same_Some}
use Rattle.ob_base.specs.declared.fault.Fault.{Fault}
use Rattle.ob_base.specs.declared.op.Op.{Op}
use Rattle.ob_serial.specs.declared.records.Why.{Why}
use Rattle.ob_serial.specs.declared.records.Why.TheVariants.{Depends, Asked, Stopped}
use Rattle.ob_serial.specs.declared.records.Outcome.{Outcome}
use Rattle.ob_serial.specs.declared.records.Outcome.TheVariants.{Aborted as AbortedBy}
use Rattle.ob_order.specs.declared.fate.Fate.{Fate}
use Rattle.ob_order.specs.declared.fate.Fate.TheVariants.{Going, Ended, Fell}
use Rattle.ob_order.specs.Works.{Work, is_going, add_op, wait_for, end_work, stop_work, fall}
use Rattle.ob_order.specs.Order.{fresh, write_op}
use Rattle.ob_desk.specs.declared.calls.Txn.{Txn}
use Rattle.ob_desk.specs.declared.clients.Holder.{Holder}
use Rattle.ob_desk.specs.Desk.{why_of, new_holder, note_asked, note_cause, stop_holder}
use Rattle.ob_session.specs.Clients.{Told, begun, answered, over}
use Rattle.ob_session.specs.Records.{unsourced, all_unsourced}

-- a cause is noted of whoever ended in a call of its own or was stopped, and of nobody who goes on
abbrev pub IsCaused : Fate → Option (Why ℕ) → Type 0
IsCaused Going cause = cause ≡ None
IsCaused Ended cause = is_some cause ≡ true
IsCaused (Fell on) cause = Unit {0}

pub record Stands (f : Fate) (cause : Option (Why ℕ)) (ended : Option (Outcome ℕ)) : Type 0 where
  pub caused : IsCaused f cause
  pub as_told : (o : Outcome ℕ) → ended ≡ Some o → option_map AbortedBy (why_of f cause) ≡ Some o
  pub by_client : why_of f cause ≡ Some Asked → ended ≡ Some (AbortedBy Asked)

-- ---- the fate and its cause

stands_begun : Stands Going None None
stands_begun = record { caused = refl; as_told = λ o e. absurd (none-some o e); by_client = λ e. absurd (none-some Asked e) }

stands_fell : (f : Fate) (cause : Option (Why ℕ)) (ended : Option (Outcome ℕ)) (on : ℕ) → Stands f cause ended → Stands (if is_going f then Fell on else f) cause ended
stands_fell Going cause ended on h = record {
  caused = tt;
  as_told = λ o e. absurd (none-some o (h.as_told o e));
  by_client = λ e. absurd (let same : Depends on ≡ Asked = same_Some (Depends on) Asked e in cc);
}
stands_fell Ended cause ended on h = h
stands_fell (Fell s) cause ended on h = h

stands_stopped : (f : Fate) (cause : Option (Why ℕ)) (ended : Option (Outcome ℕ)) (fault : Fault) → Stands f cause ended → Stands (if is_going f then Ended else f) (option_or cause (Some (Stopped fault))) ended
stands_stopped Going None ended fault h = record {
  caused = refl;
  as_told = λ o e. absurd (none-some o (h.as_told o e));
  by_client = λ e. absurd (let same : Stopped fault ≡ Asked = same_Some (Stopped fault) Asked e in cc);
}
stands_stopped Going (Some c) ended fault h = absurd (none-some c (sym h.caused))
stands_stopped Ended None ended fault h = absurd (false≢true h.caused)
stands_stopped Ended (Some c) ended fault h = h
stands_stopped (Fell s) cause ended fault h = record { caused = tt; as_told = h.as_told; by_client = h.by_client }

stands_ended : (f : Fate) (cause : Option (Why ℕ)) (ended : Option (Outcome ℕ)) (why : Why ℕ) → (why ≡ Asked → ⊥) → is_going f ≡ true → Stands f cause ended → Stands Ended (Some why) ended
stands_ended Going cause ended why other going h = record {
  caused = refl;
  as_told = λ o e. absurd (none-some o (h.as_told o e));
  by_client = λ e. absurd (other (same_Some why Asked e));
}
stands_ended Ended cause ended why other going h = absurd (false≢true going)
stands_ended (Fell s) cause ended why other going h = absurd (false≢true going)

stands_told : (why : Why ℕ) → Stands Ended (Some why) (Some (AbortedBy why))
stands_told why = record { caused = refl; as_told = λ o e. e; by_client = λ e. ap (λ w. Some (AbortedBy w)) (same_Some why Asked e) }

stands_over : (f : Fate) (cause : Option (Why ℕ)) (ended : Option (Outcome ℕ)) (o : Outcome ℕ) → option_map AbortedBy (why_of f cause) ≡ Some o → Stands f cause ended → Stands f cause (Some o)
stands_over f cause ended o is h = record { caused = h.caused; as_told = λ p e. is ∙ e; by_client = λ e. sym is ∙ ap (option_map AbortedBy) e }

-- ---- the transaction

-- this client's transaction of this epoch and ticket
abbrev pub name : ℕ → ℕ → ℕ → Txn
name n epoch t = record { client = n; epoch = epoch; ticket = t }

pub record Fits (n epoch t : ℕ) (w : Work) (h : Holder) (one : Told) : Type 0 where
  pub named : one.txn ≡ name n epoch t
  pub ops : all_unsourced w.ops ≡ one.ops
  pub waiting : w.waiting ≡ one.waiting
  pub asked : h.asked ≡ one.asked
  pub stands : Stands w.fate h.cause one.ended

pub named_ticket : (n epoch t : ℕ) (w : Work) (h : Holder) (one : Told) → Fits n epoch t w h one → one.txn.ticket ≡ t
named_ticket n epoch t w h one f = ap (λ (x : Txn). x.ticket) f.named

unsourced_push : (ops : List (Op ℕ)) (op : Op ℕ) → all_unsourced (ops ++ op ∷ []) ≡ all_unsourced ops ++ unsourced op ∷ []
unsourced_push [] op = refl
unsourced_push (o ∷ ops) op = ap (λ os. unsourced o ∷ os) (unsourced_push ops op)

pub unsourced_write : (k : ℕ) (value : Option (List ℕ)) → unsourced (write_op k value) ≡ write_op k value
unsourced_write k None = refl
unsourced_write k (Some v) = refl

pub fits_begun : (n epoch t : ℕ) → Fits n epoch t fresh (new_holder n) (begun (name n epoch t))
fits_begun n epoch t = record { named = refl; ops = refl; waiting = refl; asked = refl; stands = stands_begun }

module _ (n epoch t : ℕ) (w : Work) (h : Holder) (one : Told) where
  pub fits_answered : (op told_op : Op ℕ) → unsourced op ≡ told_op → Fits n epoch t w h one → Fits n epoch t (add_op op w) h (answered told_op one)
  fits_answered op told_op same f = record {
    named = f.named;
    ops = unsourced_push w.ops op ∙ (ap (λ os. os ++ unsourced op ∷ []) f.ops ∙ ap (λ (o : Op ℕ). one.ops ++ o ∷ []) same);
    waiting = refl;
    asked = f.asked;
    stands = f.stands;
  }

  pub fits_waits : (k : ℕ) → Fits n epoch t w h one → Fits n epoch t (wait_for k w) h (record one { waiting = Some k })
  fits_waits k f = record { named = f.named; ops = f.ops; waiting = refl; asked = f.asked; stands = f.stands }

  pub fits_still : (o : Option ℕ) → w.waiting ≡ o → Fits n epoch t w h one → Fits n epoch t w h (record one { waiting = o })
  fits_still o is f = record { named = f.named; ops = f.ops; waiting = is; asked = f.asked; stands = f.stands }

  pub fits_asked : Fits n epoch t w h one → Fits n epoch t w (note_asked h) (record one { asked = true })
  fits_asked f = record { named = f.named; ops = f.ops; waiting = f.waiting; asked = refl; stands = f.stands }

  pub fits_over : (o : Outcome ℕ) → option_map AbortedBy (why_of w.fate h.cause) ≡ Some o → Fits n epoch t w h one → Fits n epoch t w h (over o one)
  fits_over o is f = record { named = f.named; ops = f.ops; waiting = f.waiting; asked = f.asked; stands = stands_over w.fate h.cause one.ended o is f.stands }

  -- it was aborted in a call of its own, and told so
  pub fits_ended : (why : Why ℕ) → Fits n epoch t w h one → Fits n epoch t (end_work w) (note_cause why h) (over (AbortedBy why) one)
  fits_ended why f = record { named = f.named; ops = f.ops; waiting = f.waiting; asked = f.asked; stands = stands_told why }

  -- at a close
  pub fits_closed : (why : Why ℕ) → (why ≡ Asked → ⊥) → is_going w.fate ≡ true → Fits n epoch t w h one → Fits n epoch t (end_work w) (note_cause why h) one
  fits_closed why other going f = record { named = f.named; ops = f.ops; waiting = f.waiting; asked = f.asked; stands = stands_ended w.fate h.cause one.ended why other going f.stands }

  pub fits_stopped : (fault : Fault) → Fits n epoch t w h one → Fits n epoch t (stop_work w) (stop_holder fault h) one
  fits_stopped fault f = record { named = f.named; ops = f.ops; waiting = f.waiting; asked = f.asked; stands = stands_stopped w.fate h.cause one.ended fault f.stands }

  pub fits_fell : (on : Option ℕ) → Fits n epoch t w h one → Fits n epoch t (fall on w) h one
  fits_fell None f = f
  fits_fell (Some on) f = record { named = f.named; ops = f.ops; waiting = f.waiting; asked = f.asked; stands = stands_fell w.fate h.cause one.ended on f.stands }
