-- What a call's condition says where the transaction isn't aborted.
use Rattle.std.proofs.Common.{◌≡◌, ℕ, true, Option, None, Some, is_some, ◌⊎◌, sym, ap, ◌∙◌, inl, inr}
use Rattle.std.proofs.lemmas.Option.{none-some, same_Some}
use Rattle.ob_desk.specs.Desk.{Why, Outcome, Committed, AbortedBy, UnsureOf}
use Rattle.ob_desk.specs.Desk.{DeskState, Txn, IsLive, IsFree, HasNotAsked, outcome_at, aborted_why, waiting_at}

pub was_aborted : (o : Option (Outcome ℕ)) (why : Why ℕ) → aborted_why o ≡ Some why → o ≡ Some (AbortedBy why)
was_aborted None why e = absurd (none-some why e)
was_aborted (Some Committed) why e = absurd (none-some why e)
was_aborted (Some (AbortedBy w)) why e = ap (λ x. Some (AbortedBy x)) (same_Some w why e)
was_aborted (Some (UnsureOf epoch)) why e = absurd (none-some why e)

pub free_live : (d : DeskState) (x : Txn) → IsFree d x → aborted_why (outcome_at d x) ≡ None → IsLive d x
free_live d x (inl a) e = absurd (none-some a.0 (sym e ∙ ap aborted_why a.1))
free_live d x (inr b) e = b.0

pub unasked_live : (d : DeskState) (x : Txn) → HasNotAsked d x → aborted_why (outcome_at d x) ≡ None → IsLive d x
unasked_live d x (inl a) e = absurd (none-some a.0 (sym e ∙ ap aborted_why a.1))
unasked_live d x (inr b) e = b.0

pub polled_live : (d : DeskState) (x : Txn) → ((why : Why ℕ) × (outcome_at d x ≡ Some (AbortedBy why))) ⊎ (IsLive d x × (is_some (waiting_at d.running x.ticket) ≡ true)) → aborted_why (outcome_at d x) ≡ None
    → IsLive d x × (is_some (waiting_at d.running x.ticket) ≡ true)
polled_live d x (inl a) e = absurd (none-some a.0 (sym e ∙ ap aborted_why a.1))
polled_live d x (inr b) e = b
