-- A copy that was refused, before it or in it.
use Rattle.std.proofs.Common.{◌⊎◌, ◌≤◌, ℕ, List, Option, Result, Ok, Err, OnErr, inl, inr, arith}
use Rattle.ob_base.specs.Causes.{Rose}
use Rattle.ob_base.specs.declared.fault.Failed.{Failed}
use Rattle.ob_store.specs.Calls.{NotesFirst}
use Rattle.ob_store.specs.declared.event.Event.{Event}
use Rattle.ob_store.proofs.Events.{none_noted}
use Rattle.ob_store.proofs.Serving.{rose_later}

pub none_copied : (events : List Event) (seen : Option (List Event)) → NotesFirst events seen seen
none_copied events seen = (0, omega arith, none_noted seen)

pub cause_later : (before mid after : ℕ) (Q : Type 0) (r : Result (Unit {0}) Failed) → before ≤ mid → OnErr r (Rose mid after ⊎ Q) → OnErr r (Rose before after ⊎ Q)
cause_later before mid after Q (Ok done) le cause = tt
cause_later before mid after Q (Err failed) le (inl rose) = inl (rose_later before mid after le rose)
cause_later before mid after Q (Err failed) le (inr q) = inr q

pub joined_cause : (before mid after : ℕ) (Q : Type 0) → before ≤ mid → Rose mid after ⊎ Q → Rose before after ⊎ Q
joined_cause before mid after Q le (inl rose) = inl (rose_later before mid after le rose)
joined_cause before mid after Q le (inr q) = inr q
