-- Which calls the desk takes of a client, by what it was told.
use Rattle.std.proofs.Common.{◌≡◌, ℕ, Bool, false, List, Option, Some, None, ap, subst, ◌∙◌, inl, inr}
use Rattle.std.specs.Option.{option_map}
use Rattle.ob_serial.specs.declared.records.Outcome.{Outcome}
use Rattle.ob_desk.specs.Desk.{Call, Reply, DeskState, IsLast, IsFree, HasNotAsked, client_at}
use Rattle.ob_desk.specs.declared.calls.Txn.{Txn}
use Rattle.ob_session.specs.Clients.{Told, told_of, last_of}
use Rattle.ob_session.specs.Agreeing.{Agrees, IsTxnKnown, IsLastKnown}
use Rattle.ob_hall.specs.Calling.{IsStillOpen}

-- ---- in a transaction

pub last_is : (d : DeskState) (number : ℕ) (said : List (Call × Reply)) (x : Txn) (t : Told) → Agrees d number said → last_of (told_of said) ≡ Some t → t.txn ≡ x → x.client ≡ number → IsLast d x
last_is d number said x t agrees is named client = record {
  client = agrees.client;
  found = ap (client_at d) client ∙ agrees.found;
  last = agrees.last ∙ (ap (λ (o : Option Told). option_map (λ t. t.txn) o) is ∙ ap (λ (y : Txn). Some y) named);
}

known_free : (d : DeskState) (t : Told) → IsLastKnown d (Some t) → IsStillOpen t → IsFree d t.txn
known_free d t known (inl (why, is)) = let k = subst (λ (e : Option (Outcome ℕ)). IsTxnKnown d t.txn t.waiting t.asked e) is known in inl (why, k.0)
known_free d t known (inr (none, unasked, free)) =
    let k = subst (λ (e : Option (Outcome ℕ)). IsTxnKnown d t.txn t.waiting t.asked e) none known in
    let h = subst (λ (b : Bool). IsTxnKnown d t.txn t.waiting b None) unasked k in
    (subst (λ (w : Option ℕ). IsTxnKnown d t.txn w false None) free h).1

pub is_free : (d : DeskState) (number : ℕ) (said : List (Call × Reply)) (x : Txn) (t : Told) → Agrees d number said → last_of (told_of said) ≡ Some t → t.txn ≡ x → IsStillOpen t → IsFree d x
is_free d number said x t agrees is named on = subst (IsFree d) named (known_free d t (subst (IsLastKnown d) is agrees.known) on)

pub not_asked : (d : DeskState) (x : Txn) → IsFree d x → HasNotAsked d x
not_asked d x (inl aborted) = inl aborted
not_asked d x (inr free) = inr (free.0, free.1)
