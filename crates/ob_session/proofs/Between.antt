-- The desk begins a transaction of a client, or signs it off, where its last one has ended.
use Rattle.std.proofs.Common.{◌≡◌, ℕ, false, List, Option, Some, None, refl, sym, ap, subst, ◌∙◌}
use Rattle.std.specs.Prelude.{is_some}
use Rattle.std.specs.Option.{option_map}
use Rattle.std.proofs.lemmas.Option.{none-some, same_Some}
use Rattle.ob_serial.specs.declared.records.Outcome.{Outcome}
use Rattle.ob_desk.specs.Desk as desk
use Rattle.ob_desk.specs.Desk.{Call, Reply, DeskState, MayCall, IsLive, IsHere, client_at, outcome_at}
use Rattle.ob_desk.specs.declared.calls.Txn.{Txn}
use Rattle.ob_desk.specs.declared.clients.Client.{Client}
use Rattle.ob_session.specs.Clients.{Told, told_of, last_of, has_signed_off}
use Rattle.ob_session.specs.Agreeing.{Agrees, IsTxnKnown, IsLastKnown}

-- it was told how the transaction ended
abbrev HasEnded : Told → Type 0
HasEnded t = (outcome : Outcome ℕ) × (t.ended ≡ Some outcome)

record IsEndedAt (d : DeskState) (x : Txn) : Type 0 where
  outcome : Outcome ℕ
  outcome_is : outcome_at d x ≡ Some outcome
  not_live : IsLive d x → ⊥

ended_known : (d : DeskState) (t : Told) → HasEnded t → IsLastKnown d (Some t) → IsEndedAt d t.txn
ended_known d t (outcome, is) known = let k = subst (λ (e : Option (Outcome ℕ)). IsTxnKnown d t.txn t.waiting t.asked e) is known in record { outcome = outcome; outcome_is = k.0; not_live = k.1 }

named_last : (o : Option Told) (x : Txn) → option_map (λ t. t.txn) o ≡ Some x → (t : Told) × (o ≡ Some t) × (t.txn ≡ x)
named_last None x is = absurd (none-some x is)
named_last (Some t) x is = (t, refl, same_Some t.txn x is)

ended_last : (d : DeskState) (number : ℕ) (said : List (Call × Reply)) → Agrees d number said → ((t : Told) → last_of (told_of said) ≡ Some t → HasEnded t) → (c : Client) (x : Txn) → client_at d number ≡ Some c → c.last ≡ Some x → IsEndedAt d x
ended_last d number said agrees over c x found is =
    let same : agrees.client ≡ c = same_Some agrees.client c (sym agrees.found ∙ found) in
    let last = named_last (last_of (told_of said)) x (sym agrees.last ∙ (ap (λ (q : Client). q.last) same ∙ is)) in
    subst (IsEndedAt d) last.2 (ended_known d last.0 (over last.0 last.1) (subst (IsLastKnown d) last.1 agrees.known))

here : (d : DeskState) (number : ℕ) (said : List (Call × Reply)) → Agrees d number said → has_signed_off said ≡ false → IsHere d number
here d number said agrees none = record { client = agrees.client; found = agrees.found; not_signed_off = agrees.signed_off ∙ none }

pub may_begin : (d : DeskState) (number : ℕ) (said : List (Call × Reply)) → Agrees d number said → has_signed_off said ≡ false → ((t : Told) → last_of (told_of said) ≡ Some t → HasEnded t) → MayCall d (desk.Begin number)
may_begin d number said agrees none over = (here d number said agrees none, λ c x found is. ap (λ (o : Option (Outcome ℕ)). is_some o) (ended_last d number said agrees over c x found is).outcome_is)

pub may_sign_off : (d : DeskState) (number : ℕ) (said : List (Call × Reply)) → Agrees d number said → has_signed_off said ≡ false → ((t : Told) → last_of (told_of said) ≡ Some t → HasEnded t) → MayCall d (desk.SignOff number)
may_sign_off d number said agrees none over = (here d number said agrees none, λ c x found is live. absurd ((ended_last d number said agrees over c x found is).not_live live))
