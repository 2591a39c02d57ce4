-- What a begin and a sign-off leave of the tie to one client.
use Rattle.std.proofs.Common.{◌≡◌, ℕ, suc, ◌+◌, Bool, true, List, [], ◌∷◌, ◌++◌, length, Option, refl, sym, ap, ap₂, ◌∙◌, subst, append_assoc, arith}
use Rattle.ob_base.specs.declared.fault.Fault.{Fault}
use Rattle.ob_serial.specs.Serial.{TxnRecord}
use Rattle.ob_order.specs.Order.{fresh}
use Rattle.ob_desk.specs.declared.calls.Txn.{Txn}
use Rattle.ob_desk.specs.declared.clients.Client.{Client}
use Rattle.ob_desk.specs.Desk.{Part, DeskState, new_holder, begin_client, sign_off_client, BeginStep, SignOffStep}
use Rattle.ob_session.specs.Clients.{Told, begun}
use Rattle.ob_session.proofs.Lasts.{last_of-append}
use Rattle.ob_session.proofs.Mirrors.{pushed_own, pushed_other}
use Rattle.ob_session.proofs.Fits.{Fits, name, fits_begun}
use Rattle.ob_session.proofs.State.{Last, is_none, runs, closes, was_settled, Mirror}
use Rattle.ob_session.proofs.Rolls.{only_changed, only_unchanged}

pub begun_own : (d new : DeskState) (n : ℕ) (txns : List (TxnRecord ℕ)) (told : List Told) (signed : Bool) (client : ℕ) (x : Txn) → client ≡ n → BeginStep d client x new → Mirror d n txns told signed
    → Mirror new n txns (told ++ begun x ∷ []) signed
begun_own d new n txns told signed client x same step m = subst (λ (q : DeskState). Mirror q n txns (told ++ begun x ∷ []) signed) (sym step.state) (record {
  client = begin_client x m.client;
  found = only_changed (begin_client x) (λ c. refl) d.clients client n m.client same m.found;
  signed_off = m.signed_off;
  past = m.past;
  shut = m.shut;
  running = m.running ++ begun x ∷ [];
  split = ap (λ (ys : List Told). ys ++ begun x ∷ []) m.split
      ∙ (append_assoc m.past (m.shut ++ m.running) (begun x ∷ []) ∙ ap (λ (ys : List Told). m.past ++ ys) (append_assoc m.shut m.running (begun x ∷ [])));
  tells = m.tells;
  runs = pushed_own (Fits n d.running.epoch) n 1 d.running.order.works d.running.holders m.running fresh (new_holder client) (begun x) same fit m.runs;
  closed = m.closed;
  last = runs (record { one = begun x; is = last_of-append m.running (begun x ∷ []) (begun x) refl; last = refl; unsettled = refl });
})
  where
    next : name n d.running.epoch (1 + length d.running.order.works) ≡ x
    next = ap₂ (λ (c t : ℕ). name c d.running.epoch t) (sym same) (let e : 1 + length d.running.order.works ≡ suc (length d.running.order.works) = omega arith in e) ∙ sym step.next

    fit : Fits n d.running.epoch (1 + length d.running.order.works) fresh (new_holder client) (begun x)
    fit = subst (λ c. Fits n d.running.epoch (1 + length d.running.order.works) fresh (new_holder c) (begun x)) (sym same)
        (subst (λ (y : Txn). Fits n d.running.epoch (1 + length d.running.order.works) fresh (new_holder n) (begun y)) next (fits_begun n d.running.epoch (1 + length d.running.order.works)))

pub begun_other : (d new : DeskState) (n : ℕ) (txns : List (TxnRecord ℕ)) (told : List Told) (signed : Bool) (client : ℕ) (x : Txn) → (client ≡ n → ⊥) → BeginStep d client x new → Mirror d n txns told signed → Mirror new n txns told signed
begun_other d new n txns told signed client x other step m = subst (λ (q : DeskState). Mirror q n txns told signed) (sym step.state) (record {
  client = m.client;
  found = only_unchanged (begin_client x) (λ c. refl) d.clients client n m.client other m.found;
  signed_off = m.signed_off;
  past = m.past;
  shut = m.shut;
  running = m.running;
  split = m.split;
  tells = m.tells;
  runs = pushed_other (Fits n d.running.epoch) n 1 d.running.order.works d.running.holders m.running fresh (new_holder client) other m.runs;
  closed = m.closed;
  last = m.last;
})

signed_last : (n epoch : ℕ) (closed : Option Part) (stop : Option Fault) (txns : List (TxnRecord ℕ)) (client : Client) (past shut running : List Told) → Last n epoch closed stop txns client past shut running
    → Last n epoch closed stop txns (sign_off_client client) past shut running
signed_last n epoch closed stop txns client past shut running (is_none h) = is_none (record { last = h.last; none_before = h.none_before; none_closed = h.none_closed; none_runs = h.none_runs })
signed_last n epoch closed stop txns client past shut running (runs r) = runs (record { one = r.one; is = r.is; last = r.last; unsettled = r.unsettled })
signed_last n epoch closed stop txns client past shut running (closes c) = closes (record { none_runs = c.none_runs; one = c.one; is = c.is; last = c.last; unsettled = c.unsettled })
signed_last n epoch closed stop txns client past shut running (was_settled s) = was_settled (record {
  none_runs = s.none_runs;
  none_closed = s.none_closed;
  one = s.one;
  is = s.is;
  last = s.last;
  named = s.named;
  before = s.before;
  apart = s.apart;
  outcome = s.outcome;
  settled = s.settled;
  as_told = s.as_told;
  unasked = s.unasked;
  by_client = s.by_client;
  keeps = s.keeps;
})

pub signed_own : (d new : DeskState) (n : ℕ) (txns : List (TxnRecord ℕ)) (told : List Told) (signed : Bool) (client : ℕ) → client ≡ n → SignOffStep d client new → Mirror d n txns told signed → Mirror new n txns told true
signed_own d new n txns told signed client same step m = subst (λ (q : DeskState). Mirror q n txns told true) (sym step.state) (record {
  client = sign_off_client m.client;
  found = only_changed sign_off_client (λ c. refl) d.clients client n m.client same m.found;
  signed_off = refl;
  past = m.past;
  shut = m.shut;
  running = m.running;
  split = m.split;
  tells = m.tells;
  runs = m.runs;
  closed = m.closed;
  last = signed_last n d.running.epoch d.closed d.stop txns m.client m.past m.shut m.running m.last;
})

pub signed_other : (d new : DeskState) (n : ℕ) (txns : List (TxnRecord ℕ)) (told : List Told) (signed : Bool) (client : ℕ) → (client ≡ n → ⊥) → SignOffStep d client new → Mirror d n txns told signed → Mirror new n txns told signed
signed_other d new n txns told signed client other step m = subst (λ (q : DeskState). Mirror q n txns told signed) (sym step.state) (record {
  client = m.client;
  found = only_unchanged sign_off_client (λ c. refl) d.clients client n m.client other m.found;
  signed_off = m.signed_off;
  past = m.past;
  shut = m.shut;
  running = m.running;
  split = m.split;
  tells = m.tells;
  runs = m.runs;
  closed = m.closed;
  last = m.last;
})
