-- What a change of the running part leaves of the tie to one client.
use Rattle.std.proofs.Common.{◌≡◌, ℕ, ◌<◌, Bool, List, [], ◌++◌, length, Option, None, Some, option_map, refl, sym, ap, ◌∙◌, subst, arith}
use Rattle.std.proofs.lemmas.Option.{none-some, same_Some}
use Rattle.ob_serial.specs.declared.records.Why.{Why}
use Rattle.ob_serial.specs.declared.records.Outcome.{Outcome}
use Rattle.ob_serial.specs.declared.records.Outcome.TheVariants.{Aborted as AbortedBy}
use Rattle.ob_serial.specs.Serial.{TxnRecord}
use Rattle.ob_order.specs.Works.{Work, at_ticket, edit, end_work}
use Rattle.ob_order.specs.Order.{OrderState}
use Rattle.ob_shares.specs.Shares.{Uses}
use Rattle.ob_desk.specs.declared.calls.Txn.{Txn}
use Rattle.ob_desk.specs.declared.clients.Holder.{Holder}
use Rattle.ob_desk.specs.declared.clients.Client.{Client}
use Rattle.ob_desk.specs.Desk.{Part, DeskState, client_at, outcome_at, note_cause, end_of, IsLast, IsLive}
use Rattle.ob_session.specs.Clients.{Told, on_last, last_of, over}
use Rattle.ob_session.proofs.Lasts.{last_of-on_last, on_last-append, on_last_twice}
use Rattle.ob_session.proofs.Fits.{Fits, named_ticket, fits_over, fits_ended}
use Rattle.ob_session.proofs.Parts.{FitsClosed, Tells, told_at, retold, cascaded}
use Rattle.ob_session.proofs.Rolls.{IsOnly}
use Rattle.ob_session.proofs.State.{Shut, Before, Runs, Closes, WasSettled, Last, is_none, runs, closes, was_settled, Mirror, last_runs, none_more, held, why_is, outcome_running, outcome_closed, outcome_before}

-- nothing happened
pub same : (d new : DeskState) (n : ℕ) (txns : List (TxnRecord ℕ)) (told : List Told) (signed : Bool) → new ≡ d → Mirror d n txns told signed → Mirror new n txns told signed
same d new n txns told signed e m = subst (λ (q : DeskState). Mirror q n txns told signed) (sym e) m

-- nothing changed for this client
pub in_running : {u : Uses} (d new : DeskState) (n : ℕ) (txns : List (TxnRecord ℕ)) (told : List Told) (signed : Bool) (o : OrderState) (hs : List Holder) → new ≡ record d { running = record d.running { order = o; holders = hs; uses = u } }
    → ((running : List Told) → Tells n d.running.epoch d.running.order.works d.running.holders running → Tells n d.running.epoch o.works hs running) → Mirror d n txns told signed → Mirror new n txns told signed
in_running d new n txns told signed o hs e keep m = subst (λ (q : DeskState). Mirror q n txns told signed) (sym e) (record {
  client = m.client;
  found = m.found;
  signed_off = m.signed_off;
  past = m.past;
  shut = m.shut;
  running = m.running;
  split = m.split;
  tells = m.tells;
  runs = keep m.running m.runs;
  closed = m.closed;
  last = m.last;
})

-- ---- the client's own transaction

-- its client is found
pub its_client : (d : DeskState) (n : ℕ) (x : Txn) (client : Client) → IsOnly d.clients n client → x.client ≡ n → IsLast d x → client_at d n ≡ Some client
its_client d n x client only named h = let found : client_at d n ≡ Some h.client = ap (client_at d) (sym named) ∙ h.found in found ∙ ap Some (only h.client found)

pub its_last : (d : DeskState) (n : ℕ) (x : Txn) (client : Client) → IsOnly d.clients n client → x.client ≡ n → IsLast d x → client.last ≡ Some x
its_last d n x client only named h = ap (λ (c : Client). c.last) (sym (only h.client (ap (client_at d) (sym named) ∙ h.found))) ∙ h.last

shut_before : (n epoch : ℕ) (closed : Option Part) (shut : List Told) (one : Told) → Shut n epoch closed shut → last_of shut ≡ Some one → one.txn.epoch < epoch
shut_before n epoch None shut one h last = absurd (none-some one (sym (ap last_of h) ∙ last))
shut_before n epoch (Some part) shut one h last =
    let q = held (FitsClosed n part.epoch) n part.order.works part.holders shut one (λ t w y x f. named_ticket n part.epoch t w y x f.fits) h.1 last in
    let e : one.txn.epoch ≡ part.epoch = ap (λ (x : Txn). x.epoch) q.fits.fits.named in
    let l : part.epoch < epoch = h.0 in
    omega (arith, e, l)

-- the client's last transaction runs, and is this one
pub record RunsAs (x : Txn) (client : Client) (running : List Told) : Type 0 where
  pub it : Runs client running
  pub is : it.one.txn ≡ x

pub live_runs : (d : DeskState) (n : ℕ) (txns : List (TxnRecord ℕ)) (told : List Told) (signed : Bool) (x : Txn) (m : Mirror d n txns told signed) → IsLast d x → x.client ≡ n → IsLive d x → RunsAs x m.client m.running
live_runs d n txns told signed x m h named live = step m.last
  where
    last : m.client.last ≡ Some x
    last = its_last d n x m.client m.found named h

    step : Last n d.running.epoch d.closed d.stop txns m.client m.past m.shut m.running → RunsAs x m.client m.running
    step (is_none e) = absurd (none-some x (sym e.last ∙ last))
    step (runs r) = record { it = r; is = same_Some r.one.txn x (sym r.last ∙ last) }
    step (closes c) =
        let before = shut_before n d.running.epoch d.closed m.shut c.one m.closed c.is in
        let e : c.one.txn.epoch ≡ x.epoch = ap (λ (y : Txn). y.epoch) (same_Some c.one.txn x (sym c.last ∙ last)) in
        let here : x.epoch ≡ d.running.epoch = live.runs in
        absurd (omega (arith, before, e, here))
    step (was_settled s) =
        let before : s.one.txn.epoch < d.running.epoch = s.before in
        let e : s.one.txn.epoch ≡ x.epoch = ap (λ (y : Txn). y.epoch) (same_Some s.one.txn x (sym s.last ∙ last)) in
        let here : x.epoch ≡ d.running.epoch = live.runs in
        absurd (omega (arith, before, e, here))

-- it changes, and what was told of it
pub own_edited : {u : Uses} (d new : DeskState) (n : ℕ) (txns : List (TxnRecord ℕ)) (told : List Told) (signed : Bool) (x : Txn) (f : Work → Work) (g : Holder → Holder) (k : Told → Told) (o : OrderState) (hs : List Holder)
    → (m : Mirror d n txns told signed) → RunsAs x m.client m.running → ((h : Holder) → (g h).client ≡ h.client) → ((one : Told) → (k one).txn ≡ one.txn)
    → ((w : Work) (h : Holder) (one : Told) → at_ticket d.running.order.works x.ticket ≡ Some w → at_ticket d.running.holders x.ticket ≡ Some h → Fits n d.running.epoch x.ticket w h one → Fits n d.running.epoch x.ticket (f w) (g h) (k one))
    → o.works ≡ edit f d.running.order.works x.ticket → hs ≡ edit g d.running.holders x.ticket → new ≡ record d { running = record d.running { order = o; holders = hs; uses = u } } → Mirror new n txns (on_last k told) signed
own_edited d new n txns told signed x f g k o hs m r keeps name_kept fit works_are holders_are e = subst (λ (q : DeskState). Mirror q n txns (on_last k told) signed) (sym e) (record {
  client = m.client;
  found = m.found;
  signed_off = m.signed_off;
  past = m.past;
  shut = m.shut;
  running = on_last k m.running;
  split = ap (on_last k) m.split
      ∙ (on_last-append k m.past (m.shut ++ m.running) r.it.one (last_runs [] m.shut m.running r.it.one r.it.is)
      ∙ ap (λ (ys : List Told). m.past ++ ys) (on_last-append k m.shut m.running r.it.one r.it.is));
  tells = m.tells;
  runs = subst (λ (ws : List Work). Tells n d.running.epoch ws hs (on_last k m.running)) (sym works_are)
      (subst (λ (ys : List Holder). Tells n d.running.epoch (edit f d.running.order.works x.ticket) ys (on_last k m.running)) (sym holders_are)
      (told_at (Fits n d.running.epoch) n (named_ticket n d.running.epoch) f g k x.ticket d.running.order.works d.running.holders m.running r.it.one keeps
      (ap (λ (y : Txn). y.ticket) r.is) r.it.is (λ w h. fit w h r.it.one) m.runs));
  closed = m.closed;
  last = runs (record { one = k r.it.one; is = last_of-on_last k m.running r.it.one r.it.is; last = r.it.last ∙ ap Some (sym (name_kept r.it.one)); unsettled = r.it.unsettled });
})

-- it is aborted, and told so
pub own_ended : {u : Uses} (d new : DeskState) (n : ℕ) (txns : List (TxnRecord ℕ)) (told : List Told) (signed : Bool) (x : Txn) (why : Why ℕ) → (m : Mirror d n txns told signed) → RunsAs x m.client m.running
    → new ≡ record d { running = record (end_of d.running x.ticket why) { uses = u } } → Mirror new n txns (on_last (over (AbortedBy why)) told) signed
own_ended d new n txns told signed x why m r e =
    let ws : List Work = edit end_work d.running.order.works x.ticket in
    let hs : List Holder = edit (note_cause why) d.running.holders x.ticket in
    let mid : DeskState = record d { running = record d.running { order = record d.running.order { works = ws }; holders = hs } } in
    in_running mid new n txns (on_last (over (AbortedBy why)) told) signed (end_of d.running x.ticket why).order hs e
    (λ running tells. cascaded n d.running.epoch d.running.order.works ws hs running (length d.running.order.works) tells)
    (own_edited d mid n txns told signed x end_work (note_cause why) (over (AbortedBy why)) (record d.running.order { works = ws }) hs m r (λ h. refl) (λ one. refl)
    (λ w h one at_work at_holder fits. fits_ended n d.running.epoch x.ticket w h one why fits) refl refl refl)

-- ---- told how it ended

module _ (d : DeskState) (n : ℕ) (txns : List (TxnRecord ℕ)) (told : List Told) (signed : Bool) (x : Txn) (o : Outcome ℕ) (m : Mirror d n txns told signed) (named : x.client ≡ n) (is : outcome_at d x ≡ Some o) (h : IsLast d x) where
  here : client_at d n ≡ Some m.client
  here = its_client d n x m.client m.found named h

  over_running : RunsAs x m.client m.running → Mirror d n txns (on_last (over o) told) signed
  over_running r = record {
    client = m.client;
    found = m.found;
    signed_off = m.signed_off;
    past = m.past;
    shut = m.shut;
    running = on_last (over o) m.running;
    split = ap (on_last (over o)) m.split
        ∙ (on_last-append (over o) m.past (m.shut ++ m.running) r.it.one (last_runs [] m.shut m.running r.it.one r.it.is)
        ∙ ap (λ (ys : List Told). m.past ++ ys) (on_last-append (over o) m.shut m.running r.it.one r.it.is));
    tells = m.tells;
    runs = retold (Fits n d.running.epoch) n (named_ticket n d.running.epoch) (over o) d.running.order.works d.running.holders m.running r.it.one r.it.is (λ w h at_work at_holder fits.
        fits_over n d.running.epoch r.it.one.txn.ticket w h r.it.one o
        (sym (ap (option_map AbortedBy) (why_is d.running r.it.one.txn.ticket w h at_work at_holder))
        ∙ (sym (outcome_running d n r.it.one.txn m.client (ap (λ (y : Txn). y.epoch) fits.named) (ap (λ (y : Txn). y.client) fits.named) here r.it.unsettled)
        ∙ (ap (outcome_at d) r.is ∙ is))) fits) m.runs;
    closed = m.closed;
    last = runs (record { one = over o r.it.one; is = last_of-on_last (over o) m.running r.it.one r.it.is; last = r.it.last; unsettled = r.it.unsettled });
  }

  over_shut : (c : Closes m.client m.shut m.running) → c.one.txn ≡ x → (closed : Option Part) → d.closed ≡ closed → Shut n d.running.epoch closed m.shut → Shut n d.running.epoch closed (on_last (over o) m.shut)
  over_shut c e None at shut = ap (on_last (over o)) shut
  over_shut c e (Some part) at shut = (
    shut.0,
    retold (FitsClosed n part.epoch) n (λ t w h y f. named_ticket n part.epoch t w h y f.fits) (over o) part.order.works part.holders m.shut c.one c.is
        (λ w h at_work at_holder f. record {
          fits = fits_over n part.epoch c.one.txn.ticket w h c.one o
              (sym (ap (option_map AbortedBy) (why_is part c.one.txn.ticket w h at_work at_holder))
              ∙ (sym (outcome_closed d n c.one.txn m.client part at (ap (λ (y : Txn). y.epoch) f.fits.named) shut.0 (ap (λ (y : Txn). y.client) f.fits.named) here c.unsettled)
              ∙ (ap (outcome_at d) e ∙ is))) f.fits;
          asked = f.asked;
        }) shut.1,
  )

  over_closed : (c : Closes m.client m.shut m.running) → c.one.txn ≡ x → Mirror d n txns (on_last (over o) told) signed
  over_closed c e = record {
    client = m.client;
    found = m.found;
    signed_off = m.signed_off;
    past = m.past;
    shut = on_last (over o) m.shut;
    running = m.running;
    split = ap (on_last (over o)) (m.split ∙ ap (λ (ys : List Told). m.past ++ ys) (none_last m.shut m.running c.none_runs))
        ∙ (on_last-append (over o) m.past m.shut c.one c.is ∙ ap (λ (ys : List Told). m.past ++ ys) (sym (none_last (on_last (over o) m.shut) m.running c.none_runs)));
    tells = m.tells;
    runs = m.runs;
    closed = over_shut c e d.closed refl m.closed;
    last = closes (record { none_runs = c.none_runs; one = over o c.one; is = last_of-on_last (over o) m.shut c.one c.is; last = c.last; unsettled = c.unsettled });
  }
    where
      none_last : (xs ys : List Told) → ys ≡ [] → xs ++ ys ≡ xs
      none_last xs ys none = none_more xs [] ys none refl

  over_past : (s : WasSettled n d.running.epoch d.closed d.stop txns m.client m.past m.shut m.running) → s.one.txn ≡ x → Mirror d n txns (on_last (over o) told) signed
  over_past s e = subst (λ (p : Outcome ℕ). Mirror d n txns (on_last (over p) told) signed) alike (record {
    client = m.client;
    found = m.found;
    signed_off = m.signed_off;
    past = on_last (over s.outcome) m.past;
    shut = m.shut;
    running = m.running;
    split = ap (on_last (over s.outcome)) (m.split ∙ none_more m.past m.shut m.running s.none_runs s.none_closed) ∙ sym (none_more (on_last (over s.outcome) m.past) m.shut m.running s.none_runs s.none_closed);
    tells = s.keeps;
    runs = m.runs;
    closed = m.closed;
    last = was_settled (record {
      none_runs = s.none_runs;
      none_closed = s.none_closed;
      one = over s.outcome s.one;
      is = last_of-on_last (over s.outcome) m.past s.one s.is;
      last = s.last;
      named = s.named;
      before = s.before;
      apart = s.apart;
      outcome = s.outcome;
      settled = s.settled;
      as_told = λ p is. same_Some s.outcome p is;
      unasked = s.unasked;
      by_client = λ given_up. ap Some given_up;
      keeps = subst (λ (ys : List Told). Before n d.closed d.stop txns ys) (sym (on_last_twice (over s.outcome) m.past s.one s.is (λ y. refl))) s.keeps;
    });
  })
    where
      alike : s.outcome ≡ o
      alike = same_Some s.outcome o (sym s.settled ∙ (sym (outcome_before d n s.one.txn m.client s.before s.apart s.named here) ∙ (ap (outcome_at d) e ∙ is)))

  pub over_told : Mirror d n txns (on_last (over o) told) signed
  over_told = step m.last
    where
      last : m.client.last ≡ Some x
      last = its_last d n x m.client m.found named h

      step : Last n d.running.epoch d.closed d.stop txns m.client m.past m.shut m.running → Mirror d n txns (on_last (over o) told) signed
      step (is_none e) = absurd (none-some x (sym e.last ∙ last))
      step (runs r) = over_running (record { it = r; is = same_Some r.one.txn x (sym r.last ∙ last) })
      step (closes c) = over_closed c (same_Some c.one.txn x (sym c.last ∙ last))
      step (was_settled s) = over_past s (same_Some s.one.txn x (sym s.last ∙ last))
