-- What the ends of epochs and a stop leave of the tie to one client.
use Rattle.std.proofs.Common.{◌≡◌, ℕ, suc, ◌<◌, ◌==◌, Bool, false, if◌then◌else◌, List, [], ◌++◌, length, Option, None, Some, is_some, option_map, option_and_then, unwrap_or, refl, sym, ap, ◌∙◌, subst, inl, inr, append_assoc, append-nil, arith, eq-eqb, ne_eqb}
use Rattle.std.specs.Option.{option_or}
use Rattle.std.proofs.lemmas.Bool.{false≢true}
use Rattle.std.proofs.lemmas.Option.{none-some, same_Some}
use Rattle.ob_base.specs.declared.fault.Fault.{Fault}
use Rattle.ob_serial.specs.declared.records.Why.{Why}
use Rattle.ob_serial.specs.declared.records.Why.TheVariants.{Depends, Asked}
use Rattle.ob_serial.specs.declared.records.Outcome.{Outcome}
use Rattle.ob_serial.specs.declared.records.Outcome.TheVariants.{Aborted as AbortedBy}
use Rattle.ob_serial.specs.Serial.{TxnRecord}
use Rattle.ob_order.specs.declared.fate.Fate.{Fate}
use Rattle.ob_order.specs.declared.fate.Fate.TheVariants.{Going, Ended, Fell}
use Rattle.ob_order.specs.Works.{is_going}
use Rattle.ob_desk.specs.declared.calls.Txn.{Txn}
use Rattle.ob_desk.specs.Desk.{Part, DeskState, new_part, why_of, closing, stop_part, outcome_in, settle_client, settle}
use Rattle.ob_desk.proofs.Ends.{closed_epoch}
use Rattle.ob_session.specs.Clients.{Told, on_last, last_of, over}
use Rattle.ob_session.proofs.Lasts.{last_of-append, on_last-append}
use Rattle.ob_session.proofs.Mirrors.{Mirrors}
use Rattle.ob_session.proofs.Fits.{Fits, named_ticket}
use Rattle.ob_session.proofs.Parts.{FitsClosed, tells_closed, stopped}
use Rattle.ob_session.proofs.State.{Shut, Before, Last, is_none, runs, closes, was_settled, Mirror, Held, held, why_is}
use Rattle.ob_session.proofs.Rolls.{only_mapped}

-- ---- a close

-- nothing is told of a closed part that isn't there
pub none_shut : (n epoch : ℕ) (closed : Option Part) (shut : List Told) → closed ≡ None → Shut n epoch closed shut → shut ≡ []
none_shut n epoch closed shut none h = subst (λ (c : Option Part). Shut n epoch c shut) none h

before_close : (n : ℕ) (closed next : Option Part) (stop : Option Fault) (txns : List (TxnRecord ℕ)) (past : List Told) → stop ≡ None → Before n closed stop txns past → Before n next stop txns past
before_close n closed next stop txns past none (inl all) = inl all
before_close n closed next stop txns past none (inr first) = absurd (false≢true (sym (ap is_some none) ∙ first.2))

pub closed_mirror : (d new : DeskState) (n : ℕ) (txns : List (TxnRecord ℕ)) (told : List Told) (signed : Bool) (left : ℕ) → d.closed ≡ None → d.stop ≡ None
    → new ≡ record d { running = new_part (suc d.running.epoch) left; closed = Some (closing d.running) } → Mirror d n txns told signed → Mirror new n txns told signed
closed_mirror d new n txns told signed left none_closed not_stopped e m = subst (λ (q : DeskState). Mirror q n txns told signed) (sym e) (record {
  client = m.client;
  found = m.found;
  signed_off = m.signed_off;
  past = m.past;
  shut = m.running;
  running = [];
  split = m.split ∙ (ap (λ (ys : List Told). m.past ++ (ys ++ m.running)) none ∙ ap (λ (ys : List Told). m.past ++ ys) (sym (append-nil m.running)));
  tells = before_close n d.closed (Some (closing d.running)) d.stop txns m.past not_stopped m.tells;
  runs = refl;
  closed = (low, subst (λ epoch. Mirrors (FitsClosed n epoch) n 1 (closing d.running).order.works (closing d.running).holders m.running) (sym epoch_kept) (tells_closed n d.running.epoch d.running m.running m.runs));
  last = step m.last;
})
  where
    none : m.shut ≡ []
    none = none_shut n d.running.epoch d.closed m.shut none_closed m.closed

    epoch_kept : (closing d.running).epoch ≡ d.running.epoch
    epoch_kept = closed_epoch d.running (length d.running.order.works)

    low : (closing d.running).epoch < suc d.running.epoch
    low = omega (arith, epoch_kept)

    step : Last n d.running.epoch d.closed d.stop txns m.client m.past m.shut m.running → Last n (suc d.running.epoch) (Some (closing d.running)) d.stop txns m.client m.past m.running []
    step (is_none h) = is_none (record { last = h.last; none_before = h.none_before; none_closed = h.none_runs; none_runs = refl })
    step (runs r) = closes (record { none_runs = refl; one = r.one; is = r.is; last = r.last; unsettled = r.unsettled })
    step (closes c) = absurd (none-some c.one (sym (ap last_of none) ∙ c.is))
    step (was_settled s) = was_settled (record {
      none_runs = refl;
      none_closed = s.none_runs;
      one = s.one;
      is = s.is;
      last = s.last;
      named = s.named;
      before = (let l : s.one.txn.epoch < d.running.epoch = s.before in omega (arith, l));
      apart = λ part is.
          let l : s.one.txn.epoch < d.running.epoch = s.before in
          let same : (closing d.running).epoch ≡ part.epoch = ap (λ (p : Part). p.epoch) (same_Some (closing d.running) part is) in
          omega (arith, l, same, epoch_kept);
      outcome = s.outcome;
      settled = s.settled;
      as_told = s.as_told;
      unasked = s.unasked;
      by_client = s.by_client;
      keeps = before_close n d.closed (Some (closing d.running)) d.stop txns (on_last (over s.outcome) m.past) not_stopped s.keeps;
    })

-- ---- a stop

before_stopped : (n : ℕ) (closed : Option Part) (stop : Option Fault) (f : Fault) (txns : List (TxnRecord ℕ)) (past : List Told) → Before n closed stop txns past → Before n closed (option_or stop (Some f)) txns past
before_stopped n closed stop f txns past (inl all) = inl all
before_stopped n closed None f txns past (inr first) = inr (first.0, first.1, refl)
before_stopped n closed (Some g) f txns past (inr first) = inr (first.0, first.1, refl)

-- a desk on which all that went on are stopped
abbrev pub halted : Fault → DeskState → DeskState
halted f d = record d { stop = option_or d.stop (Some f); running = stop_part f d.running }

pub halted_mirror : (d : DeskState) (n : ℕ) (txns : List (TxnRecord ℕ)) (told : List Told) (signed : Bool) (f : Fault) → Mirror d n txns told signed → Mirror (halted f d) n txns told signed
halted_mirror d n txns told signed f m = record {
  client = m.client;
  found = m.found;
  signed_off = m.signed_off;
  past = m.past;
  shut = m.shut;
  running = m.running;
  split = m.split;
  tells = before_stopped n d.closed d.stop f txns m.past m.tells;
  runs = stopped n d.running.epoch d.running f m.running m.runs;
  closed = m.closed;
  last = step m.last;
}
  where
    step : Last n d.running.epoch d.closed d.stop txns m.client m.past m.shut m.running → Last n d.running.epoch d.closed (option_or d.stop (Some f)) txns m.client m.past m.shut m.running
    step (is_none h) = is_none h
    step (runs r) = runs r
    step (closes c) = closes c
    step (was_settled s) = was_settled (record {
      none_runs = s.none_runs;
      none_closed = s.none_closed;
      one = s.one;
      is = s.is;
      last = s.last;
      named = s.named;
      before = s.before;
      apart = s.apart;
      outcome = s.outcome;
      settled = s.settled;
      as_told = s.as_told;
      unasked = s.unasked;
      by_client = s.by_client;
      keeps = before_stopped n d.closed d.stop f txns (on_last (over s.outcome) m.past) s.keeps;
    })

-- ---- the closed part ends

-- what its end does to what was told before
pub record PastGrows (n : ℕ) (d : DeskState) (part : Part) (otherwise : Outcome ℕ) (txns next : List (TxnRecord ℕ)) (past shut : List Told) : Type 0 where
  pub tells : Before n d.closed d.stop txns past → Before n None d.stop next (past ++ shut)
  pub keeps_last : (one : Told) → last_of shut ≡ Some one → Before n d.closed d.stop txns past → Before n None d.stop next (past ++ on_last (over (outcome_in part otherwise one.txn.ticket)) shut)

-- whom its client aborted was aborted by its client
client_caused : (why : Option (Why ℕ)) (otherwise : Outcome ℕ) → (otherwise ≡ AbortedBy Asked → ⊥) → unwrap_or (option_map AbortedBy why) otherwise ≡ AbortedBy Asked → why ≡ Some Asked
client_caused None otherwise other e = absurd (other e)
client_caused (Some why) otherwise other e = let same : why ≡ Asked = cc in ap Some same

module _ (d : DeskState) (n : ℕ) (txns next : List (TxnRecord ℕ)) (told : List Told) (signed : Bool) (part : Part) (otherwise : Outcome ℕ) (other : otherwise ≡ AbortedBy Asked → ⊥) (m : Mirror d n txns told signed) (is : d.closed ≡ Some part)
    (grows : (past : List Told) → PastGrows n d part otherwise txns next past m.shut) where
  here : Shut n d.running.epoch (Some part) m.shut
  here = subst (λ (c : Option Part). Shut n d.running.epoch c m.shut) is m.closed

  -- who isn't of the part stays as it was
  unsettled_by : (x : Txn) → m.client.last ≡ Some x → (x.epoch ≡ part.epoch → ⊥) → (settle_client part otherwise m.client).outcome ≡ m.client.outcome
  unsettled_by x last other = ap (λ o. option_or (option_and_then (λ (y : Txn). if y.epoch == part.epoch then Some (outcome_in part otherwise y.ticket) else None) o) m.client.outcome) last
      ∙ ap (λ b. option_or (if b then Some (outcome_in part otherwise x.ticket) else None) m.client.outcome) (ne_eqb x.epoch part.epoch other)

  settled_by : (x : Txn) → m.client.last ≡ Some x → x.epoch ≡ part.epoch → (settle_client part otherwise m.client).outcome ≡ Some (outcome_in part otherwise x.ticket)
  settled_by x last same = ap (λ o. option_or (option_and_then (λ (y : Txn). if y.epoch == part.epoch then Some (outcome_in part otherwise y.ticket) else None) o) m.client.outcome) last
      ∙ ap (λ b. option_or (if b then Some (outcome_in part otherwise x.ticket) else None) m.client.outcome) (eq-eqb x.epoch part.epoch same)

  not_going : (one : Told) (q : Held (FitsClosed n part.epoch) n part.order.works part.holders one) (f : Fate) → q.work.fate ≡ f → one.asked ≡ false → (why : Why ℕ) × (unwrap_or (option_map AbortedBy (why_of f q.holder.cause)) otherwise ≡ AbortedBy why)
  not_going one q Going e unasked = absurd (false≢true (sym unasked ∙ (sym q.fits.fits.asked ∙ q.fits.asked (ap is_going e))))
  not_going one q Ended e unasked = (unwrap_or q.holder.cause Asked, refl)
  not_going one q (Fell on) e unasked = (Depends on, refl)

  last_settled : Last n d.running.epoch d.closed d.stop txns m.client m.past m.shut m.running → Last n d.running.epoch None d.stop next (settle_client part otherwise m.client) (m.past ++ m.shut) [] m.running
  last_settled (is_none h) = is_none (record { last = h.last; none_before = ap (λ (ys : List Told). m.past ++ ys) h.none_closed ∙ (append-nil m.past ∙ h.none_before); none_closed = refl; none_runs = h.none_runs })
  last_settled (runs r) =
      let q = held (Fits n d.running.epoch) n d.running.order.works d.running.holders m.running r.one (named_ticket n d.running.epoch) m.runs r.is in
      let e : r.one.txn.epoch ≡ d.running.epoch = ap (λ (x : Txn). x.epoch) q.fits.named in
      let l : part.epoch < d.running.epoch = here.0 in
      runs (record { one = r.one; is = r.is; last = r.last; unsettled = unsettled_by r.one.txn r.last (λ same. absurd (omega (arith, e, l, same))) ∙ r.unsettled })
  last_settled (closes c) =
      let q = held (FitsClosed n part.epoch) n part.order.works part.holders m.shut c.one (λ t w h x f. named_ticket n part.epoch t w h x f.fits) here.1 c.is in
      let e : c.one.txn.epoch ≡ part.epoch = ap (λ (x : Txn). x.epoch) q.fits.fits.named in
      let l : part.epoch < d.running.epoch = here.0 in
      let why = why_is part c.one.txn.ticket q.work q.holder q.work_is q.holder_is in
      let asked = not_going c.one q q.work.fate refl in
      was_settled (record {
        none_runs = c.none_runs;
        none_closed = refl;
        one = c.one;
        is = last_of-append m.past m.shut c.one c.is;
        last = c.last;
        named = ap (λ (x : Txn). x.client) q.fits.fits.named;
        before = omega (arith, e, l);
        apart = λ p none. absurd (none-some p none);
        outcome = outcome_in part otherwise c.one.txn.ticket;
        settled = settled_by c.one.txn c.last e;
        as_told = λ o ended. ap (λ w. unwrap_or (option_map AbortedBy w) otherwise) why ∙ ap (λ a. unwrap_or a otherwise) (q.fits.fits.stands.as_told o ended);
        by_client = λ given_up. q.fits.fits.stands.by_client (client_caused (why_of q.work.fate q.holder.cause) otherwise other (ap (λ w. unwrap_or (option_map AbortedBy w) otherwise) (sym why) ∙ given_up));
        unasked = λ unasked. ((asked unasked).0, ap (λ w. unwrap_or (option_map AbortedBy w) otherwise) why ∙ (asked unasked).1);
        keeps = subst (λ (ys : List Told). Before n None d.stop next ys) (sym (on_last-append (over (outcome_in part otherwise c.one.txn.ticket)) m.past m.shut c.one c.is)) ((grows m.past).keeps_last c.one c.is m.tells);
      })
  last_settled (was_settled s) =
      let l : s.one.txn.epoch < part.epoch = s.apart part is in
      was_settled (record {
        none_runs = s.none_runs;
        none_closed = refl;
        one = s.one;
        is = ap (λ (ys : List Told). last_of (m.past ++ ys)) s.none_closed ∙ (ap last_of (append-nil m.past) ∙ s.is);
        last = s.last;
        named = s.named;
        before = s.before;
        apart = λ p none. absurd (none-some p none);
        outcome = s.outcome;
        settled = unsettled_by s.one.txn s.last (λ same. absurd (omega (arith, l, same))) ∙ s.settled;
        as_told = s.as_told;
        unasked = s.unasked;
        by_client = s.by_client;
        keeps = subst (λ (ys : List Told). Before n None d.stop next ys)
            (ap (λ (ys : List Told). on_last (over s.outcome) m.past ++ ys) s.none_closed
            ∙ (append-nil (on_last (over s.outcome) m.past)
            ∙ ap (on_last (over s.outcome)) (sym (append-nil m.past) ∙ ap (λ (ys : List Told). m.past ++ ys) (sym s.none_closed))))
            ((grows (on_last (over s.outcome) m.past)).tells s.keeps);
      })

  pub settled_mirror : Mirror (record d { closed = None; clients = settle part otherwise d.clients }) n next told signed
  settled_mirror = record {
    client = settle_client part otherwise m.client;
    found = only_mapped (settle_client part otherwise) (λ c. refl) d.clients n m.client m.found;
    signed_off = m.signed_off;
    past = m.past ++ m.shut;
    shut = [];
    running = m.running;
    split = m.split ∙ sym (append_assoc m.past m.shut m.running);
    tells = (grows m.past).tells m.tells;
    runs = m.runs;
    closed = refl;
    last = last_settled m.last;
  }
