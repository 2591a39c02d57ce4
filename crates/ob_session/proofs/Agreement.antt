-- A desk that is tied to what a client was told agrees with it.
use Rattle.std.proofs.Common.{◌≡◌, ℕ, Bool, true, false, List, [], Option, None, Some, option_map, option_and_then, unwrap_or, refl, sym, ap, ◌∙◌, subst, inl, inr, ◌<◌, arith}
use Rattle.std.proofs.lemmas.Bool.{false≢true}
use Rattle.std.proofs.lemmas.Option.{none-some, same_Some}
use Rattle.ob_serial.specs.declared.records.Why.{Why}
use Rattle.ob_serial.specs.declared.records.Why.TheVariants.{Depends, Asked}
use Rattle.ob_serial.specs.declared.records.Outcome.{Outcome}
use Rattle.ob_serial.specs.declared.records.Outcome.TheVariants.{Aborted as AbortedBy}
use Rattle.ob_serial.specs.Serial.{TxnRecord}
use Rattle.ob_order.specs.declared.fate.Fate.{Fate}
use Rattle.ob_order.specs.declared.fate.Fate.TheVariants.{Going, Ended, Fell}
use Rattle.ob_order.specs.Works.{is_going}
use Rattle.ob_desk.specs.declared.calls.Txn.{Txn}
use Rattle.ob_desk.specs.declared.clients.Client.{Client}
use Rattle.ob_desk.specs.Desk.{Part, DeskState, Call, Reply, why_of, outcome_at, client_at, IsLive}
use Rattle.ob_session.specs.Clients.{Told, told_of, last_of, has_signed_off}
use Rattle.ob_session.specs.Agreeing.{IsNotGivenUp, IsOpenTxn, IsTxnKnown, IsLastKnown, Agrees}
use Rattle.ob_session.proofs.Fits.{Stands, Fits, named_ticket}
use Rattle.ob_session.proofs.Parts.{FitsClosed}
use Rattle.ob_session.proofs.Rolls.{numbers, is_one, has_client}
use Rattle.ob_session.proofs.State.{Shut, Runs, Closes, WasSettled, Last, is_none, runs, closes, was_settled, Mirror, last_runs, last_closes, none_more, Held, held, why_is, outcome_running, outcome_closed, outcome_before}

-- what is known, by its cases
known : (d : DeskState) (x : Txn) (waiting : Option ℕ) (asked : Bool) (ended : Option (Outcome ℕ)) → ((o : Outcome ℕ) → ended ≡ Some o → (outcome_at d x ≡ Some o) × (IsLive d x → ⊥)) → (ended ≡ None → IsNotGivenUp d x) → (asked ≡ false → IsOpenTxn d x waiting)
    → IsTxnKnown d x waiting asked ended
known d x waiting asked (Some o) told not_given_up may_go_on = told o refl
known d x waiting true None told not_given_up may_go_on = not_given_up refl
known d x waiting false None told not_given_up may_go_on = (not_given_up refl, may_go_on refl)

-- who goes on isn't aborted
going_why : (f : Fate) (cause : Option (Why ℕ)) → is_going f ≡ true → why_of f cause ≡ None
going_why Going cause e = refl
going_why Ended cause e = absurd (false≢true e)
going_why (Fell on) cause e = absurd (false≢true e)

by_client : (why : Option (Why ℕ)) → option_map AbortedBy why ≡ Some (AbortedBy Asked) → why ≡ Some Asked
by_client None e = absurd (none-some (AbortedBy Asked) e)
by_client (Some why) e = let same : why ≡ Asked = cc in ap Some same

-- who was told nothing hasn't aborted it
not_given_up : (d : DeskState) (x : Txn) (f : Fate) (cause : Option (Why ℕ)) (ended : Option (Outcome ℕ)) → outcome_at d x ≡ option_map AbortedBy (why_of f cause) → Stands f cause ended → ended ≡ None → IsNotGivenUp d x
not_given_up d x f cause ended outcome h none e = absurd (none-some (AbortedBy Asked) (sym none ∙ h.by_client (by_client (why_of f cause) (sym outcome ∙ e))))

-- of the running part
pub held_running : (d : DeskState) (n : ℕ) (txns : List (TxnRecord ℕ)) (told : List Told) (signed : Bool) (m : Mirror d n txns told signed) (r : Runs m.client m.running) → Held (Fits n d.running.epoch) n d.running.order.works d.running.holders r.one
held_running d n txns told signed m r = held (Fits n d.running.epoch) n d.running.order.works d.running.holders m.running r.one (named_ticket n d.running.epoch) m.runs r.is

pub outcome_runs : (d : DeskState) (n : ℕ) (txns : List (TxnRecord ℕ)) (told : List Told) (signed : Bool) (m : Mirror d n txns told signed) (r : Runs m.client m.running) → client_at d n ≡ Some m.client
    → let q = held_running d n txns told signed m r in outcome_at d r.one.txn ≡ option_map AbortedBy (why_of q.work.fate q.holder.cause)
unfolding held_running
outcome_runs d n txns told signed m r found =
    let q = held_running d n txns told signed m r in
    outcome_running d n r.one.txn m.client (ap (λ (x : Txn). x.epoch) q.fits.named) (ap (λ (x : Txn). x.client) q.fits.named) found r.unsettled
    ∙ ap (option_map AbortedBy) (why_is d.running r.one.txn.ticket q.work q.holder q.work_is q.holder_is)

known_running : (d : DeskState) (n : ℕ) (txns : List (TxnRecord ℕ)) (told : List Told) (signed : Bool) (m : Mirror d n txns told signed) (r : Runs m.client m.running) → client_at d n ≡ Some m.client → IsLastKnown d (Some r.one)
known_running d n txns told signed m r found = known d r.one.txn r.one.waiting r.one.asked r.one.ended
    (λ o e. (
      outcome ∙ q.fits.stands.as_told o e,
      λ live. absurd (none-some o (sym (ap (option_map AbortedBy) (going_why q.work.fate q.holder.cause (sym (ap (λ p. unwrap_or (option_map (λ w. is_going w.fate) p) false) q.work_is) ∙ live.goes))) ∙ q.fits.stands.as_told o e)),
    ))
    (not_given_up d r.one.txn q.work.fate q.holder.cause r.one.ended outcome q.fits.stands)
    (λ unasked. by_fate q.work.fate refl unasked)
  where
    q : Held (Fits n d.running.epoch) n d.running.order.works d.running.holders r.one
    q = held_running d n txns told signed m r

    outcome : outcome_at d r.one.txn ≡ option_map AbortedBy (why_of q.work.fate q.holder.cause)
    outcome = outcome_runs d n txns told signed m r found

    by_fate : (f : Fate) → q.work.fate ≡ f → r.one.asked ≡ false → IsOpenTxn d r.one.txn r.one.waiting
    by_fate Going is unasked = inr (
      record {
        runs = ap (λ (x : Txn). x.epoch) q.fits.named;
        goes = ap (λ o. unwrap_or (option_map (λ w. is_going w.fate) o) false) q.work_is ∙ ap is_going is;
      },
      ap (λ o. unwrap_or (option_map (λ h. h.asked) o) false) q.holder_is ∙ (q.fits.asked ∙ unasked),
      ap (option_and_then (λ w. w.waiting)) q.work_is ∙ q.fits.waiting,
    )
    by_fate Ended is unasked = inl (unwrap_or q.holder.cause Asked, outcome ∙ ap (λ f. option_map AbortedBy (why_of f q.holder.cause)) is)
    by_fate (Fell on) is unasked = inl (Depends on, outcome ∙ ap (λ f. option_map AbortedBy (why_of f q.holder.cause)) is)

-- of the closed part
known_closed : (d : DeskState) (n : ℕ) (txns : List (TxnRecord ℕ)) (told : List Told) (signed : Bool) (m : Mirror d n txns told signed) (c : Closes m.client m.shut m.running) (closed : Option Part) → d.closed ≡ closed
    → Shut n d.running.epoch closed m.shut → client_at d n ≡ Some m.client → IsLastKnown d (Some c.one)
known_closed d n txns told signed m c None is shut found = absurd (none-some c.one (sym (ap last_of shut) ∙ c.is))
known_closed d n txns told signed m c (Some part) is shut found = known d c.one.txn c.one.waiting c.one.asked c.one.ended
    (λ o e. (
      outcome ∙ q.fits.fits.stands.as_told o e,
      λ live.
          let here : c.one.txn.epoch ≡ d.running.epoch = live.runs in
          let there : c.one.txn.epoch ≡ part.epoch = ap (λ (x : Txn). x.epoch) q.fits.fits.named in
          let before : part.epoch < d.running.epoch = shut.0 in
          absurd (omega (arith, here, there, before)),
    ))
    (not_given_up d c.one.txn q.work.fate q.holder.cause c.one.ended outcome q.fits.fits.stands)
    (λ unasked. by_fate q.work.fate refl unasked)
  where
    q : Held (FitsClosed n part.epoch) n part.order.works part.holders c.one
    q = held (FitsClosed n part.epoch) n part.order.works part.holders m.shut c.one (λ t w h x f. named_ticket n part.epoch t w h x f.fits) shut.1 c.is

    outcome : outcome_at d c.one.txn ≡ option_map AbortedBy (why_of q.work.fate q.holder.cause)
    outcome = outcome_closed d n c.one.txn m.client part is (ap (λ (x : Txn). x.epoch) q.fits.fits.named) shut.0 (ap (λ (x : Txn). x.client) q.fits.fits.named) found c.unsettled
        ∙ ap (option_map AbortedBy) (why_is part c.one.txn.ticket q.work q.holder q.work_is q.holder_is)

    by_fate : (f : Fate) → q.work.fate ≡ f → c.one.asked ≡ false → IsOpenTxn d c.one.txn c.one.waiting
    by_fate Going is unasked = absurd (false≢true (sym unasked ∙ (sym q.fits.fits.asked ∙ q.fits.asked (ap is_going is))))
    by_fate Ended is unasked = inl (unwrap_or q.holder.cause Asked, outcome ∙ ap (λ f. option_map AbortedBy (why_of f q.holder.cause)) is)
    by_fate (Fell on) is unasked = inl (Depends on, outcome ∙ ap (λ f. option_map AbortedBy (why_of f q.holder.cause)) is)

-- of a part before
known_settled : (d : DeskState) (n : ℕ) (txns : List (TxnRecord ℕ)) (told : List Told) (signed : Bool) (m : Mirror d n txns told signed)
    → (s : WasSettled n d.running.epoch d.closed d.stop txns m.client m.past m.shut m.running) → client_at d n ≡ Some m.client → IsLastKnown d (Some s.one)
known_settled d n txns told signed m s found =
    let outcome : outcome_at d s.one.txn ≡ Some s.outcome = outcome_before d n s.one.txn m.client s.before s.apart s.named found ∙ s.settled in
    known d s.one.txn s.one.waiting s.one.asked s.one.ended
    (λ o e. (
      outcome ∙ ap Some (s.as_told o e),
      λ live. let here : s.one.txn.epoch ≡ d.running.epoch = live.runs in let before : s.one.txn.epoch < d.running.epoch = s.before in absurd (omega (arith, here, before)),
    ))
    (λ none e. absurd (none-some (AbortedBy Asked) (sym none ∙ s.by_client (same_Some s.outcome (AbortedBy Asked) (sym outcome ∙ e)))))
    (λ unasked. inl ((s.unasked unasked).0, outcome ∙ ap Some (s.unasked unasked).1))

-- what is known of the last one, if there is one
record KnowsLast (d : DeskState) (client : Client) (told : List Told) : Type 0 where
  pub last : client.last ≡ option_map (λ t. t.txn) (last_of told)
  pub known : IsLastKnown d (last_of told)

knows_one : (d : DeskState) (client : Client) (told : List Told) (one : Told) → last_of told ≡ Some one → client.last ≡ Some one.txn → IsLastKnown d (Some one) → KnowsLast d client told
knows_one d client told one is last h = record {
  last = last ∙ ap (option_map (λ (t : Told). t.txn)) (sym is);
  known = subst (IsLastKnown d) (sym is) h;
}

knows_last : (d : DeskState) (n : ℕ) (txns : List (TxnRecord ℕ)) (told : List Told) (signed : Bool) (m : Mirror d n txns told signed)
    → Last n d.running.epoch d.closed d.stop txns m.client m.past m.shut m.running → client_at d n ≡ Some m.client → KnowsLast d m.client told
knows_last d n txns told signed m (is_none e) found =
    let none : told ≡ [] = m.split ∙ (none_more m.past m.shut m.running e.none_runs e.none_closed ∙ e.none_before) in
    record { last = e.last ∙ ap (λ ts. option_map (λ (t : Told). t.txn) (last_of ts)) (sym none); known = subst (λ ts. IsLastKnown d (last_of ts)) (sym none) tt }
knows_last d n txns told signed m (runs r) found = knows_one d m.client told r.one (ap last_of m.split ∙ last_runs m.past m.shut m.running r.one r.is) r.last (known_running d n txns told signed m r found)
knows_last d n txns told signed m (closes c) found = knows_one d m.client told c.one (ap last_of m.split ∙ last_closes m.past m.shut m.running c.one c.none_runs c.is) c.last (known_closed d n txns told signed m c d.closed refl m.closed found)
knows_last d n txns told signed m (was_settled s) found = knows_one d m.client told s.one (ap last_of (m.split ∙ none_more m.past m.shut m.running s.none_runs s.none_closed) ∙ s.is) s.last (known_settled d n txns told signed m s found)

pub agrees : (d : DeskState) (n : ℕ) (txns : List (TxnRecord ℕ)) (said : List (Call × Reply)) → Mirror d n txns (told_of said) (has_signed_off said) → is_one (numbers d.clients) n ≡ true → Agrees d n said
agrees d n txns said m one =
    let c = has_client d.clients n one in
    let found : client_at d n ≡ Some m.client = c.1 ∙ ap Some (m.found c.0 c.1) in
    let h = knows_last d n txns (told_of said) (has_signed_off said) m m.last found in
    record { client = m.client; found = found; signed_off = m.signed_off; last = h.last; known = h.known }
