-- Over any calls of a new desk, the desk and its records are what each client was told.
use Rattle.std.proofs.Common.{◌≡◌, ℕ, ◌||◌, Bool, true, false, cond, if◌then◌else◌, List, [], ◌∷◌, ◌++◌, Option, None, is_some, refl, sym, ap, ◌∙◌, subst, inl, inr, append_assoc, append-nil, filter, ◌==◌}
use Rattle.std.proofs.lemmas.Bool.{or_right, false≢true}
use Rattle.std.proofs.lemmas.Option.{same_Some}
use Rattle.ob_base.specs.declared.fault.Fault.{Fault}
use Rattle.ob_serial.specs.Serial.{TxnRecord, EpochRecord}
use Rattle.ob_order.specs.Works.{Work, at_ticket}
use Rattle.ob_desk.specs.declared.calls.Txn.{Txn}
use Rattle.ob_desk.specs.declared.clients.Holder.{Holder}
use Rattle.ob_desk.specs.Desk.{Part, Setup, DeskState, new_desk, new_client, Call, SignOff, Reply, Published, DeskStep, MayCall, published, records_told, record_of}
use Rattle.ob_session.specs.Steps.{Leads}
use Rattle.ob_session.specs.Clients.{Told, is_of, said_by, told_after, told_from, told_of, is_sign_off, has_signed_off}
use Rattle.ob_session.specs.Agreeing.{CallsAgree}
use Rattle.ob_session.specs.Records.{TellFirst, TellAll, txns_by, RecordsTell}
use Rattle.ob_session.proofs.Agreement.{held_running, agrees}
use Rattle.ob_session.proofs.Changes.{live_runs}
use Rattle.ob_session.proofs.Epochs.{none_shut}
use Rattle.ob_session.proofs.Endings.{first_before, closed_tells}
use Rattle.ob_session.proofs.Fits.{Fits}
use Rattle.ob_session.proofs.Mirrors.{Mirrors}
use Rattle.ob_session.proofs.Numbers.{numbers_run}
use Rattle.ob_session.proofs.OtherSteps.{IsTheirs, other_step}
use Rattle.ob_session.proofs.OwnSteps.{signs, own_step}
use Rattle.ob_session.proofs.Rolls.{is_one, new_numbers, only_new, is_one-from_Contains}
use Rattle.ob_session.proofs.State.{Before, is_none, Mirror, none_more}
use Rattle.ob_session.proofs.Tellings.{more_txns, more_is, txns_by-append, tell_first-append, first_from_all}

-- ---- every client

-- each number is tied to the desk, a client's or not
abbrev Everyone : DeskState → List (EpochRecord ℕ) → (ℕ → List Told) → (ℕ → Bool) → Type 0
Everyone d records tolds signed = (n : ℕ) → Mirror d n (txns_by n records) (tolds n) (signed n)

their_holder : (d : DeskState) (records : List (EpochRecord ℕ)) (tolds : ℕ → List Told) (signed : ℕ → Bool) (n : ℕ) → Everyone d records tolds signed → IsTheirs d n
their_holder d records tolds signed n all x other last live holder at mine =
    let m = all x.client in
    let r = live_runs d x.client (txns_by x.client records) (tolds x.client) (signed x.client) x m last refl live in
    let q = held_running d x.client (txns_by x.client records) (tolds x.client) (signed x.client) m r.it in
    let same : q.holder ≡ holder = same_Some q.holder holder (sym q.holder_is ∙ (ap (λ (y : Txn). at_ticket d.running.holders y.ticket) r.is ∙ at)) in
    other (sym q.mine ∙ (ap (λ (h : Holder). h.client) same ∙ mine))

everyone_step : (d : DeskState) (records : List (EpochRecord ℕ)) (tolds : ℕ → List Told) (signed : ℕ → Bool) (call : Call) (reply : Reply) (new : DeskState) → MayCall d call → DeskStep d call reply new → Everyone d records tolds signed
    → Everyone new (records ++ records_told reply) (λ n. if is_of n call then told_after (tolds n) (call, reply) else tolds n) (λ n. if is_of n call then signs (signed n) call else signed n)
everyone_step d records tolds signed call reply new may step all n =
    subst (λ (txns : List (TxnRecord ℕ)). Mirror new n txns (if is_of n call then told_after (tolds n) (call, reply) else tolds n) (if is_of n call then signs (signed n) call else signed n))
    (more_is n (txns_by n records) reply ∙ sym (txns_by-append n records (records_told reply))) (by_call (is_of n call) refl)
  where
    by_call : (b : Bool) → is_of n call ≡ b → Mirror new n (more_txns n (txns_by n records) reply) (if b then told_after (tolds n) (call, reply) else tolds n) (if b then signs (signed n) call else signed n)
    by_call true own = own_step d n (txns_by n records) (tolds n) (signed n) call reply new own may step (all n)
    by_call false other = other_step d n (txns_by n records) (tolds n) (signed n) call reply new other (their_holder d records tolds signed n all) may step (all n)

signs_is : (signed : Bool) (call : Call) (reply : Reply) (rest : Bool) → (signs signed call || rest) ≡ (signed || (is_sign_off (call, reply) || rest))
signs_is signed (SignOff client) reply rest = sym (or_right signed true refl)
signs_is signed _ reply rest = refl

everyone_run : (d : DeskState) (steps : List (Call × Reply)) (new : DeskState) (records : List (EpochRecord ℕ)) (tolds : ℕ → List Told) (signed : ℕ → Bool) → Leads d steps new → Everyone d records tolds signed
    → Everyone new (records ++ published steps) (λ n. told_from (tolds n) (said_by n steps)) (λ n. signed n || has_signed_off (said_by n steps))
everyone_run d [] new records tolds signed leads all n =
    subst (λ (q : DeskState). Mirror q n (txns_by n (records ++ [])) (tolds n) (signed n || false)) (sym leads)
    (subst (λ (rs : List (EpochRecord ℕ)). Mirror d n (txns_by n rs) (tolds n) (signed n || false)) (sym (append-nil records))
    (subst (λ b. Mirror d n (txns_by n records) (tolds n) b) (or_false (signed n)) (all n)))
  where
    or_false : (b : Bool) → b ≡ (b || false)
    or_false true = refl
    or_false false = refl
everyone_run d (step ∷ steps) new records tolds signed leads all n =
    subst (λ (rs : List (EpochRecord ℕ)). Mirror new n (txns_by n rs) (told_from (tolds n) (said_by n (step ∷ steps))) (signed n || has_signed_off (said_by n (step ∷ steps)))) (append_assoc records (records_told step.1) (published steps))
    (subst (λ b. Mirror new n (txns_by n ((records ++ records_told step.1) ++ published steps)) (told_from (tolds n) (said_by n (step ∷ steps))) b) (by_sign (is_of n step.0))
    (subst (λ (ts : List Told). Mirror new n (txns_by n ((records ++ records_told step.1) ++ published steps)) ts ((if is_of n step.0 then signs (signed n) step.0 else signed n) || has_signed_off (said_by n steps))) (by_told (is_of n step.0))
    (everyone_run leads.0 steps new (records ++ records_told step.1) (λ k. if is_of k step.0 then told_after (tolds k) step else tolds k) (λ k. if is_of k step.0 then signs (signed k) step.0 else signed k) leads.3
    (everyone_step d records tolds signed step.0 step.1 leads.0 leads.1 leads.2 all) n)))
  where
    by_told : (b : Bool) → told_from (if b then told_after (tolds n) step else tolds n) (said_by n steps) ≡ told_from (tolds n) (cond b (step ∷ said_by n steps) (said_by n steps))
    by_told true = refl
    by_told false = refl

    by_sign : (b : Bool) → ((if b then signs (signed n) step.0 else signed n) || has_signed_off (said_by n steps)) ≡ (signed n || has_signed_off (cond b (step ∷ said_by n steps) (said_by n steps)))
    by_sign true = signs_is (signed n) step.0 step.1 (has_signed_off (said_by n steps))
    by_sign false = refl

everyone_new : (setup : Setup) (epoch left : ℕ) (clients : List ℕ) → Everyone (new_desk setup epoch left clients) [] (λ n. []) (λ n. false)
everyone_new setup epoch left clients n = record {
  client = new_client n;
  found = only_new clients n;
  signed_off = refl;
  past = [];
  shut = [];
  running = [];
  split = refl;
  tells = inl tt;
  runs = refl;
  closed = refl;
  last = is_none (record { last = refl; none_before = refl; none_closed = refl; none_runs = refl });
}

-- ---- the laws

tied : (setup : Setup) (epoch left : ℕ) (clients : List ℕ) (steps : List (Call × Reply)) (d : DeskState) (n : ℕ) → Leads (new_desk setup epoch left clients) steps d
    → Mirror d n (txns_by n (published steps)) (told_of (said_by n steps)) (has_signed_off (said_by n steps))
tied setup epoch left clients steps d n leads = everyone_run (new_desk setup epoch left clients) steps d [] (λ n. []) (λ n. false) leads (everyone_new setup epoch left clients) n

pub calls_agree : CallsAgree
calls_agree setup epoch left clients steps d n opens leads is_client = agrees d n (txns_by n (published steps)) (said_by n steps) (tied setup epoch left clients steps d n leads)
    (ap (λ ms. is_one ms n) (numbers_run (new_desk setup epoch left clients) steps d leads ∙ new_numbers clients) ∙ is_one-from_Contains clients n is_client)

none_running : (P : ℕ → Work → Holder → Told → Type 0) (n : ℕ) (hs : List Holder) (running : List Told) → Mirrors P n 1 [] hs running → running ≡ []
none_running P n [] running h = h
none_running P n (x ∷ hs) running h = absurd h

tell_all : (n : ℕ) (closed : Option Part) (stop : Option Fault) (txns : List (TxnRecord ℕ)) (past : List Told) → stop ≡ None → Before n closed stop txns past → TellAll n txns past
tell_all n closed stop txns past none (inl all) = all
tell_all n closed stop txns past none (inr first) = absurd (false≢true (sym (ap is_some none) ∙ first.2))

pub records_tell : RecordsTell
records_tell = record {
  first = λ setup epoch left clients steps d n opens leads.
      let m = tied setup epoch left clients steps d n leads in
      subst (TellFirst n (txns_by n (published steps))) (sym m.split) (tell_first-append n (txns_by n (published steps)) m.past (m.shut ++ m.running) (first_before n d.closed d.stop (txns_by n (published steps)) m.past m.tells));
  all = λ setup epoch left clients steps d n opens leads rest.
      let m = tied setup epoch left clients steps d n leads in
      let none_runs : m.running ≡ [] = none_running (Fits n d.running.epoch) n d.running.holders m.running (subst (λ (ws : List Work). Mirrors (Fits n d.running.epoch) n 1 ws d.running.holders m.running) rest.none_runs m.runs) in
      let none_closed : m.shut ≡ [] = none_shut n d.running.epoch d.closed m.shut rest.none_closed m.closed in
      subst (TellAll n (txns_by n (published steps))) (sym (m.split ∙ none_more m.past m.shut m.running none_runs none_closed)) (tell_all n d.closed d.stop (txns_by n (published steps)) m.past rest.not_stopped m.tells);
  closed = λ setup epoch left clients steps d part n opens leads is.
      let txns : List (TxnRecord ℕ) = txns_by n (published steps) in
      let m = tied setup epoch left clients steps d n leads in
      let all = closed_tells d n txns (told_of (said_by n steps)) (has_signed_off (said_by n steps)) part is m in
      let records_are : txns_by n (published steps ++ record_of part ∷ []) ≡ txns ++ filter (λ t. t.client == n) (record_of part).txns =
      txns_by-append n (published steps) (record_of part ∷ []) ∙ sym (more_is n txns (Published (record_of part))) in
      subst (λ (ts : List (TxnRecord ℕ)). TellFirst n ts (told_of (said_by n steps))) (sym records_are)
      (subst (TellFirst n (txns ++ filter (λ t. t.client == n) (record_of part).txns)) (append_assoc m.past m.shut m.running ∙ sym m.split)
      (tell_first-append n (txns ++ filter (λ t. t.client == n) (record_of part).txns) (m.past ++ m.shut) m.running
      (first_from_all n (txns ++ filter (λ t. t.client == n) (record_of part).txns) (m.past ++ m.shut) all)));
}
