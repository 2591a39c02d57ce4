-- What ties a desk to what one of its clients was told.
use Rattle.std.proofs.Common.{◌≡◌, ℕ, suc, ◌+◌, ◌<◌, ◌==◌, Bool, true, false, if◌then◌else◌, List, [], ◌++◌, Option, None, Some, is_some, option_map, option_and_then, refl, sym, ap, ap₂, ◌∙◌, subst, ◌⊎◌, append-nil, arith, eq-eqb, ne_eqb}
use Rattle.std.specs.Option.{option_or}
use Rattle.ob_base.specs.declared.fault.Fault.{Fault}
use Rattle.ob_serial.specs.declared.records.Why.{Why}
use Rattle.ob_serial.specs.declared.records.Why.TheVariants.{Asked}
use Rattle.ob_serial.specs.declared.records.Outcome.{Outcome}
use Rattle.ob_serial.specs.declared.records.Outcome.TheVariants.{Aborted as AbortedBy}
use Rattle.ob_serial.specs.Serial.{TxnRecord}
use Rattle.ob_order.specs.Works.{Work, at_ticket}
use Rattle.ob_desk.specs.declared.calls.Txn.{Txn}
use Rattle.ob_desk.specs.declared.clients.Holder.{Holder}
use Rattle.ob_desk.specs.declared.clients.Client.{Client}
use Rattle.ob_desk.specs.Desk.{Part, DeskState, client_at, part_at, why_of, cause_at, why_at, outcome_at}
use Rattle.ob_session.specs.Clients.{Told, on_last, last_of, over}
use Rattle.ob_session.specs.Records.{TellFirst, TellAll}
use Rattle.ob_session.proofs.Lasts.{last_of-append}
use Rattle.ob_session.proofs.Mirrors.{Mirrors, found_last}
use Rattle.ob_session.proofs.Fits.{Fits}
use Rattle.ob_session.proofs.Parts.{FitsClosed}

-- what was told of the closed part
abbrev pub Shut : ℕ → ℕ → Option Part → List Told → Type 0
Shut n epoch None shut = shut ≡ []
Shut n epoch (Some part) shut = (part.epoch < epoch) × Mirrors (FitsClosed n part.epoch) n 1 part.order.works part.holders shut

-- what was told of the parts before: all of it is published, or else the desk is stopped and closes no part any more
abbrev pub Before : ℕ → Option Part → Option Fault → List (TxnRecord ℕ) → List Told → Type 0
Before n closed stop txns past = TellAll n txns past ⊎ (TellFirst n txns past × (closed ≡ None) × (is_some stop ≡ true))

-- ---- the client's last transaction

-- there is none
pub record IsNone (client : Client) (past shut running : List Told) : Type 0 where
  pub last : client.last ≡ None
  pub none_before : past ≡ []
  pub none_closed : shut ≡ []
  pub none_runs : running ≡ []

-- it's of the running part
pub record Runs (client : Client) (running : List Told) : Type 0 where
  pub one : Told
  pub is : last_of running ≡ Some one
  pub last : client.last ≡ Some one.txn
  pub unsettled : client.outcome ≡ None

-- of the closed part
pub record Closes (client : Client) (shut running : List Told) : Type 0 where
  pub none_runs : running ≡ []
  pub one : Told
  pub is : last_of shut ≡ Some one
  pub last : client.last ≡ Some one.txn
  pub unsettled : client.outcome ≡ None

-- of a part before; it may be told how it ended
pub record WasSettled (n epoch : ℕ) (closed : Option Part) (stop : Option Fault) (txns : List (TxnRecord ℕ)) (client : Client) (past shut running : List Told) : Type 0 where
  pub none_runs : running ≡ []
  pub none_closed : shut ≡ []
  pub one : Told
  pub is : last_of past ≡ Some one
  pub last : client.last ≡ Some one.txn
  pub named : one.txn.client ≡ n
  pub before : one.txn.epoch < epoch
  pub apart : (part : Part) → closed ≡ Some part → one.txn.epoch < part.epoch
  pub outcome : Outcome ℕ
  pub settled : client.outcome ≡ Some outcome
  pub as_told : (o : Outcome ℕ) → one.ended ≡ Some o → outcome ≡ o
  pub unasked : one.asked ≡ false → (why : Why ℕ) × (outcome ≡ AbortedBy why)
  pub by_client : outcome ≡ AbortedBy Asked → one.ended ≡ Some (AbortedBy Asked)
  pub keeps : Before n closed stop txns (on_last (over outcome) past)

pub data Last (n epoch : ℕ) (closed : Option Part) (stop : Option Fault) (txns : List (TxnRecord ℕ)) (client : Client) (past shut running : List Told) : Type 0 where
  is_none : IsNone client past shut running → Last n epoch closed stop txns client past shut running
  runs : Runs client running → Last n epoch closed stop txns client past shut running
  closes : Closes client shut running → Last n epoch closed stop txns client past shut running
  was_settled : WasSettled n epoch closed stop txns client past shut running → Last n epoch closed stop txns client past shut running

pub record Mirror (d : DeskState) (n : ℕ) (txns : List (TxnRecord ℕ)) (told : List Told) (signed : Bool) : Type 0 where
  pub client : Client
  pub found : (c : Client) → client_at d n ≡ Some c → c ≡ client
  pub signed_off : client.signed_off ≡ signed
  pub past : List Told
  pub shut : List Told
  pub running : List Told
  pub split : told ≡ past ++ (shut ++ running)
  pub tells : Before n d.closed d.stop txns past
  pub runs : Mirrors (Fits n d.running.epoch) n 1 d.running.order.works d.running.holders running
  pub closed : Shut n d.running.epoch d.closed shut
  pub last : Last n d.running.epoch d.closed d.stop txns client past shut running

-- ---- the last one told of

pub last_runs : (past shut running : List Told) (one : Told) → last_of running ≡ Some one → last_of (past ++ (shut ++ running)) ≡ Some one
last_runs past shut running one is = last_of-append past (shut ++ running) one (last_of-append shut running one is)

pub last_closes : (past shut running : List Told) (one : Told) → running ≡ [] → last_of shut ≡ Some one → last_of (past ++ (shut ++ running)) ≡ Some one
last_closes past shut running one none is = ap (λ ys. last_of (past ++ (shut ++ ys))) none ∙ last_of-append past (shut ++ []) one (ap last_of (append-nil shut) ∙ is)

pub none_more : (past shut running : List Told) → running ≡ [] → shut ≡ [] → past ++ (shut ++ running) ≡ past
none_more past shut running none_runs none_closed = ap₂ (λ (a b : List Told). past ++ (a ++ b)) none_closed none_runs ∙ append-nil past

-- its work and its holder
pub record Held (P : ℕ → Work → Holder → Told → Type 0) (n : ℕ) (ws : List Work) (hs : List Holder) (one : Told) : Type 0 where
  pub work : Work
  pub holder : Holder
  pub work_is : at_ticket ws one.txn.ticket ≡ Some work
  pub holder_is : at_ticket hs one.txn.ticket ≡ Some holder
  pub mine : holder.client ≡ n
  pub fits : P one.txn.ticket work holder one

pub held : (P : ℕ → Work → Holder → Told → Type 0) (n : ℕ) (ws : List Work) (hs : List Holder) (told : List Told) (one : Told) → ((t : ℕ) (w : Work) (h : Holder) (x : Told) → P t w h x → x.txn.ticket ≡ t)
    → Mirrors P n 1 ws hs told → last_of told ≡ Some one → Held P n ws hs one
held P n ws hs told one named m last =
    let f = found_last P n 1 ws hs told one m last in
    let at : one.txn.ticket ≡ 1 + f.index = named (1 + f.index) f.work f.holder one f.fits in
    let next : suc f.index ≡ one.txn.ticket = omega (arith, at) in
    record {
      work = f.work;
      holder = f.holder;
      work_is = subst (λ t. at_ticket ws t ≡ Some f.work) next f.work_is;
      holder_is = subst (λ t. at_ticket hs t ≡ Some f.holder) next f.holder_is;
      mine = f.mine;
      fits = subst (λ t. P t f.work f.holder one) (sym at) f.fits;
    }

pub why_is : (part : Part) (t : ℕ) (w : Work) (h : Holder) → at_ticket part.order.works t ≡ Some w → at_ticket part.holders t ≡ Some h → why_at part t ≡ why_of w.fate h.cause
why_is part t w h at_work at_holder =
    ap (λ (o : Option Work). option_and_then (λ f. why_of f (cause_at part.holders t)) (option_map (λ v. v.fate) o)) at_work
    ∙ ap (λ (o : Option Holder). why_of w.fate (option_and_then (λ q. q.cause) o)) at_holder

-- ---- how it ended

or_none : {A : Type 0} (o p : Option A) → p ≡ None → option_or o p ≡ o
or_none None p e = e
or_none (Some x) p e = refl

module _ (d : DeskState) (n : ℕ) (x : Txn) (client : Client) where
  outcome_in_part : (part : Part) → part_at d x.epoch ≡ Some part → x.client ≡ n → client_at d n ≡ Some client → client.outcome ≡ None → outcome_at d x ≡ option_map AbortedBy (why_at part x.ticket)
  outcome_in_part part at named found unsettled =
      or_none _ (option_and_then (λ c. c.outcome) (client_at d x.client)) (ap (λ m. option_and_then (λ c. c.outcome) (client_at d m)) named ∙ (ap (option_and_then (λ c. c.outcome)) found ∙ unsettled))
      ∙ ap (option_and_then (λ p. option_map AbortedBy (why_at p x.ticket))) at

  pub outcome_running : x.epoch ≡ d.running.epoch → x.client ≡ n → client_at d n ≡ Some client → client.outcome ≡ None → outcome_at d x ≡ option_map AbortedBy (why_at d.running x.ticket)
  outcome_running here named found unsettled = outcome_in_part d.running
      (ap (λ b. if b then Some d.running else option_and_then (λ c. if c.epoch == x.epoch then Some c else None) d.closed) (eq-eqb d.running.epoch x.epoch (sym here))) named found unsettled

  pub outcome_closed : (part : Part) → d.closed ≡ Some part → x.epoch ≡ part.epoch → part.epoch < d.running.epoch → x.client ≡ n → client_at d n ≡ Some client → client.outcome ≡ None
      → outcome_at d x ≡ option_map AbortedBy (why_at part x.ticket)
  outcome_closed part is here before named found unsettled = outcome_in_part part
      (ap (λ b. if b then Some d.running else option_and_then (λ c. if c.epoch == x.epoch then Some c else None) d.closed) (ne_eqb d.running.epoch x.epoch (λ e. absurd (omega (arith, e, here, before))))
      ∙ (ap (option_and_then (λ c. if c.epoch == x.epoch then Some c else None)) is ∙ ap (λ b. if b then Some part else None) (eq-eqb part.epoch x.epoch (sym here)))) named found unsettled

  pub outcome_before : x.epoch < d.running.epoch → ((part : Part) → d.closed ≡ Some part → x.epoch < part.epoch) → x.client ≡ n → client_at d n ≡ Some client → outcome_at d x ≡ client.outcome
  outcome_before before apart named found =
      ap (λ o. option_or (option_and_then (λ p. option_map AbortedBy (why_at p x.ticket)) o) (option_and_then (λ c. c.outcome) (client_at d x.client))) nowhere
      ∙ (ap (λ m. option_and_then (λ c. c.outcome) (client_at d m)) named ∙ ap (option_and_then (λ c. c.outcome)) found)
    where
      not_closed : (o : Option Part) → ((part : Part) → o ≡ Some part → x.epoch < part.epoch) → option_and_then (λ c. if c.epoch == x.epoch then Some c else None) o ≡ None
      not_closed None later = refl
      not_closed (Some part) later = ap (λ b. if b then Some part else None) (ne_eqb part.epoch x.epoch (λ e. let l = later part refl in absurd (omega (arith, e, l))))

      nowhere : part_at d x.epoch ≡ None
      nowhere = ap (λ b. if b then Some d.running else option_and_then (λ c. if c.epoch == x.epoch then Some c else None) d.closed) (ne_eqb d.running.epoch x.epoch (λ e. absurd (omega (arith, e, before)))) ∙ not_closed d.closed apart
