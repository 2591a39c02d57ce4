-- Who goes on is its client's last transaction and hasn't ended; and as long as it hasn't asked to commit its client is here.
use Rattle.std.proofs.Common.{◌≡◌, ℕ, zero, suc, ◌<◌, Bool, true, false, ◌==◌, if◌then◌else◌, List, [], ◌∷◌, ◌++◌, length, map, Option, None, Some, option_map, option_and_then, unwrap_or, is_some, slice_get, refl, sym, ap, ap₂, ◌∙◌, subst, ⊎_elim, arith}
use Rattle.std.specs.Option.{option_or}
use Rattle.std.proofs.lemmas.Bool.{cases_eq, false≢true, ne_eqb, eq-eqb}
use Rattle.std.proofs.lemmas.Option.{none-some, same_Some, slice_get_within}
use Rattle.ob_serial.specs.declared.records.Why.{Why}
use Rattle.ob_serial.specs.declared.records.Outcome.{Outcome}
use Rattle.ob_serial.specs.declared.records.Outcome.TheVariants.{Aborted as AbortedBy}
use Rattle.ob_order.specs.Works.{Work, is_going, at_ticket, edit, goes_on, stop_work}
use Rattle.ob_order.specs.Order.{fresh, after_begin}
use Rattle.ob_desk.specs.declared.calls.Txn.{Txn}
use Rattle.ob_desk.specs.declared.clients.Holder.{Holder}
use Rattle.ob_desk.specs.declared.clients.Client.{Client}
use Rattle.ob_desk.specs.Desk.{DeskState, Part, Begin, SignOff, MayCall, client_in, outcome_at, outcome_in, why_at, on_client, begin_client, sign_off_client, settle_client, settle, new_holder}
use Rattle.ob_desk.proofs.Answered.{going_why}
use Rattle.ob_order.proofs.Edits.{at_edit_same, at_edit_other, slice_get-push}
use Rattle.ob_order.proofs.Newest.{by_option}
use Rattle.ob_order.proofs.Counts.{stopped_at}
use Rattle.ob_session.proofs.Rolls.{client_number, client_in-map}

-- this transaction's client has it as its last one, which hasn't ended
pub record IsOpenAt (clients : List Client) (epoch t : ℕ) (h : Holder) : Type 0 where
  pub client : Client
  pub found : client_in clients h.client ≡ Some client
  pub last : client.last ≡ Some (record { client = h.client; epoch = epoch; ticket = t })
  pub not_ended : client.outcome ≡ None
  pub here : h.asked ≡ false → client.signed_off ≡ false

pub record Held (clients : List Client) (part : Part) : Type 0 where
  pub at_each : (t : ℕ) (h : Holder) → at_ticket part.holders t ≡ Some h → goes_on part.order.works t ≡ true → IsOpenAt clients part.epoch t h

-- ---- the holders and the works change, the clients don't

-- Who goes on went on before, for the same client, and had asked only if it has now.
pub record FewerHeld (old new : Part) : Type 0 where
  pub epoch : new.epoch ≡ old.epoch
  pub before : (t : ℕ) (h : Holder) → at_ticket new.holders t ≡ Some h → (g : Holder) × (at_ticket old.holders t ≡ Some g) × (g.client ≡ h.client) × (h.asked ≡ false → g.asked ≡ false)
  pub went_on : (t : ℕ) → goes_on new.order.works t ≡ true → goes_on old.order.works t ≡ true

pub held_fewer : (clients : List Client) (old new : Part) → FewerHeld old new → Held clients old → Held clients new
held_fewer clients old new less h = record {
  at_each = λ t x there going.
      let b = less.before t x there in
      let o = h.at_each t b.0 b.1 (less.went_on t going) in
      record {
        client = o.client;
        found = ap (client_in clients) (sym b.2) ∙ o.found;
        last = o.last ∙ ap₂ (λ c e. Some (let q : Txn = record { client = c; epoch = e; ticket = t } in q)) b.2 (sym less.epoch);
        not_ended = o.not_ended;
        here = λ q. o.here (b.3 q);
      };
}

-- the same holders
pub fewer_works : (old new : Part) → new.epoch ≡ old.epoch → new.holders ≡ old.holders → ((t : ℕ) → goes_on new.order.works t ≡ true → goes_on old.order.works t ≡ true) → FewerHeld old new
fewer_works old new epoch same went_on = record {
  epoch = epoch;
  before = λ t h there. (h, ap (λ hs. at_ticket hs t) (sym same) ∙ there, refl, λ q. q);
  went_on = went_on;
}

-- one holder is edited
pub fewer_edit : (f : Holder → Holder) (old new : Part) (s : ℕ) → new.epoch ≡ old.epoch → new.holders ≡ edit f old.holders s → ((h : Holder) → h.client ≡ (f h).client) → ((h : Holder) → (f h).asked ≡ false → h.asked ≡ false)
    → ((t : ℕ) → goes_on new.order.works t ≡ true → goes_on old.order.works t ≡ true) → FewerHeld old new
fewer_edit f old new s epoch edited same asked went_on = record { epoch = epoch; before = before; went_on = went_on }
  where
    before : (t : ℕ) (h : Holder) → at_ticket new.holders t ≡ Some h → (g : Holder) × (at_ticket old.holders t ≡ Some g) × (g.client ≡ h.client) × (h.asked ≡ false → g.asked ≡ false)
    before t h there =
        let there_too : at_ticket (edit f old.holders s) t ≡ Some h = ap (λ hs. at_ticket hs t) (sym edited) ∙ there in
        ⊎_elim
        (λ at_s.
        let made : option_map f (at_ticket old.holders t) ≡ Some h = subst (λ q. option_map f (at_ticket old.holders q) ≡ Some h) (sym at_s) (sym (at_edit_same f old.holders s) ∙ subst (λ q. at_ticket (edit f old.holders s) q ≡ Some h) at_s there_too) in
        by_option (at_ticket old.holders t)
        (λ none. absurd (none-some h (sym (ap (option_map f) none) ∙ made)))
        (λ g is.
        let e : f g ≡ h = same_Some (f g) h (sym (ap (option_map f) is) ∙ made) in
        (g, is, same g ∙ ap (λ x. x.client) e, λ q. asked g (ap (λ x. x.asked) e ∙ q))))
        (λ other. (h, sym (at_edit_other f old.holders s t other) ∙ there_too, refl, λ q. q))
        (cases_eq t s)

-- none of what was stopped goes on
pub none_goes_on : (ws : List Work) (t : ℕ) → goes_on (map stop_work ws) t ≡ true → ⊥
none_goes_on ws zero e = false≢true e
none_goes_on ws (suc n) e = by_option (slice_get (map stop_work ws) n)
    (λ none. absurd (false≢true (sym (ap (λ o. unwrap_or (option_map (λ w. is_going w.fate) o) false) none) ∙ e)))
    (λ w is. absurd (false≢true (sym (stopped_at ws n w is) ∙ (sym (ap (λ o. unwrap_or (option_map (λ w. is_going w.fate) o) false) is) ∙ e))))

pub held_none : (clients : List Client) (part : Part) → ((t : ℕ) → goes_on part.order.works t ≡ true → ⊥) → Held clients part
held_none clients part none = record { at_each = λ t h there going. absurd (none t going) }

pub none_in_new : (t : ℕ) → goes_on [] t ≡ true → ⊥
none_in_new zero e = false≢true e
none_in_new (suc n) e = false≢true e

-- ---- a client changes

-- the change of one client
abbrev changes : (Client → Client) → ℕ → Client → Client
changes f number c = if c.number == number then f c else c

changes_keeps : (f : Client → Client) → ((c : Client) → (f c).number ≡ c.number) → (number : ℕ) (c : Client) → (changes f number c).number ≡ c.number
changes_keeps f keeps number c = step (c.number == number)
  where
    step : (b : Bool) → (if b then f c else c).number ≡ c.number
    step true = keeps c
    step false = refl

pub client_changed : (f : Client → Client) → ((c : Client) → (f c).number ≡ c.number) → (cs : List Client) (n : ℕ) (c : Client) → client_in cs n ≡ Some c → client_in (on_client f cs n) n ≡ Some (f c)
client_changed f keeps cs n c e = client_in-map (changes f n) (changes_keeps f keeps n) cs n ∙ (ap (option_map (changes f n)) e ∙ ap (λ b. Some (if b then f c else c)) (eq-eqb c.number n (client_number cs n c e)))

pub client_unchanged : (f : Client → Client) → ((c : Client) → (f c).number ≡ c.number) → (cs : List Client) (number n : ℕ) (c : Client) → (n ≡ number → ⊥) → client_in cs n ≡ Some c → client_in (on_client f cs number) n ≡ Some c
client_unchanged f keeps cs number n c other e = client_in-map (changes f number) (changes_keeps f keeps number) cs n ∙ (ap (option_map (changes f number)) e
    ∙ ap (λ b. Some (if b then f c else c)) (ne_eqb c.number number (λ same. other (sym (client_number cs n c e) ∙ same))))

-- an open transaction of the running part has no outcome
pub open_outcome : (d : DeskState) (t : ℕ) (h : Holder) → goes_on d.running.order.works t ≡ true → IsOpenAt d.clients d.running.epoch t h
    → is_some (outcome_at d (record { client = h.client; epoch = d.running.epoch; ticket = t })) ≡ false
open_outcome d t h going o =
    ap is_some (ap₂ (λ (p : Option Part) (c : Option Client). option_or (option_and_then (λ part. option_map AbortedBy (why_at part t)) p) (option_and_then (λ x. x.outcome) c))
    (ap (λ b. if b then Some d.running else option_and_then (λ (c : Part). if c.epoch == d.running.epoch then Some c else None) d.closed) (eq-eqb d.running.epoch d.running.epoch refl))
    o.found
    ∙ ap₂ (λ (w : Option (Why ℕ)) (q : Option (Outcome ℕ)). option_or (option_map AbortedBy w) q) (going_why d.running t going) o.not_ended)

-- who may begin has none that goes on
pub begins_alone : (d : DeskState) (t : ℕ) (h : Holder) → MayCall d (Begin h.client) → at_ticket d.running.holders t ≡ Some h → goes_on d.running.order.works t ≡ true → Held d.clients d.running → ⊥
begins_alone d t h may there going held =
    let o = held.at_each t h there going in
    false≢true (sym (open_outcome d t h going o) ∙ may.1 o.client (record { client = h.client; epoch = d.running.epoch; ticket = t }) o.found o.last)

pub held_begun : (d : DeskState) (client : ℕ) → MayCall d (Begin client) → length d.running.holders ≡ length d.running.order.works → Held d.clients d.running
    → Held (on_client (begin_client (record { client = client; epoch = d.running.epoch; ticket = suc (length d.running.order.works) })) d.clients client) (record d.running { order = after_begin d.running.order; holders = d.running.holders ++ new_holder client ∷ [] })
held_begun d client may even held = record { at_each = at_each }
  where
    x : Txn
    x = record { client = client; epoch = d.running.epoch; ticket = suc (length d.running.order.works) }

    older : (t : ℕ) (h : Holder) → at_ticket d.running.holders t ≡ Some h → goes_on d.running.order.works t ≡ true → IsOpenAt (on_client (begin_client x) d.clients client) d.running.epoch t h
    older t h there going =
        let o = held.at_each t h there going in
        record {
          client = o.client;
          found = client_unchanged (begin_client x) (λ c. refl) d.clients client h.client o.client
              (λ same. begins_alone d t h (subst (λ q. MayCall d (Begin q)) (sym same) may) there going held) o.found;
          last = o.last;
          not_ended = o.not_ended;
          here = o.here;
        }

    at_each : (t : ℕ) (h : Holder) → at_ticket (d.running.holders ++ new_holder client ∷ []) t ≡ Some h → goes_on (d.running.order.works ++ fresh ∷ []) t ≡ true → IsOpenAt (on_client (begin_client x) d.clients client) d.running.epoch t h
    at_each zero h there going = absurd (none-some h there)
    at_each (suc n) h there going = ⊎_elim
        (λ old.
        let was : slice_get d.running.holders n ≡ Some h = sym old ∙ there in
        let l = slice_get_within d.running.holders n h was in
        older (suc n) h was (⊎_elim
        (λ same. ap (λ o. unwrap_or (option_map (λ w. is_going w.fate) o) false) (sym same) ∙ going)
        (λ last. absurd (let e = last.0 in omega (arith, even, l, e)))
        (slice_get-push d.running.order.works fresh n)))
        (λ last.
        let is : new_holder client ≡ h = same_Some (new_holder client) h (sym last.2 ∙ there) in
        let at : n ≡ length d.running.order.works = last.0 ∙ even in
        subst (λ q. IsOpenAt (on_client (begin_client x) d.clients client) d.running.epoch (suc n) q) is (record {
          client = begin_client x may.0.client;
          found = client_changed (begin_client x) (λ c. refl) d.clients client may.0.client may.0.found;
          last = ap (λ k. Some (let q : Txn = record { client = client; epoch = d.running.epoch; ticket = suc k } in q)) (sym at);
          not_ended = refl;
          here = λ q. may.0.not_signed_off;
        }))
        (slice_get-push d.running.holders (new_holder client) n)

pub held_signed_off : (d : DeskState) (client : ℕ) → MayCall d (SignOff client) → Held d.clients d.running → Held (on_client sign_off_client d.clients client) d.running
held_signed_off d client may held = record {
  at_each = λ t h there going.
      let o = held.at_each t h there going in
      ⊎_elim
      (λ same.
      let found : client_in d.clients client ≡ Some o.client = subst (λ q. client_in d.clients q ≡ Some o.client) same o.found in
      let asked : h.asked ≡ true = sym (ap (λ q. unwrap_or (option_map (λ g. g.asked) q) false) there) ∙ may.1 o.client (record { client = h.client; epoch = d.running.epoch; ticket = t }) found o.last (record { runs = refl; goes = going }) in
      record {
        client = sign_off_client o.client;
        found = subst (λ q. client_in (on_client sign_off_client d.clients client) q ≡ Some (sign_off_client o.client)) (sym same) (client_changed sign_off_client (λ c. refl) d.clients client o.client found);
        last = o.last;
        not_ended = o.not_ended;
        here = λ q. absurd (false≢true (sym q ∙ asked));
      })
      (λ other. record {
        client = o.client;
        found = client_unchanged sign_off_client (λ c. refl) d.clients client h.client o.client other o.found;
        last = o.last;
        not_ended = o.not_ended;
        here = o.here;
      })
      (cases_eq h.client client);
}

-- another part's end settles none of these
pub held_settled : (clients : List Client) (part closed : Part) (otherwise : Outcome ℕ) → closed.epoch < part.epoch → Held clients part → Held (settle closed otherwise clients) part
held_settled clients part closed otherwise below held = record {
  at_each = λ t h there going.
      let o = held.at_each t h there going in
      let none : option_or (option_and_then (λ x. if x.epoch == closed.epoch then Some (outcome_in closed otherwise x.ticket) else None) o.client.last) o.client.outcome ≡ None =
      ap₂ (λ (l : Option Txn) (q : Option (Outcome ℕ)). option_or (option_and_then (λ x. if x.epoch == closed.epoch then Some (outcome_in closed otherwise x.ticket) else None) l) q) o.last o.not_ended
      ∙ ap (λ b. option_or (if b then Some (outcome_in closed otherwise t) else None) None) (ne_eqb part.epoch closed.epoch (λ e. omega arith)) in
      record {
        client = settle_client closed otherwise o.client;
        found = client_in-map (settle_client closed otherwise) (λ c. refl) clients h.client ∙ ap (option_map (settle_client closed otherwise)) o.found;
        last = o.last;
        not_ended = none;
        here = o.here;
      };
}
