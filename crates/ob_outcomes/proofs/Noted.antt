-- The cause that was noted of each transaction is shown by the works, and so by the record.
use Rattle.std.proofs.Common.{◌≡◌, ℕ, zero, suc, ◌*◌, ◌<◌, ◌≤◌, Bool, true, false, not, ◌&&◌, ◌==◌, nat_lt, if◌then◌else◌, List, [], ◌∷◌, length, All, Option, None, Some, option_map, unwrap_or, slice_get, refl, sym, ap, ◌∙◌, subst, inl, inr, ◌⊎◌, ⊎_elim, arith, eqb-true}
use Rattle.std.proofs.lemmas.Bool.{cases_eq, false≢true, ltb-true}
use Rattle.std.proofs.lemmas.Option.{none-some, same_Some, slice_get_within}
use Rattle.ob_base.specs.declared.params.Params.{Params}
use Rattle.ob_base.specs.declared.op.Op.TheVariants.{Get}
use Rattle.ob_serial.specs.declared.records.Why.{Why}
use Rattle.ob_serial.specs.declared.records.Why.TheVariants.{Conflict, Depends, ReadsFull, WritesFull, ShareReads, ShareWrites, EpochEnd, Asked, Stopped}
use Rattle.ob_serial.specs.declared.records.Outcome.TheVariants.{Committed, Aborted as AbortedBy}
use Rattle.ob_order.specs.declared.answers.Version.{Version}
use Rattle.ob_order.specs.declared.answers.Read.TheVariants.{Value as Found, Queued, Full as ReadsAreFull}
use Rattle.ob_order.specs.declared.answers.Wrote.TheVariants.{Yes, Conflict as Conflicts, Full as WritesAreFull}
use Rattle.ob_order.specs.Works.{Work, is_going, is_gone, has_get, has_read, newest, source_of, greatest, Tidy}
use Rattle.ob_order.specs.Order.{OrderState, answer, found, is_asked_for, read_reply, covered_mark, other_keys, write_reply}
use Rattle.ob_order.proofs.Newest.{by_option, newest_found}
use Rattle.ob_order.proofs.Links.{any_found}
use Rattle.ob_desk.specs.declared.clients.Holder.{Holder}
use Rattle.ob_desk.specs.Desk.{Part, Setup, new_desk, record_of, why_of, why_refused}
use Rattle.ob_outcomes.specs.Shown.{SourcesStand, IsWhy, IsOutcome, OutcomesAreShown}
use Rattle.ob_outcomes.proofs.Grows.{Grows, HasLost, lost_grows}
use Rattle.ob_outcomes.proofs.Desks.{runs_new}
use Rattle.ob_outcomes.proofs.Causes.{IsTale, Sound, good_new, told_all}
use Rattle.ob_outcomes.proofs.Records.{place_of, contains_at, made, record_all, reader_of, gone_in, going_in, why_told, why_none}

-- a later ticket has read the key from a source at or below t
pub record HasReader (ws : List Work) (t key reader : ℕ) : Type 0 where
  pub later : t < reader
  pub source : ℕ
  pub at_or_below : source ≤ t
  pub read : has_read ws key source reader ≡ true

-- what the works show of a cause
abbrev pub IsNoted : Setup → List Work → ℕ → Why ℕ → Type 0
IsNoted setup ws t (Conflict key reader) = HasReader ws t key reader
IsNoted setup ws t (Depends on) = HasLost ws t on
IsNoted setup ws t (ReadsFull queued left) = queued ≡ setup.params.places * left
IsNoted setup ws t (WritesFull keys) = keys ≡ setup.params.writes
IsNoted setup ws t (ShareReads keys) = setup.shares.reads ≡ Some keys
IsNoted setup ws t (ShareWrites keys) = setup.shares.writes ≡ Some keys
IsNoted setup ws t EpochEnd = Unit {0}
IsNoted setup ws t Asked = Unit {0}
IsNoted setup ws t (Stopped fault) = ⊥

noted_lasts : (setup : Setup) (ws vs : List Work) (t : ℕ) (why : Why ℕ) → Grows ws vs → IsNoted setup ws t why → IsNoted setup vs t why
noted_lasts setup ws vs t (Conflict key reader) g h = record { later = h.later; source = h.source; at_or_below = h.at_or_below; read = g.reads key h.source reader h.read }
noted_lasts setup ws vs t (Depends on) g h = lost_grows ws vs t on g h
noted_lasts setup ws vs t (ReadsFull queued left) g h = h
noted_lasts setup ws vs t (WritesFull keys) g h = h
noted_lasts setup ws vs t (ShareReads keys) g h = h
noted_lasts setup ws vs t (ShareWrites keys) g h = h
noted_lasts setup ws vs t EpochEnd g h = h
noted_lasts setup ws vs t Asked g h = h
noted_lasts setup ws vs t (Stopped fault) g h = h

-- ---- what the replies say

-- a get that found no place
full_is : (a : Option Version) (b : Bool) (q l queued left : ℕ) → unwrap_or (option_map found a) (if b then ReadsAreFull q l else Queued) ≡ ReadsAreFull queued left → (b ≡ true) × (q ≡ queued) × (l ≡ left)
full_is (Some v) b q l queued left e = let f : Found v.value v.source ≡ ReadsAreFull queued left = e in absurd (cc)
full_is None false q l queued left e = let f : Queued ≡ ReadsAreFull queued left = e in absurd (cc)
full_is None true q l queued left e = let f : ReadsAreFull q l ≡ ReadsAreFull queued left = e in (refl, cc, cc)

both_hold : (a b : Bool) → (a && b) ≡ true → b ≡ true
both_hold true b e = e
both_hold false b e = absurd (false≢true e)

pub full_noted : (p : Params) (o : OrderState) (t k queued left : ℕ) → read_reply p o t k ≡ ReadsAreFull queued left → queued ≡ p.places * left
full_noted p o t k queued left e =
    let f = full_is (answer o t k) (not (is_asked_for o k) && (length o.queue == p.places * o.left)) (length o.queue) o.left queued left e in
    sym f.1 ∙ (eqb-true (length o.queue) (p.places * o.left) (both_hold (not (is_asked_for o k)) (length o.queue == p.places * o.left) f.0) ∙ ap (λ n. p.places * n) f.2)

-- and then as many keys are queued as the batches that are left have places
pub full_queue : (p : Params) (o : OrderState) (t k queued left : ℕ) → read_reply p o t k ≡ ReadsAreFull queued left → length o.queue ≡ p.places * o.left
full_queue p o t k queued left e =
    let f = full_is (answer o t k) (not (is_asked_for o k) && (length o.queue == p.places * o.left)) (length o.queue) o.left queued left e in
    eqb-true (length o.queue) (p.places * o.left) (both_hold (not (is_asked_for o k)) (length o.queue == p.places * o.left) f.0)

greatest_passes : (q : ℕ → Bool) (n : ℕ) → 0 < greatest q n → q (greatest q n) ≡ true
greatest_passes q zero l = absurd (omega arith)
greatest_passes q (suc n) l = step (q (suc n)) refl l (greatest_passes q n)
  where
    step : (b : Bool) → q (suc n) ≡ b → 0 < (if b then suc n else greatest q n) → (0 < greatest q n → q (greatest q n) ≡ true) → q (if b then suc n else greatest q n) ≡ true
    step true is l rest = is
    step false is l rest = rest l

pub greatest_within : (q : ℕ → Bool) (n : ℕ) → greatest q n ≤ n
greatest_within q zero = omega arith
greatest_within q (suc n) = step (q (suc n)) (greatest_within q n)
  where
    step : (b : Bool) → greatest q n ≤ n → (if b then suc n else greatest q n) ≤ suc n
    step true l = omega arith
    step false l = omega arith

source_low : (ws : List Work) (t k : ℕ) → source_of (newest ws t k) ≤ t
source_low ws t k = by_option (newest ws t k)
    (λ none. let z : source_of (newest ws t k) ≡ 0 = ap source_of none in omega (arith, z))
    (λ v is. let f = newest_found ws t k v is in let e : source_of (newest ws t k) ≡ v.source = ap source_of is in let l = f.at_or_below in omega (arith, e, l))

-- why a write was refused: a later reader, or no place
pub record IsRefusal (p : Params) (o : OrderState) (t k : ℕ) (why : Why ℕ) : Type 0 where
  pub either : ((why ≡ Conflict k (covered_mark o t k)) × (t < covered_mark o t k)) ⊎ (why ≡ WritesFull p.writes)

pub refusal : (p : Params) (o : OrderState) (t k : ℕ) (why : Why ℕ) → why_refused (write_reply p o t k) ≡ Some why → IsRefusal p o t k why
refusal p o t k why e = record { either = step (nat_lt t (covered_mark o t k)) (other_keys p o k == p.writes) (ltb-true t (covered_mark o t k)) e }
  where
    step : (a b : Bool) → (a ≡ true → t < covered_mark o t k) → why_refused (if a then Conflicts k (covered_mark o t k) else (if b then WritesAreFull p.writes else Yes)) ≡ Some why
        → ((why ≡ Conflict k (covered_mark o t k)) × (t < covered_mark o t k)) ⊎ (why ≡ WritesFull p.writes)
    step true b above f = inl (sym (same_Some (Conflict k (covered_mark o t k)) why f), above refl)
    step false true above f = inr (sym (same_Some (WritesFull p.writes) why f))
    step false false above f = absurd (none-some why f)

refused_noted : (setup : Setup) (o : OrderState) (t k : ℕ) (why : Why ℕ) → why_refused (write_reply setup.params o t k) ≡ Some why → IsNoted setup o.works t why
refused_noted setup o t k why e = ⊎_elim
    (λ conflict. subst (IsNoted setup o.works t) (sym conflict.0) (record {
      later = conflict.1;
      source = source_of (newest o.works t k);
      at_or_below = source_low o.works t k;
      read = greatest_passes (has_read o.works k (source_of (newest o.works t k))) (length o.works) (let l = conflict.1 in omega (arith, l));
    }))
    (λ full. subst (IsNoted setup o.works t) (sym full) refl)
    (refusal setup.params o t k why e).either

pub noted_tale : (setup : Setup) (clients : List ℕ) → IsTale setup clients (IsNoted setup) (λ ws. Unit {0}) (λ d. Unit {0})
noted_tale setup clients = record {
  lasts = noted_lasts setup;
  asks = λ ws t. tt;
  ends = λ ws t. tt;
  falls = λ ws s t on q going going_too other lost. lost;
  full = λ d x k queued left known none runs may live q e. full_noted setup.params d.running.order x.ticket k queued left e;
  refused = λ o t k why q going e. refused_noted setup o t k why e;
  past_reads = λ ws t keys given. given;
  past_writes = λ ws t keys given. given;
  empty = tt;
  fewer = λ ws vs len went q. tt;
  begins = λ d client runs may q. tt;
}

-- ---- what the record shows

why_shown : (setup : Setup) (part : Part) (n : ℕ) (w : Work) (h : Holder) → length part.holders ≡ length part.order.works → slice_get part.order.works n ≡ Some w
    → (why : Why ℕ) → IsNoted setup part.order.works (suc n) why → IsWhy setup (record_of part) (made part.epoch (suc n) w h) why
why_shown setup part n w h even at (Conflict key reader) noted =
    let r = reader_of part key noted.source reader even noted.read in
    record { later = noted.later; txn = r.txn; there = r.there; named = r.named; source = noted.source; at_or_below = noted.at_or_below; got = (r.reply, r.got) }
why_shown setup part n w h even at (Depends on) noted =
    let g = gone_in part on even noted.gone in
    let r = any_found noted.key on w.ops (sym (ap (λ o. unwrap_or (option_map (λ x. has_get x.ops noted.key on) o) false) at) ∙ noted.read) in
    record { earlier = noted.earlier; key = noted.key; got = (r.1, contains_at w.ops r.0 (Get noted.key r.1 on) r.2); txn = g.txn; there = g.there; named = g.named; not_committed = g.stands }
why_shown setup part n w h even at (ReadsFull queued left) noted = noted
why_shown setup part n w h even at (WritesFull keys) noted = noted
why_shown setup part n w h even at (ShareReads keys) noted = noted
why_shown setup part n w h even at (ShareWrites keys) noted = noted
why_shown setup part n w h even at EpochEnd noted = noted
why_shown setup part n w h even at Asked noted = noted
why_shown setup part n w h even at (Stopped fault) noted = noted

-- a ticket that was read from is drawn
source_drawn : (ws : List Work) (t : ℕ) → 0 < t → t ≤ length ws → is_gone ws t ≡ false → (n : ℕ) × (w : Work) × (t ≡ suc n) × (slice_get ws n ≡ Some w) × (is_going w.fate ≡ true)
source_drawn ws zero l g e = absurd (omega arith)
source_drawn ws (suc n) l g e = by_option (slice_get ws n)
    (λ none. absurd (let past = past_end ws n none in omega arith))
    (λ w is. (n, w, refl, is, negated (is_going w.fate) (sym (ap (λ o. unwrap_or (option_map (λ x. not (is_going x.fate)) o) false) is) ∙ e)))
  where
    negated : (b : Bool) → not b ≡ false → b ≡ true
    negated true f = refl
    negated false f = absurd (false≢true (sym f))

    past_end : (xs : List Work) (i : ℕ) → slice_get xs i ≡ None → length xs ≤ i
    past_end [] i f = omega arith
    past_end (x ∷ xs) zero f = absurd (none-some x (sym f))
    past_end (x ∷ xs) (suc i) f = let rest = past_end xs i f in omega (arith, rest)

sources_stand : (part : Part) (n : ℕ) (w : Work) (h : Holder) → length part.holders ≡ length part.order.works → Tidy part.order.works → slice_get part.order.works n ≡ Some w → is_going w.fate ≡ true
    → SourcesStand (record_of part) (made part.epoch (suc n) w h)
sources_stand part n w h even tidy at going key source got =
    let p = place_of w.ops (Get key got.0 source) got.1 in
    let low : source ≤ suc n = tidy.rises.at_each n w at going p.0 key got.0 source p.1 in
    let stands : is_gone part.order.works source ≡ false = tidy.at_each n w at going p.0 key got.0 source p.1 in
    let within = slice_get_within part.order.works n w at in
    ⊎_elim
    (λ base. inl base)
    (λ other.
    let d = source_drawn part.order.works source (omega (arith, other)) (omega (arith, low, within)) stands in
    let c = going_in part d.0 d.1 even d.3 d.4 in
    inr (low, record { txn = c.txn; there = c.there; named = c.named ∙ sym d.2; committed = c.stands }))
    (cases_eq source 0)

record_shown : (setup : Setup) (part : Part) → Sound (IsNoted setup) (λ ws. Unit {0}) part → All (λ t. IsOutcome setup (record_of part) t t.outcome) (record_of part).txns
record_shown setup part sound = record_all (λ t. IsOutcome setup (record_of part) t t.outcome) part (λ n w h at_work at_holder. by_why n w h at_work (why_of w.fate h.cause) refl (λ why e. sound.told.at_each (suc n) why (why_told part n w h at_work at_holder ∙ e)))
  where
    by_why : (n : ℕ) (w : Work) (h : Holder) → slice_get part.order.works n ≡ Some w → (o : Option (Why ℕ)) → why_of w.fate h.cause ≡ o → ((why : Why ℕ) → o ≡ Some why → IsNoted setup part.order.works (suc n) why)
        → IsOutcome setup (record_of part) (made part.epoch (suc n) w h) (unwrap_or (option_map AbortedBy o) Committed)
    by_why n w h at None e noted = sources_stand part n w h sound.even sound.tidy at (why_none w.fate h.cause e)
    by_why n w h at (Some why) e noted = why_shown setup part n w h sound.even at why (noted why refl)

pub outcomes_are_shown : OutcomesAreShown
outcomes_are_shown setup epoch left clients steps d may run =
    told_all (IsNoted setup) (λ ws. Unit {0}) setup clients (λ d. Unit {0}) (noted_tale setup clients) (λ r. All (λ t. IsOutcome setup r t t.outcome) r.txns) (record_shown setup)
    (λ d. tt) (new_desk setup epoch left clients) steps d run (runs_new setup epoch left clients) (good_new (IsNoted setup) (λ ws. Unit {0}) setup clients (λ d. Unit {0}) (noted_tale setup clients) epoch left)
