-- With one client only the last transaction of an epoch goes on, so none is in another's way.
use Rattle.std.proofs.Common.{◌≡◌, ℕ, zero, suc, ◌<◌, ◌≤◌, true, false, List, [], ◌∷◌, ◌++◌, length, All, Contains, Option, None, Some, option_map, unwrap_or, slice_get, refl, sym, ap, ◌∙◌, subst, ⊎_elim, arith, length-append}
use Rattle.std.proofs.lemmas.Option.{none-some, same_Some}
use Rattle.ob_serial.specs.declared.records.Why.{Why}
use Rattle.ob_serial.specs.declared.records.Outcome.TheVariants.{Committed, Aborted as AbortedBy}
use Rattle.ob_order.specs.Works.{Work, is_going, goes_on, has_read, newest, source_of}
use Rattle.ob_order.specs.Order.{OrderState, fresh, covered_mark, write_reply}
use Rattle.ob_order.proofs.Edits.{slice_get-push}
use Rattle.ob_order.proofs.Steps.{goes_on_range}
use Rattle.ob_desk.specs.Desk.{Part, DeskState, Setup, Begin, MayCall, new_desk, record_of, why_of, why_refused}
use Rattle.ob_outcomes.specs.Alone.{IsOwnWhy, IsOwnOutcome, OneClient}
use Rattle.ob_outcomes.proofs.Callers.{contains_found}
use Rattle.ob_outcomes.proofs.Desks.{Runs, runs_new}
use Rattle.ob_outcomes.proofs.Held.{begins_alone, none_in_new}
use Rattle.ob_outcomes.proofs.Noted.{greatest_within, refusal}
use Rattle.ob_outcomes.proofs.Records.{place_of, record_all, why_told}
use Rattle.ob_outcomes.proofs.Causes.{IsTale, Sound, good_new, told_all}

-- who goes on is the last
pub record OnlyLast (ws : List Work) : Type 0 where
  pub at_each : (t : ℕ) → goes_on ws t ≡ true → t ≡ length ws

-- the one that there is
pub the_one : (c n : ℕ) → Contains (c ∷ []) n → n ≡ c
the_one c n h = let p = place_of (c ∷ []) n h in at p.0 p.1
  where
    at : (i : ℕ) → slice_get (c ∷ []) i ≡ Some n → n ≡ c
    at zero e = sym (same_Some c n e)
    at (suc i) e = absurd (none-some n e)

pub item : {A : Type 0} (xs : List A) (i : ℕ) → i < length xs → (x : A) × (slice_get xs i ≡ Some x)
item [] i l = absurd (omega arith)
item (x ∷ xs) zero l = (x, refl)
item (x ∷ xs) (suc i) l = item xs i (omega arith)

-- where its client begins a transaction none goes on
pub none_goes : (setup : Setup) (c : ℕ) (d : DeskState) (client : ℕ) → Runs setup (c ∷ []) d → MayCall d (Begin client) → (t : ℕ) → goes_on d.running.order.works t ≡ true → ⊥
none_goes setup c d client runs may zero going = none_in_new zero going
none_goes setup c d client runs may (suc n) going =
    let range = goes_on_range d.running.order.works (suc n) going in
    let even = runs.kept.even in
    let x = item d.running.holders n (omega (arith, range.1, even)) in
    let o = runs.kept.held.at_each (suc n) x.0 x.1 going in
    let its : x.0.client ≡ c = the_one c x.0.client (subst (λ (ns : List ℕ). Contains ns x.0.client) runs.numbers (contains_found d.clients x.0.client o.client o.found)) in
    let begins : client ≡ c = the_one c client (subst (λ (ns : List ℕ). Contains ns client) runs.numbers (contains_found d.clients client may.0.client may.0.found)) in
    begins_alone d (suc n) x.0 (subst (λ q. MayCall d (Begin q)) (begins ∙ sym its) may) x.1 going runs.kept.held

pub last_begun : (ws : List Work) → ((t : ℕ) → goes_on ws t ≡ true → ⊥) → OnlyLast (ws ++ fresh ∷ [])
last_begun ws none = record { at_each = at_each }
  where
    at_each : (t : ℕ) → goes_on (ws ++ fresh ∷ []) t ≡ true → t ≡ length (ws ++ fresh ∷ [])
    at_each zero e = absurd (none_in_new zero e)
    at_each (suc n) e = ⊎_elim
        (λ old. absurd (none (suc n) (sym (ap (λ o. unwrap_or (option_map (λ w. is_going w.fate) o) false) old) ∙ e)))
        (λ last. let at = last.0 in let long = length-append ws (fresh ∷ []) in omega (arith, at, long))
        (slice_get-push ws fresh n)

-- a write of the last transaction covers no later one's read
refused_alone : (setup : Setup) (o : OrderState) (t k : ℕ) (why : Why ℕ) → OnlyLast o.works → goes_on o.works t ≡ true → why_refused (write_reply setup.params o t k) ≡ Some why → IsOwnWhy why
refused_alone setup o t k why only going e = ⊎_elim
    (λ conflict. absurd (
    let last = only.at_each t going in
    let above = conflict.1 in
    let within : covered_mark o t k ≤ length o.works = greatest_within (has_read o.works k (source_of (newest o.works t k))) (length o.works) in
    omega (arith, last, above, within)))
    (λ full. subst IsOwnWhy (sym full) tt)
    (refusal setup.params o t k why e).either

pub alone_tale : (setup : Setup) (c : ℕ) → IsTale setup (c ∷ []) (λ ws t why. IsOwnWhy why) OnlyLast (λ d. Unit {0})
alone_tale setup c = record {
  lasts = λ ws vs t why g h. h;
  asks = λ ws t. tt;
  ends = λ ws t. tt;
  falls = λ ws s t on only going going_too other lost. absurd (other (only.at_each t going_too ∙ sym (only.at_each s going)));
  full = λ d x k queued left known none runs may live only e. tt;
  refused = refused_alone setup;
  past_reads = λ ws t keys given. tt;
  past_writes = λ ws t keys given. tt;
  empty = record { at_each = λ t e. absurd (none_in_new t e) };
  fewer = λ ws vs len went only. record { at_each = λ t e. only.at_each t (went t e) ∙ sym len };
  begins = λ d client runs may only. last_begun d.running.order.works (none_goes setup c d client runs may);
}

record_alone : (part : Part) → Sound (λ ws t why. IsOwnWhy why) OnlyLast part → All (λ t. IsOwnOutcome t.outcome) (record_of part).txns
record_alone part sound = record_all (λ t. IsOwnOutcome t.outcome) part (λ n w h at_work at_holder. by_why (why_of w.fate h.cause) (λ why e. sound.told.at_each (suc n) why (why_told part n w h at_work at_holder ∙ e)))
  where
    by_why : (o : Option (Why ℕ)) → ((why : Why ℕ) → o ≡ Some why → IsOwnWhy why) → IsOwnOutcome (unwrap_or (option_map AbortedBy o) Committed)
    by_why None told = tt
    by_why (Some why) told = told why refl

pub one_client : OneClient
one_client setup epoch left client steps d may run =
    told_all (λ ws t why. IsOwnWhy why) OnlyLast setup (client ∷ []) (λ d. Unit {0}) (alone_tale setup client) (λ r. All (λ t. IsOwnOutcome t.outcome) r.txns) record_alone (λ d. tt)
    (new_desk setup epoch left (client ∷ [])) steps d run (runs_new setup epoch left (client ∷ [])) (good_new (λ ws t why. IsOwnWhy why) OnlyLast setup (client ∷ []) (λ d. Unit {0}) (alone_tale setup client) epoch left)
