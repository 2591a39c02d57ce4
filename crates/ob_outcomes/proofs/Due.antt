-- Who still goes on at the end of an epoch has asked to commit.
use Rattle.std.proofs.Common.{◌≡◌, ℕ, zero, suc, ◌+◌, ◌-◌, ◌*◌, ◌<◌, ◌≤◌, Bool, true, false, cond, not, ◌&&◌, ◌||◌, ◌==◌, List, [], ◌∷◌, ◌++◌, length, All, map, take, drop, replicate, Option, None}
use Rattle.std.proofs.Common.{Some, option_map, unwrap_or, is_some, refl, sym, ap, ap₂, ◌∙◌, subst, ⊎_elim, arith, nat_cmp, add-one, drop_of_length-le}
use Rattle.std.specs.Option.{is_none}
use Rattle.std.specs.List.{count_by, range_with_len}
use Rattle.std.proofs.lemmas.Bool.{cases_eq, cases_Bool, false≢true}
use Rattle.std.proofs.lemmas.List.Elements.{All-head, All-tail}
use Rattle.std.proofs.lemmas.List.Recursion.{is_count_by}
use Rattle.std.proofs.lemmas.Option.{none-some, same_Some}
use Rattle.ob_order.specs.Works.{at_ticket, goes_on}
use Rattle.std.specs.FinMap as finite
use Rattle.ob_order.specs.Order.{OrderState, answer, delivered}
use Rattle.ob_order.proofs.Batches.{none_of_length, delivered_pads}
use Rattle.ob_order.proofs.Newest.{by_option}
use Rattle.ob_order.proofs.Steps.{goes_on_range}
use Rattle.ob_desk.specs.declared.clients.Client.{Client}
use Rattle.ob_desk.specs.declared.clients.Holder.{Holder}
use Rattle.ob_desk.specs.Desk.{DeskState, Part, Call, TakeBatch, Deliver, Reply, Batch, Done, MayCall, DeskStep, waits, waiting_at, asked_at, client_in, look_at, with_order}
use Rattle.ob_desk.proofs.Counted.{count_ticket}
use Rattle.ob_session.specs.Steps.{Leads}
use Rattle.ob_outcomes.specs.Ends.{AllAsked, NeedsNoBatch, QueueFits, WaitingAreLive, EachHasHolder, WaitingHaveAsked, SignedOffHaveAsked, IsOfBatch, PadsChangeNothing, AskedOutlastPads}
use Rattle.ob_outcomes.proofs.Awaited.{Fits, answered_now}
use Rattle.ob_outcomes.proofs.Reached.{Kept, kept_always}
use Rattle.ob_outcomes.proofs.Closed.{asked_outlast_close}

-- ---- counts

-- A count of fewer is less, and where both are the same they count the same tickets.
record Counts (p q : ℕ → Bool) (n : ℕ) : Type 0 where
  less : count_by p (range_with_len 1 n) ≤ count_by q (range_with_len 1 n)
  alike : count_by p (range_with_len 1 n) ≡ count_by q (range_with_len 1 n) → (t : ℕ) → 0 < t → t ≤ n → q t ≡ true → p t ≡ true

counts : (p q : ℕ → Bool) (n : ℕ) → ((t : ℕ) → p t ≡ true → q t ≡ true) → Counts p q n
counts p q zero h = record { less = omega arith; alike = λ e t l g. absurd (omega arith) }
counts p q (suc n) h = subst (Counts p q) (add-one n) (step (p (n + 1)) (q (n + 1)) refl refl (counts p q n h))
  where
    step : (a b : Bool) → p (n + 1) ≡ a → q (n + 1) ≡ b → Counts p q n → Counts p q (n + 1)
    step a b is_a is_b low =
        let ps : count_by p (range_with_len 1 (n + 1)) ≡ count_by p (range_with_len 1 n) + cond a 1 0 = count_ticket p n ∙ ap (λ x. count_by p (range_with_len 1 n) + cond x 1 0) is_a in
        let qs : count_by q (range_with_len 1 (n + 1)) ≡ count_by q (range_with_len 1 n) + cond b 1 0 = count_ticket q n ∙ ap (λ x. count_by q (range_with_len 1 n) + cond x 1 0) is_b in
        let less = low.less in
        by_bits a b is_a is_b ps qs less
      where
        by_bits : (a b : Bool) → p (n + 1) ≡ a → q (n + 1) ≡ b → count_by p (range_with_len 1 (n + 1)) ≡ count_by p (range_with_len 1 n) + cond a 1 0 → count_by q (range_with_len 1 (n + 1)) ≡ count_by q (range_with_len 1 n) + cond b 1 0
            → count_by p (range_with_len 1 n) ≤ count_by q (range_with_len 1 n) → Counts p q (n + 1)
        by_bits true false is_a is_b ps qs less = absurd (false≢true (sym is_b ∙ h (n + 1) is_a))
        by_bits true true is_a is_b ps qs less = record {
          less = omega (arith, ps, qs, less);
          alike = λ e t l g is. ⊎_elim (λ here. ap p here ∙ is_a) (λ other. low.alike (omega (arith, ps, qs, e)) t l (omega arith) is) (cases_eq t (n + 1));
        }
        by_bits false true is_a is_b ps qs less = record { less = omega (arith, ps, qs, less); alike = λ e t l g is. absurd (omega (arith, ps, qs, less, e)) }
        by_bits false false is_a is_b ps qs less = record {
          less = omega (arith, ps, qs, less);
          alike = λ e t l g is. ⊎_elim (λ here. absurd (false≢true (sym (ap q here ∙ is_b) ∙ is))) (λ other. low.alike (omega (arith, ps, qs, e)) t l (omega arith) is) (cases_eq t (n + 1));
        }

-- ---- those that wait

-- who waits where no batch is needed has asked
waits_asked : (part : Part) (t : ℕ) → ((k : ℕ) → waiting_at part t ≡ Some k → is_some (answer part.order t k) ≡ true) → waits part t ≡ true → asked_at part t ≡ true
waits_asked part t answered e = step (goes_on part.order.works t) (asked_at part t) e
  where
    none_left : unwrap_or (option_map (λ k. is_none (answer part.order t k)) (waiting_at part t)) false ≡ false
    none_left = by_option (waiting_at part t)
        (λ none. ap (λ o. unwrap_or (option_map (λ k. is_none (answer part.order t k)) o) false) none)
        (λ k is. ap (λ o. unwrap_or (option_map (λ k. is_none (answer part.order t k)) o) false) is ∙ ap not (answered k is))

    step : (a b : Bool) → (a && (b || unwrap_or (option_map (λ k. is_none (answer part.order t k)) (waiting_at part t)) false)) ≡ true → b ≡ true
    step a true q = refl
    step true false q = absurd (false≢true (sym none_left ∙ q))
    step false false q = absurd (false≢true q)

waits_goes : (part : Part) (t : ℕ) → waits part t ≡ true → goes_on part.order.works t ≡ true
waits_goes part t e = step (goes_on part.order.works t) (asked_at part t || unwrap_or (option_map (λ k. is_none (answer part.order t k)) (waiting_at part t)) false) e
  where
    step : (a b : Bool) → (a && b) ≡ true → a ≡ true
    step true b q = refl
    step false b q = absurd (false≢true q)

-- nothing is queued where no batch is needed
none_queued : (places : ℕ) (o : OrderState) → NeedsNoBatch o → Fits places o → o.queue ≡ []
none_queued places o rests fits = ⊎_elim
    (λ empty. empty)
    (λ none_left. let few : length o.queue ≤ places * 0 = subst (λ n. length o.queue ≤ places * n) none_left fits.few in none_of_length o.queue (omega (arith, few)))
    rests.none_due

waiting_asked : (d : DeskState) → Kept d → NeedsNoBatch d.running.order → (look_at d).waiting ≡ (look_at d).live → AllAsked d.running
waiting_asked d h rests e t going =
    let range = goes_on_range d.running.order.works t going in
    let queue = none_queued d.setup.params.places d.running.order rests h.fits in
    waits_asked d.running t (λ k is. let a = answered_now d.running.order t k queue rests.none_flies is h.awaited in ap is_some a.1)
    ((counts (waits d.running) (goes_on d.running.order.works) (length d.running.order.works) (waits_goes d.running)).alike e t range.0 range.1 going)

pub queue_fits : QueueFits
queue_fits setup epoch left clients steps d may run = (kept_always setup epoch left clients steps d run).fits.few

pub waiting_are_live : WaitingAreLive
waiting_are_live setup epoch left clients steps d may run = (counts (waits d.running) (goes_on d.running.order.works) (length d.running.order.works) (waits_goes d.running)).less

pub each_has_holder : EachHasHolder
each_has_holder setup epoch left clients steps d may run = (kept_always setup epoch left clients steps d run).even

pub waiting_have_asked : WaitingHaveAsked
waiting_have_asked setup epoch left clients steps d may run rests e = waiting_asked d (kept_always setup epoch left clients steps d run) rests e

-- ---- those whose client has signed off

-- how many of these haven't signed off
abbrev here : List Client → ℕ
here [] = 0
here (c ∷ cs) = cond (not c.signed_off) (1 + here cs) (here cs)

signed_off_all : (cs : List Client) (n : ℕ) (c : Client) → here cs ≡ 0 → client_in cs n ≡ Some c → c.signed_off ≡ true
signed_off_all [] n c e found = absurd (none-some c found)
signed_off_all (x ∷ cs) n c e found = step x.signed_off refl (x.number == n) e found (λ rest later. signed_off_all cs n c rest later)
  where
    step : (b : Bool) → x.signed_off ≡ b → (is : Bool) → cond (not b) (1 + here cs) (here cs) ≡ 0 → cond is (Some x) (client_in cs n) ≡ Some c → (here cs ≡ 0 → client_in cs n ≡ Some c → c.signed_off ≡ true) → c.signed_off ≡ true
    step true off true e found rest = ap (λ y. y.signed_off) (sym (same_Some x c found)) ∙ off
    step true off false e found rest = rest e found
    step false off is e found rest = absurd (omega arith)

-- where none is left each has signed off
pub all_signed_off : (cs : List Client) (n : ℕ) (c : Client) → count_by (λ (c : Client). not c.signed_off) cs ≡ 0 → client_in cs n ≡ Some c → c.signed_off ≡ true
all_signed_off cs n c none found = signed_off_all cs n c (is_count_by here (λ (c : Client). not c.signed_off) refl (λ c cs. refl) cs ∙ none) found

asked_or_here : (d : DeskState) → Kept d → (look_at d).clients ≡ 0 → AllAsked d.running
asked_or_here d h none t going = by_option (at_ticket d.running.holders t)
    (λ no. absurd (drawn d.running.holders t (let range = goes_on_range d.running.order.works t going in let even = h.even in let l : (0 < t) × (t ≤ length d.running.holders) = (range.0, omega (arith, range.1, even)) in l) no))
    (λ x is.
    let o = h.held.at_each t x is going in
    ap (λ q. unwrap_or (option_map (λ g. g.asked) q) false) is ∙ ⊎_elim
    (λ yes. yes)
    (λ not_yet. absurd (false≢true (sym (o.here not_yet) ∙ all_signed_off d.clients x.client o.client none o.found)))
    (cases_Bool x.asked))
  where
    drawn : (hs : List Holder) (t : ℕ) → (0 < t) × (t ≤ length hs) → at_ticket hs t ≡ None → ⊥
    drawn hs zero l e = omega (arith, l.0)
    drawn [] (suc n) l e = omega (arith, l.1)
    drawn (x ∷ hs) (suc zero) l e = none-some x (sym e)
    drawn (x ∷ hs) (suc (suc n)) l e = drawn hs (suc n) (omega arith, omega (arith, l.1)) e

pub signed_off_have_asked : SignedOffHaveAsked
signed_off_have_asked setup epoch left clients steps d may run none = asked_or_here d (kept_always setup epoch left clients steps d run) none

-- ---- batches with pads alone

-- the desk with so many batches left
abbrev with_left : DeskState → ℕ → DeskState
with_left d n = record d { running = with_order d.running (record d.running.order { left = n }) }

-- nothing is queued or in flight
record IsQuiet (o : OrderState) : Type 0 where
  none_queued : o.queue ≡ []
  none_flies : o.flying ≡ []

take_none : (n : ℕ) → (let none : List ℕ = [] in take n none) ≡ []
take_none zero = refl
take_none (suc n) = refl

pad_step : (d : DeskState) (call : Call) (reply : Reply) (mid : DeskState) → IsOfBatch (call, reply) → MayCall d call → DeskStep d call reply mid → IsQuiet d.running.order → mid ≡ with_left d mid.running.order.left
pad_step d TakeBatch (Batch keys) mid of may step quiet =
    let o = d.running.order in
    let places = d.setup.params.places in
    let state : mid ≡ with_left d (o.left - 1) = step.state ∙ ap₂ (λ (q f : List ℕ). let n : DeskState = record d { running = with_order d.running (record o { left = o.left - 1; queue = q; flying = f }) } in n)
    (ap (drop places) quiet.none_queued ∙ (drop_of_length-le [] (omega arith) ∙ sym quiet.none_queued))
    (ap (take places) quiet.none_queued ∙ (take_none places ∙ sym quiet.none_flies)) in
    state ∙ ap (with_left d) (sym (ap (λ (n : DeskState). n.running.order.left) state))
pad_step d (Deliver keys values) Done mid of may step quiet =
    let o = d.running.order in
    let pads : ℕ = d.setup.params.places - length o.flying in
    let none_there : delivered o.bases keys values ≡ o.bases = ap (λ ks. delivered o.bases ks values) (may.1 ∙ ap (λ f. map Some f ++ replicate pads None) quiet.none_flies) ∙ delivered_pads o.bases [] pads values in
    let state : mid ≡ with_left d o.left = step.state ∙ ap₂ (λ (f : List ℕ) (b : finite.FinMap nat_cmp (Option (List ℕ))). let n : DeskState = record d { running = with_order d.running (record o { flying = f; bases = b }) } in n) (sym quiet.none_flies) none_there in
    state ∙ ap (with_left d) (sym (ap (λ (n : DeskState). n.running.order.left) state))
pad_step d TakeBatch _ mid of may step quiet = absurd step
pad_step d (Deliver keys values) _ mid of may step quiet = absurd step
pad_step d _ _ mid of may step quiet = absurd of

pads_from : (d : DeskState) (batches : List (Call × Reply)) (new : DeskState) → All IsOfBatch batches → Leads d batches new → IsQuiet d.running.order → new ≡ with_left d new.running.order.left
pads_from d [] new of run quiet = subst (λ (n : DeskState). n ≡ with_left d n.running.order.left) (sym run) refl
pads_from d (step ∷ steps) new of run quiet =
    let mid = run.0 in
    let one : mid ≡ with_left d mid.running.order.left = pad_step d step.0 step.1 mid (All-head IsOfBatch step steps of) run.1 run.2 quiet in
    let still : IsQuiet mid.running.order = subst (λ (n : DeskState). IsQuiet n.running.order) (sym one) (record { none_queued = quiet.none_queued; none_flies = quiet.none_flies }) in
    pads_from mid steps new (All-tail IsOfBatch step steps of) run.3 still ∙ ap (λ (n : DeskState). with_left n new.running.order.left) one

pub pads_change_nothing : PadsChangeNothing
pads_change_nothing setup epoch left clients steps d may run batches new rests of more =
    pads_from d batches new of more (record { none_queued = none_queued d.setup.params.places d.running.order rests (kept_always setup epoch left clients steps d run).fits; none_flies = rests.none_flies })

pub asked_outlast_pads : AskedOutlastPads
asked_outlast_pads setup epoch left clients steps d may run batches new rests of more asked =
    asked_outlast_close new.running (subst (λ (n : DeskState). AllAsked n.running) (sym (pads_change_nothing setup epoch left clients steps d may run batches new rests of more)) asked)
