-- The list of the tickets that go on.
use Rattle.std.proofs.Common.{◌≡◌, ℕ, zero, suc, ◌+◌, ◌<◌, Bool, true, false, cond, ◌&&◌, filter, List, [], ◌∷◌, ◌++◌, length, map, Option, None, Some, option_map, unwrap_or, slice_get, refl, sym, ap, ap₂, ◌∙◌, ⊎_elim, arith, length-append}
use Rattle.std.specs.List.{count_by, range_with_len}
use Rattle.std.proofs.lemmas.Bool.{false≢true}
use Rattle.std.proofs.lemmas.List.{length-map}
use Rattle.std.proofs.lemmas.List.Elements.{filter-append}
use Rattle.std.proofs.lemmas.List.Sums.{length-filter}
use Rattle.ob_order.specs.Works.{Work, is_going, edit, goes_on, wait_for, stop_work, aborted, add_op, with_op}
use Rattle.ob_order.specs.Order.{OrderState, fresh, after_read, after_again, after_write}
use Rattle.ob_order.specs.OrderModel.{OrderModel}
use Rattle.ob_order.specs.declared.answers.Read.{Read}
use Rattle.ob_order.specs.declared.answers.Wrote.{Wrote}
use Rattle.ob_base.specs.declared.op.Op.{Op}
use Rattle.ob_order.specs.declared.answers.Read.TheVariants.{Value as Found, Queued, Full as ReadsAreFull}
use Rattle.ob_order.specs.declared.answers.Wrote.TheVariants.{Yes, Conflict as Conflicts, Full as WritesAreFull}
use Rattle.ob_order.proofs.Edits.{length-edit, slice_get-push}
use Rattle.ob_order.proofs.Falls.{fallen_waits, fallen_aborted, length-aborted, goes_on-edit}
use Rattle.ob_order.proofs.Counts.{stopped_at}
use Rattle.ob_shares.specs.declared.uses.Uses.{Uses as CodeUses}
use Rattle.ob_desk.specs.declared.part.Part.{Part as CodePart}
use Rattle.ob_desk.specs.Desk.{Part, Fault, waits}
use Rattle.ob_desk.specs.Parts.{HasGoing, ArePartsKept}

-- ---- filters and counts

-- one test behind another that passes whatever it passes
filter_behind : (p q : ℕ → Bool) → ((t : ℕ) → p t ≡ true → q t ≡ true) → (ts : List ℕ) → filter p (filter q ts) ≡ filter p ts
filter_behind p q passes [] = refl
filter_behind p q passes (t ∷ ts) = step (p t) (q t) refl refl (passes t) (filter_behind p q passes ts)
  where
    step : (a b : Bool) → p t ≡ a → q t ≡ b → (p t ≡ true → q t ≡ true) → filter p (filter q ts) ≡ filter p ts → filter p (cond b (t ∷ filter q ts) (filter q ts)) ≡ cond a (t ∷ filter p ts) (filter p ts)
    step true true at_p at_q f rest = ap (λ a. cond a (t ∷ filter p (filter q ts)) (filter p (filter q ts))) at_p ∙ ap (λ us. t ∷ us) rest
    step false true at_p at_q f rest = ap (λ a. cond a (t ∷ filter p (filter q ts)) (filter p (filter q ts))) at_p ∙ rest
    step true false at_p at_q f rest = absurd (false≢true (sym at_q ∙ f at_p))
    step false false at_p at_q f rest = rest

-- tests that agree up to a number
filter_below : (p q : ℕ → Bool) (a n : ℕ) → ((t : ℕ) → t < a + n → p t ≡ q t) → filter p (range_with_len a n) ≡ filter q (range_with_len a n)
filter_below p q a zero same = refl
filter_below p q a (suc n) same = ap₂ (λ (b : Bool) (ts : List ℕ). cond b (a ∷ ts) ts) (same a (omega arith)) (filter_below p q (a + 1) n (λ t l. same t (omega arith)))

one_further : (a n : ℕ) → range_with_len a (suc n) ≡ range_with_len a n ++ (a + n) ∷ []
one_further a zero = ap (λ k. k ∷ []) (let e : a ≡ a + 0 = omega arith in e)
one_further a (suc n) = ap (λ ks. a ∷ ks) (one_further (a + 1) n ∙ ap (λ k. range_with_len (a + 1) n ++ k ∷ []) (let e : a + 1 + n ≡ a + suc n = omega arith in e))

-- ---- counts over the list

counted : (ws : List Work) (tickets : List ℕ) (p : ℕ → Bool) → HasGoing ws tickets → ((t : ℕ) → p t ≡ true → goes_on ws t ≡ true) → count_by p tickets ≡ count_by p (range_with_len 1 (length ws))
counted ws tickets p h passes = sym (length-filter p tickets)
    ∙ (ap length (sym (filter_behind p (goes_on ws) passes tickets) ∙ (ap (filter p) h.listed ∙ filter_behind p (goes_on ws) passes (range_with_len 1 (length ws))))
    ∙ length-filter p (range_with_len 1 (length ws)))

pub live_listed : (ws : List Work) (tickets : List ℕ) → HasGoing ws tickets → count_by (goes_on ws) tickets ≡ count_by (goes_on ws) (range_with_len 1 (length ws))
live_listed ws tickets h = counted ws tickets (goes_on ws) h (λ t e. e)

pub waiting_listed : (part : Part) (tickets : List ℕ) → HasGoing part.order.works tickets → count_by (waits part) tickets ≡ count_by (waits part) (range_with_len 1 (length part.order.works))
waiting_listed part tickets h = counted part.order.works tickets (waits part) h (λ t e. first (goes_on part.order.works t) _ e)
  where
    first : (a b : Bool) → (a && b) ≡ true → a ≡ true
    first true b e = refl
    first false b e = e

-- ---- what keeps the list

-- where nobody goes on who didn't
still_listed : (old new : List Work) (tickets : List ℕ) → length new ≡ length old → ((t : ℕ) → goes_on new t ≡ true → goes_on old t ≡ true) → HasGoing old tickets → HasGoing new tickets
still_listed old new tickets many passes h = record {
  listed = sym (filter_behind (goes_on new) (goes_on old) passes tickets)
      ∙ (ap (filter (goes_on new)) h.listed
      ∙ (filter_behind (goes_on new) (goes_on old) passes (range_with_len 1 (length old))
      ∙ ap (λ n. filter (goes_on new) (range_with_len 1 n)) (sym many)));
}

pub none_listed : HasGoing [] []
none_listed = record { listed = refl }

op_listed : (ws : List Work) (t : ℕ) (o : Op ℕ) (tickets : List ℕ) → HasGoing ws tickets → HasGoing (with_op ws t o) tickets
op_listed ws t o tickets h = still_listed ws (with_op ws t o) tickets (length-edit (add_op o) ws t) (λ s e. sym (goes_on-edit (add_op o) ws t s (λ w. refl)) ∙ e) h

pub read_listed : (o : OrderState) (t k : ℕ) (r : Read) (tickets : List ℕ) → HasGoing o.works tickets → HasGoing (after_read o t k r).works tickets
read_listed o t k (Found value source) tickets h = op_listed o.works t _ tickets h
read_listed o t k Queued tickets h = still_listed o.works (edit (wait_for k) o.works t) tickets (length-edit (wait_for k) o.works t) (fallen_waits o.works t k).went_on h
read_listed o t k (ReadsAreFull queued left) tickets h = h

pub again_listed : (o : OrderState) (t k : ℕ) (r : Read) (tickets : List ℕ) → HasGoing o.works tickets → HasGoing (after_again o t k r).works tickets
again_listed o t k (Found value source) tickets h = op_listed o.works t _ tickets h
again_listed o t k Queued tickets h = h
again_listed o t k (ReadsAreFull queued left) tickets h = h

pub write_listed : (o : OrderState) (t k : ℕ) (value : Option (List ℕ)) (r : Wrote) (tickets : List ℕ) → HasGoing o.works tickets → HasGoing (after_write o t k value r).works tickets
write_listed o t k value Yes tickets h = op_listed o.works t _ tickets h
write_listed o t k value (Conflicts key reader) tickets h = h
write_listed o t k value (WritesAreFull keys) tickets h = h

pub aborted_listed : (ws : List Work) (t : ℕ) (tickets : List ℕ) → HasGoing ws tickets → HasGoing (aborted ws t) tickets
aborted_listed ws t tickets h = still_listed ws (aborted ws t) tickets (length-aborted ws t) (fallen_aborted ws t).went_on h

pub stopped_listed : (ws : List Work) (tickets : List ℕ) → HasGoing ws tickets → HasGoing (map stop_work ws) tickets
stopped_listed ws tickets h = still_listed ws (map stop_work ws) tickets (length-map ws stop_work) nobody h
  where
    nobody : (t : ℕ) → goes_on (map stop_work ws) t ≡ true → goes_on ws t ≡ true
    nobody zero e = absurd (false≢true e)
    nobody (suc n) e = step (slice_get (map stop_work ws) n) refl e
      where
        step : (w : Option Work) → slice_get (map stop_work ws) n ≡ w → unwrap_or (option_map (λ x. is_going x.fate) w) false ≡ true → goes_on ws (suc n) ≡ true
        step None at e = absurd (false≢true e)
        step (Some w) at e = absurd (false≢true (sym (stopped_at ws n w at) ∙ e))

-- those that go on alone
pub pruned_listed : (ws : List Work) (tickets : List ℕ) → HasGoing ws tickets → HasGoing ws (filter (goes_on ws) tickets)
pruned_listed ws tickets h = record { listed = filter_behind (goes_on ws) (goes_on ws) (λ t e. e) tickets ∙ h.listed }

-- the next ticket, behind those that go on
pub begun_listed : (ws : List Work) (tickets : List ℕ) → HasGoing ws tickets → HasGoing (ws ++ fresh ∷ []) (filter (goes_on ws) tickets ++ (length ws + 1) ∷ [])
begun_listed ws tickets h = record {
  listed = ap (λ ts. filter (goes_on new) (ts ++ (length ws + 1) ∷ [])) h.listed
      ∙ (filter-append (goes_on new) (filter (goes_on ws) (range_with_len 1 (length ws))) ((length ws + 1) ∷ [])
      ∙ (ap (λ ts. ts ++ filter (goes_on new) ((length ws + 1) ∷ [])) within
      ∙ (sym (filter-append (goes_on new) (range_with_len 1 (length ws)) ((length ws + 1) ∷ []))
      ∙ ap (filter (goes_on new)) all)));
}
  where
    new : List Work
    new = ws ++ fresh ∷ []

    same : (t : ℕ) → t < 1 + length ws → goes_on new t ≡ goes_on ws t
    same zero l = refl
    same (suc n) l = ⊎_elim
        (λ old. ap (λ o. unwrap_or (option_map (λ w. is_going w.fate) o) false) old)
        (λ last. absurd (omega (arith, last.0)))
        (slice_get-push ws fresh n)

    within : filter (goes_on new) (filter (goes_on ws) (range_with_len 1 (length ws))) ≡ filter (goes_on new) (range_with_len 1 (length ws))
    within = ap (filter (goes_on new)) (sym (filter_below (goes_on new) (goes_on ws) 1 (length ws) same))
        ∙ (filter_behind (goes_on new) (goes_on new) (λ t e. e) (range_with_len 1 (length ws)))

    all : range_with_len 1 (length ws) ++ (length ws + 1) ∷ [] ≡ range_with_len 1 (length (ws ++ fresh ∷ []))
    all = ap (λ k. range_with_len 1 (length ws) ++ k ∷ []) (let e : length ws + 1 ≡ 1 + length ws = omega arith in e)
        ∙ (sym (one_further 1 (length ws)) ∙ ap (range_with_len 1) (let e : suc (length ws) ≡ length ws + 1 = omega arith in e ∙ sym (length-append ws (fresh ∷ []))))

-- ---- the two epochs

-- the running one with its order changed, and what calls named
pub kept_order : (running other : CodePart) (is_closed : Bool) (stop : Option Fault) (o : OrderModel) (uses : CodeUses) → ArePartsKept running other is_closed stop → o.params ≡ running.order.params → HasGoing o.state.works running.going.items
    → ArePartsKept (record running { order = o; uses = uses }) other is_closed stop
kept_order running other is_closed stop o uses kept same going = record {
  alike = kept.alike ∙ sym same;
  running_room = record { none_yet = kept.running_room.none_yet; fits = kept.running_room.fits };
  other_room = kept.other_room;
  going = going;
  low = kept.low;
}
