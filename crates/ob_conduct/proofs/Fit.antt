-- What every call of a client keeps of a part: its batches and its writes are ones that a vault takes.
use Rattle.std.proofs.Common.{◌≡◌, ◌∙◌, ℕ, zero, suc, ◌+◌, ◌-◌, ◌<◌, ◌≤◌, Bool, true, false, not, ◌&&◌, ◌||◌, ◌==◌, if◌then◌else◌, List, [], ◌∷◌, ◌++◌, length, map, drop, take, replicate, Option, None, Some, option_and_then, slice_get, refl, sym, ap, subst, ⊎_elim, arith, length-append}
use Rattle.std.specs.List.{list_any}
use Rattle.std.proofs.lemmas.Bool.{false≢true}
use Rattle.std.proofs.lemmas.List.{length-map}
use Rattle.std.proofs.lemmas.Option.{none-some, same_Some}
use Rattle.ob_base.specs.declared.fault.Fault.{Fault}
use Rattle.ob_base.specs.declared.params.Params.{Params}
use Rattle.ob_base.specs.declared.op.Op.{Op}
use Rattle.ob_base.specs.declared.op.Op.TheVariants.{Get}
use Rattle.ob_serial.specs.declared.records.Why.{Why}
use Rattle.ob_serial.specs.declared.records.Why.TheVariants.{EpochEnd}
use Rattle.ob_order.specs.declared.answers.Version.{Version}
use Rattle.ob_order.specs.declared.answers.Wrote.TheVariants.{Yes, Conflict as Conflicts, Full as WritesAreFull}
use Rattle.ob_order.specs.Works.{Work, version_in, write_of, with_op, edit, wait_for, stop_work, aborted, goes_on}
use Rattle.ob_order.specs.Order.{OrderState, fresh, after_begin, answer, asked, is_asked_for, after_queued, after_answer, other_keys, covered_mark, write_reply, write_op, after_write, after_take, after_deliver, places_of}
use Rattle.ob_order.proofs.Edits.{length-edit, slice_get-push}
use Rattle.ob_order.proofs.Newest.{Thinned, version-with_op}
use Rattle.ob_order.proofs.Falls.{fallen_waits, fallen_aborted, thinned_from_fallen, length-aborted}
use Rattle.ob_order.proofs.Counts.{none_stopped, other_written}
use Rattle.ob_order.proofs.Keeps.{kept_none, kept_begun, kept_got, kept_waits, kept_wrote, kept_aborted, kept_stopped}
use Rattle.ob_shares.specs.Shares.{Uses}
use Rattle.ob_desk.specs.Desk.{Part, new_part, with_order, with_holder, end_of, asked_at, close_to, closing, stop_holder, stop_part}
use Rattle.ob_desk.specs.declared.clients.Holder.{Holder}
use Rattle.ob_conduct.specs.Ready.{IsDistinct, AreAllBelow, AreWithin, IsFit}

-- ---- keys in range

within_thinned : (n : ℕ) (ws vs : List Work) → AreWithin n ws → Thinned ws vs → AreWithin n vs
within_thinned n ws vs h thin = λ u k l. ⊎_elim (λ same. same ∙ h u k l) (λ gone. gone.0) (thin.at_each u k)

within_op : (n : ℕ) (ws : List Work) (t : ℕ) (o : Op ℕ) → AreWithin n ws → ((k : ℕ) → n ≤ k → write_of o k ≡ None) → AreWithin n (with_op ws t o)
within_op n ws t o h none = λ u k l. version-with_op ws t o k (none k l) u ∙ h u k l

within_begun : (n : ℕ) (ws : List Work) → AreWithin n ws → AreWithin n (ws ++ fresh ∷ [])
within_begun n ws h zero k l = refl
within_begun n ws h (suc u) k l = ⊎_elim
    (λ old. ap (option_and_then (λ w. version_in w k)) old ∙ h (suc u) k l)
    (λ last. ap (option_and_then (λ w. version_in w k)) last.2)
    (slice_get-push ws fresh u)

within_none : (n : ℕ) → AreWithin n []
within_none n zero k l = refl
within_none n (suc u) k l = refl

-- ---- the queue

less_one : (i j : ℕ) → suc i ≡ suc j → i ≡ j
less_one i j is = omega arith

pub distinct_drop : (n : ℕ) (queue : List ℕ) → IsDistinct queue → IsDistinct (drop n queue)
distinct_drop zero queue h = h
distinct_drop (suc n) [] h = h
distinct_drop (suc n) (q ∷ queue) h = distinct_drop n queue (λ i j key at too. less_one i j (h (suc i) (suc j) key at too))

pub below_drop : (m n : ℕ) (queue : List ℕ) → AreAllBelow m queue → AreAllBelow m (drop n queue)
below_drop m zero queue h = h
below_drop m (suc n) [] h = h
below_drop m (suc n) (q ∷ queue) h = below_drop m n queue (λ i key at. h (suc i) key at)

eq_same : (k : ℕ) → (k == k) ≡ true
eq_same k = grind arith

or_none : (a b : Bool) → (a || b) ≡ false → (a ≡ false) × (b ≡ false)
or_none true b is = absurd (false≢true (sym is))
or_none false b is = (refl, is)

not_among : (queue : List ℕ) (i k : ℕ) → list_any (λ j. j == k) queue ≡ false → slice_get queue i ≡ Some k → ⊥
not_among [] i k none at = none-some k at
not_among (q ∷ queue) zero k none at = false≢true (sym (or_none (q == k) (list_any (λ j. j == k) queue) none).0 ∙ ap (λ x. x == k) (same_Some q k at) ∙ eq_same k)
not_among (q ∷ queue) (suc i) k none at = not_among queue i k (or_none (q == k) (list_any (λ j. j == k) queue) none).1 at

distinct_push : (queue : List ℕ) (k : ℕ) → list_any (λ j. j == k) queue ≡ false → IsDistinct queue → IsDistinct (queue ++ k ∷ [])
distinct_push queue k none h i j key at too = ⊎_elim
    (λ old. ⊎_elim
    (λ older. h i j key (sym old ∙ at) (sym older ∙ too))
    (λ last. absurd (not_among queue i k none (sym old ∙ at ∙ sym too ∙ last.2)))
    (slice_get-push queue k j))
    (λ last. ⊎_elim
    (λ older. absurd (not_among queue j k none (sym older ∙ too ∙ sym at ∙ last.2)))
    (λ lasts. last.0 ∙ sym lasts.0)
    (slice_get-push queue k j))
    (slice_get-push queue k i)

below_push : (n : ℕ) (queue : List ℕ) (k : ℕ) → k < n → AreAllBelow n queue → AreAllBelow n (queue ++ k ∷ [])
below_push n queue k lt h i key at = ⊎_elim
    (λ old. h i key (sym old ∙ at))
    (λ last. subst (λ x. x < n) (same_Some k key (sym last.2 ∙ at)) lt)
    (slice_get-push queue k i)

-- ---- parts

pub fit_new : (p : Params) (epoch left : ℕ) → IsFit p (new_part epoch left)
fit_new p epoch left = record { distinct = λ i j key at too. absurd (none-some key at); below = λ i key at. absurd (none-some key at); kept = kept_none p; within = within_none p.keys; even = refl }

-- what clients named changes nothing
pub fit_used : (p : Params) (part : Part) (u : Uses) → IsFit p part → IsFit p (record part { uses = u })
fit_used p part u f = record { distinct = f.distinct; below = f.below; kept = f.kept; within = f.within; even = f.even }

pub fit_begun : (p : Params) (part : Part) (h : Holder) → IsFit p part → IsFit p (record part { order = after_begin part.order; holders = part.holders ++ h ∷ [] })
fit_begun p part h f = record {
  distinct = f.distinct;
  below = f.below;
  kept = kept_begun p part.order.works f.kept;
  within = within_begun p.keys part.order.works f.within;
  even = length-append part.holders (h ∷ []) ∙ (ap (λ q. q + 1) f.even ∙ sym (length-append part.order.works (fresh ∷ [])));
}

pub fit_got : (p : Params) (part : Part) (t k : ℕ) (v : Version) → IsFit p part → answer part.order t k ≡ Some v → IsFit p (with_order part (after_answer part.order t k v.value v.source))
fit_got p part t k v f is = record {
  distinct = f.distinct;
  below = f.below;
  kept = kept_got p part.order t k v f.kept is;
  within = within_op p.keys part.order.works t (Get k v.value v.source) f.within (λ j l. refl);
  even = f.even ∙ sym (length-edit _ part.order.works t);
}

asked_queue : (p : Params) (o : OrderState) (k : ℕ) → k < p.keys → IsDistinct o.queue → AreAllBelow p.keys o.queue → IsDistinct (asked o k).queue × AreAllBelow p.keys (asked o k).queue
asked_queue p o k lt distinct below = step (is_asked_for o k) refl
  where
    step : (b : Bool) → is_asked_for o k ≡ b → IsDistinct (if b then o else record o { queue = o.queue ++ k ∷ [] }).queue × AreAllBelow p.keys (if b then o else record o { queue = o.queue ++ k ∷ [] }).queue
    step true is = (distinct, below)
    step false is = (distinct_push o.queue k (or_none (list_any (λ j. j == k) o.queue) (list_any (λ j. j == k) o.flying) is).0 distinct, below_push p.keys o.queue k lt below)

pub fit_waits : (p : Params) (part : Part) (t k : ℕ) → k < p.keys → IsFit p part → IsFit p (with_order part (after_queued part.order t k))
fit_waits p part t k lt f = let queued = asked_queue p part.order k lt f.distinct f.below in record {
  distinct = queued.0;
  below = queued.1;
  kept = kept_waits p part.order.works t k f.kept;
  within = within_thinned p.keys part.order.works (edit (wait_for k) part.order.works t) f.within (thinned_from_fallen part.order.works (edit (wait_for k) part.order.works t) (fallen_waits part.order.works t k));
  even = f.even ∙ sym (length-edit _ part.order.works t);
}

yes_room : (a b : Bool) (key reader keys : ℕ) → (if a then Conflicts key reader else (if b then WritesAreFull keys else Yes)) ≡ Yes → b ≡ false
yes_room true b key reader keys e = absurd (cc)
yes_room false true key reader keys e = absurd (cc)
yes_room false false key reader keys e = refl

wrote_room : (p : Params) (o : OrderState) (t k : ℕ) → write_reply p o t k ≡ Yes → other_keys p o k ≡ p.writes → ⊥
wrote_room p o t k is full = false≢true (sym (yes_room _ (other_keys p o k == p.writes) k (covered_mark o t k) p.writes is) ∙ ap (λ n. n == p.writes) full ∙ eq_same p.writes)

pub fit_wrote : (p : Params) (part : Part) (t k : ℕ) (v : Option (List ℕ)) → IsFit p part → write_reply p part.order t k ≡ Yes → k < p.keys → IsFit p (with_order part (after_write part.order t k v Yes))
fit_wrote p part t k v f was lt = record {
  distinct = f.distinct;
  below = f.below;
  kept = kept_wrote p part.order t k v f.kept (wrote_room p part.order t k was);
  within = within_op p.keys part.order.works t (write_op k v) f.within (λ j g. other_written k v j (λ e. absurd (omega arith)));
  even = f.even ∙ sym (length-edit _ part.order.works t);
}

pub fit_end : (p : Params) (part : Part) (t : ℕ) (why : Why ℕ) → IsFit p part → IsFit p (end_of part t why)
fit_end p part t why f = record {
  distinct = f.distinct;
  below = f.below;
  kept = kept_aborted p part.order.works t f.kept;
  within = within_thinned p.keys part.order.works (aborted part.order.works t) f.within (thinned_from_fallen part.order.works (aborted part.order.works t) (fallen_aborted part.order.works t));
  even = length-edit _ part.holders t ∙ (f.even ∙ sym (length-aborted part.order.works t));
}

pub fit_holder : (p : Params) (change : Holder → Holder) (part : Part) (t : ℕ) → IsFit p part → IsFit p (with_holder change part t)
fit_holder p change part t f = record { distinct = f.distinct; below = f.below; kept = f.kept; within = f.within; even = length-edit change part.holders t ∙ f.even }

pub fit_stopped : (p : Params) (fault : Fault) (part : Part) → IsFit p part → IsFit p (stop_part fault part)
fit_stopped p fault part f = record {
  distinct = f.distinct;
  below = f.below;
  kept = kept_stopped p part.order.works;
  within = λ u k l. none_stopped part.order.works u k;
  even = length-map part.holders (stop_holder fault) ∙ (f.even ∙ sym (length-map part.order.works stop_work));
}

pub fit_taken : (p q : Params) (part : Part) → IsFit p part → IsFit p (with_order part (after_take q part.order))
fit_taken p q part f = record { distinct = distinct_drop q.places part.order.queue f.distinct; below = below_drop p.keys q.places part.order.queue f.below; kept = f.kept; within = f.within; even = f.even }

pub fit_delivered : (p : Params) (part : Part) (keys : List (Option ℕ)) (values : List (Option (List ℕ))) → IsFit p part → IsFit p (with_order part (after_deliver part.order keys values))
fit_delivered p part keys values f = record { distinct = f.distinct; below = f.below; kept = f.kept; within = f.within; even = f.even }

fit_close_to : (p : Params) (part : Part) (u : ℕ) → IsFit p part → IsFit p (close_to part u)
fit_close_to p part zero f = f
fit_close_to p part (suc u) f = step (goes_on (close_to part u).order.works (suc u) && not (asked_at (close_to part u) (suc u))) (fit_close_to p part u f)
  where
    step : (b : Bool) → IsFit p (close_to part u) → IsFit p (if b then end_of (close_to part u) (suc u) EpochEnd else close_to part u)
    step true g = fit_end p (close_to part u) (suc u) EpochEnd g
    step false g = g

pub fit_closing : (p : Params) (part : Part) → IsFit p part → IsFit p (closing part)
fit_closing p part f = fit_close_to p part (length part.order.works) f

-- ---- a batch

not_pad : (r i key : ℕ) → slice_get (replicate {A = Option ℕ} r None) i ≡ Some (Some key) → ⊥
not_pad zero i key at = none-some (Some key) at
not_pad (suc r) zero key at = none-some key (same_Some None (Some key) at)
not_pad (suc r) (suc i) key at = not_pad r i key at

placed : (n r : ℕ) (queue : List ℕ) (i key : ℕ) → slice_get (map Some (take n queue) ++ replicate r None) i ≡ Some (Some key) → slice_get queue i ≡ Some key
placed zero r queue i key at = absurd (not_pad r i key at)
placed (suc n) r [] i key at = absurd (not_pad r i key at)
placed (suc n) r (q ∷ queue) zero key at = same_Some (Some q) (Some key) at
placed (suc n) r (q ∷ queue) (suc i) key at = placed n r queue i key at

-- a batch asks for keys of the queue, in the same places
pub batch_placed : (n : ℕ) (queue : List ℕ) (i key : ℕ) → slice_get (places_of n queue) i ≡ Some (Some key) → slice_get queue i ≡ Some key
batch_placed n queue i key at = placed n (n - length queue) queue i key at
