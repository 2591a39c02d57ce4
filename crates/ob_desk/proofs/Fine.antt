-- What every step keeps of a part: Gets that still find their versions, true bases, keys in range, one holder a work.
use Rattle.std.proofs.Common.{◌≡◌, ℕ, zero, suc, ◌+◌, ◌<◌, ◌≤◌, Bool, true, false, cond, not, ◌&&◌, ◌==◌, if◌then◌else◌, nat_lt, List, [], ◌∷◌, ◌++◌, length, Option, None, Some, option_map}
use Rattle.std.proofs.Common.{option_and_then, unwrap_or, slice_get, refl, sym, ap, ap₂, ◌∙◌, subst, inl, inr, ⊎_elim, arith, nat_cmp, length-append, ltb-false, eqb-true}
use Rattle.std.specs.Option.{option_or}
use Rattle.std.specs.FinMap as finite
use Rattle.std.specs.FinMap.{get-empty, get-insert}
use Rattle.std.specs.Cmp.{nat_cmp_total, unsigned_tied}
use Rattle.std.proofs.lemmas.Bool.{cases_eq, false≢true}
use Rattle.std.proofs.lemmas.List.{length-map}
use Rattle.std.proofs.lemmas.Option.{none-some, same_Some}
use Rattle.ob_serial.specs.Serial.{Map}
use Rattle.ob_desk.specs.Desk.{Fault, Why, EpochEnd}
use Rattle.ob_order.specs.Works.{stop_work, wait_for, edit, Work, goes_on, version, version_in, newest, source_of, write_of, mark, with_op, aborted}
use Rattle.ob_order.specs.Order.{asked, is_asked_for, after_queued, OrderState, fresh, after_begin, answer, found, read_reply, after_answer, again_reply, covered_mark, other_keys, write_reply, write_op, after_write, delivered}
use Rattle.ob_base.specs.declared.op.Op.{Op}
use Rattle.ob_base.specs.declared.op.Op.TheVariants.{Get}
use Rattle.ob_order.specs.declared.answers.Version.{Version}
use Rattle.ob_base.specs.declared.params.Params.{Params}
use Rattle.ob_order.specs.declared.answers.Read.{Read}
use Rattle.ob_order.specs.declared.answers.Read.TheVariants.{Value as Found, Queued, Full as ReadsAreFull}
use Rattle.ob_order.specs.declared.answers.Wrote.TheVariants.{Yes, Conflict as Conflicts, Full as WritesAreFull}
use Rattle.ob_desk.specs.Desk.{Holder, Part, new_part, with_order, with_holder, end_of, asked_at, close_to, stop_holder, stop_part}
use Rattle.ob_order.proofs.Edits.{length-edit, slice_get-push}
use Rattle.ob_order.proofs.Newest.{Thinned}
use Rattle.ob_desk.proofs.Sees.{Reads, answered, reads_got, reads_wrote, reads_begun, reads_none, is_write}
use Rattle.ob_order.proofs.Newest.{version-with_op}
use Rattle.ob_order.proofs.Falls.{fallen_waits, fallen_aborted, thinned_from_fallen, length-aborted}
use Rattle.ob_order.proofs.Counts.{stopped_at, none_stopped, other_written}
use Rattle.ob_desk.proofs.Aborts.{reads_waits, reads_aborted}

-- the bases that were delivered are the map's
pub record Based (m : Map nat_cmp) (bases : finite.FinMap nat_cmp (Option (List ℕ))) : Type 0 where
  pub at_each : (k : ℕ) (v : Option (List ℕ)) → finite.get bases k ≡ Some v → v ≡ finite.get m k

-- no key from n on has a version
pub record Within (n : ℕ) (ws : List Work) : Type 0 where
  pub at_each : (u k : ℕ) → n ≤ k → version ws u k ≡ None

pub record Fine (m : Map nat_cmp) (n : ℕ) (part : Part) : Type 0 where
  pub reads : Reads m part.order.works
  pub based : Based m part.order.bases
  pub within : Within n part.order.works
  pub even : length part.holders ≡ length part.order.works

-- ---- keys in range

within_thinned : (n : ℕ) (ws vs : List Work) → Within n ws → Thinned ws vs → Within n vs
within_thinned n ws vs h thin = record { at_each = λ u k l. ⊎_elim (λ same. same ∙ h.at_each u k l) (λ gone. gone.0) (thin.at_each u k) }

within_op : (n : ℕ) (ws : List Work) (t : ℕ) (o : Op ℕ) → Within n ws → ((k : ℕ) → n ≤ k → write_of o k ≡ None) → Within n (with_op ws t o)
within_op n ws t o h none = record { at_each = λ u k l. version-with_op ws t o k (none k l) u ∙ h.at_each u k l }

within_begun : (n : ℕ) (ws : List Work) → Within n ws → Within n (ws ++ fresh ∷ [])
within_begun n ws h = record { at_each = at_each }
  where
    at_each : (u k : ℕ) → n ≤ k → version (ws ++ fresh ∷ []) u k ≡ None
    at_each zero k l = refl
    at_each (suc u) k l = ⊎_elim
        (λ old. ap (option_and_then (λ w. version_in w k)) old ∙ h.at_each (suc u) k l)
        (λ last. ap (option_and_then (λ w. version_in w k)) last.2)
        (slice_get-push ws fresh u)

is_write-write_op : (k : ℕ) (v : Option (List ℕ)) → is_write (write_op k v) ≡ true
is_write-write_op k None = refl
is_write-write_op k (Some v) = refl

-- ---- a get

-- what a get is answered as it must be is what the map below gives
pub answered_by : (m : Map nat_cmp) (o : OrderState) (t k : ℕ) (v : Version) → Based m o.bases → answer o t k ≡ Some v → answered m o.works t k ≡ v
answered_by m o t k v based is = step (newest o.works t k) (finite.get o.bases k) (based.at_each k) is
  where
    step : (a : Option Version) (b : Option (Option (List ℕ))) → ((x : Option (List ℕ)) → b ≡ Some x → x ≡ finite.get m k)
        → option_or a (option_map (λ x. record { source = 0; value = x }) b) ≡ Some v → unwrap_or a (record { source = 0; value = finite.get m k }) ≡ v
    step (Some w) b base is = same_Some w v is
    step None None base is = absurd (none-some v is)
    step None (Some x) base is = ap (λ y. record { source = 0; value = y }) (sym (base x refl)) ∙ same_Some _ v is

found_is : (a : Option Version) (r : Read) (value : Option (List ℕ)) (source : ℕ) → (r ≡ Found value source → ⊥) → unwrap_or (option_map found a) r ≡ Found value source → a ≡ Some (record { source = source; value = value })
found_is None r value source h e = absurd (h e)
found_is (Some w) r value source h e =
    let same_value : w.value ≡ value = cc in
    let same_source : w.source ≡ source = cc in
    ap₂ (λ (s : ℕ) (x : Option (List ℕ)). Some (let q : Version = record { source = s; value = x } in q)) same_source same_value

full_or_queued : (b : Bool) (q l : ℕ) (value : Option (List ℕ)) (source : ℕ) → (if b then ReadsAreFull q l else Queued) ≡ Found value source → ⊥
full_or_queued true q l value source e = cc
full_or_queued false q l value source e = cc

pub read_found : (p : Params) (o : OrderState) (t k : ℕ) (value : Option (List ℕ)) (source : ℕ) → read_reply p o t k ≡ Found value source → answer o t k ≡ Some (record { source = source; value = value })
read_found p o t k value source e = found_is (answer o t k) _ value source (full_or_queued _ _ _ value source) e

pub again_found : (o : OrderState) (t k : ℕ) (value : Option (List ℕ)) (source : ℕ) → again_reply o t k ≡ Found value source → answer o t k ≡ Some (record { source = source; value = value })
again_found o t k value source e = found_is (answer o t k) Queued value source (λ f. let g : Queued ≡ Found value source = f in absurd (cc)) e

pub fine_got : (m : Map nat_cmp) (n : ℕ) (part : Part) (t k : ℕ) (v : Version) → Fine m n part → answer part.order t k ≡ Some v → Fine m n (with_order part (after_answer part.order t k v.value v.source))
fine_got m n part t k v h is = record {
  reads = reads_got m part.order.works t k v.value v.source h.reads (answered_by m part.order t k v h.based is);
  based = h.based;
  within = within_op n part.order.works t (Get k v.value v.source) h.within (λ j l. refl);
  even = h.even ∙ sym (length-edit _ part.order.works t);
}

pub fine_queued : (m : Map nat_cmp) (n : ℕ) (part : Part) (o : OrderState) → Fine m n part → o.works ≡ part.order.works → o.bases ≡ part.order.bases → Fine m n (with_order part o)
fine_queued m n part o h works bases = record {
  reads = subst (Reads m) (sym works) h.reads;
  based = subst (Based m) (sym bases) h.based;
  within = subst (Within n) (sym works) h.within;
  even = h.even ∙ ap length (sym works);
}

pub asked_bases : (o : OrderState) (k : ℕ) → (asked o k).bases ≡ o.bases
asked_bases o k = step (is_asked_for o k)
  where
    step : (b : Bool) → (if b then o else record o { queue = o.queue ++ k ∷ [] }).bases ≡ o.bases
    step true = refl
    step false = refl

pub fine_waits : (m : Map nat_cmp) (n : ℕ) (part : Part) (t k : ℕ) → Fine m n part → Fine m n (with_order part (after_queued part.order t k))
fine_waits m n part t k h = record {
  reads = reads_waits m part.order.works t k h.reads;
  based = subst (Based m) (sym (asked_bases part.order k)) h.based;
  within = within_thinned n part.order.works (edit (wait_for k) part.order.works t) h.within (thinned_from_fallen part.order.works (edit (wait_for k) part.order.works t) (fallen_waits part.order.works t k));
  even = h.even ∙ sym (length-edit _ part.order.works t);
}

pub fine_holder : (m : Map nat_cmp) (n : ℕ) (f : Holder → Holder) (part : Part) (t : ℕ) → Fine m n part → Fine m n (with_holder f part t)
fine_holder m n f part t h = record { reads = h.reads; based = h.based; within = h.within; even = length-edit f part.holders t ∙ h.even }

-- ---- a put or del

yes_is : (a b : Bool) (key reader keys : ℕ) → (if a then Conflicts key reader else (if b then WritesAreFull keys else Yes)) ≡ Yes → a ≡ false
yes_is true b key reader keys e = absurd (cc)
yes_is false b key reader keys e = refl

pub write_unread : (p : Params) (o : OrderState) (t k : ℕ) → write_reply p o t k ≡ Yes → covered_mark o t k ≤ t
write_unread p o t k e = ltb-false t (covered_mark o t k) (yes_is (nat_lt t (covered_mark o t k)) (other_keys p o k == p.writes) k (covered_mark o t k) p.writes e)

pub fine_wrote : (m : Map nat_cmp) (n : ℕ) (p : Params) (part : Part) (t k : ℕ) (v : Option (List ℕ)) → Fine m n part → write_reply p part.order t k ≡ Yes → k < n → Fine m n (with_order part (after_write part.order t k v Yes))
fine_wrote m n p part t k v h was_yes l = record {
  reads = reads_wrote m part.order.works t (write_op k v) h.reads (is_write-write_op k v) (λ j. ⊎_elim
      (λ same. inr (subst (λ q. mark part.order.works q (source_of (newest part.order.works t q)) ≤ t) (sym same) (write_unread p part.order t k was_yes)))
      (λ other. inl (other_written k v j other))
      (cases_eq j k));
  based = h.based;
  within = within_op n part.order.works t (write_op k v) h.within (λ j g. other_written k v j (λ e. absurd (omega arith)));
  even = h.even ∙ sym (length-edit _ part.order.works t);
}

-- ---- begin, abort, close, stop

pub fine_new : (m : Map nat_cmp) (n epoch left : ℕ) → Fine m n (new_part epoch left)
fine_new m n epoch left = record {
  reads = reads_none m;
  based = record { at_each = λ k v e. absurd (none-some v (sym (get-empty nat_cmp k) ∙ e)) };
  within = record { at_each = λ u k l. none_in u k };
  even = refl;
}
  where
    none_in : (u k : ℕ) → version [] u k ≡ None
    none_in zero k = refl
    none_in (suc u) k = refl

pub fine_begun : (m : Map nat_cmp) (n : ℕ) (part : Part) (h : Holder) → Fine m n part → Fine m n (record part { order = after_begin part.order; holders = part.holders ++ h ∷ [] })
fine_begun m n part h fine = record {
  reads = reads_begun m part.order.works fresh fine.reads refl;
  based = fine.based;
  within = within_begun n part.order.works fine.within;
  even = length-append part.holders (h ∷ []) ∙ (ap (λ q. q + 1) fine.even ∙ sym (length-append part.order.works (fresh ∷ [])));
}

pub fine_end : (m : Map nat_cmp) (n : ℕ) (part : Part) (t : ℕ) (why : Why ℕ) → Fine m n part → Fine m n (end_of part t why)
fine_end m n part t why h = record {
  reads = reads_aborted m part.order.works t h.reads;
  based = h.based;
  within = within_thinned n part.order.works (aborted part.order.works t) h.within (thinned_from_fallen part.order.works (aborted part.order.works t) (fallen_aborted part.order.works t));
  even = length-edit _ part.holders t ∙ (h.even ∙ sym (length-aborted part.order.works t));
}

pub fine_close_to : (m : Map nat_cmp) (n : ℕ) (part : Part) (u : ℕ) → Fine m n part → Fine m n (close_to part u)
fine_close_to m n part zero h = h
fine_close_to m n part (suc u) h = step (goes_on (close_to part u).order.works (suc u) && not (asked_at (close_to part u) (suc u))) (fine_close_to m n part u h)
  where
    step : (b : Bool) → Fine m n (close_to part u) → Fine m n (if b then end_of (close_to part u) (suc u) EpochEnd else close_to part u)
    step true g = fine_end m n (close_to part u) (suc u) EpochEnd g
    step false g = g

-- what was stopped is fine over any map that its bases are of
pub fine_stopped : (m last : Map nat_cmp) (n : ℕ) (f : Fault) (part : Part) → Fine m n part → Based last part.order.bases → Fine last n (stop_part f part)
fine_stopped m last n f part h based = record {
  reads = record { at_each = λ u w there going. absurd (false≢true (sym (stopped_at part.order.works u w there) ∙ going)) };
  based = based;
  within = record { at_each = λ u k l. none_stopped part.order.works u k };
  even = length-map part.holders (stop_holder f) ∙ (h.even ∙ sym (length-map part.order.works stop_work));
}

-- ---- deliveries

pub based_delivered : (m : Map nat_cmp) (bases : finite.FinMap nat_cmp (Option (List ℕ))) (keys : List (Option ℕ)) (values : List (Option (List ℕ))) → Based m bases
    → ((i k : ℕ) → slice_get keys i ≡ Some (Some k) → slice_get values i ≡ Some (finite.get m k)) → Based m (delivered bases keys values)
based_delivered m bases [] values h fed = h
based_delivered m bases (key ∷ keys) [] h fed = h
based_delivered m bases (None ∷ keys) (value ∷ values) h fed = based_delivered m bases keys values h (λ i. fed (suc i))
based_delivered m bases (Some j ∷ keys) (value ∷ values) h fed = based_delivered m (finite.insert bases j value) keys values
    (record { at_each = λ k v e. step k v (k == j) refl (ap (λ b. cond b (Some value) (finite.get bases k)) (sym (unsigned_tied k j)) ∙ (sym (get-insert nat_cmp_total bases j value k) ∙ e)) })
    (λ i. fed (suc i))
  where
    step : (k : ℕ) (v : Option (List ℕ)) (b : Bool) → (k == j) ≡ b → cond b (Some value) (finite.get bases k) ≡ Some v → v ≡ finite.get m k
    step k v true same e = sym (same_Some value v e) ∙ (same_Some _ _ (fed 0 j refl) ∙ ap (finite.get m) (sym (eqb-true k j same)))
    step k v false other e = h.at_each k v e
