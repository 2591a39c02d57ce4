-- Values by key as a map, and writes to them.
use Rattle.std.proofs.Common.{◌≡◌, ◌≢◌, ⊎_elim, ℕ, ◌+◌, ◌<◌, ◌≤◌, List, [], ◌∷◌, ◌++◌, Option, Some, None, length, get_or, map, take, cond, true, false, sym, ◌∙◌, ap, subst, arith, get_or-set_same, get_or-set_other, length-set, zero, suc, refl}
use Rattle.std.specs.Prelude.{slice_set, replicate}
use Rattle.std.proofs.lemmas.Bool.{cases_eq}
use Rattle.std.proofs.lemmas.Bool.Decides.{nat_tests}
use Rattle.std.proofs.lemmas.List.{length-replicate, map-append, map_more, get_or-replicate, get_or_past}
use Rattle.std.specs.Ordering.{nat_cmp, eq_by_cmp}
use Rattle.std.specs.Cmp.{nat_cmp_total}
use Rattle.std.specs.FinMap.{find, from_entries, get-from_entries, get, get-insert, get-remove, get-empty, empty}
use Rattle.ob_base.specs.declared.value.Write.{Write}
use Rattle.ob_base.specs.declared.op.Op.{Op}
use Rattle.ob_serial.specs.Serial.{Map, after_ops, after_op}
use Rattle.ob_base.specs.Writes.{pair_of, write_op}
use Rattle.ob_serial.specs.Vaults.{with_writes}
use Rattle.ob_serial.specs.VaultViews.{writes_of}
use Rattle.ob_serial.proofs.Runs.{after-append}
use Rattle.ob_flat.specs.Standing.{IsMapOf}

ties : (k : ℕ) → eq_by_cmp nat_cmp k k ≡ true
ties k = grind (arith, nat_tests)

differs : (k x : ℕ) → k ≢ x → eq_by_cmp nat_cmp k x ≡ false
differs k x h = grind (arith, nat_tests)

-- what a key has after one write
get_op : (m : Map nat_cmp) (key q : ℕ) (value : Option (List ℕ)) → get (after_op nat_cmp m (write_op key value)) q ≡ cond (eq_by_cmp nat_cmp q key) value (get m q)
get_op m key q None = get-remove nat_cmp_total m key q
get_op m key q (Some v) = get-insert nat_cmp_total m key v q

-- one write
pub write_one : (values : List (Option (List ℕ))) (m : Map nat_cmp) (key : ℕ) (value : Option (List ℕ)) → key < length values → IsMapOf values m → IsMapOf (slice_set values key value) (after_op nat_cmp m (write_op key value))
write_one values m key value lt of = record {
  below = λ q low. ⊎_elim
      (λ (same : q ≡ key). get_op m key q value ∙ rw (same, ties key) (sym (get_or-set_same values key value None lt)))
      (λ (other : q ≢ key). get_op m key q value ∙ rw (differs q key other) (of.below q (omega (arith, length-set values key value)) ∙ sym (get_or-set_other values key q value None other)))
      (cases_eq q key);
  above = λ q high.
      let long : length values ≤ q = omega (arith, length-set values key value) in
      let other : q ≢ key = omega arith in
      get_op m key q value ∙ rw (differs q key other) (of.above q long);
}

-- the writes so far, and the next one
pub writes_next : (m : Map nat_cmp) (writes : List Write) (i : ℕ) (w : Write) → i < length writes → get_or writes i w ≡ w → with_writes m (writes_of (take (i + 1) writes)) ≡ after_op nat_cmp (with_writes m (writes_of (take i writes))) (write_op w.key w.value)
writes_next m writes i w lt is =
    let front = map pair_of (take i writes) in
    let op : ℕ × Option (List ℕ) → Op ℕ = λ x. write_op x.0 x.1 in
    ap (λ (l : List (ℕ × Option (List ℕ))). with_writes m l) (map_more pair_of writes i w lt ∙ ap (λ (x : Write). front ++ pair_of x ∷ []) is)
    ∙ ap (λ (l : List (Op ℕ)). after_ops nat_cmp m l) (map-append op front (pair_of w ∷ []))
    ∙ after-append nat_cmp m (map op front) (op (pair_of w) ∷ [])

-- one write more
pub write_more : (old now : List (Option (List ℕ))) (writes : List Write) (i : ℕ) (w : Write) → i < length writes → get_or writes i w ≡ w → w.key < length now
    → ((m : Map nat_cmp) → IsMapOf old m → IsMapOf now (with_writes m (writes_of (take i writes)))) → (m : Map nat_cmp) → IsMapOf old m → IsMapOf (slice_set now w.key w.value) (with_writes m (writes_of (take (i + 1) writes)))
write_more old now writes i w lt is low so_far m of =
    subst (λ (n : Map nat_cmp). IsMapOf (slice_set now w.key w.value) n) (sym (writes_next m writes i w lt is)) (write_one now (with_writes m (writes_of (take i writes))) w.key w.value low (so_far m of))

-- no key has a value
pub none_of : (n : ℕ) → IsMapOf (replicate n None) empty
none_of n = record {
  below = λ key low. get-empty nat_cmp key ∙ sym (get_or-replicate n key None None (omega (arith, length-replicate {A = Option (List ℕ)} n None)));
  above = λ key high. get-empty nat_cmp key;
}

-- the keys that have a value, from this one on
present_from : ℕ → List (Option (List ℕ)) → List (ℕ × List ℕ)
present_from k [] = []
present_from k (None ∷ values) = present_from (k + 1) values
present_from k (Some v ∷ values) = (k, v) ∷ present_from (k + 1) values

none_before : (q k : ℕ) (values : List (Option (List ℕ))) → q < k → find nat_cmp q (present_from k values) ≡ None
unfolding present_from
none_before q k [] lt = refl
none_before q k (None ∷ values) lt = none_before q (k + 1) values (omega arith)
none_before q k (Some v ∷ values) lt = rw (differs q k (omega arith)) (none_before q (k + 1) values (omega arith))

found_at : (k : ℕ) (values : List (Option (List ℕ))) (i q : ℕ) → q ≡ k + i → find nat_cmp q (present_from k values) ≡ get_or values i None
unfolding present_from
found_at k [] i q is = refl
found_at k (None ∷ values) zero q is = none_before q (k + 1) values (omega arith)
found_at k (None ∷ values) (suc i) q is = found_at (k + 1) values i q (omega arith)
found_at k (Some v ∷ values) zero q is = let same : q ≡ k = omega arith in rw (same, ties k) refl
found_at k (Some v ∷ values) (suc i) q is = rw (differs q k (omega arith)) (found_at (k + 1) values i q (omega arith))

-- there is a map of any values
pub some_map : (values : List (Option (List ℕ))) → (m : Map nat_cmp) × IsMapOf values m
some_map values = (
  from_entries (present_from 0 values),
  record {
    below = λ key low. get-from_entries nat_cmp_total (present_from 0 values) key ∙ found_at 0 values key key (omega arith);
    above = λ key high. get-from_entries nat_cmp_total (present_from 0 values) key ∙ found_at 0 values key key (omega arith) ∙ get_or_past values key None high;
  },
)
