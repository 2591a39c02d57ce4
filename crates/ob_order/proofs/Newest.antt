-- How the newest version moves with the works.
use Rattle.std.proofs.Common.{◌≡◌, ℕ, zero, suc, ◌<◌, ◌≤◌, Bool, true, false, ◌==◌, if◌then◌else◌, List, [], ◌∷◌, length, Option, None, Some, option_map, option_and_then, unwrap_or, slice_get, refl, sym, ap, ◌∙◌, subst, inl, inr, ◌⊎◌, ⊎_elim, arith}
use Rattle.std.specs.Option.{option_or}
use Rattle.std.proofs.lemmas.Bool.{cases_eq, false≢true, or_left, or_right, and_from, eq-eqb}
use Rattle.std.proofs.lemmas.Option.{none-some, same_Some, slice_get_within}
use Rattle.std.specs.List.{list_any}
use Rattle.ob_order.specs.Works.{Op, Get, Work, Version, is_going, at_ticket, goes_on, version, version_in, newest, write_of, add_op, with_op, last_write, mark, has_read, greatest, is_get_of}
use Rattle.ob_order.proofs.Edits.{at_edit_same, at_edit_other, slice_get-edit_same, last_write-push}

-- the newest version goes by the versions up to its ticket
pub newest-same : (vs ws : List Work) (n k : ℕ) → ((u : ℕ) → u ≤ n → version vs u k ≡ version ws u k) → newest vs n k ≡ newest ws n k
newest-same vs ws zero k h = refl
newest-same vs ws (suc n) k h = step (version vs (suc n) k) (version ws (suc n) k) (h (suc n) (omega arith)) (newest-same vs ws n k (λ u l. h u (omega arith)))
  where
    step : (a b : Option (Option (List ℕ))) → a ≡ b → newest vs n k ≡ newest ws n k → option_or (option_map (λ v. record { source = suc n; value = v }) a) (newest vs n k) ≡ option_or (option_map (λ v. record { source = suc n; value = v }) b) (newest ws n k)
    step a b e f = rw (e, f) refl

-- a version that is found stands at or below the ticket, in one that isn't aborted
pub record Found (ws : List Work) (n k : ℕ) (v : Version) : Type 0 where
  pub above_base : 0 < v.source
  pub at_or_below : v.source ≤ n
  pub held : version ws v.source k ≡ Some v.value

pub newest_own : (ws : List Work) (n k : ℕ) (x : Option (List ℕ)) → version ws (suc n) k ≡ Some x → newest ws (suc n) k ≡ Some (record { source = suc n; value = x })
newest_own ws n k x e = ap (λ a. option_or (option_map (λ v. let q : Version = record { source = suc n; value = v } in q) a) (newest ws n k)) e

pub newest_lower : (ws : List Work) (n k : ℕ) → version ws (suc n) k ≡ None → newest ws (suc n) k ≡ newest ws n k
newest_lower ws n k e = ap (λ a. option_or (option_map (λ v. let q : Version = record { source = suc n; value = v } in q) a) (newest ws n k)) e

-- an option by its cases, with the equation
pub by_option : {A B : Type 0} (o : Option A) → (o ≡ None → B) → ((x : A) → o ≡ Some x → B) → B
by_option None f g = f refl
by_option (Some x) f g = g x refl

pub newest_found : (ws : List Work) (n k : ℕ) (v : Version) → newest ws n k ≡ Some v → Found ws n k v
newest_found ws zero k v e = absurd (none-some v e)
newest_found ws (suc n) k v e = by_option (version ws (suc n) k)
    (λ none. let f = newest_found ws n k v (sym (newest_lower ws n k none) ∙ e) in record { above_base = f.above_base; at_or_below = omega arith; held = f.held })
    (λ x own. subst (λ q. Found ws (suc n) k q) (same_Some _ v (sym (newest_own ws n k x own) ∙ e)) (record { above_base = omega arith; at_or_below = omega arith; held = own }))

-- what the newest version at n is where only ticket t's version may differ: one above t, the same in both, or the one at t
pub newest_beside : (vs ws : List Work) (t n k : ℕ) → ((u : ℕ) → (u ≡ t → ⊥) → version vs u k ≡ version ws u k) → t ≤ n
    → ((v : Version) × (newest ws n k ≡ Some v) × (t < v.source) × (newest vs n k ≡ Some v)) ⊎ (newest ws n k ≡ newest ws t k)
newest_beside vs ws zero zero k h l = inr refl
newest_beside vs ws (suc t) zero k h l = absurd (omega arith)
newest_beside vs ws t (suc n) k h l = ⊎_elim
    (λ same. inr (ap (λ q. newest ws q k) (sym same)))
    (λ other. by_option (version ws (suc n) k)
    (λ none. ⊎_elim
    (λ found. inl (found.0, newest_lower ws n k none ∙ found.1, found.2, newest_lower vs n k (h (suc n) (λ e. other (sym e)) ∙ none) ∙ found.3))
    (λ same. inr (newest_lower ws n k none ∙ same))
    (newest_beside vs ws t n k h (omega arith)))
    (λ x own. inl (record { source = suc n; value = x }, newest_own ws n k x own, omega arith, newest_own vs n k x (h (suc n) (λ e. other (sym e)) ∙ own))))
    (cases_eq t (suc n))

-- some transactions were aborted, and nothing else changed
pub record Thinned (ws vs : List Work) : Type 0 where
  pub at_each : (u k : ℕ) → (version vs u k ≡ version ws u k) ⊎ ((version vs u k ≡ None) × (goes_on vs u ≡ false))

pub newest_none_kept : (ws vs : List Work) (n k : ℕ) → Thinned ws vs → newest ws n k ≡ None → newest vs n k ≡ None
newest_none_kept ws vs zero k h e = refl
newest_none_kept ws vs (suc n) k h e = by_option (version ws (suc n) k)
    (λ none. newest_lower vs n k (⊎_elim (λ same. same ∙ none) (λ gone. gone.0) (h.at_each (suc n) k)) ∙ newest_none_kept ws vs n k h (sym (newest_lower ws n k none) ∙ e))
    (λ x own. absurd (none-some _ (sym e ∙ newest_own ws n k x own)))

pub newest_some_kept : (ws vs : List Work) (n k : ℕ) (v : Version) → Thinned ws vs → newest ws n k ≡ Some v → goes_on vs v.source ≡ true → newest vs n k ≡ Some v
newest_some_kept ws vs zero k v h e going = absurd (none-some v e)
newest_some_kept ws vs (suc n) k v h e going = by_option (version ws (suc n) k)
    (λ none. newest_lower vs n k (⊎_elim (λ same. same ∙ none) (λ gone. gone.0) (h.at_each (suc n) k)) ∙ newest_some_kept ws vs n k v h (sym (newest_lower ws n k none) ∙ e) going)
    (λ x own.
    let is : record { source = suc n; value = x } ≡ v = same_Some _ v (sym (newest_own ws n k x own) ∙ e) in
    ⊎_elim
    (λ same. newest_own vs n k x (same ∙ own) ∙ ap Some is)
    (λ gone. absurd (false≢true (sym gone.1 ∙ subst (λ q. goes_on vs q ≡ true) (sym (ap (λ q. q.source) is)) going)))
    (h.at_each (suc n) k))

-- a ticket that passes is at or below the greatest
pub greatest_bound : (p : ℕ → Bool) (n u : ℕ) → p u ≡ true → u ≤ n → u ≤ greatest p n
greatest_bound p zero u e l = omega arith
greatest_bound p (suc n) u e l = step (p (suc n)) refl (⊎_elim (λ same. inl same) (λ other. inr (greatest_bound p n u e (omega arith))) (cases_eq u (suc n)))
  where
    step : (b : Bool) → p (suc n) ≡ b → (u ≡ suc n) ⊎ (u ≤ greatest p n) → u ≤ (if b then suc n else greatest p n)
    step true is c = l
    step false is (inl same) = absurd (false≢true (sym is ∙ (ap p (sym same) ∙ e)))
    step false is (inr lower) = lower

any_at : {A : Type 0} (p : A → Bool) (xs : List A) (i : ℕ) (x : A) → slice_get xs i ≡ Some x → p x ≡ true → list_any p xs ≡ true
any_at p [] i x e q = absurd (none-some x e)
any_at p (y ∷ ys) zero x e q = or_left (p y) (list_any p ys) (ap p (same_Some y x e) ∙ q)
any_at p (y ∷ ys) (suc i) x e q = or_right (p y) (list_any p ys) (any_at p ys i x e q)

-- a Get of k from s by ticket n + 1 is at or below the mark
pub mark_bound : (ws : List Work) (n : ℕ) (w : Work) (i k s : ℕ) (r : Option (List ℕ)) → slice_get ws n ≡ Some w → slice_get w.ops i ≡ Some (Get k r s) → suc n ≤ mark ws k s
mark_bound ws n w i k s r there got = greatest_bound (has_read ws k s) (length ws) (suc n)
    (ap (λ o. unwrap_or (option_map (λ x. list_any (is_get_of k s) x.ops) o) false) there ∙ any_at (is_get_of k s) w.ops i (Get k r s) got (and_from (k == k) (s == s) (eq-eqb k k refl) (eq-eqb s s refl)))
    (slice_get_within ws n w there)

-- who has a version goes on
pub held_goes : (ws : List Work) (t k : ℕ) (x : Option (List ℕ)) → version ws t k ≡ Some x → goes_on ws t ≡ true
held_goes ws t k x e = step (at_ticket ws t) e
  where
    by_fate : (b : Bool) (a : Option (Option (List ℕ))) → (if b then a else None) ≡ Some x → b ≡ true
    by_fate true a e = refl
    by_fate false a e = absurd (none-some x e)

    step : (o : Option Work) → option_and_then (λ w. version_in w k) o ≡ Some x → unwrap_or (option_map (λ w. is_going w.fate) o) false ≡ true
    step None e = absurd (none-some x e)
    step (Some w) e = by_fate (is_going w.fate) (last_write w.ops k) e

-- an operation that doesn't write k leaves every version of k
pub version-with_op : (ws : List Work) (t : ℕ) (o : Op ℕ) (k : ℕ) → write_of o k ≡ None → (u : ℕ) → version (with_op ws t o) u k ≡ version ws u k
version-with_op ws t o k none u = ⊎_elim
    (λ same. subst (λ q. version (with_op ws t o) q k ≡ version ws q k) (sym same) (ap (option_and_then (λ w. version_in w k)) (at_edit_same (add_op o) ws t) ∙ grown (at_ticket ws t)))
    (λ other. ap (option_and_then (λ w. version_in w k)) (at_edit_other (add_op o) ws t u other))
    (cases_eq u t)
  where
    grown : (w : Option Work) → option_and_then (λ w. version_in w k) (option_map (add_op o) w) ≡ option_and_then (λ w. version_in w k) w
    grown None = refl
    grown (Some w) = ap (λ a. if is_going w.fate then a else None) (last_write-push w.ops o k ∙ ap (λ a. option_or a (last_write w.ops k)) none)

-- the work at an index after an operation was added to ticket t's
pub with_op_cases : (ws : List Work) (t : ℕ) (o : Op ℕ) (n : ℕ) (w : Work) → slice_get (with_op ws t o) n ≡ Some w
    → ((slice_get ws n ≡ Some w) × (suc n ≡ t → ⊥)) ⊎ ((v : Work) × (slice_get ws n ≡ Some v) × (suc n ≡ t) × (add_op o v ≡ w))
with_op_cases ws t o n w e = ⊎_elim
    (λ same. by_option (slice_get ws n)
    (λ none. absurd (none-some w (ap (option_map (add_op o)) (sym none) ∙ (here same ∙ e))))
    (λ v there. inr (v, there, same, same_Some _ w (ap (option_map (add_op o)) (sym there) ∙ (here same ∙ e)))))
    (λ other. inl (sym (at_edit_other (add_op o) ws t (suc n) other) ∙ e, other))
    (cases_eq (suc n) t)
  where
    here : suc n ≡ t → option_map (add_op o) (slice_get ws n) ≡ slice_get (with_op ws t o) n
    here same = subst (λ q. option_map (add_op o) (slice_get ws n) ≡ slice_get (with_op ws q o) n) same (sym (slice_get-edit_same (add_op o) ws n))
