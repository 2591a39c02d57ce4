-- Each Get still finds its version: kept by every step, and enough for a replay.
use Rattle.std.proofs.Common.{◌≡◌, ℕ, zero, suc, ◌<◌, ◌≤◌, Bool, true, false, if◌then◌else◌, List, [], ◌∷◌, ◌++◌, take, length, Option, None, Some, option_map, option_and_then, unwrap_or, slice_get, refl, sym, ap, ◌∙◌, subst, ◌⊎◌, ⊎_elim, arith, nat_cmp}
use Rattle.std.specs.Option.{option_or}
use Rattle.std.specs.FinMap as map
use Rattle.std.proofs.lemmas.Bool.{cases_lt, false≢true}
use Rattle.std.proofs.lemmas.Option.{none-some, same_Some, slice_get_within}
use Rattle.ob_serial.specs.Serial.{Map}
use Rattle.ob_order.specs.Works.{Work, is_going, goes_on, version, version_in, newest, source_of, write_of, last_write, mark, add_op, with_op}
use Rattle.ob_base.specs.declared.op.Op.{Op}
use Rattle.ob_base.specs.declared.op.Op.TheVariants.{Get, Put, Del}
use Rattle.ob_order.specs.declared.answers.Version.{Version}
use Rattle.ob_desk.specs.Replay.{map_after, EachReplays}
use Rattle.ob_order.proofs.Edits.{at_edit_other, slice_get-push, take-push}
use Rattle.ob_desk.proofs.Maps.{get-after}
use Rattle.ob_order.proofs.Newest.{newest-same, newest_found, newest_beside, Thinned, newest_none_kept, newest_some_kept, by_option, mark_bound, held_goes}
use Rattle.ob_desk.proofs.Maps.{value_or, get-map_after}
use Rattle.ob_order.proofs.Newest.{version-with_op, with_op_cases}
use Rattle.ob_serial.proofs.Runs.{from_places}

-- what ticket n + 1 sees of k after its operations `own`: its own last write, the newest version below it, or the base
abbrev pub sees : Map nat_cmp → List Work → ℕ → List (Op ℕ) → ℕ → Version
sees m ws n own k = unwrap_or (option_or (option_map (λ v. record { source = suc n; value = v }) (last_write own k)) (newest ws n k)) (record { source = 0; value = map.get m k })

-- each Get of a transaction that isn't aborted is what it sees now
pub record Reads (m : Map nat_cmp) (ws : List Work) : Type 0 where
  pub at_each : (n : ℕ) (w : Work) → slice_get ws n ≡ Some w → is_going w.fate ≡ true
      → (i k : ℕ) (r : Option (List ℕ)) (s : ℕ) → slice_get w.ops i ≡ Some (Get k r s) → sees m ws n (take i w.ops) k ≡ record { source = s; value = r }

value-sees : (m : Map nat_cmp) (ws : List Work) (n : ℕ) (own : List (Op ℕ)) (k : ℕ) → unwrap_or (last_write own k) (value_or (newest ws n k) (map.get m k)) ≡ (sees m ws n own k).value
value-sees m ws n own k = step (last_write own k) (newest ws n k)
  where
    step : (a : Option (Option (List ℕ))) (o : Option Version) → unwrap_or a (value_or o (map.get m k)) ≡ (unwrap_or (option_or (option_map (λ v. record { source = suc n; value = v }) a) o) (record { source = 0; value = map.get m k })).value
    step None None = refl
    step None (Some v) = refl
    step (Some x) o = refl

pub replays_from_reads : (m : Map nat_cmp) (ws : List Work) → Reads m ws → EachReplays m ws
replays_from_reads m ws h = record {
  at_each = λ n w there going. from_places nat_cmp (map_after m ws n) w.ops (λ i k r s got.
      get-after (map_after m ws n) (take i w.ops) k
      ∙ (ap (unwrap_or (last_write (take i w.ops) k)) (get-map_after m ws n k)
      ∙ (value-sees m ws n (take i w.ops) k ∙ ap (λ q. q.value) (h.at_each n w there going i k r s got))));
}

-- from where it sees k: itself, a ticket below it, or the base
sees_same : (m : Map nat_cmp) (vs ws : List Work) (n : ℕ) (own : List (Op ℕ)) (k : ℕ) → newest vs n k ≡ newest ws n k → sees m vs n own k ≡ sees m ws n own k
sees_same m vs ws n own k e = ap (λ o. unwrap_or (option_or (option_map (λ v. let q : Version = record { source = suc n; value = v } in q) (last_write own k)) o) (record { source = 0; value = map.get m k })) e

pub sees_itself : (m : Map nat_cmp) (ws : List Work) (n : ℕ) (own : List (Op ℕ)) (k : ℕ) (x : Option (List ℕ)) → last_write own k ≡ Some x → sees m ws n own k ≡ record { source = suc n; value = x }
sees_itself m ws n own k x e = ap (λ a. unwrap_or (option_or (option_map (λ v. let q : Version = record { source = suc n; value = v } in q) a) (newest ws n k)) (record { source = 0; value = map.get m k })) e

-- its own write is seen, whatever the others do
pub sees_own : (m : Map nat_cmp) (vs ws : List Work) (n : ℕ) (own : List (Op ℕ)) (k : ℕ) (x : Option (List ℕ)) → last_write own k ≡ Some x → sees m vs n own k ≡ sees m ws n own k
sees_own m vs ws n own k x e = sees_itself m vs n own k x e ∙ sym (sees_itself m ws n own k x e)

-- what it sees where it wrote nothing itself
pub sees_other : (m : Map nat_cmp) (ws : List Work) (n : ℕ) (own : List (Op ℕ)) (k : ℕ) → last_write own k ≡ None → sees m ws n own k ≡ unwrap_or (newest ws n k) (record { source = 0; value = map.get m k })
sees_other m ws n own k e = ap (λ a. unwrap_or (option_or (option_map (λ v. let q : Version = record { source = suc n; value = v } in q) a) (newest ws n k)) (record { source = 0; value = map.get m k })) e

-- transactions that are aborted leave the Gets of the others, where no source of those is aborted
pub reads_thinned : (m : Map nat_cmp) (ws vs : List Work) → Reads m ws → Thinned ws vs
    → ((n : ℕ) (w : Work) → slice_get vs n ≡ Some w → is_going w.fate ≡ true → (v : Work) × (slice_get ws n ≡ Some v) × (is_going v.fate ≡ true) × (v.ops ≡ w.ops))
    → ((n : ℕ) (w : Work) → slice_get vs n ≡ Some w → is_going w.fate ≡ true → (i k : ℕ) (r : Option (List ℕ)) (s : ℕ) → slice_get w.ops i ≡ Some (Get k r s) → goes_on ws s ≡ true → goes_on vs s ≡ true)
    → Reads m vs
reads_thinned m ws vs h thin same unbroken = record {
  at_each = λ n w there going i k r s got.
      let b = same n w there going in
      let before : sees m ws n (take i w.ops) k ≡ record { source = s; value = r } =
      subst (λ (ops : List (Op ℕ)). sees m ws n (take i ops) k ≡ record { source = s; value = r }) b.3 (h.at_each n b.0 b.1 b.2 i k r s (subst (λ (ops : List (Op ℕ)). slice_get ops i ≡ Some (Get k r s)) (sym b.3) got)) in
      by_option (last_write (take i w.ops) k)
      (λ none. by_option (newest ws n k)
      (λ base. sees_same m vs ws n (take i w.ops) k (newest_none_kept ws vs n k thin base ∙ sym base) ∙ before)
      (λ v is.
      let found = newest_found ws n k v is in
      let from : v.source ≡ s = ap (λ q. q.source) (sym (ap (λ o. unwrap_or o (record { source = 0; value = map.get m k })) is) ∙ (sym (sees_other m ws n (take i w.ops) k none) ∙ before)) in
      sees_same m vs ws n (take i w.ops) k (newest_some_kept ws vs n k v thin is (subst (λ q. goes_on vs q ≡ true) (sym from) (unbroken n w there going i k r s got (subst (λ q. goes_on ws q ≡ true) from (held_goes ws v.source k v.value found.held)))) ∙ sym is) ∙ before))
      (λ x own. sees_own m vs ws n (take i w.ops) k x own ∙ before);
}

-- what ticket t would be answered where it asks for k
abbrev pub answered : Map nat_cmp → List Work → ℕ → ℕ → Version
answered m ws t k = unwrap_or (newest ws t k) (record { source = 0; value = map.get m k })

-- what it sees after all its operations is what it would be answered
sees_all : (m : Map nat_cmp) (ws : List Work) (n : ℕ) (w : Work) (k : ℕ) → slice_get ws n ≡ Some w → is_going w.fate ≡ true → sees m ws n w.ops k ≡ answered m ws (suc n) k
sees_all m ws n w k there going = ap (λ a. unwrap_or (option_or (option_map (λ v. let q : Version = record { source = suc n; value = v } in q) a) (newest ws n k)) (record { source = 0; value = map.get m k })) (sym held)
  where
    held : version ws (suc n) k ≡ last_write w.ops k
    held = ap (option_and_then (λ w. version_in w k)) there ∙ ap (λ b. if b then last_write w.ops k else None) going

-- a Get that is answered as it must be is kept, and so is every other
pub reads_got : (m : Map nat_cmp) (ws : List Work) (t k : ℕ) (r : Option (List ℕ)) (s : ℕ) → Reads m ws → answered m ws t k ≡ record { source = s; value = r } → Reads m (with_op ws t (Get k r s))
reads_got m ws t k r s h is = record {
  at_each = λ n w there going i j q from got.
      let vs = with_op ws t (Get k r s) in
      let same : (own : List (Op ℕ)) → sees m vs n own j ≡ sees m ws n own j = λ own. sees_same m vs ws n own j (newest-same vs ws n j (λ u _. version-with_op ws t (Get k r s) j refl u)) in
      ⊎_elim
      (λ c. same (take i w.ops) ∙ h.at_each n w c.0 going i j q from got)
      (λ c.
      let v = c.0 in
      let v_going : is_going v.fate ≡ true = ap (λ x. is_going x.fate) c.3 ∙ going in
      let ops : v.ops ++ Get k r s ∷ [] ≡ w.ops = ap (λ x. x.ops) c.3 in
      let got_there : slice_get (v.ops ++ Get k r s ∷ []) i ≡ Some (Get j q from) = ap (λ x. slice_get x i) ops ∙ got in
      subst (λ x. sees m vs n (take i x) j ≡ record { source = from; value = q }) ops (⊎_elim
      (λ old.
      let got_before : slice_get v.ops i ≡ Some (Get j q from) = sym old ∙ got_there in
      ap (λ x. sees m vs n x j) (take-push v.ops (Get k r s) i (omega (arith, slice_get_within v.ops i (Get j q from) got_before))) ∙ (same (take i v.ops) ∙ h.at_each n v c.1 v_going i j q from got_before))
      (λ last.
      let one : Get k r s ≡ Get j q from = same_Some _ _ (sym last.2 ∙ got_there) in
      let key : k ≡ j = cc in
      let reply : r ≡ q = cc in
      let source : s ≡ from = cc in
      ap (λ x. sees m vs n x j) (ap (λ x. take x (v.ops ++ Get k r s ∷ [])) last.0 ∙ (take-push v.ops (Get k r s) (length v.ops) (omega arith) ∙ take_whole v.ops))
      ∙ (same v.ops ∙ (sees_all m ws n v j c.1 v_going ∙ (ap (answered m ws (suc n)) (sym key) ∙ (ap (λ x. answered m ws x k) c.2 ∙ (is ∙ rw (source, reply) refl))))))
      (slice_get-push v.ops (Get k r s) i)))
      (with_op_cases ws t (Get k r s) n w there);
}
  where
    take_whole : {A : Type 0} (xs : List A) → take (length xs) xs ≡ xs
    take_whole [] = refl
    take_whole (x ∷ xs) = ap (λ ys. x ∷ ys) (take_whole xs)

-- no Get
abbrev pub is_write : Op ℕ → Bool
is_write (Get k r s) = false
is_write (Put k v) = true
is_write (Del k) = true

pub from_answer : (m : Map nat_cmp) (o : Option Version) (k s : ℕ) (r : Option (List ℕ)) → unwrap_or o (record { source = 0; value = map.get m k }) ≡ record { source = s; value = r } → source_of o ≡ s
from_answer m None k s r e = ap (λ q. q.source) e
from_answer m (Some v) k s r e = ap (λ q. q.source) e

-- a write is no Get of later tickets' business: where the version that it covers has no later reader, every Get is kept
pub reads_wrote : (m : Map nat_cmp) (ws : List Work) (t : ℕ) (o : Op ℕ) → Reads m ws → is_write o ≡ true
    → ((k : ℕ) → (write_of o k ≡ None) ⊎ (mark ws k (source_of (newest ws t k)) ≤ t)) → Reads m (with_op ws t o)
reads_wrote m ws t o h write unread = record {
  at_each = λ n w there going i k r s got.
      let vs = with_op ws t o in
      let below : n < t → newest vs n k ≡ newest ws n k = λ l. newest-same vs ws n k (λ u b. ap (option_and_then (λ x. version_in x k)) (at_edit_other (add_op o) ws t u (λ e. absurd (omega arith)))) in
      ⊎_elim
      (λ c.
      let before = h.at_each n w c.0 going i k r s got in
      ⊎_elim
      (λ none. sees_same m vs ws n (take i w.ops) k (newest-same vs ws n k (λ u _. version-with_op ws t o k none u)) ∙ before)
      (λ few. ⊎_elim
      (λ l. sees_same m vs ws n (take i w.ops) k (below l) ∙ before)
      (λ l. by_option (last_write (take i w.ops) k)
      (λ none. ⊎_elim
      (λ v. sees_same m vs ws n (take i w.ops) k (v.3 ∙ sym v.1) ∙ before)
      (λ same.
      let from : source_of (newest ws t k) ≡ s = from_answer m (newest ws t k) k s r (ap (λ x. unwrap_or x (record { source = 0; value = map.get m k })) (sym same) ∙ (sym (sees_other m ws n (take i w.ops) k none) ∙ before)) in
      let high : suc n ≤ mark ws k s = mark_bound ws n w i k s r c.0 got in
      let low : mark ws k s ≤ t = subst (λ x. mark ws k x ≤ t) from few in
      absurd (omega arith))
      (newest_beside vs ws t n k (λ u other. ap (option_and_then (λ x. version_in x k)) (at_edit_other (add_op o) ws t u other)) l))
      (λ x own. sees_own m vs ws n (take i w.ops) k x own ∙ before))
      (cases_lt n t))
      (unread k))
      (λ c.
      let v = c.0 in
      let v_going : is_going v.fate ≡ true = ap (λ x. is_going x.fate) c.3 ∙ going in
      let ops : v.ops ++ o ∷ [] ≡ w.ops = ap (λ x. x.ops) c.3 in
      let got_there : slice_get (v.ops ++ o ∷ []) i ≡ Some (Get k r s) = ap (λ x. slice_get x i) ops ∙ got in
      subst (λ x. sees m vs n (take i x) k ≡ record { source = s; value = r }) ops (⊎_elim
      (λ old.
      let got_before : slice_get v.ops i ≡ Some (Get k r s) = sym old ∙ got_there in
      ap (λ x. sees m vs n x k) (take-push v.ops o i (omega (arith, slice_get_within v.ops i (Get k r s) got_before)))
      ∙ (sees_same m vs ws n (take i v.ops) k (below (omega (arith, c.2))) ∙ h.at_each n v c.1 v_going i k r s got_before))
      (λ last. absurd (false≢true (ap is_write (sym (same_Some _ _ (sym last.2 ∙ got_there))) ∙ write)))
      (slice_get-push v.ops o i)))
      (with_op_cases ws t o n w there);
}

-- a transaction that begins has read nothing
pub reads_begun : (m : Map nat_cmp) (ws : List Work) (w : Work) → Reads m ws → w.ops ≡ [] → Reads m (ws ++ w ∷ [])
reads_begun m ws w h empty = record {
  at_each = λ n v there going i k r s got. ⊎_elim
      (λ old. sees_same m (ws ++ w ∷ []) ws n (take i v.ops) k (newest-same (ws ++ w ∷ []) ws n k (λ u _. same u k)) ∙ h.at_each n v (sym old ∙ there) going i k r s got)
      (λ last. absurd (none-some _ (ap (λ os. slice_get os i) (sym empty ∙ ap (λ x. x.ops) (same_Some w v (sym last.2 ∙ there))) ∙ got)))
      (slice_get-push ws w n);
}
  where
    by_fate : (b : Bool) (k : ℕ) (os : List (Op ℕ)) → os ≡ [] → (if b then last_write os k else None) ≡ None
    by_fate true k os e = ap (λ x. last_write x k) e
    by_fate false k os e = refl

    same : (u k : ℕ) → version (ws ++ w ∷ []) u k ≡ version ws u k
    same zero k = refl
    same (suc u) k = ⊎_elim
        (λ old. ap (option_and_then (λ x. version_in x k)) old)
        (λ last. ap (option_and_then (λ x. version_in x k)) last.2 ∙ (by_fate (is_going w.fate) k w.ops empty ∙ ap (option_and_then (λ x. version_in x k)) (sym last.1)))
        (slice_get-push ws w u)

pub reads_none : (m : Map nat_cmp) → Reads m []
reads_none m = record { at_each = λ n w there. absurd (none-some w there) }
