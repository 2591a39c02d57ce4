-- A row more of the stash has its turn.
use Rattle.std.specs.Prelude.{◌≡◌, ◌≢◌, ℕ, ◌+◌, ◌<◌, ◌≤◌, ◌==◌, nat_lt, Bool, true, false, cond, ◌&&◌, ◌||◌, List, [], ◌∷◌, ◌++◌, filter, length, Option, unwrap_or}
use Rattle.std.specs.declared.option.Option.TheVariants.{None, Some}
use Rattle.std.specs.List.{find}
use Rattle.std.specs.FinMap as finite
use Rattle.std.proofs.Common.{suc, arith, refl, sym, ap, subst, ◌∙◌, inl, inr, get_or, ◌⊎◌}
use Rattle.std.proofs.lemmas.Bool.{true≢false, false≢true, cases_Bool, cases_eq, eqb-true, eq-eqb, ne_eqb, ltb-true, and_parts, or_parts, or_left, or_right}
use Rattle.ob_base.specs.declared.params.Params.{Params}
use Rattle.ob_base.specs.Tree.{below}
use Rattle.ob_schedule.specs.Paths.{is_one_of}
use Rattle.ob_ring.specs.FlatTable.{FlatTable, Row, InStash, In, spot_of, is_stash, in_stash}
use Rattle.ob_ring.specs.Settling.{Rows}
use Rattle.ob_ring.specs.Sound.{IsSound}
use Rattle.ob_ring.specs.Arrays.{Arrays, IsTableOf, leaf_in}
use Rattle.ob_ring.specs.Filling.{HasJustStashRows}
use Rattle.ob_ring.proofs.Members.{off_unless}
use Rattle.ob_ring.proofs.FillLaws.{stash_spot}
use Rattle.ob_ring.proofs.StashWalks as walks
use Rattle.ob_ring.specs.Passing.{has_room, upwards, goes_to, one_more, next_place, taken_by, place_among, none_taken, put_to, row_keys, passed_table}

-- ---- the stash's keys

all_pass : (f : ℕ → Bool) (ks : List ℕ) → ((k : ℕ) → is_one_of ks k ≡ true → f k ≡ true) → filter f ks ≡ ks
all_pass f [] h = refl
all_pass f (k ∷ ks) h = ap (λ (b : Bool). cond b (k ∷ filter f ks) (filter f ks)) (h k (or_left (k == k) (is_one_of ks k) (eq-eqb k k refl)))
    ∙ ap (λ (xs : List ℕ). k ∷ xs) (all_pass f ks (λ x on. h x (or_right (k == x) (is_one_of ks x) on)))

pub rows_pass : (t : FlatTable) (rows : Rows) → HasJustStashRows t rows → (j : ℕ) → is_one_of (row_keys rows) j ≡ true → in_stash (t.rows j) ≡ true
rows_pass t rows just j on = (just j).1 (there (row_keys rows) j on (λ i low. walks.row_is_there rows i low))
  where
    there : (ks : List ℕ) (k : ℕ) → is_one_of ks k ≡ true → ((i : ℕ) → i < length ks → finite.get rows (get_or ks i 0) ≢ None) → finite.get rows k ≢ None
    there [] k at h = absurd (false≢true at)
    there (x ∷ ks) k at h = by (x == k) refl at (λ off. there ks k off (λ i low. h (suc i) (omega arith)))
      where
        by : (b : Bool) → (x == k) ≡ b → (b || is_one_of ks k) ≡ true → (is_one_of ks k ≡ true → finite.get rows k ≢ None) → finite.get rows k ≢ None
        by true e a f = subst (λ (y : ℕ). finite.get rows y ≢ None) (eqb-true x k e) (h 0 (omega arith))
        by false e a f = f a

-- the stash's keys are those of the table that lie in no bucket
pub rows_are : (p : Params) (t : FlatTable) (rows : Rows) → HasJustStashRows t rows → ((k : ℕ) → finite.get rows k ≢ None → k < p.keys) → row_keys rows ≡ filter (λ j. in_stash (t.rows j)) (below p.keys)
rows_are p t rows just low = sym (all_pass (λ j. in_stash (t.rows j)) (row_keys rows) (rows_pass t rows just)) ∙ walks.walked (λ j. in_stash (t.rows j)) rows p.keys low (λ j on. (just j).0 on)

-- ---- where it goes

none_of : (p : Params) (t : FlatTable) (taken : ℕ → ℕ) (ks : List ℕ) (j : ℕ) → is_one_of ks j ≡ false → place_among p t taken ks j ≡ None
none_of p t taken [] j off = refl
none_of p t taken (k ∷ ks) j off =
    let o : Option ℕ = goes_to p t.lifted taken (t.rows k) in
    ap (λ (b : Bool). cond b (next_place o taken) (place_among p t (one_more o taken) ks j)) (or_parts (k == j) (is_one_of ks j) off).0
    ∙ none_of p t (one_more o taken) ks j (or_parts (k == j) (is_one_of ks j) off).1

pub taken_push : (p : Params) (t : FlatTable) (taken : ℕ → ℕ) (ks : List ℕ) (k : ℕ) → taken_by p t taken (ks ++ k ∷ []) ≡ one_more (goes_to p t.lifted (taken_by p t taken ks) (t.rows k)) (taken_by p t taken ks)
taken_push p t taken [] k = refl
taken_push p t taken (x ∷ ks) k = taken_push p t (one_more (goes_to p t.lifted taken (t.rows x)) taken) ks k

swap_cond : (a b : Bool) (x y z : Option (ℕ × ℕ)) → (a ≡ true → b ≡ true → ⊥) → cond a x (cond b y z) ≡ cond b y (cond a x z)
swap_cond true true x y z h = absurd (h refl refl)
swap_cond true false x y z h = refl
swap_cond false true x y z h = refl
swap_cond false false x y z h = refl

pub place_push : (p : Params) (t : FlatTable) (taken : ℕ → ℕ) (ks : List ℕ) (k j : ℕ) → is_one_of ks k ≡ false →
    place_among p t taken (ks ++ k ∷ []) j ≡ cond (k == j) (next_place (goes_to p t.lifted (taken_by p t taken ks) (t.rows k)) (taken_by p t taken ks)) (place_among p t taken ks j)
place_push p t taken [] k j off = refl
place_push p t taken (x ∷ ks) k j off =
    let o : Option ℕ = goes_to p t.lifted taken (t.rows x) in
    ap (cond (x == j) (next_place o taken)) (place_push p t (one_more o taken) ks k j (or_parts (x == k) (is_one_of ks k) off).1)
    ∙ swap_cond (x == j) (k == j) _ _ _ (λ a b. true≢false (sym (eq-eqb x k (eqb-true x j a ∙ sym (eqb-true k j b))) ∙ (or_parts (x == k) (is_one_of ks k) off).0))

-- ---- what stands in a bucket

record Finds (p : Params) (lifted : ℕ → Bool) (taken : ℕ → ℕ) (o : Option Row) (u : ℕ) : Type 0 where
  out : in_stash o ≡ true
  up : lifted u ≡ true
  room : taken u < p.real

pub found_passes : (q : ℕ → Bool) (us : List ℕ) (u : ℕ) → find q us ≡ Some u → q u ≡ true
found_passes q [] u e = absurd (cc)
found_passes q (x ∷ us) u e = by (q x) refl e (found_passes q us u)
  where
    by : (b : Bool) → q x ≡ b → cond b (Some x) (find q us) ≡ Some u → (find q us ≡ Some u → q u ≡ true) → q u ≡ true
    by true is f rest = (let same : x ≡ u = cc in ap q (sym same) ∙ is)
    by false is f rest = rest f

finds : (p : Params) (lifted : ℕ → Bool) (taken : ℕ → ℕ) (o : Option Row) (u : ℕ) → goes_to p lifted taken o ≡ Some u → Finds p lifted taken o u
finds p lifted taken None u e = absurd (cc)
finds p lifted taken (Some r) u e = by (is_stash r.spot) refl e
  where
    by : (b : Bool) → is_stash r.spot ≡ b → cond b (find (has_room p lifted taken) (upwards p r.leaf (p.levels + 1))) None ≡ Some u → Finds p lifted taken (Some r) u
    by true is f =
        let on : has_room p lifted taken u ≡ true = found_passes (has_room p lifted taken) (upwards p r.leaf (p.levels + 1)) u f in
        let parts : (lifted u ≡ true) × (nat_lt (taken u) p.real ≡ true) = and_parts (lifted u) (nat_lt (taken u) p.real) on in
        record { out = is; up = parts.0; room = ltb-true (taken u) p.real parts.1 }
    by false is f = absurd (cc)

more_is : (o : Option ℕ) (taken : ℕ → ℕ) (u : ℕ) → taken u ≤ one_more o taken u
more_is None taken u = omega arith
more_is (Some v) taken u = by (u == v)
  where
    by : (b : Bool) → taken u ≤ cond b (taken u + 1) (taken u)
    by true = omega arith
    by false = omega arith

only_more : (p : Params) (t : FlatTable) (taken : ℕ → ℕ) (ks : List ℕ) (u : ℕ) → taken u ≤ taken_by p t taken ks u
only_more p t taken [] u = omega arith
only_more p t taken (k ∷ ks) u = omega (arith, more_is (goes_to p t.lifted taken (t.rows k)) taken u, only_more p t (one_more (goes_to p t.lifted taken (t.rows k)) taken) ks u)

-- A bucket's keys stand at the indexes below its count.
pub place_below : (p : Params) (t : FlatTable) (taken : ℕ → ℕ) (ks : List ℕ) (j u i : ℕ) → place_among p t taken ks j ≡ Some (u, i) → i < taken_by p t taken ks u
place_below p t taken [] j u i e = absurd (cc)
place_below p t taken (k ∷ ks) j u i e = by (k == j) e (place_below p t (one_more o taken) ks j u i)
  where
    o : Option ℕ
    o = goes_to p t.lifted taken (t.rows k)

    here : (x : Option ℕ) → next_place x taken ≡ Some (u, i) → i < one_more x taken u
    here None f = absurd (cc)
    here (Some v) f =
        let bucket : v ≡ u = ap (λ (x : Option (ℕ × ℕ)). (unwrap_or x (0, 0)).0) f in
        let index : taken v ≡ i = ap (λ (x : Option (ℕ × ℕ)). (unwrap_or x (0, 0)).1) f in
        omega (arith, ap (λ (b : Bool). cond b (taken u + 1) (taken u)) (eq-eqb u v (sym bucket)), ap taken bucket)

    by : (b : Bool) → cond b (next_place o taken) (place_among p t (one_more o taken) ks j) ≡ Some (u, i) → (place_among p t (one_more o taken) ks j ≡ Some (u, i) → i < taken_by p t (one_more o taken) ks u) → i < taken_by p t (one_more o taken) ks u
    by true f rest = omega (arith, here o f, only_more p t (one_more o taken) ks u)
    by false f rest = rest f

-- where a key stands that was put
place_of_key : (o : Option Row) (a : ℕ × ℕ) → in_stash o ≡ true → spot_of (put_to (Some a) o) ≡ In a.0 a.1
place_of_key None a e = absurd (false≢true e)
place_of_key (Some r) a e = refl

leaf_put : (a : Option (ℕ × ℕ)) (o : Option Row) → leaf_in (put_to a o) ≡ leaf_in o
leaf_put None o = refl
leaf_put (Some a) None = refl
leaf_put (Some a) (Some r) = refl

-- a key in a bucket was put there, or lay there before
was_put : (a : Option (ℕ × ℕ)) (o : Option Row) (u i : ℕ) → spot_of (put_to a o) ≡ In u i → (a ≡ Some (u, i)) ⊎ (spot_of o ≡ In u i)
was_put None o u i e = inr e
was_put (Some a) None u i e = inr e
was_put (Some a) (Some r) u i e =
    let bucket : a.0 ≡ u = cc in
    let index : a.1 ≡ i = cc in
    inl (λ k. Some (bucket k, index k))

out_spot : (o : Option Row) → in_stash o ≡ true → spot_of o ≡ InStash
out_spot None e = refl
out_spot (Some r) e = stash_spot r.spot e

-- A row more: its key is written at the bucket's next index.
abbrev pub with_key : Arrays → ℕ → ℕ → ℕ → Arrays
with_key a u n k = record a { key_at = λ v i. cond ((v == u) && (i == n)) (Some k) (a.key_at v i) }

pub row_put : (p : Params) (a : Arrays) (t : FlatTable) (ks : List ℕ) (k u : ℕ) → IsSound p t → is_one_of ks k ≡ false → goes_to p t.lifted (taken_by p t none_taken ks) (t.rows k) ≡ Some u → IsTableOf p a (passed_table p t ks) →
    IsTableOf p (with_key a u (taken_by p t none_taken ks u) k) (passed_table p t (ks ++ k ∷ []))
row_put p a t ks k u sound off goes is =
    let n : ℕ = taken_by p t none_taken ks u in
    let f : Finds p t.lifted (taken_by p t none_taken ks) (t.rows k) u = finds p t.lifted (taken_by p t none_taken ks) (t.rows k) u goes in
    let now : (j : ℕ) → place_among p t none_taken (ks ++ k ∷ []) j ≡ cond (k == j) (Some (u, n)) (place_among p t none_taken ks j) =
    λ j. place_push p t none_taken ks k j off ∙ ap (λ (o : Option ℕ). cond (k == j) (next_place o (taken_by p t none_taken ks)) (place_among p t none_taken ks j)) goes in
    let mine : place_among p t none_taken (ks ++ k ∷ []) k ≡ Some (u, n) = now k ∙ ap (λ (b : Bool). cond b (Some (u, n)) (place_among p t none_taken ks k)) (eq-eqb k k refl) in
    let theirs : (j : ℕ) → k ≢ j → place_among p t none_taken (ks ++ k ∷ []) j ≡ place_among p t none_taken ks j = λ j ne. now j ∙ ap (λ (b : Bool). cond b (Some (u, n)) (place_among p t none_taken ks j)) (ne_eqb k j ne) in
    let free : (j : ℕ) → spot_of (put_to (place_among p t none_taken ks j) (t.rows j)) ≡ In u n → ⊥ = λ j e. elim (was_put (place_among p t none_taken ks j) (t.rows j) u n e) [
      | inl put ↦ (let less : n < taken_by p t none_taken ks u = place_below p t none_taken ks j u n put in omega (arith, less))
      | inr lay ↦ true≢false (sym f.up ∙ (sound.placed j u n lay).standing)
    ] in
    record {
      keys_low = is.keys_low;
      leaves_are = λ j. leaf_put (place_among p t none_taken (ks ++ k ∷ []) j) (t.rows j) ∙ sym (leaf_put (place_among p t none_taken ks j) (t.rows j)) ∙ is.leaves_are j;
      spots_are = λ j v i. (
        (λ e. elim (cases_eq k j) [
          | inl at ↦ (let there : In u n ≡ In v i = sym (place_of_key (t.rows k) (u, n) f.out) ∙ (λ x. spot_of (put_to (sym mine x) (t.rows k))) ∙ (λ x. spot_of (put_to (place_among p t none_taken (ks ++ k ∷ []) (at x)) (t.rows (at x)))) ∙ e in
              let bucket : u ≡ v = cc in
              let index : n ≡ i = cc in
              (λ x. cond (eq-eqb v u (sym bucket) x && eq-eqb i n (sym index) x) (Some k) (a.key_at v i)) ∙ ap (λ (y : ℕ). Some y) at)
          | inr ne ↦ (let before : spot_of (put_to (place_among p t none_taken ks j) (t.rows j)) ≡ In v i = (λ x. spot_of (put_to (sym (theirs j ne) x) (t.rows j))) ∙ e in
              let other : ((v == u) && (i == n)) ≡ false = off_unless ((v == u) && (i == n)) (λ on. (let parts : ((v == u) ≡ true) × ((i == n) ≡ true) = and_parts (v == u) (i == n) on in
              free j (before ∙ (λ x. In (eqb-true v u parts.0 x) (eqb-true i n parts.1 x))))) in
              ap (λ (b : Bool). cond b (Some k) (a.key_at v i)) other ∙ (is.spots_are j v i).0 before)
        ]),
        (λ e. elim (cases_Bool ((v == u) && (i == n))) [
          | inl on ↦ (let parts : ((v == u) ≡ true) × ((i == n) ≡ true) = and_parts (v == u) (i == n) on in
              let some : Some k ≡ Some j = sym (ap (λ (b : Bool). cond b (Some k) (a.key_at v i)) on) ∙ e in
              let at : k ≡ j = cc in
              (λ x. spot_of (put_to (place_among p t none_taken (ks ++ k ∷ []) (sym at x)) (t.rows (sym at x)))) ∙ (λ x. spot_of (put_to (mine x) (t.rows k))) ∙ place_of_key (t.rows k) (u, n) f.out
              ∙ (λ x. In (sym (eqb-true v u parts.0) x) (sym (eqb-true i n parts.1) x)))
          | inr away ↦ (let before : spot_of (put_to (place_among p t none_taken ks j) (t.rows j)) ≡ In v i = (is.spots_are j v i).1 (sym (ap (λ (b : Bool). cond b (Some k) (a.key_at v i)) away) ∙ e) in
              let ne : k ≢ j = λ at. (let lies : InStash ≡ In v i = sym (out_spot (t.rows k) f.out) ∙ (λ x. spot_of (put_to (sym (none_of p t none_taken ks k off) x) (t.rows k))) ∙ (λ x. spot_of (put_to (place_among p t none_taken ks (at x)) (t.rows (at x)))) ∙ before in absurd (cc)) in
              (λ x. spot_of (put_to (theirs j ne x) (t.rows j))) ∙ before)
        ]),
      );
      used_is = is.used_is;
      lifted_is = is.lifted_is;
      counter_is = is.counter_is;
    }

-- a row that goes nowhere changes nothing
pub row_kept : (p : Params) (a : Arrays) (t : FlatTable) (ks : List ℕ) (k : ℕ) → is_one_of ks k ≡ false → goes_to p t.lifted (taken_by p t none_taken ks) (t.rows k) ≡ None → IsTableOf p a (passed_table p t ks) → IsTableOf p a (passed_table p t (ks ++ k ∷ []))
row_kept p a t ks k off goes is = subst (λ (rows : ℕ → Option Row). IsTableOf p a (record t { rows = rows })) (λ x j. put_to (sym (same j) x) (t.rows j)) is
  where
    none_still : (b : Bool) (j : ℕ) → (k == j) ≡ b → cond b None (place_among p t none_taken ks j) ≡ place_among p t none_taken ks j
    none_still true j e = sym (ap (place_among p t none_taken ks) (sym (eqb-true k j e)) ∙ none_of p t none_taken ks k off)
    none_still false j e = refl

    same : (j : ℕ) → place_among p t none_taken (ks ++ k ∷ []) j ≡ place_among p t none_taken ks j
    same j = place_push p t none_taken ks k j off ∙ ap (λ (o : Option ℕ). cond (k == j) (next_place o (taken_by p t none_taken ks)) (place_among p t none_taken ks j)) goes ∙ none_still (k == j) j refl
