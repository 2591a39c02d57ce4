-- The stash has rows of just the keys that lie in no bucket, behind an epoch's writes too.
use Rattle.std.specs.Prelude.{◌≡◌, ◌≢◌, ◌↔◌, ℕ, ◌==◌, Bool, true, false, cond, List, [], ◌∷◌, Option}
use Rattle.std.specs.declared.option.Option.TheVariants.{None, Some}
use Rattle.std.specs.FinMap as finite
use Rattle.std.specs.Cmp.{nat_cmp_total, unsigned_tied}
use Rattle.std.specs.FinMap.{get-insert, get-remove}
use Rattle.std.proofs.Common.{refl, sym, ap, subst, ◌∙◌}
use Rattle.std.proofs.lemmas.Bool.{false≢true}
use Rattle.ob_base.specs.declared.value.Write.{Write}
use Rattle.ob_tables.specs.declared.entry.Entry.{Entry}
use Rattle.ob_ring.specs.FlatTable.{FlatTable, Row, Spot, InStash, In, spot_of, is_stash, in_stash, written_row, write, after_writes}
use Rattle.ob_ring.specs.Arrays.{leaf_in}
use Rattle.ob_ring.specs.Filling.{HasJustStashRows}
use Rattle.ob_ring.specs.Ring.{Kept, StandsFor}
use Rattle.ob_ring.specs.Settling.{Rows}
use Rattle.ob_ring.specs.Writing.{leaf_of_write, leaf_writes, with_value, values_after}

-- ---- one table is like the other

in_not : (u j : ℕ) (s : Spot) → s ≡ InStash → s ≡ In u j → ⊥
in_not u j s e f = let x : InStash ≡ In u j = sym e ∙ f in absurd (cc)

stash_like : (s s' : Spot) → ((u j : ℕ) → s ≡ In u j → s' ≡ In u j) → ((u j : ℕ) → s' ≡ In u j → s ≡ In u j) → is_stash s ≡ is_stash s'
stash_like InStash InStash to from = refl
stash_like (In u j) (In v i) to from = refl
stash_like InStash (In v i) to from = absurd (in_not v i InStash refl (from v i refl))
stash_like (In u j) InStash to from = absurd (in_not u j InStash refl (to u j refl))

row_like : (o o' : Option Row) → leaf_in o ≡ leaf_in o' → ((u j : ℕ) → spot_of o ≡ In u j → spot_of o' ≡ In u j) → ((u j : ℕ) → spot_of o' ≡ In u j → spot_of o ≡ In u j) → in_stash o ≡ in_stash o'
row_like None None e to from = refl
row_like None (Some r) e to from = absurd (cc)
row_like (Some r) None e to from = absurd (cc)
row_like (Some r) (Some r') e to from = stash_like r.spot r'.spot to from

-- Of two tables that a ring stands for the same keys lie in no bucket.
pub stash_same : (ring : Kept) (t t' : FlatTable) → StandsFor ring t → StandsFor ring t' → (k : ℕ) → in_stash (t.rows k) ≡ in_stash (t'.rows k)
stash_same ring t t' s s' k =
    row_like (t.rows k) (t'.rows k) ((s.arrays).leaves_are k ∙ sym ((s'.arrays).leaves_are k))
    (λ u j e. ((s'.arrays).spots_are k u j).1 (((s.arrays).spots_are k u j).0 e)) (λ u j e. ((s.arrays).spots_are k u j).1 (((s'.arrays).spots_are k u j).0 e))

pub just_like : (ring : Kept) (t t' : FlatTable) (rows : Rows) → StandsFor ring t → StandsFor ring t' → HasJustStashRows t rows → HasJustStashRows t' rows
just_like ring t t' rows s s' at k = ((λ on. (at k).0 (stash_same ring t t' s s' k ∙ on)), (λ some. sym (stash_same ring t t' s s' k) ∙ (at k).1 some))

-- ---- the writes

put_row : (rows : Rows) (a : ℕ) (v : List ℕ) (k : ℕ) → finite.get (finite.insert rows a v) k ≡ cond (k == a) (Some v) (finite.get rows k)
put_row rows a v k = get-insert nat_cmp_total rows a v k ∙ ap (λ (b : Bool). cond b (Some v) (finite.get rows k)) (unsigned_tied k a)

del_row : (rows : Rows) (a k : ℕ) → finite.get (finite.remove rows a) k ≡ cond (k == a) None (finite.get rows k)
del_row rows a k = get-remove nat_cmp_total rows a k ∙ ap (λ (b : Bool). cond b None (finite.get rows k)) (unsigned_tied k a)

abbrev IsJust : Option Row → Option (List ℕ) → Type 0
IsJust r o = (in_stash r ≡ true) ↔ (o ≢ None)

some_not : (v : List ℕ) → Some v ≢ None
some_not v e = absurd (cc)

put_case : (v : List ℕ) (leaf : ℕ) (r : Option Row) (o : Option (List ℕ)) (b : Bool) → IsJust r o → IsJust (cond b (written_row (Some leaf)) r) (cond b (Some v) o)
put_case v leaf r o true at = ((λ e. some_not v), (λ e. refl))
put_case v leaf r o false at = at

del_case : (r : Option Row) (o : Option (List ℕ)) (b : Bool) → IsJust r o → IsJust (cond b (written_row None) r) (cond b None o)
del_case r o true at = ((λ e. absurd (false≢true e)), (λ e. absurd (e refl)))
del_case r o false at = at

one_written : (t : FlatTable) (rows : Rows) (key : ℕ) (value : Option (List ℕ)) (own : Entry) → HasJustStashRows t rows → HasJustStashRows (write t key (leaf_of_write value own)) (with_value rows key value)
one_written t rows key None own at k = subst (λ (o : Option (List ℕ)). IsJust (cond (k == key) (written_row None) (t.rows k)) o) (sym (del_row rows key k)) (del_case (t.rows k) (finite.get rows k) (k == key) (at k))
one_written t rows key (Some v) own at k =
    subst (λ (o : Option (List ℕ)). IsJust (cond (k == key) (written_row (Some own.leaf)) (t.rows k)) o) (sym (put_row rows key v k)) (put_case v own.leaf (t.rows k) (finite.get rows k) (k == key) (at k))

pub just_written : (t : FlatTable) (rows : Rows) (ws : List (Write × Entry)) → HasJustStashRows t rows → HasJustStashRows (after_writes t (leaf_writes ws)) (values_after rows ws)
just_written t rows [] at = at
just_written t rows (w ∷ ws) at = just_written (write t (w.0).key (leaf_of_write (w.0).value w.1)) (with_value rows (w.0).key (w.0).value) ws (one_written t rows (w.0).key (w.0).value w.1 at)
