-- Writes, one after another.
use Rattle.std.specs.Prelude.{◌≡◌, ℕ, ◌^◌, ◌<◌, ◌==◌, Bool, true, false, cond, List, [], ◌∷◌, ◌++◌, length, Option, slice_index_or}
use Rattle.std.specs.declared.option.Option.TheVariants.{None, Some}
use Rattle.std.proofs.Common.{arith, refl, sym, ap, subst, ◌∙◌}
use Rattle.std.proofs.lemmas.Bool.{true≢false, eqb-true, eq-eqb}
use Rattle.ob_base.specs.declared.params.Params.{Params}
use Rattle.ob_base.specs.declared.value.Write.{Write}
use Rattle.ob_tables.specs.Version.{key_at}
use Rattle.ob_tables.specs.Buckets.{Buckets, version_at}
use Rattle.ob_tables.specs.declared.entry.Entry.{Entry}
use Rattle.ob_tables.specs.Kept.{entry_at}
use Rattle.ob_ring.specs.declared.found.Found.{Found}
use Rattle.ob_ring.specs.FlatTable.{FlatTable, Row, Spot, InStash, In, Writes as WritesStep, spot_of, is_at, written_row, write, after_writes}
use Rattle.ob_ring.specs.Arrays.{Arrays, IsTableOf, AreWhole, arrays_of, rest_of, leaf_in, leaf_of_entry}
use Rattle.ob_ring.specs.Picked.{spot_at}
use Rattle.ob_ring.specs.Paths.{IsTakenOut}
use Rattle.ob_ring.specs.Fetching.{IsBook, IsAskFound}
use Rattle.ob_ring.specs.Settling.{Rows}
use Rattle.ob_ring.specs.Writing.{entry_of, leaf_of_write, leaf_writes, with_entry, entries_after, with_value, values_after, Writes}
use Rattle.ob_ring.proofs.Members.{off_unless}
use Rattle.ob_ring.proofs.LiftOrder.{is_at-is}
use Rattle.ob_ring.proofs.Appends.{map-both}
use Rattle.ob_ring.proofs.TableLaws.{steps_keep_order}
use Rattle.ob_ring.proofs.TableOf.{table_like, at_is}
use Rattle.ob_ring.proofs.PlanLaws.{seals_then}
use Rattle.ob_ring.proofs.FetchLaws.{fetched_spot, emptied, one_key}

abbrev pub with_written : Arrays → ℕ → Spot → Option ℕ → Arrays
with_written a key own leaf = record a { key_at = λ v i. cond (is_at v i own) None (a.key_at v i); leaf_at = λ k. cond (k == key) leaf (a.leaf_at k) }

written_leaf : (leaf : Option ℕ) → leaf_in (written_row leaf) ≡ leaf
written_leaf None = refl
written_leaf (Some x) = refl

written_spot : (leaf : Option ℕ) → spot_of (written_row leaf) ≡ InStash
written_spot None = refl
written_spot (Some x) = refl

both_leaves : (b : Bool) (leaf o : Option ℕ) (r : Option Row) → leaf_in r ≡ o → leaf_in (cond b (written_row leaf) r) ≡ cond b leaf o
both_leaves true leaf o r e = written_leaf leaf
both_leaves false leaf o r e = e

still_in : (b : Bool) (leaf : Option ℕ) (r : Option Row) (u j : ℕ) → spot_of (cond b (written_row leaf) r) ≡ In u j → (b ≡ false) × (spot_of r ≡ In u j)
still_in true leaf r u j e = let f : InStash ≡ In u j = sym (written_spot leaf) ∙ e in absurd (cc)
still_in false leaf r u j e = (refl, e)

now_in : (b : Bool) (leaf : Option ℕ) (r : Option Row) (u j : ℕ) → b ≡ false → spot_of r ≡ In u j → spot_of (cond b (written_row leaf) r) ≡ In u j
now_in true leaf r u j off e = absurd (true≢false off)
now_in false leaf r u j off e = e

low_leaf : (b : Bool) (k key n x : ℕ) (leaf o : Option ℕ) → (k == key) ≡ b → key < n → (o ≡ Some x → k < n) → cond b leaf o ≡ Some x → k < n
low_leaf true k key n x leaf o is low h e = let same : k ≡ key = eqb-true k key is in omega arith
low_leaf false k key n x leaf o is low h e = h e

pub write_is : (p : Params) (a : Arrays) (t : FlatTable) (key : ℕ) (leaf : Option ℕ) → key < p.keys → IsTableOf p a t → IsTableOf p (with_written a key (spot_of (t.rows key)) leaf) (write t key leaf)
write_is p a t key leaf low is = record {
  keys_low = λ k x e. low_leaf (k == key) k key p.keys x leaf (a.leaf_at k) refl low (λ f. is.keys_low k x f) e;
  leaves_are = λ k. both_leaves (k == key) leaf (a.leaf_at k) (t.rows k) (is.leaves_are k);
  spots_are = λ k v i. (
    (λ e. (let was : ((k == key) ≡ false) × (spot_of (t.rows k) ≡ In v i) = still_in (k == key) leaf (t.rows k) v i e in
        let here : a.key_at v i ≡ Some k = (is.spots_are k v i).0 was.1 in
        let off : is_at v i (spot_of (t.rows key)) ≡ false = off_unless (is_at v i (spot_of (t.rows key))) (λ on.
        (let at : a.key_at v i ≡ Some key = (is.spots_are key v i).0 (is_at-is v i (spot_of (t.rows key)) on) in
        true≢false (sym (eq-eqb k key (sym (one_key (a.key_at v i) k key here at))) ∙ was.0))) in
        ap (λ (b : Bool). cond b None (a.key_at v i)) off ∙ here)),
    (λ e. (let was : (is_at v i (spot_of (t.rows key)) ≡ false) × (a.key_at v i ≡ Some k) = emptied (is_at v i (spot_of (t.rows key))) (a.key_at v i) k e in
        let at : spot_of (t.rows k) ≡ In v i = (is.spots_are k v i).1 was.1 in
        let off : (k == key) ≡ false = off_unless (k == key) (λ on.
        true≢false (sym (at_is v i (spot_of (t.rows key)) (ap (λ (x : ℕ). spot_of (t.rows x)) (sym (eqb-true k key on)) ∙ at)) ∙ was.0)) in
        now_in (k == key) leaf (t.rows k) v i off at)),
  );
  used_is = is.used_is;
  lifted_is = is.lifted_is;
  counter_is = is.counter_is;
}

entry_leaf : (value : Option (List ℕ)) (own : Entry) → leaf_of_write value own ≡ leaf_of_entry (entry_of value own)
entry_leaf None own = refl
entry_leaf (Some v) own = refl

chosen_leaf : (b : Bool) (value : Option (List ℕ)) (own : Entry) (o : Option Entry) → cond b (leaf_of_write value own) (leaf_of_entry o) ≡ leaf_of_entry (cond b (entry_of value own) o)
chosen_leaf true value own o = entry_leaf value own
chosen_leaf false value own o = refl

chosen_low : (p : Params) (b : Bool) (value : Option (List ℕ)) (own e : Entry) (o : Option Entry) → own.leaf < 2 ^ p.levels → (o ≡ Some e → e.leaf < 2 ^ p.levels) → cond b (entry_of value own) o ≡ Some e → e.leaf < 2 ^ p.levels
chosen_low p true None own e o h g f = absurd (cc)
chosen_low p true (Some v) own e o h g f = let same : own ≡ e = cc in subst (λ (x : Entry). x.leaf < 2 ^ p.levels) same h
chosen_low p false value own e o h g f = g f

pub one_written : (p : Params) (book_old book_new : List (Option Entry)) (old new : Buckets) (rows_old rows_new : Rows) (w : Write) (own : Entry) (found : Option Found) → IsBook p book_old → own.leaf < 2 ^ p.levels → w.key < p.keys → IsAskFound p old book_old
    (Some w.key) found → IsTakenOut p old new (spot_at found) → length book_new ≡ length book_old →
    ((k : ℕ) → entry_at book_new k ≡ with_entry (λ i. entry_at book_old i) w.key (entry_of w.value own) k) → rows_new ≡ with_value rows_old w.key w.value → Writes p book_old book_new old new rows_old rows_new ((w, own) ∷ [])
one_written p book_old book_new old new rows_old rows_new w own found book leaf low at taken many entries rows = record {
  book = record {
    many = many ∙ book.many;
    leaves = λ k e is. chosen_low p (k == w.key) w.value own e (entry_at book_old k) leaf (book.leaves k e) (sym (entries k) ∙ is);
  };
  whole = taken.whole;
  seals = taken.seals;
  lifted = taken.lifted;
  entries = entries;
  values = rows;
  follows = λ c t o is.
      (let spot : spot_of (t.rows w.key) ≡ spot_at found = fetched_spot p old book_old c t (Some w.key) found o.sound is at in
      table_like p (with_written (arrays_of old (rest_of book_old c)) w.key (spot_of (t.rows w.key)) (leaf_of_write w.value own)) (arrays_of new (rest_of book_new c)) (write t w.key (leaf_of_write w.value own))
      (write_is p (arrays_of old (rest_of book_old c)) t w.key (leaf_of_write w.value own) low is)
      (λ u j. ap (λ (s : Spot). cond (is_at u j s) None (key_at (version_at old.versions u) j)) spot ∙ sym (taken.keys u j))
      (λ u j. sym (taken.used u j))
      (λ u. ap (λ (xs : List Bool). slice_index_or xs u false) (sym taken.lifted))
      (λ k. chosen_leaf (k == w.key) w.value own (entry_at book_old k) ∙ sym (ap leaf_of_entry (entries k)))
      refl);
}

-- ---- writes one after another

pub written_both : (t : FlatTable) (xs ys : List (ℕ × Option ℕ)) → after_writes t (xs ++ ys) ≡ after_writes (after_writes t xs) ys
written_both t [] ys = refl
written_both t (x ∷ xs) ys = written_both (write t x.0 x.1) xs ys

entries_both : (book : ℕ → Option Entry) (xs ys : List (Write × Entry)) → entries_after book (xs ++ ys) ≡ entries_after (entries_after book xs) ys
entries_both book [] ys = refl
entries_both book (x ∷ xs) ys = entries_both (with_entry book (x.0).key (entry_of (x.0).value x.1)) xs ys

values_both : (rows : Rows) (xs ys : List (Write × Entry)) → values_after rows (xs ++ ys) ≡ values_after (values_after rows xs) ys
values_both rows [] ys = refl
values_both rows (x ∷ xs) ys = values_both (with_value rows (x.0).key (x.0).value) xs ys

pub writes_then : (p : Params) (book_old book_mid book_new : List (Option Entry)) (old mid new : Buckets) (rows_old rows_mid rows_new : Rows) (xs ys : List (Write × Entry)) → Writes p book_old book_mid old mid rows_old rows_mid xs → Writes p book_mid book_new
    mid new rows_mid rows_new ys → Writes p book_old book_new old new rows_old rows_new (xs ++ ys)
writes_then p book_old book_mid book_new old mid new rows_old rows_mid rows_new xs ys a b =
    let split : leaf_writes (xs ++ ys) ≡ leaf_writes xs ++ leaf_writes ys = map-both (λ w. ((w.0).key, leaf_of_write (w.0).value w.1)) xs ys in
    record {
      book = b.book;
      whole = b.whole;
      seals = seals_then old mid new a.seals b.seals;
      lifted = b.lifted ∙ a.lifted;
      entries = λ k. b.entries k ∙ (λ i. entries_after (λ j. a.entries j i) ys k) ∙ sym (ap (λ (f : ℕ → Option Entry). f k) (entries_both (λ i. entry_at book_old i) xs ys));
      values = b.values ∙ ap (λ (m : Rows). values_after m ys) a.values ∙ sym (values_both rows_old xs ys);
      follows = λ c t o is. subst (λ (x : FlatTable). IsTableOf p (arrays_of new (rest_of book_new c)) x) (sym (ap (after_writes t) split ∙ written_both t (leaf_writes xs) (leaf_writes ys)))
          (b.follows c (after_writes t (leaf_writes xs)) (steps_keep_order p t (WritesStep (leaf_writes xs)) o) (a.follows c t o is));
    }

pub writes_none : (p : Params) (book : List (Option Entry)) (s : Buckets) (rows : Rows) → IsBook p book → AreWhole p s → Writes p book book s s rows rows []
writes_none p book s rows b whole = record {
  book = b;
  whole = whole;
  seals = record { homes = λ u. refl; generations = λ u. refl; bases = λ u. refl; ranks = λ u. refl; order = refl };
  lifted = refl;
  entries = λ k. refl;
  values = refl;
  follows = λ c t o is. is;
}
