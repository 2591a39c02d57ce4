-- A book is the map of the keys that are present.
use Rattle.std.proofs.Common.{◌≡◌, ◌≢◌, ◌⊎◌, ⊎_elim, ℕ, zero, suc, ◌+◌, ◌<◌, List, [], ◌∷◌, Option, Some, None, length, refl, sym, ◌∙◌, ap, cond, arith, get_or-set_same, get_or-set_other}
use Rattle.std.specs.Prelude.{replicate, slice_set}
use Rattle.std.proofs.lemmas.Bool.{cases_eq}
use Rattle.std.specs.Ordering.{nat_cmp, eq_by_cmp}
use Rattle.std.specs.Cmp.{nat_cmp_total}
use Rattle.std.specs.FinMap.{find, get, from_entries, get-from_entries, get-insert, get-remove, get-empty, same_map, nat_cmp-IsAntisymmetric}
use Rattle.ob_tables.specs.declared.entry.Entry.{Entry}
use Rattle.ob_tables.specs.Kept.{entry_at}
use Rattle.ob_tables.specs.BookMap.{present_from, map_of, BooksAreMaps}
use Rattle.ob_tables.proofs.RowLaws.{ties, differs}

-- keys before the first are not present
none_before : (q k : ℕ) (es : List (Option Entry)) → q < k → find nat_cmp q (present_from k es) ≡ None
none_before q k [] lt = refl
none_before q k (None ∷ es) lt = none_before q (k + 1) es (omega arith)
none_before q k (Some e ∷ es) lt = rw (differs q k (omega arith)) (none_before q (k + 1) es (omega arith))

-- the key at a place
found_at : (k : ℕ) (es : List (Option Entry)) (i q : ℕ) → q ≡ k + i → find nat_cmp q (present_from k es) ≡ entry_at es i
found_at k [] i q is = refl
found_at k (None ∷ es) zero q is = none_before q (k + 1) es (omega arith)
found_at k (None ∷ es) (suc i) q is = found_at (k + 1) es i q (omega arith)
found_at k (Some e ∷ es) zero q is = let same : q ≡ k = omega arith in rw (same, ties k) refl
found_at k (Some e ∷ es) (suc i) q is = rw (differs q k (omega arith)) (found_at (k + 1) es i q (omega arith))

pub get_of : (book : List (Option Entry)) (q : ℕ) → get (map_of book) q ≡ entry_at book q
get_of book q = get-from_entries nat_cmp_total (present_from 0 book) q ∙ found_at 0 book q q (omega arith)

same_or_not : (q k : ℕ) → (q ≡ k) ⊎ (q ≢ k)
same_or_not q k = cases_eq q k

set_one : (book : List (Option Entry)) (k q : ℕ) (e : Entry) → k < length book → entry_at (slice_set book k (Some e)) q ≡ cond (eq_by_cmp nat_cmp q k) (Some e) (entry_at book q)
set_one book k q e lt = ⊎_elim
    (λ (same : q ≡ k). rw (same, ties k) (get_or-set_same book k (Some e) None lt))
    (λ (other : q ≢ k). rw (differs q k other) (get_or-set_other book k q (Some e) None other))
    (same_or_not q k)

forget_one : (book : List (Option Entry)) (k q : ℕ) → k < length book → entry_at (slice_set book k None) q ≡ cond (eq_by_cmp nat_cmp q k) None (entry_at book q)
forget_one book k q lt = ⊎_elim
    (λ (same : q ≡ k). rw (same, ties k) (get_or-set_same book k None None lt))
    (λ (other : q ≢ k). rw (differs q k other) (get_or-set_other book k q None None other))
    (same_or_not q k)

none_present : (k n : ℕ) → present_from k (replicate n None) ≡ []
none_present k zero = refl
none_present k (suc n) = none_present (k + 1) n

pub books_are_maps : BooksAreMaps
books_are_maps = record {
  none = λ n. same_map nat_cmp_total nat_cmp-IsAntisymmetric _ _ (λ q. ap (λ (es : List (ℕ × Entry)). get (from_entries {R = nat_cmp} es) q) (none_present 0 n) ∙ get-from_entries nat_cmp_total [] q ∙ sym (get-empty nat_cmp q));
  get = λ book k. sym (get_of book k);
  set = λ book k e lt. same_map nat_cmp_total nat_cmp-IsAntisymmetric _ _ (λ q. get_of (slice_set book k (Some e)) q ∙ set_one book k q e lt
      ∙ sym (get-insert nat_cmp_total (map_of book) k e q ∙ ap (cond (eq_by_cmp nat_cmp q k) (Some e)) (get_of book q)));
  forget = λ book k lt. same_map nat_cmp_total nat_cmp-IsAntisymmetric _ _ (λ q. get_of (slice_set book k None) q ∙ forget_one book k q lt
      ∙ sym (get-remove nat_cmp_total (map_of book) k q ∙ ap (cond (eq_by_cmp nat_cmp q k) None) (get_of book q)));
}
