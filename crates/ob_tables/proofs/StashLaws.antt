-- The map that rows in rising order make.
use Rattle.std.specs.Prelude.{◌≡◌, ℕ, Bool, true, false, cond, not, List, [], None, length}
use Rattle.std.specs.Ordering.{nat_cmp, eq_by_cmp}
use Rattle.std.specs.Cmp.{nat_cmp_total, eq_by_cmp_equiv}
use Rattle.std.specs.FinMap.{FinMap, get, len, entries, insert, remove, empty, from_sorted, find, put, get-from_sorted, entries-from_sorted, entries-insert, len-entries, same_entries_map, get-remove, get-empty, same_map, nat_cmp-IsAntisymmetric}
use Rattle.std.specs.FinMap.Entries.{is_sorted-put, is_sorted-where_key, find-where_key}
use Rattle.std.proofs.Common.{refl, sym, ap, ◌∙◌}
use Rattle.ob_tables.specs.Rows.{Rises, rows_but}

abbrev pub map_of : List (ℕ × List ℕ) → FinMap nat_cmp (List ℕ)
map_of rows = from_sorted {R = nat_cmp} rows

pub entries_of : (es : List (ℕ × List ℕ)) → Rises es → entries (map_of es) ≡ es
entries_of es r = entries-from_sorted nat_cmp es r

pub len_of : (es : List (ℕ × List ℕ)) → Rises es → len (map_of es) ≡ length es
len_of es r = len-entries (map_of es) ∙ ap length (entries_of es r)

pub get_of : (es : List (ℕ × List ℕ)) (q : ℕ) → Rises es → get (map_of es) q ≡ find nat_cmp q es
get_of es q r = get-from_sorted nat_cmp es q r

pub map_empty : map_of [] ≡ empty
map_empty = same_map nat_cmp_total nat_cmp-IsAntisymmetric (map_of []) empty (λ q. get_of [] q tt ∙ sym (get-empty nat_cmp q))

pub rises_put : (k : ℕ) (v : List ℕ) (es : List (ℕ × List ℕ)) → Rises es → Rises (put nat_cmp k v es)
rises_put k v es r = is_sorted-put nat_cmp nat_cmp_total k v es r

pub rises_but : (k : ℕ) (es : List (ℕ × List ℕ)) → Rises es → Rises (rows_but k es)
rises_but k es r = is_sorted-where_key nat_cmp (λ x. not (eq_by_cmp nat_cmp k x)) es r

pub map_put : (k : ℕ) (v : List ℕ) (es : List (ℕ × List ℕ)) → Rises es → map_of (put nat_cmp k v es) ≡ insert (map_of es) k v
map_put k v es r = same_entries_map (map_of (put nat_cmp k v es)) (insert (map_of es) k v)
    (entries_of (put nat_cmp k v es) (rises_put k v es r) ∙ sym (entries-insert nat_cmp_total (map_of es) k v ∙ ap (put nat_cmp k v) (entries_of es r)))

other_way : {X : Type 0} (b : Bool) (x y : X) → cond (not b) x y ≡ cond b y x
other_way true x y = refl
other_way false x y = refl

pub map_but : (k : ℕ) (es : List (ℕ × List ℕ)) → Rises es → map_of (rows_but k es) ≡ remove (map_of es) k
map_but k es r = same_map nat_cmp_total nat_cmp-IsAntisymmetric (map_of (rows_but k es)) (remove (map_of es) k) (λ q.
    get_of (rows_but k es) q (rises_but k es r)
    ∙ find-where_key nat_cmp (λ x. not (eq_by_cmp nat_cmp k x)) q (λ x e. ap (λ (n : ℕ). not (eq_by_cmp nat_cmp k n)) (sym (nat_cmp-IsAntisymmetric q x e))) es
    ∙ other_way (eq_by_cmp nat_cmp k q) (find nat_cmp q es) None
    ∙ ap (λ (b : Bool). cond b None (find nat_cmp q es)) ((eq_by_cmp_equiv nat_cmp_total).symm k q)
    ∙ sym (get-remove nat_cmp_total (map_of es) k q ∙ ap (cond (eq_by_cmp nat_cmp q k) None) (get_of es q r)))
