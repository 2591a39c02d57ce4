-- The map that sorted entries make.
use Rattle.std.proofs.Common.{◌≡◌, ℕ, List, [], ◌∷◌, Option, Some, None, refl, sym, ap, ◌∙◌, cond}
use Rattle.std.specs.Ordering.{nat_cmp}
use Rattle.std.specs.Cmp.{nat_cmp_total, eq_by_cmp_equiv}
use Rattle.std.specs.BTreeMap.{is_at}
use Rattle.std.specs.Map.{lookup}
use Rattle.std.specs.FinMap.{get, find, insert, remove, from_entries, get-from_entries, get-insert, get-remove, same_map, nat_cmp-IsAntisymmetric}

-- what the entries have at a key
abbrev pub value_at : List (ℕ × List ℕ) → ℕ → Option (List ℕ)
value_at entries key = lookup (is_at (nat_cmp key)) entries

find_value : (es : List (ℕ × List ℕ)) (q : ℕ) → find nat_cmp q es ≡ value_at es q
find_value [] q = refl
find_value (e ∷ es) q = ap (cond (is_at (nat_cmp q) e.0) (Some e.1)) (find_value es q)

pub get_value : (es : List (ℕ × List ℕ)) (q : ℕ) → get (from_entries {R = nat_cmp} es) q ≡ value_at es q
get_value es q = get-from_entries nat_cmp_total es q ∙ find_value es q

pub one_put : (es fs : List (ℕ × List ℕ)) (k : ℕ) (v : List ℕ) → ((q : ℕ) → value_at fs q ≡ cond (is_at (nat_cmp k) q) (Some v) (value_at es q)) → from_entries {R = nat_cmp} fs ≡ insert (from_entries es) k v
one_put es fs k v h = same_map nat_cmp_total nat_cmp-IsAntisymmetric _ _ (λ q.
    get_value fs q ∙ h q ∙ ap (λ b. cond b (Some v) (value_at es q)) ((eq_by_cmp_equiv nat_cmp_total).symm k q)
    ∙ sym (get-insert nat_cmp_total (from_entries es) k v q ∙ ap (cond (is_at (nat_cmp q) k) (Some v)) (get_value es q)))

pub one_gone : (es fs : List (ℕ × List ℕ)) (k : ℕ) → ((q : ℕ) → value_at fs q ≡ cond (is_at (nat_cmp k) q) None (value_at es q)) → from_entries {R = nat_cmp} fs ≡ remove (from_entries es) k
one_gone es fs k h = same_map nat_cmp_total nat_cmp-IsAntisymmetric _ _ (λ q.
    get_value fs q ∙ h q ∙ ap (λ b. cond b None (value_at es q)) ((eq_by_cmp_equiv nat_cmp_total).symm k q)
    ∙ sym (get-remove nat_cmp_total (from_entries es) k q ∙ ap (cond (is_at (nat_cmp q) k) None) (get_value es q)))
