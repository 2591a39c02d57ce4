-- The map that the entries of a hash map make.
use Rattle.std.proofs.Common.{◌≡◌, ℕ, List, [], ◌∷◌, Option, Some, nat_cmp, nat_eq, refl, sym, ap, ap₂, ◌∙◌, cond}
use Rattle.std.specs.Cmp.{nat_cmp_total, unsigned_tied}
use Rattle.std.specs.Ordering.{eq_by_cmp}
use Rattle.std.specs.Map.{lookup}
use Rattle.std.specs.FinMap.{get, find, insert, from_entries, get-from_entries, get-insert, same_map, nat_cmp-IsAntisymmetric}
use Rattle.std.proofs.lemmas.Cmp.{nat_eq_equiv}

module _ {X : Type 0} where
  find_value : (es : List (ℕ × X)) (q : ℕ) → find nat_cmp q es ≡ lookup (nat_eq q) es
  find_value [] q = refl
  find_value (e ∷ es) q = ap₂ (λ b (r : Option X). cond b (Some e.1) r) (unsigned_tied q e.0) (find_value es q)

  pub get_value : (es : List (ℕ × X)) (q : ℕ) → get (from_entries {R = nat_cmp} es) q ≡ lookup (nat_eq q) es
  get_value es q = get-from_entries nat_cmp_total es q ∙ find_value es q

  -- a key that has another value
  pub one_put : (es fs : List (ℕ × X)) (k : ℕ) (v : X) → ((q : ℕ) → lookup (nat_eq q) fs ≡ cond (nat_eq k q) (Some v) (lookup (nat_eq q) es)) → from_entries {R = nat_cmp} fs ≡ insert (from_entries es) k v
  one_put es fs k v h = same_map nat_cmp_total nat_cmp-IsAntisymmetric _ _ (λ q.
      get_value fs q ∙ h q ∙ ap (λ b. cond b (Some v) (lookup (nat_eq q) es)) (nat_eq_equiv.symm k q ∙ sym (unsigned_tied q k))
      ∙ sym (get-insert nat_cmp_total (from_entries es) k v q ∙ ap (cond (eq_by_cmp nat_cmp q k) (Some v)) (get_value es q)))
