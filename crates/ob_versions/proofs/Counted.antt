-- How many keys have versions, by the works.
use Rattle.std.proofs.Common.{◌≡◌, ℕ, zero, suc, ◌-◌, ◌≤◌, Bool, true, false, not, ◌&&◌, ◌==◌, nat_lt, if◌then◌else◌, List, length, Option, Some, option_map, is_some, refl, sym, ap, ◌∙◌, subst, ⊎_elim, arith}
use Rattle.std.proofs.lemmas.Bool.{cases_eq, cases_lt, lt-ltb, le-ltb}
use Rattle.std.proofs.lemmas.Option.{none-some}
use Rattle.std.specs.HashMap as hash
use Rattle.ob_order.specs.Works.{Work, version, newest}
use Rattle.ob_order.specs.Order.{count_below, is_written, is_other_written}
use Rattle.ob_order.proofs.Counts.{count_same}
use Rattle.ob_order.proofs.Newest.{by_option, newest_own, newest_lower, held_goes}
use Rattle.ob_order.proofs.Steps.{goes_on_range}
use Rattle.ob_key_versions.specs.declared.chain.Chain.{Chain}
use Rattle.ob_key_versions.specs.Tables.{link_at, has_links}
use Rattle.ob_key_versions.proofs.Counted.{bit, beside, count_out, count_in, links_none, links_some}
use Rattle.ob_versions.specs.Index.{IsIndex}
use Rattle.ob_versions.proofs.Indexed.{none_newest}

newest_has : (ws : List Work) (s n k : ℕ) (x : Option (List ℕ)) → version ws s k ≡ Some x → s ≤ n → is_some (newest ws n k) ≡ true
newest_has ws s zero k x e l = absurd (none-some x (subst (λ q. version ws q k ≡ Some x) (let z : s ≡ 0 = omega arith in z) e))
newest_has ws s (suc n) k x e l = by_option (version ws (suc n) k)
    (λ none. ap is_some (newest_lower ws n k none) ∙ ⊎_elim
    (λ same. absurd (none-some x (sym none ∙ subst (λ q. version ws q k ≡ Some x) same e)))
    (λ other. newest_has ws s n k x e (omega arith))
    (cases_eq s (suc n)))
    (λ y own. ap is_some (newest_own ws n k y own))

pub written_is : {S : Type 0} (ws : List Work) (m : hash.HashMap ℕ Chain S) (base : ℕ → ℕ) → IsIndex ws (λ k t. link_at m k t) base → (k : ℕ) → has_links m k ≡ is_written ws k
written_is ws m base h k = step (has_links m k) refl
  where
    step : (b : Bool) → has_links m k ≡ b → has_links m k ≡ is_written ws k
    step true e =
        let f = links_some m k e in
        let held : version ws f.0 k ≡ Some f.1.value = sym (h.versions k f.0) ∙ ap (option_map (λ l. l.value)) f.2 in
        e ∙ sym (newest_has ws f.0 (length ws) k f.1.value held (goes_on_range ws f.0 (held_goes ws f.0 k f.1.value held)).1)
    step false e = e ∙ sym (ap is_some (none_newest ws (length ws) k (λ q l. sym (h.versions k q) ∙ ap (option_map (λ l. l.value)) (links_none m k e q))))

-- how many other keys have versions
pub others_counted : {S : Type 0} (ws : List Work) (m : hash.HashMap ℕ Chain S) (base : ℕ → ℕ) → IsIndex ws (λ k t. link_at m k t) base → (k n : ℕ)
    → count_below (is_other_written ws k) n ≡ count_below (has_links m) n - (if nat_lt k n && has_links m k then 1 else 0)
others_counted ws m base h k n =
    let same : count_below (is_other_written ws k) n ≡ count_below (λ j. beside (has_links m) k j) n = count_same (λ j. beside (has_links m) k j) (is_other_written ws k) n (λ j. ap (λ b. not (j == k) && b) (sym (written_is ws m base h j))) in
    ⊎_elim
    (λ l.
    let i = count_in (has_links m) k n l in
    let b : bit (nat_lt k n && has_links m k) ≡ bit (has_links m k) = ap (λ x. bit (x && has_links m k)) (lt-ltb k n l) in
    same ∙ omega (arith, i, b))
    (λ l.
    let o = count_out (has_links m) k n l in
    let b : bit (nat_lt k n && has_links m k) ≡ 0 = ap (λ x. bit (x && has_links m k)) (outside l) in
    same ∙ omega (arith, o, b))
    (cases_lt k n)
  where
    outside : n ≤ k → nat_lt k n ≡ false
    outside l = le-ltb k n l
