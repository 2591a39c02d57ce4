-- How many keys have versions, by the chains.
use Rattle.std.proofs.Common.{◌≡◌, ℕ, zero, suc, ◌+◌, ◌<◌, ◌≤◌, Bool, true, false, not, ◌&&◌, ◌==◌, nat_lt, if◌then◌else◌, List, [], ◌∷◌, length, Option, None, Some, option_map, option_and_then, unwrap_or, cond, refl, sym, ap, ap₂, ◌∙◌, ⊎_elim, arith, eq-eqb, ne_eqb}
use Rattle.std.proofs.lemmas.Bool.{cases_eq, cases_lt, false≢true, lt-ltb}
use Rattle.std.specs.Ordering.{nat_cmp, is_eq}
use Rattle.std.specs.Cmp.{nat_cmp_is}
use Rattle.std.specs.declared.cmp.Ordering.TheVariants.{Equal}
use Rattle.std.specs.Map.{lookup}
use Rattle.std.specs.BTreeMap as tree
use Rattle.std.specs.HashMap as hash
use Rattle.ob_order.specs.Order.{count_below}
use Rattle.ob_order.proofs.Counts.{count_same}
use Rattle.ob_key_versions.specs.Chains.{Link, Chain, link_in, links_in}
use Rattle.ob_key_versions.specs.Tables.{chain_at, link_at, has_links}

-- ---- one key beside the others

abbrev pub bit : Bool → ℕ
bit b = if b then 1 else 0

abbrev pub beside : (ℕ → Bool) → ℕ → ℕ → Bool
beside p k j = not (j == k) && p j

pub count_out : (p : ℕ → Bool) (k n : ℕ) → n ≤ k → count_below (λ j. beside p k j) n ≡ count_below p n
count_out p k zero l = refl
count_out p k (suc n) l = ap₂ (λ (c : ℕ) (b : Bool). c + (if b then 1 else 0)) (count_out p k n (omega arith)) (ap (λ b. not b && p n) (ne_eqb n k (λ e. absurd (omega arith))))

pub count_in : (p : ℕ → Bool) (k n : ℕ) → k < n → count_below (λ j. beside p k j) n + (if p k then 1 else 0) ≡ count_below p n
count_in p k zero l = absurd (omega arith)
count_in p k (suc n) l = ⊎_elim
    (λ same.
    let out = count_out p k n (omega arith) in
    let gone : bit (beside p k n) ≡ 0 = ap (λ b. bit (not b && p n)) (eq-eqb n k same) in
    let here : bit (p k) ≡ bit (p n) = ap (λ j. bit (p j)) (sym same) in
    omega (arith, out, gone, here))
    (λ other.
    let low = count_in p k n (omega arith) in
    let alike : bit (beside p k n) ≡ bit (p n) = ap (λ b. bit (not b && p n)) (ne_eqb n k other) in
    omega (arith, low, alike))
    (cases_eq n k)

beside_same : (p q : ℕ → Bool) (k n : ℕ) → ((j : ℕ) → (k ≡ j → ⊥) → q j ≡ p j) → count_below (λ j. beside q k j) n ≡ count_below (λ j. beside p k j) n
beside_same p q k n h = count_same (λ j. beside p k j) (λ j. beside q k j) n (λ j. ⊎_elim
    (λ same. ap (λ b. not b && q j) (eq-eqb j k same) ∙ sym (ap (λ b. not b && p j) (eq-eqb j k same)))
    (λ other. ap (λ b. not (j == k) && b) (h j (λ e. other (sym e))))
    (cases_eq j k))

-- where only key k's test changed
pub count_moved : (p q : ℕ → Bool) (k n : ℕ) → ((j : ℕ) → (k ≡ j → ⊥) → q j ≡ p j) → k < n → count_below q n + (if p k then 1 else 0) ≡ count_below p n + (if q k then 1 else 0)
count_moved p q k n h l = let a = count_in p k n l in let b = count_in q k n l in let c = beside_same p q k n h in omega (arith, a, b, c)

pub count_stays : (p q : ℕ → Bool) (k n : ℕ) → ((j : ℕ) → (k ≡ j → ⊥) → q j ≡ p j) → n ≤ k → count_below q n ≡ count_below p n
count_stays p q k n h l = sym (count_out q k n l) ∙ (beside_same p q k n h ∙ count_out p k n l)

-- ---- who has versions

none_in : (es : List (ℕ × Link)) (t : ℕ) → length es ≡ 0 → lookup (tree.is_at (nat_cmp t)) es ≡ None
none_in [] t e = refl
none_in (x ∷ es) t e = absurd (omega arith)

some_in : (es : List (ℕ × Link)) → 0 < length es → (t : ℕ) × (l : Link) × (lookup (tree.is_at (nat_cmp t)) es ≡ Some l)
some_in [] e = absurd (omega arith)
some_in (x ∷ es) e = (x.0, x.1, ap (λ o. cond (is_eq o) (Some x.1) (lookup (tree.is_at (nat_cmp x.0)) es)) (sym (nat_cmp_is x.0 x.0 Equal refl)))

pub links_none : {S : Type 0} (m : hash.HashMap ℕ Chain S) (k : ℕ) → has_links m k ≡ false → (t : ℕ) → link_at m k t ≡ None
links_none m k e t = step (chain_at m k) e
  where
    step : (o : Option Chain) → unwrap_or (option_map (λ c. nat_lt 0 (links_in c)) o) false ≡ false → option_and_then (λ c. link_in c t) o ≡ None
    step None e = refl
    step (Some c) e = ⊎_elim
        (λ l. absurd (false≢true (sym e ∙ lt-ltb 0 (links_in c) l)))
        (λ l. none_in c.links.entries t (let z : links_in c ≡ 0 = omega arith in z))
        (cases_lt 0 (links_in c))

pub links_some : {S : Type 0} (m : hash.HashMap ℕ Chain S) (k : ℕ) → has_links m k ≡ true → (t : ℕ) × (l : Link) × (link_at m k t ≡ Some l)
links_some m k e = step (chain_at m k) e
  where
    step : (o : Option Chain) → unwrap_or (option_map (λ c. nat_lt 0 (links_in c)) o) false ≡ true → (t : ℕ) × (l : Link) × (option_and_then (λ c. link_in c t) o ≡ Some l)
    step None e = absurd (false≢true e)
    step (Some c) e = ⊎_elim
        (λ l. some_in c.links.entries l)
        (λ l. absurd (false≢true (sym (none l) ∙ e)))
        (cases_lt 0 (links_in c))
      where
        none : links_in c ≤ 0 → nat_lt 0 (links_in c) ≡ false
        none l = ap (nat_lt 0) (let z : links_in c ≡ 0 = omega arith in z)
