-- The listed buckets are the lifted ones, each once.
use Rattle.std.specs.Prelude.{◌≡◌, ℕ, ◌+◌, ◌<◌, ◌==◌, Bool, true, false, ◌||◌, List, [], ◌∷◌, take, filter, length, slice_index_or}
use Rattle.std.proofs.Common.{zero, suc, arith, refl, sym, ap, subst, ◌∙◌, get_or}
use Rattle.std.proofs.lemmas.Bool.{true≢false, false≢true, eqb-true}
use Rattle.ob_base.specs.declared.params.Params.{Params}
use Rattle.ob_base.specs.Tree.{buckets}
use Rattle.ob_tables.specs.Buckets.{Buckets, is_lifted}
use Rattle.ob_schedule.specs.Paths.{is_one_of, by_falling_level}
use Rattle.ob_ring.specs.Arrays.{AreWhole}
use Rattle.ob_ring.proofs.Members.{IsDistinct, off_unless, one_of-filter, one_of-filter_from, distinct-filter}
use Rattle.ob_ring.proofs.Refills.{distinct_levels, of_levels, in_levels}
use Rattle.ob_ring.proofs.FillLaws.{at_member}

abbrev pub IsListed : Params → Buckets → Type 0
IsListed p s = s.order ≡ filter (λ u. is_lifted s u) (by_falling_level (p.levels + 1))

pub listed_distinct : (p : Params) (s : Buckets) → IsListed p s → IsDistinct s.order
listed_distinct p s e = subst IsDistinct (sym e) (distinct-filter (λ u. is_lifted s u) (by_falling_level (p.levels + 1)) (distinct_levels (p.levels + 1)))

pub listed_lifted : (p : Params) (s : Buckets) (u : ℕ) → IsListed p s → is_one_of s.order u ≡ true → is_lifted s u ≡ true
listed_lifted p s u e on = (one_of-filter (λ v. is_lifted s v) (by_falling_level (p.levels + 1)) u (ap (λ xs. is_one_of xs u) (sym e) ∙ on)).0

pub listed_low : (p : Params) (s : Buckets) (u : ℕ) → IsListed p s → is_one_of s.order u ≡ true → u < buckets p
unfolding buckets
listed_low p s u e on = of_levels (p.levels + 1) u (one_of-filter (λ v. is_lifted s v) (by_falling_level (p.levels + 1)) u (ap (λ xs. is_one_of xs u) (sym e) ∙ on)).1

pub listed_within : (p : Params) (s : Buckets) (order : List ℕ) (n : ℕ) → IsListed p s → order ≡ s.order → n < length s.order → get_or order n 0 < buckets p
listed_within p s order n listed same h = listed_low p s (get_or order n 0) listed (ap (λ xs. is_one_of s.order (get_or xs n 0)) same ∙ at_member s.order n h)

pub not_before : (xs : List ℕ) (n : ℕ) → IsDistinct xs → n < length xs → is_one_of (take n xs) (get_or xs n 0) ≡ false
not_before [] n d h = absurd (omega arith)
not_before (x ∷ xs) zero d h = refl
not_before (x ∷ xs) (suc n) d h =
    let off : (x == get_or xs n 0) ≡ false = off_unless (x == get_or xs n 0) (λ e. true≢false (sym (ap (is_one_of xs) (eqb-true x (get_or xs n 0) e) ∙ at_member xs n (omega arith)) ∙ d.0)) in
    (λ i. off i || not_before xs n d.1 (omega arith) i)

pub past_false : (xs : List Bool) (u : ℕ) → slice_index_or xs u false ≡ true → u < length xs
past_false [] u e = absurd (false≢true e)
past_false (x ∷ xs) zero e = omega arith
past_false (x ∷ xs) (suc u) e = omega (arith, past_false xs u e)

pub in_order : (p : Params) (s : Buckets) (u : ℕ) → AreWhole p s → IsListed p s → is_lifted s u ≡ true → is_one_of s.order u ≡ true
unfolding buckets
in_order p s u whole listed up =
    ap (λ xs. is_one_of xs u) listed ∙ one_of-filter_from (λ v. is_lifted s v) (by_falling_level (p.levels + 1)) u up (in_levels (p.levels + 1) u (omega (arith, past_false s.lifted u up, whole.marks)))
