-- Members of a list, and rows that lie in the stash.
use Rattle.std.specs.Prelude.{◌≡◌, ℕ, ◌<◌, ◌==◌, true, false, List, [], ◌∷◌, replicate, length, Option, slice_index_or}
use Rattle.std.specs.declared.option.Option.TheVariants.{None, Some}
use Rattle.std.proofs.Common.{zero, suc, arith, refl, sym, ap, ◌∙◌, get_or}
use Rattle.std.proofs.lemmas.Bool.{true≢false, false≢true, eq-eqb, or_left, or_right, and_parts}
use Rattle.ob_base.specs.declared.params.Params.{Params}
use Rattle.ob_schedule.specs.Paths.{is_one_of}
use Rattle.ob_ring.specs.FlatTable.{Row, Spot, InStash, In, spot_of, is_stash, can_go}
use Rattle.ob_ring.proofs.Members.{IsDistinct}

pub at_member : (xs : List ℕ) (i : ℕ) → i < length xs → is_one_of xs (get_or xs i 0) ≡ true
at_member [] i h = absurd (omega arith)
at_member (x ∷ xs) zero h = or_left (x == x) (is_one_of xs x) (eq-eqb x x refl)
at_member (x ∷ xs) (suc i) h = or_right (x == get_or xs i 0) (is_one_of xs (get_or xs i 0)) (at_member xs i (omega arith))

pub distinct_at : (xs : List ℕ) (i m : ℕ) → IsDistinct xs → i < length xs → m < length xs → get_or xs i 0 ≡ get_or xs m 0 → i ≡ m
distinct_at [] i m d h g e = absurd (omega arith)
distinct_at (x ∷ xs) zero zero d h g e = refl
distinct_at (x ∷ xs) zero (suc m) d h g e = absurd (true≢false (sym (ap (is_one_of xs) e ∙ at_member xs m (omega arith)) ∙ d.0))
distinct_at (x ∷ xs) (suc i) zero d h g e = absurd (true≢false (sym (ap (is_one_of xs) (sym e) ∙ at_member xs i (omega arith)) ∙ d.0))
distinct_at (x ∷ xs) (suc i) (suc m) d h g e = ap suc (distinct_at xs i m d.1 (omega arith) (omega arith) e)

pub stash_spot : (s : Spot) → is_stash s ≡ true → s ≡ InStash
stash_spot InStash e = refl
stash_spot (In u j) e = absurd (false≢true e)

pub go_stash : (p : Params) (u : ℕ) (r : Option Row) → can_go p u r ≡ true → spot_of r ≡ InStash
go_stash p u None e = refl
go_stash p u (Some r) e = stash_spot r.spot (and_parts (is_stash r.spot) _ e).0

pub none_used : (n j : ℕ) → slice_index_or (replicate n false) j false ≡ false
none_used zero j = refl
none_used (suc n) zero = refl
none_used (suc n) (suc j) = none_used n j
