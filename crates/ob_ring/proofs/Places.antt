-- The place of each key.
use Rattle.std.specs.Prelude.{◌≡◌, ℕ, ◌+◌, ◌==◌, Bool, true, false, cond, List, [], ◌∷◌, Option}
use Rattle.std.specs.declared.option.Option.TheVariants.{None, Some}
use Rattle.std.proofs.Common.{refl, ap, ◌∙◌}
use Rattle.std.proofs.lemmas.Bool.{eqb-true}
use Rattle.ob_base.specs.declared.params.Params.{Params}
use Rattle.ob_base.specs.Tree.{below}
use Rattle.ob_schedule.specs.Paths.{by_falling_level}
use Rattle.ob_ring.specs.FlatTable.{FlatTable, Row, fills, refill_order}
use Rattle.ob_ring.proofs.Members.{distinct-filter}
use Rattle.ob_ring.proofs.Refills.{distinct_levels}
use Rattle.ob_ring.specs.Passing.{HasLeaves, goes_to, one_more, next_place, place_among, place_in_pass, none_taken, put_to}
use Rattle.ob_ring.proofs.Passes.{goes_in, put_in, passed, fills_passed}
use Rattle.ob_ring.proofs.Levels.{deepest}

put_next : (o : Option ℕ) (taken : ℕ → ℕ) (r : Option Row) → put_in o taken r ≡ put_to (next_place o taken) r
put_next None taken r = refl
put_next (Some u) taken r = refl

passed_places : (p : Params) (t : FlatTable) (taken : ℕ → ℕ) (ks : List ℕ) (j : ℕ) → HasLeaves p t → passed p (refill_order p t) t.rows taken ks j ≡ put_to (place_among p t taken ks j) (t.rows j)
passed_places p t taken [] j leaves = refl
passed_places p t taken (k ∷ ks) j leaves =
    let goes : goes_in p (refill_order p t) taken (t.rows k) ≡ goes_to p t.lifted taken (t.rows k) = deepest p t taken (t.rows k) (leaves k) in
    (λ i. cond (k == j) (put_in (goes i) taken (t.rows k)) (passed p (refill_order p t) t.rows (one_more (goes i) taken) ks j))
    ∙ by (k == j) refl (passed_places p t (one_more (goes_to p t.lifted taken (t.rows k)) taken) ks j leaves)
  where
    o : Option ℕ
    o = goes_to p t.lifted taken (t.rows k)

    by : (b : Bool) → (k == j) ≡ b → passed p (refill_order p t) t.rows (one_more o taken) ks j ≡ put_to (place_among p t (one_more o taken) ks j) (t.rows j) →
        cond b (put_in o taken (t.rows k)) (passed p (refill_order p t) t.rows (one_more o taken) ks j) ≡ put_to (cond b (next_place o taken) (place_among p t (one_more o taken) ks j)) (t.rows j)
    by true e rest = put_next o taken (t.rows k) ∙ ap (λ (x : ℕ). put_to (next_place o taken) (t.rows x)) (eqb-true k j e)
    by false e rest = rest

pub fills_place : (p : Params) (t : FlatTable) → HasLeaves p t → (k : ℕ) → (fills p t (refill_order p t)).rows k ≡ put_to (place_in_pass p t k) (t.rows k)
fills_place p t leaves k =
    fills_passed p t (refill_order p t) k (distinct-filter t.lifted (by_falling_level (p.levels + 1)) (distinct_levels (p.levels + 1)))
    ∙ passed_places p t none_taken (below p.keys) k leaves
