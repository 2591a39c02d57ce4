-- What is claimed of a round, where all of it is.
use Rattle.std.proofs.Common.{◌≡◌, ℕ, ◌+◌, ◌<◌, ◌≤◌, Bool, cond, List, [], ◌∷◌, ◌++◌, refl, ap, ◌∙◌, arith, ne_eqb}
use Rattle.ob_base.specs.Tree.{below}
use Rattle.ob_claims.specs.ClaimRule.{times}
use Rattle.ob_claims.proofs.Counts.{times_append, times_one, below_once}

pub all_found : (start count counter place : ℕ) (claimed now : List ℕ) → now ≡ claimed → ((x : ℕ) → times x claimed ≡ times x (below counter)) → start + count ≤ counter → place < count → times (start + place) now ≡ 1
all_found start count counter place claimed now same once past lt = ap (times (start + place)) same ∙ once (start + place) ∙ below_once (start + place) counter (omega (arith, past, lt))

-- one number more, behind the round's end, is none of the round
pub all_found_before : (start count counter place : ℕ) (claimed now : List ℕ) → now ≡ claimed ++ counter ∷ [] → ((x : ℕ) → times x claimed ≡ times x (below counter)) → start + count ≤ counter → place < count → times (start + place) now ≡ 1
all_found_before start count counter place claimed now more once past lt =
    let x : ℕ = start + place in
    let all : times x claimed ≡ 1 = all_found start count counter place claimed claimed refl once past lt in
    let other : times x (counter ∷ []) ≡ 0 = times_one x counter ∙ ap (λ (b : Bool). cond b 1 0) (ne_eqb counter x (λ e. omega (arith, e, past, lt))) in
    let whole : times x now ≡ times x claimed + times x (counter ∷ []) = ap (times x) more ∙ times_append x claimed (counter ∷ []) in
    omega (arith, all, other, whole)
