-- Shown labels, with one more.
use Rattle.std.specs.Prelude.{◌≡◌, ℕ, ◌==◌, Bool, true, false, ◌&&◌, cond, List, [], ◌∷◌, ◌++◌, Option, Some, None, option_map}
use Rattle.std.specs.Option.{option_or}
use Rattle.std.specs.List.{find}
use Rattle.std.proofs.Common.{refl, ap, ◌∙◌, subst}
use Rattle.std.proofs.lemmas.Bool.{eqb-true, and_parts}
use Rattle.std.proofs.lemmas.List.Folds.{find-append}
use Rattle.ob_wants.specs.declared.seen.SeenLabel.{SeenLabel}
use Rattle.ob_wants.specs.Seen.{label_shown}

nothing_found : {A : Type 0} (f : A → ℕ) (o : Option A) → option_map f o ≡ None → o ≡ None
nothing_found f None e = refl
nothing_found f (Some x) e = absurd (cc)

-- what is found with one more behind, where it wasn't found before
found_behind : {A : Type 0} (f : A → ℕ) (o : Option A) (t : Bool) (x : A) → (t ≡ true → o ≡ None) → option_map f (option_or o (cond t (Some x) None)) ≡ cond t (Some (f x)) (option_map f o)
found_behind f None true x none = refl
found_behind f None false x none = refl
found_behind f (Some y) true x none = let e : Some y ≡ None = none refl in absurd (cc)
found_behind f (Some y) false x none = refl

both_same : (P : ℕ → ℕ → Type 0) (a b c d : ℕ) → ((a == c) && (b == d)) ≡ true → P a b → P c d
both_same P a b c d is here =
    let parts : ((a == c) ≡ true) × ((b == d) ≡ true) = and_parts (a == c) (b == d) is in
    subst (λ (x : ℕ). P x d) (eqb-true a c parts.0) (subst (λ (y : ℕ). P a y) (eqb-true b d parts.1) here)

pub labels_more : (labels : List SeenLabel) (batch place leaf : ℕ) → label_shown labels batch place ≡ None
    → label_shown (labels ++ record { batch = batch; place = place; leaf = leaf } ∷ []) ≡ λ b i. cond ((batch == b) && (place == i)) (Some leaf) (label_shown labels b i)
labels_more labels batch place leaf none = λ j b i.
    (ap (option_map (λ (seen : SeenLabel). seen.leaf)) (find-append (λ (seen : SeenLabel). (seen.batch == b) && (seen.place == i)) labels (record { batch = batch; place = place; leaf = leaf } ∷ []))
    ∙ found_behind (λ (seen : SeenLabel). seen.leaf) (find (λ (seen : SeenLabel). (seen.batch == b) && (seen.place == i)) labels) ((batch == b) && (place == i)) (record { batch = batch; place = place; leaf = leaf })
    (λ is. both_same (λ c k. find (λ (seen : SeenLabel). (seen.batch == c) && (seen.place == k)) labels ≡ None) batch place b i is (nothing_found (λ (seen : SeenLabel). seen.leaf) (find (λ (seen : SeenLabel). (seen.batch == batch) && (seen.place == place)) labels) none))) j
