-- The first broken rule of two parts.
use Rattle.std.specs.Prelude.{◌≡◌, Bool, true, false, List, [], ◌∷◌, ◌++◌, Option, Some, None, if◌then◌else◌}
use Rattle.std.proofs.Common.{refl, sym, ap, ◌∙◌}
use Rattle.ob_cells.specs.Rules.{Rule, first_broken, or_rule}

if_or : (b : Bool) (x y : Option Rule) (r : Rule) → (if b then or_rule x y else Some r) ≡ or_rule (if b then x else Some r) y
if_or true x y r = refl
if_or false x y r = refl

pub first_append : (xs ys : List Rule) → first_broken (xs ++ ys) ≡ or_rule (first_broken xs) (first_broken ys)
first_append [] ys = refl
first_append (r ∷ xs) ys = ap (λ (o : Option Rule). if r.obeys then o else Some r) (first_append xs ys) ∙ if_or r.obeys (first_broken xs) (first_broken ys) r

pub or_none : (a b : Option Rule) → or_rule a b ≡ None → (a ≡ None) × (b ≡ None)
or_none None b e = (refl, e)
or_none (Some r) b e = absurd (some≢none e)
  where
    some≢none : {r : Rule} → Some r ≡ None → ⊥
    some≢none e = cc

-- the first part keeps all of its rules
pub kept_then : (xs ys : List Rule) → first_broken xs ≡ None → first_broken (xs ++ ys) ≡ first_broken ys
kept_then xs ys e = first_append xs ys ∙ ap (λ (o : Option Rule). or_rule o (first_broken ys)) e

-- one of them is broken
pub broken_then : (xs ys : List Rule) (r : Rule) → first_broken xs ≡ Some r → first_broken (xs ++ ys) ≡ Some r
broken_then xs ys r e = first_append xs ys ∙ ap (λ (o : Option Rule). or_rule o (first_broken ys)) e

pub both_none : (xs ys : List Rule) → first_broken (xs ++ ys) ≡ None → (first_broken xs ≡ None) × (first_broken ys ≡ None)
both_none xs ys e = or_none (first_broken xs) (first_broken ys) (sym (first_append xs ys) ∙ e)
