-- Two runners of the tests.
use Rattle.std.proofs.Common.{◌≡◌, ◌≤◌, ℕ, All, List, [], ◌∷◌, sym, ap, subst, ◌∙◌, arith}
use Rattle.std.proofs.lemmas.List.Elements.{All-nil, All-cons, All-weaker}
use Rattle.ob_hall.specs.Passes.{Steps}
use Rattle.ob_serve_tests.specs.Pairs.{IsNewPair, AreTwo}

module _ {U : Type 0} (client bound : U → ℕ) (fits : U → Steps → Type 0) (runners : List U) where
  pub two_are : (a b : U) → runners ≡ a ∷ b ∷ [] → IsNewPair client bound fits 1 a → IsNewPair client bound fits 2 b → AreTwo client bound fits runners
  two_are a b are first second = subst (AreTwo client bound fits) (sym are) (record {
    named = ap (λ (n : ℕ). n ∷ client b ∷ []) first.named ∙ ap (λ (n : ℕ). 1 ∷ n ∷ []) second.named;
    below = All-cons (λ u. bound u ≤ 8) a (b ∷ []) first.below (All-cons (λ u. bound u ≤ 8) b [] second.below (All-nil (λ u. bound u ≤ 8)));
    unsaid = All-cons (λ u. fits u []) a (b ∷ []) first.unsaid (All-cons (λ u. fits u []) b [] second.unsaid (All-nil (λ u. fits u [])));
  })

  pub below_all : (keys : ℕ) → keys ≡ 8 → AreTwo client bound fits runners → All (λ u. bound u ≤ keys) runners
  below_all keys is two = All-weaker (λ u. bound u ≤ 8) (λ u. bound u ≤ keys) (λ u low. omega (arith, low, is)) runners two.below
