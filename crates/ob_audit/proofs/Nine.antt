-- The nine numbers of a start line are the parameters'.
use Rattle.std.proofs.Common.{◌≡◌, ◌<◌, ◌^◌, ℕ, List, ◌∷◌, ◌++◌, Option, Some, None, sym, ap, ◌∙◌}
use Rattle.std.specs.Fmt.{decimal}
use Rattle.ob_base.specs.declared.params.Params.{Params}
use Rattle.ob_base.specs.declared.fault.Field.{Field}
use Rattle.ob_base.specs.Fields.{first_out_of_range}
use Rattle.ob_audit.specs.Spelling.{numbers_text}
use Rattle.ob_audit.proofs.Cuts.{some_inner}
use Rattle.ob_audit.proofs.Ranges.{none_out, same_params, few_numbers}

-- what three numbers before blanks are
abbrev pub ThreeOnly : List ℕ → ℕ → ℕ → ℕ → List ℕ → Type 0
ThreeOnly bytes x y z behind = (a b c : ℕ) (rest : List ℕ) → a < 2 ^ 32 → b < 2 ^ 32 → c < 2 ^ 32 → bytes ≡ decimal a ++ 32 ∷ (decimal b ++ 32 ∷ (decimal c ++ 32 ∷ rest))
    → ◌≡◌ {A = Option (ℕ × ℕ × ℕ × List ℕ)} (Some (x, y, z, behind)) (Some (a, b, c, rest))

abbrev pub LastOnly : List ℕ → ℕ → ℕ → ℕ → Type 0
LastOnly bytes x y z = (a b c : ℕ) → a < 2 ^ 32 → b < 2 ^ 32 → c < 2 ^ 32 → bytes ≡ decimal a ++ 32 ∷ (decimal b ++ 32 ∷ decimal c) → ◌≡◌ {A = Option (ℕ × ℕ × ℕ)} (Some (x, y, z)) (Some (a, b, c))

pub record AreNumbers (p : Params) (k l z s b q w e t : ℕ) : Type 0 where
  pub keys : k ≡ p.keys
  pub levels : l ≡ p.levels
  pub real : z ≡ p.real
  pub dummies : s ≡ p.dummies
  pub batches : b ≡ p.batches
  pub places : q ≡ p.places
  pub writes : w ≡ p.writes
  pub evictions : e ≡ p.evictions
  pub room : t ≡ p.room

four_same : (x y z a b c : ℕ) (xs ys : List ℕ) → ◌≡◌ {A = Option (ℕ × ℕ × ℕ × List ℕ)} (Some (x, y, z, xs)) (Some (a, b, c, ys)) → (x ≡ a) × (y ≡ b) × (z ≡ c) × (xs ≡ ys)
four_same x y z a b c xs ys same =
    let inner = some_inner {A = ℕ × ℕ × ℕ × List ℕ} (x, y, z, xs) (a, b, c, ys) same in
    (ap (λ (p : ℕ × ℕ × ℕ × List ℕ). p.0) inner, ap (λ (p : ℕ × ℕ × ℕ × List ℕ). p.1) inner, ap (λ (p : ℕ × ℕ × ℕ × List ℕ). p.2) inner, ap (λ (p : ℕ × ℕ × ℕ × List ℕ). p.3) inner)

three_same : (x y z a b c : ℕ) → ◌≡◌ {A = Option (ℕ × ℕ × ℕ)} (Some (x, y, z)) (Some (a, b, c)) → (x ≡ a) × (y ≡ b) × (z ≡ c)
three_same x y z a b c same =
    let inner = some_inner {A = ℕ × ℕ × ℕ} (x, y, z) (a, b, c) same in
    (ap (λ (p : ℕ × ℕ × ℕ). p.0) inner, ap (λ (p : ℕ × ℕ × ℕ). p.1) inner, ap (λ (p : ℕ × ℕ × ℕ). p.2) inner)

pub are_numbers : (p : Params) (k l z s b q w e t : ℕ) (bytes first second : List ℕ) → ThreeOnly bytes k l z first → ThreeOnly first s b q second → LastOnly second w e t → bytes ≡ numbers_text p → AreNumbers p k l z s b q w e t
are_numbers p k l z s b q w e t bytes first second one two three is =
    let few = few_numbers p in
    let rest : List ℕ = decimal p.writes ++ 32 ∷ (decimal p.evictions ++ 32 ∷ decimal p.room) in
    let mid : List ℕ = decimal p.dummies ++ 32 ∷ (decimal p.batches ++ 32 ∷ (decimal p.places ++ 32 ∷ rest)) in
    let x = four_same k l z p.keys p.levels p.real first mid (one p.keys p.levels p.real mid few.0 few.1 few.2 is) in
    let y = four_same s b q p.dummies p.batches p.places second rest (two p.dummies p.batches p.places rest few.3 few.4 few.5 x.3) in
    let v = three_same w e t p.writes p.evictions p.room (three p.writes p.evictions p.room few.6 few.7 few.8 y.3) in
    record { keys = x.0; levels = x.1; real = x.2; dummies = y.0; batches = y.1; places = y.2; writes = v.0; evictions = v.1; room = v.2 }

-- numbers of parameters in range aren't refused
pub never_out : (p : Params) (k l z s b q w e t : ℕ) (field : Field) → AreNumbers p k l z s b q w e t → first_out_of_range k l z s b q w e t ≡ Some field → ⊥
never_out p k l z s b q w e t field n out =
    let same : first_out_of_range k l z s b q w e t ≡ first_out_of_range p.keys p.levels p.real p.dummies p.batches p.places p.writes p.evictions p.room =
    (λ i. first_out_of_range (n.keys i) (n.levels i) (n.real i) (n.dummies i) (n.batches i) (n.places i) (n.writes i) (n.evictions i) (n.room i)) in
    let none : ◌≡◌ {A = Option Field} None (Some field) = sym (none_out p) ∙ sym same ∙ out in
    absurd (cc)

-- parameters that were made of these numbers
pub made_same : (p o : Params) (k l z s b q w e t : ℕ) → AreNumbers p k l z s b q w e t → (o.keys ≡ k) × (o.levels ≡ l) × (o.real ≡ z) × (o.dummies ≡ s) × (o.batches ≡ b) × (o.places ≡ q) × (o.writes ≡ w) × (o.evictions ≡ e) × (o.room ≡ t) → o ≡ p
made_same p o k l z s b q w e t n m =
    same_params o p (m.0 ∙ n.keys) (m.1 ∙ n.levels) (m.2 ∙ n.real) (m.3 ∙ n.dummies) (m.4 ∙ n.batches) (m.5 ∙ n.places) (m.6 ∙ n.writes) (m.7 ∙ n.evictions) (m.8 ∙ n.room)
