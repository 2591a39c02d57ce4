-- Elements of lists, and lists without repeats.
use Rattle.std.specs.Prelude.{◌≡◌, ◌⊎◌, List, [], ◌∷◌}

abbrev pub Has : {A : Type 0} → List A → A → Type 0
Has [] x = ⊥
Has (y ∷ ys) x = (y ≡ x) ⊎ Has ys x

abbrev pub NoRepeats : {A : Type 0} → List A → Type 0
NoRepeats [] = Unit {0}
NoRepeats (x ∷ xs) = (Has xs x → ⊥) × NoRepeats xs
