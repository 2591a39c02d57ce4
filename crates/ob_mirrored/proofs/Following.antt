-- What both halves of a mirror were asked for, from when it was lent to when it came back.
use Rattle.std.proofs.Common.{◌≡◌, ℕ, List, ◌∷◌, subst}
use Rattle.std.specs.Borrow.{GName}
use Rattle.ob_store.specs.declared.event.Event.{Event}
use Rattle.ob_store.specs.Disk.{Disk}
use Rattle.ob_mirror.specs.Begun.{half_before}
use Rattle.ob_mirror.specs.Telling.{Follows}
use Rattle.ob_mirror.proofs.Once.{follows_of_one}

-- The mirror that came back is the one that was lent: so its halves were then what these were.
pub over_follows : {A B : Type 0} (one : A → Disk) (two : B → Disk) (made : List Event) (x y v w : GName) (lent_first then_first now_first : A) (lent_second then_second now_second : B) (a c : A) (b d : B) (s t : List ℕ)
    → ◌≡◌ {A = List ℕ} (v ∷ w ∷ half_before (one then_first) (half_before (two then_second) s)) (x ∷ y ∷ half_before (one lent_first) (half_before (two lent_second) t))
    → ∥ Follows made (one then_first) (one now_first) (two then_second) (two now_second) ∥₁ → lent_first ≡ a → lent_second ≡ b → now_first ≡ c → now_second ≡ d → Follows made (one a) (one c) (two b) (two d)
over_follows one two made x y v w lent_first then_first now_first lent_second then_second now_second a c b d s t same follows first_is second_is first_left second_left =
    let begun = follows_of_one made v w x y (one then_first) (one lent_first) (one now_first) (two then_second) (two lent_second) (two now_second) s t same follows in
    subst (λ z. Follows made (one a) (one c) (two z) (two d)) second_is (subst (λ z. Follows made (one z) (one c) (two lent_second) (two d)) first_is
    (subst (λ z. Follows made (one lent_first) (one c) (two lent_second) (two z)) second_left (subst (λ z. Follows made (one lent_first) (one z) (two lent_second) (two now_second)) first_left begun)))
