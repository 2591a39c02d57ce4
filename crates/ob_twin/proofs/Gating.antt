-- What is known of the gates.
use Rattle.std.proofs.Common.{replicate, ◌≡◌, ◌⊎◌, inl, inr, ⊎_elim, ℕ, ◌+◌, ◌%◌, Bool, true, false, IsTrue, not, ◌↔◌, List, ◌||◌, refl, ap, sym, ◌∙◌, subst, arith}
use Rattle.std.proofs.lemmas.Bool.{cases_eq}
use Rattle.ob_store.specs.Disk.{Image}
use Rattle.ob_twin.specs.declared.gates.Gates.{Gates}
use Rattle.ob_twin.specs.declared.gates.Open.{Open}
use Rattle.ob_twin.specs.declared.twin.Twin.{Twin}
use Rattle.ob_twin.specs.declared.twin.Twin.TheVariants.{GENERATION, EPOCH}
use Rattle.ob_twin.specs.Bodies.{Tagging, open_gate, closed_gate}
use Rattle.ob_twin.specs.Register.{first_of, body_at, gate_at, place_of, IsOpen, StandsAt, SameTwo}
use Rattle.ob_twin.proofs.Moves.{closed-isnt-open}
use Rattle.ob_twin.specs.Opening.{known_of, with_known, with_mark, is_closed_first, GatesAre}

either : (n : ℕ) → (n % 2 ≡ 0) ⊎ (n % 2 ≡ 1)
either n = ⊎_elim (λ e. inl e) (λ ne. inr (omega arith)) (cases_eq (n % 2) 0)

-- a gate that isn't closed first is closed
closed_at : (known : Open) (first : ℕ) (image : Image) (place : ℕ) → (place ≡ 0) ⊎ (place ≡ 1) → GatesAre known first image → (IsTrue (is_closed_first known place) → ⊥) → IsOpen first image place → ⊥
closed_at known first image place (inl e) are refuses opened = refuses (rw e (marked known.zero known.one (are.zero.1 (subst (λ p. IsOpen first image p) e opened))))
  where
    marked : (a b : Bool) → IsTrue a → IsTrue (a || not (a || b))
    marked true b t = refl
    marked false b t = absurd (let wrong : false ≡ true = t in cc)
closed_at known first image place (inr e) are refuses opened = refuses (rw e (marked known.zero known.one (are.one.1 (subst (λ p. IsOpen first image p) e opened))))
  where
    marked : (a b : Bool) → IsTrue b → IsTrue (b || not (a || b))
    marked a true t = refl
    marked a false t = absurd (let wrong : false ≡ true = t in cc)

pub closed_of : (known : Open) (first n : ℕ) (image : Image) → GatesAre known first image → (IsTrue (is_closed_first known (place_of n)) → ⊥) → IsOpen first image (place_of n) → ⊥
closed_of known first n image are = closed_at known first image (n % 2) (either n) are

-- a gate that is closed first is open, where the register stands at a number
open_at : (known : Open) (first : ℕ) (image : Image) (place other : ℕ) → ((place ≡ 0) × (other ≡ 1)) ⊎ ((place ≡ 1) × (other ≡ 0)) → GatesAre known first image → IsOpen first image other → IsTrue (is_closed_first known place) → IsOpen first image place
open_at known first image place other (inl e) are stands closes =
    subst (λ p. IsOpen first image p) (sym e.0) (are.zero.0 (marked known.zero known.one (are.one.1 (subst (λ p. IsOpen first image p) e.1 stands)) (rw e.0 at closes)))
  where
    marked : (a b : Bool) → IsTrue b → IsTrue (a || not (a || b)) → IsTrue a
    marked true b t y = refl
    marked false true t y = y
    marked false false t y = t
open_at known first image place other (inr e) are stands closes =
    subst (λ p. IsOpen first image p) (sym e.0) (are.one.0 (marked known.zero known.one (are.zero.1 (subst (λ p. IsOpen first image p) e.1 stands)) (rw e.0 at closes)))
  where
    marked : (a b : Bool) → IsTrue a → IsTrue (b || not (a || b)) → IsTrue b
    marked a true t y = refl
    marked true false t y = y
    marked false false t y = t

pub open_of : (tag : Tagging) (known : Open) (first m n : ℕ) (image : Image) → n ≡ m + 1 → GatesAre known first image → StandsAt tag first image m → IsTrue (is_closed_first known (place_of n)) → IsOpen first image (place_of n)
open_of tag known first m n image next are stands = open_at known first image (n % 2) (m % 2) apart are stands.open_at
  where
    apart : ((n % 2 ≡ 0) × (m % 2 ≡ 1)) ⊎ ((n % 2 ≡ 1) × (m % 2 ≡ 0))
    apart = ⊎_elim (λ e. inl (e, omega arith)) (λ e. inr (e, omega arith)) (either n)

-- once the gate of a place is open
are_after : (known : Open) (first : ℕ) (old new : Image) (place : ℕ) → (place ≡ 0) ⊎ (place ≡ 1) → GatesAre known first old → SameTwo (body_at first place) (gate_at first place) new old → IsOpen first new place → GatesAre (with_mark known place) first new
are_after known first old new place (inl e) are same opened =
    let other : new (gate_at first 1) ≡ old (gate_at first 1) = same (gate_at first 1) (omega arith) (omega arith) in
    rw e (record { zero = ((λ _. subst (λ p. IsOpen first new p) e opened), (λ _. refl)); one = ((λ t. other ∙ are.one.0 t), (λ o. are.one.1 (sym other ∙ o))) })
are_after known first old new place (inr e) are same opened =
    let other : new (gate_at first 0) ≡ old (gate_at first 0) = same (gate_at first 0) (omega arith) (omega arith) in
    rw e (record { zero = ((λ t. other ∙ are.zero.0 t), (λ o. are.zero.1 (sym other ∙ o))); one = ((λ _. subst (λ p. IsOpen first new p) e opened), (λ _. refl)) })

pub are_marked : (known : Open) (first n : ℕ) (old new : Image) → GatesAre known first old → SameTwo (body_at first (place_of n)) (gate_at first (place_of n)) new old → IsOpen first new (place_of n) → GatesAre (with_mark known (place_of n)) first new
are_marked known first n old new are same opened = are_after known first old new (n % 2) (either n) are same opened

-- cells of zeros have no open gate: nothing is known to be open, and nothing is
pub none_are : (first : ℕ) (image : Image) → ((place : ℕ) → IsOpen first image place → ⊥) → GatesAre (record { zero = false; one = false }) first image
none_are first image shut = record {
  zero = ((λ t. let wrong : false ≡ true = t in cc), (λ o. absurd (shut 0 o)));
  one = ((λ t. let wrong : false ≡ true = t in cc), (λ o. absurd (shut 1 o)));
}

-- in cells of zeros no gate is open
pub none_told : (known : Open) (first : ℕ) (image : Image) → known ≡ record { zero = false; one = false } → ((k : ℕ) → image k ≡ replicate 128 0) → GatesAre known first image
unfolding closed_gate
none_told known first image is blank =
    subst (λ (o : Open). GatesAre o first image) (sym is) (none_are first image (λ place opened. closed-isnt-open (sym (blank (gate_at first place)) ∙ opened)))

-- what is known of a register is what was put there
pub known_again : (twin : Twin) (gates : Gates) (known : Open) → known_of twin (with_known twin gates known) ≡ known
known_again GENERATION gates known = refl
known_again EPOCH gates known = refl

-- nothing else is told of the gates
pub told_alone : (twin : Twin) (old new : Gates) (known : Open) → new ≡ with_known twin old known → new ≡ with_known twin old (known_of twin new)
told_alone twin old new known is = is ∙ ap (λ (o : Open). with_known twin old o) (sym (ap (λ (gates : Gates). known_of twin gates) is ∙ known_again twin old known))

pub told_nothing : (twin : Twin) (gates : Gates) → gates ≡ with_known twin gates (known_of twin gates)
told_nothing GENERATION gates = refl
told_nothing EPOCH gates = refl

-- what was read of both gates of a register is so
pub are_read : (twin : Twin) (old new : Gates) (first : ℕ) (image : Image) (zero one : Bool) (a b : List ℕ) → first ≡ first_of twin → new ≡ with_known twin old (record { zero = zero; one = one })
    → a ≡ image (gate_at first 0) → b ≡ image (gate_at first 1) → (IsTrue zero ↔ a ≡ open_gate) → (IsTrue one ↔ b ≡ open_gate) → (known : Open) × (new ≡ with_known twin old known) × GatesAre known (first_of twin) image
are_read twin old new first image zero one a b first_is is at_zero at_one opens_zero opens_one = (
  record { zero = zero; one = one },
  is,
  subst (λ f. GatesAre (record { zero = zero; one = one }) f image) first_is (record {
    zero = ((λ t. sym at_zero ∙ opens_zero.0 t), (λ o. opens_zero.1 (at_zero ∙ o)));
    one = ((λ t. sym at_one ∙ opens_one.0 t), (λ o. opens_one.1 (at_one ∙ o)));
  }),
)
