-- A register is told by its four cells alone.
use Rattle.std.proofs.Common.{◌≡◌, ℕ, ◌+◌, ◌%◌, ◌<◌, ◌≤◌, List, sym, ◌∙◌, ap, subst, arith}
use Rattle.ob_store.specs.Disk.{Image}
use Rattle.ob_twin.specs.Bodies.{Tagging, IsStamped, number_of}
use Rattle.ob_twin.specs.Register.{body_at, gate_at, place_of, StandsAt}
use Rattle.ob_twin.specs.Opening.{GatesAre}
use Rattle.ob_twin.specs.declared.gates.Open.{Open}

-- a register stands where its four cells are the same
pub register_moved : (tag : Tagging) (first n : ℕ) (c d : Image) → ((k : ℕ) → first ≤ k → k < first + 4 → c k ≡ d k) → StandsAt tag first d n → StandsAt tag first c n
register_moved tag first n c d same stands =
    let g : c (gate_at first (n % 2)) ≡ d (gate_at first (n % 2)) = same _ (omega arith) (omega arith) in
    let b : c (body_at first (n % 2)) ≡ d (body_at first (n % 2)) = same _ (omega arith) (omega arith) in
    let og : c (gate_at first ((n + 1) % 2)) ≡ d (gate_at first ((n + 1) % 2)) = same _ (omega arith) (omega arith) in
    let ob : c (body_at first ((n + 1) % 2)) ≡ d (body_at first ((n + 1) % 2)) = same _ (omega arith) (omega arith) in
    record {
      small = stands.small;
      open_at = g ∙ stands.open_at;
      stamped = subst (λ (l : List ℕ). IsStamped tag (body_at first (n % 2)) l) (sym b) stands.stamped;
      number = ap number_of b ∙ stands.number;
      other = λ opened. subst (λ (l : List ℕ). IsStamped tag (body_at first ((n + 1) % 2)) l × (number_of l ≤ n) × (place_of (number_of l) ≡ (n + 1) % 2)) (sym ob) (stands.other (sym og ∙ opened));
    }

-- what is known of gates holds where they are the same
pub gates_moved : (known : Open) (first : ℕ) (c d : Image) → ((k : ℕ) → first ≤ k → k < first + 4 → c k ≡ d k) → GatesAre known first d → GatesAre known first c
gates_moved known first c d same are =
    let zero : c (gate_at first 0) ≡ d (gate_at first 0) = same _ (omega arith) (omega arith) in
    let one : c (gate_at first 1) ≡ d (gate_at first 1) = same _ (omega arith) (omega arith) in
    record {
      zero = ((λ yes. zero ∙ are.zero.0 yes), (λ opened. are.zero.1 (sym zero ∙ opened)));
      one = ((λ yes. one ∙ are.one.0 yes), (λ opened. are.one.1 (sym one ∙ opened)));
    }
