-- Two pieces, of which the second may be cut.
use Rattle.std.proofs.Common.{◌≡◌, ◌≤◌, ℕ, ◌+◌, List, ◌++◌, Option, Result, Ok, Err, take, length, ◌∙◌, ap, sym, refl, subst, arith, length-append}
use Rattle.std.specs.Prelude.{OnOk}
use Rattle.std.proofs.Math.Seq.{take-append-add}
use Rattle.std.proofs.lemmas.List.{take-append-le}
use Rattle.ob_io.specs.Flows.{appended}
use Rattle.ob_io.proofs.Pieces.{appended-again}

-- a front of the bytes was written
abbrev pub WritesFront : Option (List ℕ) → Option (List ℕ) → List ℕ → Type 0
WritesFront old new bytes = (n : ℕ) × (n ≤ length bytes) × (new ≡ appended old (take n bytes))

pub front_same : (old new : Option (List ℕ)) (a b : List ℕ) → a ≡ b → WritesFront old new a → WritesFront old new b
front_same old new a b e f = subst (λ (bytes : List ℕ). WritesFront old new bytes) e f

-- some of the first piece
pub front_of_first : (old new : Option (List ℕ)) (a b : List ℕ) → WritesFront old new a → WritesFront old new (a ++ b)
front_of_first old new a b f =
    let n = f.0 in
    let le : n ≤ length a = f.1 in
    let front : take n (a ++ b) ≡ take n a = rw take-append-le refl in
    (n, omega (arith, length-append a b), f.2 ∙ ap (λ (l : List ℕ). appended old l) (sym front))

-- the first piece, and some of the second
pub front_of_both : (old mid new : Option (List ℕ)) (a b : List ℕ) → mid ≡ appended old a → WritesFront mid new b → WritesFront old new (a ++ b)
front_of_both old mid new a b first second =
    let m = second.0 in
    let le = second.1 in
    let is = second.2 in
    (length a + m, omega (arith, length-append a b), is ∙ rw first (appended-again old a (take m b)) ∙ ap (λ (l : List ℕ). appended old l) (sym (take-append-add a b m)))

-- both pieces
pub all_of_both : {T E : Type 0} (result : Result T E) (old mid new : Option (List ℕ)) (a b : List ℕ) → mid ≡ appended old a → OnOk result (new ≡ appended mid b) → OnOk result (new ≡ appended old (a ++ b))
all_of_both (Ok x) old mid new a b first second = second ∙ ap (λ (o : Option (List ℕ)). appended o b) first ∙ appended-again old a b
all_of_both (Err e) old mid new a b first second = tt
