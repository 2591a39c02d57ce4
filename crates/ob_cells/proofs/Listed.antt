-- A run's cells in a list, and its seals.
use Rattle.std.proofs.Common.{◌≡◌, ℕ, zero, suc, ◌+◌, ◌<◌, ◌≤◌, ◌^◌, List, [], ◌∷◌, length, get_or, refl, ap, ◌∙◌, sym, subst, arith}
use Rattle.ob_seal.specs.declared.keys.Keys.{Keys}
use Rattle.ob_seal.specs.Pieces.{onward}
use Rattle.ob_seal.specs.Seals.{sealed}
use Rattle.ob_seal.specs.Sealing.{Sealing}
use Rattle.ob_store.specs.Disk.{Disk, Image}
use Rattle.ob_store.specs.Images.{SameOff, Passes}
use Rattle.ob_store.proofs.Runs.{Writing}
use Rattle.ob_cells.specs.Runs.{AreSealed, run_at}

-- the first n of a row
abbrev pub listed : (ℕ → List ℕ) → ℕ → List (List ℕ)
listed f zero = []
listed f (suc n) = f 0 ∷ listed (λ i. f (suc i)) n

pub length-listed : (f : ℕ → List ℕ) (n : ℕ) → length (listed f n) ≡ n
length-listed f zero = refl
length-listed f (suc n) = ap suc (length-listed (λ i. f (suc i)) n)

pub get_or-listed : (f : ℕ → List ℕ) (n i : ℕ) → i < n → get_or (listed f n) i [] ≡ f i
get_or-listed f zero i lt = absurd (omega arith)
get_or-listed f (suc n) zero lt = refl
get_or-listed f (suc n) (suc i) lt = get_or-listed (λ j. f (suc j)) n i (omega arith)

pub onward_low : (n i : ℕ) → n + i < 2 ^ 64 → onward n i ≡ n + i
onward_low n i lt = omega arith

-- the i-th cell of a run that is sealed now
abbrev pub sealed_row : Keys → ℕ → ℕ → ℕ → (ℕ → List ℕ) → ℕ → List ℕ
sealed_row keys base generation number plain i = sealed keys (base + i) generation (number + i) (plain i)

abbrev pub sealed_rows : Sealing → ℕ → ℕ → (ℕ → List ℕ) → List (List ℕ)
sealed_rows sealer base many plain = listed (sealed_row sealer.keys base sealer.generation sealer.next plain) many

-- a cell sealed as many seals on
pub sealed_at : (before was : Sealing) (base many i : ℕ) (plain : ℕ → List ℕ) (bytes : List ℕ) → i < many → was.keys ≡ before.keys → was.generation ≡ before.generation → was.next ≡ before.next + i → bytes ≡ plain i
    → sealed was.keys (base + i) was.generation was.next bytes ≡ get_or (sealed_rows before base many plain) i []
sealed_at before was base many i plain bytes lt keys generation next is =
    ap (λ (k : Keys). sealed k (base + i) was.generation was.next bytes) keys ∙ ap (λ x. sealed before.keys (base + i) x was.next bytes) generation
    ∙ ap (λ x. sealed before.keys (base + i) before.generation x bytes) next ∙ ap (λ x. sealed before.keys (base + i) before.generation (before.next + i) x) is
    ∙ sym (get_or-listed (sealed_row before.keys base before.generation before.next plain) many i lt)

module _ (before : Sealing) (base many : ℕ) (plain : ℕ → List ℕ) where
  pub length-rows : length (sealed_rows before base many plain) ≡ many
  length-rows = length-listed (sealed_row before.keys base before.generation before.next plain) many

  pub rest_of : (a b : Image) → SameOff base (length (sealed_rows before base many plain)) a b → SameOff base many a b
  rest_of a b same = subst (λ k. SameOff base k a b) length-rows same

  pub passes_of : (old new : Disk) → Passes (SameOff base (length (sealed_rows before base many plain))) old new → Passes (SameOff base many) old new
  passes_of old new passes = subst (λ k. Passes (SameOff base k) old new) length-rows passes

  -- all of them are written
  pub whole_of : (i : ℕ) (old new : Disk) → many ≤ i → before.next + many ≤ 2 ^ 62 → Writing base (sealed_rows before base many plain) i old new → old.tells
      → AreSealed before.keys base many before.generation before.next plain (run_at base new.cells)
  whole_of i old new all fits so_far tells j lt =
      so_far.here tells j (omega arith) ∙ get_or-listed (sealed_row before.keys base before.generation before.next plain) many j lt
      ∙ ap (λ x. sealed before.keys (base + j) before.generation x (plain j)) (sym (onward_low before.next j (omega arith)))
