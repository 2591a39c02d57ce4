-- Cells as far as they are copied.
use Rattle.std.proofs.Common.{◌≡◌, ◌⊎◌, inl, inr, ◌≤◌, ◌<◌, ℕ, ◌+◌, List, [], ◌∷◌, Option, Ok, refl, sym, ◌∙◌, subst, arith, below_more, map}
use Rattle.ob_store.specs.declared.event.Event.{Event}
use Rattle.ob_store.specs.declared.event.Event.TheVariants.{Write}
use Rattle.ob_store.specs.Disk.{Disk}
use Rattle.ob_store.specs.Images.{Elapses, Passes, SameBut, SameOff, Tears}
use Rattle.ob_store.specs.Calls.{GoesOn, Serves, IsFailed, Notes, NotesFirst}
use Rattle.ob_store.proofs.Events.{joined, none_noted}
use Rattle.ob_store.proofs.Moments.{passed_none, passed_on, run_step}
use Rattle.ob_store.proofs.Runs.{run_next, length_run, take_run}
use Rattle.ob_store.proofs.Serving.{goes_same, goes_then}
use Rattle.ob_store.specs.Runs.{from_on}
use Rattle.ob_mirror.specs.Joins.{cell_writes}

-- the second half, as far as cells of the first are copied to it
pub record Copying (cells i : ℕ) (first old now : Disk) : Type 0 where
  pub goes : GoesOn old now
  pub tells : old.tells → now.tells
  pub here : first.tells → old.tells → (k : ℕ) → k < i → now.cells k ≡ first.cells k
  pub elsewhere : old.tells → SameOff 0 cells now.cells old.cells
  pub passes : Passes (SameOff 0 cells) old now
  pub out : now.out ≡ 0
  pub writes : Notes (cell_writes i) old.seen now.seen

pub copying_none : (cells : ℕ) (first d : Disk) → d.out ≡ 0 → Copying cells 0 first d d
copying_none cells first d none = record {
  goes = goes_same d;
  tells = λ t. t;
  here = λ s t k lt. absurd (omega arith);
  elsewhere = λ t k off. refl;
  passes = passed_none d (SameOff 0 cells) (λ c k off. refl);
  out = none;
  writes = none_noted d.seen;
}

from_zero : (i : ℕ) → i ≡ 0 + i
from_zero i = omega arith

-- a row of events over rising cells, one more
pub row_next : (f : ℕ → Event) (i : ℕ) (a b c : Option (List Event)) → Notes (map f (from_on 0 i)) a b → Notes (f i ∷ []) b c → Notes (map f (from_on 0 (i + 1))) a c
row_next f i a b c so_far one = subst (λ (es : List Event). Notes es a c) (sym (run_next f 0 i)) (joined (map f (from_on 0 i)) (f (0 + i) ∷ []) a b c so_far (subst (λ (n : ℕ). Notes (f n ∷ []) b c) (from_zero i) one))

-- a shorter row is the front of a longer one
pub row_first : (f : ℕ → Event) (n i : ℕ) (a b : Option (List Event)) → i ≤ n → Notes (map f (from_on 0 i)) a b → NotesFirst (map f (from_on 0 n)) a b
row_first f n i a b le notes = (i, omega (arith, le, length_run f 0 n), subst (λ (es : List Event). Notes es a b) (sym (take_run f 0 n i le)) notes)

away : (n i k : ℕ) → i < n → (k < 0) ⊎ (0 + n ≤ k) → (k ≡ i) → ⊥
away n i k lt (inl low) is = omega arith
away n i k lt (inr high) is = omega arith

module _ (cells i : ℕ) (first old mid new : Disk) (lt : i < cells) (so_far : Copying cells i first old mid) where
  pub passes_one : GoesOn mid new → Tears i mid new → Elapses mid new → (mid.tells → SameBut i new.cells mid.cells) → Passes (SameOff 0 cells) old new
  passes_one goes tears time rest =
      passed_on (SameOff 0 cells) (SameBut i) old mid new (λ c d e one run. run_step 0 cells i c d e lt (subst (λ (n : ℕ). SameBut n c d) (from_zero i) one) run) so_far.passes goes time tears rest

  pub elsewhere_one : (mid.tells → SameBut i new.cells mid.cells) → old.tells → SameOff 0 cells new.cells old.cells
  elsewhere_one rest t k off = rest (so_far.tells t) k (away cells i k lt off) ∙ so_far.elsewhere t k off

  pub copied_one : (bytes : List ℕ) → (first.tells → bytes ≡ first.cells i) → Serves {T = Unit {0}} IsFailed mid new (Ok tt) → (mid.tells → new.cells i ≡ bytes) → (mid.tells → SameBut i new.cells mid.cells) → Tears i mid new → Elapses mid new
      → Notes (Write i ∷ []) mid.seen new.seen → Copying cells (i + 1) first old new
  copied_one bytes read serves put rest tears time seen = record {
    goes = goes_then old mid new so_far.goes serves.goes;
    tells = λ t. serves.tells (so_far.tells t);
    here = λ s t. below_more (λ k. new.cells k ≡ first.cells k) i (λ k below. rest (so_far.tells t) k (λ is. omega arith) ∙ so_far.here s t k below) (put (so_far.tells t) ∙ read s);
    elsewhere = elsewhere_one rest;
    passes = passes_one serves.goes tears time rest;
    out = (let none = so_far.out in let still = serves.out in omega arith);
    writes = row_next (λ k. Write k) i old.seen mid.seen new.seen so_far.writes seen;
  }
