-- A run of cells as far as it is written.
use Rattle.std.proofs.Common.{◌≡◌, ◌≢◌, ◌⊎◌, inl, inr, ⊎_elim, ◌-◌, ℕ, zero, suc, ◌+◌, ◌<◌, ◌≤◌, List, [], ◌∷◌, ◌++◌, length, get_or, refl, sym, ◌∙◌, ap, arith, below_more, add-one, take, map, length-append, Option, Ok}
use Rattle.std.proofs.lemmas.Bool.{cases_eq}
use Rattle.std.proofs.lemmas.List.{take-append-le, take_all}
use Rattle.ob_store.specs.Disk.{Disk}
use Rattle.ob_store.specs.Images.{Elapses, Passes, SameBut, SameOff, Tears}
use Rattle.ob_store.specs.Calls.{GoesOn, Serves, IsFailed}
use Rattle.ob_store.specs.declared.watch.Note.TheVariants.{Write}
use Rattle.ob_store.specs.Lines.{Trace}
use Rattle.ob_store.specs.Runs.{write_notes, from_on}
use Rattle.ob_store.proofs.Moments.{passed_none, passed_on, run_step}
use Rattle.ob_store.proofs.Serving.{goes_same, goes_then}
use Rattle.ob_store.specs.declared.event.Event.{Event}
use Rattle.ob_store.specs.Told.{Tells, TellsFirst}
use Rattle.ob_store.proofs.Doing.{tells_then}

-- so many rows are written
pub record Writing (base : ℕ) (rows : List (List ℕ)) (i : ℕ) (old now : Disk) : Type 0 where
  pub goes : GoesOn old now
  pub tells : old.tells → now.tells
  pub here : old.tells → (j : ℕ) → j < i → now.cells (base + j) ≡ get_or rows j []
  pub elsewhere : old.tells → SameOff base (length rows) now.cells old.cells
  pub passes : Passes (SameOff base (length rows)) old now
  pub out : now.out ≡ 0

pub begun : (base : ℕ) (rows : List (List ℕ)) (d : Disk) → d.out ≡ 0 → Writing base rows 0 d d
begun base rows d none = record {
  goes = goes_same d;
  tells = λ t. t;
  here = λ t j lt. absurd (omega arith);
  elsewhere = λ t k off. refl;
  passes = passed_none d (SameOff base (length rows)) (λ c k off. refl);
  out = none;
}

map_push : {X : Type 0} (f : ℕ → X) (xs : List ℕ) (y : ℕ) → map f (xs ++ y ∷ []) ≡ map f xs ++ f y ∷ []
map_push f [] y = refl
map_push f (x ∷ xs) y = ap (λ (l : List _). f x ∷ l) (map_push f xs y)

module _ {X : Type 0} (f : ℕ → X) (base : ℕ) where
  pub run_next : (i : ℕ) → map f (from_on base (i + 1)) ≡ map f (from_on base i) ++ f (base + i) ∷ []
  run_next i = ap (λ n. map f (from_on base n)) (add-one i) ∙ map_push f (from_on base i) (base + i)

  pub length_run : (n : ℕ) → length (map f (from_on base n)) ≡ n
  length_run zero = refl
  length_run (suc n) =
      ap length (sym (ap (λ n. map f (from_on base n)) (add-one n)) ∙ run_next n) ∙ length-append (map f (from_on base n)) (f (base + n) ∷ []) ∙ (let e = length_run n in omega arith)

  -- the first of a run are those of a shorter one
  pub take_run : (n i : ℕ) → i ≤ n → take i (map f (from_on base n)) ≡ map f (from_on base i)
  take_run zero i le = let none : i ≡ 0 = omega arith in rw none refl
  take_run (suc n) i le =
      let long = length_run n in
      let next = sym (ap (λ n. map f (from_on base n)) (add-one n)) ∙ run_next n in
      ⊎_elim
      (λ whole. let e : i ≡ suc n = omega arith in rw e (take_all (suc n) (map f (from_on base (suc n))) (omega (arith, length_run (suc n)))))
      (λ part. ap (λ (l : List X). take i l) next ∙ take-append-le i (map f (from_on base n)) (f (base + n) ∷ []) (omega (arith, long, part)) ∙ take_run n i (omega (arith, part)))
      (last i n le)
    where
      last : (j m : ℕ) → j ≤ suc m → (j ≡ suc m) ⊎ (j ≤ m)
      last j m small = ⊎_elim (λ e. inl (omega arith)) (λ n. inr (omega arith)) (cases_eq (suc m - j) 0)

away : (base n i j : ℕ) → i < n → (j < base) ⊎ (base + n ≤ j) → j ≢ base + i
away base n i j lt (inl low) = omega arith
away base n i j lt (inr high) = omega arith

module _ (base : ℕ) (rows : List (List ℕ)) (i : ℕ) (old mid new : Disk) (lt : i < length rows) (so_far : Writing base rows i old mid) where
  pub passes_one : GoesOn mid new → Tears (base + i) mid new → Elapses mid new → (mid.tells → SameBut (base + i) new.cells mid.cells) → Passes (SameOff base (length rows)) old new
  passes_one goes tears time rest =
      passed_on (SameOff base (length rows)) (SameBut (base + i)) old mid new (λ c d e one run. run_step base (length rows) i c d e lt one run) so_far.passes goes time tears rest

  pub elsewhere_one : (old.tells → SameBut (base + i) new.cells mid.cells) → old.tells → SameOff base (length rows) new.cells old.cells
  elsewhere_one rest t k off = rest t k (away base (length rows) i k lt off) ∙ so_far.elsewhere t k off

  pub one_more : (row : List ℕ) → row ≡ get_or rows i [] → Serves {T = Unit {0}} IsFailed mid new (Ok tt) → (mid.tells → new.cells (base + i) ≡ row)
      → (mid.tells → SameBut (base + i) new.cells mid.cells) → Tears (base + i) mid new → Elapses mid new → Writing base rows (i + 1) old new
  one_more row is serves put rest tears time = record {
    goes = goes_then old mid new so_far.goes serves.goes;
    tells = λ t. serves.tells (so_far.tells t);
    here = λ t. below_more (λ j. new.cells (base + j) ≡ get_or rows j []) i
        (λ j below. rest (so_far.tells t) (base + j) (omega arith) ∙ so_far.here t j below)
        (put (so_far.tells t) ∙ is);
    elsewhere = elsewhere_one (λ t. rest (so_far.tells t));
    passes = passes_one serves.goes tears time rest;
    out = let none = so_far.out in let still = serves.out in omega arith;
  }

-- a run was written as far as this, and shown: one write more
pub told_next : (base i : ℕ) (a b c : Option (List Event)) (k l m : Trace) → Tells (write_notes base i) (write_notes base i) a b k l → Tells (Write (base + i) ∷ []) (Write (base + i) ∷ []) b c l m
    → Tells (write_notes base (i + 1)) (write_notes base (i + 1)) a c k m
told_next base i a b c k l m p q =
    rw (run_next (λ cell. Write cell) base i) (tells_then (write_notes base i) (write_notes base i) (Write (base + i) ∷ []) (Write (base + i) ∷ []) a b c k l m p q)

-- where it was cut short
pub first_run : (base n i : ℕ) (a b : Option (List Event)) (k l : Trace) → i ≤ n → Tells (write_notes base i) (write_notes base i) a b k l → TellsFirst (write_notes base n) a b k l
first_run base n i a b k l le tells = record {
  made = write_notes base i;
  shown = write_notes base i;
  cut = record { count = i; few = omega (arith, le, length_run (λ cell. Write cell) base n); made_are = sym (take_run (λ cell. Write cell) base n i le); shown_are = inl refl };
  tells = tells;
}
