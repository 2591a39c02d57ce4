-- How the reads of a run are told.
use Rattle.std.proofs.Common.{◌≡◌, inl, ℕ, ◌+◌, ◌<◌, List, [], ◌∷◌, Option, refl, sym, ap, arith}
use Rattle.ob_store.specs.declared.event.Event.{Event}
use Rattle.ob_store.specs.declared.watch.Note.TheVariants.{Read}
use Rattle.ob_store.specs.Lines.{Trace}
use Rattle.ob_store.specs.Told.{Tells, TellsFirst}
use Rattle.ob_store.proofs.Runs.{run_next, length_run, take_run}
use Rattle.ob_store.proofs.Doing.{tells_then}
use Rattle.ob_cells.specs.Orders.{read_notes}

-- one cell is read
pub one_read : (base : ℕ) → read_notes base 1 ≡ Read base ∷ []
one_read base = let e : base + 0 ≡ base = omega arith in ap (λ (c : ℕ). Read c ∷ []) e

module _ (base i : ℕ) (a b c : Option (List Event)) (k l m : Trace) (so_far : Tells (read_notes base i) (read_notes base i) a b k l) (one : Tells (Read (base + i) ∷ []) (Read (base + i) ∷ []) b c l m) where
  pub read_more : Tells (read_notes base (i + 1)) (read_notes base (i + 1)) a c k m
  read_more = rw (run_next (λ cell. Read cell) base i) (tells_then (read_notes base i) (read_notes base i) (Read (base + i) ∷ []) (Read (base + i) ∷ []) a b c k l m so_far one)

  -- the reading ends there
  pub read_part : (n : ℕ) → i < n → TellsFirst (read_notes base n) a c k m
  read_part n lt = record {
    made = read_notes base (i + 1);
    shown = read_notes base (i + 1);
    cut = record { count = i + 1; few = omega (arith, length_run (λ cell. Read cell) base n); made_are = sym (take_run (λ cell. Read cell) base n (i + 1) (omega arith)); shown_are = inl refl };
    tells = read_more;
  }

-- the first cell is read
pub first_told : (base : ℕ) (a b : Option (List Event)) (k l : Trace) → Tells (Read base ∷ []) (Read base ∷ []) a b k l → Tells (read_notes base 1) (read_notes base 1) a b k l
first_told base a b k l one = rw (one_read base) one

pub first_part : (base : ℕ) (a b : Option (List Event)) (k l : Trace) (n : ℕ) → 0 < n → Tells (Read base ∷ []) (Read base ∷ []) a b k l → TellsFirst (read_notes base n) a b k l
first_part base a b k l n some one = record {
  made = read_notes base 1;
  shown = read_notes base 1;
  cut = record { count = 1; few = omega (arith, length_run (λ cell. Read cell) base n); made_are = sym (take_run (λ cell. Read cell) base n 1 (omega arith)); shown_are = inl refl };
  tells = first_told base a b k l one;
}
