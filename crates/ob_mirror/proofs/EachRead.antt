-- Reads of rising cells, each shown.
use Rattle.std.proofs.Common.{◌≡◌, ◌≤◌, ℕ, ◌+◌, List, ◌∷◌, [], Option, inl, refl, sym, subst, arith}
use Rattle.ob_store.proofs.Doing.{tells_then}
use Rattle.ob_store.proofs.Runs.{length_run, run_next, take_run}
use Rattle.ob_store.specs.Lines.{Trace}
use Rattle.ob_store.specs.Told.{Tells, TellsFirst}
use Rattle.ob_store.specs.declared.event.Event.{Event}
use Rattle.ob_store.specs.declared.watch.Note.TheVariants.{Read}
use Rattle.ob_mirror.specs.Joins.{reads_from}

-- one read more
pub reads_next : (base i : ℕ) (a b c : Option (List Event)) (k l m : Trace) → Tells (reads_from base i) (reads_from base i) a b k l → Tells (Read (base + i) ∷ []) (Read (base + i) ∷ []) b c l m
    → Tells (reads_from base (i + 1)) (reads_from base (i + 1)) a c k m
reads_next base i a b c k l m p q =
    rw (run_next (λ cell. Read cell) base i) (tells_then (reads_from base i) (reads_from base i) (Read (base + i) ∷ []) (Read (base + i) ∷ []) a b c k l m p q)

from_zero : (i : ℕ) → i ≡ 0 + i
from_zero i = omega arith

-- of the first cells
pub copied_next : (i : ℕ) (a b c : Option (List Event)) (k l m : Trace) → Tells (reads_from 0 i) (reads_from 0 i) a b k l → Tells (Read i ∷ []) (Read i ∷ []) b c l m → Tells (reads_from 0 (i + 1)) (reads_from 0 (i + 1)) a c k m
copied_next i a b c k l m p q = reads_next 0 i a b c k l m p (subst (λ (n : ℕ). Tells (Read n ∷ []) (Read n ∷ []) b c l m) (from_zero i) q)

-- where they were cut short
pub first_reads : (base n i : ℕ) (a b : Option (List Event)) (k l : Trace) → i ≤ n → Tells (reads_from base i) (reads_from base i) a b k l → TellsFirst (reads_from base n) a b k l
first_reads base n i a b k l le tells = record {
  made = reads_from base i;
  shown = reads_from base i;
  cut = record { count = i; few = omega (arith, le, length_run (λ cell. Read cell) base n); made_are = sym (take_run (λ cell. Read cell) base n i le); shown_are = inl refl };
  tells = tells;
}
