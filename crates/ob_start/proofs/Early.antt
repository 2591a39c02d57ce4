-- What is called for up to the first sync.
use Rattle.std.proofs.Common.{◌≡◌, ℕ, List, [], ◌∷◌, ◌++◌, map, Option, ap, append_assoc, refl, subst, sym, ◌∙◌}
use Rattle.std.proofs.lemmas.List.{map-append}
use Rattle.ob_store.specs.declared.event.Event.{Event}
use Rattle.ob_store.specs.declared.event.Event.TheVariants as event
use Rattle.ob_store.specs.declared.watch.Note.TheVariants as note
use Rattle.ob_store.specs.Calls.{Notes}
use Rattle.ob_store.specs.Disk.{Disk}
use Rattle.ob_store.specs.Told.{events_of}
use Rattle.ob_store.proofs.Events.{joined}
use Rattle.ob_start.specs.Beginning.{ReadsThenSync}

abbrev pub reads : List ℕ → List Event
reads cells = map (λ cell. event.Read cell) cells

-- only cells were read
abbrev pub AreRead : (old new : Option (List Event)) → Type 0
AreRead old new = (cells : List ℕ) × Notes (reads cells) old new

-- these notes are of them
events_read : (cells : List ℕ) → events_of (map (λ cell. note.Read cell) cells) ≡ reads cells
events_read [] = refl
events_read (cell ∷ cells) = ap (λ (es : List Event). event.Read cell ∷ es) (events_read cells)

pub noted_reads : (cells : List ℕ) (old new : Option (List Event)) → Notes (events_of (map (λ cell. note.Read cell) cells)) old new → AreRead old new
noted_reads cells old new seen = (cells, subst (λ (es : List Event). Notes es old new) (events_read cells) seen)

-- one behind the other
pub read_both : (a b c : Option (List Event)) → AreRead a b → AreRead b c → AreRead a c
read_both a b c (xs, first) (ys, then) = (xs ++ ys, subst (λ (es : List Event). Notes es a c) (sym (map-append (λ cell. event.Read cell) xs ys)) (joined (reads xs) (reads ys) a b c first then))

-- a sync alone
pub sync_first : (old new : Disk) → Notes (event.Sync ∷ []) old.seen new.seen → ReadsThenSync old new
sync_first old new seen = record { cells = []; called = seen }

-- reads in front
pub reads_called : (old mid new : Disk) → AreRead old.seen mid.seen → ReadsThenSync mid new → ReadsThenSync old new
reads_called old mid new (xs, first) then = record {
  cells = xs ++ then.cells;
  called = subst (λ (es : List Event). Notes es old.seen new.seen)
      (sym (append_assoc (reads xs) (reads then.cells) (event.Sync ∷ [])) ∙ ap (λ (es : List Event). es ++ event.Sync ∷ []) (sym (map-append (λ cell. event.Read cell) xs then.cells)))
      (joined (reads xs) (reads then.cells ++ event.Sync ∷ []) old.seen mid.seen new.seen first then.called);
}
