-- The cells that the notes of a batch and of the lifts read are those of their jobs.
use Rattle.std.specs.Prelude.{◌≡◌, ℕ, List, [], ◌∷◌, ◌++◌, map, Option}
use Rattle.std.proofs.Common.{refl, sym, ap, ◌∙◌}
use Rattle.ob_base.specs.declared.params.Params.{Params}
use Rattle.ob_tables.specs.Version.{Version}
use Rattle.ob_recover.specs.Repeats.{batch_cells, place_notes, repeated_notes}
use Rattle.ob_ring.specs.FlatTable.{FlatTable, after_place}
use Rattle.ob_ring.specs.Picked.{Picked, batch_picked, job_of, place_picked}
use Rattle.ob_schedule.specs.Phases.{cells_read}
use Rattle.ob_store.specs.declared.watch.Note.{Note}
use Rattle.ob_store.specs.declared.watch.Note.TheVariants as note

pub reads_join : (xs ys : List Note) → cells_read (xs ++ ys) ≡ cells_read xs ++ cells_read ys
reads_join [] ys = refl
reads_join (note.Label leaf ∷ xs) ys = reads_join xs ys
reads_join (note.Read cell ∷ xs) ys = ap (λ (cs : List ℕ). cell ∷ cs) (reads_join xs ys)
reads_join (note.Write cell ∷ xs) ys = reads_join xs ys
reads_join (note.Sync ∷ xs) ys = reads_join xs ys

pub picked_read : (p : Params) (versions : List Version) (qs : List Picked) → cells_read (map (λ q. note.Read (job_of p versions q).cell) qs) ≡ map (λ q. (job_of p versions q).cell) qs
picked_read p versions [] = refl
picked_read p versions (q ∷ qs) = ap (λ (cs : List ℕ). (job_of p versions q).cell ∷ cs) (picked_read p versions qs)

abbrev cells_of_picked : Params → List Version → List Picked → List ℕ
cells_of_picked p versions qs = map (λ j. j.cell) (map (job_of p versions) qs)

place_read : (p : Params) (versions : List Version) (qs : List Picked) → cells_read (map (λ q. note.Read (job_of p versions q).cell) qs) ≡ cells_of_picked p versions qs
place_read p versions [] = refl
place_read p versions (q ∷ qs) = ap (λ (cs : List ℕ). (job_of p versions q).cell ∷ cs) (place_read p versions qs)

picked_append : (p : Params) (versions : List Version) (xs ys : List Picked) → cells_of_picked p versions (xs ++ ys) ≡ cells_of_picked p versions xs ++ cells_of_picked p versions ys
picked_append p versions [] ys = refl
picked_append p versions (x ∷ xs) ys = ap (λ (cs : List ℕ). (job_of p versions x).cell ∷ cs) (picked_append p versions xs ys)

pub batch_read_cells : (p : Params) (versions : List Version) (t : FlatTable) (asked : List (Option ℕ × ℕ)) → cells_read (repeated_notes p versions t asked) ≡ batch_cells p versions t asked
batch_read_cells p versions t [] = refl
batch_read_cells p versions t (a ∷ rest) =
    let t1 : FlatTable = after_place p t a.0 a.1 in
    let qs : List Picked = place_picked p t a.0 a.1 in
    reads_join (place_notes p versions t a) (repeated_notes p versions t1 rest)
    ∙ (λ i. place_read p versions qs i ++ batch_read_cells p versions t1 rest i)
    ∙ sym (picked_append p versions qs (batch_picked p t1 rest))
