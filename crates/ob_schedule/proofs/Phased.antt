-- The events of the schedule's phases are those of its notes.
use Rattle.std.specs.Prelude.{◌≡◌, ℕ, ◌+◌, ◌%◌, Bool, List, [], ◌∷◌, ◌++◌, map, slice_index, length}
use Rattle.std.specs.List.{flat_map}
use Rattle.std.proofs.Common.{zero, suc, refl, sym, ap, ◌∙◌, append_assoc}
use Rattle.std.proofs.lemmas.List.{append-nil}
use Rattle.ob_base.specs.declared.params.Params.{Params}
use Rattle.ob_base.specs.Tree.{below}
use Rattle.ob_store.specs.Told.{events_of}
use Rattle.ob_store.specs.declared.event.Event.{Event}
use Rattle.ob_store.specs.declared.event.Event.TheVariants as event
use Rattle.ob_store.specs.declared.watch.Note.{Note}
use Rattle.ob_store.specs.declared.watch.Note.TheVariants.{Label, Read, Write, Sync}
use Rattle.ob_store.proofs.Doing.{events_join}
use Rattle.ob_schedule.specs.Holes.{Hole, final_holes, passes_before, place_holes}
use Rattle.ob_schedule.specs.Phases.{Phase, PhasesAreNotes, Reads, batch_phases, cells_read, end_phases, events_of_phases, open_phases, phase_events, phases_of, repeat_phases, shared}
use Rattle.ob_schedule.specs.Schedule.{Fills, Public, after_phase, batch_leaves, batch_notes, before_repeats, begun_public, counts_now, end_lifts, end_notes, hole_reads, open_notes, phase_notes, record_notes, repeats, written_by_end}

-- ---- one by one

pub steps_phased : (notes : List Note) → events_of_phases (phases_of notes) ≡ events_of notes
steps_phased [] = refl
steps_phased (Label leaf ∷ notes) = steps_phased notes
steps_phased (Read cell ∷ notes) = ap (λ (es : List Event). event.Read cell ∷ es) (steps_phased notes)
steps_phased (Write cell ∷ notes) = ap (λ (es : List Event). event.Write cell ∷ es) (steps_phased notes)
steps_phased (Sync ∷ notes) = ap (λ (es : List Event). event.Sync ∷ es) (steps_phased notes)

pub phases_join : (xs ys : List Phase) → events_of_phases (xs ++ ys) ≡ events_of_phases xs ++ events_of_phases ys
phases_join [] ys = refl
phases_join (x ∷ xs) ys = ap (λ (es : List Event). phase_events x ++ es) (phases_join xs ys) ∙ sym (append_assoc (phase_events x) (events_of_phases xs) (events_of_phases ys))

pub phases_append : (xs ys : List Note) → phases_of (xs ++ ys) ≡ phases_of xs ++ phases_of ys
phases_append [] ys = refl
phases_append (Label leaf ∷ xs) ys = phases_append xs ys
phases_append (Read cell ∷ xs) ys = ap (λ (ps : List Phase). phases_of (Read cell ∷ []) ++ ps) (phases_append xs ys)
phases_append (Write cell ∷ xs) ys = ap (λ (ps : List Phase). phases_of (Write cell ∷ []) ++ ps) (phases_append xs ys)
phases_append (Sync ∷ xs) ys = ap (λ (ps : List Phase). phases_of (Sync ∷ []) ++ ps) (phases_append xs ys)

-- ---- shared reads

-- only labels and reads
abbrev pub OnlyRead : List Note → Type 0
OnlyRead [] = Unit {0}
OnlyRead (Label leaf ∷ notes) = OnlyRead notes
OnlyRead (Read cell ∷ notes) = OnlyRead notes
OnlyRead (Write cell ∷ notes) = ⊥
OnlyRead (Sync ∷ notes) = ⊥

pub only_join : (xs ys : List Note) → OnlyRead xs → OnlyRead ys → OnlyRead (xs ++ ys)
only_join [] ys a b = b
only_join (Label leaf ∷ xs) ys a b = only_join xs ys a b
only_join (Read cell ∷ xs) ys a b = only_join xs ys a b
only_join (Write cell ∷ xs) ys a b = absurd a
only_join (Sync ∷ xs) ys a b = absurd a

pub shared_phased : (notes : List Note) → OnlyRead notes → phase_events (shared notes) ≡ events_of notes
shared_phased [] only = refl
shared_phased (Label leaf ∷ notes) only = shared_phased notes only
shared_phased (Read cell ∷ notes) only = ap (λ (es : List Event). event.Read cell ∷ es) (shared_phased notes only)
shared_phased (Write cell ∷ notes) only = absurd only
shared_phased (Sync ∷ notes) only = absurd only

pub holes_only : (p : Params) (q : Public) (f : Fills) (hs : List Hole) → OnlyRead (hole_reads p q f hs)
holes_only p q f [] = tt
holes_only p q f (h ∷ hs) = holes_only p q f hs

-- places of a batch
places_only : (p : Params) (q : Public) (f : Fills) (leaves is : List ℕ)
    → OnlyRead (flat_map (λ i. Label (slice_index leaves i) ∷ hole_reads p q f (place_holes p (λ u. counts_now p q u + passes_before p leaves i u) (slice_index leaves i))) is)
places_only p q f leaves [] = tt
places_only p q f leaves (i ∷ is) =
    let hs : List Hole = place_holes p (λ u. counts_now p q u + passes_before p leaves i u) (slice_index leaves i) in
    only_join (hole_reads p q f hs) _ (holes_only p q f hs) (places_only p q f leaves is)

pub batch_only : (p : Params) (q : Public) (f : Fills) (leaves : List ℕ) → OnlyRead (phase_notes p q f leaves)
batch_only p q f leaves = places_only p q f leaves (below (length leaves))

-- ---- the schedule

batch_phased : (p : Params) (q : Public) (f : Fills) (b : ℕ) → events_of_phases (batch_phases p q f b) ≡ events_of (batch_notes p q f b)
batch_phased p q f b =
    let record_steps : List Note = record_notes p ((q.epoch + 1) % 2) b in
    let reads : List Note = phase_notes p q f (batch_leaves p f b) in
    phases_join (phases_of record_steps) (shared reads ∷ [])
    ∙ (λ i. steps_phased record_steps i ++ (append-nil (phase_events (shared reads)) ∙ shared_phased reads (batch_only p q f (batch_leaves p f b))) i)
    ∙ sym (events_join record_steps reads)

repeats_phased : (p : Params) (q : Public) (f : Fills) (b n : ℕ) → events_of_phases (repeat_phases p q f b n) ≡ events_of (repeats p q f b n)
repeats_phased p q f b zero = refl
repeats_phased p q f b (suc n) =
    let reads : List Note = phase_notes p q f (batch_leaves p f b) in
    let q1 : Public = after_phase p q (batch_leaves p f b) in
    (λ i. shared_phased reads (batch_only p q f (batch_leaves p f b)) i ++ repeats_phased p q1 f (b + 1) n i)
    ∙ sym (events_join reads (repeats p q1 f (b + 1) n))

open_phased : (p : Params) (q : Public) (f : Fills) (found : ℕ → Bool) (generation batches : ℕ) → events_of_phases (open_phases p q f found generation batches) ≡ events_of (open_notes p q f found generation batches)
open_phased p q f found generation batches =
    let first : List Note = before_repeats p q found generation in
    let q1 : Public = begun_public found q in
    phases_join (phases_of first) (repeat_phases p q1 f 0 batches)
    ∙ (λ i. steps_phased first i ++ repeats_phased p q1 f 0 batches i)
    ∙ sym (events_join first (repeats p q1 f 0 batches))

end_phased : (p : Params) (q : Public) (f : Fills) → events_of_phases (end_phases p q f) ≡ events_of (end_notes p q f)
end_phased p q f =
    (λ i. shared_phased (end_lifts p q f) (holes_only p q f (final_holes p (counts_now p q) q.counter)) i ++ steps_phased (written_by_end p q) i)
    ∙ sym (events_join (end_lifts p q f) (written_by_end p q))

pub phases_are_notes : PhasesAreNotes
phases_are_notes = record { steps = steps_phased; batches = batch_phased; opens = open_phased; ends = end_phased }
