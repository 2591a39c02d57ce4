-- What a planned batch shows is a phase of the public schedule, with any fills that fill its holes by the table's picks.
use Rattle.std.specs.Prelude.{◌≡◌, ℕ, ◌+◌, List, [], ◌∷◌, ◌++◌, map, length, Option, slice_index}
use Rattle.std.specs.List.{range_with_len, flat_map}
use Rattle.std.proofs.Common.{arith, refl, sym, ap, ◌∙◌, inl, inr}
use Rattle.std.proofs.lemmas.List.{append-nil}
use Rattle.ob_base.specs.declared.params.Params.{Params}
use Rattle.ob_base.specs.Tree.{below}
use Rattle.ob_base.specs.Layout.{slot_cell}
use Rattle.ob_base.specs.Repeats.{Has}
use Rattle.ob_base.proofs.Repeats.{has_left, has_right}
use Rattle.ob_tables.specs.Buckets.{version_at}
use Rattle.ob_store.specs.declared.watch.Note.{Note}
use Rattle.ob_store.specs.declared.watch.Note.TheVariants.{Label, Read}
use Rattle.ob_tables.specs.Content.{Content}
use Rattle.ob_schedule.specs.Holes.{place_holes, passes_before}
use Rattle.ob_schedule.specs.Schedule.{Public, Fills, counts_now, hole_reads, phase_notes}
use Rattle.ob_ring.specs.FlatTable.{FlatTable, Shown, leaf_shown, place_shown, after_place, batch_shown, leaves_shown}
use Rattle.ob_ring.specs.Jobs.{place_shown_at, place_picked_at}
use Rattle.ob_ring.specs.Picked.{Picked, job_of, place_picked}
use Rattle.ob_ring.specs.Sound.{IsSound, IsCounted, hole_of}
use Rattle.ob_ring.proofs.Batches.{PlaceLaw, place_law, passed, shift_range, count_more, at_next}
use Rattle.ob_ring.proofs.JobLaws.{jobs_read_picks}
use Rattle.ob_recover.specs.Bridge.{picked_notes, picked_reads}
use Rattle.ob_recover.specs.Repeats.{repeated_notes}
use Rattle.ob_recover.specs.Known.{AreSlotsOf, slot_kept}

-- ---- the schedule's phase, place by place

pub reads_agree : (p : Params) (q : Public) (f : Fills) (slot : ℕ → ℕ → ℕ) (ss : List Shown) → ((s : Shown) → Has ss s → f.slot (hole_of s) ≡ slot s.bucket s.index) → picked_reads p q.homes slot ss ≡ hole_reads p q f (map hole_of ss)
reads_agree p q f slot [] h = refl
reads_agree p q f slot (s ∷ ss) h = λ i. Read (slot_cell p (q.homes s.bucket) s.bucket (sym (h s (inl refl)) i)) ∷ reads_agree p q f slot ss (λ x k. h x (inr k)) i

abbrev notes_by_places : Params → Public → Fills → (ℕ → ℕ) → List ℕ → List Note
notes_by_places p q f count [] = []
notes_by_places p q f count (x ∷ xs) = (Label x ∷ hole_reads p q f (place_holes p count x)) ++ notes_by_places p q f (passed p x count) xs

abbrev counted_notes : Params → Public → Fills → (ℕ → ℕ) → List ℕ → List Note
counted_notes p q f count leaves = flat_map (λ i. Label (slice_index leaves i) ∷ hole_reads p q f (place_holes p (λ u. count u + passes_before p leaves i u) (slice_index leaves i))) (below (length leaves))

notes_as_counts : (p : Params) (q : Public) (f : Fills) (count : ℕ → ℕ) (xs : List ℕ) → notes_by_places p q f count xs ≡ counted_notes p q f count xs
notes_as_counts p q f count [] = refl
notes_as_counts p q f count (x ∷ xs) =
    let F : ℕ → List Note = λ i. Label (slice_index (x ∷ xs) i) ∷ hole_reads p q f (place_holes p (λ u. count u + passes_before p (x ∷ xs) i u) (slice_index (x ∷ xs) i)) in
    let G : ℕ → List Note = λ i. Label (slice_index xs i) ∷ hole_reads p q f (place_holes p (λ u. passed p x count u + passes_before p xs i u) (slice_index xs i)) in
    let next : (λ i. F (i + 1)) ≡ G = λ j i. Label (at_next x xs i j) ∷ hole_reads p q f (place_holes p (λ u. count_more p count x xs i u j) (at_next x xs i j)) in
    let rest : flat_map F (range_with_len (0 + 1) (length xs)) ≡ flat_map G (range_with_len 0 (length xs)) =
    shift_range F 0 (length xs) ∙ ap (λ (g : ℕ → List Note). flat_map g (range_with_len 0 (length xs))) next in
    let first : (Label x ∷ hole_reads p q f (place_holes p count x)) ≡ F 0 = λ i. Label x ∷ hole_reads p q f (place_holes p (λ u. (let z : count u ≡ count u + 0 = omega arith in z i)) x) in
    (λ i. first i ++ (notes_as_counts p q f (passed p x count) xs ∙ sym rest) i)

picked_by_places : (p : Params) (q : Public) (f : Fills) (slot : ℕ → ℕ → ℕ) (t : FlatTable) (places : List (Option ℕ × ℕ)) (count : ℕ → ℕ) → IsSound p t → IsCounted p t count →
    ((s : Shown) → Has (batch_shown p t places) s → f.slot (hole_of s) ≡ slot s.bucket s.index) → picked_notes p q.homes slot t places ≡ notes_by_places p q f count (leaves_shown p t places)
picked_by_places p q f slot t [] count s c h = refl
picked_by_places p q f slot t (a ∷ rest) count s c h =
    let one : PlaceLaw p t a.0 a.1 count = place_law p t a.0 a.1 count s c in
    let t1 : FlatTable = after_place p t a.0 a.1 in
    let here : picked_reads p q.homes slot (place_shown p t a.0 a.1) ≡ hole_reads p q f (place_holes p count (leaf_shown t a.0 a.1)) =
    reads_agree p q f slot (place_shown p t a.0 a.1) (λ x k. h x (has_left (place_shown p t a.0 a.1) (batch_shown p t1 rest) x k)) ∙ ap (hole_reads p q f) one.holes in
    (λ i. (Label (leaf_shown t a.0 a.1) ∷ here i) ++ picked_by_places p q f slot t1 rest (passed p (leaf_shown t a.0 a.1) count) one.sound one.counted (λ x k. h x (has_right (place_shown p t a.0 a.1) (batch_shown p t1 rest) x k)) i)

-- ---- the jobs' cells

abbrev pub homes_kept : Content → ℕ → ℕ
homes_kept c u = (version_at c.versions u).home

-- the read of a bucket's index
abbrev read_at : Params → Content → ℕ × ℕ → Note
read_at p c a = Read (slot_cell p (homes_kept c a.0) a.0 (slot_kept c a.0 a.1))

shown_reads : (p : Params) (c : Content) (ss : List Shown) → map (read_at p c) (map place_shown_at ss) ≡ picked_reads p (homes_kept c) (slot_kept c) ss
shown_reads p c [] = refl
shown_reads p c (s ∷ ss) = ap (λ (ns : List Note). read_at p c (s.bucket, s.index) ∷ ns) (shown_reads p c ss)

job_reads : (p : Params) (c : Content) (qs : List Picked) → map (λ q. Read (job_of p c.versions q).cell) qs ≡ map (read_at p c) (map place_picked_at qs)
job_reads p c [] = refl
job_reads p c (q ∷ qs) = ap (λ (ns : List Note). read_at p c (q.bucket, q.index) ∷ ns) (job_reads p c qs)

-- jobs at the indexes that are shown read these
pub picked_alike : (p : Params) (c : Content) (qs : List Picked) (ss : List Shown) → map place_picked_at qs ≡ map place_shown_at ss → map (λ q. Read (job_of p c.versions q).cell) qs ≡ picked_reads p (homes_kept c) (slot_kept c) ss
picked_alike p c qs ss same = job_reads p c qs ∙ ap (λ (xs : List (ℕ × ℕ)). map (read_at p c) xs) same ∙ shown_reads p c ss

place_alike : (p : Params) (t : FlatTable) (a : Option ℕ × ℕ) → map place_picked_at (place_picked p t a.0 a.1) ≡ map place_shown_at (place_shown p t a.0 a.1)
place_alike p t a =
    ap (λ (qs : List Picked). map place_picked_at qs) (sym (append-nil (place_picked p t a.0 a.1))) ∙ jobs_read_picks.batch p t (a ∷ [])
    ∙ ap (λ (ss : List Shown). map place_shown_at ss) (append-nil (place_shown p t a.0 a.1))

notes_picked : (p : Params) (c : Content) (t : FlatTable) (asked : List (Option ℕ × ℕ)) → repeated_notes p c.versions t asked ≡ picked_notes p (homes_kept c) (slot_kept c) t asked
notes_picked p c t [] = refl
notes_picked p c t (a ∷ rest) =
    λ i. (Label (leaf_shown t a.0 a.1) ∷ picked_alike p c (place_picked p t a.0 a.1) (place_shown p t a.0 a.1) (place_alike p t a) i) ++ notes_picked p c (after_place p t a.0 a.1) rest i

-- ---- a phase

pub phase_is : (p : Params) (q : Public) (f : Fills) (c : Content) (t : FlatTable) (asked : List (Option ℕ × ℕ)) → q.homes ≡ homes_kept c → IsSound p t → IsCounted p t (counts_now p q) → AreSlotsOf c (batch_shown p t asked) f
    → repeated_notes p c.versions t asked ≡ phase_notes p q f (leaves_shown p t asked)
phase_is p q f c t asked homes sound counted slots =
    notes_picked p c t asked
    ∙ ap (λ (h : ℕ → ℕ). picked_notes p h (slot_kept c) t asked) (sym homes)
    ∙ picked_by_places p q f (slot_kept c) t asked (counts_now p q) sound counted slots
    ∙ notes_as_counts p q f (counts_now p q) (leaves_shown p t asked)
