-- Slots whose jobs are read again, one behind another.
use Rattle.std.proofs.Common.{◌≡◌, ◌<◌, ◌+◌, ℕ, List, [], ◌∷◌, ◌++◌, Option, Bool, true, cond, get_or, length, take, refl, if◌then◌else◌, sym, subst, ap, ◌∙◌, Ok}
use Rattle.std.proofs.lemmas.List.{append_assoc, map-append, take_more}
use Rattle.std.proofs.lemmas.List.Elements.{filter-append}
use Rattle.ob_base.specs.Causes.{Rose}
use Rattle.ob_base.specs.Planned.{job_at}
use Rattle.ob_store.specs.declared.event.Event.{Event}
use Rattle.ob_store.specs.declared.event.Event.TheVariants.{Read}
use Rattle.ob_store.specs.Disk.{Disk}
use Rattle.ob_store.specs.Calls.{Notes}
use Rattle.ob_store.proofs.Events.{joined}
use Rattle.ob_lanes.specs.declared.hand.SealedJobs.{SealedJobs}
use Rattle.ob_lanes.specs.declared.hand.Slot.{Slot}
use Rattle.ob_lanes.specs.Hands.{slot_places, reads_of, slot_at}
use Rattle.ob_lanes.specs.JobReads.{cells_of}
use Rattle.ob_lanes.proofs.SlotReads.{cell_at, slot_rose}
use Rattle.ob_mirror.specs.Both.{saturating_sum}
use Rattle.ob_mirror.specs.Reading.{IsMended, failed_in, is_refused, with_refusals}

-- ---- one slot

-- the reads that are made again of a slot
abbrev again_of : SealedJobs → Slot → Bool → List Event
again_of asked slot refused = reads_of asked (slot_places (cond refused (slot ∷ []) []))

pub reads_bad : (asked : SealedJobs) (slot : Slot) (a b : Option (List Event)) → is_refused slot.outcome ≡ true → Notes (Read (job_at asked.jobs.now slot.place).cell ∷ []) a b → Notes (reads_of asked (slot_places (failed_in (slot ∷ [])))) a b
reads_bad asked slot a b bad noted =
    subst (λ (r : Bool). Notes (again_of asked slot r) a b) (sym bad) (subst (λ (c : ℕ). Notes (Read c ∷ []) a b) (sym (cell_at asked.jobs.now slot.place)) noted)

-- counts that rose where others did
pub mended_on : (asked : SealedJobs) (disk : Disk) (before now was is : ℕ) (old new : Slot) → (Rose before now → Rose was is) → IsMended asked disk before now old new → IsMended asked disk was is old new
mended_on asked disk before now was is old new on mended = record {
  place = mended.place;
  good = mended.good;
  bad = λ bad. slot_rose asked.sealer.now.keys disk before now was is (job_at asked.jobs.now old.place) new on (mended.bad bad);
}

-- ---- one behind another

failed_join : (xs ys : List Slot) → failed_in (xs ++ ys) ≡ failed_in xs ++ failed_in ys
failed_join xs ys = filter-append (λ (s : Slot). is_refused s.outcome) xs ys

reads_join : (asked : SealedJobs) (xs ys : List Slot) → reads_of asked (slot_places (xs ++ ys)) ≡ reads_of asked (slot_places xs) ++ reads_of asked (slot_places ys)
reads_join asked xs ys = ap (reads_of asked) (map-append (λ (s : Slot). s.place) xs ys) ∙ map-append (λ p. Read (get_or (cells_of asked.jobs.now) p 0)) (slot_places xs) (slot_places ys)

pub reads_more : (asked : SealedJobs) (all : List Slot) (i : ℕ) (slot : Slot) (a b c : Option (List Event)) → i < length all → slot ≡ slot_at all i
    → Notes (reads_of asked (slot_places (failed_in (take i all)))) a b → Notes (reads_of asked (slot_places (failed_in (slot ∷ [])))) b c → Notes (reads_of asked (slot_places (failed_in (take (i + 1) all)))) a c
reads_more asked all i slot a b c lt is so_far one =
    let x = slot_at all i in
    let more : reads_of asked (slot_places (failed_in (take (i + 1) all))) ≡ reads_of asked (slot_places (failed_in (take i all))) ++ reads_of asked (slot_places (failed_in (x ∷ []))) =
    ap (λ (l : List Slot). reads_of asked (slot_places (failed_in l))) (take_more all i (record { place = 0; outcome = Ok [] }) lt) ∙ ap (λ (l : List Slot). reads_of asked (slot_places l)) (failed_join (take i all) (x ∷ []))
    ∙ reads_join asked (failed_in (take i all)) (failed_in (x ∷ [])) in
    let last = subst (λ (s : Slot). Notes (reads_of asked (slot_places (failed_in (s ∷ [])))) b c) is one in
    subst (λ (es : List Event). Notes es a c) (sym more) (joined (reads_of asked (slot_places (failed_in (take i all)))) (reads_of asked (slot_places (failed_in (x ∷ [])))) a b c so_far last)

refusals_join : (xs ys : List Slot) (n : ℕ) → with_refusals (xs ++ ys) n ≡ with_refusals ys (with_refusals xs n)
refusals_join [] ys n = refl
refusals_join (x ∷ xs) ys n = refusals_join xs ys (if is_refused x.outcome then saturating_sum n 1 else n)

pub failed_more : (i : ℕ) (old new : List Slot) (x : Slot) (first mid last : ℕ) → take (i + 1) new ≡ take i old ++ x ∷ []
    → mid ≡ with_refusals (take i old) first → last ≡ with_refusals (x ∷ []) mid → last ≡ with_refusals (take (i + 1) new) first
failed_more i old new x first mid last front so_far one =
    one ∙ ap (with_refusals (x ∷ [])) so_far ∙ sym (refusals_join (take i old) (x ∷ []) first) ∙ ap (λ (l : List Slot). with_refusals l first) (sym front)

-- ---- the log

-- one slot's read more
pub log_more : (asked : SealedJobs) (all : List Slot) (i : ℕ) (slot : Slot) (first mid last : List Event) → i < length all → slot ≡ slot_at all i
    → mid ≡ first ++ reads_of asked (slot_places (take i all)) → last ≡ mid ++ Read (job_at asked.jobs.now slot.place).cell ∷ [] → last ≡ first ++ reads_of asked (slot_places (take (i + 1) all))
log_more asked all i slot first mid last lt is so_far one =
    let x = slot_at all i in
    let before = reads_of asked (slot_places (take i all)) in
    let cell : Read (job_at asked.jobs.now slot.place).cell ∷ [] ≡ reads_of asked (slot_places (x ∷ [])) = ap (λ (c : ℕ). Read c ∷ []) (sym (cell_at asked.jobs.now slot.place)) ∙ ap (λ (s : Slot). reads_of asked (slot_places (s ∷ []))) is in
    one ∙ ap (λ (es : List Event). es ++ Read (job_at asked.jobs.now slot.place).cell ∷ []) so_far ∙ append_assoc first before (Read (job_at asked.jobs.now slot.place).cell ∷ [])
    ∙ ap (λ (es : List Event). first ++ (before ++ es)) cell
    ∙ ap (λ (es : List Event). first ++ es) (sym (reads_join asked (take i all) (x ∷ [])))
    ∙ ap (λ (l : List Slot). first ++ reads_of asked (slot_places l)) (sym (take_more all i (record { place = 0; outcome = Ok [] }) lt))
