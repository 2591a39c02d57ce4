-- A batch of which no more was shown than the first notes of its record, was seen no further.
use Rattle.std.specs.Prelude.{◌≡◌, ℕ, zero, suc, ◌+◌, ◌%◌, ◌≤◌, List, [], ◌∷◌, ◌++◌, length, Option, None, Some}
use Rattle.std.specs.List.{flat_map}
use Rattle.std.proofs.Common.{arith, length-append, refl, ap, ◌∙◌, inl, inr, ⊎_elim}
use Rattle.std.proofs.lemmas.List.{length-take-le}
use Rattle.std.proofs.lemmas.List.FromFn.{length-map-range_with_len}
use Rattle.ob_base.specs.Tree.{below}
use Rattle.ob_base.specs.declared.fault.Fault.{Fault}
use Rattle.ob_base.specs.declared.fault.Fault.TheVariants as fault
use Rattle.ob_base.specs.declared.params.Params.{Params}
use Rattle.ob_schedule.specs.Phases.{phases_of}
use Rattle.ob_schedule.specs.Schedule.{Fills, batch_leaves, phase_notes, record_notes}
use Rattle.ob_serial.specs.Vaults.{Fetch}
use Rattle.ob_store.specs.Told.{IsCut}
use Rattle.ob_store.specs.declared.event.Event.{Event}
use Rattle.ob_store.specs.declared.watch.Note.{Note}
use Rattle.ob_store.specs.declared.watch.Note.TheVariants.{Sync}
use Rattle.ob_vault.specs.Hidden.{AreFirst, RingCut, RingCutShown, RingHidden}
use Rattle.ob_vault.specs.Seen.{RingPublic, ring_notes}
use Rattle.ob_vault.specs.Shapes.{Fetches}

-- what is cut short is no longer than the whole
cut_short : (row done shown : List Note) → IsCut row done shown → length shown ≤ length row
cut_short row done shown cut =
    let many : length done ≡ cut.count = ap (λ (l : List Note). length l) cut.made_are ∙ length-take-le cut.count row cut.few in
    let low : cut.count ≤ length row = cut.few in
    let few : length done ≤ length row = omega (arith, many, low) in
    ⊎_elim
    (λ (all : shown ≡ done). let same : length shown ≡ length done = ap (λ (l : List Note). length l) all in omega (arith, few, same))
    (λ (failed : done ≡ shown ++ Sync ∷ []). let same : length done ≡ length (shown ++ Sync ∷ []) = ap (λ (l : List Note). length l) failed in omega (arith, few, same, length-append shown (Sync ∷ [])))
    cut.shown_are

some_of : (n : ℕ) (g : ℕ → Note) (more : ℕ → List Note) → 1 ≤ n → 1 ≤ length (flat_map (λ i. g i ∷ more i) (below n))
some_of zero g more some = absurd (omega (arith, some))
some_of (suc n) g more some = omega arith

module _ (most : ℕ) (p : Params) (q : RingPublic) (h : RingHidden) (asks : List (Option ℕ)) (f : Fills) (words : List ℕ) (seen : List Event) (shown : List Note) where
  abbrev row : List Note
  row = record_notes p (((q.known).epoch + 1) % 2) q.shown

  leaves_many : length (batch_leaves p f q.shown) ≡ p.places
  leaves_many = length-map-range_with_len (f.label q.shown) 0 p.places

  -- a batch shows a label behind its record
  longer : (done : List Note) → IsCut row done shown → shown ≡ ring_notes p q Fetches f → ⊥
  longer done cut is =
      let few : length shown ≤ length row = cut_short row done shown cut in
      let all : length shown ≡ length (row ++ phase_notes p q.known f (batch_leaves p f q.shown)) = ap (λ (l : List Note). length l) is in
      let some : 1 ≤ length (phase_notes p q.known f (batch_leaves p f q.shown)) = some_of (length (batch_leaves p f q.shown)) _ _ (let many = leaves_many in let places = (p.in_range).some_places in omega (arith, many, places)) in
      omega (arith, few, all, some, length-append row (phase_notes p q.known f (batch_leaves p f q.shown)))

  pub barely : (refused : Fault) (done : List Note) → IsCut row done shown → RingCut most p q h (Fetch asks) f words refused seen → RingCutShown most p q (Fetch asks) f refused seen shown → AreFirst most (phases_of row) seen
  barely (fault.StoreFault None) done cut is (inl front) = (front.first, front.rest, front.split, front.dealt)
  barely (fault.StoreFault None) done cut is (inr all) = absurd (longer done cut all.1)
  barely (fault.StoreFault (Some epoch)) done cut is told = absurd told
  barely (fault.Damaged cell check kept computed) done cut is told = absurd (longer done cut told)
  barely (fault.Worn number) done cut is told = ([], phases_of row, refl, is)
  barely fault.Memory done cut is told = absurd told
  barely fault.Usage done cut is told = absurd told
  barely (fault.BadScript line) done cut is told = absurd told
  barely (fault.BadParams what) done cut is told = absurd told
  barely fault.NotStore done cut is told = absurd told
  barely (fault.StashFull rows) done cut is told = absurd told
  barely fault.SourceFault done cut is told = absurd told
  barely fault.SinkFault done cut is told = absurd told
