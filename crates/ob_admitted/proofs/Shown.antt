-- What a refused call shows is a front of its row.
use Rattle.std.specs.Prelude.{◌≡◌, ◌⊎◌, ℕ, ◌+◌, ◌-◌, ◌%◌, List, [], ◌∷◌, ◌++◌, drop, length, take, Option, None, Some}
use Rattle.std.proofs.Common.{sym, ap, ◌∙◌, inl, inr, append_assoc}
use Rattle.std.proofs.Math.Seq.{take-append_seam}
use Rattle.std.proofs.lemmas.List.{append-nil, take-append-drop}
use Rattle.ob_base.specs.declared.fault.Fault.{Fault}
use Rattle.ob_base.specs.declared.fault.Fault.TheVariants as fault
use Rattle.ob_base.specs.declared.params.Params.{Params}
use Rattle.ob_store.specs.Told.{IsCut}
use Rattle.ob_store.specs.declared.event.Event.{Event}
use Rattle.ob_store.specs.declared.watch.Note.{Note}
use Rattle.ob_store.specs.declared.watch.Note.TheVariants.{Sync}
use Rattle.ob_schedule.specs.Schedule.{Fills, batch_leaves, end_lifts, phase_notes, record_notes, written_by_end}
use Rattle.ob_serial.specs.Vaults.{End, Fetch, VaultCall}
use Rattle.ob_vault.specs.Hidden.{RingCut, RingCutShown, RingDrawsCut, RingHidden}
use Rattle.ob_vault.specs.Seen.{RingPublic, ring_notes}
use Rattle.ob_vault.specs.Shapes.{Ends, Fetches, shape_of}

abbrev pub IsFront : List Note → List Note → Type 0
IsFront row shown = (rest : List Note) × (row ≡ shown ++ rest)

pub cut_front : (row made shown : List Note) → IsCut row made shown → IsFront row shown
cut_front row made shown cut = go cut.shown_are
  where
    whole : row ≡ made ++ drop cut.count row
    whole = sym (take-append-drop cut.count row) ∙ ap (λ (xs : List Note). xs ++ drop cut.count row) (sym cut.made_are)

    go : (shown ≡ made) ⊎ (made ≡ shown ++ Sync ∷ []) → IsFront row shown
    go (inl all) = (drop cut.count row, whole ∙ ap (λ (xs : List Note). xs ++ drop cut.count row) (sym all))
    go (inr failed) = (Sync ∷ drop cut.count row, whole ∙ ap (λ (xs : List Note). xs ++ drop cut.count row) failed ∙ append_assoc shown (Sync ∷ []) (drop cut.count row))

pub front_more : (row more shown : List Note) → IsFront row shown → IsFront (row ++ more) shown
front_more row more shown is = (is.0 ++ more, ap (λ (xs : List Note). xs ++ more) is.1 ∙ append_assoc shown is.0 more)

front_within : (n : ℕ) (row shown : List Note) → IsFront (take n row) shown → IsFront row shown
front_within n row shown is = (is.0 ++ drop n row, sym (take-append-drop n row) ∙ ap (λ (xs : List Note). xs ++ drop n row) is.1 ∙ append_assoc shown is.0 (drop n row))

front_none : (row shown : List Note) → shown ≡ [] → IsFront row shown
front_none row shown none = (row, ap (λ (xs : List Note). xs ++ row) (sym none))

front_all : (row shown : List Note) → shown ≡ row → IsFront row shown
front_all row shown all = ([], sym (append-nil row) ∙ ap (λ (xs : List Note). xs ++ []) (sym all))

front_begun : (row more shown : List Note) → shown ≡ row → IsFront (row ++ more) shown
front_begun row more shown all = (more, ap (λ (xs : List Note). xs ++ more) (sym all))

pub front_take : (row shown : List Note) → IsFront row shown → shown ≡ take (length shown) row
front_take row shown is = sym (ap (λ (xs : List Note). take (length shown) xs) is.1 ∙ take-append_seam shown is.0)

module _ (most : ℕ) (p : Params) (q : RingPublic) (c : Fills) (seen : List Event) (shown : List Note) where
  abbrev batch_row : List Note
  batch_row = ring_notes p q Fetches c

  abbrev end_row : List Note
  end_row = ring_notes p q Ends c

  pub front_refused : (call : VaultCall) (refused : Fault) → RingCutShown most p q call c refused seen shown → IsFront (ring_notes p q (shape_of call) c) shown
  front_refused (Fetch asks) (fault.Worn number) is = front_none batch_row shown is
  front_refused (Fetch asks) (fault.StoreFault None) (inl front) =
      front_more (record_notes p (((q.known).epoch + 1) % 2) q.shown) (phase_notes p q.known c (batch_leaves p c q.shown)) shown (cut_front (record_notes p (((q.known).epoch + 1) % 2) q.shown) front.made shown front.cut)
  front_refused (Fetch asks) (fault.StoreFault None) (inr all) = front_all batch_row shown all.1
  front_refused (Fetch asks) (fault.StoreFault (Some epoch)) is = absurd is
  front_refused (Fetch asks) (fault.Damaged cell check kept computed) is = front_all batch_row shown is
  front_refused (Fetch asks) fault.Memory is = absurd is
  front_refused (Fetch asks) fault.Usage is = absurd is
  front_refused (Fetch asks) (fault.BadScript line) is = absurd is
  front_refused (Fetch asks) (fault.BadParams what) is = absurd is
  front_refused (Fetch asks) fault.NotStore is = absurd is
  front_refused (Fetch asks) (fault.StashFull rows) is = absurd is
  front_refused (Fetch asks) fault.SourceFault is = absurd is
  front_refused (Fetch asks) fault.SinkFault is = absurd is
  front_refused (End writes) (fault.Worn number) (inl none) = front_none end_row shown none.1
  front_refused (End writes) (fault.Worn number) (inr lifts) = front_begun (end_lifts p q.known c) (written_by_end p q.known) shown lifts.1
  front_refused (End writes) (fault.StoreFault None) is = front_within (length end_row - 2) end_row shown (cut_front (take (length end_row - 2) end_row) is.made shown is.cut)
  front_refused (End writes) (fault.StoreFault (Some epoch)) is = front_within (length end_row - 1) end_row shown (front_all (take (length end_row - 1) end_row) shown is)
  front_refused (End writes) (fault.Damaged cell check kept computed) is = front_begun (end_lifts p q.known c) (written_by_end p q.known) shown is
  front_refused (End writes) (fault.StashFull rows) is = front_begun (end_lifts p q.known c) (written_by_end p q.known) shown is
  front_refused (End writes) fault.Memory is = absurd is
  front_refused (End writes) fault.Usage is = absurd is
  front_refused (End writes) (fault.BadScript line) is = absurd is
  front_refused (End writes) (fault.BadParams what) is = absurd is
  front_refused (End writes) fault.NotStore is = absurd is
  front_refused (End writes) fault.SourceFault is = absurd is
  front_refused (End writes) fault.SinkFault is = absurd is

  -- a batch has drawn its words, or it showed nothing
  pub batch_draws : (h : RingHidden) (asks : List (Option ℕ)) (words : List ℕ) (refused : Fault) → RingCut most p q h (Fetch asks) c words refused seen → RingCutShown most p q (Fetch asks) c refused seen shown
      → RingDrawsCut p h (Fetch asks) c words ⊎ (shown ≡ [])
  batch_draws h asks words (fault.Worn number) cut is = inr is
  batch_draws h asks words (fault.StoreFault unsure) cut is = inl cut.0
  batch_draws h asks words (fault.Damaged cell check kept computed) cut is = inl cut.0
  batch_draws h asks words fault.Memory cut is = inl cut.0
  batch_draws h asks words fault.Usage cut is = inl cut.0
  batch_draws h asks words (fault.BadScript line) cut is = inl cut.0
  batch_draws h asks words (fault.BadParams what) cut is = inl cut.0
  batch_draws h asks words fault.NotStore cut is = inl cut.0
  batch_draws h asks words (fault.StashFull rows) cut is = inl cut.0
  batch_draws h asks words fault.SourceFault cut is = inl cut.0
  batch_draws h asks words fault.SinkFault cut is = inl cut.0
