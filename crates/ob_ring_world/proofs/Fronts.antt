-- What a call that was refused has shown is the first of its row.
use Rattle.std.proofs.Common.{◌≡◌, ◌⊎◌, inl, inr, ⊎_elim, ℕ, ◌-◌, ◌+◌, ◌%◌, ◌<◌, List, [], ◌∷◌, ◌++◌, length, Option, None, Some, refl, sym, ap, ◌∙◌, append_assoc}
use Rattle.std.specs.Prelude.{drop, take}
use Rattle.std.proofs.lemmas.List.{append-nil, take-append-drop}
use Rattle.ob_base.specs.declared.fault.Fault.{Fault}
use Rattle.ob_base.specs.declared.fault.Fault.TheVariants as fault
use Rattle.ob_base.specs.declared.params.Params.{Params}
use Rattle.ob_store.specs.declared.event.Event.{Event}
use Rattle.ob_recover.specs.Telling.{AreDealt}
use Rattle.ob_schedule.specs.Phases.{Phase, phases_of, shared}
use Rattle.ob_schedule.specs.Schedule.{Fills, batch_leaves, end_lifts, phase_notes, record_notes, written_by_end}
use Rattle.ob_serial.specs.Vaults.{End, Fetch, VaultCall}
use Rattle.ob_end.specs.Shown.{before_gate, up_to_gate}
use Rattle.ob_recover.specs.Life.{End as EndAct, IsLife, LifeAct, LifeState, WordId}
use Rattle.ob_vault.proofs.Cutting.{cut_batch, cut_end}
use Rattle.ob_vault.specs.Acts.{AreTapeWords}
use Rattle.ob_vault.specs.Hidden.{AreFirst, AreLifts, BatchCut, EndCut, RingCut, RingDrawsCut, RingHidden}
use Rattle.ob_vault.specs.Lives.{AreShowing, IsBarelySeen, IsCutInLife, IsShownInLife}
use Rattle.ob_vault.specs.Seen.{RingPublic, ring_phases}
use Rattle.ob_vault.specs.Shapes.{Ends, Fetches, shape_of}
use Rattle.ob_vault.specs.Shown.{AreFilledBy, IsInLife}

pub all_first : (most : ℕ) (all : List Phase) (more : List Event) → AreDealt most all more → AreFirst most all more
all_first most all more dealt = (all, [], sym (append-nil all), dealt)

first_on : (most : ℕ) (front rest all : List Phase) (more : List Event) → all ≡ front ++ rest → AreFirst most front more → AreFirst most all more
first_on most front rest all more is (first, left, split, dealt) = (first, left ++ rest, is ∙ ap (λ (l : List Phase). l ++ rest) split ∙ append_assoc first left rest, dealt)

module _ (most : ℕ) (p : Params) (q : RingPublic) (f : Fills) (more : List Event) where
  batch_first : (refused : Fault) → BatchCut most p q f refused more → AreFirst most (ring_phases p q Fetches f) more
  batch_first (fault.StoreFault None) (inl first) =
      first_on most (phases_of (record_notes p (((q.known).epoch + 1) % 2) q.shown)) (shared (phase_notes p q.known f (batch_leaves p f q.shown)) ∷ []) (ring_phases p q Fetches f) more refl first
  batch_first (fault.StoreFault None) (inr all) = all_first most (ring_phases p q Fetches f) more all
  batch_first (fault.StoreFault (Some epoch)) none = absurd none
  batch_first (fault.Damaged cell check kept computed) all = all_first most (ring_phases p q Fetches f) more all
  batch_first fault.Memory none = absurd none
  batch_first fault.Usage none = absurd none
  batch_first (fault.BadScript line) none = absurd none
  batch_first (fault.BadParams field) none = absurd none
  batch_first fault.NotStore none = absurd none
  batch_first (fault.StashFull rows) none = absurd none
  batch_first (fault.Worn number) none = absurd none
  batch_first fault.SourceFault none = absurd none
  batch_first fault.SinkFault none = absurd none

  lifts_first : AreLifts most p q f more → AreFirst most (ring_phases p q Ends f) more
  lifts_first lifts = (shared (end_lifts p q.known f) ∷ [], phases_of (written_by_end p q.known), refl, lifts)

  front_of : (n : ℕ) → ring_phases p q Ends f ≡ take n (ring_phases p q Ends f) ++ drop n (ring_phases p q Ends f)
  front_of n = sym (take-append-drop n (ring_phases p q Ends f))

  end_first : (refused : Fault) → EndCut most p q f refused more → (more ≡ []) ⊎ AreFirst most (ring_phases p q Ends f) more
  end_first (fault.StoreFault None) first =
      inr (first_on most (before_gate (ring_phases p q Ends f)) (drop (length (ring_phases p q Ends f) - 2) (ring_phases p q Ends f)) (ring_phases p q Ends f) more (front_of (length (ring_phases p q Ends f) - 2)) first)
  end_first (fault.StoreFault (Some epoch)) (inl front) =
      inr (up_to_gate (ring_phases p q Ends f), drop (length (ring_phases p q Ends f) - 1) (ring_phases p q Ends f), front_of (length (ring_phases p q Ends f) - 1), front)
  end_first (fault.StoreFault (Some epoch)) (inr all) = inr (all_first most (ring_phases p q Ends f) more all)
  end_first (fault.Damaged cell check kept computed) lifts = inr (lifts_first lifts)
  end_first (fault.StashFull rows) lifts = inr (lifts_first lifts)
  end_first (fault.Worn number) (inl none) = inl none
  end_first (fault.Worn number) (inr lifts) = inr (lifts_first lifts)
  end_first fault.Memory none = absurd none
  end_first fault.Usage none = absurd none
  end_first (fault.BadScript line) none = absurd none
  end_first (fault.BadParams field) none = absurd none
  end_first fault.NotStore none = absurd none
  end_first fault.SourceFault none = absurd none
  end_first fault.SinkFault none = absurd none

-- nothing was shown, or the first of the call's row, which the life would fill so
abbrev pub IsFirstShown : (p : Params) → (most : ℕ) → (word_of : WordId → ℕ) → LifeState → RingPublic → VaultCall → List Event → Type 0
IsFirstShown p most word_of s q call more = (more ≡ []) ⊎ ((f : Fills) × IsCutInLife p word_of s call f × AreFirst most (ring_phases p q (shape_of call) f) more)

-- ---- a call that was refused, beside the acts that were made of it

-- and these acts are made, or none is and it was barely seen
abbrev pub IsRefusedShown : (p : Params) → (most : ℕ) → (word_of : WordId → ℕ) → LifeState → RingPublic → VaultCall → List Event → (made : List LifeAct) → Type 0
IsRefusedShown p most word_of s q call more made = (more ≡ [])
    ⊎ ((f : Fills) × (c : IsCutInLife p word_of s call f) × AreFirst most (ring_phases p q (shape_of call) f) more × (((rest : List LifeAct) × (made ≡ c.acts ++ rest)) ⊎ ((made ≡ []) × IsBarelySeen most p s call more)))

pub first_only : (p : Params) (most : ℕ) (word_of : WordId → ℕ) (s : LifeState) (q : RingPublic) (call : VaultCall) (more : List Event) (made : List LifeAct) → IsRefusedShown p most word_of s q call more made → IsFirstShown p most word_of s q call more
first_only p most word_of s q call more made (inl none) = inl none
first_only p most word_of s q call more made (inr (f, c, first, tied)) = inr (f, c, first)

module _ (p : Params) (most : ℕ) (word_of : WordId → ℕ) (s : LifeState) (q : RingPublic) (h : RingHidden) (here : IsInLife p word_of h s) (words : List ℕ) (tape : AreTapeWords word_of h.generation words) (more : List Event) (made : List LifeAct) (is_life : IsLife p word_of s made) where
  pub batch_refused : (asks : List (Option ℕ)) (f : Fills) (refused : Fault) → length h.records < p.batches → RingCut most p q h (Fetch asks) f words refused more → IsShownInLife most p word_of s h (Fetch asks) words more made → IsRefusedShown p most word_of s q (Fetch asks) more made
  batch_refused asks f refused some cut by = by_fault refused cut
    where
      made_so : RingDrawsCut p h (Fetch asks) f words → AreFirst most (ring_phases p q Fetches f) more → ((f : Fills) → RingDrawsCut p h (Fetch asks) f words → AreFilledBy p word_of s made (Fetch asks) f) → AreShowing (Fetch asks) made
          → IsRefusedShown p most word_of s q (Fetch asks) more made
      made_so draws first filled shows = inr (f, record { acts = made; shows = shows; is_life = is_life; filled = filled f draws }, first, inl ([], sym (append-nil made)))

      shown_so : RingDrawsCut p h (Fetch asks) f words → AreFirst most (ring_phases p q Fetches f) more → IsShownInLife most p word_of s h (Fetch asks) words more made → IsRefusedShown p most word_of s q (Fetch asks) more made
      shown_so draws first (inl (inl acts, filled)) = made_so draws first filled acts
      shown_so draws first (inl (inr acts, filled)) = made_so draws first filled acts
      shown_so (behind, d, of_tape) first (inr (none, barely)) = inr (f, cut_batch p word_of s h here asks f behind d words of_tape some tape, first, inr (none, barely))

      by_draws : (refused : Fault) → RingDrawsCut p h (Fetch asks) f words × BatchCut most p q f refused more → IsRefusedShown p most word_of s q (Fetch asks) more made
      by_draws refused (draws, first) = shown_so draws (batch_first most p q f more refused first) by

      by_fault : (refused : Fault) → RingCut most p q h (Fetch asks) f words refused more → IsRefusedShown p most word_of s q (Fetch asks) more made
      by_fault (fault.Worn number) none = inl none
      by_fault (fault.StoreFault unsure) is = by_draws (fault.StoreFault unsure) is
      by_fault (fault.Damaged cell check kept computed) is = by_draws (fault.Damaged cell check kept computed) is
      by_fault fault.Memory is = by_draws fault.Memory is
      by_fault fault.Usage is = by_draws fault.Usage is
      by_fault (fault.BadScript line) is = by_draws (fault.BadScript line) is
      by_fault (fault.BadParams field) is = by_draws (fault.BadParams field) is
      by_fault fault.NotStore is = by_draws fault.NotStore is
      by_fault (fault.StashFull rows) is = by_draws (fault.StashFull rows) is
      by_fault fault.SourceFault is = by_draws fault.SourceFault is
      by_fault fault.SinkFault is = by_draws fault.SinkFault is

  pub end_refused : (writes : List (ℕ × Option (List ℕ))) (f : Fills) (refused : Fault) → length h.records ≡ p.batches → RingCut most p q h (End writes) f words refused more → IsShownInLife most p word_of s h (End writes) words more made → IsRefusedShown p most word_of s q (End writes) more made
  end_refused writes f refused all (fills, cut, answer) by = ⊎_elim (λ (none : more ≡ []). inl none) (λ (first : AreFirst most (ring_phases p q Ends f) more). inr (f, c, first, inl (tied by))) (end_first most p q f more refused cut)
    where
      c : IsCutInLife p word_of s (End writes) f
      c = cut_end p word_of s h here writes f fills all

      tied : IsShownInLife most p word_of s h (End writes) words more made → (rest : List LifeAct) × (made ≡ c.acts ++ rest)
      tied (inl (inl (ws, drawn, slot, is), filled)) = (EndAct ws drawn slot ∷ [], is ∙ ap (λ (l : List LifeAct). l ++ EndAct ws drawn slot ∷ []) (sym c.shows))
      tied (inl (inr is, filled)) = ([], is ∙ sym c.shows ∙ sym (append-nil c.acts))
      tied (inr (none, barely)) = absurd barely
