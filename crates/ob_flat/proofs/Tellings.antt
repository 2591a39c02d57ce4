-- What the calls tell, for who asks for their events alone.
use Rattle.std.proofs.Common.{◌≡◌, ◌⊎◌, inl, inr, ⊎_elim, ℕ, List, [], ◌∷◌, ◌++◌, Option, Result, Ok, Err, ◌∙◌, ap, subst, append_assoc}
use Rattle.ob_base.specs.declared.fault.Fault.{Fault}
use Rattle.ob_base.specs.declared.fault.Fault.TheVariants.{Memory, Usage, BadScript, BadParams, NotStore, Damaged, StoreFault, StashFull, Worn, SourceFault, SinkFault}
use Rattle.ob_store.specs.declared.event.Event.{Event}
use Rattle.ob_store.specs.declared.watch.Note.{Note}
use Rattle.ob_store.specs.declared.watch.Note.TheVariants.{Sync}
use Rattle.ob_store.specs.Calls.{Notes, NotesFirst, NotesReads}
use Rattle.ob_store.specs.Lines.{Trace}
use Rattle.ob_store.specs.Told.{events_of, Tells, IsCut, TellsFirst}
use Rattle.ob_store.proofs.Doing.{tells_then, first_more, first_behind, first_noted, cut_none, cut_more, cut_noted}
use Rattle.ob_twin.specs.declared.gates.Open.{Open}
use Rattle.ob_twin.specs.declared.set_err.SetErr.{SetErr}
use Rattle.ob_twin.specs.declared.set_err.SetErr.TheVariants.{Before, Unsure}
use Rattle.ob_twin.specs.Register.{gate_at, place_of}
use Rattle.ob_twin.specs.Opening.{is_closed_first}
use Rattle.ob_twin.specs.Orders.{through_notes, prepare_notes, gate_notes, set_notes, SetDoes}
use Rattle.ob_twin.specs.Got.{DoesReads}
use Rattle.ob_flat.specs.Places.{area_of}
use Rattle.ob_flat.specs.Orders.{rows_notes, end_notes, end_prepare_notes, end_gate_notes, end_events}
use Rattle.ob_flat.specs.Ends.{EndTells}

-- reads that may have failed
pub reads_noted : {V : Type 0} (notes : List Note) (a b : Option (List Event)) (k l : Trace) (r : Result V Fault) → DoesReads notes a b k l r → NotesReads (events_of notes) a b r
reads_noted notes a b k l (Ok v) tells = tells.seen
reads_noted notes a b k l (Err (StoreFault unsure)) tells = first_noted notes a b k l tells
reads_noted notes a b k l (Err Memory) tells = tells.seen
reads_noted notes a b k l (Err Usage) tells = tells.seen
reads_noted notes a b k l (Err (BadScript line)) tells = tells.seen
reads_noted notes a b k l (Err (BadParams field)) tells = tells.seen
reads_noted notes a b k l (Err NotStore) tells = tells.seen
reads_noted notes a b k l (Err (Damaged cell check kept computed)) tells = tells.seen
reads_noted notes a b k l (Err (StashFull rows)) tells = tells.seen
reads_noted notes a b k l (Err (Worn number)) tells = tells.seen
reads_noted notes a b k l (Err SourceFault) tells = tells.seen
reads_noted notes a b k l (Err SinkFault) tells = tells.seen

-- the rows, and the number set behind them
module _ (keys : ℕ) (known : Open) (epoch : ℕ) where
  -- what comes before the gate is of the whole order
  pub short_noted : (made shown : List Note) (a b : Option (List Event)) → IsCut (end_prepare_notes keys known epoch) made shown → Notes (events_of made) a b → NotesFirst (end_events keys known epoch) a b
  short_noted made shown a b cut seen =
      cut_noted (end_notes keys known epoch) made shown a b
      (subst (λ (all : List Note). IsCut all made shown)
      (append_assoc (rows_notes (area_of keys epoch) keys) (prepare_notes (is_closed_first known (place_of epoch)) 5 epoch) (through_notes (gate_at 5 (place_of epoch))))
      (cut_more (end_prepare_notes keys known epoch) (through_notes (gate_at 5 (place_of epoch))) made shown cut))
      seen

  gate_then_sync : end_gate_notes keys known epoch ++ Sync ∷ [] ≡ end_notes keys known epoch
  gate_then_sync =
      append_assoc (rows_notes (area_of keys epoch) keys) (gate_notes (is_closed_first known (place_of epoch)) 5 epoch) (Sync ∷ [])
      ∙ ap (λ (l : List Note). rows_notes (area_of keys epoch) keys ++ l) (append_assoc (prepare_notes (is_closed_first known (place_of epoch)) 5 epoch) _ (Sync ∷ []))

  pub doubt_noted : (a b : Option (List Event)) → Notes (events_of (end_gate_notes keys known epoch)) a b ⊎ Notes (end_events keys known epoch) a b → NotesFirst (end_events keys known epoch) a b
  doubt_noted a b either = ⊎_elim
      (λ gate. cut_noted (end_notes keys known epoch) (end_gate_notes keys known epoch) (end_gate_notes keys known epoch) a b
      (subst (λ (all : List Note). IsCut all (end_gate_notes keys known epoch) (end_gate_notes keys known epoch)) gate_then_sync
      (cut_more (end_gate_notes keys known epoch) (Sync ∷ []) (end_gate_notes keys known epoch) (end_gate_notes keys known epoch) (cut_none (end_gate_notes keys known epoch))))
      gate)
      (λ all. cut_noted (end_notes keys known epoch) (end_notes keys known epoch) (end_notes keys known epoch) a b (cut_none (end_notes keys known epoch)) all)
      either

  -- where the rows were refused
  pub rows_refused : (a b : Option (List Event)) (k l : Trace) → TellsFirst (rows_notes (area_of keys epoch) keys) a b k l → TellsFirst (end_prepare_notes keys known epoch) a b k l
  rows_refused a b k l first = first_more a b k l (rows_notes (area_of keys epoch) keys) (prepare_notes (is_closed_first known (place_of epoch)) 5 epoch) first

  pub end_tells : (a b c : Option (List Event)) (k l m : Trace) (r : Result (Unit {0}) SetErr) → Tells (rows_notes (area_of keys epoch) keys) (rows_notes (area_of keys epoch) keys) a b k l
      → SetDoes (is_closed_first known (place_of epoch)) 5 epoch b c l m r → EndTells keys known epoch a c k m r
  end_tells a b c k l m (Ok done) rows set =
      tells_then (rows_notes (area_of keys epoch) keys) (rows_notes (area_of keys epoch) keys) (set_notes (is_closed_first known (place_of epoch)) 5 epoch) (set_notes (is_closed_first known (place_of epoch)) 5 epoch) a b c k l m rows set
  end_tells a b c k l m (Err (Before fault)) rows set =
      first_behind a b c k l m (rows_notes (area_of keys epoch) keys) (prepare_notes (is_closed_first known (place_of epoch)) 5 epoch) rows set
  end_tells a b c k l m (Err (Unsure fault)) rows set = ⊎_elim
      (λ gate. inl (tells_then (rows_notes (area_of keys epoch) keys) (rows_notes (area_of keys epoch) keys) (gate_notes (is_closed_first known (place_of epoch)) 5 epoch) (gate_notes (is_closed_first known (place_of epoch)) 5 epoch) a b c k l m rows gate))
      (λ all. inr (tells_then (rows_notes (area_of keys epoch) keys) (rows_notes (area_of keys epoch) keys) (set_notes (is_closed_first known (place_of epoch)) 5 epoch) (gate_notes (is_closed_first known (place_of epoch)) 5 epoch) a b c k l m rows all))
      set
