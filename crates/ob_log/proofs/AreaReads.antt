-- What is told of the reads of a log area.
use Rattle.std.proofs.Common.{◌≡◌, ℕ, ◌+◌, ◌*◌, ◌%◌, List, Option, None, Ok, Err, ap, ◌∙◌, subst}
use Rattle.ob_base.specs.declared.fault.Fault.{Fault}
use Rattle.ob_base.specs.declared.fault.Fault.TheVariants.{StoreFault}
use Rattle.ob_base.specs.declared.params.Params.{Params}
use Rattle.ob_base.specs.Layout.{record_cells, log_cell}
use Rattle.ob_store.specs.declared.event.Event.{Event}
use Rattle.ob_store.specs.declared.watch.Note.{Note}
use Rattle.ob_store.specs.Lines.{Trace}
use Rattle.ob_store.specs.Told.{Tells, TellsFirst, Does}
use Rattle.ob_store.proofs.Doing.{does_all, does_err}
use Rattle.ob_cells.specs.Orders.{read_notes}
use Rattle.ob_log.specs.Reads.{area_notes}

module _ (p : Params) (epoch base many : ℕ) (base_is : base ≡ log_cell p (epoch % 2) 0 0) (many_is : many ≡ p.batches * (record_cells p + 1)) (a b : Option (List Event)) (k l : Trace) where
  notes_are : read_notes base many ≡ area_notes p epoch
  notes_are = ap (λ from. read_notes from many) base_is ∙ ap (λ n. read_notes (log_cell p (epoch % 2) 0 0) n) many_is

  -- all cells were read
  pub area_read : Tells (read_notes base many) (read_notes base many) a b k l → Does {T = Unit {0}} {E = Fault} (area_notes p epoch) a b k l (Ok tt)
  area_read tells = subst (λ (xs : List Note). Does {T = Unit {0}} {E = Fault} xs a b k l (Ok tt)) notes_are (does_all a b k l (read_notes base many) tt tells)

  -- the store failed at one
  pub area_cut : TellsFirst (read_notes base many) a b k l → Does {T = Unit {0}} {E = Fault} (area_notes p epoch) a b k l (Err (StoreFault None))
  area_cut tells = subst (λ (xs : List Note). Does {T = Unit {0}} {E = Fault} xs a b k l (Err (StoreFault None))) notes_are (does_err a b k l (read_notes base many) (StoreFault None) tells)
