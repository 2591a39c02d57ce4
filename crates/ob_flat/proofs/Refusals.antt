-- What a refused end of an epoch leaves and tells.
use Rattle.std.proofs.Common.{◌≡◌, ◌⊎◌, inl, inr, ⊎_elim, ℕ, suc, ◌+◌, ◌≤◌, ◌<◌, ◌^◌, List, length, Option, None, Err, refl, sym, subst}
use Rattle.ob_store.specs.declared.event.Event.{Event}
use Rattle.ob_base.specs.declared.params.Params.{Params}
use Rattle.ob_base.specs.declared.fault.Fault.{Fault}
use Rattle.ob_base.specs.declared.fault.Fault.TheVariants.{StoreFault}
use Rattle.ob_store.specs.declared.watch.Note.{Note}
use Rattle.ob_store.specs.Disk.{Disk, Image}
use Rattle.ob_store.specs.Images.{LeavesOnly}
use Rattle.ob_store.specs.Calls.{Holds, Notes}
use Rattle.ob_store.specs.Lines.{Trace, Shows}
use Rattle.ob_store.specs.Told.{events_of}
use Rattle.ob_store.proofs.Moments.{started}
use Rattle.ob_seal.specs.declared.keys.Keys.{Keys}
use Rattle.ob_cells.specs.Runs.{IsFurther}
use Rattle.ob_twin.specs.declared.gates.Open.{Open}
use Rattle.ob_twin.specs.declared.twin.Twin.TheVariants.{EPOCH}
use Rattle.ob_twin.specs.declared.set_err.SetErr.{SetErr}
use Rattle.ob_twin.specs.declared.set_err.SetErr.TheVariants.{Before, Unsure}
use Rattle.ob_twin.specs.Clear.{AreInClearBut}
use Rattle.ob_twin.specs.Keyed.{tagging}
use Rattle.ob_twin.specs.Refused.{IsSetFault, IsBefore}
use Rattle.ob_pads.specs.Seals.{ClearBy}
use Rattle.ob_serial.specs.declared.vault.EndErr.{EndErr}
use Rattle.ob_serial.specs.declared.vault.EndErr.TheVariants as end
use Rattle.ob_serial.specs.Vaults.{Standing, RefusedBy}
use Rattle.ob_serial.specs.VaultViews.{end_answer}
use Rattle.ob_flat.specs.Rows.{row_cells}
use Rattle.ob_flat.specs.Places.{area_of}
use Rattle.ob_flat.specs.Standing.{StandsFlat}
use Rattle.ob_flat.specs.Orders.{end_events, end_gate_notes}
use Rattle.ob_flat.specs.Ends.{EndsFrom, StandsAtOne, EndsIn, EndTells, IfUnsure, end_err_of}
use Rattle.ob_flat.specs.Calls.{Holding, EndDoes}
use Rattle.ob_flat.proofs.Moved.{stands_same}

-- nothing was done
pub none_done : (keys : Keys) (p : Params) (g : ℕ) (old : Disk) (epoch : ℕ) (values : List (Option (List ℕ))) (now next : Standing) → EndsFrom keys p g old epoch values now next → ((c : Image) → old.left_since old.moment c → old.may_leave c) → LeavesOnly old old (λ c. StandsFlat keys p g c now)
none_done keys p g old epoch values now next from only = started old (λ c. StandsFlat keys p g c now) (λ c left. stands_same keys p g now c old.cells (from.settled c (only c left)) from.stands) (λ tells. from.stands)

-- what a refused end leaves
pub refused_leaves : (keys : Keys) (p : Params) (g : ℕ) (old new : Disk) (now next : Standing) (refused : SetErr) (r : EndErr) → r ≡ end_err_of refused → (IsBefore (Err refused) → LeavesOnly old new (λ c. StandsFlat keys p g c now)) → LeavesOnly old new (StandsAtOne keys p g now next)
    → EndsIn keys p g old new now next (end_answer (Err r))
refused_leaves keys p g old new now next (Before fault) r is before either = subst (λ (e : EndErr). EndsIn keys p g old new now next (end_answer (Err e))) (sym is) (before tt)
refused_leaves keys p g old new now next (Unsure fault) r is before either = subst (λ (e : EndErr). EndsIn keys p g old new now next (end_answer (Err e))) (sym is) either

module _ {S : Type 0} (p : Params) (known : Open) (epoch : ℕ) (values : List (Option (List ℕ))) (before after : Holding S) (old new : Disk) (shown_old shown_new : Trace) where
  abbrev pub Telling : EndErr → Type 0
  Telling r = (notes : List Note) × Shows notes shown_old shown_new × EndDoes p known epoch values before after old new notes (end_answer (Err r))

  -- what it tells
  pub refused_tells : (refused : SetErr) (r : EndErr) → r ≡ end_err_of refused → suc epoch < 2 ^ 62 → before.sealing.next + p.keys ≤ 2 ^ 62 → IsFurther p.keys before.sealing after.sealing → IsSetFault EPOCH (suc epoch) refused
      → EndTells p.keys known (suc epoch) old.seen new.seen shown_old shown_new (Err refused)
      → (rows : List (Option (List ℕ))) → length rows ≡ p.keys
      → IfUnsure (old.tells → Holds (area_of p.keys (suc epoch)) (row_cells before.sealing.keys (area_of p.keys (suc epoch)) before.sealing.generation before.sealing.next rows) new.cells) refused
      → IfUnsure (after.sealing ≡ record before.sealing { next = before.sealing.next + p.keys }) refused → Telling r
  refused_tells (Before fault) r is small room seals says first rows whole written all =
      let short : EndDoes p known epoch values before after old new first.shown (RefusedBy (StoreFault None)) = (refl, record { small = small; room = room; seals = seals; made = first.made; cut = first.cut; seen = first.tells.seen }) in
      subst Telling (sym is) (first.shown, first.tells.shows, subst (λ (f : Fault). EndDoes p known epoch values before after old new first.shown (RefusedBy f)) (sym says) short)
  refused_tells (Unsure fault) r is small room seals says either rows whole written all =
      let notes = end_gate_notes p.keys known (suc epoch) in
      let shows : Shows notes shown_old shown_new = ⊎_elim (λ gate. gate.shows) (λ all. all.shows) either in
      let seen : Notes (events_of notes) old.seen new.seen ⊎ Notes (end_events p.keys known (suc epoch)) old.seen new.seen = ⊎_elim (λ gate. inl gate.seen) (λ all. inr all.seen) either in
      subst Telling (sym is) (notes, shows, (says, record { small = small; room = room; seals = seals; shown = refl; seen = seen; rows = rows; whole = whole; written = written; all_sealed = all }))

-- what a refused end tells speaks of no values
module _ {S : Type 0} (p : Params) (known : Open) (epoch : ℕ) (values : List (Option (List ℕ))) (before after : Holding S) (old new : Disk) where
  pub values_free : (kept : List (Option (List ℕ))) (notes : List Note) (r : EndErr) → EndDoes p known epoch values before after old new notes (end_answer (Err r)) → EndDoes p known epoch kept before after old new notes (end_answer (Err r))
  values_free kept notes (end.Before fault) does = does
  values_free kept notes (end.Unsure fault) does = does

-- what a refused end leaves in the clear
pub closed_clear : (keys : Keys) (seen : Option (List Event)) (old new : Image) (refused : SetErr) → AreInClearBut (tagging keys) seen old new → ClearBy (end_answer (Err (end_err_of refused))) keys seen old new
closed_clear keys seen old new (Before f) clear = clear
closed_clear keys seen old new (Unsure f) clear = clear
