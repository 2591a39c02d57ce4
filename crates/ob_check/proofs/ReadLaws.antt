-- What a read of cells tells of a checkpoint.
use Rattle.std.specs.Prelude.{◌≡◌, ◌≤◌, ℕ, ◌*◌, ◌/◌, List, take, length, Option, Some, None, Result, Ok, Err, IfErr}
use Rattle.std.proofs.Common.{arith, rules, inl, sym, ap, subst, ◌∙◌, ⊎_elim}
use Rattle.std.proofs.lemmas.List.{length-take-le}
use Rattle.ob_base.specs.declared.fault.Check.{Check}
use Rattle.ob_base.specs.declared.fault.Check.TheVariants.{Tag, Seal, Epoch, Form}
use Rattle.ob_base.specs.declared.fault.Damaged.{Damaged}
use Rattle.ob_base.specs.declared.fault.Fault.{Fault}
use Rattle.ob_base.specs.declared.fault.Fault.TheVariants.{Memory, Usage, BadScript, BadParams, NotStore, Damaged as Broken, StoreFault, StashFull, Worn, SourceFault, SinkFault}
use Rattle.ob_base.specs.declared.params.Params.{Params}
use Rattle.ob_base.specs.Layout.{checkpoint_cells, checkpoint_len}
use Rattle.ob_base.proofs.LayoutLaws.{checkpoint_cells_hold}
use Rattle.ob_seal.specs.declared.keys.Keys.{Keys}
use Rattle.ob_seal.specs.Pieces.{piece}
use Rattle.ob_store.specs.declared.event.Event.{Event}
use Rattle.ob_store.specs.Disk.{Image}
use Rattle.ob_store.specs.Lines.{Trace}
use Rattle.ob_store.specs.Told.{Tells, Does}
use Rattle.ob_store.proofs.Doing.{does_all}
use Rattle.ob_cells.specs.declared.run.Identity.{Identity}
use Rattle.ob_cells.specs.Orders.{read_notes, reads_till, reads_end, IsRunFault}
use Rattle.ob_cells.specs.Reads.{IsRunRead}
use Rattle.ob_cells.specs.Rules.{Rule, told_of}
use Rattle.ob_cells.specs.Runs.{IsRun, run_at}
use Rattle.ob_check.specs.ReadBack.{IsCheckFault, IsCheckRead, IsCheckReadFault, IsOpenedTo, IsRefused}
use Rattle.ob_check.specs.Written.{area_of}

pub many_of : (p : Params) (n : ℕ) → n ≡ 96 * checkpoint_cells p → n / 96 ≡ checkpoint_cells p
many_of p n is = omega arith

-- the checkpoint's bytes are the first ones of the sheet
pub front_long : (p : Params) (sheet bytes plain : List ℕ) (n : ℕ) → length sheet ≡ 96 * checkpoint_cells p → length plain ≡ length sheet → bytes ≡ plain → n ≡ checkpoint_len p → n ≤ length bytes
front_long p sheet bytes plain n many long same is = let e : length bytes ≡ length plain = ap (λ (xs : List ℕ). length xs) same in omega (arith, checkpoint_cells_hold p)

pub opened_to : (keys : Keys) (p : Params) (epoch : ℕ) (image : Image) (base many n : ℕ) (first : Identity) (plain bytes : List ℕ) → base ≡ area_of p epoch → many ≡ checkpoint_cells p → n ≡ checkpoint_len p → n ≤ length bytes → bytes ≡ plain
    → IsRun keys base many first (λ i. piece i plain) (run_at base image) → IsOpenedTo keys p epoch image (take n bytes)
opened_to keys p epoch image base many n first plain bytes at cells is fits same run = record {
  first = first;
  plain = plain;
  whole = length-take-le n bytes fits ∙ is;
  front = ap (λ m. take m plain) (sym is) ∙ ap (take n) (sym same);
  run = subst (λ b. IsRun keys b (checkpoint_cells p) first (λ i. piece i plain) (run_at b image)) at (subst (λ m. IsRun keys base m first (λ i. piece i plain) (run_at base image)) cells run);
}

pub told_all : (p : Params) (epoch base many : ℕ) (old new : Option (List Event)) (before after : Trace) → base ≡ area_of p epoch → many ≡ checkpoint_cells p
    → Tells (read_notes base many) (read_notes base many) old new before after → Tells (read_notes (area_of p epoch) (checkpoint_cells p)) (read_notes (area_of p epoch) (checkpoint_cells p)) old new before after
told_all p epoch base many old new before after at cells tells =
    subst (λ b. Tells (read_notes b (checkpoint_cells p)) (read_notes b (checkpoint_cells p)) old new before after) at
    (subst (λ m. Tells (read_notes base m) (read_notes base m) old new before after) cells tells)

-- ---- where a read of the cells was refused

fault_in : (p : Params) (epoch : ℕ) (f : Fault) → IsRunFault (area_of p epoch) (checkpoint_cells p) f → IsCheckReadFault p epoch f
fault_in p epoch (Broken cell Tag kept computed) is = is
fault_in p epoch (Broken cell Seal kept computed) is = is
fault_in p epoch (Broken cell Form kept computed) is = tt
fault_in p epoch (Broken cell Epoch kept computed) is = tt
fault_in p epoch Memory is = absurd is
fault_in p epoch Usage is = absurd is
fault_in p epoch (BadScript line) is = absurd is
fault_in p epoch (BadParams field) is = absurd is
fault_in p epoch NotStore is = absurd is
fault_in p epoch (StoreFault unsure) is = is
fault_in p epoch (StashFull left) is = absurd is
fault_in p epoch (Worn number) is = absurd is
fault_in p epoch SourceFault is = absurd is
fault_in p epoch SinkFault is = absurd is

pub fault_of_run : (p : Params) (epoch base many : ℕ) (f : Fault) → base ≡ area_of p epoch → many ≡ checkpoint_cells p → IsRunFault base many f → IsCheckReadFault p epoch f
fault_of_run p epoch base many f at cells is = fault_in p epoch f (subst (λ b. IsRunFault b (checkpoint_cells p) f) at (subst (λ m. IsRunFault base m f) cells is))

module _ (p : Params) (epoch base many : ℕ) (old new : Option (List Event)) (before after : Trace) (at : base ≡ area_of p epoch) (cells : many ≡ checkpoint_cells p) where
  pub does_run : (f : Fault) → Does (reads_till base many f) old new before after (reads_end f) → Does (reads_till (area_of p epoch) (checkpoint_cells p) f) old new before after (reads_end f)
  does_run f does =
      subst (λ b. Does (reads_till b (checkpoint_cells p) f) old new before after (reads_end f)) at (subst (λ m. Does (reads_till base m f) old new before after (reads_end f)) cells does)

damage_in : (keys : Keys) (p : Params) (epoch : ℕ) (image : Image) (plain : List ℕ) (f : Fault) → IsRunRead keys (area_of p epoch) (checkpoint_cells p) (run_at (area_of p epoch) image) plain (Err f) → IsCheckRead keys p epoch image (Err f)
damage_in keys p epoch image plain (Broken cell check kept computed) is = inl is
damage_in keys p epoch image plain Memory is = tt
damage_in keys p epoch image plain Usage is = tt
damage_in keys p epoch image plain (BadScript line) is = tt
damage_in keys p epoch image plain (BadParams field) is = tt
damage_in keys p epoch image plain NotStore is = tt
damage_in keys p epoch image plain (StoreFault unsure) is = tt
damage_in keys p epoch image plain (StashFull left) is = tt
damage_in keys p epoch image plain (Worn number) is = tt
damage_in keys p epoch image plain SourceFault is = tt
damage_in keys p epoch image plain SinkFault is = tt

pub damage_of_run : (keys : Keys) (p : Params) (epoch : ℕ) (image : Image) (plain : List ℕ) (base many : ℕ) (f : Fault) → base ≡ area_of p epoch → many ≡ checkpoint_cells p → IsRunRead keys base many (run_at base image) plain (Err f)
    → IsCheckRead keys p epoch image (Err f)
damage_of_run keys p epoch image plain base many f at cells is =
    damage_in keys p epoch image plain f (subst (λ b. IsRunRead keys b (checkpoint_cells p) (run_at b image) plain (Err f)) at (subst (λ m. IsRunRead keys base m (run_at base image) plain (Err f)) cells is))

-- a refusal that isn't for want of memory
pub check_fault : (p : Params) (epoch : ℕ) (f : Fault) → IsCheckReadFault p epoch f → IsCheckFault p epoch f
check_fault p epoch (Broken cell check kept computed) is = is
check_fault p epoch Memory is = absurd is
check_fault p epoch Usage is = is
check_fault p epoch (BadScript line) is = is
check_fault p epoch (BadParams field) is = is
check_fault p epoch NotStore is = is
check_fault p epoch (StoreFault unsure) is = is
check_fault p epoch (StashFull left) is = is
check_fault p epoch (Worn number) is = is
check_fault p epoch SourceFault is = is
check_fault p epoch SinkFault is = is

pub check_faults : {T : Type 0} (p : Params) (epoch : ℕ) (r : Result T Fault) → IfErr r (IsCheckReadFault p epoch) → IfErr r (IsCheckFault p epoch)
check_faults p epoch (Ok v) is = tt
check_faults p epoch (Err f) is = check_fault p epoch f is

-- ---- where their bytes were

form_check : (P : Check → Type 0) → P Form → (base : ℕ) (broken : Option Rule) (d : Damaged) → told_of base broken ≡ Some d → P d.check
form_check P form base None d told = absurd (search (told, rules))
form_check P form base (Some rule) d told = subst (λ (o : Option Damaged). P (check_of o)) told form
  where
    check_of : Option Damaged → Check
    check_of None = Form
    check_of (Some e) = e.check

pub refused_check : (P : Check → Type 0) → P Epoch → P Form → (p : Params) (base epoch : ℕ) (bytes : List ℕ) (d : Damaged) → IsRefused p base epoch bytes d → P d.check
refused_check P other form p base epoch bytes d refused = ⊎_elim (λ e. subst (λ (x : Damaged). P x.check) (sym e.told_as) other) (λ m. form_check P form base _ d m.told_as) refused

pub refused_fault : (p : Params) (base epoch e : ℕ) (bytes : List ℕ) (d : Damaged) → IsRefused p base epoch bytes d → IsCheckReadFault p e (Broken d.cell d.check d.kept d.computed)
refused_fault p base epoch e bytes d refused = refused_check (λ c. IsCheckReadFault p e (Broken d.cell c d.kept d.computed)) tt tt p base epoch bytes d refused

pub refused_does : (p : Params) (base epoch from many : ℕ) (bytes : List ℕ) (d : Damaged) (old new : Option (List Event)) (before after : Trace) → IsRefused p base epoch bytes d
    → Tells (read_notes from many) (read_notes from many) old new before after → Does (reads_till from many (Broken d.cell d.check d.kept d.computed)) old new before after (reads_end (Broken d.cell d.check d.kept d.computed))
refused_does p base epoch from many bytes d old new before after refused tells =
    let all = does_all old new before after (read_notes from many) tt tells in
    refused_check (λ c. Does (reads_till from many (Broken d.cell c d.kept d.computed)) old new before after (reads_end (Broken d.cell c d.kept d.computed))) all all p base epoch bytes d refused
