-- What a read of a store finds, and what stands is found.
use Rattle.std.proofs.Common.{◌≡◌, inl, inr, ⊎_elim, ℕ, suc, ◌+◌, ◌≤◌, ◌-◌, List, Option, Some, None, Result, Ok, Err, refl, sym, ◌∙◌, subst, arith, add-one}
use Rattle.ob_base.specs.declared.params.Params.{Params}
use Rattle.ob_base.specs.declared.fault.Damaged.{Damaged as Damage}
use Rattle.ob_base.specs.declared.fault.Fault.{Fault}
use Rattle.ob_base.specs.declared.fault.Fault.TheVariants.{Memory, Usage, BadScript, BadParams, NotStore, Damaged, StoreFault, StashFull, Worn, SourceFault, SinkFault}
use Rattle.ob_base.specs.Layout.{checkpoint_cells}
use Rattle.ob_store.specs.declared.event.Event.{Event}
use Rattle.ob_store.specs.declared.watch.Note.{Note}
use Rattle.ob_store.specs.Disk.{Disk, Image}
use Rattle.ob_store.specs.Images.{Same, Passes}
use Rattle.ob_store.specs.Calls.{Keeps}
use Rattle.ob_store.specs.Lines.{Trace}
use Rattle.ob_store.specs.Told.{Tells, TellsFirst, Does}
use Rattle.ob_store.proofs.Doing.{first_all}
use Rattle.ob_store.proofs.Moments.{passed_then}
use Rattle.ob_seal.specs.declared.keys.Keys.{Keys}
use Rattle.ob_tables.specs.Buckets.{Buckets}
use Rattle.ob_tables.specs.declared.tables.Tables.{Tables}
use Rattle.ob_base.specs.declared.fault.Check.TheVariants.{Tag, Seal, Epoch, Form}
use Rattle.ob_cells.specs.Orders.{read_notes, run_reads, reads_of}
use Rattle.ob_store.proofs.Runs.{length_run, take_run}
use Rattle.ob_store.specs.declared.watch.Note.TheVariants as note
use Rattle.ob_twin.specs.Keyed.{tagging}
use Rattle.ob_twin.specs.Register.{StandsAt}
use Rattle.ob_twin.specs.Reading.{NoneOpen, AllWhole, Counts}
use Rattle.ob_twin.specs.Got.{DoesReads}
use Rattle.ob_twin.proofs.Judging.{number_read, damage_read, read_at}
use Rattle.ob_start.specs.declared.registers.Numbers.{Numbers}
use Rattle.ob_start.specs.Orders.{registers_notes}
use Rattle.ob_start.specs.Registers.{AreRegisters, IsRegistersFault, IsRegisterDamage, Found}
use Rattle.ob_log.specs.Logs.{BatchRecord}
use Rattle.ob_log.specs.Reads as log
use Rattle.ob_log.specs.Reads.{AreRecordsRead, AreReadBack, area_notes}
use Rattle.ob_check.specs.ReadBack.{IsCheckRead, IsCheckFault, IsReadFrom, IsContentRead}
use Rattle.ob_check.specs.Written.{area_of}
use Rattle.ob_check.proofs.BackLaws as back
use Rattle.ob_stand.specs.Stands.{RingStanding, Stands}
use Rattle.ob_recover.specs.Finds.{IsFindOf, IsFindFault, FindsStanding, FindsPart, FindDoes}

-- a number's successor, and one more
pub at_next : (P : ℕ → Type 0) (n : ℕ) → P (n + 1) → P (suc n)
at_next P n p = subst P (add-one n) p

pub at_sum : (P : ℕ → Type 0) (n : ℕ) → P (suc n) → P (n + 1)
at_sum P n p = subst P (sym (add-one n)) p

pub keeps_both : (a b c : Disk) → Keeps a b → Keeps b c → Keeps a c
keeps_both a b c first second = record { tells = λ t. second.tells (first.tells t); cells = λ t k. second.cells (first.tells t) k ∙ first.cells t k }

-- reads, and then reads
pub reads_both : (a b c : Disk) → Passes Same a b → Passes Same b c → Passes Same a c
reads_both a b c first second = passed_then Same a b c (λ x y z one two. one ∙ two) first second

-- the number that counts is the one that the register stands at
pub number_found : (keys : Keys) (first : ℕ) (image : Image) (g n : ℕ) → StandsAt (tagging keys) first image g → AllWhole (tagging keys) first image → Counts first image n → n ≡ g
number_found keys first image g n stands whole counts = let same : Some n ≡ Some g = number_read (tagging keys) first g image stands (Some n) (whole, counts) in cc

-- a register that stands at a number has an open gate
pub not_closed : (keys : Keys) (first : ℕ) (image : Image) (g : ℕ) → StandsAt (tagging keys) first image g → NoneOpen first image → ⊥
not_closed keys first image g stands none = let is = read_at (tagging keys) first g image stands (Ok None) none in cc

-- where the registers stand none is damaged
pub no_damage : (keys : Keys) (image : Image) (g e : ℕ) (d : Damage) → StandsAt (tagging keys) 1 image g → StandsAt (tagging keys) 5 image e → IsRegisterDamage keys image d → ⊥
no_damage keys image g e d generation epoch damage = ⊎_elim (λ first. damage_read (tagging keys) 1 g image generation d first) (λ both. damage_read (tagging keys) 5 e image epoch d both.1) damage.first

-- ---- refused at the registers

-- what is answered
pub registers_find : (keys : Keys) (p : Params) (image : Image) (f : Fault) → IsRegistersFault f → AreRegisters keys image (Err f) → IsFindOf keys p image (Err f)
registers_find keys p image Memory fault are = absurd fault
registers_find keys p image Usage fault are = absurd fault
registers_find keys p image (BadScript line) fault are = absurd fault
registers_find keys p image (BadParams field) fault are = absurd fault
registers_find keys p image NotStore fault are = are
registers_find keys p image (Damaged cell check kept computed) fault are = inl are
registers_find keys p image (StoreFault unsure) fault are = tt
registers_find keys p image (StashFull rows) fault are = absurd fault
registers_find keys p image (Worn number) fault are = absurd fault
registers_find keys p image SourceFault fault are = absurd fault
registers_find keys p image SinkFault fault are = absurd fault

-- the kind of fault
pub registers_fault : (f : Fault) → IsRegistersFault f → IsFindFault f
registers_fault Memory fault = absurd fault
registers_fault Usage fault = absurd fault
registers_fault (BadScript line) fault = absurd fault
registers_fault (BadParams field) fault = absurd fault
registers_fault NotStore fault = tt
registers_fault (Damaged cell check kept computed) fault = tt
registers_fault (StoreFault unsure) fault = fault
registers_fault (StashFull rows) fault = absurd fault
registers_fault (Worn number) fault = absurd fault
registers_fault SourceFault fault = absurd fault
registers_fault SinkFault fault = absurd fault

-- not of a store that stands
pub registers_stand : (keys : Keys) (p : Params) (s : RingStanding) (image : Image) (f : Fault) → IsRegistersFault f → AreRegisters keys image (Err f) → Stands keys p s image → FindsStanding s (Err f)
registers_stand keys p s image Memory fault are stands = absurd fault
registers_stand keys p s image Usage fault are stands = absurd fault
registers_stand keys p s image (BadScript line) fault are stands = absurd fault
registers_stand keys p s image (BadParams field) fault are stands = absurd fault
registers_stand keys p s image NotStore fault are stands = absurd (⊎_elim (not_closed keys 1 image s.generation stands.generation) (not_closed keys 5 image s.epoch stands.epoch) are)
registers_stand keys p s image (Damaged cell check kept computed) fault are stands = absurd (no_damage keys image s.generation s.epoch (record { cell = cell; check = check; kept = kept; computed = computed }) stands.generation stands.epoch are)
registers_stand keys p s image (StoreFault unsure) fault are stands = tt
registers_stand keys p s image (StashFull rows) fault are stands = absurd fault
registers_stand keys p s image (Worn number) fault are stands = absurd fault
registers_stand keys p s image SourceFault fault are stands = absurd fault
registers_stand keys p s image SinkFault fault are stands = absurd fault

-- what was read
pub registers_does : (keys : Keys) (p : Params) (old new : Disk) (k l : Trace) (f : Fault) → IsRegistersFault f → DoesReads {V = Numbers} registers_notes old.seen new.seen k l (Err f) → FindDoes keys p old new k l (Err f)
registers_does keys p old new k l Memory fault tells = absurd fault
registers_does keys p old new k l Usage fault tells = absurd fault
registers_does keys p old new k l (BadScript line) fault tells = absurd fault
registers_does keys p old new k l (BadParams field) fault tells = absurd fault
registers_does keys p old new k l NotStore fault tells = tells
registers_does keys p old new k l (Damaged cell check kept computed) fault tells = inl (first_all old.seen new.seen k l registers_notes tells)
registers_does keys p old new k l (StoreFault unsure) fault tells = inl tells
registers_does keys p old new k l (StashFull rows) fault tells = absurd fault
registers_does keys p old new k l (Worn number) fault tells = absurd fault
registers_does keys p old new k l SourceFault fault tells = absurd fault
registers_does keys p old new k l SinkFault fault tells = absurd fault

-- ---- refused at the checkpoint

-- what is answered
pub check_find : (keys : Keys) (p : Params) (image : Image) (g e : ℕ) (f : Fault) → Found keys image g e → IsCheckFault p e f → IsCheckRead keys p e image (Err f) → IsFindOf keys p image (Err f)
check_find keys p image g e Memory found fault read = tt
check_find keys p image g e Usage found fault read = absurd fault
check_find keys p image g e (BadScript line) found fault read = absurd fault
check_find keys p image g e (BadParams field) found fault read = absurd fault
check_find keys p image g e NotStore found fault read = absurd fault
check_find keys p image g e (Damaged cell check kept computed) found fault read = inr (inl (record { generation = g; epoch = e; registers = found; first = read }))
check_find keys p image g e (StoreFault unsure) found fault read = tt
check_find keys p image g e (StashFull rows) found fault read = absurd fault
check_find keys p image g e (Worn number) found fault read = absurd fault
check_find keys p image g e SourceFault found fault read = absurd fault
check_find keys p image g e SinkFault found fault read = absurd fault

-- the kind of fault
pub check_fault : (p : Params) (e : ℕ) (f : Fault) → IsCheckFault p e f → IsFindFault f
check_fault p e Memory fault = tt
check_fault p e Usage fault = absurd fault
check_fault p e (BadScript line) fault = absurd fault
check_fault p e (BadParams field) fault = absurd fault
check_fault p e NotStore fault = absurd fault
check_fault p e (Damaged cell check kept computed) fault = tt
check_fault p e (StoreFault unsure) fault = fault
check_fault p e (StashFull rows) fault = absurd fault
check_fault p e (Worn number) fault = absurd fault
check_fault p e SourceFault fault = absurd fault
check_fault p e SinkFault fault = absurd fault

-- the checkpoint of a store that stands is read back
pub check_read : (keys : Keys) (p : Params) (s : RingStanding) (image : Image) (r : Result (Tables Buckets) Fault) → Stands keys p s image → IsCheckRead keys p s.epoch image r → IsContentRead s.content r
check_read keys p s image r stands read =
    let held = stands.holds.checkpoint in
    let small = stands.epoch.small in
    back.reads_back keys p s.epoch s.content held.first.generation held.first.number image r (omega arith) held.run.generation_fits held.run.number_fits stands.holds.obeys held.run.sealed_so read

-- not of a store that stands
pub check_stands : (keys : Keys) (p : Params) (s : RingStanding) (image : Image) (e : ℕ) (f : Fault) → IsCheckFault p e f → IsCheckRead keys p e image (Err f) → e ≡ s.epoch → Stands keys p s image → FindsStanding s (Err f)
check_stands keys p s image e Memory fault read at stands = tt
check_stands keys p s image e Usage fault read at stands = absurd fault
check_stands keys p s image e (BadScript line) fault read at stands = absurd fault
check_stands keys p s image e (BadParams field) fault read at stands = absurd fault
check_stands keys p s image e NotStore fault read at stands = absurd fault
check_stands keys p s image e (Damaged cell check kept computed) fault read at stands = absurd (check_read keys p s image (Err (Damaged cell check kept computed)) stands (subst (λ n. IsCheckRead keys p n image (Err (Damaged cell check kept computed))) at read))
check_stands keys p s image e (StoreFault unsure) fault read at stands = tt
check_stands keys p s image e (StashFull rows) fault read at stands = absurd fault
check_stands keys p s image e (Worn number) fault read at stands = absurd fault
check_stands keys p s image e SourceFault fault read at stands = absurd fault
check_stands keys p s image e SinkFault fault read at stands = absurd fault

-- some of a run's reads were made, the first ones
first_reads : (base many n : ℕ) (a b : Option (List Event)) (k l : Trace) → n ≤ many → Tells (read_notes base n) (read_notes base n) a b k l → TellsFirst (read_notes base many) a b k l
first_reads base many n a b k l few told = record {
  made = read_notes base n;
  shown = read_notes base n;
  cut = record {
    count = n;
    few = omega (arith, few, length_run (λ cell. note.Read cell) base many);
    made_are = sym (take_run (λ cell. note.Read cell) base many n few);
    shown_are = inl refl;
  };
  tells = told;
}

-- some of the cells were read
pub check_front : (p : Params) (e : ℕ) (a b : Option (List Event)) (k l : Trace) (f : Fault) → IsCheckFault p e f
    → Does (run_reads {T = Tables Buckets} (area_of p e) (checkpoint_cells p) (Err f)) a b k l (reads_of {T = Tables Buckets} (Err f)) → TellsFirst (read_notes (area_of p e) (checkpoint_cells p)) a b k l
check_front p e a b k l Memory fault does = does.first
check_front p e a b k l Usage fault does = absurd fault
check_front p e a b k l (BadScript line) fault does = absurd fault
check_front p e a b k l (BadParams field) fault does = absurd fault
check_front p e a b k l NotStore fault does = absurd fault
check_front p e a b k l (Damaged cell Tag kept computed) fault does = first_reads (area_of p e) (checkpoint_cells p) (cell + 1 - area_of p e) a b k l (let low = fault.0 in let high = fault.1 in omega arith) does.all
check_front p e a b k l (Damaged cell Seal kept computed) fault does = first_reads (area_of p e) (checkpoint_cells p) (cell + 1 - area_of p e) a b k l (let low = fault.0 in let high = fault.1 in omega arith) does.all
check_front p e a b k l (Damaged cell Epoch kept computed) fault does = first_all a b k l (read_notes (area_of p e) (checkpoint_cells p)) does.all
check_front p e a b k l (Damaged cell Form kept computed) fault does = first_all a b k l (read_notes (area_of p e) (checkpoint_cells p)) does.all
check_front p e a b k l (StoreFault unsure) fault does = does.first
check_front p e a b k l (StashFull rows) fault does = absurd fault
check_front p e a b k l (Worn number) fault does = absurd fault
check_front p e a b k l SourceFault fault does = absurd fault
check_front p e a b k l SinkFault fault does = absurd fault

-- ---- refused at the log

-- what is answered
pub log_find : (keys : Keys) (p : Params) (image : Image) (g e : ℕ) (t : Tables Buckets) (f : Fault) → Found keys image g e → IsReadFrom keys p e image t → log.IsRecordReadFault f → AreRecordsRead keys p (suc e) image (Err f) → IsFindOf keys p image (Err f)
log_find keys p image g e t Memory found read fault are = tt
log_find keys p image g e t Usage found read fault are = absurd fault
log_find keys p image g e t (BadScript line) found read fault are = absurd fault
log_find keys p image g e t (BadParams field) found read fault are = absurd fault
log_find keys p image g e t NotStore found read fault are = absurd fault
log_find keys p image g e t (Damaged cell check kept computed) found read fault are = inr (inr (record { generation = g; epoch = e; tables = t; registers = found; read = read; first = are }))
log_find keys p image g e t (StoreFault unsure) found read fault are = tt
log_find keys p image g e t (StashFull rows) found read fault are = absurd fault
log_find keys p image g e t (Worn number) found read fault are = absurd fault
log_find keys p image g e t SourceFault found read fault are = absurd fault
log_find keys p image g e t SinkFault found read fault are = absurd fault

-- the kind of fault
pub log_fault : (f : Fault) → log.IsRecordReadFault f → IsFindFault f
log_fault Memory fault = tt
log_fault Usage fault = absurd fault
log_fault (BadScript line) fault = absurd fault
log_fault (BadParams field) fault = absurd fault
log_fault NotStore fault = absurd fault
log_fault (Damaged cell check kept computed) fault = tt
log_fault (StoreFault unsure) fault = fault
log_fault (StashFull rows) fault = absurd fault
log_fault (Worn number) fault = absurd fault
log_fault SourceFault fault = absurd fault
log_fault SinkFault fault = absurd fault

-- not of a store that stands
pub log_stands : (s : RingStanding) (f : Fault) → log.IsRecordReadFault f → AreReadBack s.records (Err f) → FindsStanding s (Err f)
log_stands s Memory fault back = tt
log_stands s Usage fault back = absurd fault
log_stands s (BadScript line) fault back = absurd fault
log_stands s (BadParams field) fault back = absurd fault
log_stands s NotStore fault back = absurd fault
log_stands s (Damaged cell check kept computed) fault back = absurd back
log_stands s (StoreFault unsure) fault back = tt
log_stands s (StashFull rows) fault back = absurd fault
log_stands s (Worn number) fault back = absurd fault
log_stands s SourceFault fault back = absurd fault
log_stands s SinkFault fault back = absurd fault

-- some of the cells were read
pub log_front : (steps : List Note) (a b : Option (List Event)) (k l : Trace) (f : Fault) → log.IsRecordReadFault f → Does steps a b k l (reads_of {T = List BatchRecord} (Err f)) → TellsFirst steps a b k l
log_front steps a b k l Memory fault does = does.first
log_front steps a b k l Usage fault does = absurd fault
log_front steps a b k l (BadScript line) fault does = absurd fault
log_front steps a b k l (BadParams field) fault does = absurd fault
log_front steps a b k l NotStore fault does = absurd fault
log_front steps a b k l (Damaged cell check kept computed) fault does = first_all a b k l steps does.all
log_front steps a b k l (StoreFault unsure) fault does = does.first
log_front steps a b k l (StashFull rows) fault does = absurd fault
log_front steps a b k l (Worn number) fault does = absurd fault
log_front steps a b k l SourceFault fault does = absurd fault
log_front steps a b k l SinkFault fault does = absurd fault

-- a refusal that isn't of the registers
abbrev pub IsPart : Fault → Type 0
IsPart Memory = Unit {0}
IsPart (Damaged cell check kept computed) = Unit {0}
IsPart (StoreFault unsure) = Unit {0}
IsPart _ = ⊥

pub check_part : (p : Params) (e : ℕ) (f : Fault) → IsCheckFault p e f → IsPart f
check_part p e Memory fault = tt
check_part p e Usage fault = absurd fault
check_part p e (BadScript line) fault = absurd fault
check_part p e (BadParams field) fault = absurd fault
check_part p e NotStore fault = absurd fault
check_part p e (Damaged cell check kept computed) fault = tt
check_part p e (StoreFault unsure) fault = tt
check_part p e (StashFull rows) fault = absurd fault
check_part p e (Worn number) fault = absurd fault
check_part p e SourceFault fault = absurd fault
check_part p e SinkFault fault = absurd fault

pub log_part : (f : Fault) → log.IsRecordReadFault f → IsPart f
log_part Memory fault = tt
log_part Usage fault = absurd fault
log_part (BadScript line) fault = absurd fault
log_part (BadParams field) fault = absurd fault
log_part NotStore fault = absurd fault
log_part (Damaged cell check kept computed) fault = tt
log_part (StoreFault unsure) fault = tt
log_part (StashFull rows) fault = absurd fault
log_part (Worn number) fault = absurd fault
log_part SourceFault fault = absurd fault
log_part SinkFault fault = absurd fault

-- has read some, the first ones
pub part_does : (keys : Keys) (p : Params) (old new : Disk) (k l : Trace) (f : Fault) → IsPart f → FindsPart keys p old new k l → FindDoes keys p old new k l (Err f)
part_does keys p old new k l Memory fault part = inr part
part_does keys p old new k l Usage fault part = absurd fault
part_does keys p old new k l (BadScript line) fault part = absurd fault
part_does keys p old new k l (BadParams field) fault part = absurd fault
part_does keys p old new k l NotStore fault part = absurd fault
part_does keys p old new k l (Damaged cell check kept computed) fault part = inr part
part_does keys p old new k l (StoreFault unsure) fault part = inr part
part_does keys p old new k l (StashFull rows) fault part = absurd fault
part_does keys p old new k l (Worn number) fault part = absurd fault
part_does keys p old new k l SourceFault fault part = absurd fault
part_does keys p old new k l SinkFault fault part = absurd fault
