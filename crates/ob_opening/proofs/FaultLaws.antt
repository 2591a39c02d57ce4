-- What a refused opening tells, by its fault.
use Rattle.std.proofs.Common.{◌≡◌, ◌⊎◌, ⊎_elim, inl, inr, ℕ, suc, ◌<◌, ◌^◌, List, Result, Ok, Err, IfErr, OnErr, refl, sym, ap, subst, ◌∙◌, arith}
use Rattle.ob_base.specs.declared.params.Params.{Params}
use Rattle.ob_base.specs.declared.fault.Fault.{Fault}
use Rattle.ob_base.specs.declared.fault.Fault.TheVariants.{Memory, Usage, BadScript, BadParams, NotStore, Damaged, StoreFault, StashFull, Worn, SourceFault, SinkFault}
use Rattle.ob_store.specs.Calls.{Keeps}
use Rattle.ob_store.specs.Disk.{Disk, Image}
use Rattle.ob_store.specs.Images.{Passes, Same}
use Rattle.ob_store.specs.Lines.{Trace}
use Rattle.ob_store.specs.Told.{Tells}
use Rattle.ob_seal.specs.declared.keys.Keys.{Keys}
use Rattle.ob_twin.specs.Register.{SameOutside}
use Rattle.ob_start.specs.Beginning.{IsBeginFault, IsWornFault}
use Rattle.ob_tables.specs.Content.{content_of}
use Rattle.ob_stand.specs.Stands.{RingStanding}
use Rattle.ob_recover.specs.declared.found.Found.{Found}
use Rattle.ob_recover.specs.Finds.{FindDoes, FindsStanding, IsFindFault, IsFindOf, IsFoundInRing, finding_notes}
use Rattle.ob_recover.specs.Repeats.{IsRepeatFault, IsReplayOf}
use Rattle.ob_opening.specs.declared.opening.Opening.{Opening}
use Rattle.ob_opening.specs.OpeningParts.{FoundDoes, FoundStays, IsFoundFault, IsFoundRefusal}
use Rattle.ob_opening.specs.OpeningRuns.{BeginsFirst, IsReadAlone, ReadsAll, RefusedDoes, RefusedWrites, StartsTape, begun_notes, next_notes}
use Rattle.ob_opening.specs.Openings.{IsOpenFault, IsOpenRefusal, IsStandingRefusal}
use Rattle.ob_opening.proofs.Movings.{damage_off}
use Rattle.ob_opening.proofs.OpenedLaws.{first_of_both}

-- ---- a generation that didn't begin

pub begin_fault : (g : ℕ) (f : Fault) → IsBeginFault g f → IsFoundFault g f
begin_fault g Memory fault = absurd fault
begin_fault g Usage fault = absurd fault
begin_fault g (BadScript line) fault = absurd fault
begin_fault g (BadParams field) fault = absurd fault
begin_fault g NotStore fault = absurd fault
begin_fault g (Damaged cell check kept computed) fault = absurd fault
begin_fault g (StoreFault unsure) fault = fault.0
begin_fault g (StashFull rows) fault = absurd fault
begin_fault g (Worn number) fault = fault
begin_fault g SourceFault fault = absurd fault
begin_fault g SinkFault fault = absurd fault

pub begin_refusal : (keys : Keys) (p : Params) (image : Image) (found : Found) (f : Fault) → IsBeginFault found.generation f → IsFoundRefusal keys p image found f
begin_refusal keys p image found Memory fault = absurd fault
begin_refusal keys p image found Usage fault = absurd fault
begin_refusal keys p image found (BadScript line) fault = absurd fault
begin_refusal keys p image found (BadParams field) fault = absurd fault
begin_refusal keys p image found NotStore fault = absurd fault
begin_refusal keys p image found (Damaged cell check kept computed) fault = absurd fault
begin_refusal keys p image found (StoreFault unsure) fault = tt
begin_refusal keys p image found (StashFull rows) fault = absurd fault
begin_refusal keys p image found (Worn number) fault = tt
begin_refusal keys p image found SourceFault fault = absurd fault
begin_refusal keys p image found SinkFault fault = absurd fault

pub begin_stays : {S T W : Type 0} (g present : ℕ) (old new : S) (tape : T) (before after : W) (f : Fault) → IsBeginFault g f → (IsWornFault f → (new ≡ old) × (after ≡ before)) → FoundStays old new tape tape before after present g f
begin_stays g present old new tape before after Memory fault still = absurd fault
begin_stays g present old new tape before after Usage fault still = absurd fault
begin_stays g present old new tape before after (BadScript line) fault still = absurd fault
begin_stays g present old new tape before after (BadParams field) fault still = absurd fault
begin_stays g present old new tape before after NotStore fault still = absurd fault
begin_stays g present old new tape before after (Damaged cell check kept computed) fault still = absurd fault
begin_stays g present old new tape before after (StoreFault unsure) fault still = tt
begin_stays g present old new tape before after (StashFull rows) fault still = absurd fault
begin_stays g present old new tape before after (Worn number) fault still = ((still tt).0, (refl, (still tt).1))
begin_stays g present old new tape before after SourceFault fault still = absurd fault
begin_stays g present old new tape before after SinkFault fault still = absurd fault

-- ---- batches that weren't repeated

pub repeat_fault : (g : ℕ) (f : Fault) → suc g < 2 ^ 62 → IsRepeatFault f → IsFoundFault g f
repeat_fault g Memory more fault = absurd fault
repeat_fault g Usage more fault = absurd fault
repeat_fault g (BadScript line) more fault = absurd fault
repeat_fault g (BadParams field) more fault = absurd fault
repeat_fault g NotStore more fault = absurd fault
repeat_fault g (Damaged cell check kept computed) more fault = more
repeat_fault g (StoreFault unsure) more fault = fault
repeat_fault g (StashFull rows) more fault = absurd fault
repeat_fault g (Worn number) more fault = absurd fault
repeat_fault g SourceFault more fault = absurd fault
repeat_fault g SinkFault more fault = absurd fault

pub repeat_refusal : (keys : Keys) (p : Params) (a b : Image) (found : Found) (f : Fault) → SameOutside 1 a b → IsRepeatFault f → IsReplayOf keys p a found (Err f) → IsFoundRefusal keys p b found f
repeat_refusal keys p a b found Memory same fault was = absurd fault
repeat_refusal keys p a b found Usage same fault was = absurd fault
repeat_refusal keys p a b found (BadScript line) same fault was = absurd fault
repeat_refusal keys p a b found (BadParams field) same fault was = absurd fault
repeat_refusal keys p a b found NotStore same fault was = absurd fault
repeat_refusal keys p a b found (Damaged cell check kept computed) same fault was = damage_off keys p (content_of found.tables) found.records a b (record { cell = cell; check = check; kept = kept; computed = computed }) same was
repeat_refusal keys p a b found (StoreFault unsure) same fault was = tt
repeat_refusal keys p a b found (StashFull rows) same fault was = absurd fault
repeat_refusal keys p a b found (Worn number) same fault was = absurd fault
repeat_refusal keys p a b found SourceFault same fault was = absurd fault
repeat_refusal keys p a b found SinkFault same fault was = absurd fault

pub repeat_stays : {S T W : Type 0} (g present : ℕ) (old new : S) (tape tape' : T) (before after : W) (f : Fault) → IsRepeatFault f → present ≡ suc g → FoundStays old new tape tape' before after present g f
repeat_stays g present old new tape tape' before after Memory fault at = absurd fault
repeat_stays g present old new tape tape' before after Usage fault at = absurd fault
repeat_stays g present old new tape tape' before after (BadScript line) fault at = absurd fault
repeat_stays g present old new tape tape' before after (BadParams field) fault at = absurd fault
repeat_stays g present old new tape tape' before after NotStore fault at = absurd fault
repeat_stays g present old new tape tape' before after (Damaged cell check kept computed) fault at = at
repeat_stays g present old new tape tape' before after (StoreFault unsure) fault at = tt
repeat_stays g present old new tape tape' before after (StashFull rows) fault at = absurd fault
repeat_stays g present old new tape tape' before after (Worn number) fault at = absurd fault
repeat_stays g present old new tape tape' before after SourceFault fault at = absurd fault
repeat_stays g present old new tape tape' before after SinkFault fault at = absurd fault

-- ---- what wasn't found

pub find_fault : (f : Fault) → IsFindFault f → IsOpenFault f
find_fault Memory fault = tt
find_fault Usage fault = absurd fault
find_fault (BadScript line) fault = absurd fault
find_fault (BadParams field) fault = absurd fault
find_fault NotStore fault = tt
find_fault (Damaged cell check kept computed) fault = tt
find_fault (StoreFault unsure) fault = fault
find_fault (StashFull rows) fault = absurd fault
find_fault (Worn number) fault = absurd fault
find_fault SourceFault fault = absurd fault
find_fault SinkFault fault = absurd fault

pub find_refusal : (keys : Keys) (p : Params) (image : Image) (f : Fault) → IsFindFault f → IsFindOf keys p image (Err f) → IsOpenRefusal keys p image f
find_refusal keys p image Memory fault was = tt
find_refusal keys p image Usage fault was = absurd fault
find_refusal keys p image (BadScript line) fault was = absurd fault
find_refusal keys p image (BadParams field) fault was = absurd fault
find_refusal keys p image NotStore fault was = was
find_refusal keys p image (Damaged cell check kept computed) fault was = inl was
find_refusal keys p image (StoreFault unsure) fault was = fault
find_refusal keys p image (StashFull rows) fault was = absurd fault
find_refusal keys p image (Worn number) fault was = absurd fault
find_refusal keys p image SourceFault fault was = absurd fault
find_refusal keys p image SinkFault fault was = absurd fault

pub find_standing : (s : RingStanding) (f : Fault) → FindsStanding s (Err f) → IsStandingRefusal s f
find_standing s Memory was = tt
find_standing s Usage was = absurd was
find_standing s (BadScript line) was = absurd was
find_standing s (BadParams field) was = absurd was
find_standing s NotStore was = absurd was
find_standing s (Damaged cell check kept computed) was = absurd was
find_standing s (StoreFault unsure) was = tt
find_standing s (StashFull rows) was = absurd was
find_standing s (Worn number) was = absurd was
find_standing s SourceFault was = absurd was
find_standing s SinkFault was = absurd was

pub find_does : (keys : Keys) (most : ℕ) (p : Params) (old new : Disk) (k l : Trace) (f : Fault) → IsFindFault f → FindDoes keys p old new k l (Err f) → RefusedDoes keys most p old new k l f
find_does keys most p old new k l Memory fault does = does
find_does keys most p old new k l Usage fault does = absurd fault
find_does keys most p old new k l (BadScript line) fault does = absurd fault
find_does keys most p old new k l (BadParams field) fault does = absurd fault
find_does keys most p old new k l NotStore fault does = does
find_does keys most p old new k l (Damaged cell check kept computed) fault does = inl does
find_does keys most p old new k l (StoreFault unsure) fault does = inl does
find_does keys most p old new k l (StashFull rows) fault does = absurd fault
find_does keys most p old new k l (Worn number) fault does = absurd fault
find_does keys most p old new k l SourceFault fault does = absurd fault
find_does keys most p old new k l SinkFault fault does = absurd fault

pub find_writes : {S T : Type 0} (disk : S → Disk) (keys : Keys) (p : Params) (old new : S) (tape tape' : T) (present : ℕ) (drawn : List ℕ) (f : Fault) → IsFindFault f → IsReadAlone disk old new tape tape' → RefusedWrites disk keys p old new tape tape' present drawn f
find_writes disk keys p old new tape tape' present drawn Memory fault alone = alone
find_writes disk keys p old new tape tape' present drawn Usage fault alone = absurd fault
find_writes disk keys p old new tape tape' present drawn (BadScript line) fault alone = absurd fault
find_writes disk keys p old new tape tape' present drawn (BadParams field) fault alone = absurd fault
find_writes disk keys p old new tape tape' present drawn NotStore fault alone = alone
find_writes disk keys p old new tape tape' present drawn (Damaged cell check kept computed) fault alone = inl alone
find_writes disk keys p old new tape tape' present drawn (StoreFault unsure) fault alone = tt
find_writes disk keys p old new tape tape' present drawn (StashFull rows) fault alone = absurd fault
find_writes disk keys p old new tape tape' present drawn (Worn number) fault alone = absurd fault
find_writes disk keys p old new tape tape' present drawn SourceFault fault alone = absurd fault
find_writes disk keys p old new tape tape' present drawn SinkFault fault alone = absurd fault

-- ---- what follows of the whole, once all was found

found_fault : (g : ℕ) (f : Fault) → IsFoundFault g f → IsOpenFault f
found_fault g Memory fault = absurd fault
found_fault g Usage fault = absurd fault
found_fault g (BadScript line) fault = absurd fault
found_fault g (BadParams field) fault = absurd fault
found_fault g NotStore fault = absurd fault
found_fault g (Damaged cell check kept computed) fault = tt
found_fault g (StoreFault unsure) fault = fault
found_fault g (StashFull rows) fault = absurd fault
found_fault g (Worn number) fault = fault.0
found_fault g SourceFault fault = absurd fault
found_fault g SinkFault fault = absurd fault

found_refusal : (keys : Keys) (p : Params) (image : Image) (found : Found) (f : Fault) → IsFoundInRing keys p image found → IsFoundFault found.generation f → IsFoundRefusal keys p image found f → IsOpenRefusal keys p image f
found_refusal keys p image found Memory is fault was = absurd fault
found_refusal keys p image found Usage is fault was = absurd fault
found_refusal keys p image found (BadScript line) is fault was = absurd fault
found_refusal keys p image found (BadParams field) is fault was = absurd fault
found_refusal keys p image found NotStore is fault was = absurd fault
found_refusal keys p image found (Damaged cell check kept computed) is fault was = inr (record { found = found; found_in = is; more = fault; damage = was })
found_refusal keys p image found (StoreFault unsure) is fault was = fault
found_refusal keys p image found (StashFull rows) is fault was = absurd fault
found_refusal keys p image found (Worn number) is fault was = (fault.0, record { found = found; found_in = is; last = fault.1 })
found_refusal keys p image found SourceFault is fault was = absurd fault
found_refusal keys p image found SinkFault is fault was = absurd fault

found_does : (keys : Keys) (most : ℕ) (p : Params) (found : Found) (old new : Disk) (k l : Trace) (f : Fault) → (old.tells → IsFoundInRing keys p old.cells found) → IsFoundFault found.generation f
    → BeginsFirst (begun_notes p found) most p found old.seen new.seen k l f → (IsWornFault f → ReadsAll keys p old new k l) → RefusedDoes keys most p old new k l f
found_does keys most p found old new k l Memory is fault told worn = absurd fault
found_does keys most p found old new k l Usage is fault told worn = absurd fault
found_does keys most p found old new k l (BadScript line) is fault told worn = absurd fault
found_does keys most p found old new k l (BadParams field) is fault told worn = absurd fault
found_does keys most p found old new k l NotStore is fault told worn = absurd fault
found_does keys most p found old new k l (Damaged cell check kept computed) is fault told worn = inr (record { found = found; found_in = is; told = told })
found_does keys most p found old new k l (StoreFault unsure) is fault told worn = inr (record { found = found; found_in = is; told = told })
found_does keys most p found old new k l (StashFull rows) is fault told worn = absurd fault
found_does keys most p found old new k l (Worn number) is fault told worn = worn tt
found_does keys most p found old new k l SourceFault is fault told worn = absurd fault
found_does keys most p found old new k l SinkFault is fault told worn = absurd fault

worn_still : {S T W : Type 0} (g present : ℕ) (old new : S) (tape tape' : T) (before after : W) (f : Fault) → FoundStays old new tape tape' before after present g f → IsWornFault f → (new ≡ old) × (after ≡ before)
worn_still g present old new tape tape' before after Memory stays worn = absurd worn
worn_still g present old new tape tape' before after Usage stays worn = absurd worn
worn_still g present old new tape tape' before after (BadScript line) stays worn = absurd worn
worn_still g present old new tape tape' before after (BadParams field) stays worn = absurd worn
worn_still g present old new tape tape' before after NotStore stays worn = absurd worn
worn_still g present old new tape tape' before after (Damaged cell check kept computed) stays worn = absurd worn
worn_still g present old new tape tape' before after (StoreFault unsure) stays worn = absurd worn
worn_still g present old new tape tape' before after (StashFull rows) stays worn = absurd worn
worn_still g present old new tape tape' before after (Worn number) stays worn = (stays.0, stays.1.1)
worn_still g present old new tape tape' before after SourceFault stays worn = absurd worn
worn_still g present old new tape tape' before after SinkFault stays worn = absurd worn

-- ---- by the answer of what is done behind it

pub all_faults : {L : Type 0} (g : ℕ) (r : Result (Opening L) Fault) → IfErr r (IsFoundFault g) → IfErr r IsOpenFault
all_faults g (Ok o) fault = tt
all_faults g (Err f) fault = found_fault g f fault

pub all_refusals : {L : Type 0} (keys : Keys) (p : Params) (image : Image) (found : Found) (r : Result (Opening L) Fault) → IsFoundInRing keys p image found → IfErr r (IsFoundFault found.generation) → IfErr r (IsFoundRefusal keys p image found)
    → IfErr r (IsOpenRefusal keys p image)
all_refusals keys p image found (Ok o) is fault was = tt
all_refusals keys p image found (Err f) is fault was = found_refusal keys p image found f is fault was

pub still_alone : {S W : Type 0} (disk : S → Disk) (trace : W → Trace) (keys : Keys) (p : Params) (old : Disk) (k : Trace) (s t : S) (v w : W) → (t ≡ s) × (w ≡ v) → ReadsAll keys p old (disk s) k (trace v) → ReadsAll keys p old (disk t) k (trace w)
still_alone disk trace keys p old k s t v w same alone =
    subst (λ x. ReadsAll keys p old (disk x) k (trace w)) (sym same.0) (subst (λ x. ReadsAll keys p old (disk s) k (trace x)) (sym same.1) alone)

pub all_does : {S T W L : Type 0} (disk : S → Disk) (trace : W → Trace) (keys : Keys) (most : ℕ) (p : Params) (found : Found) (old mid new : S) (tape tape' : T) (present : ℕ) (before between after : W) (r : Result (Opening L) Fault)
    → ((disk old).tells → IsFoundInRing keys p (disk old).cells found) → Keeps (disk old) (disk mid) → Passes Same (disk old) (disk mid)
    → Tells (finding_notes p found.epoch) (finding_notes p found.epoch) (disk old).seen (disk mid).seen (trace before) (trace between)
    → IfErr r (IsFoundFault found.generation) → FoundDoes most p found (disk mid).seen (disk new).seen (trace between) (trace after) r
    → IfErr r (FoundStays mid new tape tape' between after present found.generation) → IfErr r (RefusedDoes keys most p (disk old) (disk new) (trace before) (trace after))
all_does disk trace keys most p found old mid new tape tape' present before between after (Ok o) is keeps passes reads fault does stays = tt
all_does disk trace keys most p found old mid new tape tape' present before between after (Err f) is keeps passes reads fault does stays =
    found_does keys most p found (disk old) (disk new) (trace before) (trace after) f is fault
    (first_of_both most p found (finding_notes p found.epoch) (next_notes found) (disk old).seen (disk mid).seen (disk new).seen (trace before) (trace between) (trace after) reads f does)
    (λ worn. still_alone disk trace keys p (disk old) (trace before) mid new between after (worn_still found.generation present mid new tape tape' between after f stays worn) (record { found = found; found_in = is; told = reads; keeps = keeps; passes = passes }))

-- before it the store was only read
module _ {S T W : Type 0} (disk : S → Disk) (keys : Keys) (p : Params) (g : ℕ) (old mid new : S) (tape tape' : T) (present : T → ℕ) (drawn : List ℕ) (before after : W) (keeps : Keeps (disk old) (disk mid)) (passes : Passes Same (disk old) (disk mid)) (none : present tape ≡ 0) where
  still_reads : (new ≡ mid) × ((tape' ≡ tape) × (after ≡ before)) → IsReadAlone disk old new tape tape'
  still_reads same = record {
    tape = same.1.0;
    keeps = subst (λ s. Keeps (disk old) (disk s)) (sym same.0) keeps;
    passes = subst (λ s. Passes Same (disk old) (disk s)) (sym same.0) passes;
  }

  not_started : present tape' ≡ suc g → tape' ≡ tape → ⊥
  not_started at same = let was : present tape' ≡ 0 = ap present same ∙ none in omega (arith, at, was)

  found_writes : (f : Fault) → IsFoundFault g f → FoundStays mid new tape tape' before after (present tape') g f → (tape' ≡ tape) ⊎ StartsTape disk keys p old new (present tape') drawn
      → RefusedWrites disk keys p old new tape tape' (present tape') drawn f
  found_writes Memory fault stays tapes = absurd fault
  found_writes Usage fault stays tapes = absurd fault
  found_writes (BadScript line) fault stays tapes = absurd fault
  found_writes (BadParams field) fault stays tapes = absurd fault
  found_writes NotStore fault stays tapes = absurd fault
  found_writes (Damaged cell check kept computed) fault stays tapes = inr (⊎_elim (λ same. absurd (not_started stays same)) (λ begun. begun) tapes)
  found_writes (StoreFault unsure) fault stays tapes = tt
  found_writes (StashFull rows) fault stays tapes = absurd fault
  found_writes (Worn number) fault stays tapes = still_reads stays
  found_writes SourceFault fault stays tapes = absurd fault
  found_writes SinkFault fault stays tapes = absurd fault

  pub all_writes : {L : Type 0} (r : Result (Opening L) Fault) → IfErr r (IsFoundFault g) → IfErr r (FoundStays mid new tape tape' before after (present tape') g) → OnErr r ((tape' ≡ tape) ⊎ StartsTape disk keys p old new (present tape') drawn)
      → IfErr r (RefusedWrites disk keys p old new tape tape' (present tape') drawn)
  all_writes (Ok o) fault stays tapes = tt
  all_writes (Err f) fault stays tapes = found_writes f fault stays tapes
