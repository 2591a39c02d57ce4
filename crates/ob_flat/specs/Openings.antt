-- What opening a store finds, and what it answers.
use Rattle.std.specs.Prelude.{◌≡◌, ◌⊎◌, ◌<◌, ◌-◌, ◌^◌, ℕ, suc, List, length, Option, None, Result, Ok, Err, IfOk, IfErr}
use Rattle.ob_base.specs.declared.params.Params.{Params}
use Rattle.ob_base.specs.declared.fault.Damaged.{Damaged}
use Rattle.ob_base.specs.declared.fault.Fault.{Fault}
use Rattle.ob_base.specs.declared.fault.Fault.TheVariants as fault
use Rattle.ob_store.specs.Disk.{Disk, Image}
use Rattle.ob_store.specs.Images.{Same, IsSynced, Passes, LeavesOnly}
use Rattle.ob_store.specs.Calls.{Keeps, IsStoreFault}
use Rattle.ob_store.specs.Lines.{Trace}
use Rattle.ob_store.specs.Told.{Tells, TellsFirst}
use Rattle.ob_seal.specs.declared.keys.Keys.{Keys}
use Rattle.ob_seal.specs.Sealing.{Sealing}
use Rattle.ob_flat.specs.Rows.{AreRows}
use Rattle.ob_flat.specs.Reads.{IsFirstRowDamage}
use Rattle.ob_twin.specs.declared.gates.Open.{Open}
use Rattle.ob_twin.specs.Clear.{InClearBy}
use Rattle.ob_twin.specs.Keyed.{tagging}
use Rattle.ob_twin.specs.Register.{StandsAt}
use Rattle.ob_twin.specs.Opening.{GatesAre}
use Rattle.ob_twin.specs.Reading.{NoneOpen}
use Rattle.ob_serial.specs.Vaults.{Standing}
use Rattle.ob_flat.specs.declared.opening.Opening.{Opening}
use Rattle.ob_flat.specs.Places.{area_of}
use Rattle.ob_start.specs.Registers.{Found, IsRegisterDamage}
use Rattle.ob_start.specs.Beginning.{BeginsFrom, ReadsThenSync}
use Rattle.ob_start.specs.Orders.{registers_notes}
use Rattle.ob_flat.specs.Standing.{IsMapOf, StandsFlat, Stands, AllStand, StandsAsBefore}
use Rattle.ob_flat.specs.Orders.{found_notes, open_notes}

-- both registers are found, and this is the first row that breaks a rule
pub record IsRowsDamage (keys : Keys) (n : ℕ) (image : Image) (damaged : Damaged) : Type 0 where
  pub generation : ℕ
  pub epoch : ℕ
  pub found : Found keys image generation epoch
  pub first : IsFirstRowDamage keys (area_of n epoch) n image damaged

-- all is found, and the generation was the last one
pub record IsGenerationWorn (keys : Keys) (n : ℕ) (image : Image) : Type 0 where
  pub epoch : ℕ
  pub values : List (Option (List ℕ))
  pub found : Found keys image (2 ^ 62 - 1) epoch
  pub whole : length values ≡ n
  pub rows : AreRows keys (area_of n epoch) image values

-- all is found, and the generation is the next one
pub record IsFoundIn (keys : Keys) (n : ℕ) (image : Image) (opening : Opening) : Type 0 where
  pub old : ℕ
  pub found : Found keys image old opening.epoch
  pub next : opening.sealer.generation ≡ suc old
  pub small : opening.sealer.generation < 2 ^ 62
  pub whole : length opening.values.items ≡ n
  pub rows : AreRows keys (area_of n opening.epoch) image opening.values.items

-- what opening answers
abbrev pub IsOpeningOf : Keys → ℕ → Image → Result Opening Fault → Type 0
IsOpeningOf keys n image (Ok opening) = IsFoundIn keys n image opening
IsOpeningOf keys n image (Err fault.NotStore) = NoneOpen 1 image ⊎ NoneOpen 5 image
IsOpeningOf keys n image (Err (fault.Damaged cell check kept computed)) =
    IsRegisterDamage keys image (record { cell = cell; check = check; kept = kept; computed = computed })
    ⊎ IsRowsDamage keys n image (record { cell = cell; check = check; kept = kept; computed = computed })
IsOpeningOf keys n image (Err (fault.Worn number)) = (number ≡ 2 ^ 62) × IsGenerationWorn keys n image
IsOpeningOf keys n image (Err (fault.StoreFault unsure)) = Unit {0}
IsOpeningOf keys n image (Err fault.Memory) = Unit {0}
IsOpeningOf keys n image (Err _) = ⊥

-- the faults of opening
abbrev pub IsOpenFault : Fault → Type 0
IsOpenFault fault.Memory = Unit {0}
IsOpenFault fault.NotStore = Unit {0}
IsOpenFault (fault.Damaged cell check kept computed) = Unit {0}
IsOpenFault (fault.Worn number) = Unit {0}
IsOpenFault (fault.StoreFault unsure) = unsure ≡ None
IsOpenFault _ = ⊥

-- the opening has what the store stood for, and the store stands for it still, at the opening's generation, whatever crashes
pub record IsOpenedAt (keys : Keys) (p : Params) (at : Standing) (opening : Opening) (new : Disk) : Type 0 where
  pub epoch : opening.epoch ≡ at.epoch
  pub content : IsMapOf opening.values.items at.content
  pub stands : StandsFlat keys p opening.sealer.generation new.cells at
  pub images : (c : Image) → new.may_leave c → StandsFlat keys p opening.sealer.generation c at

-- A new generation's sealer has sealed nothing.
pub record HasSealedNothing (keys : Keys) (sealing : Sealing) : Type 0 where
  pub keys_are : sealing.keys ≡ keys
  pub none_sealed : sealing.next ≡ 0

-- What an opening that went well begins with: the store's parameters, a fresh sealer, no write that waits for a sync, and the gates
-- of the epoch's register as they were and are.
pub record Begins (keys : Keys) (p : Params) (old new : Disk) (opening : Opening) : Type 0 where
  pub params : opening.params ≡ p
  pub sealer : HasSealedNothing keys opening.sealer
  pub durable : old.tells → IsSynced new
  pub gates : old.tells → GatesAre opening.gates.epoch 5 old.cells
  pub tell : old.tells → GatesAre opening.gates.epoch 5 new.cells

-- Its first sync succeeded, and the store was this one then: no write waited, and up to it only reads were called for. Until then a crash
-- leaves what it might have left before; from then on an image that stands for what the store stood for, at its generation or the next one.
pub record OpensFrom {S : Type 0} (disk : S → Disk) (keys : Keys) (p : Params) (old new : S) : Type 0 where
  pub synced : S
  pub called : ReadsThenSync (disk old) (disk synced)
  pub until : Passes Same (disk old) (disk synced)
  pub keeps : Keeps (disk old) (disk synced)
  pub settled : (disk old).tells → IsSynced (disk synced)
  pub since : (g : ℕ) (at : Standing) → (disk old).tells → StandsFlat keys p g (disk old).cells at
      → LeavesOnly (disk synced) (disk new) (λ c. StandsFlat keys p g c at ⊎ StandsFlat keys p (suc g) c at)

-- Of the register of generations alone: it stood at g, and stands at the next one, which is the opening's, once its first sync
-- succeeded, and from then on a crash leaves it at one of the two.
pub record BeginsNext {S : Type 0} (disk : S → Disk) (keys : Keys) (g : ℕ) (old new : S) (opening : Opening) : Type 0 where
  pub next : opening.sealer.generation ≡ suc g
  pub stands : StandsAt (tagging keys) 1 (disk new).cells (suc g)
  pub leaves : BeginsFrom disk keys g old new

-- a refused one may have left all images as they were
abbrev pub OpeningBegins : {S : Type 0} → (S → Disk) → Keys → S → S → Result Opening Fault → Type 0
OpeningBegins disk keys old new (Ok opening) = (g : ℕ) → (disk old).tells → StandsAt (tagging keys) 1 (disk old).cells g → BeginsNext disk keys g old new opening
OpeningBegins disk keys old new (Err refused) = Passes Same (disk old) (disk new) ⊎ ((g : ℕ) → (disk old).tells → StandsAt (tagging keys) 1 (disk old).cells g → BeginsFrom disk keys g old new)

-- a refused one may have left all images as they were
abbrev pub OpeningLeaves : {S : Type 0} → (S → Disk) → Keys → Params → S → S → Result Opening Fault → Type 0
OpeningLeaves disk keys p old new (Ok opening) = OpensFrom disk keys p old new
OpeningLeaves disk keys p old new (Err refused) = Passes Same (disk old) (disk new) ⊎ OpensFrom disk keys p old new

-- The order of an opening that went well.
pub record OpensIn (n : ℕ) (old new : Disk) (shown_old shown_new : Trace) (opening : Opening) : Type 0 where
  -- which gates of the generation's register were open
  pub known : Open
  pub gates : old.tells → GatesAre known 1 old.cells
  pub told : Tells (open_notes n opening.epoch known opening.sealer.generation) (open_notes n opening.epoch known opening.sealer.generation) old.seen new.seen shown_old shown_new

-- Of a refused one: some of the first reads, or all of them and some of what follows.
abbrev pub ReadsFirst : Disk → Disk → Trace → Trace → Type 0
ReadsFirst old new shown_old shown_new = TellsFirst registers_notes old.seen new.seen shown_old shown_new

pub record OpensPart (keys : Keys) (n : ℕ) (old new : Disk) (shown_old shown_new : Trace) : Type 0 where
  pub known : Open
  pub gates : old.tells → GatesAre known 1 old.cells
  pub generation : ℕ
  pub epoch : ℕ
  pub found : old.tells → Found keys old.cells generation epoch
  pub told : TellsFirst (open_notes n epoch known (suc generation)) old.seen new.seen shown_old shown_new

abbrev pub OpensFirst : Keys → ℕ → Disk → Disk → Trace → Trace → Type 0
OpensFirst keys n old new shown_old shown_new = ReadsFirst old new shown_old shown_new ⊎ OpensPart keys n old new shown_old shown_new

-- It read, and did nothing else: no cell changed, and no image that a crash may leave.
pub record ReadsAlone (n : ℕ) (old new : Disk) (shown_old shown_new : Trace) : Type 0 where
  pub epoch : ℕ
  pub told : TellsFirst (found_notes n epoch) old.seen new.seen shown_old shown_new
  pub keeps : Keeps old new
  pub passes : Passes Same old new

-- The order of an opening: the whole where it went well, else some of it, the first steps.
abbrev pub OpeningTells : Keys → ℕ → Disk → Disk → Trace → Trace → Result Opening Fault → Type 0
OpeningTells keys n old new shown_old shown_new (Ok opening) = OpensIn n old new shown_old shown_new opening
OpeningTells keys n old new shown_old shown_new (Err refused) = OpensFirst keys n old new shown_old shown_new

-- What an opening answers, and what it leaves.
pub record IsOpening {S : Type 0} (disk : S → Disk) (keys : Keys) (p : Params) (old new : S) (shown_old shown_new : Trace) (result : Result Opening Fault) : Type 0 where
  pub value : (disk old).tells → IsOpeningOf keys p.keys (disk old).cells result
  pub begins : IfOk result (Begins keys p (disk old) (disk new))
  -- Where the store stood for an epoch, the opening has that epoch and its map,
  pub opened : (at : Standing) → (disk old).tells → Stands keys p (disk old).cells at → IfOk result (λ opening. IsOpenedAt keys p at opening (disk new))
  -- and a crash at any moment leaves what the store, or one of its images, stood for.
  pub crash : (at : Standing) → (disk old).tells → Stands keys p (disk old).cells at → AllStand keys p (disk old)
      → LeavesOnly (disk old) (disk new) (StandsAsBefore keys p (disk old))
  -- From its first sync on each stands for what the store stood for.
  pub since : OpeningLeaves disk keys p old new result
  -- Its register of generations alone, whatever else the store stands for.
  pub register : OpeningBegins disk keys old new result
  pub order : OpeningTells keys p.keys (disk old) (disk new) shown_old shown_new result
  -- Of its head and registers each cell is as it was, or has what a register writes there; refused, but for one whose write the store refused.
  pub clear : (disk new).tells → InClearBy (tagging keys) (disk new).seen (disk old).cells (disk new).cells result
  -- Refused, unless its store failed, it has read and done nothing else.
  pub unwritten : IfErr result (λ refused. (IsStoreFault refused → ⊥) → ReadsAlone p.keys (disk old) (disk new) shown_old shown_new)
