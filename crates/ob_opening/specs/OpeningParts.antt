-- Private: the parts of an opening.
use Rattle.std.specs.Prelude.{◌≡◌, ◌⊎◌, ◌<◌, ℕ, suc, ◌*◌, ◌^◌, List, length, replicate, Option, None, Result, Ok, Err}
use Rattle.ob_base.specs.declared.params.Params.{Params}
use Rattle.ob_base.specs.declared.fault.Fault.{Fault}
use Rattle.ob_base.specs.declared.fault.Fault.TheVariants as fault
use Rattle.ob_base.specs.Layout.{checkpoint_cells}
use Rattle.ob_base.specs.Planned.{most_jobs}
use Rattle.ob_base.specs.Tree.{buckets}
use Rattle.ob_store.specs.declared.event.Event.{Event}
use Rattle.ob_store.specs.Disk.{Disk, Image}
use Rattle.ob_store.specs.Lines.{Trace}
use Rattle.ob_store.specs.Told.{TellsFirst}
use Rattle.ob_seal.specs.declared.keys.Keys.{Keys}
use Rattle.ob_tables.specs.Content.{content_of}
use Rattle.ob_recover.specs.declared.found.Found.{Found}
use Rattle.ob_recover.specs.Repeats.{IsRepeatDamage}
use Rattle.ob_opening.specs.declared.opening.Opening.{Opening}
use Rattle.ob_opening.specs.declared.rooms.Rooms.{Rooms}
use Rattle.ob_opening.specs.OpeningRuns.{BeginsAt, BeginsFirst, IsAtStart, OpensFrom, RepeatsBehind, next_notes}
use Rattle.ob_opening.specs.Openings.{words_room}

-- there is room for all that an opened vault works in
pub record AreRooms {L : Type 0} (p : Params) (lanes : ℕ) (r : Rooms L) : Type 0 where
  pub planned : (r.jobs).room ≡ most_jobs p
  pub placed : (r.jobs).place_room ≡ p.places
  pub crew : r.crew ≡ record { lanes = lanes; jobs = most_jobs p }
  pub sheet : length r.sheet ≡ 96 * checkpoint_cells p
  pub words : length (r.words).items ≡ words_room p
  pub index : r.index ≡ replicate (buckets p) 0

-- the refusals behind what was found
abbrev pub IsFoundFault : ℕ → Fault → Type 0
IsFoundFault generation (fault.Damaged cell check kept computed) = suc generation < 2 ^ 62
IsFoundFault generation (fault.Worn number) = (number ≡ 2 ^ 62) × (suc generation ≡ 2 ^ 62)
IsFoundFault generation (fault.StoreFault unsure) = unsure ≡ None
IsFoundFault generation _ = ⊥

abbrev pub IsFoundRefusal : Keys → Params → Image → Found → Fault → Type 0
IsFoundRefusal keys p image found (fault.Damaged cell check kept computed) =
    IsRepeatDamage keys p image (content_of found.tables) found.records (record { cell = cell; check = check; kept = kept; computed = computed })
IsFoundRefusal keys p image found (fault.Worn number) = Unit {0}
IsFoundRefusal keys p image found (fault.StoreFault unsure) = Unit {0}
IsFoundRefusal keys p image found _ = ⊥

-- where generations are worn nothing was done; where a batch is damaged the tape is at the generation begun
abbrev pub FoundStays : {S T W : Type 0} → S → S → T → T → W → W → (present generation : ℕ) → Fault → Type 0
FoundStays old new tape_old tape_new before after present generation (fault.Worn number) = (new ≡ old) × ((tape_new ≡ tape_old) × (after ≡ before))
FoundStays old new tape_old tape_new before after present generation (fault.Damaged cell check kept computed) = present ≡ suc generation
FoundStays old new tape_old tape_new before after present generation _ = Unit {0}

-- what is done behind what was found
abbrev pub FoundDoes : {L : Type 0} → ℕ → Params → Found → Option (List Event) → Option (List Event) → Trace → Trace → Result (Opening L) Fault → Type 0
FoundDoes most p found old new before after (Ok o) = RepeatsBehind {T = Unit {0}} (next_notes found) most p found old new before after (Ok tt)
FoundDoes most p found old new before after (Err fault) = BeginsFirst (next_notes found) most p found old new before after fault

-- the next generation began, whatever of the batches was repeated behind it
pub record HasBegunAnew {S : Type 0} (disk : S → Disk) (keys : Keys) (most : ℕ) (p : Params) (found : Found) (old new : S) (present : ℕ) (drawn : List ℕ) (before after : Trace) (refused : Fault) : Type 0 where
  pub begins : BeginsAt disk keys (next_notes found) found.generation old new
  pub opens : OpensFrom disk keys p old new
  pub tape : IsAtStart present drawn (suc found.generation)
  pub repeats : RepeatsBehind {T = Unit {0}} (next_notes found) most p found (disk old).seen (disk new).seen before after (Err refused)

-- what was refused behind what was found didn't begin the generation, or did
abbrev pub FoundRefused : {S T : Type 0} → (S → Disk) → Keys → ℕ → Params → Found → S → S → T → T → ℕ → List ℕ → Trace → Trace → Fault → Type 0
FoundRefused disk keys most p found old new tape_old tape_new present drawn before after refused =
    ((tape_new ≡ tape_old) × TellsFirst (next_notes found) (disk old).seen (disk new).seen before after) ⊎ HasBegunAnew disk keys most p found old new present drawn before after refused
