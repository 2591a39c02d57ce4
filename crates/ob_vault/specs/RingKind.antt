-- A ring store, as a kind of store.
use Rattle.std.specs.Prelude.{ℕ, suc, ◌≡◌, ◌+◌, ◌^◌, ◌<◌, ◌≤◌, false, List, [], length, Option, Ok}
use Rattle.std.specs.FinMap as finite
use Rattle.std.specs.Ordering.{nat_cmp}
use Rattle.ob_base.specs.declared.fault.Fault.{Fault}
use Rattle.ob_base.specs.declared.fault.Fault.TheVariants as fault
use Rattle.ob_base.specs.Layout.{ring_cells}
use Rattle.ob_base.specs.declared.params.Params.{Params}
use Rattle.ob_tables.specs.Content.{Content, content_of}
use Rattle.ob_fetch.specs.Fetches.{RunIsAt}
use Rattle.ob_fetch.specs.declared.run.Run.{Run}
use Rattle.ob_vault.specs.Kinds.{StoreKind}
use Rattle.ob_log.specs.Logs.{BatchRecord}
use Rattle.ob_recover.specs.Finds.{IsFoundInRing}
use Rattle.ob_recover.specs.Repeats.{IsPlannerOf}
use Rattle.ob_recover.specs.declared.found.Found.{Found}
use Rattle.ob_recover.specs.Known.{public_of_kept}
use Rattle.ob_schedule.specs.Schedule.{Fills, format_notes}
use Rattle.ob_seal.specs.declared.keys.Keys.{Keys}
use Rattle.ob_serial.specs.Serial.{Map}
use Rattle.ob_serial.specs.Vaults.{VaultCall}
use Rattle.ob_stand.specs.Stands.{RingStanding, Stands, StandsRing}
use Rattle.ob_start.specs.Beginning.{gates_begun}
use Rattle.ob_start.specs.Heads.{IsHead, IsHeadFault, IsHeadRead}
use Rattle.ob_store.specs.Disk.{Disk, Image}
use Rattle.ob_store.specs.Told.{events_of}
use Rattle.ob_twin.specs.declared.gates.Gates.{Gates}
use Rattle.ob_opening.specs.Formats.{FormatsInClear, HasClosedLogs, RingFormatLeaves}
use Rattle.ob_opening.specs.OpeningActs.{AreGatesIn}
use Rattle.ob_opening.specs.Openings.{IsOpenFault, IsOpenRefusal, IsStandingRefusal, fresh_sealer}
use Rattle.ob_vault.specs.Causes.{IsCallWorn, IsRingWorn, IsSlotDamage, IsStashFull, RingLasts}
use Rattle.ob_vault.specs.Hidden.{IsTapeBehind, RingCut, RingCutShown, RingDraws, RingHidden}
use Rattle.ob_vault.specs.Seen.{RingMayBegin, RingOpensPartly, RingOpensShown, RingPublic, opening_shows, opening_phases, ring_next, ring_notes, ring_phases}

-- the number of its version in the head
abbrev pub ring_version : ℕ
ring_version = 1

-- What an opening finds: the content of the checkpoint, the records of the log, and the run that goes on behind them.
pub record RingFound : Type 0 where
  pub content : Content
  pub records : List BatchRecord
  pub run : Run

-- The run goes on behind what was found: at its epoch, in the next generation, of which nothing is drawn or sealed, with a batch less for
-- each record, and its planner has shown the records' batches.
pub record GoesOnFrom (keys : Keys) (p : Params) (found : Found) (f : RingFound) : Type 0 where
  pub content : content_of found.tables ≡ f.content
  pub records : found.records ≡ f.records
  pub params : (f.run).params ≡ p
  pub sealer : (f.run).sealer ≡ fresh_sealer keys (suc found.generation)
  pub gates : (f.run).gates ≡ gates_begun found.generation found.gates (Ok (suc found.generation))
  pub epoch : (f.run).epoch ≡ found.epoch
  pub drawn : (f.run).drawn ≡ 0
  pub serving : (f.run).spent ≡ false
  pub left : (f.run).left + length f.records ≡ p.batches
  pub planner : IsPlannerOf p f.content f.records (f.run).ring

-- the image tells what was found so
pub record IsRingFound (keys : Keys) (p : Params) (image : Image) (f : RingFound) : Type 0 where
  pub found : Found
  pub found_in : IsFoundInRing keys p image found
  pub goes_on : GoesOnFrom keys p found f

-- Why an opening refuses an image; and where that stood, only for memory, for its store, or where no generation is left.
pub record IsRingRefusal (keys : Keys) (p : Params) (image : Image) (refused : Fault) : Type 0 where
  pub is : IsOpenRefusal keys p image refused
  pub stood : (s : RingStanding) → Stands keys p s image → IsStandingRefusal s refused

-- The store that was opened stands for this map, with the content and the records that were found, and the run is at that.
pub record IsRingMap (keys : Keys) (p : Params) (opened : Disk) (f : RingFound) (m : Map nat_cmp) : Type 0 where
  pub standing : RingStanding
  pub content : standing.content ≡ f.content
  pub records : standing.records ≡ f.records
  pub params : (f.run).params ≡ p
  pub keys_are : ((f.run).sealer).keys ≡ keys
  pub at : RunIsAt f.run standing opened
  pub map : (k : ℕ) → standing.map k ≡ finite.get m k

-- more rows than the stash may keep can be left, where the store may hold so many keys
abbrev pub RingMayStop : Params → Fault → Type 0
RingMayStop p (fault.StashFull rows) = (p.room < rows) × (rows ≤ p.keys)
RingMayStop p _ = ⊥

-- Numbers are worn for this call, and an epoch more would pass them; this end would leave more rows in the stash than that may keep; or a
-- slot is damaged that this call reads, and no map was found.
abbrev pub RingCauses : Keys → Params → RingFound → (opened now : Disk) → RingHidden → ℕ → Option VaultCall → (words : List ℕ) → Fault → Type 0
RingCauses keys p f opened now h n call words (fault.Worn number) = (number ≡ 2 ^ 62) × IsCallWorn p h call words × IsRingWorn p (f.run).epoch n
RingCauses keys p f opened now h n call words (fault.StashFull rows) = IsStashFull p h call words rows
RingCauses keys p f opened now h n call words (fault.Damaged cell check kept computed) =
    (now.tells → IsSlotDamage keys p now.cells h call words (record { cell = cell; check = check; kept = kept; computed = computed }))
    × ((m : Map nat_cmp) → IsRingMap keys p opened f m → ⊥)
RingCauses keys p f opened now h n call words _ = ⊥

abbrev pub ring_public : Params → RingFound → RingPublic
ring_public p f = record { known = public_of_kept p f.content f.records (f.run).epoch (f.run).gates; shown = length f.records }

-- what was found, and no word and no seal of the generation
abbrev pub ring_hidden : RingFound → RingHidden
ring_hidden f = record { epoch = (f.run).epoch; content = f.content; records = f.records; generation = ((f.run).sealer).generation; words = []; seals = 0 }

abbrev pub ring_kind : StoreKind
ring_kind = record {
  is_head = λ keys p bytes. IsHead keys ring_version p bytes;
  head_read = λ keys bytes read. IsHeadRead keys ring_version bytes read;
  head_fault = IsHeadFault;
  stands = StandsRing;
  cells = ring_cells;
  format_order = λ p. events_of (format_notes p);
  format_notes = format_notes;
  format_lays = HasClosedLogs;
  format_leaves = λ keys p drawn old image. RingFormatLeaves keys p drawn old image;
  format_fault = λ refused. refused ≡ fault.Memory;
  format_clears = λ keys p seen old new answer. FormatsInClear keys p seen old new answer;
  Found = RingFound;
  epoch = λ f. (f.run).epoch;
  left = λ p f. (f.run).left;
  generation = λ f. ((f.run).sealer).generation;
  is_map = IsRingMap;
  finds = IsRingFound;
  refuses = IsRingRefusal;
  open_fault = IsOpenFault;
  may_begin = RingMayBegin;
  Start = Gates;
  starts = λ keys p image f gates. AreGatesIn gates image;
  opens = λ p f gates. opening_phases p f.content f.records (f.run).epoch ((f.run).sealer).generation gates;
  opens_partly = RingOpensPartly;
  open_notes = λ p f gates. opening_shows p f.content f.records (f.run).epoch ((f.run).sealer).generation gates;
  opens_shown = λ disk keys most p old new before after refused. RingOpensShown disk keys most p old new before after refused;
  Public = RingPublic;
  public = ring_public;
  Drawn = Fills;
  phases = ring_phases;
  notes = ring_notes;
  next = ring_next;
  Hidden = RingHidden;
  hidden = λ p f. ring_hidden f;
  draws = RingDraws;
  seals = λ h. h.seals;
  is_of_tape = IsTapeBehind;
  cut = RingCut;
  cut_shown = RingCutShown;
  causes = λ keys p f opened now h behind n call words fault. RingCauses keys p f opened now h n call words fault;
  lasts = RingLasts;
  may_stop = RingMayStop;
}
