-- What the begin of a generation tells and leaves.
use Rattle.std.specs.Prelude.{◌≡◌, ◌<◌, ◌≤◌, ◌⊎◌, ◌^◌, ℕ, zero, suc, Bool, IsTrue, List, [], ◌∷◌, ◌++◌, length, map, None, Result, Ok, Err}
use Rattle.ob_base.specs.declared.fault.Fault.{Fault}
use Rattle.ob_base.specs.declared.fault.Fault.TheVariants as fault
use Rattle.ob_store.specs.Disk.{Disk, Image}
use Rattle.ob_store.specs.Images.{Same, IsSynced, Passes, LeavesOnly}
use Rattle.ob_store.specs.Lines.{Trace}
use Rattle.ob_store.specs.Calls.{Keeps, Notes}
use Rattle.ob_store.specs.Told.{events_of}
use Rattle.ob_store.specs.declared.watch.Note.{Note}
use Rattle.ob_store.specs.declared.event.Event.TheVariants as event
use Rattle.ob_seal.specs.declared.keys.Keys.{Keys}
use Rattle.ob_twin.specs.Keyed.{tagging}
use Rattle.ob_twin.specs.Orders.{set_notes}
use Rattle.ob_twin.specs.Register.{IsOpen, KeepsAt, StandsAt, OldOrNew, SameOutside, place_of}
use Rattle.ob_twin.specs.Opening.{GatesAre, gates_set, is_closed_first}
use Rattle.ob_twin.specs.Stages.{AreSpans, IsLackingIn, made_before}
use Rattle.ob_twin.specs.Stops.{IsRegisterLeft, StopsShort}
use Rattle.ob_twin.specs.declared.gates.Open.{Open}
use Rattle.ob_start.specs.Orders.{begin_notes}
use Rattle.ob_twin.specs.declared.gates.Gates.{Gates}
use Rattle.ob_twin.specs.declared.twin.Twin.TheVariants.{GENERATION}

-- its refusals
abbrev pub IsBeginFault : ℕ → Fault → Type 0
IsBeginFault generation (fault.Worn number) = (number ≡ 2 ^ 62) × (suc generation ≡ 2 ^ 62)
IsBeginFault generation (fault.StoreFault unsure) = (unsure ≡ None) × (suc generation < 2 ^ 62)
IsBeginFault generation _ = ⊥

abbrev pub IsWornFault : Fault → Type 0
IsWornFault (fault.Worn number) = Unit {0}
IsWornFault _ = ⊥

-- once the next generation has begun, its gate is known to be open; refused, the gates are known as before
abbrev pub gates_begun : ℕ → Gates → Result ℕ Fault → Gates
gates_begun generation gates (Ok next) = gates_set GENERATION (suc generation) gates (Ok tt)
gates_begun generation gates (Err refused) = gates

-- Cells were read and nothing else was called for, and then all was made sure of.
pub record ReadsThenSync (old new : Disk) : Type 0 where
  pub cells : List ℕ
  pub called : Notes (map (λ cell. event.Read cell) cells ++ event.Sync ∷ []) old.seen new.seen

-- ---- how many notes lack

-- Where it stood at a number, a crash leaves the next one once no note lacks, either where the gate's sync does, and else the old one.
abbrev pub IsNumberBy : Keys → (from : Image) → (old new lacking : ℕ) → Image → Type 0
IsNumberBy keys from old new zero image = KeepsAt (tagging keys) 1 from new image
IsNumberBy keys from old new (suc zero) image = OldOrNew (tagging keys) 1 from old new image
IsNumberBy keys from old new (suc (suc more)) image = KeepsAt (tagging keys) 1 from old image

-- The image has these cells, but for the generations' register, which is left by how many notes lack.
pub record IsSyncedLeft (keys : Keys) (generation : ℕ) (cells : Image) (lacking : ℕ) (image : Image) : Type 0 where
  pub rest : SameOutside 1 image cells
  pub register : IsRegisterLeft (tagging keys) 1 generation cells lacking image
  pub number : (before : ℕ) → generation ≡ suc before → StandsAt (tagging keys) 1 cells before → IsNumberBy keys cells before generation lacking image

-- Behind its first sync the register is set in three stages, as a set is, numbered from 0; the next one is what comes behind them. So many notes lack
-- at a moment of each.
abbrev pub IsLackingBy : (stage lacking : ℕ) → Type 0
IsLackingBy (suc (suc (suc stage))) lacking = lacking ≡ 0
IsLackingBy stage lacking = IsLackingIn stage lacking

-- what was made of the set before it begins
abbrev pub made_by : (closed_first : Bool) → (generation stage : ℕ) → List Note
made_by closed_first generation (suc (suc (suc stage))) = set_notes closed_first 1 generation
made_by closed_first generation stage = made_before closed_first 1 generation stage

-- The stage of this number, from the one store to the other, of the begin of a generation that was at that store behind its first sync. It begins behind
-- just these calls, and a crash at any moment of it leaves an image by how many notes lack then.
pub record IsBeginStage {S : Type 0} (disk : S → Disk) (keys : Keys) (closed_first : Bool) (generation : ℕ) (synced : S) (stage : ℕ) (x : S × S) : Type 0 where
  pub made : Notes (events_of (made_by closed_first generation stage)) (disk synced).seen (disk x.0).seen
  pub left : (lacking : ℕ) → IsLackingBy stage lacking → (image : Image) → (disk x.1).left_since (disk x.0).moment image → IsSyncedLeft keys generation (disk synced).cells lacking image

-- ---- what a crash leaves

-- where the register stood at the number before, by whether the next one's gate is closed first, as is known of the gates
abbrev pub WhereStood : Keys → (generation : ℕ) → (old : Disk) → ((closed_first : Bool) → Type 0) → Type 0
WhereStood keys generation old IsSo = old.tells → StandsAt (tagging keys) 1 old.cells generation → (known : Open) → GatesAre known 1 old.cells → IsSo (is_closed_first known (place_of (suc generation)))

-- Its sync succeeded, and the store was this one then: no write waited, and up to it only reads were called for. Until then a crash leaves
-- what it might have left before; from then on, where the register stood, the old generation or the new one, and it came in stages, up to these stores.
pub record BeginsFrom {S : Type 0} (disk : S → Disk) (keys : Keys) (generation : ℕ) (old new : S) : Type 0 where
  pub synced : S
  pub called : ReadsThenSync (disk old) (disk synced)
  pub until : Passes Same (disk old) (disk synced)
  pub keeps : Keeps (disk old) (disk synced)
  pub settled : (disk old).tells → IsSynced (disk synced)
  pub since : (disk old).tells → StandsAt (tagging keys) 1 (disk old).cells generation → LeavesOnly (disk synced) (disk new) (OldOrNew (tagging keys) 1 (disk synced).cells generation (suc generation))
  pub ends : List S
  pub stages : WhereStood keys generation (disk old) (λ closed_first. AreSpans (IsBeginStage disk keys closed_first (suc generation) synced) 0 synced ends new)

-- All three stages were made, and no note lacks behind them.
pub record IsBegun {S : Type 0} (disk : S → Disk) (keys : Keys) (generation : ℕ) (old new : S) (from : BeginsFrom disk keys generation old new) : Type 0 where
  pub three : length from.ends ≡ 3
  pub behind : WhereStood keys generation (disk old) (λ closed_first. IsBeginStage disk keys closed_first (suc generation) from.synced 3 (new, new))

-- done; a refused one made the first of its stages, or may have left all images as they were
abbrev pub BeginLeaves : {S : Type 0} → (S → Disk) → Keys → ℕ → S → S → Result ℕ Fault → Type 0
BeginLeaves disk keys generation old new (Ok next) = (from : BeginsFrom disk keys generation old new) × IsBegun disk keys generation old new from
BeginLeaves disk keys generation old new (Err refused) = Passes Same (disk old) (disk new) ⊎ BeginsFrom disk keys generation old new

-- From that store on this generation was to begin, and so many of its notes lack. Where its first sync is one of them the image might have been
-- left before; else it is left so from the cells that were told, if a gate that is closed first was open.
abbrev pub IsBeginLeft : Keys → (closed_first : Bool) → (generation : ℕ) → (old : Disk) → (lacking : ℕ) → Image → Type 0
IsBeginLeft keys closed_first generation old lacking image =
    ((length (set_notes closed_first 1 generation) < lacking) × old.may_leave image)
    ⊎ (((1 ≤ lacking) × (lacking ≤ length (set_notes closed_first 1 generation))) × (old.tells → (IsTrue closed_first → IsOpen 1 old.cells (place_of generation)) → IsSyncedLeft keys generation old.cells lacking image))

-- Done, or refused by its store.
abbrev pub BeginStops : Keys → Open → (generation : ℕ) → (old new : Disk) → (before after : Trace) → Result ℕ Fault → Type 0
BeginStops keys known generation old new before after (Ok next) = old.tells → IsSyncedLeft keys generation old.cells 0 new.cells
BeginStops keys known generation old new before after (Err (fault.StoreFault unsure)) =
    StopsShort (begin_notes known generation) (begin_notes known generation) (IsBeginLeft keys (is_closed_first known (place_of generation)) generation old) old new before after
BeginStops keys known generation old new before after _ = Unit {0}
