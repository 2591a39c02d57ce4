-- A new ring store: what its format draws, writes and leaves.
use Rattle.std.specs.Prelude.{◌≡◌, ◌⊎◌, ◌<◌, ℕ, ◌+◌, ◌*◌, true, List, [], ◌∷◌, ◌++◌, replicate, take, drop, Option, None, Result, Ok, Err, OnOk}
use Rattle.ob_base.specs.declared.params.Params.{Params}
use Rattle.ob_base.specs.declared.fault.Fault.{Fault}
use Rattle.ob_base.specs.declared.fault.Fault.TheVariants as fault
use Rattle.ob_base.specs.Tree.{buckets, width}
use Rattle.std.specs.FinMap as finite
use Rattle.ob_base.specs.Layout.{checkpoint_cells, log_gate, slot_cell}
use Rattle.ob_store.specs.declared.event.Event.{Event}
use Rattle.ob_store.specs.declared.watch.Note.{Note}
use Rattle.ob_store.specs.declared.watch.Note.TheVariants.{Sync}
use Rattle.ob_store.specs.Runs.{write_notes}
use Rattle.ob_store.specs.Disk.{Disk, Image}
use Rattle.ob_store.specs.Calls.{GoesOn, Notes}
use Rattle.ob_store.specs.Told.{events_of}
use Rattle.ob_seal.specs.declared.keys.Keys.{Keys}
use Rattle.ob_seal.specs.Seals.{sealed}
use Rattle.ob_twin.specs.Bodies.{closed_gate}
use Rattle.ob_twin.specs.Keyed.{tagging}
use Rattle.ob_twin.specs.Orders.{set_notes}
use Rattle.ob_check.specs.Written as check
use Rattle.ob_check.specs.Written.{area_of}
use Rattle.ob_twin.specs.Register.{StandsAt}
use Rattle.ob_start.specs.Clear.{LaidInClearBy}
use Rattle.ob_start.specs.Heads.{head_cell}
use Rattle.ob_start.specs.Laying.{HasNoHead, IsTornHead}
use Rattle.ob_start.specs.Orders.{lay_notes}
use Rattle.ob_tables.specs.Rank.{ranks_of}
use Rattle.ob_tables.specs.Buckets.{Buckets, new_buckets}
use Rattle.ob_tables.specs.Version.{Version, EMPTY}
use Rattle.ob_tables.specs.declared.tables.Tables.{Tables}
use Rattle.ob_tables.specs.Spelling.{slot_bytes}
use Rattle.ob_schedule.specs.Schedule.{log_gates}
use Rattle.ob_stand.specs.Fresh.{Ranks, fresh_content, fresh_standing, fresh_version}
use Rattle.ob_stand.specs.Stands.{RingStanding}

-- ---- the words drawn

-- how many words a format draws: one for each index of each bucket
abbrev pub format_words : Params → ℕ
format_words p = buckets p * width p

-- those of a bucket: the buckets take them in rising number, one behind the other
abbrev pub words_of : Params → List ℕ → ℕ → List ℕ
words_of p drawn u = take (width p) (drop (u * width p) drawn)

-- the slots of a bucket's indexes are the ranks of its words
abbrev pub drawn_ranks : Params → List ℕ → Ranks
drawn_ranks p drawn u = ranks_of (words_of p drawn u)

-- a bucket's first version, of its words
abbrev pub first_version : Params → ℕ → List ℕ → Version
first_version p u words = fresh_version p (λ v. ranks_of words) u

-- what a new store stands for
abbrev pub formatted_standing : Params → List ℕ → RingStanding
formatted_standing p drawn = fresh_standing p (drawn_ranks p drawn)

-- ---- its logs

-- each gate of both logs has the bytes of a closed one, whatever the cell had before
abbrev pub HasClosedLogs : Params → Image → Type 0
HasClosedLogs p image = (area batch : ℕ) → area < 2 → batch < p.batches → image (log_gate p area batch) ≡ closed_gate

-- ---- what a crash leaves

-- A new store, but for its head, which may hold anything. Its seals are the first ones of generation 1: the slots', then the
-- checkpoint's.
pub record IsRingLaid (keys : Keys) (p : Params) (drawn : List ℕ) (image : Image) : Type 0 where
  pub generation : StandsAt (tagging keys) 1 image 1
  pub epoch : StandsAt (tagging keys) 5 image 0
  pub checkpoint : check.HoldsCheckpointFrom keys p 0 (fresh_content p (drawn_ranks p drawn)) 1 (buckets p * width p) image
  pub slots : (u slot : ℕ) → u < buckets p → slot < width p → image (slot_cell p 0 u slot) ≡ sealed keys (slot_cell p 0 u slot) 1 (u * width p + slot) (slot_bytes EMPTY [])
  pub closed : HasClosedLogs p image

-- Until the first sync only the head is torn. From then on until the head is written the image is no store. Then all but the head
-- is made.
abbrev pub RingFormatLeaves : Keys → Params → List ℕ → Disk → Image → Type 0
RingFormatLeaves keys p drawn old image = IsTornHead old image ⊎ HasNoHead image ⊎ IsRingLaid keys p drawn image

-- ---- what it leaves in the clear

-- the head's cell is blank, or has the head of these parameters, each byte of it
abbrev pub IsHeadOrBlank : Keys → Params → List ℕ → Type 0
IsHeadOrBlank keys p bytes = (bytes ≡ replicate 128 0) ⊎ (bytes ≡ head_cell keys 1 p)

-- The head, and no other byte, in its cell, and in each of the registers' what it had, or what a register writes there. Refused, the head's
-- cell may be blank, or as it was; and a cell whose write the store refused may have anything.
abbrev pub FormatsInClear : {T E : Type 0} → Keys → Params → Option (List Event) → Image → Image → Result T E → Type 0
FormatsInClear keys p seen old new result = LaidInClearBy (IsHeadOrBlank keys p) (tagging keys) seen old new result × OnOk result (new 0 ≡ head_cell keys 1 p)

-- ---- the first generation

-- the gates of both log areas
abbrev pub all_gates : Params → List ℕ
all_gates p = log_gates p 0 ++ log_gates p 1

-- Generation 1 was made sure of, and the store was this one then: each image has it. The calls before are those that begin the store,
-- and none of them writes a sealed cell.
pub record BeginsFirst {S : Type 0} (disk : S → Disk) (keys : Keys) (p : Params) (old new : S) : Type 0 where
  pub between : S
  pub sure : (disk old).tells → (c : Image) → (disk between).may_leave c → StandsAt (tagging keys) 1 c 1
  pub begun : Notes (events_of (lay_notes (all_gates p))) (disk old).seen (disk between).seen
  pub later : GoesOn (disk between) (disk new)

-- a refused format may have failed before: then nothing was drawn
abbrev pub FormatBegins : {S T : Type 0} → (S → Disk) → Keys → Params → S → S → T → T → Result (Unit {0}) Fault → Type 0
FormatBegins disk keys p old new tape_old tape_new (Ok done) = BeginsFirst disk keys p old new
FormatBegins disk keys p old new tape_old tape_new (Err refused) = (tape_new ≡ tape_old) ⊎ BeginsFirst disk keys p old new

-- ---- its refusals

abbrev pub IsFormatFault : Fault → Type 0
IsFormatFault (fault.StoreFault unsure) = unsure ≡ None
IsFormatFault fault.Memory = Unit {0}
IsFormatFault _ = ⊥

-- ---- parts

-- tables in which no key is present, over buckets of which no version was written
pub record IsBlankTables (p : Params) (t : Tables Buckets) : Type 0 where
  pub book : t.book ≡ replicate p.keys None
  pub metas : t.metas ≡ new_buckets p
  pub rows : (t.stash).rows ≡ finite.empty
  pub counter : t.counter ≡ 0

-- every slot of home 0 has the bytes of no row, under the first numbers of a generation
abbrev pub HasBlankSlots : Keys → Params → ℕ → Image → Type 0
HasBlankSlots keys p g image =
    (u slot : ℕ) → u < buckets p → slot < width p → image (slot_cell p 0 u slot) ≡ sealed keys (slot_cell p 0 u slot) g (u * width p + slot) (slot_bytes EMPTY [])

-- the slots, the checkpoint, a sync, and the number of the epoch
abbrev pub epoch_notes : Params → List Note
epoch_notes p = write_notes (slot_cell p 0 0 0) (buckets p * width p) ++ (write_notes (area_of p 0) (checkpoint_cells p) ++ ((Sync ∷ []) ++ set_notes true 5 0))
