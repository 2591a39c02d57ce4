-- How a run begins, what is seen of it, and how it ends: what the headline and `RunDone` share.
use Rattle.std.specs.Prelude.{ℕ, Bool, ◌≡◌, ◌≤◌, ◌*◌, ◌⊎◌, length, All, List, [], ◌∷◌, ◌++◌, map, Option, Some, None}
use Rattle.std.specs.Ordering.{nat_cmp}
use Rattle.ob_base.specs.declared.params.Params.{Params}
use Rattle.ob_seal.specs.declared.keys.Keys.{Keys}
use Rattle.ob_base.specs.declared.fault.Fault.{Fault}
use Rattle.ob_base.specs.declared.fault.Field.{Field}
use Rattle.ob_base.specs.declared.fault.Field.TheVariants.{READS, WRITES}
use Rattle.ob_base.specs.declared.fault.Fault.TheVariants.{Memory}
use Rattle.ob_io.specs.Flows.{IsInput}
use Rattle.ob_io.specs.Streams.{Flow}
use Rattle.ob_store.specs.declared.event.Event.{Event}
use Rattle.ob_conduct.specs.declared.run_err.RunErr.{RunErr}
use Rattle.ob_store.specs.Disk.{Disk, Image}
use Rattle.ob_store.specs.Images.{LeavesOnly}
use Rattle.ob_serial.specs.Serial.{EpochRecord, Map, OneByOne, AreInOrder, committed_of}
use Rattle.ob_serial.specs.Vaults.{VaultCall, VaultAnswer, Standing, StandsIn}
use Rattle.ob_schedule.specs.Phases.{Phase, Reads}
use Rattle.ob_recover.specs.Telling.{AreDealt}
use Rattle.ob_twin.specs.Clear.{AreInClear, AreInClearBut}
use Rattle.ob_twin.specs.Keyed.{tagging}
use Rattle.ob_vault.specs.Shapes.{Shape, answered, shapes, refused}
use Rattle.ob_vault.specs.Kinds.{StoreKind}
use Rattle.ob_vault.specs.KindShown.{AreDrawn, IsSeenCut, public_behind, steps_phases}
use Rattle.ob_shares.specs.declared.shares.Shares.{Shares}
use Rattle.ob_desk.specs.Desk.{DeskState}
use Rattle.ob_desk.specs.Beats.{BeatKind}
use Rattle.ob_script.specs.Script.{Scripts, IsScript, limit}
use Rattle.ob_conduct.specs.declared.run_err.RunErr.TheVariants as failed
use Rattle.ob_conduct.specs.Acts.{Act, fault_of, fault_told}
use Rattle.ob_conduct.specs.Moves.{IsSaid, IsStoppedFor}
use Rattle.ob_conduct.specs.Records.{IsOver, contents}
use Rattle.ob_conduct.specs.Left.{IsThisOrNext, next_at}
use Rattle.ob_outcomes.specs.Served.{ClientsServed}

-- The phases of the opening: the read of the head, which is of these cells, and the order that the kind of store gives.
abbrev pub begin_phases : (store : StoreKind) → (head : List ℕ) → Params → store.Found → store.Start → List Phase
begin_phases store head p found start = map (λ cell. Reads (cell ∷ [])) head ++ store.opens p found start

-- the cell of the head
abbrev pub head_cells : List ℕ
head_cells = 0 ∷ []

-- What is seen of serving: the phases of the vault's calls, one behind the other, each one's reads dealt to so many lanes at most, and of a
-- call that was refused what its fault allows. The phases depend on the parameters, on what is public of the vault, on how the calls follow
-- one another, and on what they draw; on no key, no value and no write. What they draw is, call by call, what is to be drawn behind the
-- calls before it; and its words, with those of a call that was refused, are those that the tape has given.
pub record IsTraced (store : StoreKind) (most : ℕ) (p : Params) (found : store.Found) (words : List ℕ) (asked : List (VaultCall × VaultAnswer)) (fault : Option Fault) (events : List Event) : Type 0 where
  pub steps : List (Shape × store.Drawn)
  pub shapes_are : map (λ s. s.0) steps ≡ shapes asked
  pub behind : store.Hidden
  pub drawn : AreDrawn store p (store.hidden p found) (answered asked) steps behind
  pub of_tape : store.is_of_tape p behind (refused asked) words fault
  -- what is seen of the calls that were answered
  pub first : List Event
  pub dealt : AreDealt most (steps_phases store p (store.public p found) steps) first
  pub more : List Event
  pub cut : IsSeenCut store most p (public_behind store p (store.public p found) steps) behind (refused asked) words fault more
  pub events_are : events ≡ first ++ more

-- a script came in
pub record CameIn (keys : ℕ) (before : Flow) (script : Scripts) : Type 0 where
  -- the bytes that came in, up to the first one past the limit
  pub input : List ℕ
  pub input_is : IsInput before.bytes limit input
  pub is_script : IsScript keys input script

-- So many clients may have this share, where it is given: it isn't 0, and there is a place for each key that they may name together.
abbrev pub ShareFits : ℕ → ℕ → Option ℕ → Type 0
ShareFits clients places None = Unit {0}
ShareFits clients places (Some keys) = (1 ≤ keys) × (clients * keys ≤ places)

-- the script's clients may have these shares: of the places of a read batch, and of the write batch
pub record SharesFit (p : Params) (script : Scripts) (shares : Shares) : Type 0 where
  pub reads : ShareFits (length script.clients) p.places shares.reads
  pub writes : ShareFits (length script.clients) p.writes shares.writes

-- the first one that they may not have
abbrev pub IsShareRefused : Params → Scripts → Shares → Field → Type 0
IsShareRefused p script shares READS = ShareFits (length script.clients) p.places shares.reads → ⊥
IsShareRefused p script shares WRITES = ShareFits (length script.clients) p.places shares.reads × (ShareFits (length script.clients) p.writes shares.writes → ⊥)
IsShareRefused p script shares _ = ⊥

-- A script came in for a store of these parameters, and this was found in it.
pub record IsOpened (store : StoreKind) (keys : Keys) (old : Disk) (before : Flow) (p : Params) (script : Scripts) (found : store.Found) (start : store.Start) : Type 0 where
  pub head : old.tells → store.is_head keys p (old.cells 0)
  pub came : CameIn p.keys before script
  pub finds : old.tells → store.finds keys p old.cells found
  -- what else the order of the opening depends on
  pub starts : old.tells → store.starts keys p old.cells found start

-- How serving ended. Without a fault each client has signed off, nothing waits, and the desk isn't stopped; else the driver's last act,
-- behind which there are clients' turns alone, tells of the fault, and the desk is stopped for that, or for want of memory that a client
-- had met just before; or nothing was done for want of memory.
abbrev pub EndsWith : Option RunErr → List Act → DeskState → Type 0
EndsWith None acts desk = IsOver desk
EndsWith (Some err) acts desk = ((err ≡ failed.Fault Memory) × (acts ≡ [])) ⊎ ((front : List Act) × (act : Act) × (behind : List Act) × (acts ≡ front ++ act ∷ behind) × All IsSaid behind × (fault_told act ≡ Some err) × IsStoppedFor desk.stop (fault_of err) act front)

-- How a run goes: which cells it reads as the head, none where that was read before; at which looks its driver may act, whether its clients have
-- threads of their own, how many lanes may share a phase's reads, and which shares each client has.
pub record Manner : Type 0 where
  pub head : List ℕ
  pub beat : BeatKind
  pub threads : Bool
  pub lanes : ℕ
  pub shares : Shares

abbrev pub manner : BeatKind → Bool → ℕ → Shares → Manner
manner beat threads lanes shares = record { head = head_cells; beat = beat; threads = threads; lanes = lanes; shares = shares }

-- the same, where these cells are read as the head
abbrev pub reading_head : List ℕ → Manner → Manner
reading_head head by = record { head = head; beat = by.beat; threads = by.threads; lanes = by.lanes; shares = by.shares }

-- What stands in the clear behind a run: each cell of the head and of the registers is as it was, or has what a register writes there, byte
-- by byte. Where something cut the run off: but for one whose write the store refused, which was the last call; so where the store doesn't tell
-- its calls, nothing is said there.
abbrev pub IsInClearBehind : Keys → (old new : Disk) → Option RunErr → Type 0
IsInClearBehind keys old new None = AreInClear (tagging keys) old.cells new.cells
IsInClearBehind keys old new (Some err) = AreInClearBut (tagging keys) new.seen old.cells new.cells

-- The record is that of the next epoch: with it too each client's transactions are a front of its script's, and those that its close
-- kept run one by one behind the committed ones, from each such map.
pub record ComesNext (IsMap : Map nat_cmp → Type 0) (epoch : ℕ) (script : Scripts) (records : List (EpochRecord ℕ)) (r : EpochRecord ℕ) : Type 0 where
  pub epoch_is : r.epoch ≡ epoch
  pub served : ClientsServed script (records ++ r ∷ [])
  pub in_order : AreInOrder (records ++ r ∷ [])
  pub one_by_one : (m : Map nat_cmp) → IsMap m → OneByOne nat_cmp m (committed_of (records ++ r ∷ [])) (contents m (records ++ r ∷ []))

-- the epoch whose end was begun behind those of the records, where one was
abbrev pub IsNextEpoch : (IsMap : Map nat_cmp → Type 0) → ℕ → Scripts → List (EpochRecord ℕ) → Option (EpochRecord ℕ) → Type 0
IsNextEpoch IsMap epoch script records None = Unit {0}
IsNextEpoch IsMap epoch script records (Some r) = ComesNext IsMap epoch script records r

-- Stages of serving, one behind each epoch's end. From one to the next a crash leaves what stands behind the epochs so far, or behind one
-- more; from the last one on, that or what stands behind the epoch whose end was begun.
abbrev pub StagedFrom : {S : Type 0} → (S → Disk) → (Image → Standing → Type 0) → Standing → List (EpochRecord ℕ) → Option (EpochRecord ℕ) → Disk → Disk → Type 0
StagedFrom disk stands now [] next from last = LeavesOnly from last (StandsIn stands (IsThisOrNext now next))
StagedFrom {S} disk stands now (r ∷ told) next from last = (mid : S) × LeavesOnly from (disk mid) (StandsIn stands (IsThisOrNext now (Some r))) × StagedFrom disk stands (next_at now r) told next (disk mid) last
