-- What the halves of a mirror tell of their own calls, beside the mirror's log.
use Rattle.std.specs.Prelude.{◌≡◌, ◌⊎◌, ◌≤◌, ◌<◌, ℕ, List, [], ◌∷◌, Option, Some, None}
use Rattle.ob_base.specs.Causes.{Rose}
use Rattle.ob_store.specs.declared.event.Event.{Event}
use Rattle.ob_store.specs.declared.event.Event.TheVariants.{Read, Write, Sync}
use Rattle.ob_store.specs.Disk.{Disk}
use Rattle.ob_store.specs.Calls.{Notes, TellsOn}

-- events without the reads
abbrev pub changes : List Event → List Event
changes [] = []
changes (Read cell ∷ events) = changes events
changes (Write cell ∷ events) = Write cell ∷ changes events
changes (Sync ∷ events) = Sync ∷ changes events

-- this event is the first of these, and those behind it are so
abbrev pub BeginsWith : Event → (List Event → Type 0) → List Event → Type 0
BeginsWith event Behind [] = ⊥
BeginsWith event Behind (first ∷ rest) = (first ≡ event) × Behind rest

-- The others are these events, in the same order, with some of the reads left out: a write or a sync is the next of them, and a
-- read is, or is left out.
abbrev pub LeavesOutReads : List Event → List Event → Type 0
LeavesOutReads [] others = others ≡ []
LeavesOutReads (Read cell ∷ events) others = BeginsWith (Read cell) (LeavesOutReads events) others ⊎ LeavesOutReads events others
LeavesOutReads (Write cell ∷ events) others = BeginsWith (Write cell) (LeavesOutReads events) others
LeavesOutReads (Sync ∷ events) others = BeginsWith Sync (LeavesOutReads events) others

-- one of these events is a read
abbrev pub HasSomeRead : List Event → Type 0
HasSomeRead [] = ⊥
HasSomeRead (Read cell ∷ events) = Unit {0}
HasSomeRead (Write cell ∷ events) = HasSomeRead events
HasSomeRead (Sync ∷ events) = HasSomeRead events

-- A half's count of faults doesn't fall, and it goes on to tell its calls, unless that count rose.
pub record TellsStill (old new : Disk) : Type 0 where
  pub faults : old.faults ≤ new.faults
  pub seen : TellsOn old.seen new.seen old.faults new.faults

-- Of calls that a mirror tells as these events the first half was asked for just these, and the second for the same in the same order,
-- with some of the reads left out: it was asked for none but where the first half's count of faults rose.
pub record Follows (made : List Event) (a c b d : Disk) : Type 0 where
  pub own : List Event
  pub first : Notes made a.seen c.seen
  pub second : Notes own b.seen d.seen
  pub same : LeavesOutReads made own
  pub failed : HasSomeRead own → Rose a.faults c.faults
  pub first_still : TellsStill a c
  pub second_still : TellsStill b d

-- a lane of the first half tells the reads of the mirror's lane, where it tells its own
abbrev pub TellsReads : List Event → Option (List Event) → Type 0
TellsReads reads (Some events) = events ≡ reads
TellsReads reads None = Unit {0}

-- a lane of the second half tells some of them, where it tells its own
abbrev pub TellsSome : List Event → Option (List Event) → Type 0
TellsSome reads (Some events) = LeavesOutReads reads events
TellsSome reads None = Unit {0}

-- it tells a read
abbrev pub ToldRead : Option (List Event) → Type 0
ToldRead (Some events) = HasSomeRead events
ToldRead None = ⊥

-- A mirror's lane has these reads and nothing else in its log, and the first half's tells just them; the second's tells some of
-- them, and none before a read of the first's failed.
pub record LaneTells (reads : List Event) (first second : Option (List Event)) (faults : ℕ) : Type 0 where
  pub only : changes reads ≡ []
  pub same : TellsReads reads first
  pub again : TellsSome reads second
  pub failed : ToldRead second → 0 < faults
