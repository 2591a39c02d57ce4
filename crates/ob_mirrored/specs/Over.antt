-- What is done over a mirror, and what is left of its halves.
use Rattle.std.specs.Prelude.{◌≡◌, ◌⊎◌, ◌<◌, ℕ, true, false, List, ◌∷◌, ◌++◌, [], Option, Some, None}
use Rattle.std.specs.Borrow.{Bor}
use Rattle.ob_base.specs.Causes.{Rose}
use Rattle.ob_base.specs.Layout.{ring_cells}
use Rattle.ob_base.specs.declared.fault.Fault.TheVariants.{StoreFault}
use Rattle.ob_base.specs.declared.params.Params.{Params}
use Rattle.ob_conduct.specs.declared.run_err.RunErr.{RunErr}
use Rattle.ob_conduct.specs.declared.run_err.RunErr.TheVariants as failed
use Rattle.ob_io.specs.Streams.{Flow}
use Rattle.ob_mirror.specs.Joins.{IsCopy, IsOnlyRead, cell_writes, reads_from}
use Rattle.ob_mirror.specs.Mirrored.{Alike}
use Rattle.ob_mirror.specs.Standing.{EachStands}
use Rattle.ob_mirror.specs.Telling.{Follows}
use Rattle.ob_script.specs.Script.{Scripts}
use Rattle.ob_seal.specs.declared.keys.Keys.{Keys}
use Rattle.ob_serial.specs.Vaults.{Standing}
use Rattle.ob_shares.specs.declared.shares.Shares.{Shares}
use Rattle.ob_store.specs.Calls.{GoesOn, Notes, NotesFirst}
use Rattle.ob_store.specs.Disk.{Disk}
use Rattle.ob_store.specs.Images.{Passes, SameOff}
use Rattle.ob_store.specs.Lines.{Trace}
use Rattle.ob_store.specs.Told.{Tells, TellsFirst}
use Rattle.ob_store.specs.declared.event.Event.{Event}
use Rattle.ob_store.specs.declared.event.Event.TheVariants.{Sync}
use Rattle.ob_store.specs.declared.watch.Note.{Note}
use Rattle.ob_top.specs.Begun.{EndsAtHead, HasReadHead}
use Rattle.ob_top.specs.Complete.{CanRun, StopsFull}
use Rattle.ob_top.specs.Headline.{Stood}
use Rattle.ob_top.specs.Outside.{Given, IsCommandFinished, Outside}
use Rattle.ob_top.specs.Parts.{Manner, reading_head}
use Rattle.ob_top.specs.Pasts.{PastLife}
use Rattle.ob_top.specs.Promised.{Promised}
use Rattle.ob_top.specs.Runs.{RunDone}
use Rattle.ob_vault.specs.RingKind.{ring_kind}
use Rattle.ob_vault.specs.RingLives.{ring_lives}
use Rattle.ob_top.specs.Audited.{ring_audits}
use Rattle.ob_mirrored.specs.Halves.{HalfKeeps}

-- What is read of the first half behind its head, and shown: the register of the epoch, by which nothing is decided so far, and then each cell.
abbrev pub join_notes : Params → List Note
join_notes p = reads_from 5 4 ++ reads_from 0 (ring_cells p)

-- The head of the first was refused, or the watch broke at its read. The first was only read, and the second wasn't touched.
pub record HeadRefused {B : Type 0} (keys : Keys) (one then : Disk) (b d : B) (t u : Trace) (err : RunErr) : Type 0 where
  pub ends : (most : ℕ) (shares : Shares) (input : Flow) → EndsAtHead keys most shares one then t u input input err
  pub second : d ≡ b

-- The join was refused, for a fault of either. The first was only read; of the second other cells than the first's are as they were.
pub record JoinRefused {A : Type 0} (keys : Keys) (one : A → Disk) (a c : A) (two last : Disk) (t u : Trace) (err : RunErr) : Type 0 where
  pub is : err ≡ failed.Fault (StoreFault None)
  pub p : Params
  pub read : A
  pub between : Trace
  pub head : HasReadHead keys p (one a) (one read) t between
  pub first : IsOnlyRead (one a) (one c)
  pub does : TellsFirst (join_notes p) (one read).seen (one c).seen between u
  pub second : GoesOn two last
  pub second_seen : NotesFirst (cell_writes (ring_cells p) ++ Sync ∷ []) two.seen last.seen
  pub second_passes : Passes (SameOff 0 (ring_cells p)) two last
  pub cause : Rose (one a).faults (one c).faults ⊎ Rose two.faults last.faults

-- The second half was made from the first. That was only read; the second has each cell of its store, whatever a crash does. Behind the head's
-- read the watch was whole.
pub record AreJoined {A : Type 0} (keys : Keys) (p : Params) (one : A → Disk) (a c : A) (two last : Disk) (t u : Trace) : Type 0 where
  pub read : A
  pub between : Trace
  pub head : HasReadHead keys p (one a) (one read) t between
  pub first : IsOnlyRead (one a) (one c)
  pub does : Tells (join_notes p) (join_notes p) (one read).seen (one c).seen between u
  pub second : GoesOn two last
  pub second_seen : Notes (cell_writes (ring_cells p) ++ Sync ∷ []) two.seen last.seen
  pub second_passes : Passes (SameOff 0 (ring_cells p)) two last
  pub second_tells : two.tells → last.tells
  pub copied : IsCopy (ring_cells p) (one c) last

-- They were joined, and the watch had broken by then.
pub record BreaksInJoin {A : Type 0} (keys : Keys) (one : A → Disk) (a c : A) (two last : Disk) (t u : Trace) (err : RunErr) : Type 0 where
  pub is : err ≡ failed.Unwatched
  pub p : Params
  pub joined : AreJoined keys p one a c two last t u
  pub broken : u.broken ≡ true

-- why nothing is run over both
abbrev pub AreUnjoined : {A B : Type 0} → Keys → (A → Disk) → (B → Disk) → A → A → B → B → Trace → Trace → RunErr → Type 0
AreUnjoined keys one two a c b d t u err = HeadRefused keys (one a) (one c) b d t u err ⊎ (JoinRefused keys one a c (two b) (two d) t u err ⊎ BreaksInJoin keys one a c (two b) (two d) t u err)

-- A script was run over a mirror of these two halves, which are left so: of the mirror all is told that is told of a store whose head was read
-- before. The mirror was whole when it was lent, and tells its cells where both do and read alike. What a crash leaves of either half alone, at any
-- moment since then, is what it leaves of the mirror: so what the headline says of the mirror's images is true of those of each half.
module _ {X A B : Type 0} (disk : X → Disk) (first_of : X → A) (second_of : X → B) (one : A → Disk) (two : B → Disk) (by : Manner) (before after : Outside) (status : ℕ) (tape : Given) (keys : Keys) where
  pub record IsDoneOver (a c : A) (b d : B) (t u : Trace) : Type 0 where
    pub lent : X
    pub left : X
    pub first : first_of lent ≡ a
    pub second : second_of lent ≡ b
    pub tells : (one a).tells → (two b).tells → Alike (one a) (two b) → (disk lent).tells
    pub first_left : first_of left ≡ c
    pub second_left : second_of left ≡ d
    pub goes : GoesOn (disk lent) (disk left)
    -- It began with no call, so with none refused; and it tells its calls to the end, whatever its halves tell of theirs.
    pub none_made : (disk lent).seen ≡ Some []
    pub none_failed : (disk lent).faults ≡ 0
    pub made : List Event
    pub told : (disk left).seen ≡ Some made
    -- The first half was asked for just these calls, and the second for the same in the same order, with some of the reads left out: all of
    -- them, unless the first's count of faults rose. So it is where each tells its calls, and it goes on to tell them unless its own count
    -- of faults rose. That doesn't fall.
    pub follows : Follows made (one a) (one c) (two b) (two d)
    pub run : RunDone ring_kind ring_lives ring_audits disk (reading_head [] by) tape keys lent left before after t u status
    -- The store's fault is told only where a call of the mirror was refused: a read that the second half served is none.
    pub cause : (unsure : Option ℕ) → run.err ≡ Some (failed.Fault (StoreFault unsure)) → 0 < (disk left).faults
    -- the headline, from the join on
    pub headline : (p : Params) (at : Standing) (past : PastLife) → Stood disk keys p at past tape lent → Promised disk keys p at past (record {
      old = lent;
      new = left;
      before = before;
      after = after;
      lacks_trace = false;
      traced_before = t.faults;
      traced_after = u.faults;
      by = reading_head [] by;
      tape = tape;
      status = status;
    })
    -- what can be run is run, but for want of memory, or of room in the stash
    pub complete : (words : List (List ℕ)) (text : Option (Bor (List ℕ))) (was is : Option Flow) (script : Scripts) (can : CanRun (λ (f : Flow). f) words text (disk lent) (disk left) was is before after ring_kind script) → can.keys ≡ keys → by.shares ≡ can.shares → (Rose t.faults u.faults → ⊥)
        → (status ≡ 0) ⊎ ((status ≡ 9) ⊎ StopsFull disk (λ (f : Flow). f) by.beat tape words text was is before after status (reading_head [] by) can.keys can.p lent left)
    pub each : EachStands (one (first_of lent)) (one (first_of left)) (two (second_of lent)) (two (second_of left)) (disk lent) (disk left)
    pub first_keeps : HalfKeeps disk (λ x. one (first_of x))
    pub second_keeps : HalfKeeps disk (λ x. two (second_of x))

  -- Both were joined, the watch is whole, and then the script was run over them.
  pub record AreRunOver (a c : A) (b d : B) (t u : Trace) : Type 0 where
    pub p : Params
    pub a_joined : A
    pub b_joined : B
    pub midway : Trace
    pub joined : AreJoined keys p one a a_joined (two b) (two b_joined) t midway
    pub whole : midway.broken ≡ false
    pub done : IsDoneOver a_joined c b_joined d midway u

  -- What comes of two stores and keys, under a watch that is whole at first: they weren't joined, or the watch broke by then, and that is told; or
  -- it was run over both.
  abbrev pub OverBoth : A → A → B → B → Trace → Trace → Type 0
  OverBoth a c b d t u = ((err : RunErr) × AreUnjoined keys one two a c b d t u err × (after.input ≡ before.input) × IsCommandFinished before.output after.output (Some err) status) ⊎ AreRunOver a c b d t u
