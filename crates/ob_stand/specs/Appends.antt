-- A record that is appended to the log.
use Rattle.std.specs.Prelude.{◌<◌, ◌≤◌, suc, ◌+◌, ◌%◌, length}
use Rattle.ob_base.specs.declared.params.Params.{Params}
use Rattle.ob_base.specs.Layout.{record_cells, log_cell}
use Rattle.ob_store.specs.Disk.{Disk, Image}
use Rattle.ob_store.specs.Images.{IsImageOf, SameOff, LeavesOnly, Passes}
use Rattle.ob_seal.specs.declared.keys.Keys.{Keys}
use Rattle.ob_log.specs.Logs.{BatchRecord, OpenRecords}
use Rattle.ob_log.specs.Appends.{HoldsOneOf}
use Rattle.ob_stand.specs.Stands.{RingStanding, Stands, OneOf, with_record}

-- there is room for one more batch, and the record isn't of a later generation
pub record MayAppend (p : Params) (s : RingStanding) (r : BatchRecord) : Type 0 where
  pub room : length s.records < p.batches
  pub known : r.generation ≤ s.generation

-- no cell differs but those of the next batch: its record's body, and its gate
abbrev pub SameButBatch : Params → RingStanding → Image → Image → Type 0
SameButBatch p s = SameOff (log_cell p (suc s.epoch % 2) (length s.records) 0) (record_cells p + 1)

-- ---- the laws

-- where those cells differ alone, the open records decide
pub record AppendDecides (keys : Keys) (p : Params) (s : RingStanding) (r : BatchRecord) (c d : Image) : Type 0 where
  pub old : OpenRecords keys p (suc s.epoch) s.records c → Stands keys p s c
  pub new : OpenRecords keys p (suc s.epoch) (with_record s r).records c → Stands keys p (with_record s r) c

abbrev pub AppendStands : Type 0
AppendStands = (keys : Keys) (p : Params) (s : RingStanding) (r : BatchRecord) (c d : Image) → MayAppend p s r → SameButBatch p s c d → Stands keys p s d → AppendDecides keys p s r c d

-- a run of calls that wrote those cells, and left the open records as they were or with this one
pub record Appending (keys : Keys) (p : Params) (s : RingStanding) (r : BatchRecord) (old new : Disk) : Type 0 where
  pub may : MayAppend p s r
  pub images : (c : Image) → IsImageOf old c → Stands keys p s c
  pub passes : Passes (SameButBatch p s) old new
  pub records : LeavesOnly old new (HoldsOneOf keys p (suc s.epoch) s.records r)

-- A crash at any moment leaves what stood, or that with the record.
abbrev pub AppendsLeave : {S : Type 0} → (S → Disk) → Type 0
AppendsLeave {S} disk = (keys : Keys) (p : Params) (s : RingStanding) (r : BatchRecord) (old new : S) → Appending keys p s r (disk old) (disk new)
    → LeavesOnly (disk old) (disk new) (OneOf keys p s (with_record s r))
