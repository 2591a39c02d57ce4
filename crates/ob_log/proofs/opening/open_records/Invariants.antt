use Rattle.std.proofs.Common.{◌≡◌, ◌≤◌, length, vec_capacity}
use Rattle.ob_store.specs.Disk.{Image}
use Rattle.ob_store.specs.Calls.{Holds}
use Rattle.ob_log.proofs.Opens.{SoFar}
use Rattle.ob_log.proofs.opening.open_records.Given as goal

abbrev pub invariant-loop-batch : goal.invariant-loop-batch
invariant-loop-batch l = record {
  so_far : (image : Image) → Holds l.base l.cells image → SoFar l.sealer.keys l.p l.epoch l.batch l.records.items image;
  many : length l.records.items ≡ l.batch;
  capacity : l.p.batches ≤ vec_capacity l.records;
  room : 864 ≤ length l.room;
}
