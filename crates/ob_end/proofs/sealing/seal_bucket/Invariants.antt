use Rattle.std.proofs.Common.{◌≡◌, ◌<◌, length, ◌+◌, ◌%◌, ◌^◌, ℕ, [], slice_index_or}
use Rattle.ob_cells.specs.Windows.{IsSlotSealed}
use Rattle.ob_end.specs.EndWrites.{slot_plain}
use Rattle.ob_end.proofs.sealing.seal_bucket.Given as goal

abbrev pub invariant-loop-j : goal.invariant-loop-j
invariant-loop-j l = record {
  many : length l.slots ≡ 48;
  seals : l.seals ≡ record { keys = l.sealer.keys; generation = l.sealer.generation; next = l.number + l.j };
  sealed_so : (k : ℕ) → k < l.j → IsSlotSealed l.sealer.keys (l.first + k) l.sealer.generation (l.number + k) (slot_plain l.ring l.bucket (k % 2 ^ 8)) (slice_index_or l.slots k []);
}
