use Rattle.std.proofs.Common.{◌≡◌, ◌<◌, length, ◌+◌, ℕ, [], slice_index_or}
use Rattle.ob_cells.specs.Windows.{IsSlotSealed}
use Rattle.ob_cells.proofs.sealing.seal_row.Given as goal

abbrev pub invariant-loop-j : goal.invariant-loop-j
invariant-loop-j g l = record {
  many : length l.row ≡ 48;
  seals : l.seals ≡ record { keys = l.sealer.keys; generation = l.sealer.generation; next = l.start.number + l.j };
  sealed_so : (k : ℕ) → k < l.j → IsSlotSealed l.sealer.keys (l.run.base + (l.start.cell + k)) l.sealer.generation (l.start.number + k) (g.P.Pieces.plain l.run.pieces.now (l.start.cell + k)) (slice_index_or l.row k []);
}
