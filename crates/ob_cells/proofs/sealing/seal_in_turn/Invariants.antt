use Rattle.std.proofs.Common.{◌≡◌, ◌<◌, length, ◌+◌, ◌*◌, ℕ, [], slice_index_or}
use Rattle.ob_cells.specs.Windows.{IsRowSealed}
use Rattle.ob_cells.proofs.sealing.seal_in_turn.Given as goal

abbrev pub invariant-loop-k : goal.invariant-loop-k
invariant-loop-k g l = record {
  many : length l.rows ≡ length l.initial.rows;
  each : (k : ℕ) → k < l.k → IsRowSealed l.task.sealer.now.keys l.task.run.now.base l.task.sealer.now.generation (l.start.number + 48 * k) (g.P.Pieces.plain l.task.run.now.pieces.now) l.task.run.now.many (l.start.cell + 48 * k) (slice_index_or l.rows k []);
}
