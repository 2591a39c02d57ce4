use Rattle.std.proofs.Common.{◌≤◌}
use Rattle.ob_seal.specs.Pieces.{piece}
use Rattle.ob_store.specs.Told.{Tells}
use Rattle.ob_cells.specs.Orders.{read_notes}
use Rattle.ob_cells.specs.Runs.{IsRun, run_at}
use Rattle.ob_cells.proofs.reading.read_run.Given as goal

abbrev pub invariant-loop-i : goal.invariant-loop-i
invariant-loop-i g l = record {
  run : (g.S.Store.disk l.store).tells → IsRun l.sealer.keys l.base l.i l.first (λ j. piece j l.plain) (run_at l.base (g.S.Store.disk l.store).cells);
  later : g.S.Store.lane_faults l.fn.lane ≤ g.S.Store.lane_faults l.lane;
  tells : Tells (read_notes l.base l.i) (read_notes l.base l.i) (g.S.Store.lane_seen l.fn.lane) (g.S.Store.lane_seen l.lane) (g.W.Watch.trace l.fn.watch) (g.W.Watch.trace l.watch);
}
