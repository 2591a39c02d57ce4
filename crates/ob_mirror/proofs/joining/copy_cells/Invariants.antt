use Rattle.std.proofs.Common.{◌≤◌}
use Rattle.ob_store.specs.Told.{Tells}
use Rattle.ob_mirror.specs.Joins.{reads_from}
use Rattle.ob_mirror.proofs.Copying.{Copying}
use Rattle.ob_mirror.proofs.joining.copy_cells.Given as goal

abbrev pub invariant-loop-cell : goal.invariant-loop-cell
invariant-loop-cell g l = record {
  copying : Copying l.cells l.cell (g.A.Store.disk l.first) (g.B.Store.disk l.initial.second) (g.B.Store.disk l.second);
  reads : Tells (reads_from 0 l.cell) (reads_from 0 l.cell) (g.A.Store.lane_seen l.initial.lane) (g.A.Store.lane_seen l.lane) (g.W.Watch.trace l.initial.watch) (g.W.Watch.trace l.watch);
  later : g.A.Store.lane_faults l.initial.lane ≤ g.A.Store.lane_faults l.lane;
}
