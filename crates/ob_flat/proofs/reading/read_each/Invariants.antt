use Rattle.std.proofs.Common.{◌≤◌}
use Rattle.ob_store.specs.Told.{Tells}
use Rattle.ob_cells.specs.Orders.{read_notes}
use Rattle.ob_flat.proofs.RowReads.{SoFar}
use Rattle.ob_flat.proofs.reading.read_each.Given as goal

abbrev pub invariant-loop-i : goal.invariant-loop-i
invariant-loop-i g l = record {
  rows : (g.S.Store.disk l.store).tells → SoFar l.sealer.keys l.base (g.S.Store.disk l.store).cells l.values l.i l.expected;
  later : g.S.Store.lane_faults l.initial.lane ≤ g.S.Store.lane_faults l.lane;
  tells : Tells (read_notes l.base l.i) (read_notes l.base l.i) (g.S.Store.lane_seen l.initial.lane) (g.S.Store.lane_seen l.lane) (g.W.Watch.trace l.initial.watch) (g.W.Watch.trace l.watch);
}
