use Rattle.std.proofs.Common.{take, ◌≡◌, ◌≤◌, length}
use Rattle.ob_store.specs.Calls.{Notes}
use Rattle.ob_lanes.specs.Hands.{reads_of}
use Rattle.ob_lanes.specs.Windows.{AreCellsRead}
use Rattle.ob_lanes.proofs.window.read_cells.Given as goal

abbrev pub invariant-loop-i : goal.invariant-loop-i
invariant-loop-i g l = record {
  read : AreCellsRead (g.S.Store.disk l.store) (g.S.Store.lane_faults l.initial.lane) (g.S.Store.lane_faults l.lane) l.asked l.i l.places l.cells;
  seen : Notes (reads_of l.asked (take l.i l.places)) (g.S.Store.lane_seen l.initial.lane) (g.S.Store.lane_seen l.lane);
  later : g.S.Store.lane_faults l.initial.lane ≤ g.S.Store.lane_faults l.lane;
  long : length l.cells ≡ 8;
}
