use Rattle.std.proofs.Common.{◌≡◌, ℕ, ◌+◌, ◌<◌, ◌≤◌, [], get_or}
use Rattle.ob_store.specs.Told.{Tells}
use Rattle.ob_cells.specs.Orders.{read_notes}
use Rattle.ob_cells.proofs.raw.read_through.Given as goal

abbrev pub invariant-loop-i : goal.invariant-loop-i
invariant-loop-i g l = record {
  bytes : (g.S.Store.disk l.store).tells → (j : ℕ) → j < l.i → (g.S.Store.disk l.store).cells (l.base + j) ≡ get_or l.cells j [];
  later : g.S.Store.lane_faults l.initial.lane ≤ g.S.Store.lane_faults l.lane;
  tells : Tells (read_notes l.base l.i) (read_notes l.base l.i) (g.S.Store.lane_seen l.initial.lane) (g.S.Store.lane_seen l.lane) (g.W.Watch.trace l.initial.watch) (g.W.Watch.trace l.watch);
}
