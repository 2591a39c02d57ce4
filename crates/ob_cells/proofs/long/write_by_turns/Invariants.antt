use Rattle.std.proofs.Common.{◌≡◌, ◌-◌, length}
use Rattle.ob_cells.specs.Windows.{AreRowsSealed}
use Rattle.ob_cells.proofs.RunParts.{Turning}
use Rattle.ob_cells.proofs.long.write_by_turns.Given as goal

abbrev pub invariant-loop-at : goal.invariant-loop-at
invariant-loop-at g l = record {
  turning : Turning l.task.run.now.base l.task.run.now.many l.at (g.P.Pieces.plain l.task.run.now.pieces.now) l.initial.sealer l.sealer (g.S.Store.disk l.initial.store) (g.S.Store.disk l.store) (g.W.Watch.trace l.initial.watch) (g.W.Watch.trace l.watch);
  one : length l.one ≡ 32;
  other : length l.other ≡ 32;
  ready : AreRowsSealed l.sealer.keys l.task.run.now.base l.sealer.generation l.sealer.next (g.P.Pieces.plain l.task.run.now.pieces.now) l.task.run.now.many l.at l.one;
}

abbrev pub decreases-loop-at : goal.decreases-loop-at
decreases-loop-at g l = l.task.run.now.many - l.at
