use Rattle.std.proofs.Common.{◌+◌, ◌*◌}
use Rattle.std.specs.Prelude.{min}
use Rattle.ob_cells.specs.Windows.{few_from}
use Rattle.ob_cells.proofs.RunParts.{Turning}
use Rattle.ob_cells.proofs.long.write_rows.Given as goal

abbrev pub invariant-loop-k : goal.invariant-loop-k
invariant-loop-k g l = record {
  turning : Turning (l.run.base + l.window.at) (few_from l.run.many l.window.at) (min (few_from l.run.many l.window.at) (48 * l.k)) (λ j. g.P.Pieces.plain l.run.pieces.now (l.window.at + j)) l.initial.sealer l.sealer (g.S.Store.disk l.initial.store) (g.S.Store.disk l.store) (g.W.Watch.trace l.initial.watch) (g.W.Watch.trace l.watch);
}
