use Rattle.ob_store.specs.Runs.{write_notes}
use Rattle.ob_store.specs.Told.{Tells}
use Rattle.ob_store.proofs.Runs.{Writing}
use Rattle.ob_store.proofs.run.write_run.Given as goal

abbrev pub invariant-loop-i : goal.invariant-loop-i
invariant-loop-i g l = record {
  writing : Writing l.base l.rows l.i (g.S.Store.disk l.initial.store) (g.S.Store.disk l.store);
  told : Tells (write_notes l.base l.i) (write_notes l.base l.i) (g.S.Store.disk l.initial.store).seen (g.S.Store.disk l.store).seen (g.W.Watch.trace l.initial.watch) (g.W.Watch.trace l.watch);
}
