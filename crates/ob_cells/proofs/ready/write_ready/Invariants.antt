use Rattle.std.proofs.Common.{◌≡◌, ◌+◌}
use Rattle.ob_store.specs.Runs.{write_notes}
use Rattle.ob_store.specs.Told.{Tells}
use Rattle.ob_store.proofs.Runs.{Writing}
use Rattle.ob_cells.proofs.ready.write_ready.Given as goal

abbrev pub invariant-loop-i : goal.invariant-loop-i
invariant-loop-i g l = record {
  writing : Writing l.base l.slots l.i (g.S.Store.disk l.initial.store) (g.S.Store.disk l.store);
  told : Tells (write_notes l.base l.i) (write_notes l.base l.i) (g.S.Store.disk l.initial.store).seen (g.S.Store.disk l.store).seen (g.W.Watch.trace l.initial.watch) (g.W.Watch.trace l.watch);
  keys : l.sealer.keys ≡ l.initial.sealer.keys;
  generation : l.sealer.generation ≡ l.initial.sealer.generation;
  next : l.sealer.next ≡ l.initial.sealer.next + l.i;
}
