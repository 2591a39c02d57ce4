use Rattle.std.proofs.Common.{take}
use Rattle.ob_store.specs.Told.{Tells}
use Rattle.ob_start.specs.Orders.{writes_of}
use Rattle.ob_start.proofs.Shutting.{Shutting}
use Rattle.ob_start.proofs.laying.shut.Given as goal

abbrev pub invariant-loop-gate : goal.invariant-loop-gate
invariant-loop-gate g l = record {
  shutting : Shutting l.gates l.gate-index (g.S.Store.disk l.initial.store) (g.S.Store.disk l.store);
  told : Tells (writes_of (take l.gate-index l.gates)) (writes_of (take l.gate-index l.gates)) (g.S.Store.disk l.initial.store).seen (g.S.Store.disk l.store).seen (g.W.Watch.trace l.initial.watch) (g.W.Watch.trace l.watch);
}
