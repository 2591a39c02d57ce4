use Rattle.std.proofs.Common.{take}
use Rattle.ob_schedule.specs.Schedule.{log_gates, writes_of}
use Rattle.ob_store.specs.Told.{Tells}
use Rattle.ob_end.proofs.Shuts.{Shutting}
use Rattle.ob_end.proofs.shutting.shut_gates.Given as goal

abbrev pub invariant-loop-batch : goal.invariant-loop-batch
invariant-loop-batch g l = record {
  shutting : Shutting l.p l.area l.batch (g.S.Store.disk l.initial.store) (g.S.Store.disk l.store);
  told : Tells (writes_of (take l.batch (log_gates l.p l.area))) (writes_of (take l.batch (log_gates l.p l.area))) (g.S.Store.disk l.initial.store).seen (g.S.Store.disk l.store).seen (g.W.Watch.trace l.initial.watch) (g.W.Watch.trace l.watch);
}
