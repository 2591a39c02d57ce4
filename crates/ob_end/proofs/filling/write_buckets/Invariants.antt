use Rattle.std.proofs.Common.{take}
use Rattle.ob_store.specs.Told.{Tells}
use Rattle.ob_recover.specs.Ends.{refill_notes}
use Rattle.ob_end.specs.Sealing.{IsGroupReady}
use Rattle.ob_end.proofs.FillsAll.{Filling}
use Rattle.ob_end.proofs.filling.write_buckets.Given as goal

abbrev pub invariant-loop-i : goal.invariant-loop-i
invariant-loop-i g l = record {
  filling : Filling l.ring l.i l.initial.sealer l.sealer (g.S.Store.disk l.initial.store) (g.S.Store.disk l.store);
  told : Tells (refill_notes l.ring.p l.ring.metas.versions (take l.i l.ring.metas.order)) (refill_notes l.ring.p l.ring.metas.versions (take l.i l.ring.metas.order)) (g.S.Store.disk l.initial.store).seen (g.S.Store.disk l.store).seen (g.W.Watch.trace l.initial.watch) (g.W.Watch.trace l.watch);
  ready : IsGroupReady l.initial.sealer.keys l.initial.sealer.generation l.initial.sealer.next l.ring l.i l.bench.rows.items;
}
