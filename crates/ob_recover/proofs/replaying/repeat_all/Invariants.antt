use Rattle.std.proofs.Common.{◌≡◌, ◌≤◌}
use Rattle.ob_store.specs.Images.{Same, Passes}
use Rattle.ob_store.specs.Calls.{GoesOn, Keeps}
use Rattle.ob_recover.specs.Fits.{IsPlannerFit}
use Rattle.ob_recover.proofs.ReplayLaws.{Repeating}
use Rattle.ob_recover.proofs.replaying.repeat_all.Given as goal

abbrev pub invariant-loop-i : goal.invariant-loop-i
invariant-loop-i g l = record {
  goes : GoesOn (g.S.Store.disk l.initial.store) (g.S.Store.disk l.store);
  out : (g.S.Store.disk l.store).out ≤ (g.S.Store.disk l.initial.store).out;
  keeps : Keeps (g.S.Store.disk l.initial.store) (g.S.Store.disk l.store);
  passes : Passes Same (g.S.Store.disk l.initial.store) (g.S.Store.disk l.store);
  crew : l.crew ≡ l.initial.crew;
  room : l.jobs.room ≡ l.initial.jobs.room;
  place_room : l.jobs.place_room ≡ l.initial.jobs.place_room;
  fit : IsPlannerFit l.initial.ring → IsPlannerFit l.ring;
  so_far : Repeating l.sealer.keys l.initial.ring l.initial.crew.lanes l.records l.i (g.S.Store.disk l.initial.store) (g.S.Store.disk l.store) (g.W.Watch.trace l.initial.watch) (g.W.Watch.trace l.watch) l.ring;
}
