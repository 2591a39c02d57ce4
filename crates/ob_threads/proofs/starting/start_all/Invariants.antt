use Rattle.std.proofs.Common.{◌≡◌, ◌≤◌, ◌++◌, length, drop, map}
use Rattle.std.specs.Prelude.{vec_capacity}
use Rattle.std.specs.Vec.Iter.{into_iter_items, into_iter_len}
use Rattle.ob_threads.specs.Served.{words}
use Rattle.ob_threads.specs.Starts.{Each, HasItsPlace, IsAsItCame, stays}
use Rattle.ob_threads.proofs.starting.start_all.Given as goal

-- the clients so far have their places, and there is room for the others
abbrev pub invariant-loop-client : goal.invariant-loop-client
invariant-loop-client g l = record {
  items : l.yielded ++ into_iter_items l.client-iterator ≡ into_iter_items l.initial.client-iterator;
  count : into_iter_len l.client-iterator ≡ length (into_iter_items l.client-iterator);
  placed : Each (HasItsPlace (words g.U.Runner.client g.U.Runner.bound g.U.Runner.plan g.U.Runner.fits g.U.Runner.turn) l.fn.hall) l.yielded l.started.items;
  came : Each IsAsItCame l.yielded l.started.items;
  others : drop (length l.fn.flags) l.started.items ≡ map stays (drop (length l.fn.flags) l.yielded);
  room : length (into_iter_items l.initial.client-iterator) ≤ vec_capacity l.started;
}
