use Rattle.std.proofs.Common.{◌≡◌, ◌≤◌, ◌++◌, length}
use Rattle.std.specs.Prelude.{vec_capacity}
use Rattle.std.specs.Vec.Iter.{into_iter_items, into_iter_len}
use Rattle.ob_threads.specs.Served.{words}
use Rattle.ob_threads.specs.Starts.{Each, IsJoined}
use Rattle.ob_threads.proofs.starting.join_all.Given as goal

-- the first ones are joined, and there is room for the others
abbrev pub invariant-loop-one : goal.invariant-loop-one
invariant-loop-one g l = record {
  items : l.yielded ++ into_iter_items l.one-iterator ≡ into_iter_items l.initial.one-iterator;
  count : into_iter_len l.one-iterator ≡ length (into_iter_items l.one-iterator);
  placed : Each (IsJoined (words g.U.Runner.client g.U.Runner.bound g.U.Runner.plan g.U.Runner.fits g.U.Runner.turn) l.fn.hall) l.yielded l.clients.items;
  room : length (into_iter_items l.initial.one-iterator) ≤ vec_capacity l.clients;
}
