use Rattle.std.proofs.Common.{◌≡◌, take, drop}
use Rattle.std.specs.List.{list_any}
use Rattle.ob_threads.specs.Served.{words}
use Rattle.ob_threads.specs.Starts.{Each, IsStepped, AreOrdered, ran_here}
use Rattle.ob_threads.proofs.stepping.step_all.Given as goal

-- the first ones have made their steps, and the others none
abbrev pub invariant-loop-one : goal.invariant-loop-one
invariant-loop-one g l = record {
  stepped : Each (IsStepped (words g.U.Runner.client g.U.Runner.bound g.U.Runner.plan g.U.Runner.fits g.U.Runner.turn) l.fn.hall) (take l.one-index l.fn.started) (take l.one-index l.started);
  others : drop l.one-index l.started ≡ drop l.one-index l.fn.started;
  ordered : AreOrdered l.fn.turns (take l.one-index l.started) l.turns;
  ran : l.ran ≡ list_any ran_here (take l.one-index l.started);
}
