use Rattle.std.proofs.Common.{◌≡◌, ◌≤◌, take, length}
use Rattle.std.specs.Prelude.{vec_capacity}
use Rattle.ob_runner.specs.Runners.{AreRunnersOf}
use Rattle.ob_runner.proofs.starting.runners_of.Given as goal

-- The runners so far are the first clients', and there is room for the others.
abbrev pub invariant-loop-client : goal.invariant-loop-client
invariant-loop-client l = record {
  are : AreRunnersOf l.scripts (take l.client-index l.clients) l.runners.items;
  many : length l.runners.items ≡ l.client-index;
  room : length l.clients ≤ vec_capacity l.runners;
}
