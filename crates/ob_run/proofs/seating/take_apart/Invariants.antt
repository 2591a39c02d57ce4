use Rattle.std.proofs.Common.{◌≡◌, ◌≤◌, ◌+◌, ◌++◌, length}
use Rattle.std.specs.Prelude.{vec_capacity}
use Rattle.ob_run.proofs.Listing.{firsts, seconds}
use Rattle.ob_run.proofs.seating.take_apart.Given as goal

-- The clients so far are taken apart, and there is room for the others.
abbrev pub invariant-loop-clients : goal.invariant-loop-clients
invariant-loop-clients g l = record {
  runners : l.runners.items ++ seconds l.clients.items ≡ l.initial.runners.items ++ seconds l.initial.clients.items;
  passes : l.passes.items ++ firsts l.clients.items ≡ l.initial.passes.items ++ firsts l.initial.clients.items;
  room : length l.runners.items + length l.clients.items ≤ vec_capacity l.runners;
  all : length l.passes.items + length l.clients.items ≤ vec_capacity l.passes;
}

abbrev pub decreases-loop-clients : goal.decreases-loop-clients
decreases-loop-clients g l = length l.clients.items
