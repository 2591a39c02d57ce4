use Rattle.std.proofs.Common.{◌≡◌, ◌≤◌, ◌++◌, length}
use Rattle.std.specs.Prelude.{vec_capacity}
use Rattle.ob_run.proofs.Listing.{firsts, seconds}
use Rattle.ob_run.proofs.seating.seat_all.Given as goal

-- The runners so far have their passes, those that are left are the others', and there is room for all.
abbrev pub invariant-loop-runners : goal.invariant-loop-runners
invariant-loop-runners g l = record {
  runners : seconds l.clients.items ++ l.runners.items ≡ l.initial.runners.items;
  passes : firsts l.clients.items ++ l.passes.items ≡ l.initial.passes.items;
  many : length l.passes.items ≡ length l.runners.items;
  room : length l.initial.runners.items ≤ vec_capacity l.clients;
  kept : (vec_capacity l.runners ≡ vec_capacity l.initial.runners) × (vec_capacity l.passes ≡ vec_capacity l.initial.passes);
}

abbrev pub decreases-loop-runners : goal.decreases-loop-runners
decreases-loop-runners g l = length l.runners.items
