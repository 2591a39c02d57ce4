use Rattle.std.proofs.Common.{◌≡◌, ◌≤◌, length, vec_capacity}
use Rattle.ob_lanes.proofs.Each.{Each}
use Rattle.ob_lanes.proofs.readers.make_parts.Given as goal

abbrev pub invariant-loop : goal.invariant-loop
invariant-loop l = record {
  many : length l.parts.items ≡ l.counter;
  room : l.lanes ≤ vec_capacity l.parts;
  each : Each (λ p. l.room ≤ vec_capacity p) l.parts.items;
}
