use Rattle.std.proofs.Common.{◌≡◌, ◌≤◌, ◌+◌, All, length}
use Rattle.std.specs.Prelude.{vec_capacity}
use Rattle.ob_hall_tests.specs.Halls.{AreStarting, IsVisiting}
use Rattle.ob_hall_tests.proofs.starts.seat.Given as goal

abbrev pub invariant-loop-passes : goal.invariant-loop-passes
invariant-loop-passes g l = record {
  left : AreStarting l.fn.hall (length l.waiting.items) l.passes.items;
  visiting : All (λ c. IsVisiting l.fn.hall c.0 c.1.client c.1.gone) l.waiting.items;
  count : length l.passes.items + length l.waiting.items ≡ 4;
  room : 3 ≤ vec_capacity l.waiting;
  capacity : vec_capacity l.passes ≡ vec_capacity l.initial.passes;
}

abbrev pub decreases-loop-passes : goal.decreases-loop-passes
decreases-loop-passes g l = length l.passes.items
