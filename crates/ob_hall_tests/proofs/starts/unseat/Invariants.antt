use Rattle.std.proofs.Common.{◌≡◌, ◌≤◌, ◌+◌, All, length}
use Rattle.std.specs.Prelude.{vec_capacity}
use Rattle.ob_hall.specs.Calling.{IsReady}
use Rattle.ob_hall_tests.specs.Halls.{AreDone}
use Rattle.ob_hall_tests.proofs.starts.unseat.Given as goal

abbrev pub invariant-loop-k : goal.invariant-loop-k
invariant-loop-k l = record {
  done : AreDone l.fn.hall (length l.back.items) l.passes.items;
  ready : All (λ c. IsReady l.fn.hall c.0) l.back.items;
  count : length l.passes.items + length l.back.items ≡ 4;
  left : length l.back.items + l.k ≡ 3;
  room : 4 ≤ vec_capacity l.passes;
}
