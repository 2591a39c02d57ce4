use Rattle.std.proofs.Common.{◌≡◌, ◌+◌, ◌<◌, ◌≤◌, ℕ, List, Option, Some, length, slice_get}
use Rattle.ob_drill.specs.Gathered.{HasRows}
use Rattle.ob_drill.proofs.rows.Rows.put_all.Given as goal

abbrev pub invariant-loop-i : goal.invariant-loop-i
invariant-loop-i l = record {
  few : l.self.many ≤ l.fn.self.many + l.i;
  more : (value : ℕ → Option (List ℕ)) → ((i : ℕ) → i < length l.found → slice_get l.found i ≡ Some (value (l.first + i))) → HasRows value l.first l.fn.self → HasRows value (l.first + l.i) l.self;
}
