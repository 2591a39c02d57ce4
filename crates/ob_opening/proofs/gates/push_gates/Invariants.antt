use Rattle.std.proofs.Common.{◌≡◌, ◌++◌, map}
use Rattle.ob_base.specs.Tree.{below}
use Rattle.ob_base.specs.Layout.{log_gate}
use Rattle.ob_opening.proofs.gates.push_gates.Given as goal

abbrev pub invariant-loop-batch : goal.invariant-loop-batch
invariant-loop-batch l = l.gates.items ≡ l.initial.gates.items ++ map (λ b. log_gate l.p l.area b) (below l.batch)
