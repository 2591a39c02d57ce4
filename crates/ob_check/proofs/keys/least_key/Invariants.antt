use Rattle.std.specs.Prelude.{◌≡◌, ℕ, List, None}
use Rattle.std.specs.List.{find}
use Rattle.ob_base.specs.Tree.{below}
use Rattle.ob_check.specs.Rules.{may_lie}
use Rattle.ob_check.specs.Marks.{AreMarked}
use Rattle.ob_check.proofs.keys.least_key.Given as goal

abbrev pub invariant-loop-k : goal.invariant-loop-k
invariant-loop-k l = (xs : List ℕ) → AreMarked l.p.keys l.placed xs → find (may_lie l.p l.bytes l.u xs) (below l.k) ≡ None
