use Rattle.std.specs.Prelude.{◌≡◌, ◌≤◌, ℕ, List, None, not}
use Rattle.std.specs.List.{find}
use Rattle.ob_base.specs.Tree.{below, width}
use Rattle.ob_check.specs.Rules.{is_among}
use Rattle.ob_check.specs.Marks.{AreMarked}
use Rattle.ob_check.proofs.marks.least_rank.Given as goal

abbrev pub invariant-loop-rank : goal.invariant-loop-rank
invariant-loop-rank l = (n : ℕ) (xs : List ℕ) → width l.p ≤ n → AreMarked n l.taken xs → find (λ rank. not (is_among xs rank)) (below l.rank) ≡ None
