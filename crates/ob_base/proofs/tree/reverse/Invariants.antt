use Rattle.ob_base.proofs.TreeLaws.{Turns}
use Rattle.ob_base.proofs.tree.reverse.Given as goal

abbrev pub invariant-loop-bit : goal.invariant-loop-bit
invariant-loop-bit l = Turns l.p.levels l._bit l.turned l.rest l.c
