use Rattle.std.proofs.Common.{◌≡◌, false, replicate}
use Rattle.ob_tables.proofs.meta.no_marks.Given as goal

abbrev pub invariant-loop-j : goal.invariant-loop-j
invariant-loop-j l = l.used.items ≡ replicate l._j false
