use Rattle.std.proofs.Common.{◌≡◌, replicate}
use Rattle.ob_tables.specs.Version.{blank}
use Rattle.ob_tables.proofs.metas.blanks.Given as goal

abbrev pub invariant-loop-j : goal.invariant-loop-j
invariant-loop-j l = l.metas.items ≡ replicate l._j (blank l.p)
