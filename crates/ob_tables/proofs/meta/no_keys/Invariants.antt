use Rattle.std.proofs.Common.{◌≡◌, None, replicate}
use Rattle.ob_tables.proofs.meta.no_keys.Given as goal

abbrev pub invariant-loop-j : goal.invariant-loop-j
invariant-loop-j l = l.keys.items ≡ replicate l._j None
