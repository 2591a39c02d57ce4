use Rattle.std.specs.Prelude.{◌≡◌, take}
use Rattle.ob_schedule.specs.Holes.{firsts}
use Rattle.ob_wants.proofs.evicted.firsts_of.Given as goal

abbrev pub invariant-loop-u : goal.invariant-loop-u
invariant-loop-u l = l.out.items ≡ firsts (take l.u-index l.list)
