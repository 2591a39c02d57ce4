use Rattle.std.proofs.Common.{arith}
use Rattle.ob_check.proofs.PlaceLaws.{numbers_within}
use Rattle.ob_check.proofs.entries.check_counter.Goals as goal

pub u64_at-counter-requires : goal.u64_at-counter-requires
u64_at-counter-requires c = omega (arith, numbers_within c.args.p.now, c.requires)
