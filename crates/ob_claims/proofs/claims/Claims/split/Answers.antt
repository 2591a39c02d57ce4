use Rattle.std.proofs.Common.{arith}
use Rattle.ob_claims.proofs.ClaimSteps.{splits}
use Rattle.ob_claims.proofs.claims.Claims.split.Goals as goal

pub split_seat-requires : goal.split_seat-requires
split_seat-requires c = (c.requires.own.table, omega (arith, c.args.self.now.one), splits _ _ _ _ c.requires.parts)
