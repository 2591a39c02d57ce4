use Rattle.std.proofs.Common.{arith}
use Rattle.ob_claims.proofs.ClaimSteps.{joins}
use Rattle.ob_claims.proofs.claims.Claims.join.Goals as goal

pub join_seat-requires : goal.join_seat-requires
join_seat-requires c = (c.requires.own.0.table, c.requires.own.1.table, c.requires.own.1.empty, omega (arith, c.args.self.now.one), joins _ _ _ _ _ _ c.requires.own.0.some_part)
