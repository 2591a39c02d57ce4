use Rattle.std.proofs.Common.{arith, ◌∙◌, sym}
use Rattle.ob_claims.proofs.ClaimSteps.{clears}
use Rattle.ob_claims.proofs.claims.Claims.clear.Goals as goal

pub store-requires : goal.store-requires
store-requires c = (c.requires.own.table, omega (arith, c.args.self.now.one), clears _ _ _ _ _ c.requires.own.some_part (c.requires.all ∙ sym c.requires.own.seats))
