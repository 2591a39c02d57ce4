use Rattle.std.proofs.Common.{arith, ap, sym, ◌∙◌}
use Rattle.ob_claims.specs.ClaimRule.{times}
use Rattle.ob_claims.proofs.ClaimSteps.{looks}
use Rattle.ob_claims.proofs.claims.Claims.settle.Goals as goal

pub load-requires : goal.load-requires
load-requires c = (c.requires.own.table, omega (arith, c.args.self.now.one), looks _ _ _ _ _ c.requires.own.some_part)

pub returns-clause-claimed_once : goal.returns-clause-claimed_once
returns-clause-claimed_once c =
    let sees = c.load.ensures.2 in record {
      parts = λ i. (sees.knows i).0.parts;
      claimed = λ i. (sees.knows i).0.claimed;
      rises = sees.rises;
      reached = λ i. (sees.knows i).0.reached;
      once = λ x. ap (times x) (λ i. (sees.knows i).0.claimed) ∙ sees.all (c.requires.all ∙ sym c.requires.own.seats) x;
    }
