use Rattle.ob_outside.proofs.Tried.{place_on}
use Rattle.ob_outside.proofs.lanes.FileStoreLanes.read_parts.Goals as goal

pub returns-clause-each : goal.returns-clause-each
returns-clause-each g c = λ i lt. place_on 0 c.args.self.now.faults c.args.claims.now c.args.round.now c.args.asked.now _ _ (c.read_hands.ensures.each i lt)
