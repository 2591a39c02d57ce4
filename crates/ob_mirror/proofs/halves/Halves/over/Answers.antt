use Rattle.ob_mirror.proofs.Tells.{follows_begun}
use Rattle.ob_mirror.proofs.halves.Halves.over.Goals as goal

pub invariant_of-result-clause-follows : goal.invariant_of-result-clause-follows
invariant_of-result-clause-follows g c = follows_begun g.A.Store.disk g.B.Store.disk c.new.result.events _ _ _ _ c.new.ensures c.of-first_then.ensures c.of-second_then.ensures
