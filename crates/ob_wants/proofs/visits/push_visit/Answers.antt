use Rattle.std.proofs.Common.{refl, arith}
use Rattle.ob_wants.proofs.Lists.{visit_all}
use Rattle.ob_wants.proofs.visits.push_visit.Goals as goal

pub returns-then-count-p-2 : goal.returns-then-count-p-2
returns-then-count-p-2 c = visit_all c.args.p.now c.args.bucket c.args.count _ _ _ _ (omega arith) (omega arith) c.in_ok-push_back.ensures.items refl c.in_ok-push_lift.ensures
