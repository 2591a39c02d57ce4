use Rattle.std.proofs.Common.{◌≡◌, true, is_some, sym, subst}
use Rattle.ob_order.specs.Works as works
use Rattle.ob_order.proofs.work.Work.push_awaited.Goals as goal

pub push_reserved-requires : goal.push_reserved-requires
push_reserved-requires c = c.self.invariant (subst (λ (w : works.Work). is_some w.waiting ≡ true) (sym c.self.view_is) c.requires)
