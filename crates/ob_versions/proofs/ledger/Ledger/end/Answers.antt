use Rattle.ob_order.specs.Works.{end_work}
use Rattle.ob_versions.proofs.Kept.{ready_edit}
use Rattle.ob_versions.proofs.ledger.Ledger.end.Goals as goal

pub invariant_of-self : goal.invariant_of-self
invariant_of-self c =
    let a = c.self.inside in
    let e = c.end_at.ensures in
    (e.kept, ready_edit end_work a.works.items c.end_at.new.list.items c.args.t a.agenda e.list c.self.invariant.1)
