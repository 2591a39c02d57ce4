use Rattle.std.proofs.Common.{◌&&◌, nat_lt, if◌then◌else◌, ap, ◌∙◌}
use Rattle.ob_versions.proofs.Kept.{others_in, count_fits}
use Rattle.ob_versions.proofs.ledger.Ledger.other_keys.Goals as goal

pub overflow_sub-result : goal.overflow_sub-result
overflow_sub-result c =
    let a = c.self.inside in
    count_fits a.keys a.written a.works.items a.table c.args.key c.count_where.result c.self.invariant.0 (c.count_where.ensures ∙ ap (λ b. if b && nat_lt c.args.key a.keys then 1 else 0) c.has_versions.ensures)

pub returns : goal.returns
returns c =
    let a = c.self.inside in
    others_in a.keys a.written a.works.items a.table c.args.self.now c.self.invariant.0 c.self.view_is c.args.key c.count_where.result (c.count_where.ensures ∙ ap (λ b. if b && nat_lt c.args.key a.keys then 1 else 0) c.has_versions.ensures)
