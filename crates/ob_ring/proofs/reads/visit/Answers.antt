use Rattle.std.proofs.Common.{◌∙◌, sym, length}
use Rattle.std.specs.List.{count_by, range_with_len}
use Rattle.ob_tables.specs.Version.{used_at}
use Rattle.ob_ring.specs.Picked.{spot_at}
use Rattle.ob_ring.proofs.PlanLaws.{visit_shows, visit_lifts}
use Rattle.ob_ring.proofs.reads.visit.Goals as goal

pub returns-then-before-p-clause-plans : goal.returns-then-before-p-clause-plans
returns-then-before-p-clause-plans c = visit_lifts c.args.p.now c.args.metas.now c.show.new.metas c.lift.new.metas c.args.jobs.now c.show.new.jobs c.lift.new.jobs c.args.ask c.index_in.result (spot_at c.args.found) c.args.bucket c.reads-before.result
    c.requires.whole c.requires.bucket (sym c.is_lifted.ensures ∙ c.if-is_lifted.false) c.index_in.ensures (c.reads-before.ensures.count ∙ (λ i. count_by (used_at (c.get.ensures i)) (range_with_len 0 (length (c.get.ensures i).used)))) c.if-before-p.true c.show.ensures.plans c.lift.ensures.plans

pub returns-else-before-p-clause-plans : goal.returns-else-before-p-clause-plans
returns-else-before-p-clause-plans c = visit_shows c.args.p.now c.args.metas.now c.show.new.metas c.args.jobs.now c.show.new.jobs c.args.ask c.index_in.result (spot_at c.args.found) c.args.bucket c.reads-before.result
    c.requires.whole c.requires.bucket (sym c.is_lifted.ensures ∙ c.if-is_lifted.false) c.index_in.ensures (c.reads-before.ensures.count ∙ (λ i. count_by (used_at (c.get.ensures i)) (range_with_len 0 (length (c.get.ensures i).used)))) c.if-before-p.false c.show.ensures.plans
