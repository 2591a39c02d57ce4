use Rattle.std.proofs.Common.{◌∙◌, sym}
use Rattle.ob_ring.proofs.LiftLaws.{lifted_now}
use Rattle.ob_ring.proofs.lifts.lift_standing.Goals as goal

pub returns-then-not-is_lifted-clause-plans : goal.returns-then-not-is_lifted-clause-plans
returns-then-not-is_lifted-clause-plans c =
    lifted_now c.args.p.now c.args.metas.now c.lift.new.metas c.args.jobs.now c.lift.new.jobs c.args.bucket (sym c.is_lifted.ensures ∙ c.if-not-is_lifted.true) c.lift.ensures.plans
