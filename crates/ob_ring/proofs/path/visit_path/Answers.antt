use Rattle.std.proofs.Common.{ℕ, arith, subst}
use Rattle.std.specs.Prelude.{◌≡◌, ◌+◌, ◌*◌}
use Rattle.ob_ring.specs.FlatTable.{visit, visits}
use Rattle.ob_ring.specs.Picked.{Plans, spot_at, visit_picked, visits_picked}
use Rattle.ob_ring.proofs.PathLaws.{path_to, visits_more, grows_then, product_more}
use Rattle.ob_ring.proofs.path.visit_path.Goals as goal

pub loop-level-preserved : goal.loop-level-preserved
loop-level-preserved c = (
  grows_then (c.loop-level.level * (c.args.p.now.real + 1)) (c.args.p.now.real + 1) ((c.loop-level.level + 1) * (c.args.p.now.real + 1)) c.args.jobs.now c.loop-level.jobs c.visit.new.jobs (omega (arith, product_more c.loop-level.level (c.args.p.now.real + 1)))
      c.loop-level.invariant.0 c.visit.ensures.grows,
  visits_more c.args.p.now c.args.metas.now c.loop-level.metas c.visit.new.metas c.args.jobs.now c.loop-level.jobs c.visit.new.jobs c.args.ask (spot_at c.args.found) c.args.leaf c.loop-level.level c.loop-level.invariant.1
      (subst (λ (u : ℕ). Plans c.args.p.now c.loop-level.metas c.visit.new.metas c.loop-level.jobs c.visit.new.jobs (λ t. visit_picked c.args.p.now t c.args.ask (spot_at c.args.found) u) (λ t. visit c.args.p.now t (spot_at c.args.found) u)) c.bucket_of.ensures.bucket c.visit.ensures.plans),
)

pub returns-clause-plans : goal.returns-clause-plans
returns-clause-plans c =
    let end' : c.loop-level.level ≡ c.args.p.now.levels + 1 = omega arith in
    subst (λ (n : ℕ). Plans c.args.p.now c.args.metas.now c.loop-level.metas c.args.jobs.now c.loop-level.jobs (λ t. visits_picked c.args.p.now t c.args.ask (spot_at c.args.found) (path_to c.args.p.now c.args.leaf n))
    (λ t. visits c.args.p.now t (spot_at c.args.found) (path_to c.args.p.now c.args.leaf n))) end' c.loop-level.invariant.1
