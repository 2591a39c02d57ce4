use Rattle.std.proofs.Common.{ℕ, [], ◌∷◌, arith, subst}
use Rattle.std.specs.Prelude.{◌≡◌, ◌+◌, ◌*◌}
use Rattle.ob_base.specs.Tree.{bucket_of}
use Rattle.ob_ring.specs.FlatTable.{after_final}
use Rattle.ob_ring.specs.Picked.{Plans, final_picked}
use Rattle.ob_ring.proofs.PathLaws.{path_to, path_more, grows_then, product_more}
use Rattle.ob_ring.proofs.LiftLaws.{finals_then}
use Rattle.ob_ring.proofs.lifts.lift_path.Goals as goal

pub loop-level-preserved : goal.loop-level-preserved
loop-level-preserved c = (
  grows_then (c.loop-level.level * c.args.p.now.real) c.args.p.now.real ((c.loop-level.level + 1) * c.args.p.now.real) c.args.jobs.now c.loop-level.jobs c.lift_standing.new.jobs (omega (arith, product_more c.loop-level.level c.args.p.now.real)) c.loop-level.invariant.0 c.lift_standing.ensures.grows,
  finals_then c.args.p.now c.args.metas.now c.loop-level.metas c.lift_standing.new.metas c.args.jobs.now c.loop-level.jobs c.lift_standing.new.jobs (path_to c.args.p.now c.args.leaf c.loop-level.level)
      (bucket_of c.args.p.now c.loop-level.level c.args.leaf ∷ []) (path_to c.args.p.now c.args.leaf (c.loop-level.level + 1))
      (path_more c.args.p.now c.args.leaf c.loop-level.level) c.loop-level.invariant.1
      (subst (λ (u : ℕ). Plans c.args.p.now c.loop-level.metas c.lift_standing.new.metas c.loop-level.jobs c.lift_standing.new.jobs (λ t. final_picked c.args.p.now t (u ∷ [])) (λ t. after_final c.args.p.now t (u ∷ []))) c.bucket_of.ensures.bucket c.lift_standing.ensures.plans),
)

pub returns-clause-plans : goal.returns-clause-plans
returns-clause-plans c =
    let end' : c.loop-level.level ≡ c.args.p.now.levels + 1 = omega arith in
    subst (λ (n : ℕ). Plans c.args.p.now c.args.metas.now c.loop-level.metas c.args.jobs.now c.loop-level.jobs (λ t. final_picked c.args.p.now t (path_to c.args.p.now c.args.leaf n)) (λ t. after_final c.args.p.now t (path_to c.args.p.now c.args.leaf n))) end' c.loop-level.invariant.1
