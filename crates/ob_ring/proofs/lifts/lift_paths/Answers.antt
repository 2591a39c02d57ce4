use Rattle.std.proofs.Common.{ℕ, arith, ◌∙◌, subst}
use Rattle.std.specs.Prelude.{◌≡◌, ◌≤◌, ◌+◌, ◌*◌}
use Rattle.ob_base.specs.Tree.{path, reversed}
use Rattle.ob_base.specs.Planned.{most_jobs}
use Rattle.ob_ring.specs.FlatTable.{after_final}
use Rattle.ob_ring.specs.Picked.{Plans, final_picked}
use Rattle.ob_ring.proofs.Rooms.{lifts_room, lifts_most}
use Rattle.ob_ring.proofs.PathLaws.{grows_then, product_more}
use Rattle.ob_ring.proofs.LiftLaws.{finals_then, evicted_to, evicted_more}
use Rattle.ob_ring.proofs.lifts.lift_paths.Goals as goal

pub lift_path-requires-clause-room : goal.lift_path-requires-clause-room
lift_path-requires-clause-room c =
    let room : c.loop-i.jobs.room ≡ most_jobs c.args.p.now = c.loop-i.invariant.0.room ∙ c.requires.room in
    omega (arith, c.loop-i.invariant.0.few, c.requires.none, lifts_room c.args.p.now c.loop-i.i c.loop-i-test.true)

pub loop-i-preserved : goal.loop-i-preserved
loop-i-preserved c = (
  grows_then (c.loop-i.i * ((c.args.p.now.levels + 1) * c.args.p.now.real)) ((c.args.p.now.levels + 1) * c.args.p.now.real) ((c.loop-i.i + 1) * ((c.args.p.now.levels + 1) * c.args.p.now.real)) c.args.jobs.now c.loop-i.jobs c.lift_path.new.jobs
      (omega (arith, product_more c.loop-i.i ((c.args.p.now.levels + 1) * c.args.p.now.real))) c.loop-i.invariant.0 c.lift_path.ensures.grows,
  finals_then c.args.p.now c.args.metas.now c.loop-i.metas c.lift_path.new.metas c.args.jobs.now c.loop-i.jobs c.lift_path.new.jobs (evicted_to c.args.p.now c.args.counter c.loop-i.i)
      (path c.args.p.now (reversed c.args.p.now.levels (c.args.counter + c.loop-i.i))) (evicted_to c.args.p.now c.args.counter (c.loop-i.i + 1))
      (evicted_more c.args.p.now c.args.counter c.loop-i.i) c.loop-i.invariant.1
      (subst (λ (x : ℕ). Plans c.args.p.now c.loop-i.metas c.lift_path.new.metas c.loop-i.jobs c.lift_path.new.jobs (λ t. final_picked c.args.p.now t (path c.args.p.now x)) (λ t. after_final c.args.p.now t (path c.args.p.now x))) c.reverse.ensures.leaf c.lift_path.ensures.plans),
)

pub returns-clause-grows : goal.returns-clause-grows
returns-clause-grows c =
    let end' : c.loop-i.i ≡ c.args.p.now.evictions = omega arith in
    let most : c.loop-i.i * ((c.args.p.now.levels + 1) * c.args.p.now.real) ≤ most_jobs c.args.p.now = lifts_most c.args.p.now c.loop-i.i (omega arith) in
    record { few = omega (arith, c.loop-i.invariant.0.few); room = c.loop-i.invariant.0.room; places = c.loop-i.invariant.0.places; place_room = c.loop-i.invariant.0.place_room }

pub returns-clause-plans : goal.returns-clause-plans
returns-clause-plans c =
    let end' : c.loop-i.i ≡ c.args.p.now.evictions = omega arith in
    subst (λ (n : ℕ). Plans c.args.p.now c.args.metas.now c.loop-i.metas c.args.jobs.now c.loop-i.jobs (λ t. final_picked c.args.p.now t (evicted_to c.args.p.now c.args.counter n)) (λ t. after_final c.args.p.now t (evicted_to c.args.p.now c.args.counter n))) end' c.loop-i.invariant.1
