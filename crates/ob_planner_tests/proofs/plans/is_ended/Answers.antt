use Rattle.std.proofs.Common.{◌≡◌, sym, subst}
use Rattle.ob_base.specs.declared.params.Params.{Params}
use Rattle.ob_base.specs.Planned.{most_jobs}
use Rattle.ob_planner_tests.proofs.plans.is_ended.Goals as goal

pub plan_lifts-requires : goal.plan_lifts-requires
plan_lifts-requires c = record { jobs = subst (λ (q : Params). (c.args.jobs.now.room ≡ most_jobs q) × (c.args.jobs.now.place_room ≡ q.places)) (sym c.requires.params) c.requires.rooms }
