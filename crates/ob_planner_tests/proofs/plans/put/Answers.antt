use Rattle.std.proofs.Common.{◌<◌, sym, subst}
use Rattle.ob_base.specs.declared.params.Params.{Params}
use Rattle.ob_planner_tests.proofs.Asks.{one_low}
use Rattle.ob_planner_tests.proofs.plans.put.Goals as goal

pub apply_writes-requires-clause-keys : goal.apply_writes-requires-clause-keys
apply_writes-requires-clause-keys c = one_low _ _ (subst (λ (q : Params). c.args.key < q.keys) (sym c.requires.params) (c.is_key.ensures c.if-is_key.true))
