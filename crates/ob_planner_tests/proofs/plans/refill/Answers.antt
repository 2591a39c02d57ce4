use Rattle.std.proofs.Common.{◌∙◌, ap, replicate, sym}
use Rattle.ob_base.specs.Tree.{buckets}
use Rattle.ob_base.specs.declared.params.Params.{Params}
use Rattle.ob_planner_tests.proofs.plans.refill.Goals as goal

pub refill_indexed-requires-clause-index : goal.refill_indexed-requires-clause-index
refill_indexed-requires-clause-index g c = c.requires.index ∙ ap (λ (q : Params). replicate (buckets q) 0) (sym c.requires.params)
