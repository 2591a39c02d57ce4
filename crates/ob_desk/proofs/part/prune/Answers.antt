use Rattle.std.proofs.Common.{rules}
use Rattle.std.proofs.lemmas.Fn.{filter_same}
use Rattle.ob_order.specs.Works as works
use Rattle.ob_desk.proofs.part.prune.Goals as goal

pub returns : goal.returns
returns c = filter_same _ (works.goes_on c.args.order.now.state.works) _ (λ x b f k. search rules) _ _ c.retain.ensures.filtered
