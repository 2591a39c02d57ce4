use Rattle.std.proofs.Common.{sym, ◌∙◌}
use Rattle.ob_queue.proofs.Given.{get_value}
use Rattle.ob_queue.proofs.bases.value_of.Goals as goal

pub returns : goal.returns
returns c = c.copied.ensures ∙ c.get.ensures.value ∙ sym (get_value c.args.bases.now.entries c.args.key)
