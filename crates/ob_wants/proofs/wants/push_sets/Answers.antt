use Rattle.std.proofs.Common.{◌∙◌, ap, List, take, drop}
use Rattle.ob_schedule.specs.declared.want.Want.{Want}
use Rattle.ob_wants.proofs.Formats.{rest_taken}
use Rattle.ob_wants.proofs.Pushed.{all_told}
use Rattle.ob_wants.proofs.wants.push_sets.Goals as goal

pub returns-in-Open : goal.returns-in-Open
returns-in-Open c = rw c.in-Open.is (all_told c.push_all.result _ c.args.wants.now _ _ (λ p. c.set_wants-all.ensures p) c.push_all.ensures)

pub returns-in-Closed : goal.returns-in-Closed
returns-in-Closed c = rw c.in-Closed.is (all_told c.push_all-in-Closed.result _ c.args.wants.now _ _ (λ p. ap (λ (ws : List Want). take 4 (drop 2 ws)) (c.set_wants-all.ensures p) ∙ rest_taken p c.args.register c.args.side) c.push_all-in-Closed.ensures)
