use Rattle.std.proofs.Common.{◌∙◌}
use Rattle.ob_wants.specs.Shown.{standing_of}
use Rattle.ob_wants.proofs.Pushed.{same_notes}
use Rattle.ob_wants.proofs.Within.{all_marked}
use Rattle.ob_wants.proofs.wants.push_writes_anew.Goals as goal

pub returns : goal.returns
returns c = same_notes c.push_levels.result _ c.args.wants.now _ _ (all_marked c.args.p.now (standing_of c.args.standing.now) c.args.leaves.now _ (c.deref.ensures.value ∙ c.in_ok-lifted.ensures)) c.push_levels.ensures
