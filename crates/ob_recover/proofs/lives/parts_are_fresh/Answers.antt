use Rattle.ob_recover.proofs.FreshLaws.{parts_are_fresh}
use Rattle.ob_recover.proofs.lives.parts_are_fresh.Goals as goal

pub returns : goal.returns
returns c = parts_are_fresh
