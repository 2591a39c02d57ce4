use Rattle.ob_recover.proofs.FreshLaws.{lives_are_fresh}
use Rattle.ob_recover.proofs.lives.lives_are_fresh.Goals as goal

pub returns : goal.returns
returns c = lives_are_fresh
