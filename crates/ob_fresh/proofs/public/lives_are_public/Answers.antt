use Rattle.ob_fresh.proofs.Publics.{lives_are_public}
use Rattle.ob_fresh.proofs.public.lives_are_public.Goals as goal

pub returns : goal.returns
returns c = lives_are_public
