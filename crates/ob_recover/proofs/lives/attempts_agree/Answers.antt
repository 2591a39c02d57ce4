use Rattle.ob_recover.proofs.FreshLaws.{attempts_agree}
use Rattle.ob_recover.proofs.lives.attempts_agree.Goals as goal

pub returns : goal.returns
returns c = attempts_agree
