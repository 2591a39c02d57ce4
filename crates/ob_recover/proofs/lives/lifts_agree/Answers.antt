use Rattle.ob_recover.proofs.FreshLaws.{lifts_agree}
use Rattle.ob_recover.proofs.lives.lifts_agree.Goals as goal

pub returns : goal.returns
returns c = lifts_agree
