use Rattle.ob_recover.proofs.Pads as pads
use Rattle.ob_recover.proofs.lives.lives_go_on.Goals as goal

pub returns : goal.returns
returns c = pads.life_goes_on
