use Rattle.ob_recover.proofs.Living as laws
use Rattle.ob_recover.proofs.schedule.lives_show_fills.Goals as goal

pub returns : goal.returns
returns c = laws.lives_show_fills
