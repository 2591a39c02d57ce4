use Rattle.ob_hall.proofs.Histories.{history_leads}
use Rattle.ob_hall.proofs.laws.history_is_one_chain.Goals as goal

pub returns : goal.returns
returns c = λ opened d history new led. history_leads opened history d led
