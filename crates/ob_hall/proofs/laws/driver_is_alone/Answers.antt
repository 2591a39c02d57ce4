use Rattle.ob_hall.proofs.Histories.{driver_alone}
use Rattle.ob_hall.proofs.laws.driver_is_alone.Goals as goal

pub returns : goal.returns
returns c = λ opened d history new led. driver_alone opened history d led
