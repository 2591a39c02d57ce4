use Rattle.std.proofs.Common.{refl}
use Rattle.ob_hall.proofs.Rounds.{history_moves}
use Rattle.ob_hall.proofs.laws.driver_knows_rounds.Goals as goal

pub returns : goal.returns
returns c = λ opened d history new led. history_moves opened.setup.params.batches opened history d refl led
