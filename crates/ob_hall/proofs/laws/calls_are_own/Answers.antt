use Rattle.std.proofs.Common.{refl}
use Rattle.ob_hall.specs.Turns.{client_numbers}
use Rattle.ob_hall.proofs.Histories.{said_own, client_alone}
use Rattle.ob_hall.proofs.Agreeing.{numbers_rise}
use Rattle.ob_hall.proofs.laws.calls_are_own.Goals as goal

pub returns : goal.returns
returns c = λ opened d history at number new led named. (
  said_own (client_numbers opened) number at opened history d (numbers_rise opened new) named refl led,
  client_alone (client_numbers opened) number at opened history d named refl led,
)
