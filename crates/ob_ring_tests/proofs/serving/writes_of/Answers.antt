use Rattle.ob_ring_tests.proofs.ServingLaws.{fit_none}
use Rattle.ob_ring_tests.proofs.serving.writes_of.Goals as goal

pub loop-i-init : goal.loop-i-init
loop-i-init c = fit_none 4 c.args.keys c.requires
