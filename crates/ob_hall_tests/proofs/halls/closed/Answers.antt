use Rattle.ob_hall_tests.proofs.Passes.{all_own, all_idle, are_all, none_closed}
use Rattle.ob_hall_tests.proofs.halls.closed.Goals as goal

pub close-requires-clause-own : goal.close-requires-clause-own
close-requires-clause-own c = all_own c.args.hall c.args.passes.items c.requires

pub close-requires-clause-idle : goal.close-requires-clause-idle
close-requires-clause-idle c = all_idle c.args.hall c.args.passes.items c.requires

pub close-requires-clause-all : goal.close-requires-clause-all
close-requires-clause-all c = are_all c.args.hall c.args.passes.items c.requires

pub look-requires : goal.look-requires
look-requires c = none_closed c.args.hall c.args.passes.items c.close.result c.close.ensures.whole c.requires
