use Rattle.std.proofs.Common.{arith}
use Rattle.ob_turn.proofs.BellSteps.{looks}
use Rattle.ob_turn.proofs.bell.Bell.durable.Goals as goal

pub load-requires : goal.load-requires
load-requires c = (c.requires.own.table, omega (arith, c.args.self.now.one.0), looks _ _ _ _ _)
