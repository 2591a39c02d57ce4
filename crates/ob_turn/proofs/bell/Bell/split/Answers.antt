use Rattle.std.proofs.Common.{arith}
use Rattle.ob_turn.proofs.BellSteps.{splits}
use Rattle.ob_turn.proofs.bell.Bell.split.Goals as goal

pub split_seat-requires : goal.split_seat-requires
split_seat-requires c = (c.requires.own.table, omega (arith, c.args.self.now.one.0), splits _ _ _ _ c.requires.parts)
