use Rattle.std.proofs.Common.{arith}
use Rattle.ob_turn.proofs.BellSteps.{joins}
use Rattle.ob_turn.proofs.bell.Bell.join.Goals as goal

pub join_seat-requires : goal.join_seat-requires
join_seat-requires c = (c.requires.own.0.table, c.requires.own.1.table, c.requires.own.1.empty, omega (arith, c.args.self.now.one.0), joins _ _ _ _ _ _)
