use Rattle.std.proofs.Common.{arith}
use Rattle.ob_turn.proofs.Cuts.{splits}
use Rattle.ob_turn.proofs.turn_calls.Turn+T+E.cut.Goals as goal

pub split_seat-requires : goal.split_seat-requires
split_seat-requires g c = let m = c.requires.cuts in (c.requires.own, omega (arith, c.args.self.now.sized.0), splits _ _ _ _ _ _ _ m.0 m.1 m.2)
