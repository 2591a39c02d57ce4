use Rattle.std.proofs.Common.{arith}
use Rattle.ob_turn.proofs.Joining.{joins}
use Rattle.ob_turn.proofs.turn_calls.Turn+T+E.join.Goals as goal

pub join_seat-requires : goal.join_seat-requires
join_seat-requires g c = let own = c.requires.own in let p = c.requires.idle.0 in let q = c.requires.idle.1 in
    (own.0, own.1, q.empty, omega (arith, c.args.self.now.sized.0), joins _ _ _ _ _ _ _ _ _ p.stage q.stage p.some_part q.some_part)
