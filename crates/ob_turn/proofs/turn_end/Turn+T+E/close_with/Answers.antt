use Rattle.std.proofs.Common.{◌≡◌, ap, arith, []}
use Rattle.std.proofs.lemmas.List.Elements.{All-cons, All-nil}
use Rattle.ob_turn.specs.History.{TellsSeats}
use Rattle.ob_turn.specs.TurnRule.{value_in}
use Rattle.ob_turn.specs.TurnCalls.{TurnSeat}
use Rattle.ob_turn.proofs.Joining.{comes_out, never_empty}
use Rattle.ob_turn.proofs.turn_end.Turn+T+E.close_with.Goals as goal

pub returns-in-Rests : goal.returns-in-Rests
returns-in-Rests g c =
    let v = c.close_with-closed.ensures.values in
    let parts : c.args.seat.me.0.parts ≡ c.args.self.table.shared.key.seats = let p = c.requires.all.parts in omega (arith, p) in
    let w = comes_out _ _ _ _ _ _ _ _ _ parts c.requires.idle.stage v.2 _ _ c.take-slot.ensures.value (ap value_in c.in-Rests.is) in record {
      whole = record { log = w.0; told = All-cons (λ (s : TurnSeat g.row.T.Denot g.row.E.Denot). TellsSeats g.T.Stepped.steps w.0 c.in-Rests.value s.me.0) c.args.seat [] w.1 (All-nil _); no_others = w.2 };
    }

pub returns-in-Leaves : goal.returns-in-Leaves
returns-in-Leaves g c =
    let v = c.close_with-closed.ensures.values in
    let parts : c.args.seat.me.0.parts ≡ c.args.self.table.shared.key.seats = let p = c.requires.all.parts in omega (arith, p) in
    let w = comes_out _ _ _ _ _ _ _ _ _ parts c.requires.idle.stage v.2 _ _ c.take-slot.ensures.value (ap value_in c.in-Leaves.is) in record {
      whole = record { log = w.0; told = All-cons (λ (s : TurnSeat g.row.T.Denot g.row.E.Denot). TellsSeats g.T.Stepped.steps w.0 c.in-Leaves.value s.me.0) c.args.seat [] w.1 (All-nil _); no_others = w.2 };
    }

pub unreachable-requires : goal.unreachable-requires
unreachable-requires g c =
    let v = c.close_with-closed.ensures.values in
    let parts : c.args.seat.me.0.parts ≡ c.args.self.table.shared.key.seats = let p = c.requires.all.parts in omega (arith, p) in
    never_empty _ _ _ _ _ _ _ _ _ parts c.requires.idle.stage v.2 _ c.take-slot.ensures.value (ap value_in c.in-Noted.is)

pub unreachable-requires-in-Out : goal.unreachable-requires-in-Out
unreachable-requires-in-Out g c =
    let v = c.close_with-closed.ensures.values in
    let parts : c.args.seat.me.0.parts ≡ c.args.self.table.shared.key.seats = let p = c.requires.all.parts in omega (arith, p) in
    never_empty _ _ _ _ _ _ _ _ _ parts c.requires.idle.stage v.2 _ c.take-slot.ensures.value (ap value_in c.in-Out.is)
