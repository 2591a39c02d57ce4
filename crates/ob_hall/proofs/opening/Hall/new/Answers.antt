use Rattle.std.proofs.Common.{◌≤◌, ◌∙◌, length, ap, arith}
use Rattle.ob_session.proofs.Rolls.{new_numbers}
use Rattle.ob_hall.specs.Turns.{client_numbers}
use Rattle.ob_hall.proofs.Seating.{few}
use Rattle.ob_hall.proofs.opening.Hall.new.Goals as goal

pub overflow_cast-callers : goal.overflow_cast-callers
overflow_cast-callers c = let low : length c.args.clients.now ≤ 64 = few c.args.clients.now c.requires.opens.3.rising c.requires.opens.3.named in omega (arith, low)

pub overflow_add-callers : goal.overflow_add-callers
overflow_add-callers c = let low : length c.args.clients.now ≤ 64 = few c.args.clients.now c.requires.opens.3.rising c.requires.opens.3.named in omega (arith, low)

pub seat_all-requires-clause-new : goal.seat_all-requires-clause-new
seat_all-requires-clause-new c =
    let o = c.requires.opens in (
      record { setup = o.0; epoch = o.1; left = o.2; clients = c.args.clients.now; opens = o.3; is = c.of-opened.ensures ∙ o.4 },
      ap client_numbers (c.of-opened.ensures ∙ o.4) ∙ new_numbers c.args.clients.now,
    )
