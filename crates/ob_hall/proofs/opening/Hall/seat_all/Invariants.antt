use Rattle.ob_hall.proofs.Seating.{IsSeating}
use Rattle.ob_hall.proofs.opening.Hall.seat_all.Given as goal

abbrev pub invariant-loop-k : goal.invariant-loop-k
invariant-loop-k l = IsSeating l.fn.self l.fn.clients l.k l.seats.items l.ear l.passes.items
