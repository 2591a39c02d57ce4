use Rattle.std.proofs.Common.{◌-◌, get_or, length, refl}
use Rattle.ob_hall.proofs.Seating.{seating_goes_on, seating_ends}
use Rattle.ob_hall.proofs.opening.Hall.seat_all.Goals as goal

pub loop-k-preserved : goal.loop-k-preserved
loop-k-preserved c =
    seating_goes_on c.args.self.now c.args.clients.now c.loop-k.k c.loop-k.seats.items c.pop.new.self.items c.in-Some.seat c.loop-k.ear c.split.new.seat c.split.result (get_or c.args.clients.now (length c.args.clients.now - 1 - c.loop-k.k) 0)
    c.loop-k.passes.items c.insert.new.self.items c.requires.new.0 c.loop-k.invariant c.loop-k-test.true c.in-Some.ensures.items c.split.ensures.split refl c.in_ok-insert.ensures.items

pub returns : goal.returns
returns c = record {
  opened = seating_ends c.args.self.now c.args.clients.now c.loop-k.k c.loop-k.seats.items c.pop-2.new.self.items c.in-Some-pop.seat c.loop-k.ear c.loop-k.passes.items c.insert-2.new.self.items c.requires.new.0 c.loop-k.invariant c.loop-k-test.false c.requires.seats.told c.requires.new.1
      c.in-Some-pop.ensures.items c.in_ok-insert-2.ensures.items;
}
