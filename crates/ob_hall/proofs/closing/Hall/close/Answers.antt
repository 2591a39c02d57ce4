use Rattle.std.proofs.Common.{rules}
use Rattle.ob_hall.specs.Passes.{IsPassOf, IsOutOfTurn}
use Rattle.ob_hall.proofs.Gathering.{begins, goes_on, last_item, has_ears, have_all, ends}
use Rattle.ob_hall.proofs.closing.Hall.close.Goals as goal

pub loop-other-init : goal.loop-other-init
loop-other-init c = begins c.args.self c.args.passes.items _ _ c.in-Some.ensures.items c.requires.own c.requires.idle

pub join-requires-clause-own : goal.join-requires-clause-own
join-requires-clause-own c =
    let i = c.loop-other.invariant in
    (i.seat_of, (last_item (IsPassOf c.args.self) c.loop-other.passes.items c.pop-in-loop-other.new.self.items c.in-Some-pop.other c.in-Some-pop.ensures.items i.own).seat)

pub join-requires-clause-idle : goal.join-requires-clause-idle
join-requires-clause-idle c =
    let i = c.loop-other.invariant in
    (i.idle, last_item IsOutOfTurn c.loop-other.passes.items c.pop-in-loop-other.new.self.items c.in-Some-pop.other c.in-Some-pop.ensures.items i.out)

pub join-requires-in-Some-pop : goal.join-requires-in-Some-pop
join-requires-in-Some-pop c =
    let i = c.loop-other.invariant in record {
      own = (i.ear_of, (last_item (IsPassOf c.args.self) c.loop-other.passes.items c.pop-in-loop-other.new.self.items c.in-Some-pop.other c.in-Some-pop.ensures.items i.own).ear.bell);
    }

pub loop-other-preserved : goal.loop-other-preserved
loop-other-preserved c =
    goes_on c.args.self c.args.passes.items c.loop-other.passes.items c.pop-in-loop-other.new.self.items c.in-Some-pop.other c.loop-other.seat c.join.new.seat c.loop-other.ear c.join-in-Some-pop.new.seat c.loop-other.invariant c.in-Some-pop.ensures.items
    c.join.ensures.joined c.join-in-Some-pop.ensures.joined

pub close_with-requires-clause-all : goal.close_with-requires-clause-all
close_with-requires-clause-all c = has_ears c.args.self c.args.passes.items c.loop-other.passes.items c.loop-other.seat c.loop-other.ear c.loop-other.invariant (search rules) c.requires.all.count

pub close_with-requires-2-clause-all : goal.close_with-requires-2-clause-all
close_with-requires-2-clause-all c = have_all c.args.self c.args.passes.items c.loop-other.passes.items c.loop-other.seat c.loop-other.ear c.loop-other.invariant (search rules) c.requires.all.count

pub returns : goal.returns
returns c = record {
  whole = ends c.args.self c.args.passes.items c.loop-other.passes.items c.loop-other.seat c.loop-other.ear c.close_with.result c.close_with-2.result c.loop-other.invariant (search rules) c.close_with.ensures.whole c.close_with-2.ensures.whole;
}
