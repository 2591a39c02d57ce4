use Rattle.std.proofs.Common.{List, Option, length, refl, sym, ap, ◌∙◌, arith}
use Rattle.ob_lanes.specs.declared.hand.Hand.{Hand}
use Rattle.ob_lanes.specs.Rounds.{hands_in}
use Rattle.ob_lanes.proofs.Gathering.{none_reached}
use Rattle.ob_lanes.proofs.job_reading.open_round.Goals as goal

-- the counter was set to 0, so that the round fits
pub unreachable-requires : goal.unreachable-requires
unreachable-requires g c =
    let known = c.open.ensures.claimed_once in
    let reached = none_reached c.open.new.seat.me.0.claimed c.open.new.seat.me.0.reached (known.claimed ∙ (λ i. (c.clear.ensures.cleared i).claimed)) known.once in
    let past = c.in-Err.ensures.worn in
    let few = c.requires.few in
    let small = c.requires.ready.small in
    let seats = c.requires.ready.seats in
    absurd (omega (arith, reached, past, few, small, seats))

pub returns-clause-lent : goal.returns-clause-lent
returns-clause-lent g c =
    let known = c.open.ensures.claimed_once in
    let reached = none_reached c.open.new.seat.me.0.claimed c.open.new.seat.me.0.reached (known.claimed ∙ (λ i. (c.clear.ensures.cleared i).claimed)) known.once in
    let start = c.in-Ok.ensures.opened.start in
    record {
      claims = refl;
      start = start ∙ reached;
      own = c.open.ensures.own;
      come = omega (arith, start, reached);
      unclaimed = known.claimed ∙ (λ i. (c.clear.ensures.cleared i).claimed);
      there = (let none = c.requires.ready.none in ap (λ (ps : List (Option (Hand g.row.L.Denot))). length (hands_in ps)) none ∙ sym (ap length none));
      seats = refl;
      many = refl;
      slots = refl;
      hands_room = refl;
      parts_room = refl;
      each_room = λ room fits. fits;
    }
