use Rattle.std.proofs.Common.{◌≡◌, ◌≤◌, ◌+◌, [], length}
use Rattle.ob_store.specs.Images.{Same, Passes}
use Rattle.ob_store.specs.Calls.{GoesOn, Keeps, Notes}
use Rattle.ob_lanes.specs.Rounds.{AreLent, IsFreshHand, IsLentHand, hands_in}
use Rattle.ob_lanes.proofs.Each.{Each}
use Rattle.ob_lanes.proofs.round.make_hands.Given as goal

abbrev pub invariant-loop : goal.invariant-loop
invariant-loop g l =
    let disk = g.S.Store.disk in record {
      goes : GoesOn (disk l.initial.store) (disk l.store);
      keeps : Keeps (disk l.initial.store) (disk l.store);
      passes : Passes Same (disk l.initial.store) (disk l.store);
      seen : Notes [] (disk l.initial.store).seen (disk l.store).seen;
      out : (disk l.store).out ≤ (disk l.initial.store).out + length (hands_in l.readers.hands.items);
      fresh : Each (IsFreshHand g.S.Store.lane_seen g.S.Store.lane_faults (disk l.store).seen) (hands_in l.readers.hands.items);
      ready : Each (IsLentHand l.initial.readers.claims l.round) (hands_in l.readers.hands.items);
      lent : AreLent l.round l.initial.readers l.readers;
      count : length l.readers.hands.items ≡ l.counter;
    }
