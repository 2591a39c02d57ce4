use Rattle.std.proofs.Common.{◌≡◌, ◌<◌, ◌≤◌, ◌++◌, ℕ, length, take}
use Rattle.ob_store.specs.Calls.{Notes}
use Rattle.ob_lanes.specs.Hands.{slot_places, reads_of, slot_at}
use Rattle.ob_mirror.specs.Reading.{IsMended, failed_in, with_refusals}
use Rattle.ob_mirror.proofs.places.read_again.Given as goal

abbrev pub invariant-loop-i : goal.invariant-loop-i
invariant-loop-i g l = record {
  many : length l.part ≡ length l.initial.part;
  mended : (j : ℕ) → j < l.i → IsMended l.asked (g.B.Store.disk l.store) (g.B.Store.lane_faults l.initial.second.lane) (g.B.Store.lane_faults l.second.lane) (slot_at l.initial.part j) (slot_at l.part j);
  left : (j : ℕ) → l.i ≤ j → slot_at l.part j ≡ slot_at l.initial.part j;
  reads : Notes (reads_of l.asked (slot_places (failed_in (take l.i l.initial.part)))) (g.B.Store.lane_seen l.initial.second.lane) (g.B.Store.lane_seen l.second.lane);
  later : g.B.Store.lane_faults l.initial.second.lane ≤ g.B.Store.lane_faults l.second.lane;
  failed : l.second.failed ≡ with_refusals (take l.i l.part) l.initial.second.failed;
  log : l.second.reads.events ≡ l.initial.second.reads.events ++ reads_of l.asked (slot_places (take l.i l.initial.part));
}
