use Rattle.std.proofs.Common.{◌≡◌, ◌<◌, ◌≤◌, ℕ, length}
use Rattle.ob_lanes.specs.Hands.{hand_at}
use Rattle.ob_mirror.specs.Reading.{IsParted, TellLanes, lane_at}
use Rattle.ob_mirror.proofs.places.part_all.Given as goal

abbrev pub invariant-loop-i : goal.invariant-loop-i
invariant-loop-i g l = record {
  many : length l.hands ≡ length l.initial.hands;
  many_firsts : length l.firsts ≡ length l.initial.firsts;
  many_seconds : length l.seconds ≡ length l.initial.seconds;
  parted : (j : ℕ) → j < l.i → IsParted (hand_at l.initial.hands j) (hand_at l.firsts j) (lane_at l.seconds j);
  told : (j : ℕ) → j < l.i → TellLanes g.A.Store.lane_seen g.A.Store.lane_faults g.B.Store.lane_seen (hand_at l.firsts j) (lane_at l.seconds j);
  left : (j : ℕ) → l.i ≤ j → hand_at l.hands j ≡ hand_at l.initial.hands j;
}
