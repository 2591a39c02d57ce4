use Rattle.std.proofs.Common.{◌≡◌, ◌<◌, ◌≤◌, ℕ, length}
use Rattle.ob_lanes.specs.Hands.{hand_at}
use Rattle.ob_mirror.specs.Reading.{IsPlaceMended, lane_at}
use Rattle.ob_mirror.proofs.places.join_all.Given as goal

abbrev pub invariant-loop-i : goal.invariant-loop-i
invariant-loop-i g l = record {
  many : length l.hands ≡ length l.initial.hands;
  many_firsts : length l.firsts ≡ length l.initial.firsts;
  many_seconds : length l.seconds ≡ length l.initial.seconds;
  joined : (j : ℕ) → j < l.i → IsPlaceMended l.asked (g.B.Store.disk l.store) g.B.Store.lane_seen g.B.Store.lane_faults (hand_at l.initial.firsts j) (lane_at l.initial.seconds j) (hand_at l.hands j);
  firsts : (j : ℕ) → l.i ≤ j → hand_at l.firsts j ≡ hand_at l.initial.firsts j;
  seconds : (j : ℕ) → l.i ≤ j → lane_at l.seconds j ≡ lane_at l.initial.seconds j;
}
