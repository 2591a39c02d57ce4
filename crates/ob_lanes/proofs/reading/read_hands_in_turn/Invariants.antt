use Rattle.std.proofs.Common.{◌≡◌, ◌<◌, ◌≤◌, ℕ, length}
use Rattle.ob_lanes.specs.Hands.{IsPlaceRead, hand_at}
use Rattle.ob_lanes.proofs.reading.read_hands_in_turn.Given as goal

abbrev pub invariant-loop-i : goal.invariant-loop-i
invariant-loop-i g l = record {
  many : length l.hands ≡ length l.initial.hands;
  each : (j : ℕ) → j < l.i → IsPlaceRead (g.S.Store.disk l.store) g.S.Store.lane_seen g.S.Store.lane_faults l.claims l.round l.asked (hand_at l.initial.hands j) (hand_at l.hands j);
  left : (j : ℕ) → l.i ≤ j → hand_at l.hands j ≡ hand_at l.initial.hands j;
}
