use Rattle.std.proofs.Common.{◌≡◌, length, take}
use Rattle.ob_lanes.proofs.Windows.{IsDrawing}
use Rattle.ob_lanes.proofs.window.claim_some.Given as goal

abbrev pub invariant-loop-i : goal.invariant-loop-i
invariant-loop-i l = record {
  drawing : IsDrawing l.claims l.round l.initial.seat l.seat (take l.i l.places);
  long : length l.places ≡ 8;
}
