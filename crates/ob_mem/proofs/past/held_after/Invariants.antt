use Rattle.std.proofs.Common.{◌≡◌, take}
use Rattle.ob_mem.specs.Replay.{replay, sure}
use Rattle.ob_mem.proofs.past.held_after.Given as goal

abbrev pub invariant-loop-call : goal.invariant-loop-call
invariant-loop-call l = record {
  cells : l.held.cells.items ≡ (replay (take l.call-index l.calls) (sure l.first)).cells;
  unsure : l.held.unsure.items ≡ (replay (take l.call-index l.calls) (sure l.first)).unsure;
}
