use Rattle.std.proofs.Common.{take, ◌≡◌, ◌+◌, length, vec_capacity}
use Rattle.ob_lanes.specs.Windows.{AreOpened}
use Rattle.ob_lanes.proofs.window.open_cells.Given as goal

abbrev pub invariant-loop-i : goal.invariant-loop-i
invariant-loop-i l = record {
  opened : AreOpened l.asked l.fn.many l.places l.cells (take l.i l.places) l.initial.part.items l.part.items;
  room : vec_capacity l.part ≡ vec_capacity l.initial.part;
  many : length l.part.items ≡ length l.initial.part.items + l.i;
}
