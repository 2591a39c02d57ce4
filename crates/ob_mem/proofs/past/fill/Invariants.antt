use Rattle.std.proofs.Common.{◌≡◌, take, length}
use Rattle.ob_mem.specs.Replay.{IsLeft, MayLeave, cell_of}
use Rattle.ob_mem.proofs.past.fill.Given as goal

abbrev pub invariant-loop-cell : goal.invariant-loop-cell
invariant-loop-cell l = record {
  size : length l.cells.items ≡ length l.fn.cells.items;
  left : IsLeft (record { cells = l.fn.cells.items; unsure = l.unsure }) (take l.cell-index l.fillings) (cell_of l.cells.items);
  possible : MayLeave (record { cells = l.fn.cells.items; unsure = l.unsure }) (cell_of l.cells.items);
}
