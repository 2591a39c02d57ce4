use Rattle.std.proofs.Common.{◌∙◌}
use Rattle.ob_mem.proofs.Fillings.{left_next, possible_next}
use Rattle.ob_mem.proofs.past.fill.Goals as goal

pub loop-cell-preserved : goal.loop-cell-preserved
loop-cell-preserved c =
    let so_far = c.loop-cell.invariant in
    let one = c.fill_one.ensures in
    record {
      size = one.size ∙ so_far.size;
      left = left_next (record { cells = c.args.cells.now.items; unsure = c.args.unsure.now }) c.args.fillings.now c.loop-cell.cell-index _ c.loop-cell.cells.items _ c.loop-cell-test.true so_far.size so_far.left one.cases;
      possible = possible_next (record { cells = c.args.cells.now.items; unsure = c.args.unsure.now }) c.args.fillings.now c.loop-cell.cell-index _ c.loop-cell.cells.items _ c.loop-cell-test.true so_far.size so_far.left one.cases one.whole so_far.possible;
    }
