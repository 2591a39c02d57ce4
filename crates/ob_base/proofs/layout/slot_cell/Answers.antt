use Rattle.ob_base.specs.Layout.{AtSlot}
use Rattle.ob_base.proofs.LayoutLaws.{cell_within}
use Rattle.ob_base.proofs.layout.slot_cell.Goals as goal

pub returns-clause-within : goal.returns-clause-within
returns-clause-within c = rw (c.log_cells.ensures.cells, c.checkpoint_cells.ensures.cells, c.home_cells.ensures.cells, c.width.ensures.slots)
    (cell_within c.args.p.now (AtSlot c.args.home c.args.bucket c.args.slot) (c.requires.home, c.requires.bucket, c.requires.slot))
