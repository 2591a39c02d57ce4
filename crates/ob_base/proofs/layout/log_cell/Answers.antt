use Rattle.ob_base.specs.Layout.{AtLog}
use Rattle.ob_base.proofs.LayoutLaws.{cell_within}
use Rattle.ob_base.proofs.layout.log_cell.Goals as goal

pub returns-clause-within : goal.returns-clause-within
returns-clause-within c = rw (c.log_cells.ensures.cells, c.record_cells.ensures.cells) (cell_within c.args.p.now (AtLog c.args.area c.args.batch c.args.part) (c.requires.area, c.requires.batch, c.requires.part))
