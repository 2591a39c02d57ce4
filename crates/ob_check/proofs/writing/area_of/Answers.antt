use Rattle.std.proofs.Common.{arith}
use Rattle.ob_base.proofs.Bounds.{cells_le, checkpoint_cells_le}
use Rattle.ob_check.proofs.PlaceLaws.{some_cell}
use Rattle.ob_check.proofs.writing.area_of.Goals as goal

pub check_cell-requires-clause-i : goal.check_cell-requires-clause-i
check_cell-requires-clause-i c = some_cell c.args.p.now

pub returns-clause-few : goal.returns-clause-few
returns-clause-few c = omega (arith, c.check_cell.ensures.within, cells_le c.args.p.now, checkpoint_cells_le c.args.p.now)

pub returns-clause-low : goal.returns-clause-low
returns-clause-low c = omega (arith, c.check_cell.ensures.within, cells_le c.args.p.now)
