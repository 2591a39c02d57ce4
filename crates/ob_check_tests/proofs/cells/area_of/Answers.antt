use Rattle.std.proofs.Common.{arith}
use Rattle.ob_base.proofs.Bounds.{cells_le, checkpoint_cells_le}
use Rattle.ob_check_tests.proofs.cells.area_of.Goals as goal

pub returns-clause-few : goal.returns-clause-few
returns-clause-few c = omega (arith, c.check_cell.ensures.within, cells_le c.args.p.now, checkpoint_cells_le c.args.p.now)

pub returns-clause-low : goal.returns-clause-low
returns-clause-low c = omega (arith, c.check_cell.ensures.within, cells_le c.args.p.now)
