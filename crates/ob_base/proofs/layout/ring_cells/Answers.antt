use Rattle.std.proofs.Common.{arith}
use Rattle.ob_base.proofs.Bounds.{cells_le}
use Rattle.ob_base.proofs.layout.ring_cells.Goals as goal

pub returns-clause-few : goal.returns-clause-few
returns-clause-few c = omega (arith, cells_le c.args.p.now)
