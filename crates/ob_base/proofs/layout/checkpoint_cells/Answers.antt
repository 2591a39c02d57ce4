use Rattle.std.proofs.Common.{arith}
use Rattle.ob_base.specs.Layout.{checkpoint_cells}
use Rattle.ob_base.proofs.Bounds.{checkpoint_cells_le}
use Rattle.ob_base.proofs.layout.checkpoint_cells.Goals as goal

pub returns-clause-few : goal.returns-clause-few
unfolding checkpoint_cells
returns-clause-few c = rw (c.div_ceil.ensures, c.checkpoint_len.ensures.len) (omega (arith, checkpoint_cells_le c.args.p.now))
