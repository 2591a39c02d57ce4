use Rattle.std.proofs.Common.{◌∙◌}
use Rattle.ob_cells.proofs.PieceParts.{filled_so}
use Rattle.ob_cells.proofs.pieces.filled.Goals as goal

pub returns : goal.returns
returns c = c.put.ensures ∙ filled_so c.args.bytes.now _ c.min-few.ensures
