use Rattle.std.proofs.Common.{◌++◌}
use Rattle.ob_io.proofs.Pieces.{prepended-of}
use Rattle.ob_io.proofs.copy.read_all.Goals as goal

pub returns-in_err-read_part-clause-front : goal.returns-in_err-read_part-clause-front
returns-in_err-read_part-clause-front g c =
    let front = c.in_err-read_part.ensures.front in
    (c.loop-bytes.bytes.items ++ front.0, prepended-of _ _ _ _ _ c.loop-bytes.invariant.left front.1)
