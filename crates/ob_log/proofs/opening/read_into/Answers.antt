use Rattle.std.proofs.Common.{arith}
use Rattle.ob_base.proofs.Bounds.{record_cells_le}
use Rattle.ob_log.proofs.OnceLaws.{some_cell, cells_hold}
use Rattle.ob_log.proofs.opening.read_into.Goals as goal

pub open_sealed-requires-clause-some : goal.open_sealed-requires-clause-some
open_sealed-requires-clause-some c = omega (arith, c.requires.body, some_cell c.args.p.now)

pub open_sealed-requires-clause-fits : goal.open_sealed-requires-clause-fits
open_sealed-requires-clause-fits c = omega (arith, c.requires.body, c.requires.fits, record_cells_le c.args.p.now)

pub read_plain-requires-clause-room : goal.read_plain-requires-clause-room
read_plain-requires-clause-room c = omega (arith, cells_hold c.args.p.now, c.requires.room, c.open_sealed.auto.plain)
