use Rattle.std.proofs.Common.{◌*◌, length, arith, ap, sym, ◌∙◌}
use Rattle.std.proofs.lemmas.List.{length-take-le}
use Rattle.ob_base.proofs.Bounds.{record_cells_le}
use Rattle.ob_log.proofs.opening.read_body.Goals as goal

pub slice_bounds-read_into-end : goal.slice_bounds-read_into-end
slice_bounds-read_into-end c = omega (arith, c.requires.body, c.requires.room, record_cells_le c.args.p.now)

pub slice_bounds-read_into-end-2 : goal.slice_bounds-read_into-end-2
slice_bounds-read_into-end-2 c = sym (length-take-le (96 * length c.args.cells.now) c.args.room.now (omega (arith, c.requires.body, c.requires.room, record_cells_le c.args.p.now)))

pub read_into-requires-clause-room : goal.read_into-requires-clause-room
read_into-requires-clause-room c =
    length-take-le (96 * length c.args.cells.now) c.args.room.now (omega (arith, c.requires.body, c.requires.room, record_cells_le c.args.p.now)) ∙ ap (λ n. 96 * n) c.requires.body
