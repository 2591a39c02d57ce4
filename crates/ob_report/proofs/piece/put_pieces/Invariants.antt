use Rattle.std.proofs.Common.{take}
use Rattle.ob_report.specs.Pieces.{pieces_text}
use Rattle.ob_report.specs.Gathered.{gathered}
use Rattle.ob_report.proofs.Gathering.{IsWhole}
use Rattle.ob_report.proofs.piece.put_pieces.Given as goal

abbrev pub invariant-loop-piece : goal.invariant-loop-piece
invariant-loop-piece g l = IsWhole (pieces_text (take l.piece-index l.pieces)) (gathered g.S.Sink l.fn.sink l.fn.page.items) (gathered g.S.Sink l.sink l.page.items)
