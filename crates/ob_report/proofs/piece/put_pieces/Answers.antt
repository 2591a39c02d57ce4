use Rattle.std.proofs.lemmas.Result.{err_from_is_err_and}
use Rattle.ob_report.specs.Pieces.{piece_text}
use Rattle.ob_report.proofs.Gathering.{nothing, more, stopped, finished}
use Rattle.ob_report.proofs.piece.put_pieces.Goals as goal

pub returns-in_err-put_piece : goal.returns-in_err-put_piece
returns-in_err-put_piece g c =
    let p = err_from_is_err_and c.from_residual.result c.from_residual.ensures.1 in
    stopped piece_text c.args.pieces.now c.loop-piece.piece-index _ c.loop-piece-test.true _ _ _ p.0 c.from_residual.result c.loop-piece.invariant c.in_err-put_piece.ensures p.1

pub loop-piece-preserved : goal.loop-piece-preserved
loop-piece-preserved g c = more piece_text c.args.pieces.now c.loop-piece.piece-index _ c.loop-piece-test.true _ _ _ tt c.loop-piece.invariant c.in_ok-put_piece.ensures

pub loop-piece-init : goal.loop-piece-init
loop-piece-init g c = nothing _ _ _

pub returns : goal.returns
returns g c = finished piece_text c.args.pieces.now c.loop-piece.piece-index c.loop-piece-test.false _ _ tt c.loop-piece.invariant
