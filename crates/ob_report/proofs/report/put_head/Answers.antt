use Rattle.std.proofs.Common.{append_assoc, ◌++◌, decimal}
use Rattle.std.proofs.lemmas.List.{append-nil}
use Rattle.std.proofs.lemmas.Result.{err_from_is_err_and}
use Rattle.ob_report.specs.Report.{outcome_text, line_end}
use Rattle.ob_report.proofs.Gathering.{whole_of, then_as, cut_as}
use Rattle.ob_report.proofs.report.put_head.Goals as goal

pub returns-in_err-put_pieces : goal.returns-in_err-put_pieces
returns-in_err-put_pieces g c =
    let p = err_from_is_err_and c.from_residual.result c.from_residual.ensures.1 in
    cut_as _ _ (outcome_text decimal c.args.txn.now.outcome ++ line_end) _ _ p.0 c.from_residual.result c.in_err-put_pieces.ensures p.1 (simp (append_assoc, append-nil, c.from.ensures))

pub returns : goal.returns
returns g c = then_as _ _ _ _ _ _ _ (whole_of _ _ _ tt c.in_ok-put_pieces.ensures) c.put_outcome.ensures (simp (append_assoc, append-nil, c.from.ensures))
