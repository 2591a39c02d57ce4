use Rattle.std.proofs.lemmas.Result.{err_from_is_err_and}
use Rattle.ob_report.proofs.Gathering.{whole_of, printed, refused}
use Rattle.ob_report.proofs.summary.drill_lines.Goals as goal

pub returns-in_err-put_summary : goal.returns-in_err-put_summary
returns-in_err-put_summary g c =
    let exit = err_from_is_err_and c.from_residual.result c.from_residual.ensures.1 in
    refused _ _ _ _ _ _ exit.0 c.from_residual.result (rw c.new-page.ensures at c.in_err-put_summary.ensures) exit.1

pub returns : goal.returns
returns g c =
    let gathered = rw c.new-page.ensures at c.in_ok-put_summary.ensures in
    printed _ _ _ _ _ _ _ _ (whole_of _ _ _ tt gathered) c.hand_over.ensures.gathers c.hand_over.ensures.empty
