use Rattle.std.specs.Prelude.{◌++◌, codes}
use Rattle.std.specs.Fmt.{decimal}
use Rattle.std.proofs.Common.{append_assoc, sym}
use Rattle.std.proofs.lemmas.Result.{err_from_is_err_and}
use Rattle.ob_report.specs.Report.{line_end}
use Rattle.ob_report.proofs.Gathering.{whole_of, printed, refused, same_print}
use Rattle.ob_report.proofs.size.size_text.Goals as goal

pub returns-in_err-put_number : goal.returns-in_err-put_number
returns-in_err-put_number g c =
    let exit = err_from_is_err_and c.from_residual.result c.from_residual.ensures.1 in
    same_print _ _ _ _ _ (sym (append_assoc (codes "store of " ++ decimal c.args.cells) (codes " cells") line_end))
    (refused _ _ _ _ _ _ exit.0 c.from_residual.result (rw c.new-page.ensures at c.in_err-put_number.ensures) exit.1)

pub returns : goal.returns
returns g c =
    let gathered = rw c.new-page.ensures at c.in_ok-put_number.ensures in
    same_print _ _ _ _ _ (sym (append_assoc (codes "store of " ++ decimal c.args.cells) (codes " cells") line_end))
    (printed _ _ _ _ _ _ _ _ (whole_of _ _ _ tt gathered) c.hand_over.ensures.gathers c.hand_over.ensures.empty)
