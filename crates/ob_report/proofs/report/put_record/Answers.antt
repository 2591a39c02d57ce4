use Rattle.std.proofs.Common.{append_assoc, decimal, map}
use Rattle.std.specs.Prelude.{flat_map}
use Rattle.std.proofs.lemmas.List.{append-nil}
use Rattle.std.proofs.lemmas.Result.{err_from_is_err_and}
use Rattle.ob_serial.specs.Views.{txn_of}
use Rattle.ob_report.specs.Report.{txn_text}
use Rattle.ob_report.proofs.Gathering.{whole_of, then_as, cut_as}
use Rattle.ob_report.proofs.report.put_record.Goals as goal

pub returns-in_err-put_number : goal.returns-in_err-put_number
returns-in_err-put_number g c =
    let p = err_from_is_err_and c.from_residual.result c.from_residual.ensures.1 in
    cut_as _ _ (flat_map (txn_text decimal) (map (λ t. txn_of t) c.args.record.now.txns.items)) _ _ p.0 c.from_residual.result c.in_err-put_number.ensures p.1 (simp (append_assoc, append-nil))

pub returns : goal.returns
returns g c = then_as _ _ _ _ _ _ _ (whole_of _ _ _ tt c.in_ok-put_number.ensures) (rw c.deref.ensures.value at c.put_txns.ensures) (simp (append_assoc, append-nil))
