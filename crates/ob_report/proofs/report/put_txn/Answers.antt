use Rattle.std.proofs.Common.{refl}
use Rattle.std.proofs.lemmas.Result.{err_from_is_err_and}
use Rattle.ob_report.proofs.Gathering.{whole_of, then_as, cut}
use Rattle.ob_report.proofs.report.put_txn.Goals as goal

pub returns-in_err-put_head : goal.returns-in_err-put_head
returns-in_err-put_head g c =
    let p = err_from_is_err_and c.from_residual.result c.from_residual.ensures.1 in
    cut _ _ _ _ p.0 c.from_residual.result c.in_err-put_head.ensures p.1

pub returns : goal.returns
returns g c = then_as _ _ _ _ _ _ _ (whole_of _ _ _ tt c.in_ok-put_head.ensures) (rw c.deref.ensures.value at c.put_ops.ensures) refl
