use Rattle.std.proofs.Common.{List, ℕ, ◌++◌, codes, decimal, sym, ap, append_assoc}
use Rattle.ob_report.specs.Report.{line_end}
use Rattle.ob_report.proofs.Gathering.{same_text}
use Rattle.ob_report.proofs.report.put_get.Goals as goal

pub returns-in-None : goal.returns-in-None
returns-in-None g c =
    let front = codes "get " ++ decimal c.args.key in
    rw c.in-None.is (same_text _ _ _ _ _ (sym (append_assoc front (codes " absent") line_end)) (rw c.from.ensures at c.put_number.ensures))

pub returns-in-Some : goal.returns-in-Some
returns-in-Some g c =
    let front = codes "get " ++ decimal c.args.key in
    rw c.in-Some.is (same_text _ _ _ _ _ (ap (λ (t : List ℕ). t ++ line_end) (append_assoc front (codes " = ") _)) c.put_value.ensures)
