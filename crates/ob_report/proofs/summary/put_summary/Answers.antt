use Rattle.std.proofs.Common.{append_assoc}
use Rattle.std.specs.Prelude.{◌++◌, codes}
use Rattle.std.proofs.lemmas.List.{append-nil}
use Rattle.std.proofs.lemmas.Result.{err_from_is_err_and}
use Rattle.hex.specs.Hex.{encode_lower}
use Rattle.ob_report.specs.Report.{line_end}
use Rattle.ob_report.proofs.Gathering.{whole_of, then, cut}
use Rattle.ob_report.proofs.summary.put_summary.Goals as goal

pub returns-in_err-put_counts : goal.returns-in_err-put_counts
returns-in_err-put_counts g c =
    let p = err_from_is_err_and c.from_residual.result c.from_residual.ensures.1 in
    cut _ (codes "map " ++ encode_lower c.args.of.now.map ++ line_end) _ _ p.0 c.from_residual.result c.in_err-put_counts.ensures p.1

pub returns : goal.returns
returns g c = then _ (codes "map " ++ encode_lower c.args.of.now.map ++ line_end) _ _ _ _ (whole_of _ _ _ tt c.in_ok-put_counts.ensures) (simp append_assoc (simp (append-nil, c.digits_of-digits.ensures) at c.put_pieces.ensures))
