use Rattle.std.specs.Prelude.{codes}
use Rattle.std.specs.Fmt.{decimal}
use Rattle.ob_report.proofs.Gathering.{same_text}
use Rattle.ob_report.proofs.Summing.{four_lines}
use Rattle.ob_report.proofs.summary.put_counts.Goals as goal

pub returns : goal.returns
returns g c =
    let s = c.args.of.now in
    same_text _ _ _ _ _ (four_lines (codes "drill ") (decimal s.count) (codes "epochs ") (decimal s.epochs) (codes "committed ") (decimal s.committed) (codes "keys ") (decimal s.keys)) c.put_pieces.ensures
