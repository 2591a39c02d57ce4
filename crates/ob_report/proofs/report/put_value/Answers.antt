use Rattle.std.proofs.Common.{append_assoc}
use Rattle.std.proofs.lemmas.List.{append-nil}
use Rattle.ob_report.proofs.report.put_value.Goals as goal

pub returns : goal.returns
returns g c = simp append_assoc (simp (append-nil, c.from.ensures, c.as_slice.ensures.bytes) at c.put_pieces.ensures)
