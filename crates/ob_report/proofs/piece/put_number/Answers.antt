use Rattle.std.proofs.Common.{append_assoc}
use Rattle.std.proofs.lemmas.List.{append-nil}
use Rattle.ob_report.proofs.piece.put_number.Goals as goal

pub returns : goal.returns
returns g c = simp append_assoc (simp (append-nil) at c.put_pieces.ensures)
